-- The entry table, which every call from the host passes, and every call through a field of struct type with what stands in
-- that field as its receiver.
-- In brackets stands the section of docs/SEMANTICS.md that a definition states, and with `note` the Wuffs document
-- wuffs/doc/note/NAME.md that it follows.
use Rattle.std.specs.Prelude.{ℕ, Bool, true, false, List, [], Option, None, Some, nat_eq, not, if◌then◌else◌, slice_get, unwrap_or}
use Rattle.wf_text.specs.StatusText.{category_of}
use Rattle.wf_text.specs.declared.categories.Category.{Category}
use Rattle.wf_text.specs.declared.categories.Category.TheVariants.{Fault}
use Rattle.wf_base.specs.declared.marks.Mark.{Mark}
use Rattle.wf_ast.specs.declared.types.Ty.{Ty}
use Rattle.wf_ast.specs.declared.types.Ty.TheVariants as types
use Rattle.wf_ast.specs.TypedPackage.{MethodTree, PackageTree}
use Rattle.wf_ast.specs.Value.{Value, num, truth_value, status_number, same_category}
use Rattle.wf_ast.specs.WellTyped.{is_pure, is_coroutine}
use Rattle.wf_meaning.specs.SourceState.{Object, Life, raw, ready, disabled}

-- The numbers of the base statuses. [Entry; note statuses]
abbrev pub ok : ℕ
ok = 0

-- Too few bytes to read. [Entry; note statuses]
abbrev pub short_read : ℕ
short_read = 1

-- Too little room to write. [Entry; note statuses]
abbrev pub short_write : ℕ
short_write = 2

-- A null receiver. [Entry; note statuses]
abbrev pub bad_receiver : ℕ
bad_receiver = 4

-- A null buffer, or a number outside its refinement. [Entry; note statuses]
abbrev pub bad_argument : ℕ
bad_argument = 5

-- A receiver that was never made ready. [Entry; note statuses]
abbrev pub not_initialized : ℕ
not_initialized = 6

-- A coroutine called while another one is active. [Entry; note statuses]
abbrev pub interleaved : ℕ
interleaved = 7

-- A disabled receiver. [Entry; note statuses]
abbrev pub was_disabled : ℕ
was_disabled = 8

-- A suspension that is returned. [Entry; note statuses]
abbrev pub cannot_suspend : ℕ
cannot_suspend = 9

-- The text of a status, as a caller sees it. [Values; note statuses]
abbrev pub text_of_status : PackageTree → ℕ → List ℕ
text_of_status p n = unwrap_or (slice_get p.statuses n) []

-- A status is of a kind. [Values; note statuses]
abbrev pub has_kind : PackageTree → Category → ℕ → Bool
has_kind p category n = same_category category (category_of (text_of_status p n))

-- A call is refused with a status, and the struct state is then this one; or the body is entered. [Entry]
pub data Admission : Type 0 where
  refused : (status : ℕ) → Object → Admission
  admitted : Admission

-- The struct state, disabled. [Entry]
abbrev pub made_disabled : Object → Object
made_disabled o = record o { life = disabled }

-- A marked method disables its receiver. [Entry; note effects]
abbrev pub disabled_by : Mark → Object → Object
disabled_by mark o = if is_pure mark then o else made_disabled o

-- Another coroutine is active. [Entry]
abbrev pub is_other : ℕ → Option ℕ → Bool
is_other m None = false
is_other m (Some active) = not (nat_eq active m)

-- The rows of the table from the arguments on. `number` is the method's, and `fit` tells that no io argument is null and
-- every number lies in its refinement. [Entry]
abbrev pub admission_of_args : Mark → (number : ℕ) → (fit : Bool) → Object → Admission
admission_of_args mark number false o = refused bad_argument (disabled_by mark o)
admission_of_args mark number true o = if is_coroutine mark then (if is_other number o.active then refused interleaved (made_disabled o) else admitted) else admitted

-- The table, by the receiver's life. The row of a null receiver stands where receivers are told apart. [Entry]
abbrev pub admission_by : Life → Mark → (number : ℕ) → (fit : Bool) → Object → Admission
admission_by raw mark number fit o = refused not_initialized o
admission_by disabled mark number fit o = if is_pure mark then admission_of_args mark number fit o else refused was_disabled o
admission_by ready mark number fit o = admission_of_args mark number fit o

-- The table, for a struct state. [Entry]
abbrev pub admission : Mark → (number : ℕ) → (fit : Bool) → Object → Admission
admission mark number fit o = admission_by o.life mark number fit o

-- How a body comes to an end: it returns, with a value or without one, or it suspends with a status.
-- [Steps; note coroutines]
pub data Answered : Type 0 where
  returned : Option Value → Answered
  suspended : (status : ℕ) → Answered

-- What a refused call answers: of a method with a status as its answer that status, of another zero, false or nothing. [Entry]
abbrev pub zero_of : (status : ℕ) → Option Ty → Option Value
zero_of status None = None
zero_of status (Some (types.Num width lo hi)) = Some (num 0)
zero_of status (Some types.Flag) = Some (truth_value false)
zero_of status (Some ty) = Some (status_number status)

-- What a method answers to a call that is refused with a status. [Entry]
abbrev pub refusal_of : MethodTree → (status : ℕ) → Answered
refusal_of m status = returned (if is_coroutine m.mark then Some (status_number status) else zero_of status m.gives)

-- The struct state after a coroutine's body: a suspension makes it active, and every other end leaves none active; an
-- error disables. [Entry; note coroutines]
abbrev pub coroutine_ended : PackageTree → (number : ℕ) → Answered → Object → Object
coroutine_ended p number (suspended status) o = record o { active = Some number }
coroutine_ended p number (returned (Some (status_number status))) o =
    if has_kind p Fault status then record o { life = disabled; active = None } else record o { active = None }
coroutine_ended p number (returned value) o = record o { active = None }

-- The struct state after any body that was entered. [Entry]
abbrev pub ended : PackageTree → Mark → (number : ℕ) → Answered → Object → Object
ended p mark number answered o = if is_coroutine mark then coroutine_ended p number answered o else o
