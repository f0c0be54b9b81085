-- What the entry table and a body's end leave of a struct state.
use Rattle.std.proofs.Common.{◌≡◌, ℕ, Bool, true, false, Some, None, refl}
use Rattle.std.specs.Prelude.{if◌then◌else◌}
use Rattle.wf_text.specs.declared.categories.Category.TheVariants.{Fault}
use Rattle.wf_base.specs.declared.marks.Mark.{Mark}
use Rattle.wf_ast.specs.TypedPackage.{PackageTree}
use Rattle.wf_ast.specs.WellTyped.{is_pure, is_coroutine}
use Rattle.wf_ast.specs.Value.{num, truth_value, status_number, span, buffer}
use Rattle.wf_meaning.specs.SourceState.{Life, raw, ready, disabled, Object}
use Rattle.wf_meaning.specs.Entry.{Admission, refused, admitted, admission, admission_by, admission_of_args, made_disabled, is_other, Answered, returned, suspended, ended, coroutine_ended, has_kind}
use Rattle.wf_meaning_laws.proofs.Cores.{Kin, kin-self}

-- Only its life is another.
abbrev pub AdmissionKin : Object → Admission → Type 0
AdmissionKin o (refused status left) = Kin o left
AdmissionKin o admitted = Unit {0}

either-kin : (test : Bool) (o a c : Object) → Kin o a → Kin o c → Kin o (if test then a else c)
either-kin true o a c h k = h
either-kin false o a c h k = k

either-admission : (test : Bool) (o : Object) (a c : Admission) → AdmissionKin o a → AdmissionKin o c → AdmissionKin o (if test then a else c)
either-admission true o a c h k = h
either-admission false o a c h k = k

disabled-kin : (o : Object) → Kin o (made_disabled o)
disabled-kin o = record { active = refl; remaining = refl; parts = λ x n e. e }

args-kin : (mark : Mark) (number : ℕ) (fit : Bool) (o : Object) → AdmissionKin o (admission_of_args mark number fit o)
args-kin mark number false o = either-kin (is_pure mark) o _ _ (kin-self o) (disabled-kin o)
args-kin mark number true o = either-admission (is_coroutine mark) o _ _ (either-admission (is_other number o.active) o _ _ (disabled-kin o) tt) tt

life-kin : (life : Life) (mark : Mark) (number : ℕ) (fit : Bool) (o : Object) → AdmissionKin o (admission_by life mark number fit o)
life-kin raw mark number fit o = kin-self o
life-kin disabled mark number fit o = either-admission (is_pure mark) o _ _ (args-kin mark number fit o) (kin-self o)
life-kin ready mark number fit o = args-kin mark number fit o

pub admission-kin : (mark : Mark) (number : ℕ) (fit : Bool) (o : Object) → AdmissionKin o (admission mark number fit o)
admission-kin mark number fit o = life-kin o.life mark number fit o

-- A body's end leaves what remains, and the fields.
abbrev SameRest : Object → Object → Type 0
SameRest o o' = (o'.remaining ≡ o.remaining) × (o'.fields ≡ o.fields)

either-rest : (test : Bool) (o a c : Object) → SameRest o a → SameRest o c → SameRest o (if test then a else c)
either-rest true o a c h k = h
either-rest false o a c h k = k

coroutine-remains : (p : PackageTree) (number : ℕ) (a : Answered) (o : Object) → SameRest o (coroutine_ended p number a o)
coroutine-remains p number (suspended status) o = (refl, refl)
coroutine-remains p number (returned None) o = (refl, refl)
coroutine-remains p number (returned (Some (num m))) o = (refl, refl)
coroutine-remains p number (returned (Some (truth_value t))) o = (refl, refl)
coroutine-remains p number (returned (Some (status_number m))) o = either-rest (has_kind p Fault m) o _ _ (refl, refl) (refl, refl)
coroutine-remains p number (returned (Some (span s))) o = (refl, refl)
coroutine-remains p number (returned (Some (buffer k))) o = (refl, refl)

pub ended-remains : (p : PackageTree) (mark : Mark) (number : ℕ) (a : Answered) (o : Object) → SameRest o (ended p mark number a o)
ended-remains p mark number a o = either-rest (is_coroutine mark) o _ _ (coroutine-remains p number a o) (refl, refl)
