-- The state of the source's meaning. Nothing here is a number of a resume state, and nothing has a width.
-- In brackets stands the section of docs/SEMANTICS.md that a definition states, and with `note` the Wuffs document
-- wuffs/doc/note/NAME.md that it follows.
use Rattle.std.specs.Prelude.{ℕ, zero, suc, ◌+◌, Bool, true, false, List, [], ◌∷◌, ◌++◌, length, map, replicate, Option, None, Some, slice_get, unwrap_or, option_map}
use Rattle.wf_text.specs.HostActions.{Receiver}
use Rattle.wf_ast.specs.declared.types.Ty.{Ty}
use Rattle.wf_ast.specs.declared.types.Ty.TheVariants as types
use Rattle.wf_ast.specs.TypedTree.{Block, Site, Head}
use Rattle.wf_ast.specs.TypedPackage.{Variable, PackageTree}
use Rattle.wf_ast.specs.Value.{Value}

-- What follows a block, from the innermost outwards: what follows in its own block the `if` that holds it; or the marker
-- of the loop that holds it, which tests the loop's condition again, and what follows that loop in its block.
-- [What remains]
pub data Behind : Type 0 where
  stop : Behind
  behind_if : (rest : Block) → Behind → Behind
  again : Site → Head → (body rest : Block) → Behind → Behind

-- What the first of the remaining statements has done so far: nothing; of a read, the bytes that it has; of a skip, how
-- many bytes are still to be taken; of a write, its byte; of a `yield?`, that it has suspended.
-- [What remains; note coroutines]
pub data Done : Type 0 where
  untouched : Done
  has_bytes : List ℕ → Done
  to_skip : ℕ → Done
  to_write : ℕ → Done
  has_yielded : Done

-- What a coroutine still has to do, with its locals. [What remains; note coroutines]
pub record Remaining : Type 0 where
  pub done : Done
  pub block : Block
  pub behind : Behind
  pub locals : List Value

-- Raw: never made ready. [State; note initialization]
pub data Life : Type 0 where
  raw : Life
  ready : Life
  disabled : Life

-- What stands in a field. A field of struct type tells the number of the struct state that it holds. [State]
pub data Held : Type 0 where
  held_num : ℕ → Held
  held_truth : Bool → Held
  held_status : ℕ → Held
  held_cells : List ℕ → Held
  held_part : (object : ℕ) → Held

-- A struct state. `active` is the public coroutine that has suspended, by its method's number. `remaining` tells for each
-- method, by number, what it still has to do; for every method but a suspended coroutine that is None. [State]
pub record Object : Type 0 where
  pub life : Life
  pub fields : List Held
  pub active : Option ℕ
  pub remaining : List (Option Remaining)

-- The struct states of a receiver: its own has the number 0, and each field of struct type holds one of its own. A null
-- receiver has None. [State]
abbrev pub SourceState : Type 0
SourceState = List (Option (List Object))

-- Zero, false, ok, or an array of zeros; a struct state inside stays where it is. [Entry; note initialization]
abbrev pub cleared : Held → Held
cleared (held_num n) = held_num 0
cleared (held_truth b) = held_truth false
cleared (held_status n) = held_status 0
cleared (held_cells cells) = held_cells (replicate (length cells) 0)
cleared (held_part object) = held_part object

-- A struct state after an init, whatever it was. [Entry; note initialization]
abbrev pub cleared_object : Object → Object
cleared_object o = record { life = ready; fields = map cleared o.fields; active = None; remaining = replicate (length o.remaining) None }

-- What stands in a field of this type at first; `next` is the number of the struct state that it would hold. [State]
abbrev pub fresh_field : (next : ℕ) → Ty → Held
fresh_field next (types.Num width lo hi) = held_num 0
fresh_field next types.Flag = held_truth false
fresh_field next types.Status = held_status 0
fresh_field next (types.Array width lo hi count) = held_cells (replicate count 0)
fresh_field next (types.Part s) = held_part next
fresh_field next ty = held_num 0

-- The struct states inside a field, where `inside` gives those of a struct, the first of them numbered `next`. [State]
abbrev pub inside_field : (inside : ℕ → ℕ → List Object) → (next : ℕ) → Ty → List Object
inside_field inside next (types.Part s) = inside s.0 next
inside_field inside next ty = []

-- The fields of a new struct state. [State]
abbrev pub fresh_fields : (inside : ℕ → ℕ → List Object) → (next : ℕ) → List Variable → List Held
fresh_fields inside next [] = []
fresh_fields inside next (x ∷ xs) = fresh_field next x.ty ∷ fresh_fields inside (next + length (inside_field inside next x.ty)) xs

-- The struct states inside fields. [State]
abbrev pub inside_fields : (inside : ℕ → ℕ → List Object) → (next : ℕ) → List Variable → List Object
inside_fields inside next [] = []
inside_fields inside next (x ∷ xs) = inside_field inside next x.ty ++ inside_fields inside (next + length (inside_field inside next x.ty)) xs

-- The fields of the struct with this number. [State]
abbrev pub fields_of : PackageTree → (s : ℕ) → List Variable
fields_of p s = unwrap_or (option_map (λ it. it.fields) (slice_get p.structs s)) []

-- A struct state with the number `n` and those inside it, which are numbered after it: raw, with all fields zero.
-- [State; note initialization]
abbrev pub raw_object : PackageTree → (inside : ℕ → ℕ → List Object) → (n : ℕ) → List Variable → List Object
raw_object p inside n xs =
    record { life = raw; fields = fresh_fields inside (n + 1) xs; active = None; remaining = replicate (length p.methods) None } ∷ inside_fields inside (n + 1) xs

-- The struct states of a new receiver of the struct `s`, its own numbered `n`. No struct holds itself, so there are at
-- most as many levels as structs. [State]
abbrev pub raw_objects : PackageTree → (levels : ℕ) → (s n : ℕ) → List Object
raw_objects p zero s n = []
raw_objects p (suc levels) s n = raw_object p (raw_objects p levels) n (fields_of p s)

-- A new receiver of a struct, or a null one. [State]
abbrev pub fresh_receiver : PackageTree → (null : Bool) → (s : ℕ) → Option (List Object)
fresh_receiver p true s = None
fresh_receiver p false s = Some (raw_objects p (suc (length p.structs)) s 0)

-- The receivers that a host declares, before anything was done. [State]
abbrev pub fresh_state : PackageTree → List Receiver → SourceState
fresh_state p receivers = map (λ r. fresh_receiver p r.null r.struct_number) receivers
