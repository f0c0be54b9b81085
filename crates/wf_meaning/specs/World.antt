-- What a running body sees and writes: its locals and arguments, the struct states of its receiver, and the host's buffers
-- and byte arrays.
-- In brackets stands the section of docs/SEMANTICS.md that a definition states, and with `note` the Wuffs document
-- wuffs/doc/note/NAME.md that it follows.
use Rattle.std.specs.Prelude.{ℕ, zero, suc, ◌+◌, ◌^◌, Bool, true, List, [], ◌∷◌, length, map, Option, None, Some, slice_get, slice_set, unwrap_or, option_map, option_and_then, nat_le, nat_lt, ◌&&◌}
use Rattle.wf_base.specs.HostRun.{Host}
use Rattle.wf_base.specs.BaseOps.{Buffer}
use Rattle.wf_ast.specs.TypedTree.{Path, local, field, arg, NumType, Target, to_number, to_element, to_flag, to_status, to_slice, to_nothing}
use Rattle.wf_ast.specs.TypedPackage.{MethodTree, PackageTree}
use Rattle.wf_ast.specs.Value.{Store, nowhere, host_array, field_array, Span, Value, num, truth_value, status_number, span, buffer, State, value, span_of, only_if}
use Rattle.wf_meaning.specs.SourceState.{Object, Held, held_num, held_truth, held_status, held_cells, held_part}
use Rattle.wf_meaning.specs.Entry.{text_of_status}

-- The struct states of the receiver, and the host's buffers and byte arrays. [State]
pub record World : Type 0 where
  pub objects : List Object
  pub host : Host

-- What stays while a body runs: the package, the number of the struct state that it runs in, its method, and its
-- arguments. [State]
pub record Body : Type 0 where
  pub within : PackageTree
  pub object : ℕ
  pub method : MethodTree
  pub args : List Value

-- The item with this number is changed. [State]
abbrev pub updated : {X : Type 0} → (X → X) → ℕ → List X → List X
updated change i [] = []
updated change zero (x ∷ xs) = change x ∷ xs
updated change (suc i) (x ∷ xs) = x ∷ updated change i xs

-- A struct state is changed. [State]
abbrev pub with_object : (number : ℕ) → (Object → Object) → World → World
with_object number change w = record w { objects = updated change number w.objects }

-- A field is changed. [State]
abbrev pub with_field : (object n : ℕ) → (Held → Held) → World → World
with_field object n change w = with_object object (λ o. record o { fields = updated change n o.fields }) w

-- What stands in a field of a struct state. [State]
abbrev pub held_at : World → (object n : ℕ) → Option Held
held_at w object n = option_and_then (λ o. slice_get o.fields n) (slice_get w.objects object)

-- What stands in a field, as a value: an array as all of its elements. [Values]
abbrev pub value_held : (object n : ℕ) → Held → Option Value
value_held object n (held_num m) = Some (num m)
value_held object n (held_truth b) = Some (truth_value b)
value_held object n (held_status s) = Some (status_number s)
value_held object n (held_cells cells) = Some (span (record { store = field_array object n; from = 0; count = length cells }))
value_held object n (held_part part) = None

-- The value of a local, an argument or a field. [Values]
abbrev pub value_at : Body → List Value → World → Path → Option Value
value_at b locals w (local n) = slice_get locals n
value_at b locals w (arg n) = slice_get b.args n
value_at b locals w (field n) = option_and_then (value_held b.object n) (held_at w b.object n)

-- The value of a kind. [Values]
abbrev pub as_num : Value → Option ℕ
as_num (num n) = Some n
as_num v = None

-- A truth value. [Values]
abbrev pub as_truth : Value → Option Bool
as_truth (truth_value b) = Some b
as_truth v = None

-- A status. [Values]
abbrev pub as_status : Value → Option ℕ
as_status (status_number n) = Some n
as_status v = None

-- A slice. [Values; note slices-arrays-and-tables]
abbrev pub as_span : Value → Option Span
as_span (span s) = Some s
as_span v = None

-- A reader or writer. [Values; note io-input-output]
abbrev pub as_buffer : Value → Option ℕ
as_buffer (buffer k) = Some k
as_buffer v = None

-- The elements of an array. [Values]
abbrev pub cells_held : Held → List ℕ
cells_held (held_cells cells) = cells
cells_held held = []

-- All elements of the array that a slice stands in. [Values; note slices-arrays-and-tables]
abbrev pub cells_at : World → Store → List ℕ
cells_at w nowhere = []
cells_at w (host_array a) = unwrap_or (slice_get w.host.arrays a) []
cells_at w (field_array object n) = unwrap_or (option_map cells_held (held_at w object n)) []

-- What the expressions of a body look at. [Values]
abbrev pub view : Body → List Value → World → State
view b locals w =
    record { number_at = λ path. option_and_then as_num (value_at b locals w path); flag_at = λ path. option_and_then as_truth (value_at b locals w path); status_at = λ path. option_and_then as_status (value_at b locals w path); span_at = λ path. option_and_then as_span (value_at b locals w path); cells_at = cells_at w; buffer_number = λ a. option_and_then as_buffer (slice_get b.args a); buffer_at = λ k. slice_get w.host.buffers k; status_text = text_of_status b.within }

-- Writing.

-- A value as a field holds it. [State]
abbrev pub held_of : Value → Held
held_of (num n) = held_num n
held_of (truth_value b) = held_truth b
held_of (status_number n) = held_status n
held_of v = held_num 0

-- The elements of an array are changed. [State]
abbrev pub change_held : (List ℕ → List ℕ) → Held → Held
change_held change (held_cells cells) = held_cells (change cells)
change_held change held = held

-- The elements of a store are changed. [State]
abbrev pub with_cells : Store → (List ℕ → List ℕ) → World → World
with_cells nowhere change w = w
with_cells (host_array a) change w = record w { host = record { buffers = w.host.buffers; arrays = updated change a w.host.arrays } }
with_cells (field_array object n) change w = with_field object n (change_held change) w

-- A buffer of the host is changed. [State]
abbrev pub with_buffer : (k : ℕ) → (Buffer → Buffer) → World → World
with_buffer k change w = record w { host = record { buffers = updated change k w.host.buffers; arrays = w.host.arrays } }

-- Locals with the world. [State]
pub record Vars : Type 0 where
  pub locals : List Value
  pub world : World

-- A value goes to a local or a field. [Steps]
abbrev pub set_path : Body → Path → Value → Vars → Vars
set_path b (local n) v vars = record vars { locals = updated (λ _. v) n vars.locals }
set_path b (field n) v vars = record vars { world = with_field b.object n (λ _. held_of v) vars.world }
set_path b (arg n) v vars = vars

-- A number of a type. [Steps]
abbrev pub in_range : NumType → ℕ → Bool
in_range of n = nat_le of.low n && nat_le n of.high

-- A byte array takes bytes, and an array in a field any number. [State]
abbrev pub fits_store : Store → ℕ → Bool
fits_store (host_array a) n = nat_lt n (2 ^ 8)
fits_store store n = true

-- A number goes to an element of a slice; None where there is no such element, and where a byte array would take what is no
-- byte. [Steps]
abbrev pub set_element : Span → ℕ → ℕ → Vars → Option Vars
set_element cells k n vars =
    only_if (nat_le (suc k) cells.count && fits_store cells.store n) (Some (record vars { world = with_cells cells.store (λ xs. slice_set xs (cells.from + k) n) vars.world }))

-- A value goes to a target; None where it leaves the target's type, or the target's index or slice is stuck. [Steps]
abbrev pub put_value : Body → Target → Value → Vars → Option Vars
put_value b (to_number at of path) (num n) vars = only_if (in_range of n) (Some (set_path b path (num n) vars))
put_value b (to_element at of cells index) (num n) vars =
    only_if (in_range of n) (option_and_then (λ xs. option_and_then (λ k. set_element xs k n vars) (value (view b vars.locals vars.world) index)) (span_of (view b vars.locals vars.world) cells))
put_value b (to_flag at path) (truth_value t) vars = Some (set_path b path (truth_value t) vars)
put_value b (to_status at path) (status_number n) vars = Some (set_path b path (status_number n) vars)
put_value b (to_slice at bits path) (span s) vars = Some (set_path b path (span s) vars)
put_value b to_nothing v vars = Some vars
put_value b target v vars = None

-- The empty slice. [Values; note slices-arrays-and-tables]
abbrev pub empty_span : Span
empty_span = record { store = nowhere; from = 0; count = 0 }

-- What is kept of a local at a suspension: a slice becomes empty. [Steps; note coroutines]
abbrev pub kept_local : Value → Value
kept_local (span s) = span empty_span
kept_local v = v

-- What is kept of all locals. [Steps; note coroutines]
abbrev pub kept_locals : List Value → List Value
kept_locals locals = map kept_local locals
