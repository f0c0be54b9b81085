-- Worlds and running bodies whose values lie in their types.
use Rattle.std.specs.Prelude.{◌≡◌, ℕ, ◌+◌, ◌-◌, ◌^◌, ◌<◌, ◌≤◌, Bool, true, false, ◌&&◌, List, length, All, Option, Some, option_and_then, unwrap_or, is_some, nat_eq, slice_get}
use Rattle.wf_base.specs.declared.widths.Width.{Width}
use Rattle.wf_base.specs.BaseTable.{bits_of}
use Rattle.wf_base.specs.BaseOps.{Buffer, AreBytes}
use Rattle.wf_base.specs.BaseOps as ops
use Rattle.wf_ast.specs.declared.types.Ty.{Ty}
use Rattle.wf_ast.specs.declared.types.Ty.TheVariants as types
use Rattle.wf_ast.specs.TypedTree.{NumType}
use Rattle.wf_ast.specs.TypedPackage.{Variable, PackageTree}
use Rattle.wf_ast.specs.WellTyped.{Context, field_at, variable_at}
use Rattle.wf_ast.specs.Value.{Store, nowhere, host_array, field_array, Span, Value, num, truth_value, status_number, span, buffer}
use Rattle.wf_facts_exprs.specs.LawfulState.{IsOf}
use Rattle.wf_meaning.specs.SourceState.{Held, held_num, held_truth, held_status, held_cells, held_part, Remaining, Object}
use Rattle.wf_meaning.specs.World.{World, Body, Vars, held_at}

-- What stays of a world while bodies run in it: the struct of each struct state, how long each byte array is, and how many
-- buffers there are.
pub record Shape : Type 0 where
  pub structs : List ℕ
  pub arrays : List ℕ
  pub buffers : ℕ

-- The declared type of a field of a struct state.
abbrev pub field_type : PackageTree → Shape → (object n : ℕ) → Option Ty
field_type p shape object n = option_and_then (λ s. field_at p s n) (slice_get shape.structs object)

-- How many elements stand in a store.
abbrev pub array_length : Option Ty → ℕ
array_length (Some (types.Array width lo hi count)) = count
array_length ty = 0

abbrev pub store_length : PackageTree → Shape → Store → ℕ
store_length p shape nowhere = 0
store_length p shape (host_array a) = unwrap_or (slice_get shape.arrays a) 0
store_length p shape (field_array object n) = array_length (field_type p shape object n)

-- All numbers of so many bits may be elements of a store. The host's arrays have bytes.
abbrev pub array_takes : (bits : ℕ) → Option Ty → Bool
array_takes bits (Some (types.Array width lo hi count)) = nat_eq bits (bits_of width) && (nat_eq lo 0 && nat_eq hi (2 ^ bits_of width - 1))
array_takes bits ty = false

abbrev pub store_takes : PackageTree → Shape → (bits : ℕ) → Store → Bool
store_takes p shape bits nowhere = true
store_takes p shape bits (host_array a) = nat_eq bits 8
store_takes p shape bits (field_array object n) = array_takes bits (field_type p shape object n)

-- A slice with elements of so many bits: its elements are there, and each may be any number of that width.
pub record IsSliceOf (p : PackageTree) (shape : Shape) (bits : ℕ) (s : Span) : Type 0 where
  pub few : s.count < 2 ^ 64
  pub inside : s.from + s.count ≤ store_length p shape s.store
  pub takes : store_takes p shape bits s.store ≡ true

-- The numbers of a type.
abbrev pub numbers_of : Width → (lo hi : ℕ) → NumType
numbers_of width lo hi = record { bits = bits_of width; low = lo; high = hi }

-- The value of a local or of an argument lies in its type.
abbrev pub IsOfType : PackageTree → Shape → Ty → Value → Type 0
IsOfType p shape (types.Num width lo hi) (num n) = IsOf (numbers_of width lo hi) n
IsOfType p shape types.Flag (truth_value b) = Unit {0}
IsOfType p shape types.Status (status_number n) = Unit {0}
IsOfType p shape (types.Slice width) (span s) = IsSliceOf p shape (bits_of width) s
IsOfType p shape types.Reader (buffer k) = k < shape.buffers
IsOfType p shape types.Writer (buffer k) = k < shape.buffers
IsOfType p shape ty v = ⊥

-- What stands in a field lies in its type.
abbrev pub IsHeldAs : Shape → Ty → Held → Type 0
IsHeldAs shape (types.Num width lo hi) (held_num n) = IsOf (numbers_of width lo hi) n
IsHeldAs shape types.Flag (held_truth b) = Unit {0}
IsHeldAs shape types.Status (held_status n) = Unit {0}
IsHeldAs shape (types.Array width lo hi count) (held_cells cells) = (length cells ≡ count) × ((count < 2 ^ 64) × All (IsOf (numbers_of width lo hi)) cells)
IsHeldAs shape (types.Part s) (held_part object) = slice_get shape.structs object ≡ Some s.0
IsHeldAs shape ty held = ⊥

-- Each variable has a value of its type.
pub record HaveTypes (p : PackageTree) (shape : Shape) (declared : List Variable) (values : List Value) : Type 0 where
  pub each : (n : ℕ) (ty : Ty) → variable_at declared n ≡ Some ty → (v : Value) × (slice_get values n ≡ Some v) × IsOfType p shape ty v

-- A world of a shape in which all that stands in fields, byte arrays and buffers lies in its type. Of what remains of a
-- method in a struct state, `R` holds.
pub record IsLawfulWorld (p : PackageTree) (R : (method : ℕ) → Remaining → Type 0) (shape : Shape) (w : World) : Type 0 where
  pub objects : (object s : ℕ) → slice_get shape.structs object ≡ Some s → is_some (slice_get w.objects object) ≡ true
  pub fields : (object n : ℕ) (ty : Ty) → field_type p shape object n ≡ Some ty → (held : Held) × (held_at w object n ≡ Some held) × IsHeldAs shape ty held
  pub remaining : (object method : ℕ) (o : Object) (left : Remaining) → slice_get w.objects object ≡ Some o → slice_get o.remaining method ≡ Some (Some left) → R method left
  pub arrays : (a len : ℕ) → slice_get shape.arrays a ≡ Some len → (cells : List ℕ) × (slice_get w.host.arrays a ≡ Some cells) × (length cells ≡ len) × AreBytes cells
  pub buffers : (k : ℕ) → k < shape.buffers → (b : Buffer) × (slice_get w.host.buffers k ≡ Some b) × ops.IsLawful b

-- What stands round the expressions of a running body.
abbrev pub context_of : Body → Context
context_of b = record { within = b.within; method = b.method }

-- A running body in such a world: its receiver is of its method's struct, and its arguments and locals lie in their types.
pub record IsLawfulBody (R : (method : ℕ) → Remaining → Type 0) (shape : Shape) (b : Body) (vars : Vars) : Type 0 where
  pub world : IsLawfulWorld b.within R shape vars.world
  pub receiver : slice_get shape.structs b.object ≡ Some b.method.of
  pub args : HaveTypes b.within shape b.method.args b.args
  pub locals : HaveTypes b.within shape b.method.locals vars.locals

-- No buffer stands twice among arguments.
pub record AreApart (args : List Value) : Type 0 where
  pub buffers : (a other k : ℕ) → slice_get args a ≡ Some (buffer k) → slice_get args other ≡ Some (buffer k) → a ≡ other
