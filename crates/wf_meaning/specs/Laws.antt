-- Words in which the laws of the source's meaning are stated.
use Rattle.std.specs.Prelude.{◌≡◌, ◌⊎◌, ℕ, true, false, List, [], ◌∷◌, Option, None, Some, slice_get}
use Rattle.std.specs.List.{AllByRecursion}
use Rattle.wf_base.specs.HostRun.{Host, HostCall}
use Rattle.wf_base.specs.LawfulActions.{named_buffers, named_arrays}
use Rattle.wf_ast.specs.TypedTree.{Simple, Site, Block, plain}
use Rattle.wf_ast.specs.TypedPackage.{MethodTree, PackageTree}
use Rattle.wf_ast.specs.Value.{Value, num, truth_value, status_number, span, buffer}
use Rattle.wf_meaning.specs.World.{empty_span}
use Rattle.wf_meaning.specs.SourceState.{Held, held_num, held_truth, held_status, held_cells, held_part, ready, Remaining, Object, SourceState}
use Rattle.wf_ast.specs.StatementOrder.{stands_before}
use Rattle.wf_meaning.specs.Remaining.{Items, is_point, number_of, rest}

-- The first of the remaining statements is the point with the number `k`.
pub record BeginsWithPoint (body : Block) (k : ℕ) (items : Items) : Type 0 where
  pub site : Site
  pub statement : Simple
  pub behind : Block
  pub first : items.block ≡ plain site statement behind
  pub point : is_point statement ≡ true
  pub numbered : number_of body site ≡ k

-- Each place stands before those that follow it.
abbrev pub Ascend : List Site → Type 0
Ascend [] = Unit {0}
Ascend (s ∷ ss) = AllByRecursion (λ t. stands_before s.at t.at ≡ true) ss × Ascend ss

-- Zero, false or ok; an array of zeros; or a struct state inside, of which its own state tells.
abbrev pub IsZero : Held → Type 0
IsZero (held_num n) = n ≡ 0
IsZero (held_truth b) = b ≡ false
IsZero (held_status n) = n ≡ 0
IsZero (held_cells cells) = AllByRecursion (λ cell. cell ≡ 0) cells
IsZero (held_part object) = Unit {0}

-- A struct state as an init leaves it.
pub record IsReady (o : Object) : Type 0 where
  pub life : o.life ≡ ready
  pub zero : AllByRecursion IsZero o.fields
  pub inactive : o.active ≡ None
  pub nothing : AllByRecursion (λ left. left ≡ None) o.remaining

-- The number is one of these.
abbrev pub Among : ℕ → List ℕ → Type 0
Among k [] = ⊥
Among k (x ∷ xs) = (k ≡ x) ⊎ Among k xs

-- What is kept of a local: a number, a truth value, a status, or the empty slice.
abbrev pub IsKept : Value → Type 0
IsKept (num n) = Unit {0}
IsKept (truth_value b) = Unit {0}
IsKept (status_number n) = Unit {0}
IsKept (span s) = s ≡ empty_span
IsKept (buffer k) = ⊥

-- The locals of what remains of each method of a struct state are kept ones, and `R` holds of it besides.
pub record Keeps (R : (method : ℕ) → Remaining → Type 0) (o : Object) : Type 0 where
  pub by : (method : ℕ) (left : Remaining) → slice_get o.remaining method ≡ Some (Some left) → AllByRecursion IsKept left.locals × R method left

abbrev pub KeepsAll : (ℕ → Remaining → Type 0) → Option (List Object) → Type 0
KeepsAll R None = Unit {0}
KeepsAll R (Some objects) = AllByRecursion (Keeps R) objects

-- The same in all receivers.
abbrev pub IsSettled : (ℕ → Remaining → Type 0) → SourceState → Type 0
IsSettled R state = AllByRecursion (KeepsAll R) state

-- Nothing is said of what remains.
abbrev pub Anything : ℕ → Remaining → Type 0
Anything method left = Unit {0}

-- What remains of a method is what stands at one of its points.
pub record IsRest (p : PackageTree) (number : ℕ) (left : Remaining) : Type 0 where
  pub method : MethodTree
  pub known : slice_get p.methods number ≡ Some method
  pub point : ℕ
  pub stands : rest method.body point ≡ Some (record { block = left.block; behind = left.behind })

-- What a call leaves as it was: every other receiver, and the buffers and byte arrays that its arguments don't name.
pub record ChangesOnlyNamed (state : SourceState) (call : HostCall) (h : Host) (after : SourceState × Host) : Type 0 where
  pub receivers : (r : ℕ) → (r ≡ call.receiver → ⊥) → slice_get after.0 r ≡ slice_get state r
  pub buffers : (k : ℕ) → (Among k (named_buffers call.args) → ⊥) → slice_get after.1.buffers k ≡ slice_get h.buffers k
  pub arrays : (a : ℕ) → (Among a (named_arrays call.args) → ⊥) → slice_get after.1.arrays a ≡ slice_get h.arrays a
