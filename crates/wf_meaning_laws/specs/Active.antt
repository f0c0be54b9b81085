-- An active coroutine has something remaining.
use Rattle.std.specs.Prelude.{◌≡◌, ℕ, ◌<◌, true, false, List, length, Option, None, Some, slice_get}
use Rattle.std.specs.List.{AllByRecursion}
use Rattle.wf_ast.specs.TypedTree.{Called, own, sub}
use Rattle.wf_ast.specs.TypedPackage.{MethodTree, PackageTree}
use Rattle.wf_ast.specs.WellTyped.{is_coroutine}
use Rattle.wf_meaning.specs.SourceState.{held_part, Remaining, Object, SourceState}
use Rattle.wf_meaning_laws.specs.Code.{Left}

-- A method of the package is a coroutine.
abbrev pub IsCoroutine : PackageTree → ℕ → Type 0
IsCoroutine p k = (m : MethodTree) × ((slice_get p.methods k ≡ Some m) × (is_coroutine m.mark ≡ true))

-- Something remains of a method.
abbrev pub Remains : Object → ℕ → Type 0
Remains o k = (left : Remaining) × (slice_get o.remaining k ≡ Some (Some left))

-- What is active is a coroutine, and something remains of it.
abbrev pub ActiveRemains : PackageTree → Object → Type 0
ActiveRemains p o = (k : ℕ) → o.active ≡ Some k → IsCoroutine p k × Remains o k

-- A method that is no coroutine calls no coroutine of its own struct.
abbrev pub OwnCall : PackageTree → (method : ℕ) → Called → Type 0
OwnCall p method (own k) =
    (m callee : MethodTree) → slice_get p.methods method ≡ Some m → slice_get p.methods k ≡ Some callee → is_coroutine m.mark ≡ false → is_coroutine callee.mark ≡ false
OwnCall p method (sub x k) = Unit {0}

-- The struct state with this number has a place for what remains of each method; the struct states inside it are numbered
-- after it; and what remains is of such code, and was started.
pub record IsFormed (p : PackageTree) (number : ℕ) (o : Object) : Type 0 where
  pub room : length o.remaining ≡ length p.methods
  pub inside : (x part : ℕ) → slice_get o.fields x ≡ Some (held_part part) → number < part
  pub code : (method : ℕ) (left : Remaining) → slice_get o.remaining method ≡ Some (Some left) → Left (OwnCall p method) left

-- A struct state whose active coroutine has something remaining.
pub record IsSteadyObject (p : PackageTree) (number : ℕ) (o : Object) : Type 0 where
  pub formed : IsFormed p number o
  pub active : ActiveRemains p o

-- All struct states of a receiver, by their numbers.
pub record AreSteady (p : PackageTree) (objects : List Object) : Type 0 where
  pub by : (number : ℕ) (o : Object) → slice_get objects number ≡ Some o → IsSteadyObject p number o

-- Those of a receiver that isn't null.
abbrev pub IsSteadyReceiver : PackageTree → Option (List Object) → Type 0
IsSteadyReceiver p None = Unit {0}
IsSteadyReceiver p (Some objects) = AreSteady p objects

-- The same in all receivers.
abbrev pub IsSteady : PackageTree → SourceState → Type 0
IsSteady p state = AllByRecursion (IsSteadyReceiver p) state
