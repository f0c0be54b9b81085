-- The numbers of a package's suspension points, how many points a method may have, and which locals are kept at one.
use Rattle.std.specs.Prelude.{◌≡◌, ℕ, suc, ◌+◌, Bool, true, false, List, [], ◌∷◌, Option, None, Some, option_map, slice_get, unwrap_or, nat_eq, if◌then◌else◌}
use Rattle.wf_text.specs.declared.rules.Refusal.{Refusal}
use Rattle.wf_text.specs.declared.rules.Rule.TheVariants.{L9}
use Rattle.wf_text.specs.declared.faults.PhaseFault.{PhaseFault}
use Rattle.wf_text.specs.declared.faults.PhaseFault.TheVariants.{Refused, Memory}
use Rattle.wf_text.specs.Precedence.{IsFirst}
use Rattle.wf_ast.specs.declared.types.Ty.{Ty}
use Rattle.wf_ast.specs.declared.types.Ty.TheVariants as types
use Rattle.wf_ast.specs.declared.variables.LocalId.{LocalId}
use Rattle.wf_ast.specs.TypedTree.{Site, Block}
use Rattle.wf_ast.specs.TypedPackage.{Variable, MethodTree, PackageTree}
use Rattle.wf_ast.specs.TypedInvariant.{numbers_in}
use Rattle.wf_meaning.specs.Remaining.{points_in, number_of}

-- The point that is the statement with the number `s`.
abbrev pub point_with : (s : ℕ) → List Site → Option Site
point_with s [] = None
point_with s (point ∷ points) = if nat_eq point.number s then Some point else point_with s points

-- The number that a statement has as a point of a method's body, and None where it is none of its points.
abbrev pub number_in : (body : Block) → (s : ℕ) → Option ℕ
number_in body s = option_map (number_of body) (point_with s (points_in body))

-- The first number of two.
abbrev pub earlier : Option ℕ → Option ℕ → Option ℕ
earlier None other = other
earlier (Some n) other = Some n

-- The number that a statement has as a point of its method: of the first method that has it. None where no method has it
-- as a point.
abbrev pub point_number : List MethodTree → (s : ℕ) → Option ℕ
point_number [] s = None
point_number (m ∷ ms) s = earlier (number_in m.body s) (point_number ms s)

-- How many points a method may have.
abbrev pub most_points : ℕ
most_points = 1024

-- A method's 1,025th point breaks L9, at its first token.
pub record HasTooMany (p : PackageTree) (r : Refusal) : Type 0 where
  pub number : ℕ
  pub method : MethodTree
  pub place : ℕ
  pub point : Site
  pub known : slice_get p.methods number ≡ Some method
  pub stands : slice_get (points_in method.body) place ≡ Some point
  pub numbered : number_of method.body point ≡ most_points + 1
  pub refused : r ≡ record { rule = L9; at = point.at }

-- The first refusal of the methods with too many points. Where memory is refused nothing is said.
abbrev pub IsRefusedFor : PackageTree → PhaseFault → Type 0
IsRefusedFor p (Refused r) = IsFirst (HasTooMany p) r
IsRefusedFor p Memory = Unit {0}

abbrev pub is_slice : Ty → Bool
is_slice (types.Slice width) = true
is_slice ty = false

-- The locals that aren't slices, in order; `n` is the number of the first local in the list.
abbrev pub locals_kept : (n : ℕ) → List Variable → List LocalId
locals_kept n [] = []
locals_kept n (x ∷ xs) = if is_slice x.ty then locals_kept (n + 1) xs else record { 0 = n } ∷ locals_kept (n + 1) xs

-- What a method keeps of its locals at a suspension.
abbrev pub saved_locals : MethodTree → List LocalId
saved_locals m = locals_kept 0 m.locals

-- The points of a package: the number of each statement that is one, and by method the locals that are kept.
pub record PointTable : Type 0 where
  pub numbers : List (Option ℕ)
  pub saved : List (List LocalId)

-- The number of a statement; None after the table's end.
abbrev pub number_at : List (Option ℕ) → (s : ℕ) → Option ℕ
number_at numbers s = unwrap_or (slice_get numbers s) None

-- No two points of methods are one statement.
pub record StandOnce (methods : List MethodTree) : Type 0 where
  pub by : (m n : ℕ) (one other : MethodTree) (i j : ℕ) (point twin : Site)
      → slice_get methods m ≡ Some one → slice_get methods n ≡ Some other
      → slice_get (points_in one.body) i ≡ Some point → slice_get (points_in other.body) j ≡ Some twin
      → point.number ≡ twin.number → (m ≡ n) × (i ≡ j)

-- How often a number stands in a list.
abbrev pub times : ℕ → List ℕ → ℕ
times s [] = 0
times s (n ∷ ns) = if nat_eq n s then suc (times s ns) else times s ns

-- The statement with the number `s` stands in this method, once.
pub record StandsIn (methods : List MethodTree) (s : ℕ) : Type 0 where
  pub number : ℕ
  pub method : MethodTree
  pub known : slice_get methods number ≡ Some method
  pub once : times s (numbers_in method.body) ≡ 1

-- The statement with the number `s` is a point of a method, which has there the number `n`.
pub record IsPoint (methods : List MethodTree) (s n : ℕ) : Type 0 where
  pub number : ℕ
  pub method : MethodTree
  pub place : ℕ
  pub point : Site
  pub known : slice_get methods number ≡ Some method
  pub stands : slice_get (points_in method.body) place ≡ Some point
  pub named : point.number ≡ s
  pub numbered : number_of method.body point ≡ n
