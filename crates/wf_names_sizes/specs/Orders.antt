-- Orders of structs, in which their sizes become known one after the other.
use Rattle.std.specs.Prelude.{◌≡◌, ◌⊎◌, ℕ, ◌<◌, Bool, true, false, List, Some, length, take, slice_get, nat_eq}
use Rattle.std.specs.List.{list_any}
use Rattle.wf_names_rules.specs.Declarations.{Declared}
use Rattle.graphs.specs.Graphs.{Path, holds}
use Rattle.wf_names_rules.specs.Passes.{is_flagged}
use Rattle.wf_names_rules.specs.Sizes.{holds_struct}
use Rattle.wf_names_sizes.specs.declared.parts.FieldPart.{FieldPart}
use Rattle.wf_names_sizes.specs.declared.parts.Part.{Part}
use Rattle.wf_names_sizes.specs.declared.parts.Part.TheVariants as parts

-- Every struct of a package stands in the order, and each that it holds stands before it or holds itself.
pub record IsHoldingOrder (d : Declared) (order : List ℕ) : Type 0 where
  pub every : (s : ℕ) → s < length d.structs → holds order s ≡ true
  pub within : (s : ℕ) → holds order s ≡ true → s < length d.structs
  pub behind : (i s t : ℕ) → slice_get order i ≡ Some s → holds_struct d s t ≡ true → (holds (take i order) t ≡ true) ⊎ Path (holds_struct d) t t

-- Whether a field is of the struct with a number.
abbrev pub is_struct : ℕ → Part → Bool
is_struct t (parts.Plain bytes) = false
is_struct t (parts.Struct s) = nat_eq t s

abbrev pub has_struct : List FieldPart → ℕ → Bool
has_struct row t = list_any (λ f. is_struct t f.part) row

-- The same of rows with flags: every row stands in the order, and each struct in it that isn't flagged stands before it.
pub record IsSettlingOrder (flags : List Bool) (rows : List (List FieldPart)) (order : List ℕ) : Type 0 where
  pub every : (s : ℕ) → s < length rows → holds order s ≡ true
  pub within : (s : ℕ) → holds order s ≡ true → s < length rows
  pub behind : (i s t : ℕ) (row : List FieldPart) → slice_get order i ≡ Some s → slice_get rows s ≡ Some row → has_struct row t ≡ true → is_flagged (slice_get flags t) ≡ false → holds (take i order) t ≡ true
