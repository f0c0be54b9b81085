-- The names of a text's items.
use Rattle.std.specs.Prelude.{◌≡◌, ℕ, ◌^◌, ◌<◌, Bool, true, false, not, ◌&&◌, nat_eq, List, [], ◌∷◌, ◌++◌, map, length, Option, None, Some, slice_get, bytes_eq, codes}
use Rattle.std.specs.List.{list_all}
use Rattle.wf_ast.specs.TypedPackage.{MethodTree, PackageTree}
use Rattle.c_meaning.specs.UnitForm.{all_distinct, item_name}
use Rattle.wf_exprs.specs.Names.{struct_called}
use Rattle.wf_lower.specs.Unit.{lowered_unit}

-- A name without two `_` in a row, that doesn't end with one.
abbrev pub is_clean : List ℕ → Bool
is_clean [] = true
is_clean (a ∷ []) = not (nat_eq a 95)
is_clean (a ∷ b ∷ bytes) = not (nat_eq a 95 && nat_eq b 95) && is_clean (b ∷ bytes)

-- A method by its struct's name and its own.
abbrev pub method_called : PackageTree → MethodTree → List ℕ
method_called p m = struct_called p m.of ++ (codes "__" ++ m.name)

abbrev pub method_names : PackageTree → Option MethodTree → List (List ℕ)
method_names p None = []
method_names p (Some m) = method_called p m ∷ []

abbrev pub methods_called : PackageTree → List ℕ → List (List ℕ)
methods_called p [] = []
methods_called p (n ∷ ns) = method_names p (slice_get p.methods n) ++ methods_called p ns

-- Structs and methods have names of their own.
pub record HasItemNames (p : PackageTree) : Type 0 where
  pub package_name : bytes_eq p.package_name (codes "base") ≡ false
  pub structs : all_distinct (map (struct_called p) p.struct_order) ≡ true
  pub clean : list_all (λ s. is_clean (struct_called p s)) p.struct_order ≡ true
  pub methods : all_distinct (methods_called p p.order) ≡ true
  pub owners : (n : ℕ) (m : MethodTree) → slice_get p.methods n ≡ Some m → (is_clean (struct_called p m.of) ≡ true) × (bytes_eq m.name (codes "initialize") ≡ false)
  pub few : length p.statuses < 2 ^ 64

abbrev pub ItemsNameApart : Type 0
ItemsNameApart = (p : PackageTree) → HasItemNames p → all_distinct (map item_name (lowered_unit p)) ≡ true
