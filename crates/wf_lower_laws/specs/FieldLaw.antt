-- The names from which those of a struct's fields are made.
use Rattle.std.specs.Prelude.{◌≡◌, ℕ, ◌^◌, Bool, true, map, Some, slice_get, nat_lt}
use Rattle.std.specs.List.{list_all}
use Rattle.wf_ast.specs.declared.types.Ty.{Ty}
use Rattle.wf_ast.specs.declared.types.Ty.TheVariants as types
use Rattle.wf_ast.specs.TypedPackage.{MethodTree, PackageTree}
use Rattle.c_meaning.specs.UnitForm.{all_distinct}
use Rattle.wf_lower_laws.specs.ItemLaw.{is_clean}

-- The fields of each struct have different names, and so have the methods of each; names of methods have no two `_` in a row and
-- don't end with one.
pub record HasFieldNames (p : PackageTree) : Type 0 where
  pub fields : list_all (λ s. all_distinct (map (λ x. x.name) s.fields)) p.structs ≡ true
  pub methods : (i j : ℕ) (m n : MethodTree) → slice_get p.methods i ≡ Some m → slice_get p.methods j ≡ Some n → m.of ≡ n.of → m.name ≡ n.name → i ≡ j
  pub clean : list_all (λ m. is_clean m.name) p.methods ≡ true

-- The arrays of a package's structs have a length that C counts in `int`.
abbrev pub is_short : Ty → Bool
is_short (types.Array width lo hi count) = nat_lt count (2 ^ 31)
is_short ty = true

abbrev pub HasShortArrays : PackageTree → Type 0
HasShortArrays p = list_all (λ s. list_all (λ x. is_short x.ty) s.fields) p.structs ≡ true
