-- The arrays of a typed package are short: a written type tells of at most 2 ^ 32 - 1 elements.
use Rattle.std.proofs.Common.{◌≡◌, ℕ, ◌-◌, ◌^◌, ◌<◌, ◌&&◌, List, map, Option, Some, None, refl, sym, subst, arith, nat_lt, nat_eq}
use Rattle.std.specs.Prelude.{option_and_then, option_map, slice_get, unwrap_or, min}
use Rattle.std.specs.Bool.{⊤}
use Rattle.std.proofs.lemmas.Option.{slice_get-map}
use Rattle.wf_ast.specs.declared.types.Ty.{Ty}
use Rattle.wf_ast.specs.declared.types.Ty.TheVariants as types
use Rattle.wf_ast.specs.TypedPackage.{Variable, StructTree}
use Rattle.wf_ast.specs.WellTyped.{variable_at}
use Rattle.wf_named.specs.declared.nodes.BaseType.{BaseType}
use Rattle.wf_named.specs.declared.nodes.BaseType.TheVariants as bases
use Rattle.wf_named.specs.NamedTree.{NamedTypeTree, slice_of, array_of, base_type, struct_type, unrefined, refined, VarTree, NamedStructTree, NamedPackageTree}
use Rattle.wf_types_rules.specs.declared.settings.Role.{Role}
use Rattle.wf_types_rules.specs.declared.settings.Role.TheVariants as roles
use Rattle.wf_types_rules.specs.declared.settings.Setting.{Setting}
use Rattle.wf_types_rules.specs.DeclaredTypes.{declared, for_types}
use Rattle.wf_types_rules.specs.ExprTypes.{plain_width, base_of, array_type, number_of, low_number, written}
use Rattle.wf_typed_tree.specs.ElaboratedPackage.{type_declared, typed_variable, typed_struct, typed_package}
use Rattle.wf_typed_tree.proofs.NumberLemmas.{where-parts, map-parts}
use Rattle.wf_typed_tree.proofs.DeclaredLaws.{refined-kind, declared-parts}
use Rattle.wf_typed_tree.proofs.Agreement.{typed-structs}
use Rattle.wf_sound_runs.specs.Accepted.{HasShortArrays}

abbrev IsShort : Ty → Type 0
IsShort (types.Array width lo hi count) = count < 2 ^ 64
IsShort ty = ⊤

-- Of a type that is written.
capped-short : (n : ℕ) → min n (2 ^ 32 - 1) < 2 ^ 64
capped-short n = grind arith

base-short : (of : BaseType) → IsShort (base_of of)
base-short (bases.Number width) = tt
base-short bases.Flag = tt
base-short bases.Status = tt
base-short bases.Reader = tt
base-short bases.Writer = tt

array-short : (count : Option ℕ) (element : Option Ty) (ty : Ty) → array_type count element ≡ Some ty → IsShort ty
array-short (Some n) (Some (types.Num width lo hi)) ty h =
    let it = where-parts (nat_lt 0 n && nat_eq lo 0) (types.Array width lo hi (min n (2 ^ 32 - 1))) ty h in
    let S : Ty → Type 0 = IsShort in
    subst S it.1 (capped-short n)
array-short None element ty h = absurd (cc h)
array-short (Some n) element ty h = absurd (cc h)

written-short : (s : Setting) (t : NamedTypeTree) (ty : Ty) → written s t ≡ Some ty → IsShort ty
written-short s (slice_of at element) ty h = let it = map-parts types.Slice (plain_width element) ty h in let S : Ty → Type 0 = IsShort in subst S it.gives tt
written-short s (array_of length at element) ty h = array-short (number_of s length) (written s element) ty h
written-short s (base_type None at bounds) ty h = absurd (cc h)
written-short s (base_type (Some of) at unrefined) ty h = let same : base_of of ≡ ty = cc h in let S : Ty → Type 0 = IsShort in subst S same (base-short of)
written-short s (base_type (Some (bases.Number width)) at (refined low high)) ty h =
    let it = refined-kind width (low_number s low) (number_of s high) ty h in let S : Ty → Type 0 = IsShort in subst S (sym it.2) tt
written-short s (base_type (Some of) at (refined low high)) ty h = absurd (cc h)
written-short s (struct_type n at) ty h = let same : types.Part (record { 0 = n }) ≡ ty = cc h in let S : Ty → Type 0 = IsShort in subst S same tt

-- Of one that is declared.
declared-short : (p : NamedPackageTree) (role : Role) (t : NamedTypeTree) → IsShort (type_declared p role t)
declared-short p role t = by_type (declared (for_types p) role t) refl
  where
    by_type : (o : Option Ty) → declared (for_types p) role t ≡ o → IsShort (unwrap_or o types.Flag)
    by_type None e = tt
    by_type (Some ty) e = written-short (for_types p) t ty (declared-parts (for_types p) role t ty e).is

variables-short : (p : NamedPackageTree) (role : Role) (xs : List VarTree) (n : ℕ) (ty : Ty) → variable_at (map (typed_variable p role) xs) n ≡ Some ty → IsShort ty
variables-short p role xs n ty h =
    let V : Option Variable → Type 0 = λ o. option_map (λ (x : Variable). x.ty) o ≡ Some ty in by_variable (slice_get xs n) (subst V (slice_get-map (typed_variable p role) xs n) h)
  where
    by_variable : (o : Option VarTree) → option_map (λ (x : Variable). x.ty) (option_map (typed_variable p role) o) ≡ Some ty → IsShort ty
    by_variable None e = absurd (cc e)
    by_variable (Some x) e = let same : type_declared p role x.of ≡ ty = cc e in let S : Ty → Type 0 = IsShort in subst S same (declared-short p role x.of)

-- Of a field.
pub arrays-short : (p : NamedPackageTree) → HasShortArrays (typed_package p)
arrays-short p s n width lo hi count h =
    let S : List StructTree → Type 0 = λ ss. option_and_then (λ (it : StructTree). variable_at it.fields n) (slice_get ss s) ≡ Some (types.Array width lo hi count) in
    let M : Option StructTree → Type 0 = λ o. option_and_then (λ (it : StructTree). variable_at it.fields n) o ≡ Some (types.Array width lo hi count) in
    by_struct (slice_get p.structs s) (subst M (slice_get-map (typed_struct p) p.structs s) (subst S (typed-structs p) h))
  where
    by_struct : (o : Option NamedStructTree) → option_and_then (λ (it : StructTree). variable_at it.fields n) (option_map (typed_struct p) o) ≡ Some (types.Array width lo hi count)
        → count < 2 ^ 64
    by_struct None e = absurd (cc e)
    by_struct (Some it) e = variables-short p roles.Field it.fields n (types.Array width lo hi count) e
