-- The type of each field of a struct has the bytes that the rules of names count for it, where a package keeps the rules.
use Rattle.std.proofs.Common.{◌≡◌, ◌+◌, ℕ, zero, suc, Bool, true, false, List, [], ◌∷◌, ◌++◌, map, Option, Some, slice_get, refl, sym, ap, subst, arith}
use Rattle.std.specs.Prelude.{cond, unwrap_or}
use Rattle.std.specs.List.{AllByRecursion, list_all, flat_map, position_from}
use Rattle.wf_text.specs.declared.rules.Refusal.{Refusal}
use Rattle.wf_ast.specs.declared.types.Ty.{Ty}
use Rattle.wf_ast.specs.declared.types.Ty.TheVariants as types
use Rattle.wf_ast.specs.ParsedTree as parsed
use Rattle.wf_ast.specs.ParsedTree.{FieldTrees, DeclTree}
use Rattle.wf_ast.specs.TypedPackage as trees
use Rattle.wf_ast.specs.WellFormed.{formed_type, formed_fields, well_formed}
use Rattle.wf_ast.proofs.BoolLemmas.{both}
use Rattle.wf_named.specs.NamedTree.{NamedPackageTree, NamedStructTree}
use Rattle.wf_names_rules.specs.Declarations.{Declared, Structure, Variable, variables, structs_of, as_variable}
use Rattle.wf_names_rules.specs.NameRules.{Breaks, by_use, unknown_variable, unknown_struct, unknown}
use Rattle.wf_names_rules.specs.Uses as uses
use Rattle.wf_names_rules.specs.Uses.{Use, Scope, Site, struct_scope, constant_sites, struct_sites, method_sites, sites, type_uses, variable_uses}
use Rattle.wf_names_rules.specs.Sizes.{plain_bytes, struct_held}
use Rattle.wf_names_rules.specs.ConstantValues.{known_constants}
use Rattle.wf_names_resolve.specs.Standing.{standing_at}
use Rattle.wf_names_resolve.specs.Resolved.{resolved_type}
use Rattle.wf_names_resolve.specs.Package.{resolved_variable, resolved_structs, struct_in}
use Rattle.wf_types_rules.specs.declared.settings.Role.TheVariants as roles
use Rattle.wf_types_rules.specs.DeclaredTypes.{for_types, constants_of}
use Rattle.wf_types_rules.specs.DeclaredTypes as typing
use Rattle.wf_typed_tree.specs.ElaboratedPackage.{type_declared, typed_variable}
use Rattle.wf_typed_tree.proofs.Agreement.{AllDeclared}
use Rattle.wf_typed_tree.proofs.DeclaredLaws.{declared-parts}
use Rattle.wf_typed_laws.proofs.ListLemmas.{all-from, all-front, all-behind, all-of-map, all-of-flat, all-both}
use Rattle.wf_typed_const_laws.specs.OneValue.{IsKnown}
use Rattle.wf_typed_const_laws.specs.ArrayLengths.{is_bounded}
use Rattle.wf_typed_const_laws.proofs.Exprs.{Agree}
use Rattle.wf_typed_limit_laws.proofs.FieldBytes.{IsDeclaredStruct, FieldIs, field-is}

-- ---- lists

pub all-at : {X : Type 0} (P : X → Type 0) (xs : List X) → AllByRecursion P xs → (i : ℕ) (x : X) → slice_get xs i ≡ Some x → P x
all-at P [] a i x e = absurd (cc e)
all-at P (y ∷ xs) a zero x e = let same : y ≡ x = cc e in subst P same a.0
all-at P (y ∷ xs) a (suc i) x e = all-at P xs a.1 i x e

pub record Stands {X : Type 0} (xs : List X) (k n : ℕ) : Type 0 where
  pub i : ℕ
  pub x : X
  pub far : n ≡ k + i
  pub at : slice_get xs i ≡ Some x

-- What is found in a list stands there.
pub position-stands : {X : Type 0} (test : X → Bool) (k : ℕ) (xs : List X) (n : ℕ) → position_from test k xs ≡ Some n → Stands xs k n
position-stands test k [] n e = absurd (cc e)
position-stands {X} test k (x ∷ xs) n e = by (test x) e (position-stands test (k + 1) xs n)
  where
    by : (b : Bool) → cond b (Some k) (position_from test (k + 1) xs) ≡ Some n → (position_from test (k + 1) xs ≡ Some n → Stands xs (k + 1) n) → Stands (x ∷ xs) k n
    by true e more = let same : k ≡ n = cc e in record { i = 0; x = x; far = (let plain : n ≡ k + 0 = omega (arith, same) in plain); at = refl }
    by false e more = let rest = more e in let far = rest.far in record { i = suc rest.i; x = rest.x; far = (let one : n ≡ k + suc rest.i = omega (arith, far) in one); at = rest.at }

-- ---- what the fields of a struct use

module _ (d : Declared) (kept : (refusal : Refusal) → Breaks d refusal → ⊥) where
  pub use-known : (i : ℕ) (site : Site) → slice_get (sites d) i ≡ Some site → IsKnown d site.scope site.usage
  use-known i site e = by site.usage e
    where
      by : (usage : Use) → slice_get (sites d) i ≡ Some (record { scope = site.scope; usage = usage }) → IsKnown d site.scope usage
      by (uses.own_status text) e = tt
      by (uses.base_status text) e = tt
      by (uses.structure name) e = tt
      by (uses.method of) e = tt
      by (uses.variable path) e = λ none. kept (unknown path.name) (by_use (unknown path.name) (unknown_variable site.scope path (i, e) none))

  pub struct-known : (i : ℕ) (site : Site) → slice_get (sites d) i ≡ Some site → IsDeclaredStruct d site.usage
  struct-known i site e = by site.usage e
    where
      by : (usage : Use) → slice_get (sites d) i ≡ Some (record { scope = site.scope; usage = usage }) → IsDeclaredStruct d usage
      by (uses.own_status text) e = tt
      by (uses.base_status text) e = tt
      by (uses.structure name) e = λ none. kept (unknown name) (by_use (unknown name) (unknown_struct site.scope name (i, e) none))
      by (uses.method of) e = tt
      by (uses.variable path) e = tt

-- What holds of all uses holds of those in the types of fields.
module _ (d : Declared) (P : Scope → Use → Type 0) (each : (i : ℕ) (site : Site) → slice_get (sites d) i ≡ Some site → P site.scope site.usage) where
  abbrev AtSite : Site → Type 0
  AtSite site = P site.scope site.usage

  abbrev InFields : Structure → Type 0
  InFields s = AllByRecursion (λ v. AllByRecursion (P (struct_scope d s)) (type_uses v.of)) s.fields

  in-struct : (s : Structure) → AllByRecursion AtSite (struct_sites d s) → InFields s
  in-struct s a =
      let own = all-of-map AtSite (λ usage. record { scope = struct_scope d s; usage = usage }) (variable_uses s.fields) a in
      all-of-flat (P (struct_scope d s)) (λ v. type_uses v.of) s.fields own

  pub in-fields : AllByRecursion InFields d.structs
  in-fields =
      let all = all-from AtSite (sites d) each in
      let behind = all-behind AtSite (constant_sites [] d.constants) (flat_map (struct_sites d) d.structs ++ flat_map (method_sites d) d.methods) all in
      let structs = all-of-flat AtSite (struct_sites d) d.structs (all-front AtSite (flat_map (struct_sites d) d.structs) (flat_map (method_sites d) d.methods) behind) in
      all-both InFields (λ s. AllByRecursion AtSite (struct_sites d s)) (λ s. AllByRecursion AtSite (struct_sites d s)) (λ s a b. in-struct s a) d.structs structs structs

-- ---- the fields of a struct, by their types

fields-formed : (fields : FieldTrees) → formed_fields fields ≡ true → AllByRecursion (λ v. formed_type v.of ≡ true) (variables fields)
fields-formed parsed.no_field h = tt
fields-formed (parsed.more_fields name of others) h = let parts = both (formed_type of) (formed_fields others) h in (parts.0, fields-formed others parts.1)

pub structs-formed : (decls : List DeclTree) → list_all well_formed decls ≡ true → AllByRecursion (λ s. AllByRecursion (λ v. formed_type v.of ≡ true) s.fields) (structs_of decls)
structs-formed [] h = tt
structs-formed (parsed.status public text at ∷ decls) h = structs-formed decls h
structs-formed (parsed.constant public name of value at ∷ decls) h = structs-formed decls (both (well_formed (parsed.constant public name of value at)) (list_all well_formed decls) h).1
structs-formed (parsed.structure public name mark fields at ∷ decls) h = let parts = both (formed_fields fields) (list_all well_formed decls) h in (fields-formed fields parts.0, structs-formed decls parts.1)
structs-formed (parsed.method public owner name mark args result body at ∷ decls) h = structs-formed decls (both (well_formed (parsed.method public owner name mark args result body at)) (list_all well_formed decls) h).1

-- A declared struct has its place among the resolved ones, and the other way.
pub record IsResolved (d : Declared) (decls : List DeclTree) (i : ℕ) (it : Structure) : Type 0 where
  pub public : Bool
  pub at : slice_get (resolved_structs d decls) i ≡ Some (struct_in d public it)

pub struct-resolved : (d : Declared) (decls : List DeclTree) (i : ℕ) (it : Structure) → slice_get (structs_of decls) i ≡ Some it → IsResolved d decls i it
struct-resolved d [] i it e = absurd (cc e)
struct-resolved d (parsed.status public text at ∷ decls) i it e = let m = struct-resolved d decls i it e in record { public = m.public; at = m.at }
struct-resolved d (parsed.constant public name of value at ∷ decls) i it e = let m = struct-resolved d decls i it e in record { public = m.public; at = m.at }
struct-resolved d (parsed.method public owner name mark args result body at ∷ decls) i it e = let m = struct-resolved d decls i it e in record { public = m.public; at = m.at }
struct-resolved d (parsed.structure public name mark fields at ∷ decls) zero it e =
    let own : Structure = record { name = name; fields = variables fields } in
    let same : own ≡ it = cc e in
    record { public = public; at = ap (λ (x : Structure). Some (struct_in d public x)) same }
struct-resolved d (parsed.structure public name mark fields at ∷ decls) (suc i) it e = let m = struct-resolved d decls i it e in record { public = m.public; at = m.at }

pub record IsOfDeclared (d : Declared) (decls : List DeclTree) (i : ℕ) (n : NamedStructTree) : Type 0 where
  pub it : Structure
  pub at : slice_get (structs_of decls) i ≡ Some it
  pub public : Bool
  pub is : n ≡ struct_in d public it

pub resolved-declared : (d : Declared) (decls : List DeclTree) (i : ℕ) (n : NamedStructTree) → slice_get (resolved_structs d decls) i ≡ Some n → IsOfDeclared d decls i n
resolved-declared d [] i n e = absurd (cc e)
resolved-declared d (parsed.status public text at ∷ decls) i n e = let m = resolved-declared d decls i n e in record { it = m.it; at = m.at; public = m.public; is = m.is }
resolved-declared d (parsed.constant public name of value at ∷ decls) i n e = let m = resolved-declared d decls i n e in record { it = m.it; at = m.at; public = m.public; is = m.is }
resolved-declared d (parsed.method public owner name mark args result body at ∷ decls) i n e = let m = resolved-declared d decls i n e in record { it = m.it; at = m.at; public = m.public; is = m.is }
resolved-declared d (parsed.structure public name mark fields at ∷ decls) zero n e =
    let own : Structure = record { name = name; fields = variables fields } in
    let same : struct_in d public own ≡ n = cc e in
    record { it = own; at = refl; public = public; is = sym same }
resolved-declared d (parsed.structure public name mark fields at ∷ decls) (suc i) n e = let m = resolved-declared d decls i n e in record { it = m.it; at = m.at; public = m.public; is = m.is }

module _ (d : Declared) (p : NamedPackageTree) (agree : Agree (known_constants d) (map as_variable d.constants) (constants_of p)) where
  -- The type of a field.
  abbrev pub field_type : Structure → Variable → Ty
  field_type it v = type_declared p roles.Field (resolved_type (standing_at d (struct_scope d it)) v.of)

  -- It has the bytes, or is the struct, that the rules of names see.
  abbrev pub FieldFits : Structure → Variable → Type 0
  FieldFits it v = FieldIs (struct_held d v.of) (plain_bytes d v.of) (field_type it v)

  abbrev pub typed_fields : Structure → List Variable → List trees.Variable
  typed_fields it vs = map (typed_variable p roles.Field) (map (resolved_variable (standing_at d (struct_scope d it))) vs)

  field-fits : (it : Structure) (v : Variable) → formed_type v.of ≡ true → AllByRecursion (IsKnown d (struct_scope d it)) (type_uses v.of) → AllByRecursion (IsDeclaredStruct d) (type_uses v.of)
      → is_bounded (field_type it v) ≡ true
      → (ty : Ty) → typing.declared (for_types p) roles.Field (resolved_type (standing_at d (struct_scope d it)) v.of) ≡ Some ty → FieldFits it v
  field-fits it v f u there bounded ty e =
      let parts = declared-parts (for_types p) roles.Field (resolved_type (standing_at d (struct_scope d it)) v.of) ty e in
      let is : field_type it v ≡ ty = ap (λ (o : Option Ty). unwrap_or o types.Flag) e in
      let B : Ty → Type 0 = λ x. is_bounded x ≡ true in
      let F : Ty → Type 0 = λ x. FieldIs (struct_held d v.of) (plain_bytes d v.of) x in
      subst F (sym is) (field-is d p agree it v.of f u there ty parts.is parts.may (subst B is bounded))

  pub fields-fit : (it : Structure) (vs : List Variable) → AllByRecursion (λ v. formed_type v.of ≡ true) vs → AllByRecursion (λ v. AllByRecursion (IsKnown d (struct_scope d it)) (type_uses v.of)) vs
      → AllByRecursion (λ v. AllByRecursion (IsDeclaredStruct d) (type_uses v.of)) vs → list_all (λ x. is_bounded x.ty) (typed_fields it vs) ≡ true
      → AllDeclared p roles.Field (map (resolved_variable (standing_at d (struct_scope d it))) vs) → AllByRecursion (FieldFits it) vs
  fields-fit it [] f u there bounded all = tt
  fields-fit it (v ∷ vs) f u there bounded all =
      let b = both (is_bounded (field_type it v)) (list_all (λ x. is_bounded x.ty) (typed_fields it vs)) bounded in
      (field-fits it v f.0 u.0 there.0 b.0 all.0.0 all.0.1, fields-fit it vs f.1 u.1 there.1 b.1 all.1)
