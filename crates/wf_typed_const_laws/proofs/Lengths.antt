-- In a package that is read and keeps the rules of names constants have one value, and arrays at most 65,536 elements.
use Rattle.std.proofs.Common.{◌≡◌, ℕ, zero, suc, ◌+◌, ◌-◌, ◌^◌, ◌<◌, ◌≤◌, Bool, true, false, ◌&&◌, ◌||◌, List, [], ◌∷◌, ◌++◌, map, Option, Some, None, slice_get, nat_lt, refl, sym, ap, ◌∙◌, subst, arith}
use Rattle.std.specs.List.{AllByRecursion, list_all, flat_map}
use Rattle.std.specs.Prelude.{if◌then◌else◌, min, nat_eq, nat_le, unwrap_or, option_map, option_and_then}
use Rattle.std.proofs.lemmas.Bool.Decides.{nat_tests}
use Rattle.wf_text.specs.declared.place.Place.{Place}
use Rattle.wf_text.specs.declared.rules.Refusal.{Refusal}
use Rattle.wf_text.specs.declared.rules.Rule.TheVariants.{L7}
use Rattle.wf_base.specs.declared.widths.Width.{Width}
use Rattle.wf_base.specs.BaseTable.{bits_of}
use Rattle.wf_ast.specs.declared.types.Ty.{Ty}
use Rattle.wf_ast.specs.declared.types.Ty.TheVariants as types
use Rattle.wf_ast.specs.ParsedTree as parsed
use Rattle.wf_ast.specs.ParsedTree.{ExprTree, TypeTree, FieldTrees, DeclTree}
use Rattle.wf_ast.specs.TypedPackage.{Variable as TypedVariable, StructTree}
use Rattle.wf_ast.specs.ReadPackage.{decls_of}
use Rattle.wf_ast.specs.WellFormed.{formed_expr, formed_type, formed_fields, well_formed}
use Rattle.wf_ast.proofs.BoolLemmas.{both, and-true}
use Rattle.wf_named.specs.declared.nodes.BaseType.{BaseType}
use Rattle.wf_named.specs.declared.nodes.BaseType.TheVariants as bases
use Rattle.wf_named.specs.NamedTree as named
use Rattle.wf_named.specs.NamedTree.{NamedBoundsTree, NamedMethodTree, NamedPackageTree, VarTree}
use Rattle.wf_parse.proofs.ReadForms.{packages_are_well_formed}
use Rattle.wf_names_rules.specs.Declarations.{Declared, Structure, Variable, declared, variables, structs_of, as_variable, struct_named, text_of}
use Rattle.wf_names_rules.specs.NameRules.{Breaks, by_use, by_size, unknown_variable, too_long_array, unknown, field}
use Rattle.wf_names_rules.specs.Uses as uses
use Rattle.wf_names_rules.specs.Uses.{Use, Site, struct_scope, constant_sites, struct_sites, method_sites, sites, type_uses, uses_of, variable_uses}
use Rattle.wf_names_rules.specs.Sizes.{is_too_long, number_or_zero, hidden_by}
use Rattle.wf_names_rules.specs.ConstantValues.{Sized, Valued, value_of, known_constants}
use Rattle.wf_names_resolve.specs.Standing.{Standing, standing_at}
use Rattle.wf_names_resolve.specs.Resolved.{number_or, resolved_expr, resolved_type, resolved_bounds, base_type_named}
use Rattle.wf_names_resolve.specs.Package.{resolved_variable, resolved_structs, resolved_methods, resolved_package}
use Rattle.wf_types_rules.specs.declared.meanings.Constant.{Constant}
use Rattle.wf_types_rules.specs.declared.settings.Setting.{Setting}
use Rattle.wf_types_rules.specs.declared.settings.Form.TheVariants as forms
use Rattle.wf_types_rules.specs.declared.settings.Role.{Role}
use Rattle.wf_types_rules.specs.declared.settings.Role.TheVariants as roles
use Rattle.wf_types_rules.specs.ExprTypes.{meaning, number_of, low_number, plain_width, written, array_type, refined_type}
use Rattle.wf_types_rules.specs.DeclaredTypes.{if_allowed, may_have, may_be, is_zero_kept, for_types, constants_of}
use Rattle.wf_typed_tree.specs.ElaboratedPackage.{type_declared, typed_variable, typed_struct, typed_methods, typed_package}
use Rattle.wf_typed_tree.specs.ElaboratedStmts.{count_block}
use Rattle.wf_lower_laws.specs.FieldLaw.{is_short}
use Rattle.wf_typed_laws.proofs.ListLemmas.{all-from, all-front, all-behind, all-of-map, all-of-flat, all-both}
use Rattle.wf_typed_const_laws.specs.OneValue.{HasConstant, IsKnown, HasOneValue, ReadConstantsHaveOneValue}
use Rattle.wf_typed_const_laws.specs.ArrayLengths.{is_bounded, HasBoundedArrays, ReadArraysAreBounded}
use Rattle.wf_typed_const_laws.proofs.Exprs.{Agree, expr-value}
use Rattle.wf_typed_const_laws.proofs.Constants.{number-value, SiteIsKnown, constants-agree, constants-formed}

-- ---- constants

agree-at : (ks : List Valued) (vs : List Variable) (cs : List (Option Constant)) → Agree ks vs cs → (i : ℕ) (c : Constant) → slice_get cs i ≡ Some (Some c)
    → (v : Valued) × ((slice_get ks i ≡ Some v) × HasConstant v.value (Some c))
agree-at [] [] [] a i c e = absurd (cc e)
agree-at [] [] (x ∷ cs) a i c e = absurd a
agree-at [] (x ∷ vs) cs a i c e = absurd a
agree-at (x ∷ ks) [] cs a i c e = absurd a
agree-at (x ∷ ks) (y ∷ vs) [] a i c e = absurd a
agree-at (x ∷ ks) (y ∷ vs) (z ∷ cs) a zero c e =
    let same : z ≡ Some c = cc e in
    (x, (refl, subst (HasConstant x.value) same a.1.0))
agree-at (x ∷ ks) (y ∷ vs) (z ∷ cs) a (suc i) c e = agree-at ks vs cs a.1.1 i c e

module _ (d : Declared) (kept : (refusal : Refusal) → Breaks d refusal → ⊥) where
  site-known : (i : ℕ) (site : Site) → slice_get (sites d) i ≡ Some site → SiteIsKnown d site
  site-known i site e = by site.usage e
    where
      by : (usage : Use) → slice_get (sites d) i ≡ Some (record { scope = site.scope; usage = usage }) → IsKnown d site.scope usage
      by (uses.own_status text) e = tt
      by (uses.base_status text) e = tt
      by (uses.structure name) e = tt
      by (uses.method of) e = tt
      by (uses.variable path) e = λ none. kept (unknown path.name) (by_use (unknown path.name) (unknown_variable site.scope path (i, e) none))

  abbrev Sites : List Site → Type 0
  Sites xs = AllByRecursion (SiteIsKnown d) xs

  all-sites : Sites (sites d)
  all-sites = all-from (SiteIsKnown d) (sites d) site-known

  constant-sites-known : Sites (constant_sites [] d.constants)
  constant-sites-known = all-front (SiteIsKnown d) (constant_sites [] d.constants) (flat_map (struct_sites d) d.structs ++ flat_map (method_sites d) d.methods) all-sites

  abbrev FieldIsKnown : Structure → Variable → Type 0
  FieldIsKnown s v = AllByRecursion (IsKnown d (struct_scope d s)) (type_uses v.of)

  abbrev FieldsAreKnown : Structure → Type 0
  FieldsAreKnown s = AllByRecursion (FieldIsKnown s) s.fields

  struct-known : (s : Structure) → Sites (struct_sites d s) → FieldsAreKnown s
  struct-known s a =
      let us = all-of-map (SiteIsKnown d) (λ usage. record { scope = struct_scope d s; usage = usage }) (variable_uses s.fields) a in
      all-of-flat (IsKnown d (struct_scope d s)) (λ v. type_uses v.of) s.fields us

  fields-known : AllByRecursion FieldsAreKnown d.structs
  fields-known =
      let behind = all-behind (SiteIsKnown d) (constant_sites [] d.constants) (flat_map (struct_sites d) d.structs ++ flat_map (method_sites d) d.methods) all-sites in
      let structs = all-of-flat (SiteIsKnown d) (struct_sites d) d.structs (all-front (SiteIsKnown d) (flat_map (struct_sites d) d.structs) (flat_map (method_sites d) d.methods) behind) in
      all-both FieldsAreKnown (λ s. Sites (struct_sites d s)) (λ s. Sites (struct_sites d s)) (λ s a b. struct-known s a) d.structs structs structs

  abbrev FieldIsShort : Variable → Type 0
  FieldIsShort v = is_too_long d [] v.of ≡ false

  field-short : (i : ℕ) (s : Structure) → slice_get d.structs i ≡ Some s → (j : ℕ) (v : Variable) → slice_get s.fields j ≡ Some v → FieldIsShort v
  field-short i s e j v g = by (is_too_long d [] v.of) refl
    where
      by : (t : Bool) → is_too_long d [] v.of ≡ t → FieldIsShort v
      by false h = h
      by true h =
          let refusal : Refusal = record { rule = L7; at = v.name.at } in
          absurd (kept refusal (by_size refusal (too_long_array [] v (field s j v (i, e) g) h)))

  fields-short : AllByRecursion (λ s. AllByRecursion FieldIsShort s.fields) d.structs
  fields-short = all-from (λ s. AllByRecursion FieldIsShort s.fields) d.structs (λ i s e. all-from FieldIsShort s.fields (field-short i s e))

-- ---- types

any-bounded : (test : Bool) (ty : Ty) → is_bounded ty ≡ true → is_bounded (unwrap_or (if test then Some ty else None) types.Flag) ≡ true
any-bounded true ty h = h
any-bounded false ty h = refl

field-allowed : (ty : Option Ty) → ((t : Ty) → ty ≡ Some t → is_bounded t ≡ true) → is_bounded (unwrap_or (option_and_then (if_allowed roles.Field) ty) types.Flag) ≡ true
field-allowed None h = refl
field-allowed (Some ty) h = any-bounded (may_be roles.Field ty && is_zero_kept roles.Field ty) ty (h ty refl)

-- Where no array may stand, as an argument or as a local.
abbrev HasNoArrays : Role → Type 0
HasNoArrays role = may_have role forms.Array ≡ false

no-array : (role : Role) → HasNoArrays role → (ty : Option Ty) → is_bounded (unwrap_or (option_and_then (if_allowed role) ty) types.Flag) ≡ true
no-array role h None = refl
no-array role h (Some (types.Array width lo hi count)) = rw h refl
no-array role h (Some types.Flag) = any-bounded (may_be role types.Flag && is_zero_kept role types.Flag) types.Flag refl
no-array role h (Some types.Status) = any-bounded (may_be role types.Status && is_zero_kept role types.Status) types.Status refl
no-array role h (Some types.Reader) = any-bounded (may_be role types.Reader && is_zero_kept role types.Reader) types.Reader refl
no-array role h (Some types.Writer) = any-bounded (may_be role types.Writer && is_zero_kept role types.Writer) types.Writer refl
no-array role h (Some (types.Part part)) = any-bounded (may_be role (types.Part part) && is_zero_kept role (types.Part part)) (types.Part part) refl
no-array role h (Some (types.Slice width)) = any-bounded (may_be role (types.Slice width) && is_zero_kept role (types.Slice width)) (types.Slice width) refl
no-array role h (Some (types.Num width lo hi)) = any-bounded (may_be role (types.Num width lo hi) && is_zero_kept role (types.Num width lo hi)) (types.Num width lo hi) refl

-- A base type is no array.
refined-bounded : (width : Width) (low high : Option ℕ) (ty : Ty) → refined_type width low high ≡ Some ty → is_bounded ty ≡ true
refined-bounded width None high ty e = absurd (cc e)
refined-bounded width (Some m) None ty e = absurd (cc e)
refined-bounded width (Some m) (Some n) ty e = by (nat_le m n && nat_lt n (2 ^ bits_of width)) e
  where
    by : (t : Bool) → (if t then Some (types.Num width m n) else None) ≡ Some ty → is_bounded ty ≡ true
    by true e = let same : types.Num width m n ≡ ty = cc e in ap is_bounded (sym same)
    by false e = absurd (cc e)

base-bounded : (s : Setting) (b : Option BaseType) (at : Place) (bounds : NamedBoundsTree) (ty : Ty) → written s (named.base_type b at bounds) ≡ Some ty → is_bounded ty ≡ true
base-bounded s None at bounds ty e = absurd (cc e)
base-bounded s (Some (bases.Number width)) at named.unrefined ty e = let same : types.Num width 0 (2 ^ bits_of width - 1) ≡ ty = cc e in ap is_bounded (sym same)
base-bounded s (Some bases.Flag) at named.unrefined ty e = let same : types.Flag ≡ ty = cc e in ap is_bounded (sym same)
base-bounded s (Some bases.Status) at named.unrefined ty e = let same : types.Status ≡ ty = cc e in ap is_bounded (sym same)
base-bounded s (Some bases.Reader) at named.unrefined ty e = let same : types.Reader ≡ ty = cc e in ap is_bounded (sym same)
base-bounded s (Some bases.Writer) at named.unrefined ty e = let same : types.Writer ≡ ty = cc e in ap is_bounded (sym same)
base-bounded s (Some (bases.Number width)) at (named.refined low high) ty e = refined-bounded width (low_number s low) (number_of s high) ty e
base-bounded s (Some bases.Flag) at (named.refined low high) ty e = absurd (cc e)
base-bounded s (Some bases.Status) at (named.refined low high) ty e = absurd (cc e)
base-bounded s (Some bases.Reader) at (named.refined low high) ty e = absurd (cc e)
base-bounded s (Some bases.Writer) at (named.refined low high) ty e = absurd (cc e)

-- An array is as long as its length says.
array-bounded : (count : Option ℕ) (element : Option Ty) → ((n : ℕ) → count ≡ Some n → n ≤ 65536) → (ty : Ty) → array_type count element ≡ Some ty → is_bounded ty ≡ true
array-bounded None element h ty e = absurd (cc e)
array-bounded (Some n) None h ty e = absurd (cc e)
array-bounded (Some n) (Some types.Flag) h ty e = absurd (cc e)
array-bounded (Some n) (Some types.Status) h ty e = absurd (cc e)
array-bounded (Some n) (Some types.Reader) h ty e = absurd (cc e)
array-bounded (Some n) (Some types.Writer) h ty e = absurd (cc e)
array-bounded (Some n) (Some (types.Part part)) h ty e = absurd (cc e)
array-bounded (Some n) (Some (types.Slice width)) h ty e = absurd (cc e)
array-bounded (Some n) (Some (types.Array width lo hi count)) h ty e = absurd (cc e)
array-bounded (Some n) (Some (types.Num width lo hi)) h ty e = by (nat_lt 0 n && nat_eq lo 0) e
  where
    by : (t : Bool) → (if t then Some (types.Array width lo hi (min n (2 ^ 32 - 1))) else None) ≡ Some ty → is_bounded ty ≡ true
    by false e = absurd (cc e)
    by true e =
        let same : types.Array width lo hi (min n (2 ^ 32 - 1)) ≡ ty = cc e in
        let most = h n refl in
        let least : min n (2 ^ 32 - 1) ≤ 65536 = omega (arith, most) in
        let test : nat_le (min n (2 ^ 32 - 1)) 65536 ≡ true = grind (arith, nat_tests, least) in
        sym (ap is_bounded same) ∙ test

or-false : (a b : Bool) → (a || b) ≡ false → a ≡ false
or-false true b h = absurd (cc h)
or-false false b h = refl

module _ (d : Declared) (p : NamedPackageTree) (agree : Agree (known_constants d) (map as_variable d.constants) (constants_of p)) where
  abbrev k : Structure → Standing
  k it = standing_at d (struct_scope d it)

  length-bounded : (it : Structure) (length : ExprTree) → formed_expr length ≡ true → AllByRecursion (IsKnown d (struct_scope d it)) (uses_of length)
      → nat_lt 65536 (number_or_zero (value_of d (hidden_by []) (known_constants d) length)) ≡ false → (n : ℕ) → number_of (for_types p) (resolved_expr (k it) length) ≡ Some n → n ≤ 65536
  length-bounded it length f u short n e =
      let value = expr-value d (struct_scope d it) (known_constants d) (constants_of p) agree length f u in
      let number = number-value (value_of d (hidden_by []) (known_constants d) length) (meaning (for_types p) (resolved_expr (k it) length)) n value e in
      let P : Option Sized → Type 0 = λ x. nat_lt 65536 (number_or_zero x) ≡ false in
      let least : nat_lt 65536 n ≡ false = subst P number.1 short in
      grind (arith, nat_tests, least)

  written-bounded : (it : Structure) (t : TypeTree) → formed_type t ≡ true → AllByRecursion (IsKnown d (struct_scope d it)) (type_uses t) → is_too_long d [] t ≡ false → (ty : Ty)
      → written (for_types p) (resolved_type (k it) t) ≡ Some ty → is_bounded ty ≡ true
  written-bounded it (parsed.slice_of at element) f u short ty e = by (plain_width (resolved_type (k it) element)) e
    where
      by : (w : Option Width) → option_map types.Slice w ≡ Some ty → is_bounded ty ≡ true
      by None e = absurd (cc e)
      by (Some w) e = let same : types.Slice w ≡ ty = cc e in ap is_bounded (sym same)
  written-bounded it (parsed.array_of length at element) f u short ty e =
      let parts = both (formed_expr length) (formed_type element) f in
      let here = or-false (nat_lt 65536 (number_or_zero (value_of d (hidden_by []) (known_constants d) length))) (is_too_long d [] element) short in
      let known = all-front (IsKnown d (struct_scope d it)) (uses_of length) (type_uses element) u in
      array-bounded (number_of (for_types p) (resolved_expr (k it) length)) (written (for_types p) (resolved_type (k it) element)) (length-bounded it length parts.0 known here) ty e
  written-bounded it (parsed.base_type name at bounds) f u short ty e = base-bounded (for_types p) (base_type_named (text_of d name.text.0)) at (resolved_bounds (k it) bounds) ty e
  written-bounded it (parsed.status_type at bounds) f u short ty e = base-bounded (for_types p) (Some bases.Status) at (resolved_bounds (k it) bounds) ty e
  written-bounded it (parsed.struct_type name) f u short ty e = let same : types.Part (record { 0 = number_or (struct_named d name.text.0) }) ≡ ty = cc e in ap is_bounded (sym same)

  abbrev FieldIsBounded : Structure → Variable → Type 0
  FieldIsBounded it v = is_bounded (type_declared p roles.Field (resolved_type (k it) v.of)) ≡ true

  field-bounded : (it : Structure) (v : Variable) → formed_type v.of ≡ true → AllByRecursion (IsKnown d (struct_scope d it)) (type_uses v.of) → is_too_long d [] v.of ≡ false → FieldIsBounded it v
  field-bounded it v f u short = field-allowed (written (for_types p) (resolved_type (k it) v.of)) (written-bounded it v.of f u short)

  typed-fields : (it : Structure) (vs : List Variable) → AllByRecursion (FieldIsBounded it) vs → list_all (λ x. is_bounded x.ty) (map (typed_variable p roles.Field) (map (resolved_variable (k it)) vs)) ≡ true
  typed-fields it [] a = refl
  typed-fields it (v ∷ vs) a =
      and-true (is_bounded (type_declared p roles.Field (resolved_type (k it) v.of))) (list_all (λ x. is_bounded x.ty) (map (typed_variable p roles.Field) (map (resolved_variable (k it)) vs))) a.0 (typed-fields it vs a.1)

  abbrev HasBounded : StructTree → Bool
  HasBounded it = list_all (λ x. is_bounded x.ty) it.fields

  typed-structs : (decls : List DeclTree) → AllByRecursion (λ it. AllByRecursion (FieldIsBounded it) it.fields) (structs_of decls) → list_all HasBounded (map (typed_struct p) (resolved_structs d decls)) ≡ true
  typed-structs [] a = refl
  typed-structs (parsed.status public text at ∷ decls) a = typed-structs decls a
  typed-structs (parsed.constant public name of value at ∷ decls) a = typed-structs decls a
  typed-structs (parsed.method public owner name mark args result body at ∷ decls) a = typed-structs decls a
  typed-structs (parsed.structure public name mark fields at ∷ decls) a =
      let it : Structure = record { name = name; fields = variables fields } in
      and-true (list_all (λ x. is_bounded x.ty) (map (typed_variable p roles.Field) (map (resolved_variable (k it)) (variables fields)))) (list_all HasBounded (map (typed_struct p) (resolved_structs d decls)))
      (typed-fields it (variables fields) a.0) (typed-structs decls a.1)

-- Arguments and locals.
typed-variables : (p : NamedPackageTree) (role : Role) → HasNoArrays role → (xs : List VarTree) → list_all (λ x. is_bounded x.ty) (map (typed_variable p role) xs) ≡ true
typed-variables p role h [] = refl
typed-variables p role h (x ∷ xs) =
    and-true (is_bounded (type_declared p role x.of)) (list_all (λ x. is_bounded x.ty) (map (typed_variable p role) xs)) (no-array role h (written (for_types p) x.of)) (typed-variables p role h xs)

methods-args : (p : NamedPackageTree) (n : ℕ) (ms : List NamedMethodTree) → list_all (λ m. list_all (λ x. is_bounded x.ty) m.args) (typed_methods p n ms) ≡ true
methods-args p n [] = refl
methods-args p n (m ∷ ms) =
    and-true (list_all (λ x. is_bounded x.ty) (map (typed_variable p roles.Arg) m.args)) (list_all (λ m. list_all (λ x. is_bounded x.ty) m.args) (typed_methods p (n + count_block m.body) ms)) (typed-variables p roles.Arg refl m.args) (methods-args p (n + count_block m.body) ms)

methods-locals : (p : NamedPackageTree) (n : ℕ) (ms : List NamedMethodTree) → list_all (λ m. list_all (λ x. is_bounded x.ty) m.locals) (typed_methods p n ms) ≡ true
methods-locals p n [] = refl
methods-locals p n (m ∷ ms) =
    and-true (list_all (λ x. is_bounded x.ty) (map (typed_variable p roles.Local) m.locals)) (list_all (λ m. list_all (λ x. is_bounded x.ty) m.locals) (typed_methods p (n + count_block m.body) ms)) (typed-variables p roles.Local refl m.locals) (methods-locals p (n + count_block m.body) ms)

-- Such an array is short enough for C.
short-from : (ty : Ty) → is_bounded ty ≡ true → is_short ty ≡ true
short-from (types.Array width lo hi count) h = let least : count ≤ 65536 = grind (arith, nat_tests, h) in let below : count < 2 ^ 31 = omega (arith, least) in grind (arith, nat_tests, below)
short-from types.Flag h = refl
short-from types.Status h = refl
short-from types.Reader h = refl
short-from types.Writer h = refl
short-from (types.Part part) h = refl
short-from (types.Slice width) h = refl
short-from (types.Num width lo hi) h = refl

all-implied : {X : Type 0} (f g : X → Bool) → ((x : X) → f x ≡ true → g x ≡ true) → (xs : List X) → list_all f xs ≡ true → list_all g xs ≡ true
all-implied f g h [] a = refl
all-implied f g h (x ∷ xs) a = let parts = both (f x) (list_all f xs) a in and-true (g x) (list_all g xs) (h x parts.0) (all-implied f g h xs parts.1)

-- ---- packages

fields-formed : (fields : FieldTrees) → formed_fields fields ≡ true → AllByRecursion (λ v. formed_type v.of ≡ true) (variables fields)
fields-formed parsed.no_field h = tt
fields-formed (parsed.more_fields name of others) h = let parts = both (formed_type of) (formed_fields others) h in (parts.0, fields-formed others parts.1)

structs-formed : (decls : List DeclTree) → list_all well_formed decls ≡ true → AllByRecursion (λ s. AllByRecursion (λ v. formed_type v.of ≡ true) s.fields) (structs_of decls)
structs-formed [] h = tt
structs-formed (parsed.status public text at ∷ decls) h = structs-formed decls h
structs-formed (parsed.constant public name of value at ∷ decls) h = structs-formed decls (both (well_formed (parsed.constant public name of value at)) (list_all well_formed decls) h).1
structs-formed (parsed.structure public name mark fields at ∷ decls) h = let parts = both (formed_fields fields) (list_all well_formed decls) h in (fields-formed fields parts.0, structs-formed decls parts.1)
structs-formed (parsed.method public owner name mark args result body at ∷ decls) h = structs-formed decls (both (well_formed (parsed.method public owner name mark args result body at)) (list_all well_formed decls) h).1

module _ (name : List ℕ) (texts : List (List ℕ)) (decls : List DeclTree) (order struct_order : List ℕ) (formed : list_all well_formed decls ≡ true) (kept : (refusal : Refusal) → Breaks (declared texts decls) refusal → ⊥) where
  abbrev d : Declared
  d = declared texts decls

  abbrev p : NamedPackageTree
  p = resolved_package name texts decls order struct_order

  pub agreed : Agree (known_constants (declared texts decls)) (map as_variable (declared texts decls).constants) (constants_of (resolved_package name texts decls order struct_order))
  agreed = constants-agree d d.constants [] [] [] tt (constants-formed decls formed) (constant-sites-known d kept)

  one-value : HasOneValue d p
  one-value =
      record {
        constants = agree-at (known_constants d) (map as_variable d.constants) (constants_of p) agreed;
        exprs = λ scope e same f u.
            expr-value d scope (known_constants d) (constants_of p) (subst (λ (vs : List Variable). Agree (known_constants d) vs (constants_of p)) (sym same) agreed) e f u;
      }

  all-fields : AllByRecursion (λ it. AllByRecursion (FieldIsBounded d p agreed it) it.fields) d.structs
  all-fields =
      let form = structs-formed decls formed in
      let known = fields-known d kept in
      let short = fields-short d kept in
      let two = all-both (λ it. AllByRecursion (λ v. FieldIsKnown d kept it v × FieldIsShort d kept v) it.fields) (FieldsAreKnown d kept) (λ it. AllByRecursion (FieldIsShort d kept) it.fields)
      (λ it a b. all-both (λ v. FieldIsKnown d kept it v × FieldIsShort d kept v) (FieldIsKnown d kept it) (FieldIsShort d kept) (λ v x y. (x, y)) it.fields a b) d.structs known short in
      all-both (λ it. AllByRecursion (FieldIsBounded d p agreed it) it.fields) (λ it. AllByRecursion (λ v. formed_type v.of ≡ true) it.fields)
      (λ it. AllByRecursion (λ v. FieldIsKnown d kept it v × FieldIsShort d kept v) it.fields)
      (λ it a b. all-both (FieldIsBounded d p agreed it) (λ v. formed_type v.of ≡ true) (λ v. FieldIsKnown d kept it v × FieldIsShort d kept v)
      (λ v x y. field-bounded d p agreed it v x y.0 y.1) it.fields a b) d.structs form two

  bounded-arrays : HasBoundedArrays (typed_package p)
  unfolding typed_package
  bounded-arrays =
      let fields = typed-structs d p agreed decls all-fields in
      record {
        fields = fields;
        args = methods-args p 0 (resolved_methods d decls);
        locals = methods-locals p 0 (resolved_methods d decls);
        short = all-implied (λ (s : StructTree). list_all (λ x. is_bounded x.ty) s.fields) (λ s. list_all (λ x. is_short x.ty) s.fields)
            (λ s. all-implied (λ (x : TypedVariable). is_bounded x.ty) (λ x. is_short x.ty) (λ x. short-from x.ty) s.fields) (map (typed_struct p) (resolved_structs d decls)) fields;
      }

pub read_constants_have_one_value : ReadConstantsHaveOneValue
read_constants_have_one_value name files read is kept order struct_order = one-value read.name read.texts (decls_of read) order struct_order (packages_are_well_formed name files read is) kept

pub read_arrays_are_bounded : ReadArraysAreBounded
read_arrays_are_bounded name files read is kept order struct_order = bounded-arrays read.name read.texts (decls_of read) order struct_order (packages_are_well_formed name files read is) kept
