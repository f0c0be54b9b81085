-- What stands round the body of a method of a package that breaks no rule is what stands round its typed body.
use Rattle.std.proofs.Common.{◌≡◌, ℕ, zero, suc, ◌+◌, ◌^◌, Bool, true, false, List, [], ◌∷◌, ◌++◌, length, map, Option, Some, None, refl, sym, ap, ◌∙◌, subst, arith, nat_lt, nat_eq, length-append}
use Rattle.std.specs.Prelude.{option_and_then, option_map, is_some, if◌then◌else◌, slice_get, unwrap_or}
use Rattle.std.specs.Bool.{⊤}
use Rattle.std.specs.List.{list_all, flat_map}
use Rattle.std.proofs.lemmas.Bool.Decides.{nat_tests}
use Rattle.std.proofs.lemmas.Option.{slice_get-map}
use Rattle.std.proofs.lemmas.List.{length-map}
use Rattle.wf_base.specs.declared.widths.Width.{Width}
use Rattle.wf_base.specs.declared.base_methods.Kind.{Kind}
use Rattle.wf_base.specs.BaseTable.{bits_of}
use Rattle.wf_ast.specs.declared.types.Ty.{Ty}
use Rattle.wf_ast.specs.declared.types.Ty.TheVariants as types
use Rattle.wf_ast.specs.BaseStatuses.{base_statuses}
use Rattle.wf_ast.specs.TypedPackage.{StructTree}
use Rattle.wf_ast.specs.TypedPackage as trees
use Rattle.wf_ast.specs.WellTyped.{type_at, variable_at, field_at}
use Rattle.wf_named.specs.declared.nodes.Variable.{Variable}
use Rattle.wf_named.specs.declared.nodes.Variable.TheVariants as variables
use Rattle.wf_named.specs.NamedTree.{NamedTypeTree, VarTree, ConstTree, NamedStructTree, NamedMethodTree, NamedPackageTree}
use Rattle.wf_named.specs.WellNamed.{NamedScope, fields_in, type_of_variable, kind_of, has_kind, named_type, named_consts, named_structs, named_method, named_result, named_block, scope_of_const, scope_of_struct, scope_of_method, all_whole, calls_in_front, has_struct_order, has_few_variables, well_named}
use Rattle.wf_types_rules.specs.declared.meanings.Constant.{Constant}
use Rattle.wf_types_rules.specs.declared.meanings.Meaning.{Meaning}
use Rattle.wf_types_rules.specs.declared.meanings.Meaning.TheVariants as meanings
use Rattle.wf_types_rules.specs.declared.settings.Setting.{Setting}
use Rattle.wf_types_rules.specs.Meanings.{there, as_constant, variable}
use Rattle.wf_types_rules.specs.Operands.{bits_in}
use Rattle.wf_types_rules.specs.declared.settings.Role.{Role}
use Rattle.wf_types_rules.specs.declared.settings.Role.TheVariants as roles
use Rattle.wf_types_rules.specs.DeclaredTypes.{may_be, declared, constants_of, for_types, types_in, in_method}
use Rattle.wf_types_rules.specs.Parts.{status_declared, at_sites, declared_parts, variables_parts, result_parts, method_sites, whole_body, block_parts, const_sites, sites}
use Rattle.wf_types_rules.specs.FirstBreak.{deciding}
use Rattle.wf_typed_tree.specs.ElaboratedExprs.{path_to}
use Rattle.wf_typed_tree.specs.ElaboratedPackage.{seen_text, typed_variable, typed_struct, typed_package, context_of}
use Rattle.wf_typed_tree.specs.MeaningTrees.{IsSound, kind_of_type, kind_meant, Agree}
use Rattle.wf_typed_tree.proofs.NumberLemmas.{both, map-parts}
use Rattle.wf_typed_tree.proofs.NoBreaks.{AllFine, fine-split}
use Rattle.wf_typed_tree.proofs.KnownMeanings.{HasValue, type-known}
use Rattle.wf_typed_tree.proofs.DeclaredLaws.{HasRange, written-range, declared-parts, placed-known, only_constants, type-renamed}
use Rattle.wf_typed_tree.proofs.ConstantLaws.{type-kind, AllFineSites, sites-fine, sites-split, parts-fine, AllMade, made-at, constants-known, ConstantsAre, constants-are}

-- What is fine and named of each part of a package.
pub record PackageIs (p : NamedPackageTree) : Type 0 where
  pub constants : ConstantsAre [] p.consts
  pub fields : (i : ℕ) (it : NamedStructTree) → slice_get p.structs i ≡ Some it → AllFine p (for_types p) (variables_parts roles.Field it.fields)
  pub structs_named : named_structs p 0 p.structs ≡ true
  pub methods : (i : ℕ) (m : NamedMethodTree) → slice_get p.methods i ≡ Some m → AllFineSites p (method_sites p m)
  pub methods_named : (i : ℕ) (m : NamedMethodTree) → slice_get p.methods i ≡ Some m → named_method p m ≡ true
  pub whole : all_whole p 0 p.structs ≡ true
  pub ordered : nat_eq (length p.order) (length p.methods) ≡ true
  pub in_front : calls_in_front p [] p.order ≡ true
  pub held_in_front : has_struct_order p ≡ true
  pub few : list_all has_few_variables p.methods ≡ true

struct-fine : (p : NamedPackageTree) (s : Setting) (ss : List NamedStructTree) → AllFine p s (flat_map (λ x. variables_parts roles.Field x.fields) ss) → (i : ℕ) (it : NamedStructTree)
    → slice_get ss i ≡ Some it → AllFine p s (variables_parts roles.Field it.fields)
struct-fine p s [] h i it e = absurd (cc e)
struct-fine p s (x ∷ xs) h zero it e =
    let F : NamedStructTree → Type 0 = λ y. AllFine p s (variables_parts roles.Field y.fields) in
    subst F (let same : x ≡ it = cc e in same) (fine-split p s (variables_parts roles.Field x.fields) (flat_map (λ x. variables_parts roles.Field x.fields) xs) h).0
struct-fine p s (x ∷ xs) h (suc i) it e =
    struct-fine p s xs (fine-split p s (variables_parts roles.Field x.fields) (flat_map (λ x. variables_parts roles.Field x.fields) xs) h).1 i it e

method-fine : (p : NamedPackageTree) (ms : List NamedMethodTree) → AllFineSites p (flat_map (method_sites p) ms) → (i : ℕ) (m : NamedMethodTree) → slice_get ms i ≡ Some m
    → AllFineSites p (method_sites p m)
method-fine p [] h i m e = absurd (cc e)
method-fine p (x ∷ xs) h zero m e =
    let F : NamedMethodTree → Type 0 = λ y. AllFineSites p (method_sites p y) in
    subst F (let same : x ≡ m = cc e in same) (sites-split p (method_sites p x) (flat_map (method_sites p) xs) h).0
method-fine p (x ∷ xs) h (suc i) m e = method-fine p xs (sites-split p (method_sites p x) (flat_map (method_sites p) xs) h).1 i m e

pub at-each : {X : Type 0} (test : X → Bool) (xs : List X) → list_all test xs ≡ true → (i : ℕ) (x : X) → slice_get xs i ≡ Some x → test x ≡ true
at-each test [] h i x e = absurd (cc e)
at-each {X} test (y ∷ ys) h zero x e = let P : X → Type 0 = λ z. test z ≡ true in subst P (let same : y ≡ x = cc e in same) (both (test y) (list_all test ys) h).0
at-each test (y ∷ ys) h (suc i) x e = at-each test ys (both (test y) (list_all test ys) h).1 i x e

pub package-is : (p : NamedPackageTree) → deciding p ≡ None → well_named p ≡ true → PackageIs p
unfolding well_named sites
package-is p none named =
    let fine : AllFineSites p (sites p) = sites-fine p none in
    let consts = sites-split p (const_sites [] p.consts) _ fine in
    let statuses = sites-split p (at_sites (for_types p) (map status_declared p.statuses)) _ consts.1 in
    let structs = sites-split p (at_sites (for_types p) (flat_map (λ x. variables_parts roles.Field x.fields) p.structs)) _ statuses.1 in
    let names = both (named_consts p 0 p.consts) _ named in
    let structs_named = both (named_structs p 0 p.structs) _ names.1 in
    let methods_named = both (list_all (named_method p) p.methods) _ structs_named.1 in
    let whole = both (all_whole p 0 p.structs) _ methods_named.1 in
    let order = both (nat_eq (length p.order) (length p.methods)) _ whole.1 in
    let front = both (calls_in_front p [] p.order) _ order.1 in
    let held = both (has_struct_order p) _ front.1 in
    record {
      constants = constants-are p [] p.consts tt consts.0 names.0;
      fields = λ i it e. struct-fine p (for_types p) p.structs (parts-fine p (for_types p) (flat_map (λ x. variables_parts roles.Field x.fields) p.structs) structs.0) i it e;
      structs_named = structs_named.0;
      methods = λ i m e. method-fine p p.methods structs.1 i m e;
      methods_named = λ i m e. at-each (named_method p) p.methods methods_named.0 i m e;
      whole = whole.0;
      ordered = order.0;
      in_front = front.0;
      held_in_front = held.0;
      few = held.1;
    }

-- Variables with declared types.
abbrev pub AllDeclared : NamedPackageTree → Role → List VarTree → Type 0
AllDeclared p role [] = ⊤
AllDeclared p role (x ∷ xs) = HasValue (declared (for_types p) role x.of) × AllDeclared p role xs

types-known : (p : NamedPackageTree) → ConstantsAre [] p.consts → (x : Variable) → is_some (type_of_variable (scope_of_const p (length p.consts)) x) ≡ true → HasValue (variable (for_types p) x)
types-known p are =
    let N : ℕ → Type 0 = λ n. (x : Variable) → is_some (type_of_variable (scope_of_const p n) x) ≡ true → HasValue (variable (for_types p) x) in
    let plain : 0 + length p.consts ≡ length p.consts = omega arith in
    let count : length (constants_of p) ≡ length p.consts = are.count ∙ plain in
    subst N count (constants-known p (constants_of p) are.made)

pub declared-known : (p : NamedPackageTree) → ConstantsAre [] p.consts → (names : NamedScope) → only_constants names ≡ scope_of_const p (length p.consts) → (role : Role) → (role ≡ roles.Conversion → ⊥)
    → (t : NamedTypeTree) → AllFine p (for_types p) (declared_parts role t) → named_type names t ≡ true → HasValue (declared (for_types p) role t)
declared-known p are names same role other t h n =
    let T : NamedScope → Type 0 = λ scope. named_type scope t ≡ true in
    let renamed = subst T same (type-renamed p names (for_types p) t h.1 n) in
    placed-known p (for_types p) role t other h.0 h.1 (type-known p (scope_of_const p (length p.consts)) (for_types p) (types-known p are) t h.1 renamed)

pub all-declared : (p : NamedPackageTree) → ConstantsAre [] p.consts → (names : NamedScope) → only_constants names ≡ scope_of_const p (length p.consts) → (role : Role) → (role ≡ roles.Conversion → ⊥)
    → (xs : List VarTree) → AllFine p (for_types p) (variables_parts role xs) → list_all (λ x. named_type names x.of) xs ≡ true → AllDeclared p role xs
all-declared p are names same role other [] h n = tt
all-declared p are names same role other (x ∷ xs) h n =
    let parts = fine-split p (for_types p) (declared_parts role x.of) (variables_parts role xs) h in
    let named = both (named_type names x.of) (list_all (λ x. named_type names x.of) xs) n in
    (declared-known p are names same role other x.of parts.0 named.0, all-declared p are names same role other xs parts.1 named.1)

pub known-at : (p : NamedPackageTree) (role : Role) (xs : List VarTree) → AllDeclared p role xs → (i : ℕ) (x : VarTree) → slice_get xs i ≡ Some x → HasValue (declared (for_types p) role x.of)
known-at p role [] h i x e = absurd (cc e)
known-at p role (y ∷ ys) h zero x e = let P : VarTree → Type 0 = λ z. HasValue (declared (for_types p) role z.of) in subst P (let same : y ≡ x = cc e in same) h.0
known-at p role (y ∷ ys) h (suc i) x e = known-at p role ys h.1 i x e

-- The struct's fields.
pub struct-scope : (p : NamedPackageTree) (n : ℕ) (ss : List NamedStructTree) → named_structs p n ss ≡ true → (i : ℕ) (it : NamedStructTree) → slice_get ss i ≡ Some it
    → (k : ℕ) × (list_all (λ x. named_type (scope_of_struct p k) x.of) it.fields ≡ true)
struct-scope p n [] h i it e = absurd (cc e)
struct-scope p n (x ∷ xs) h zero it e =
    let P : NamedStructTree → Type 0 = λ z. list_all (λ x. named_type (scope_of_struct p n) x.of) z.fields ≡ true in
    (n, subst P (let same : x ≡ it = cc e in same) (both (list_all (λ x. named_type (scope_of_struct p n) x.of) x.fields) (named_structs p (suc n) xs) h).0)
struct-scope p n (x ∷ xs) h (suc i) it e =
    struct-scope p (suc n) xs (both (list_all (λ x. named_type (scope_of_struct p n) x.of) x.fields) (named_structs p (suc n) xs) h).1 i it e

pub struct-declared : (p : NamedPackageTree) → PackageIs p → (i : ℕ) (it : NamedStructTree) → slice_get p.structs i ≡ Some it → AllDeclared p roles.Field it.fields
struct-declared p is i it e =
    let scope = struct-scope p 0 p.structs is.structs_named i it e in
    all-declared p is.constants (scope_of_struct p scope.0) refl roles.Field (λ f. cc f) it.fields (is.fields i it e) scope.1

pub fields-declared : (p : NamedPackageTree) → PackageIs p → (s : ℕ) → AllDeclared p roles.Field (fields_in p (Some s))
fields-declared p is s = by_struct (slice_get p.structs s) refl
  where
    by_struct : (o : Option NamedStructTree) → slice_get p.structs s ≡ o → AllDeclared p roles.Field (fields_in p (Some s))
    by_struct None e = let none : fields_in p (Some s) ≡ [] = rw e refl in let P : List VarTree → Type 0 = AllDeclared p roles.Field in subst P (sym none) tt
    by_struct (Some it) e =
        let some : fields_in p (Some s) ≡ it.fields = rw e refl in let P : List VarTree → Type 0 = AllDeclared p roles.Field in subst P (sym some) (struct-declared p is s it e)

-- A variable of a list, by its declared type.
pub record VarIs (p : NamedPackageTree) (role : Role) (xs : List VarTree) (i : ℕ) (ty : Ty) : Type 0 where
  pub of : VarTree
  pub at : slice_get xs i ≡ Some of
  pub is : declared (for_types p) role of.of ≡ Some ty

var-parts : (p : NamedPackageTree) (role : Role) (xs : List VarTree) (i : ℕ) (ty : Ty) → there (slice_get (types_in p role xs) i) ≡ Some ty → VarIs p role xs i ty
var-parts p role xs i ty h =
    let P : Option (Option Ty) → Type 0 = λ o. there o ≡ Some ty in
    by_var (slice_get xs i) refl (subst P (slice_get-map (λ (x : VarTree). declared (for_types p) role x.of) xs i) h)
  where
    by_var : (o : Option VarTree) → slice_get xs i ≡ o → there (option_map (λ (x : VarTree). declared (for_types p) role x.of) (slice_get xs i)) ≡ Some ty → VarIs p role xs i ty
    by_var None e k = let P : Option VarTree → Type 0 = λ o. there (option_map (λ (x : VarTree). declared (for_types p) role x.of) o) ≡ Some ty in absurd (cc (subst P e k))
    by_var (Some x) e k =
        let P : Option VarTree → Type 0 = λ o. there (option_map (λ (x : VarTree). declared (for_types p) role x.of) o) ≡ Some ty in
        record { of = x; at = e; is = subst P e k }

pub meaning-parts : (p : NamedPackageTree) (role : Role) (xs : List VarTree) (i : ℕ) (m : Meaning) → option_map meanings.Typed (there (slice_get (types_in p role xs) i)) ≡ Some m
    → (ty : Ty) × VarIs p role xs i ty × (meanings.Typed ty ≡ m)
meaning-parts p role xs i m h =
    let it = map-parts meanings.Typed (there (slice_get (types_in p role xs) i)) m h in (it.of, var-parts p role xs i it.of it.is, it.gives)

typed-at : (p : NamedPackageTree) (role : Role) (xs : List VarTree) (i : ℕ) (ty : Ty) → VarIs p role xs i ty → variable_at (map (typed_variable p role) xs) i ≡ Some ty
typed-at p role xs i ty it =
    let V : Option trees.Variable → Type 0 = λ o. option_map (λ (x : trees.Variable). x.ty) o ≡ Some ty in
    let W : Option VarTree → Type 0 = λ o. option_map (λ (x : trees.Variable). x.ty) (option_map (typed_variable p role) o) ≡ Some ty in
    let D : Option Ty → Type 0 = λ o. Some (unwrap_or o types.Flag) ≡ Some ty in
    subst V (sym (slice_get-map (typed_variable p role) xs i)) (subst W (sym it.at) (subst D (sym it.is) refl))

var-known : (p : NamedPackageTree) (role : Role) (xs : List VarTree) (i : ℕ) → AllDeclared p role xs → is_some (option_map (λ (x : VarTree). x.of) (slice_get xs i)) ≡ true
    → HasValue (option_map meanings.Typed (there (slice_get (types_in p role xs) i)))
var-known p role xs i all h = by_var (slice_get xs i) refl h
  where
    by_var : (o : Option VarTree) → slice_get xs i ≡ o → is_some (option_map (λ (x : VarTree). x.of) o) ≡ true → HasValue (option_map meanings.Typed (there (slice_get (types_in p role xs) i)))
    by_var None e k = absurd (cc k)
    by_var (Some x) e k =
        let it = known-at p role xs all i x e in
        let P : Option (Option Ty) → Type 0 = λ o. HasValue (option_map meanings.Typed (there o)) in
        let Q : Option VarTree → Type 0 = λ o. HasValue (option_map meanings.Typed (there (option_map (λ (x : VarTree). declared (for_types p) role x.of) o))) in
        let R : Option Ty → Type 0 = λ o. HasValue (option_map meanings.Typed o) in
        subst P (sym (slice_get-map (λ (x : VarTree). declared (for_types p) role x.of) xs i)) (subst Q (sym e) (subst R (sym it.1) (meanings.Typed it.0, refl)))

-- A declared type is one that a variable of its role may have.
sound-local : (x : ℕ) (ty : Ty) → HasRange ty → may_be roles.Local ty ≡ true → IsSound (path_to (variables.Local (record { 0 = x }))) ty
sound-local x (types.Num width lo hi) r m = r
sound-local x (types.Array width lo hi count) r m = r
sound-local x types.Reader r m = absurd (cc m)
sound-local x types.Writer r m = absurd (cc m)
sound-local x types.Flag r m = tt
sound-local x types.Status r m = tt
sound-local x (types.Slice width) r m = tt
sound-local x (types.Part part) r m = tt

sound-field : (x : ℕ) (ty : Ty) → HasRange ty → may_be roles.Field ty ≡ true → IsSound (path_to (variables.Field (record { 0 = x }))) ty
sound-field x (types.Num width lo hi) r m = r
sound-field x (types.Array width lo hi count) r m = r
sound-field x types.Reader r m = absurd (cc m)
sound-field x types.Writer r m = absurd (cc m)
sound-field x types.Flag r m = tt
sound-field x types.Status r m = tt
sound-field x (types.Slice width) r m = tt
sound-field x (types.Part part) r m = tt

sound-arg : (x : ℕ) (ty : Ty) → HasRange ty → IsSound (path_to (variables.Arg (record { 0 = x }))) ty
sound-arg x (types.Num width lo hi) r = r
sound-arg x (types.Array width lo hi count) r = r
sound-arg x types.Reader r = (x, refl)
sound-arg x types.Writer r = (x, refl)
sound-arg x types.Flag r = tt
sound-arg x types.Status r = tt
sound-arg x (types.Slice width) r = tt
sound-arg x (types.Part part) r = tt

-- Kinds.
kind-of-var : (p : NamedPackageTree) (role : Role) (xs : List VarTree) (i : ℕ) (ty : Ty) (k : Kind) → VarIs p role xs i ty
    → has_kind k (option_and_then kind_of (option_map (λ (x : VarTree). x.of) (slice_get xs i))) ≡ true → has_kind k (kind_of_type ty) ≡ true
kind-of-var p role xs i ty k it h =
    let O : Option VarTree → Type 0 = λ o. has_kind k (option_and_then kind_of (option_map (λ (x : VarTree). x.of) o)) ≡ true in
    by_kind (kind_of it.of.of) refl (subst O it.at h)
  where
    by_kind : (o : Option Kind) → kind_of it.of.of ≡ o → has_kind k (kind_of it.of.of) ≡ true → has_kind k (kind_of_type ty) ≡ true
    by_kind None e g = let K : Option Kind → Type 0 = λ o. has_kind k o ≡ true in absurd (cc (subst K e g))
    by_kind (Some own) e g =
        let K : Option Kind → Type 0 = λ o. has_kind k o ≡ true in
        subst K (sym (type-kind (for_types p) it.of.of ty own (declared-parts (for_types p) role it.of.of ty it.is).is e)) (subst K e g)

-- Statuses.
pub there-below : {X : Type 0} (xs : List X) (n : ℕ) → nat_lt n (length xs) ≡ true → is_some (slice_get xs n) ≡ true
there-below [] n h = absurd (grind (arith, nat_tests, h))
there-below (x ∷ xs) zero h = refl
there-below (x ∷ xs) (suc n) h = there-below xs n (grind (arith, nat_tests, h))

told-below : (p : NamedPackageTree) (n : ℕ) → nat_lt n (10 + length p.statuses) ≡ true
    → is_some (slice_get (base_statuses ++ map (λ w. seen_text p.package_name w.text) p.statuses) n) ≡ true
told-below p n h =
    let texts : List (List ℕ) = map (λ w. seen_text p.package_name w.text) p.statuses in
    let mapped : length texts ≡ length p.statuses = length-map p.statuses (λ w. seen_text p.package_name w.text) in
    let all : length (base_statuses ++ texts) ≡ 10 + length texts = length-append base_statuses texts in
    let count : length (base_statuses ++ texts) ≡ 10 + length p.statuses = all ∙ ap (λ k. 10 + k) mapped in
    let P : ℕ → Type 0 = λ k. nat_lt n k ≡ true in
    there-below (base_statuses ++ texts) n (subst P (sym count) h)

-- A method of the package.
pub record MethodIs (p : NamedPackageTree) (m : NamedMethodTree) : Type 0 where
  pub constants : ConstantsAre [] p.consts
  pub args : AllDeclared p roles.Arg m.args
  pub locals : AllDeclared p roles.Local m.locals
  pub fields : AllDeclared p roles.Field (fields_in p (Some m.of))
  pub gives : (t : NamedTypeTree) → m.gives ≡ Some t → HasValue (declared (for_types p) (roles.Result m.mark) t)
  pub inside : nat_lt m.of (length p.structs) ≡ true
  pub body : AllFine p (in_method p m) (whole_body m.body ∷ block_parts m.body)
  pub named : named_block (scope_of_method p m) 0 m.body ≡ true

result-known : (p : NamedPackageTree) (m : NamedMethodTree) → ConstantsAre [] p.consts → (o : Option NamedTypeTree) → AllFine p (for_types p) (result_parts m.mark o)
    → named_result (scope_of_method p m) o ≡ true → (t : NamedTypeTree) → o ≡ Some t → HasValue (declared (for_types p) (roles.Result m.mark) t)
result-known p m are None h n t e = absurd (cc e)
result-known p m are (Some u) h n t e =
    let P : NamedTypeTree → Type 0 = λ z. HasValue (declared (for_types p) (roles.Result m.mark) z) in
    subst P (let same : u ≡ t = cc e in same) (declared-known p are (scope_of_method p m) refl (roles.Result m.mark) (λ f. cc f) u h n)

pub method-is : (p : NamedPackageTree) → PackageIs p → (i : ℕ) (m : NamedMethodTree) → slice_get p.methods i ≡ Some m → MethodIs p m
method-is p is i m e =
    let sites_of = sites-split p (at_sites (for_types p) (variables_parts roles.Arg m.args ++ (variables_parts roles.Local m.locals ++ result_parts m.mark m.gives)))
    (at_sites (in_method p m) (whole_body m.body ∷ block_parts m.body)) (is.methods i m e) in
    let types_fine = parts-fine p (for_types p) (variables_parts roles.Arg m.args ++ (variables_parts roles.Local m.locals ++ result_parts m.mark m.gives)) sites_of.0 in
    let args_fine = fine-split p (for_types p) (variables_parts roles.Arg m.args) (variables_parts roles.Local m.locals ++ result_parts m.mark m.gives) types_fine in
    let locals_fine = fine-split p (for_types p) (variables_parts roles.Local m.locals) (result_parts m.mark m.gives) args_fine.1 in
    let named = is.methods_named i m e in
    let inside = both (nat_lt m.of (length p.structs)) _ named in
    let args_named = both (list_all (λ x. named_type (scope_of_method p m) x.of) m.args) _ inside.1 in
    let locals_named = both (list_all (λ x. named_type (scope_of_method p m) x.of) m.locals) _ args_named.1 in
    let rest = both (named_result (scope_of_method p m) m.gives) (named_block (scope_of_method p m) 0 m.body) locals_named.1 in
    record {
      constants = is.constants;
      args = all-declared p is.constants (scope_of_method p m) refl roles.Arg (λ f. cc f) m.args args_fine.0 args_named.0;
      locals = all-declared p is.constants (scope_of_method p m) refl roles.Local (λ f. cc f) m.locals locals_fine.0 locals_named.0;
      fields = fields-declared p is m.of;
      gives = result-known p m is.constants m.gives locals_fine.1 rest.0;
      inside = inside.0;
      body = parts-fine p (in_method p m) (whole_body m.body ∷ block_parts m.body) sites_of.1;
      named = rest.1;
    }

-- Each variable of its body means something.
within : (b : Bool) (o : Option NamedTypeTree) → is_some (if b then o else None) ≡ true → b ≡ true
within true o h = refl
within false o h = absurd (cc h)

constant-at : (p : NamedPackageTree) → ConstantsAre [] p.consts → (i : ℕ) → nat_lt i (length p.consts) ≡ true
    → (c : Constant) × (slice_get (constants_of p) i ≡ Some (Some c)) × (nat_lt c.value (2 ^ bits_of c.width) ≡ true)
constant-at p are i h =
    let plain : 0 + length p.consts ≡ length p.consts = omega arith in
    let count : length (constants_of p) ≡ length p.consts = are.count ∙ plain in
    let P : ℕ → Type 0 = λ k. nat_lt i k ≡ true in
    made-at (constants_of p) i are.made (subst P (sym count) h)

pub method-known : (p : NamedPackageTree) (m : NamedMethodTree) → MethodIs p m → (x : Variable) → is_some (type_of_variable (scope_of_method p m) x) ≡ true → HasValue (variable (in_method p m) x)
method-known p m is (variables.Const i) h =
    let it = constant-at p is.constants i.0 (within (nat_lt i.0 (length p.consts)) _ h) in
    let P : Option (Option Constant) → Type 0 = λ o. HasValue (option_map as_constant (there o)) in
    subst P (sym it.1) (as_constant it.0, refl)
method-known p m is (variables.Local i) h = var-known p roles.Local m.locals i.0 is.locals h
method-known p m is (variables.Field i) h = var-known p roles.Field (fields_in p (Some m.of)) i.0 is.fields h
method-known p m is (variables.Arg i) h = var-known p roles.Arg m.args i.0 is.args h

-- The typed struct's fields.
field-typed : (p : NamedPackageTree) (structs : List StructTree) (s i : ℕ) (ty : Ty) → structs ≡ map (typed_struct p) p.structs → VarIs p roles.Field (fields_in p (Some s)) i ty
    → option_and_then (λ (it : StructTree). variable_at it.fields i) (slice_get structs s) ≡ Some ty
field-typed p structs s i ty same it =
    let S : List StructTree → Type 0 = λ ss. option_and_then (λ (it : StructTree). variable_at it.fields i) (slice_get ss s) ≡ Some ty in
    let M : Option StructTree → Type 0 = λ o. option_and_then (λ (it : StructTree). variable_at it.fields i) o ≡ Some ty in
    subst S (sym same) (subst M (sym (slice_get-map (typed_struct p) p.structs s)) (by_struct (slice_get p.structs s) refl))
  where
    nothing : (i : ℕ) (x : VarTree) → slice_get [] i ≡ Some x → ⊥
    nothing zero x h = cc h
    nothing (suc i) x h = cc h

    by_struct : (o : Option NamedStructTree) → slice_get p.structs s ≡ o → option_and_then (λ (it : StructTree). variable_at it.fields i) (option_map (typed_struct p) (slice_get p.structs s)) ≡ Some ty
    by_struct None e =
        let none : fields_in p (Some s) ≡ [] = rw e refl in
        let P : List VarTree → Type 0 = λ xs. slice_get xs i ≡ Some it.of in
        absurd (nothing i it.of (subst P none it.at))
    by_struct (Some z) e =
        let some : fields_in p (Some s) ≡ z.fields = rw e refl in
        let P : List VarTree → Type 0 = λ xs. slice_get xs i ≡ Some it.of in
        let M : Option NamedStructTree → Type 0 = λ o. option_and_then (λ (it : StructTree). variable_at it.fields i) (option_map (typed_struct p) o) ≡ Some ty in
        subst M (sym e) (typed-at p roles.Field z.fields i ty (record { of = it.of; at = subst P some it.at; is = it.is }))

-- A variable stands in the typed tree with its type.
pub typed-structs : (p : NamedPackageTree) → (typed_package p).structs ≡ map (typed_struct p) p.structs
unfolding typed_package
typed-structs p = refl

pub typed-statuses : (p : NamedPackageTree) → (typed_package p).statuses ≡ base_statuses ++ map (λ w. seen_text p.package_name w.text) p.statuses
unfolding typed_package
typed-statuses p = refl

variable-declared : (p : NamedPackageTree) (n : ℕ) (m : NamedMethodTree) (x : Variable) (ty : Ty) → variable (in_method p m) x ≡ Some (meanings.Typed ty)
    → (type_at (context_of p n m) (path_to x) ≡ Some ty) × IsSound (path_to x) ty
variable-declared p n m (variables.Const i) ty h =
    let it = map-parts as_constant (there (slice_get (constants_of p) i.0)) (meanings.Typed ty) h in absurd (cc it.gives)
variable-declared p n m (variables.Local i) ty h =
    let it = meaning-parts p roles.Local m.locals i.0 (meanings.Typed ty) h in
    let same : it.0 ≡ ty = cc it.2 in
    let P : Ty → Type 0 = λ z. (variable_at (map (typed_variable p roles.Local) m.locals) i.0 ≡ Some z) × IsSound (path_to (variables.Local i)) z in
    let parts = declared-parts (for_types p) roles.Local it.1.of.of it.0 it.1.is in
    subst P same (typed-at p roles.Local m.locals i.0 it.0 it.1, sound-local i.0 it.0 (written-range (for_types p) it.1.of.of it.0 parts.is) parts.may)
variable-declared p n m (variables.Arg i) ty h =
    let it = meaning-parts p roles.Arg m.args i.0 (meanings.Typed ty) h in
    let same : it.0 ≡ ty = cc it.2 in
    let P : Ty → Type 0 = λ z. (variable_at (map (typed_variable p roles.Arg) m.args) i.0 ≡ Some z) × IsSound (path_to (variables.Arg i)) z in
    let parts = declared-parts (for_types p) roles.Arg it.1.of.of it.0 it.1.is in
    subst P same (typed-at p roles.Arg m.args i.0 it.0 it.1, sound-arg i.0 it.0 (written-range (for_types p) it.1.of.of it.0 parts.is))
variable-declared p n m (variables.Field i) ty h =
    let it = meaning-parts p roles.Field (fields_in p (Some m.of)) i.0 (meanings.Typed ty) h in
    let same : it.0 ≡ ty = cc it.2 in
    let P : Ty → Type 0 = λ z. (field_at (typed_package p) m.of i.0 ≡ Some z) × IsSound (path_to (variables.Field i)) z in
    let parts = declared-parts (for_types p) roles.Field it.1.of.of it.0 it.1.is in
    subst P same (field-typed p (typed_package p).structs m.of i.0 it.0 (typed-structs p) it.1, sound-field i.0 it.0 (written-range (for_types p) it.1.of.of it.0 parts.is) parts.may)

made-lies : (os : List (Option Constant)) (i : ℕ) (c : Constant) → AllMade os → there (slice_get os i) ≡ Some c → (width : Option Width) (value : ℕ) → as_constant c ≡ meanings.Constant width value
    → nat_lt value (2 ^ bits_in width) ≡ true
made-lies [] zero c all h width value e = absurd (cc h)
made-lies [] (suc i) c all h width value e = absurd (cc h)
made-lies (o ∷ os) zero c all h width value e =
    let both_are : Some all.0.constant ≡ Some c = sym all.0.is ∙ h in
    let same : all.0.constant ≡ c = cc both_are in
    let P : Constant → Type 0 = λ k. nat_lt k.value (2 ^ bits_of k.width) ≡ true in
    let low : nat_lt c.value (2 ^ bits_of c.width) ≡ true = subst P same all.0.fits in
    let v : c.value ≡ value = cc e in
    let w : Some c.width ≡ width = cc e in
    let Q : Option Width → Type 0 = λ k. nat_lt value (2 ^ bits_in k) ≡ true in
    let R : ℕ → Type 0 = λ k. nat_lt k (2 ^ bits_of c.width) ≡ true in
    subst Q w (subst R v low)
made-lies (o ∷ os) (suc i) c all h width value e = made-lies os i c all.1 h width value e

variable-constant : (p : NamedPackageTree) (m : NamedMethodTree) → MethodIs p m → (x : Variable) (width : Option Width) (value : ℕ) → variable (in_method p m) x ≡ Some (meanings.Constant width value)
    → nat_lt value (2 ^ bits_in width) ≡ true
variable-constant p m is (variables.Const i) width value h =
    let it = map-parts as_constant (there (slice_get (constants_of p) i.0)) (meanings.Constant width value) h in
    made-lies (constants_of p) i.0 it.of is.constants.made it.is width value it.gives
variable-constant p m is (variables.Local i) width value h = let it = meaning-parts p roles.Local m.locals i.0 (meanings.Constant width value) h in absurd (cc it.2)
variable-constant p m is (variables.Field i) width value h = let it = meaning-parts p roles.Field (fields_in p (Some m.of)) i.0 (meanings.Constant width value) h in absurd (cc it.2)
variable-constant p m is (variables.Arg i) width value h = let it = meaning-parts p roles.Arg m.args i.0 (meanings.Constant width value) h in absurd (cc it.2)

-- A constant has no base methods.
constant-kind : (p : NamedPackageTree) → ConstantsAre [] p.consts → (b : Bool) (i : ℕ) (k : Kind)
    → has_kind k (option_and_then kind_of (if b then option_map (λ (x : ConstTree). x.of) (slice_get p.consts i) else None)) ≡ true → ⊥
constant-kind p are false i k h = cc h
constant-kind p are true i k h = by_constant (slice_get p.consts i) refl h
  where
    by_kind : (c : ConstTree) → slice_get p.consts i ≡ Some c → (o : Option Kind) → kind_of c.of ≡ o → has_kind k o ≡ true → ⊥
    by_kind c e None f g = cc g
    by_kind c e (Some own) f g = are.plain i c e own f

    by_constant : (o : Option ConstTree) → slice_get p.consts i ≡ o → has_kind k (option_and_then kind_of (option_map (λ (x : ConstTree). x.of) o)) ≡ true → ⊥
    by_constant None e g = cc g
    by_constant (Some c) e g = by_kind c e (kind_of c.of) refl g

variable-kind : (p : NamedPackageTree) (m : NamedMethodTree) → MethodIs p m → (x : Variable) (of : Meaning) (k : Kind) → variable (in_method p m) x ≡ Some of
    → has_kind k (option_and_then kind_of (type_of_variable (scope_of_method p m) x)) ≡ true → has_kind k (kind_meant of) ≡ true
variable-kind p m is (variables.Const i) of k h g = absurd (constant-kind p is.constants (nat_lt i.0 (length p.consts)) i.0 k g)
variable-kind p m is (variables.Local i) of k h g =
    let it = meaning-parts p roles.Local m.locals i.0 of h in
    let P : Meaning → Type 0 = λ z. has_kind k (kind_meant z) ≡ true in
    subst P it.2 (kind-of-var p roles.Local m.locals i.0 it.0 k it.1 g)
variable-kind p m is (variables.Field i) of k h g =
    let it = meaning-parts p roles.Field (fields_in p (Some m.of)) i.0 of h in
    let P : Meaning → Type 0 = λ z. has_kind k (kind_meant z) ≡ true in
    subst P it.2 (kind-of-var p roles.Field (fields_in p (Some m.of)) i.0 it.0 k it.1 g)
variable-kind p m is (variables.Arg i) of k h g =
    let it = meaning-parts p roles.Arg m.args i.0 of h in
    let P : Meaning → Type 0 = λ z. has_kind k (kind_meant z) ≡ true in
    subst P it.2 (kind-of-var p roles.Arg m.args i.0 it.0 k it.1 g)

pub method-agrees : (p : NamedPackageTree) (n : ℕ) (m : NamedMethodTree) → MethodIs p m → Agree (scope_of_method p m) (in_method p m) (context_of p n m)
method-agrees p n m is =
    record {
      declared = λ x ty h. (variable-declared p n m x ty h).0;
      sound = λ x ty h. (variable-declared p n m x ty h).1;
      constant = λ x width value h. variable-constant p m is x width value h;
      told = λ k h. let P : List (List ℕ) → Type 0 = λ texts. is_some (slice_get texts k) ≡ true in subst P (sym (typed-statuses p)) (told-below p k h);
      kinds = λ x of k h g. variable-kind p m is x of k h g;
    }
