-- The declarations of the typed tree keep the rules: the types of fields, arguments, locals and results, and no struct holds
-- itself.
use Rattle.std.proofs.Common.{◌≡◌, ℕ, zero, suc, ◌-◌, ◌^◌, Bool, true, not, ◌&&◌, List, [], ◌∷◌, length, map, Option, Some, None, refl, sym, ap, ◌∙◌, subst, arith, nat_lt, nat_eq}
use Rattle.std.specs.Prelude.{option_map, slice_get, min}
use Rattle.std.proofs.lemmas.Bool.Decides.{nat_tests}
use Rattle.std.specs.Bool.{⊤}
use Rattle.std.specs.List.{list_all}
use Rattle.std.proofs.lemmas.Option.{slice_get-map}
use Rattle.std.proofs.lemmas.List.{length-map}
use Rattle.wf_text.specs.declared.place.Place.{Place}
use Rattle.wf_text.specs.declared.numbers.StructId.{StructId}
use Rattle.wf_base.specs.declared.marks.Mark.{Mark}
use Rattle.wf_base.specs.declared.marks.Mark.TheVariants.{Pure, Impure, Coroutine}
use Rattle.wf_base.specs.declared.widths.Width.{Width}
use Rattle.wf_base.specs.BaseTable.{bits_of}
use Rattle.wf_ast.specs.declared.types.Ty.{Ty}
use Rattle.wf_ast.specs.declared.types.Ty.TheVariants as types
use Rattle.wf_ast.specs.TypedPackage.{StructTree, PackageTree}
use Rattle.wf_ast.specs.WellTyped.{is_range, may_be_field, may_be_local, may_be_arg, may_be_result, is_among, is_whole_type, is_whole_struct, is_whole, all_structs_whole, structs_in_front, has_struct_order}
use Rattle.wf_named.specs.declared.nodes.BaseType.{BaseType}
use Rattle.wf_named.specs.declared.nodes.BaseType.TheVariants as bases
use Rattle.wf_named.specs.NamedTree.{NamedTypeTree, slice_of, array_of, base_type, struct_type, unrefined, refined, VarTree, NamedStructTree, NamedMethodTree, NamedPackageTree}
use Rattle.wf_named.specs.WellNamed.{named_type, scope_of_struct, named_structs}
use Rattle.wf_named.specs.WellNamed as names
use Rattle.wf_types_rules.specs.declared.settings.Setting.{Setting}
use Rattle.wf_types_rules.specs.ExprTypes.{plain_width, base_of, array_type, number_of, low_number, written}
use Rattle.wf_types_rules.specs.declared.settings.Role.{Role}
use Rattle.wf_types_rules.specs.declared.settings.Role.TheVariants as roles
use Rattle.wf_types_rules.specs.DeclaredTypes.{declared, for_types}
use Rattle.wf_typed_tree.specs.ElaboratedPackage.{type_declared, typed_variable, typed_struct, typed_package}
use Rattle.wf_typed_tree.proofs.NumberLemmas.{both, and-true, where-parts, map-parts}
use Rattle.wf_typed_tree.proofs.KnownMeanings.{HasValue}
use Rattle.wf_typed_tree.proofs.DeclaredLaws.{HasRange, written-range, refined-kind, IsDeclared, declared-parts}
use Rattle.wf_typed_tree.proofs.Agreement.{PackageIs, MethodIs, AllDeclared, struct-declared}

-- What a written type tells of an array and of a struct.
abbrev Facts : NamedTypeTree → Ty → Type 0
Facts t (types.Array width lo hi count) = (nat_lt 0 count && nat_eq lo 0) ≡ true
Facts t (types.Part part) = (k : ℕ) × (at : Place) × (t ≡ struct_type k at) × (part ≡ record { 0 = k })
Facts t ty = ⊤

base-facts : (t : NamedTypeTree) (of : BaseType) → Facts t (base_of of)
base-facts t (bases.Number width) = tt
base-facts t bases.Flag = tt
base-facts t bases.Status = tt
base-facts t bases.Reader = tt
base-facts t bases.Writer = tt

capped-positive : (n : ℕ) → nat_lt 0 n ≡ true → nat_lt 0 (min n (2 ^ 32 - 1)) ≡ true
capped-positive n h = grind (arith, nat_tests, h)

array-facts : (t : NamedTypeTree) (count : Option ℕ) (element : Option Ty) (ty : Ty) → array_type count element ≡ Some ty → Facts t ty
array-facts t (Some n) (Some (types.Num width lo hi)) ty h =
    let it = where-parts (nat_lt 0 n && nat_eq lo 0) (types.Array width lo hi (min n (2 ^ 32 - 1))) ty h in
    let parts = both (nat_lt 0 n) (nat_eq lo 0) it.0 in
    let F : Ty → Type 0 = Facts t in
    subst F it.1 (and-true (nat_lt 0 (min n (2 ^ 32 - 1))) (nat_eq lo 0) (capped-positive n parts.0) parts.1)
array-facts t None element ty h = absurd (cc h)
array-facts t (Some n) element ty h = absurd (cc h)

written-facts : (s : Setting) (t : NamedTypeTree) (ty : Ty) → written s t ≡ Some ty → Facts t ty
written-facts s (slice_of at element) ty h =
    let it = map-parts types.Slice (plain_width element) ty h in let F : Ty → Type 0 = Facts (slice_of at element) in subst F it.gives tt
written-facts s (array_of length at element) ty h = array-facts (array_of length at element) (number_of s length) (written s element) ty h
written-facts s (base_type None at bounds) ty h = absurd (cc h)
written-facts s (base_type (Some of) at unrefined) ty h =
    let same : base_of of ≡ ty = cc h in let F : Ty → Type 0 = Facts (base_type (Some of) at unrefined) in subst F same (base-facts (base_type (Some of) at unrefined) of)
written-facts s (base_type (Some (bases.Number width)) at (refined low high)) ty h =
    let it = refined-kind width (low_number s low) (number_of s high) ty h in
    let F : Ty → Type 0 = Facts (base_type (Some (bases.Number width)) at (refined low high)) in subst F (sym it.2) tt
written-facts s (base_type (Some of) at (refined low high)) ty h = absurd (cc h)
written-facts s (struct_type n at) ty h =
    let same : types.Part (record { 0 = n }) ≡ ty = cc h in let F : Ty → Type 0 = Facts (struct_type n at) in subst F same (n, at, refl, refl)

-- Fields.
range-parts : (width : Width) (lo hi : ℕ) → HasRange (types.Num width lo hi) → nat_eq lo 0 ≡ true → (is_range (record { bits = bits_of width; low = lo; high = hi }) && nat_eq lo 0) ≡ true
range-parts width lo hi h k = and-true (is_range (record { bits = bits_of width; low = lo; high = hi })) (nat_eq lo 0) h k

field-may : (p : NamedPackageTree) (q : PackageTree) (k : ℕ) (t : NamedTypeTree) (ty : Ty) → length q.structs ≡ length p.structs → IsDeclared (for_types p) roles.Field t ty
    → named_type (scope_of_struct p k) t ≡ true → may_be_field q ty ≡ true
field-may p q k t (types.Num width lo hi) count it n = range-parts width lo hi (written-range (for_types p) t (types.Num width lo hi) it.is) it.zero
field-may p q k t types.Flag count it n = refl
field-may p q k t types.Status count it n = refl
field-may p q k t (types.Array width lo hi size) count it n =
    let facts = both (nat_lt 0 size) (nat_eq lo 0) (written-facts (for_types p) t (types.Array width lo hi size) it.is) in
    and-true (nat_lt 0 size) _ facts.0 (range-parts width lo hi (written-range (for_types p) t (types.Array width lo hi size) it.is) facts.1)
field-may p q k t (types.Part part) count it n =
    let facts = written-facts (for_types p) t (types.Part part) it.is in
    let N : NamedTypeTree → Type 0 = λ u. named_type (scope_of_struct p k) u ≡ true in
    let below : nat_lt facts.0 (length p.structs) ≡ true = subst N facts.2 n in
    let L : ℕ → Type 0 = λ l. nat_lt facts.0 l ≡ true in
    let P : StructId → Type 0 = λ x. may_be_field q (types.Part x) ≡ true in
    subst P (sym facts.3) (subst L (sym count) below)
field-may p q k t ty count it n = absurd (cc it.may)

-- The type of a variable that is declared.
pub declared-is : (p : NamedPackageTree) (role : Role) (t : NamedTypeTree) (ty : Ty) → declared (for_types p) role t ≡ Some ty → type_declared p role t ≡ ty
declared-is p role t ty h = rw h refl

fields-may : (p : NamedPackageTree) (q : PackageTree) (k : ℕ) (xs : List VarTree) → length q.structs ≡ length p.structs → AllDeclared p roles.Field xs
    → list_all (λ x. named_type (scope_of_struct p k) x.of) xs ≡ true → list_all (λ x. may_be_field q x.ty) (map (typed_variable p roles.Field) xs) ≡ true
fields-may p q k [] count all n = refl
fields-may p q k (x ∷ xs) count all n =
    let named = both (named_type (scope_of_struct p k) x.of) (list_all (λ x. named_type (scope_of_struct p k) x.of) xs) n in
    let M : Ty → Type 0 = λ ty. may_be_field q ty ≡ true in
    let may = field-may p q k x.of all.0.0 count (declared-parts (for_types p) roles.Field x.of all.0.0 all.0.1) named.0 in
    and-true (may_be_field q (type_declared p roles.Field x.of)) _ (subst M (sym (declared-is p roles.Field x.of all.0.0 all.0.1)) may) (fields-may p q k xs count all.1 named.1)

-- No struct holds itself.
type-whole : (p : NamedPackageTree) (front behind : ℕ → Bool) → ((k : ℕ) → front k ≡ true → behind k ≡ true) → (t : NamedTypeTree) → HasValue (declared (for_types p) roles.Field t)
    → names.is_whole_type front t ≡ true → is_whole_type behind (type_declared p roles.Field t) ≡ true
type-whole p front behind step t it h =
    let W : Ty → Type 0 = λ ty. is_whole_type behind ty ≡ true in
    let parts = declared-parts (for_types p) roles.Field t it.0 it.1 in
    subst W (sym (declared-is p roles.Field t it.0 it.1)) (by_type it.0 (written-facts (for_types p) t it.0 parts.is))
  where
    by_type : (ty : Ty) → Facts t ty → is_whole_type behind ty ≡ true
    by_type (types.Part part) facts =
        let F : NamedTypeTree → Type 0 = λ u. names.is_whole_type front u ≡ true in
        let whole : front facts.0 ≡ true = subst F facts.2 h in
        let P : StructId → Type 0 = λ x. is_whole_type behind (types.Part x) ≡ true in
        subst P (sym facts.3) (step facts.0 whole)
    by_type ty facts = refl

fields-whole : (p : NamedPackageTree) (front behind : ℕ → Bool) → ((k : ℕ) → front k ≡ true → behind k ≡ true) → (xs : List VarTree) → AllDeclared p roles.Field xs
    → list_all (λ x. names.is_whole_type front x.of) xs ≡ true → list_all (λ x. is_whole_type behind x.ty) (map (typed_variable p roles.Field) xs) ≡ true
fields-whole p front behind step [] all h = refl
fields-whole p front behind step (x ∷ xs) all h =
    let whole = both (names.is_whole_type front x.of) (list_all (λ x. names.is_whole_type front x.of) xs) h in
    and-true (is_whole_type behind (type_declared p roles.Field x.of)) _ (type-whole p front behind step x.of all.0 whole.0) (fields-whole p front behind step xs all.1 whole.1)

struct-known : (p : NamedPackageTree) (q : PackageTree) → q.structs ≡ map (typed_struct p) p.structs → PackageIs p → (front behind : ℕ → Bool) → ((k : ℕ) → front k ≡ true → behind k ≡ true)
    → (k : ℕ) → names.is_whole_struct front (slice_get p.structs k) ≡ true → is_whole_struct behind (slice_get q.structs k) ≡ true
struct-known p q same is front behind step k h =
    let S : List StructTree → Type 0 = λ ss. is_whole_struct behind (slice_get ss k) ≡ true in
    let M : Option StructTree → Type 0 = λ o. is_whole_struct behind o ≡ true in
    subst S (sym same) (subst M (sym (slice_get-map (typed_struct p) p.structs k)) (by_struct (slice_get p.structs k) refl h))
  where
    by_struct : (o : Option NamedStructTree) → slice_get p.structs k ≡ o → names.is_whole_struct front o ≡ true → is_whole_struct behind (option_map (typed_struct p) (slice_get p.structs k)) ≡ true
    by_struct None e g = absurd (cc g)
    by_struct (Some it) e g =
        let M : Option NamedStructTree → Type 0 = λ o. is_whole_struct behind (option_map (typed_struct p) o) ≡ true in
        subst M (sym e) (fields-whole p front behind step it.fields (struct-declared p is k it e) g)

struct-whole : (p : NamedPackageTree) (q : PackageTree) → q.structs ≡ map (typed_struct p) p.structs → PackageIs p → (levels k : ℕ) → names.is_whole p levels k ≡ true → is_whole q levels k ≡ true
struct-whole p q same is zero k h = absurd (cc h)
struct-whole p q same is (suc levels) k h = struct-known p q same is (names.is_whole p levels) (is_whole q levels) (λ j. struct-whole p q same is levels j) k h

structs-whole : (p : NamedPackageTree) (q : PackageTree) → q.structs ≡ map (typed_struct p) p.structs → PackageIs p → (n : ℕ) (ss : List NamedStructTree)
    → ((i : ℕ) (it : NamedStructTree) → slice_get ss i ≡ Some it → AllDeclared p roles.Field it.fields) → named_structs p n ss ≡ true → names.all_whole p n ss ≡ true
    → all_structs_whole q n (map (typed_struct p) ss) ≡ true
structs-whole p q same is n [] all named h = refl
structs-whole p q same is n (s ∷ ss) all named h =
    let count : length q.structs ≡ length p.structs = ap length same ∙ length-map p.structs (typed_struct p) in
    let fields_named = both (list_all (λ x. named_type (scope_of_struct p n) x.of) s.fields) (named_structs p (suc n) ss) named in
    let whole = both (names.is_whole p (length p.structs) n) (names.all_whole p (suc n) ss) h in
    let L : ℕ → Type 0 = λ l. is_whole q l n ≡ true in
    and-true (is_whole q (length q.structs) n) _ (subst L (sym count) (struct-whole p q same is (length p.structs) n whole.0))
    (and-true (list_all (λ x. may_be_field q x.ty) (map (typed_variable p roles.Field) s.fields)) _ (fields-may p q n s.fields count (all 0 s refl) fields_named.0)
    (structs-whole p q same is (suc n) ss (λ i it e. all (suc i) it e) fields_named.1 whole.1))

pub typed-structs-whole : (p : NamedPackageTree) → PackageIs p → all_structs_whole (typed_package p) 0 (typed_package p).structs ≡ true
unfolding typed_package
typed-structs-whole p is = structs-whole p (typed_package p) refl is 0 p.structs (λ i it e. struct-declared p is i it e) is.structs_named is.whole

-- Each struct stands after those that its fields hold.
structs-front : (p : NamedPackageTree) (q : PackageTree) → q.structs ≡ map (typed_struct p) p.structs → PackageIs p → (front rest : List ℕ) → names.structs_in_front p front rest ≡ true
    → structs_in_front q front rest ≡ true
structs-front p q same is front [] h = refl
structs-front p q same is front (k ∷ ks) h =
    let parts = both (names.is_whole_struct (names.is_among front) (slice_get p.structs k)) _ h in
    let rest = both (not (names.is_among front k)) (names.structs_in_front p (k ∷ front) ks) parts.1 in
    and-true (is_whole_struct (is_among front) (slice_get q.structs k)) _ (struct-known p q same is (names.is_among front) (is_among front) (λ j j-is. j-is) k parts.0)
    (and-true (not (is_among front k)) (structs_in_front q (k ∷ front) ks) rest.0 (structs-front p q same is (k ∷ front) ks rest.1))

pub typed-struct-order : (p : NamedPackageTree) → PackageIs p → has_struct_order (typed_package p) ≡ true
unfolding typed_package
typed-struct-order p is =
    let held = both (nat_eq (length p.struct_order) (length p.structs)) (names.structs_in_front p [] p.struct_order) is.held_in_front in
    let N : ℕ → Type 0 = λ k. nat_eq (length p.struct_order) k ≡ true in
    and-true (nat_eq (length p.struct_order) (length (map (typed_struct p) p.structs))) _ (subst N (sym (length-map p.structs (typed_struct p))) held.0)
    (structs-front p (typed_package p) refl is [] p.struct_order held.1)

-- Arguments, locals and results.
arg-may : (p : NamedPackageTree) (t : NamedTypeTree) (ty : Ty) → IsDeclared (for_types p) roles.Arg t ty → may_be_arg ty ≡ true
arg-may p t (types.Num width lo hi) it = written-range (for_types p) t (types.Num width lo hi) it.is
arg-may p t types.Flag it = refl
arg-may p t types.Reader it = refl
arg-may p t types.Writer it = refl
arg-may p t (types.Slice width) it = refl
arg-may p t ty it = absurd (cc it.may)

local-may : (p : NamedPackageTree) (t : NamedTypeTree) (ty : Ty) → IsDeclared (for_types p) roles.Local t ty → may_be_local ty ≡ true
local-may p t (types.Num width lo hi) it = range-parts width lo hi (written-range (for_types p) t (types.Num width lo hi) it.is) it.zero
local-may p t types.Flag it = refl
local-may p t types.Status it = refl
local-may p t (types.Slice width) it = refl
local-may p t ty it = absurd (cc it.may)

result-may : (p : NamedPackageTree) (mark : Mark) (t : NamedTypeTree) (ty : Ty) → IsDeclared (for_types p) (roles.Result mark) t ty → may_be_result mark (Some ty) ≡ true
result-may p Coroutine t (types.Num width lo hi) it = absurd (cc it.may)
result-may p Coroutine t types.Flag it = absurd (cc it.may)
result-may p Coroutine t types.Status it = absurd (cc it.may)
result-may p Pure t (types.Num width lo hi) it = range-parts width lo hi (written-range (for_types p) t (types.Num width lo hi) it.is) it.zero
result-may p Impure t (types.Num width lo hi) it = range-parts width lo hi (written-range (for_types p) t (types.Num width lo hi) it.is) it.zero
result-may p Pure t types.Flag it = refl
result-may p Impure t types.Flag it = refl
result-may p Pure t types.Status it = refl
result-may p Impure t types.Status it = refl
result-may p mark t ty it = absurd (cc it.may)

args-may : (p : NamedPackageTree) (xs : List VarTree) → AllDeclared p roles.Arg xs → list_all (λ x. may_be_arg x.ty) (map (typed_variable p roles.Arg) xs) ≡ true
args-may p [] all = refl
args-may p (x ∷ xs) all =
    let M : Ty → Type 0 = λ ty. may_be_arg ty ≡ true in
    and-true (may_be_arg (type_declared p roles.Arg x.of)) _
    (subst M (sym (declared-is p roles.Arg x.of all.0.0 all.0.1)) (arg-may p x.of all.0.0 (declared-parts (for_types p) roles.Arg x.of all.0.0 all.0.1))) (args-may p xs all.1)

locals-may : (p : NamedPackageTree) (xs : List VarTree) → AllDeclared p roles.Local xs → list_all (λ x. may_be_local x.ty) (map (typed_variable p roles.Local) xs) ≡ true
locals-may p [] all = refl
locals-may p (x ∷ xs) all =
    let M : Ty → Type 0 = λ ty. may_be_local ty ≡ true in
    and-true (may_be_local (type_declared p roles.Local x.of)) _
    (subst M (sym (declared-is p roles.Local x.of all.0.0 all.0.1)) (local-may p x.of all.0.0 (declared-parts (for_types p) roles.Local x.of all.0.0 all.0.1))) (locals-may p xs all.1)

gives-may : (p : NamedPackageTree) (mark : Mark) (o : Option NamedTypeTree) → ((t : NamedTypeTree) → o ≡ Some t → HasValue (declared (for_types p) (roles.Result mark) t))
    → may_be_result mark (option_map (type_declared p (roles.Result mark)) o) ≡ true
gives-may p Pure None all = refl
gives-may p Impure None all = refl
gives-may p Coroutine None all = refl
gives-may p mark (Some t) all =
    let it = all t refl in
    let M : Ty → Type 0 = λ ty. may_be_result mark (Some ty) ≡ true in
    subst M (sym (declared-is p (roles.Result mark) t it.0 it.1)) (result-may p mark t it.0 (declared-parts (for_types p) (roles.Result mark) t it.0 it.1))

-- The head of a method.
pub record HeadIs (p : NamedPackageTree) (m : NamedMethodTree) : Type 0 where
  pub args : list_all (λ x. may_be_arg x.ty) (map (typed_variable p roles.Arg) m.args) ≡ true
  pub locals : list_all (λ x. may_be_local x.ty) (map (typed_variable p roles.Local) m.locals) ≡ true
  pub gives : may_be_result m.mark (option_map (type_declared p (roles.Result m.mark)) m.gives) ≡ true

pub head-is : (p : NamedPackageTree) (m : NamedMethodTree) → MethodIs p m → HeadIs p m
head-is p m is = record { args = args-may p m.args is.args; locals = locals-may p m.locals is.locals; gives = gives-may p m.mark m.gives is.gives }
