-- Declared types of a package that breaks no rule: they are there, and their numbers lie in their widths. In a declared type
-- only constants are named.
use Rattle.std.proofs.Common.{◌≡◌, ℕ, ◌-◌, ◌^◌, Bool, true, false, not, ◌&&◌, [], Option, Some, None, refl, sym, ap, ◌∙◌, subst, arith, nat_lt, nat_le, nat_eq}
use Rattle.std.specs.Prelude.{is_some, if◌then◌else◌, min}
use Rattle.std.specs.Bool.{⊤}
use Rattle.std.proofs.lemmas.Bool.Decides.{nat_tests}
use Rattle.std.proofs.lemmas.Nat.{pow_pos}
use Rattle.wf_text.specs.declared.rules.Rule.TheVariants.{T1, T5}
use Rattle.wf_base.specs.declared.widths.Width.{Width}
use Rattle.wf_base.specs.BaseTable.{bits_of}
use Rattle.wf_ast.specs.declared.types.Ty.{Ty}
use Rattle.wf_ast.specs.declared.types.Ty.TheVariants as types
use Rattle.wf_ast.specs.WellTyped.{is_range}
use Rattle.wf_named.specs.declared.nodes.BaseType.{BaseType}
use Rattle.wf_named.specs.declared.nodes.BaseType.TheVariants as bases
use Rattle.wf_named.specs.declared.nodes.Variable.{Variable}
use Rattle.wf_named.specs.declared.nodes.Variable.TheVariants as variables
use Rattle.wf_named.specs.NamedTree.{NamedExprTree, number, status, truth, path, index, slice, answer, chain, convert, negation, absent, present, NamedLinkTrees, no_link, link, NamedTypeTree, slice_of, array_of, base_type, struct_type, unrefined, refined, NamedPackageTree}
use Rattle.wf_named.specs.WellNamed.{NamedScope, type_of_variable, width_in, named_expr, named_links, named_type}
use Rattle.wf_types_rules.specs.declared.settings.Setting.{Setting}
use Rattle.wf_types_rules.specs.Meanings.{all_of}
use Rattle.wf_types_rules.specs.ExprTypes.{plain_width, base_of, refined_type, array_type, meaning, number_of, low_number, written}
use Rattle.wf_types_rules.specs.declared.settings.Role.{Role}
use Rattle.wf_types_rules.specs.declared.settings.Role.TheVariants as roles
use Rattle.wf_types_rules.specs.DeclaredTypes.{form_of, is_number_form, may_have, may_be, is_zero_kept, if_allowed, declared}
use Rattle.wf_types_rules.specs.Parts.{placed_type, expr_parts, links_parts, type_parts}
use Rattle.wf_types_rules.specs.Judgements.{fails, names_others, links_name_others, is_no_constant, form, wrong_type, is_misplaced, misplaced_type, begins_above_zero, is_constant_name}
use Rattle.wf_types_rules.specs.Meanings as meant
use Rattle.wf_types_rules.proofs.TypeRows as rows
use Rattle.wf_typed_tree.proofs.NumberLemmas.{both, and-true, where-parts, width-is, then-parts, map-parts}
use Rattle.wf_typed_tree.proofs.NoBreaks.{Fine, AllFine, fine-split, at-none, either-false, holds}
use Rattle.wf_typed_tree.proofs.KnownMeanings.{HasValue, then-known, form-known}

-- The numbers of a written type lie in its width.
abbrev pub HasRange : Ty → Type 0
HasRange (types.Num width lo hi) = is_range (record { bits = bits_of width; low = lo; high = hi }) ≡ true
HasRange (types.Array width lo hi count) = is_range (record { bits = bits_of width; low = lo; high = hi }) ≡ true
HasRange ty = ⊤

range-is : (width : Width) (lo hi : ℕ) → nat_le lo hi ≡ true → nat_lt hi (2 ^ bits_of width) ≡ true → HasRange (types.Num width lo hi)
range-is width lo hi h k = and-true _ _ (width-is width) (and-true (nat_le lo hi) (nat_lt hi (2 ^ bits_of width)) h k)

whole-range : (width : Width) → HasRange (all_of width)
whole-range width =
    let positive = pow_pos (bits_of width) in
    range-is width 0 (2 ^ bits_of width - 1) (grind (arith, nat_tests)) (grind (arith, nat_tests, positive))

base-range : (of : BaseType) → HasRange (base_of of)
base-range (bases.Number width) = whole-range width
base-range bases.Flag = tt
base-range bases.Status = tt
base-range bases.Reader = tt
base-range bases.Writer = tt

refined-range : (width : Width) (low high : Option ℕ) (ty : Ty) → refined_type width low high ≡ Some ty → HasRange ty
refined-range width (Some m) (Some n) ty h =
    let it = where-parts (nat_le m n && nat_lt n (2 ^ bits_of width)) (types.Num width m n) ty h in
    let order = both (nat_le m n) (nat_lt n (2 ^ bits_of width)) it.0 in
    let R : Ty → Type 0 = HasRange in
    subst R it.1 (range-is width m n order.0 order.1)
refined-range width None high ty h = absurd (cc h)
refined-range width (Some m) None ty h = absurd (cc h)

array-range : (count : Option ℕ) (element : Option Ty) (ty : Ty) → ((of : Ty) → element ≡ Some of → HasRange of) → array_type count element ≡ Some ty → HasRange ty
array-range (Some n) (Some (types.Num width lo hi)) ty inside h =
    let it = where-parts (nat_lt 0 n && nat_eq lo 0) (types.Array width lo hi (min n (2 ^ 32 - 1))) ty h in
    let R : Ty → Type 0 = HasRange in
    subst R it.1 (inside (types.Num width lo hi) refl)
array-range None element ty inside h = absurd (cc h)
array-range (Some n) element ty inside h = absurd (cc h)

pub written-range : (s : Setting) (t : NamedTypeTree) (ty : Ty) → written s t ≡ Some ty → HasRange ty
written-range s (slice_of at element) ty h =
    let it = map-parts types.Slice (plain_width element) ty h in let R : Ty → Type 0 = HasRange in subst R it.gives tt
written-range s (array_of length at element) ty h = array-range (number_of s length) (written s element) ty (written-range s element) h
written-range s (base_type None at bounds) ty h = absurd (cc h)
written-range s (base_type (Some of) at unrefined) ty h = let same : base_of of ≡ ty = cc h in let R : Ty → Type 0 = HasRange in subst R same (base-range of)
written-range s (base_type (Some (bases.Number width)) at (refined low high)) ty h = refined-range width (low_number s low) (number_of s high) ty h
written-range s (base_type (Some of) at (refined low high)) ty h = absurd (cc h)
written-range s (struct_type n at) ty h = let same : types.Part (record { 0 = n }) ≡ ty = cc h in let R : Ty → Type 0 = HasRange in subst R same tt

-- A type has the kind that names saw in it.
pub plain-is : (t : NamedTypeTree) (w : Width) → plain_width t ≡ Some w → width_in t ≡ Some w
plain-is (base_type (Some (bases.Number width)) at unrefined) w h = h
plain-is t w h = absurd (cc h)

pub refined-kind : (width : Width) (low high : Option ℕ) (ty : Ty) → refined_type width low high ≡ Some ty → (lo hi : ℕ) × (ty ≡ types.Num width lo hi)
refined-kind width (Some m) (Some n) ty h = let it = where-parts (nat_le m n && nat_lt n (2 ^ bits_of width)) (types.Num width m n) ty h in (m, n, sym it.1)
refined-kind width None high ty h = absurd (cc h)
refined-kind width (Some m) None ty h = absurd (cc h)

-- A declared type.
pub record IsDeclared (s : Setting) (role : Role) (t : NamedTypeTree) (ty : Ty) : Type 0 where
  pub is : written s t ≡ Some ty
  pub may : may_be role ty ≡ true
  pub zero : is_zero_kept role ty ≡ true

pub declared-parts : (s : Setting) (role : Role) (t : NamedTypeTree) (ty : Ty) → declared s role t ≡ Some ty → IsDeclared s role t ty
declared-parts s role t ty h =
    let it = then-parts (if_allowed role) (written s t) ty h in
    let allowed = where-parts (may_be role it.of && is_zero_kept role it.of) it.of ty it.gives in
    let tests = both (may_be role it.of) (is_zero_kept role it.of) allowed.0 in
    let M : Ty → Type 0 = λ of. may_be role of ≡ true in
    let Z : Ty → Type 0 = λ of. is_zero_kept role of ≡ true in
    record { is = it.is ∙ ap Some allowed.1; may = subst M allowed.1 tests.0; zero = subst Z allowed.1 tests.1 }

-- A type at a place where it may stand.
placed-allowed : (p : NamedPackageTree) (s : Setting) (role : Role) (t : NamedTypeTree) → is_misplaced s role t ≡ fails (may_have role) (form s t)
    → Fine p s (placed_type role t) → AllFine p s (type_parts t) → HasValue (written s t) → HasValue (declared s role t)
placed-allowed p s role t same fine parts it =
    let misplaced : fails (may_have role) (form s t) ≡ false = sym same ∙ at-none (is_misplaced s role t) _ (fine T1 misplaced_type rows.misplaced_type) in
    let may = holds (may_have role) (form s t) (form_of it.0) (form-known p s t it.0 parts it.1) misplaced in
    let zero = holds (is_zero_kept role) (written s t) it.0 it.1 (at-none (fails (is_zero_kept role) (written s t)) _ (fine T5 begins_above_zero rows.begins_above_zero)) in
    let allowed : if_allowed role it.0 ≡ Some it.0 = allow (may_be role it.0) (is_zero_kept role it.0) it.0 may zero in
    (it.0, then-known (if_allowed role) (written s t) it.0 it.0 it.1 allowed)
  where
    allow : (a b : Bool) (ty : Ty) → a ≡ true → b ≡ true → (if a && b then Some ty else None) ≡ Some ty
    allow a b ty e f = rw (e, f) refl

pub placed-known : (p : NamedPackageTree) (s : Setting) (role : Role) (t : NamedTypeTree) → (role ≡ roles.Conversion → ⊥) → Fine p s (placed_type role t) → AllFine p s (type_parts t)
    → HasValue (written s t) → HasValue (declared s role t)
placed-known p s roles.Const t other fine parts it = placed-allowed p s roles.Const t refl fine parts it
placed-known p s roles.Field t other fine parts it = placed-allowed p s roles.Field t refl fine parts it
placed-known p s roles.Arg t other fine parts it = placed-allowed p s roles.Arg t refl fine parts it
placed-known p s roles.Local t other fine parts it = placed-allowed p s roles.Local t refl fine parts it
placed-known p s (roles.Result mark) t other fine parts it = placed-allowed p s (roles.Result mark) t refl fine parts it
placed-known p s roles.Conversion t other fine parts it = absurd (other refl)

-- What names only constants is named among them alone.
abbrev pub only_constants : NamedScope → NamedScope
only_constants names = record { within = names.within; consts = names.consts; of = None; args = []; locals = [] }

path-renamed : (names : NamedScope) (x : Variable) → not (is_constant_name x) ≡ false → is_some (type_of_variable names x) ≡ true → is_some (type_of_variable (only_constants names) x) ≡ true
path-renamed names (variables.Const i) k n = n
path-renamed names (variables.Local i) k n = absurd (cc k)
path-renamed names (variables.Field i) k n = absurd (cc k)
path-renamed names (variables.Arg i) k n = absurd (cc k)

module _ (p : NamedPackageTree) (names : NamedScope) (s : Setting) where
  mutual
    expr-renamed : (e : NamedExprTree) → AllFine p s (expr_parts e) → names_others e ≡ false → named_expr names e ≡ true → named_expr (only_constants names) e ≡ true
    expr-renamed (number value at) h k n = refl
    expr-renamed (status i at) h k n = n
    expr-renamed (truth value at) h k n = refl
    expr-renamed (path q) h k n = path-renamed names q.of k n
    expr-renamed (index q i at) h k n = absurd (cc k)
    expr-renamed (slice q from to at) h k n = absurd (cc k)
    expr-renamed (answer c) h k n = absurd (cc k)
    expr-renamed (chain op first links at) h k n =
        let named = both (named_expr names first) (named_links names links) n in
        let parts = fine-split p s (expr_parts first) (links_parts links) h.1 in
        let others = either-false (names_others first) (links_name_others links) k in
        and-true (named_expr (only_constants names) first) (named_links (only_constants names) links) (expr-renamed first parts.0 others.0 named.0) (links-renamed links parts.1 others.1 named.1)
    expr-renamed (convert e t at) h k n =
        let named = both (named_expr names e) (named_type names t) n in
        let parts = fine-split p s (expr_parts e) (type_parts t) h.1.1 in
        and-true (named_expr (only_constants names) e) (named_type (only_constants names) t) (expr-renamed e parts.0 k named.0) (type-renamed t parts.1 named.1)
    expr-renamed (negation e at) h k n = expr-renamed e h.1 k n

    links-renamed : (links : NamedLinkTrees) → AllFine p s (links_parts links) → links_name_others links ≡ false → named_links names links ≡ true → named_links (only_constants names) links ≡ true
    links-renamed no_link h k n = refl
    links-renamed (link sign e others) h k n =
        let named = both (named_expr names e) (named_links names others) n in
        let parts = fine-split p s (expr_parts e) (links_parts others) h in
        let alone = either-false (names_others e) (links_name_others others) k in
        and-true (named_expr (only_constants names) e) (named_links (only_constants names) others) (expr-renamed e parts.0 alone.0 named.0) (links-renamed others parts.1 alone.1 named.1)

    pub type-renamed : (t : NamedTypeTree) → AllFine p s (type_parts t) → named_type names t ≡ true → named_type (only_constants names) t ≡ true
    type-renamed (slice_of at element) h n = type-renamed element h.1 n
    type-renamed (array_of length at element) h n =
        let named = both (named_expr names length) (named_type names element) n in
        let parts = fine-split p s (expr_parts length) (type_parts element) h.1 in
        let wrong = either-false (is_no_constant s length) (fails is_number_form (form s element)) (at-none _ at (h.0 T1 wrong_type rows.wrong_type)) in
        let alone = either-false (names_others length) (fails meant.is_constant (meaning s length)) wrong.0 in
        and-true (named_expr (only_constants names) length) (named_type (only_constants names) element) (expr-renamed length parts.0 alone.0 named.0) (type-renamed element parts.1 named.1)
    type-renamed (base_type None at bounds) h n = absurd (cc (h.0 T1 wrong_type rows.wrong_type))
    type-renamed (base_type (Some of) at unrefined) h n = refl
    type-renamed (base_type (Some (bases.Number width)) at (refined absent high)) h n =
        let wrong = at-none _ at (h.0 T1 wrong_type rows.wrong_type) in
        expr-renamed high h.1 (either-false (names_others high) (fails meant.is_constant (meaning s high)) wrong).0 n
    type-renamed (base_type (Some (bases.Number width)) at (refined (present least) high)) h n =
        let named = both (named_expr names least) (named_expr names high) n in
        let parts = fine-split p s (expr_parts least) (expr_parts high) h.1 in
        let wrong = either-false (is_no_constant s least) (is_no_constant s high) (at-none _ at (h.0 T1 wrong_type rows.wrong_type)) in
        let first = either-false (names_others least) (fails meant.is_constant (meaning s least)) wrong.0 in
        let last = either-false (names_others high) (fails meant.is_constant (meaning s high)) wrong.1 in
        and-true (named_expr (only_constants names) least) (named_expr (only_constants names) high) (expr-renamed least parts.0 first.0 named.0) (expr-renamed high parts.1 last.0 named.1)
    type-renamed (base_type (Some of) at (refined low high)) h n = absurd (cc (h.0 T1 wrong_type rows.wrong_type))
    type-renamed (struct_type k at) h n = n
