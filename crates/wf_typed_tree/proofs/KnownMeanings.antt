-- Where no judgement finds fault, every expression means something and every written type is one.
use Rattle.std.proofs.Common.{◌≡◌, ℕ, ◌-◌, ◌^◌, Bool, true, false, not, ◌&&◌, List, [], ◌∷◌, Option, Some, None, refl, sym, ap, subst, arith, nat_lt, nat_le, nat_eq}
use Rattle.std.specs.Prelude.{option_and_then, option_map, is_some, if◌then◌else◌, min}
use Rattle.std.proofs.lemmas.Bool.Decides.{nat_tests}
use Rattle.wf_text.specs.declared.place.Place.{Place}
use Rattle.wf_text.specs.declared.rules.Rule.TheVariants.{T1, T5, E3}
use Rattle.wf_base.specs.declared.marks.Mark.{Mark}
use Rattle.wf_base.specs.declared.marks.Mark.TheVariants.{Pure, Impure, Coroutine}
use Rattle.wf_base.specs.declared.widths.Width.{Width}
use Rattle.wf_base.specs.declared.base_methods.BaseSig.{BaseSig}
use Rattle.wf_base.specs.declared.base_methods.BaseSig.TheVariants as sigs
use Rattle.wf_base.specs.BaseTable.{bits_of, row_of}
use Rattle.wf_ast.specs.declared.types.Ty.{Ty}
use Rattle.wf_ast.specs.declared.types.Ty.TheVariants as types
use Rattle.wf_ast.specs.TypedTrees.{OperatorKind, operator_kind}
use Rattle.wf_ast.specs.WellTyped.{is_pure, same_mark}
use Rattle.wf_named.specs.declared.nodes.BaseType.{BaseType}
use Rattle.wf_named.specs.declared.nodes.BaseType.TheVariants as bases
use Rattle.wf_named.specs.declared.nodes.NamedCallee.TheVariants as callees
use Rattle.wf_named.specs.declared.nodes.Variable.{Variable}
use Rattle.wf_named.specs.NamedTree.{NamedExprTree, number, status, truth, path, index, slice, answer, chain, convert, negation, NamedPartTree, absent, present, NamedLinkTrees, no_link, link, call, NamedTypeTree, slice_of, array_of, base_type, struct_type, unrefined, refined, NamedPackageTree}
use Rattle.wf_named.specs.WellNamed.{NamedScope, is_there, type_of_variable, kind_of, has_kind, is_wanted, args_wanted, count_args, named_expr, named_part, named_links, named_args, named_type}
use Rattle.wf_types_rules.specs.declared.meanings.Meaning.{Meaning}
use Rattle.wf_types_rules.specs.declared.meanings.Meaning.TheVariants as meanings
use Rattle.wf_types_rules.specs.declared.meanings.Operand.{Operand}
use Rattle.wf_types_rules.specs.Meanings as meant
use Rattle.wf_types_rules.specs.declared.settings.Form.{Form}
use Rattle.wf_types_rules.specs.declared.settings.Form.TheVariants as forms
use Rattle.wf_types_rules.specs.declared.settings.Setting.{Setting}
use Rattle.wf_types_rules.specs.Meanings.{all_of, variable, is_value, constant_number, place_of}
use Rattle.wf_types_rules.specs.Operands.{first_of, not_taken, not_fitting, are_taken, given, meaning_of_operator, has_no_value}
use Rattle.wf_types_rules.specs.ExprTypes.{only_where, element_of, slice_in, pure_answer, given_by_base, plain_width, base_of, refined_type, array_type, converted, in_front, operand_at, if_number, meaning, if_end, operands_behind, operands, number_of, low_number, written}
use Rattle.wf_types_rules.specs.DeclaredTypes.{form_of, is_number_form, is_numeric, holds_zero}
use Rattle.wf_types_rules.specs.Parts.{expr_parts, end_parts, links_parts, type_parts}
use Rattle.wf_types_rules.specs.Judgements.{at_if, fails, if_both, meets, value_of, end_value, no_number, no_end, is_known, is_cut, wrong_operand, unfit_operand, node_without_value, names_others, is_no_constant, bound_of, low_bound, are_unfit, base_form, refined_form, with_elements, form, wrong_type, misplaced_type, crossed_bounds, goes_above, high_bound, no_elements, element_above_zero, call_inside, wrong_mark}
use Rattle.wf_types_rules.proofs.TypeRows as rows
use Rattle.wf_typed_tree.proofs.NumberLemmas.{both, and-true, where-parts}
use Rattle.wf_typed_tree.proofs.ExprLaws.{kind-wanted}
use Rattle.wf_typed_tree.proofs.NoBreaks.{AllFine, fine-split, at-none, either-false, not-not, first-none, holds, both-hold, there-of, some-is}

abbrev pub HasValue : {X : Type 0} → Option X → Type 0
HasValue {X} o = (x : X) × (o ≡ Some x)

-- A judgement that needs meanings which are there.
judged : (known : Bool) (at : Option Place) → known ≡ true → if_both known at ≡ None → at ≡ None
judged true at e h = h
judged false at e h = absurd (cc e)

pub then-known : {X Y : Type 0} (f : X → Option Y) (o : Option X) (x : X) (y : Y) → o ≡ Some x → f x ≡ Some y → option_and_then f o ≡ Some y
then-known {X} f o x y e h = let P : Option X → Type 0 = λ z. option_and_then f z ≡ Some y in subst P (sym e) h

pub map-known : {X Y : Type 0} (f : X → Y) (o : Option X) (x : X) → o ≡ Some x → option_map f o ≡ Some (f x)
map-known f o x e = rw e refl

where-known : {X : Type 0} (test : Bool) (x : X) → test ≡ true → (if test then Some x else None) ≡ Some x
where-known test x e = rw e refl

pub front-known : (o : Option Operand) (os : Option (List Operand)) (x : Operand) (xs : List Operand) → o ≡ Some x → os ≡ Some xs → in_front o os ≡ Some (x ∷ xs)
front-known o os x xs e f = rw (e, f) refl

number-known : (o : Option Meaning) (x : Option Ty) (m : Meaning) (ty : Ty) → o ≡ Some m → meant.is_number m ≡ true → x ≡ Some ty → if_number o x ≡ Some ty
number-known o x m ty e n h = rw (e, n) h

-- What a pure base method gives is something.
pure-gives : (sig : BaseSig) → is_pure (row_of sig).mark ≡ true → HasValue (given_by_base (row_of sig).gives)
pure-gives sigs.ReaderLength h = (_, refl)
pure-gives sigs.ReaderIsClosed h = (_, refl)
pure-gives sigs.ReaderPosition h = (_, refl)
pure-gives (sigs.Peek form) h = (_, refl)
pure-gives sigs.WriterLength h = (_, refl)
pure-gives sigs.WriterPosition h = (_, refl)
pure-gives (sigs.SliceLength width) h = (_, refl)
pure-gives (sigs.ArrayLength width) h = (_, refl)
pure-gives sigs.IsOk h = (_, refl)
pure-gives sigs.IsNote h = (_, refl)
pure-gives sigs.IsSuspension h = (_, refl)
pure-gives sigs.IsError h = (_, refl)
pure-gives sig h = absurd (cc h)

pub pure-known : (sig : BaseSig) (mark : Mark) (m : Meaning) → is_pure mark ≡ true → same_mark mark (row_of sig).mark ≡ true → HasValue (pure_answer sig mark m)
pure-known sig Pure m h k = given-known (row_of sig).mark k (pure-gives sig)
  where
    given-known : (mark : Mark) → same_mark Pure mark ≡ true → (is_pure mark ≡ true → HasValue (given_by_base (row_of sig).gives))
        → HasValue (if is_pure mark && is_pure Pure then option_map meanings.Typed (given_by_base (row_of sig).gives) else None)
    given-known Pure e f = let g = f refl in (meanings.Typed g.0, rw g.1 refl)
    given-known Impure e f = absurd (cc e)
    given-known Coroutine e f = absurd (cc e)
pure-known sig mark m h k = absurd (cc h)

-- Operators.
operator-known : (sort : OperatorKind) (os : List Operand) → not_taken sort os ≡ None → not_fitting sort os ≡ None → has_no_value sort os ≡ false → HasValue (meaning_of_operator sort os)
operator-known sort os h k v =
    let taken : are_taken sort os ≡ true = rw (h, k) refl in
    by_given (given sort os) refl taken
  where
    by_given : (g : Option Meaning) → given sort os ≡ g → are_taken sort os ≡ true → HasValue (meaning_of_operator sort os)
    by_given (Some m) e taken = (m, rw taken e)
    by_given None e taken = let none : has_no_value sort os ≡ true = rw (taken, e) refl in absurd (cc (v, none))

-- `as`.
converted-known : (t : NamedTypeTree) (m : Meaning) (w : Width) → plain_width t ≡ Some w → meant.is_number m ≡ true → is_cut (Some m) (plain_width t) ≡ false → HasValue (converted (plain_width t) m)
converted-known t (meanings.Constant own value) w e n h =
    let low : nat_lt value (2 ^ bits_of w) ≡ true = holds (λ width. nat_lt value (2 ^ bits_of width)) (plain_width t) w e h in
    (meanings.Constant (Some w) value, rw (e, low) refl)
converted-known t (meanings.Typed ty) w e n h = (meanings.Typed (all_of w), rw (e, n) refl)

-- Bounds, and arrays.
refined-known : (width : Width) (low high : Option ℕ) (m n : ℕ) → low ≡ Some m → high ≡ Some n → nat_le m n ≡ true → goes_above width (Some m) (Some n) ≡ false
    → HasValue (refined_type width low high)
refined-known width low high m n e f le h =
    let within : nat_le (2 ^ bits_of width) n ≡ false = let P : Bool → Type 0 = λ b. (b && nat_le (2 ^ bits_of width) n) ≡ false in subst P le h in
    let below : nat_lt n (2 ^ bits_of width) ≡ true = grind (arith, nat_tests, within) in
    (types.Num width m n, rw (e, f, le, below) refl)

array-known : (count : Option ℕ) (element : Option Ty) (n : ℕ) (ty : Ty) → count ≡ Some n → element ≡ Some ty → nat_lt 0 n ≡ true → is_numeric ty ≡ true → holds_zero ty ≡ true
    → HasValue (array_type count element)
array-known count element n (types.Num width lo hi) e f positive numeric zero = (types.Array width lo hi (min n (2 ^ 32 - 1)), rw (e, f, positive, zero) refl)
array-known count element n ty e f positive numeric zero = absurd (cc numeric)

constant-known : (m : Meaning) → meant.is_constant m ≡ true → HasValue (constant_number m)
constant-known (meanings.Constant width value) h = (value, refl)
constant-known m h = absurd (cc h)

pub numbered-known : (o : Option Meaning) (m : Meaning) → o ≡ Some m → fails meant.is_constant o ≡ false → HasValue (option_and_then constant_number o)
numbered-known o m e h = let it = constant-known m (holds meant.is_constant o m e h) in (it.0, then-known constant_number o m it.0 e it.1)

-- What has a kind is there.
pub kind-there : (o : Option NamedTypeTree) (sig : BaseSig) → has_kind (row_of sig).on (option_and_then kind_of o) ≡ true → is_some o ≡ true
kind-there None sig h = absurd (cc h)
kind-there (Some t) sig h = refl

end-gives : (s : Setting) (part : NamedPartTree) (x : Option Ty) (ty : Ty) → is_known (end_value s part) ≡ true → no_end (end_value s part) ≡ None → x ≡ Some ty → if_end s part x ≡ Some ty
end-gives s absent x ty k h e = e
end-gives s (present e) x ty k h f =
    let it = there-of (meaning s e) k in
    number-known (meaning s e) x it.0 ty it.1 (holds meant.is_number (meaning s e) it.0 it.1 (at-none (fails meant.is_number (meaning s e)) (place_of e) h)) f

-- A type that is written has the form of what it is.
base-formed : (of : BaseType) → base_form of ≡ form_of (base_of of)
base-formed (bases.Number width) = refl
base-formed bases.Flag = refl
base-formed bases.Status = refl
base-formed bases.Reader = refl
base-formed bases.Writer = refl

plain-formed : (s : Setting) (t : NamedTypeTree) (w : Width) → plain_width t ≡ Some w → form s t ≡ Some forms.Number
plain-formed s (base_type (Some (bases.Number width)) at unrefined) w h = refl
plain-formed s t w h = absurd (cc h)

slice-formed : (s : Setting) (element : NamedTypeTree) (o : Option Width) (ty : Ty) → plain_width element ≡ o → option_map types.Slice o ≡ Some ty
    → with_elements forms.Slice (form s element) ≡ Some (form_of ty)
slice-formed s element (Some w) ty e h =
    let same : types.Slice w ≡ ty = cc h in
    let F : Ty → Type 0 = λ z. with_elements forms.Slice (form s element) ≡ Some (form_of z) in
    subst F same (rw (plain-formed s element w e) refl)
slice-formed s element None ty e h = absurd (cc h)

array-formed : (count : Option ℕ) (element : Option Ty) (kind : Option Form) (ty : Ty) → ((of : Ty) → element ≡ Some of → kind ≡ Some (form_of of)) → array_type count element ≡ Some ty
    → with_elements forms.Array kind ≡ Some (form_of ty)
array-formed (Some n) (Some (types.Num width lo hi)) kind ty inside h =
    let it = where-parts (nat_lt 0 n && nat_eq lo 0) (types.Array width lo hi (min n (2 ^ 32 - 1))) ty h in
    let F : Ty → Type 0 = λ z. with_elements forms.Array kind ≡ Some (form_of z) in
    subst F it.1 (rw (inside (types.Num width lo hi) refl) refl)
array-formed None element kind ty inside h = absurd (cc h)
array-formed (Some n) element kind ty inside h = absurd (cc h)

refined-formed : (width : Width) (low high : Option ℕ) (unfit : Bool) (ty : Ty) → unfit ≡ false → refined_type width low high ≡ Some ty → refined_form unfit ≡ Some (form_of ty)
refined-formed width (Some m) (Some n) unfit ty e h =
    let it = where-parts (nat_le m n && nat_lt n (2 ^ bits_of width)) (types.Num width m n) ty h in
    let F : Ty → Type 0 = λ z. refined_form unfit ≡ Some (form_of z) in
    subst F it.1 (rw e refl)
refined-formed width None high unfit ty e h = absurd (cc h)
refined-formed width (Some m) None unfit ty e h = absurd (cc h)

pub form-known : (p : NamedPackageTree) (s : Setting) (t : NamedTypeTree) (ty : Ty) → AllFine p s (type_parts t) → written s t ≡ Some ty → form s t ≡ Some (form_of ty)
form-known p s (slice_of at element) ty h e = slice-formed s element (plain_width element) ty refl e
form-known p s (array_of length at element) ty h e =
    let parts = fine-split p s (expr_parts length) (type_parts element) h.1 in
    array-formed (number_of s length) (written s element) (form s element) ty (λ of f. form-known p s element of parts.1 f) e
form-known p s (base_type None at bounds) ty h e = absurd (cc e)
form-known p s (base_type (Some of) at unrefined) ty h e =
    let same : base_of of ≡ ty = cc e in
    let F : Ty → Type 0 = λ z. Some (base_form of) ≡ Some (form_of z) in
    subst F same (ap Some (base-formed of))
form-known p s (base_type (Some (bases.Number width)) at (refined low high)) ty h e =
    refined-formed width (low_number s low) (number_of s high) (are_unfit (low_bound s low) (bound_of s high)) ty (at-none _ at (h.0 T1 wrong_type rows.wrong_type)) e
form-known p s (base_type (Some of) at (refined low high)) ty h e = absurd (cc e)
form-known p s (struct_type n at) ty h e = let same : types.Part (record { 0 = n }) ≡ ty = cc e in let F : Ty → Type 0 = λ z. Some forms.Struct ≡ Some (form_of z) in subst F same refl

module _ (p : NamedPackageTree) (names : NamedScope) (s : Setting) (known : (x : Variable) → is_some (type_of_variable names x) ≡ true → HasValue (variable s x)) where
  mutual
    pub expr-known : (e : NamedExprTree) → AllFine p s (expr_parts e) → named_expr names e ≡ true → HasValue (meaning s e)
    expr-known (number value at) h n = (_, refl)
    expr-known (status k at) h n = (_, refl)
    expr-known (truth value at) h n = (_, refl)
    expr-known (path q) h n =
        let it = known q.of n in
        let value = holds is_value (variable s q.of) it.0 it.1 (at-none (fails is_value (variable s q.of)) q.at (h.0 T1 wrong_operand rows.wrong_operand)) in
        (it.0, then-known (only_where is_value) (variable s q.of) it.0 it.0 it.1 (where-known (is_value it.0) it.0 value))
    expr-known (index q i at) h n =
        let named = both (is_there names q) (named_expr names i) n in
        let base = known q.of named.0 in
        let place = expr-known i h.1 named.1 in
        let all = and-true (is_some (variable s q.of)) (is_some (meaning s i)) (some-is (variable s q.of) base.0 base.1) (some-is (meaning s i) place.0 place.1) in
        let wrong = first-none (at_if (fails (λ m. is_some (element_of m)) (variable s q.of)) q.at) (no_number (value_of s i)) (judged _ _ all (h.0 T1 wrong_operand rows.wrong_operand)) in
        let element = there-of (element_of base.0) (holds (λ m. is_some (element_of m)) (variable s q.of) base.0 base.1 (at-none (fails (λ m. is_some (element_of m)) (variable s q.of)) q.at wrong.0)) in
        let number = holds meant.is_number (meaning s i) place.0 place.1 (at-none (fails meant.is_number (meaning s i)) (place_of i) wrong.1) in
        let gives = then-known element_of (variable s q.of) base.0 element.0 base.1 element.1 in
        let whole = number-known (meaning s i) (option_and_then element_of (variable s q.of)) place.0 element.0 place.1 number gives in
        (meanings.Typed element.0, map-known meanings.Typed (if_number (meaning s i) (option_and_then element_of (variable s q.of))) element.0 whole)
    expr-known (slice q from to at) h n =
        let named = both (is_there names q) (named_part names from && named_part names to) n in
        let ends = both (named_part names from) (named_part names to) named.1 in
        let base = known q.of named.0 in
        let parts = fine-split p s (end_parts from) (end_parts to) h.1 in
        let first = end-known from parts.0 ends.0 in
        let second = end-known to parts.1 ends.1 in
        let all = and-true (is_some (variable s q.of)) (is_known (end_value s from) && is_known (end_value s to)) (some-is (variable s q.of) base.0 base.1) (and-true (is_known (end_value s from)) (is_known (end_value s to)) first second) in
        let wrong =
        first-none (at_if (fails (λ m. is_some (slice_in m)) (variable s q.of)) q.at) (first_of (no_end (end_value s from)) (no_end (end_value s to))) (judged _ _ all (h.0 T1 wrong_operand rows.wrong_operand)) in
        let wrong_ends = first-none (no_end (end_value s from)) (no_end (end_value s to)) wrong.1 in
        let cells = there-of (slice_in base.0) (holds (λ m. is_some (slice_in m)) (variable s q.of) base.0 base.1 (at-none (fails (λ m. is_some (slice_in m)) (variable s q.of)) q.at wrong.0)) in
        let gives = then-known slice_in (variable s q.of) base.0 cells.0 base.1 cells.1 in
        let behind = end-gives s to (option_and_then slice_in (variable s q.of)) cells.0 second wrong_ends.1 gives in
        let whole = end-gives s from (if_end s to (option_and_then slice_in (variable s q.of))) cells.0 first wrong_ends.0 behind in
        (meanings.Typed cells.0, map-known meanings.Typed (if_end s from (if_end s to (option_and_then slice_in (variable s q.of)))) cells.0 whole)
    expr-known (answer (call (callees.Base on sig) at mark args)) h n =
        let wanted = both (is_wanted (args_wanted names (callees.Base on sig)) (count_args args)) (named_args names args) n in
        let kind = kind-wanted _ _ (count_args args) wanted.0 in
        let it = known on.of (kind-there (type_of_variable names on.of) sig kind) in
        let inside = either-false (not (is_pure mark)) false (at-none _ at (h.0 E3 call_inside rows.call_inside)) in
        let same = not-not (same_mark mark (row_of sig).mark) (at-none _ at (h.0 E3 wrong_mark rows.wrong_mark)) in
        let gives = pure-known sig mark it.0 (not-not (is_pure mark) inside.0) same in
        (gives.0, then-known (pure_answer sig mark) (variable s on.of) it.0 gives.0 it.1 gives.1)
    expr-known (answer (call (callees.Own k) at mark args)) h n =
        let inside = either-false (not (is_pure mark)) true (at-none _ at (h.0 E3 call_inside rows.call_inside)) in
        absurd (cc inside.1)
    expr-known (answer (call (callees.Sub x k) at mark args)) h n =
        let inside = either-false (not (is_pure mark)) true (at-none _ at (h.0 E3 call_inside rows.call_inside)) in
        absurd (cc inside.1)
    expr-known (chain op first links at) h n =
        let named = both (named_expr names first) (named_links names links) n in
        let parts = fine-split p s (expr_parts first) (links_parts links) h.1 in
        let head = expr-known first parts.0 named.0 in
        let behind = links-known links parts.1 named.1 in
        let front = map-known (operand_at (place_of first)) (meaning s first) head.0 head.1 in
        let all : operands s first links ≡ Some (operand_at (place_of first) head.0 ∷ behind.0) = front-known _ _ (operand_at (place_of first) head.0) behind.0 front behind.1 in
        let os : List Operand = operand_at (place_of first) head.0 ∷ behind.0 in
        let P : Option (List Operand) → Type 0 = λ o. option_and_then (not_taken (operator_kind op)) o ≡ None in
        let Q : Option (List Operand) → Type 0 = λ o. option_and_then (not_fitting (operator_kind op)) o ≡ None in
        let taken = subst P all (h.0 T1 wrong_operand rows.wrong_operand) in
        let fitting = subst Q all (h.0 T5 unfit_operand rows.unfit_operand) in
        let V : Option (List Operand) → Type 0 = λ o. meets (has_no_value (operator_kind op)) o ≡ false in
        let valued = subst V all (at-none _ at (h.0 T5 node_without_value rows.node_without_value)) in
        let gives = operator-known (operator_kind op) os taken fitting valued in
        (gives.0, then-known (meaning_of_operator (operator_kind op)) (operands s first links) os gives.0 all gives.1)
    expr-known (convert e t at) h n =
        let named = both (named_expr names e) (named_type names t) n in
        let parts = fine-split p s (expr_parts e) (type_parts t) h.1.1 in
        let it = expr-known e parts.0 named.0 in
        let ty = type-known t parts.1 named.1 in
        let misplaced = at-none _ _ (h.1.0 T1 misplaced_type rows.misplaced_type) in
        let W : Option Form → Type 0 = λ o. (is_some o && not (is_some (plain_width t))) ≡ false in
        let width = there-of (plain_width t) (not-not (is_some (plain_width t)) (subst W (form-known p s t ty.0 parts.1 ty.1) misplaced)) in
        let number = holds meant.is_number (meaning s e) it.0 it.1 (at-none (fails meant.is_number (meaning s e)) (place_of e) (h.0 T1 wrong_operand rows.wrong_operand)) in
        let C : Option Meaning → Type 0 = λ o. is_cut o (plain_width t) ≡ false in
        let stays = subst C it.1 (at-none _ at (h.0 T5 node_without_value rows.node_without_value)) in
        let gives = converted-known t it.0 width.0 width.1 number stays in
        (gives.0, then-known (converted (plain_width t)) (meaning s e) it.0 gives.0 it.1 gives.1)
    expr-known (negation e at) h n =
        let it = expr-known e h.1 n in
        let flag = holds meant.is_flag (meaning s e) it.0 it.1 (at-none (fails meant.is_flag (meaning s e)) (place_of e) (h.0 T1 wrong_operand rows.wrong_operand)) in
        (it.0, then-known (only_where meant.is_flag) (meaning s e) it.0 it.0 it.1 (where-known (meant.is_flag it.0) it.0 flag))

    end-known : (part : NamedPartTree) → AllFine p s (end_parts part) → named_part names part ≡ true → is_known (end_value s part) ≡ true
    end-known absent h n = refl
    end-known (present e) h n = let it = expr-known e h n in some-is (meaning s e) it.0 it.1

    links-known : (links : NamedLinkTrees) → AllFine p s (links_parts links) → named_links names links ≡ true → HasValue (operands_behind s links)
    links-known no_link h n = ([], refl)
    links-known (link sign e others) h n =
        let named = both (named_expr names e) (named_links names others) n in
        let parts = fine-split p s (expr_parts e) (links_parts others) h in
        let it = expr-known e parts.0 named.0 in
        let behind = links-known others parts.1 named.1 in
        (operand_at (place_of e) it.0 ∷ behind.0, front-known _ _ (operand_at (place_of e) it.0) behind.0 (map-known (operand_at (place_of e)) (meaning s e) it.0 it.1) behind.1)

    pub type-known : (t : NamedTypeTree) → AllFine p s (type_parts t) → named_type names t ≡ true → HasValue (written s t)
    type-known (slice_of at element) h n =
        let it = type-known element h.1 n in
        let W : Option Form → Type 0 = λ o. (is_some o && not (is_some (plain_width element))) ≡ false in
        let width = there-of (plain_width element) (not-not (is_some (plain_width element)) (subst W (form-known p s element it.0 h.1 it.1) (at-none _ at (h.0 T1 wrong_type rows.wrong_type)))) in
        (types.Slice width.0, map-known types.Slice (plain_width element) width.0 width.1)
    type-known (array_of length at element) h n =
        let named = both (named_expr names length) (named_type names element) n in
        let parts = fine-split p s (expr_parts length) (type_parts element) h.1 in
        let count = expr-known length parts.0 named.0 in
        let of = type-known element parts.1 named.1 in
        let wrong = either-false (is_no_constant s length) (fails is_number_form (form s element)) (at-none _ at (h.0 T1 wrong_type rows.wrong_type)) in
        let constant = numbered-known (meaning s length) count.0 count.1 (either-false (names_others length) (fails meant.is_constant (meaning s length)) wrong.0).1 in
        let positive = holds (nat_lt 0) (number_of s length) constant.0 constant.1 (at-none _ (place_of length) (h.0 T5 no_elements rows.no_elements)) in
        let numeric = holds is_number_form (form s element) (form_of of.0) (form-known p s element of.0 parts.1 of.1) wrong.1 in
        let zero = holds holds_zero (written s element) of.0 of.1 (at-none _ _ (h.0 T5 element_above_zero rows.element_above_zero)) in
        array-known (number_of s length) (written s element) constant.0 of.0 constant.1 of.1 positive numeric zero
    type-known (base_type None at bounds) h n = absurd (cc (h.0 T1 wrong_type rows.wrong_type))
    type-known (base_type (Some of) at unrefined) h n = (base_of of, refl)
    type-known (base_type (Some (bases.Number width)) at (refined absent high)) h n =
        let wrong = at-none _ at (h.0 T1 wrong_type rows.wrong_type) in
        let upper = expr-known high h.1 n in
        let number = numbered-known (meaning s high) upper.0 upper.1 (either-false (names_others high) (fails meant.is_constant (meaning s high)) wrong).1 in
        let N : Option ℕ → Type 0 = λ o. goes_above width (Some 0) o ≡ false in
        let low = subst N number.1 (at-none _ (place_of high) (h.0 T5 high_bound rows.high_bound)) in
        refined-known width (Some 0) (number_of s high) 0 number.0 refl number.1 (grind (arith, nat_tests)) low
    type-known (base_type (Some (bases.Number width)) at (refined (present least) high)) h n =
        let named = both (named_expr names least) (named_expr names high) n in
        let parts = fine-split p s (expr_parts least) (expr_parts high) h.1 in
        let wrong = either-false (is_no_constant s least) (is_no_constant s high) (at-none _ at (h.0 T1 wrong_type rows.wrong_type)) in
        let lower = expr-known least parts.0 named.0 in
        let upper = expr-known high parts.1 named.1 in
        let first = numbered-known (meaning s least) lower.0 lower.1 (either-false (names_others least) (fails meant.is_constant (meaning s least)) wrong.0).1 in
        let last = numbered-known (meaning s high) upper.0 upper.1 (either-false (names_others high) (fails meant.is_constant (meaning s high)) wrong.1).1 in
        let order = both-hold nat_le (number_of s least) (number_of s high) first.0 last.0 first.1 last.1 (at-none _ (place_of least) (h.0 T5 crossed_bounds rows.crossed_bounds)) in
        let L : Option ℕ → Type 0 = λ o. goes_above width o (number_of s high) ≡ false in
        let H : Option ℕ → Type 0 = λ o. goes_above width (Some first.0) o ≡ false in
        let low = subst H last.1 (subst L first.1 (at-none _ (place_of high) (h.0 T5 high_bound rows.high_bound))) in
        refined-known width (number_of s least) (number_of s high) first.0 last.0 first.1 last.1 order low
    type-known (base_type (Some of) at (refined low high)) h n = absurd (cc (h.0 T1 wrong_type rows.wrong_type))
    type-known (struct_type k at) h n = (_, refl)
