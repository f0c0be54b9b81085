-- The law of expressions: what an expression means, its typed tree is one of.
use Rattle.std.proofs.Common.{◌≡◌, ℕ, ◌^◌, Bool, true, false, ◌&&◌, List, [], ◌∷◌, length, Option, Some, None, refl, sym, subst, nat_lt}
use Rattle.std.specs.Prelude.{option_and_then, option_map, if◌then◌else◌}
use Rattle.wf_text.specs.declared.place.Place.{Place}
use Rattle.wf_base.specs.declared.widths.Width.{Width}
use Rattle.wf_base.specs.BaseTable.{bits_of, row_of}
use Rattle.wf_ast.specs.declared.operators.Op.{Op}
use Rattle.wf_ast.specs.declared.types.Ty.{Ty}
use Rattle.wf_ast.specs.declared.types.Ty.TheVariants as types
use Rattle.wf_ast.specs.TypedTree.{element, cut, ValueTree, numeric, logical, state, elements}
use Rattle.wf_ast.specs.TypedTree as typed
use Rattle.wf_ast.specs.TypedTrees.{operator_kind, num_in, cond_in, slice_in, num_type, chain_of, answer_of}
use Rattle.wf_ast.specs.WellTyped.{Context, is_width, is_whole_number, well_part, well_end}
use Rattle.wf_named.specs.declared.nodes.NamedCallee.TheVariants as callees
use Rattle.wf_named.specs.NamedTree.{NamedExprTree, number, status, truth, path, index, slice, answer, chain, convert, negation, NamedPartTree, absent, present, NamedLinkTrees, no_link, link, call, NamedTypeTree}
use Rattle.wf_named.specs.WellNamed.{NamedScope, is_there, type_of_variable, kind_of, has_kind, is_wanted, args_wanted, count_args, named_expr, named_part, named_links, named_args, named_type}
use Rattle.wf_named.specs.Grammar.{has_operands, by_grammar, end_by_grammar, links_by_grammar}
use Rattle.wf_types_rules.specs.declared.meanings.Meaning.{Meaning}
use Rattle.wf_types_rules.specs.declared.meanings.Meaning.TheVariants as meanings
use Rattle.wf_types_rules.specs.declared.meanings.Operand.{Operand}
use Rattle.wf_types_rules.specs.Meanings as meant
use Rattle.wf_types_rules.specs.declared.settings.Setting.{Setting}
use Rattle.wf_types_rules.specs.Meanings.{all_of, variable, is_value, constant_number, place_of}
use Rattle.wf_types_rules.specs.Operands.{meaning_of_operator}
use Rattle.wf_types_rules.specs.ExprTypes as told
use Rattle.wf_types_rules.specs.ExprTypes.{only_where, element_of, pure_answer, plain_width, converted, in_front, operand_at, if_number, meaning, if_end, operands_behind}
use Rattle.wf_typed_tree.specs.ElaboratedExprs.{variable_tree, path_tree, type_meant, number_or, signs_in, expr_tree, end_tree, link_trees}
use Rattle.wf_typed_tree.specs.MeaningTrees.{HasMeaning, Agree}
use Rattle.wf_typed_tree.proofs.NumberLemmas.{both, and-true, then-parts, map-parts, where-parts, width-is, whole-number}
use Rattle.wf_typed_tree.proofs.OperandLaws.{Matched, cond-well}
use Rattle.wf_typed_tree.proofs.AllOperators.{whole-tree, is_row, operator-means}
use Rattle.wf_typed_tree.proofs.VariableLaws.{element-means, cut-means, variable-means, cells-of, wide-of, answer-means}

-- What the parts of a meaning are.
pub record Numbered (o : Option Meaning) (x : Option Ty) (ty : Ty) : Type 0 where
  pub of : Meaning
  pub is : o ≡ Some of
  pub number : meant.is_number of ≡ true
  pub gives : x ≡ Some ty

pub numbered : (o : Option Meaning) (x : Option Ty) (ty : Ty) → if_number o x ≡ Some ty → Numbered o x ty
numbered None x ty h = absurd (cc h)
numbered (Some m) x ty h = by_test (meant.is_number m) refl h
  where
    by_test : (b : Bool) → meant.is_number m ≡ b → (if b then x else None) ≡ Some ty → Numbered (Some m) x ty
    by_test true e k = record { of = m; is = refl; number = e; gives = k }
    by_test false e k = absurd (cc k)

record InFront (o : Option Operand) (os : Option (List Operand)) (all : List Operand) : Type 0 where
  first : Operand
  rest : List Operand
  here : o ≡ Some first
  behind : os ≡ Some rest
  is : first ∷ rest ≡ all

front-parts : (o : Option Operand) (os : Option (List Operand)) (all : List Operand) → in_front o os ≡ Some all → InFront o os all
front-parts (Some o) (Some os) all h = record { first = o; rest = os; here = refl; behind = refl; is = cc h }
front-parts (Some o) None all h = absurd (cc h)
front-parts None os all h = absurd (cc h)

-- The operand of an expression.
record OperandOf (s : Setting) (e : NamedExprTree) (o : Operand) : Type 0 where
  of : Meaning
  means : meaning s e ≡ Some of
  is : operand_at (place_of e) of ≡ o

operand-parts : (s : Setting) (e : NamedExprTree) (o : Operand) → option_map (operand_at (place_of e)) (meaning s e) ≡ Some o → OperandOf s e o
operand-parts s e o h = let p = map-parts (operand_at (place_of e)) (meaning s e) o h in record { of = p.of; means = p.is; is = p.gives }

-- As many operands as links.
row-of : (s : Setting) (op : Op) (links : NamedLinkTrees) (os : List Operand) → has_operands op links ≡ true → operands_behind s links ≡ Some os → is_row op os ≡ true
row-of s op no_link os g h = absurd (cc g)
row-of s op (link sign e no_link) os g h =
    let p = front-parts (option_map (operand_at (place_of e)) (meaning s e)) (Some []) os h in
    let none : [] ≡ p.rest = let same : Some [] ≡ Some p.rest = p.behind in cc same in
    let P : List Operand → Type 0 = λ all. is_row op all ≡ true in
    let Q : List Operand → Type 0 = λ rest. is_row op (p.first ∷ rest) ≡ true in
    subst P p.is (subst Q none refl)
row-of s op (link sign e (link sign_behind f others)) os g h =
    let p = front-parts (option_map (operand_at (place_of e)) (meaning s e)) (operands_behind s (link sign_behind f others)) os h in
    let q = front-parts (option_map (operand_at (place_of f)) (meaning s f)) (operands_behind s others) p.rest p.behind in
    let P : List Operand → Type 0 = λ all. is_row op all ≡ true in
    let Q : List Operand → Type 0 = λ rest. is_row op (p.first ∷ rest) ≡ true in
    subst P p.is (subst Q q.is g)

-- A base method is called on what has its kind.
pub kind-wanted : (test : Bool) (n count : ℕ) → is_wanted (if test then Some n else None) count ≡ true → test ≡ true
kind-wanted true n count h = refl
kind-wanted false n count h = absurd (cc h)

-- `as`.
record Converts (t : NamedTypeTree) (from m : Meaning) : Type 0 where
  width : Width
  plain : plain_width t ≡ Some width
  gives : converted (Some width) from ≡ Some m

converts : (t : NamedTypeTree) (from m : Meaning) → converted (plain_width t) from ≡ Some m → Converts t from m
converts t from m h = by_width (plain_width t) refl h
  where
    by_width : (w : Option Width) → plain_width t ≡ w → converted w from ≡ Some m → Converts t from m
    by_width None e k = absurd (cc k)
    by_width (Some w) e k = record { width = w; plain = e; gives = k }

converted-means : (c : Context) (at : Place) (width : Width) (from m : Meaning) (t : ValueTree) → converted (Some width) from ≡ Some m → HasMeaning c from t
    → HasMeaning c m (number_or at (constant_number m) (numeric (typed.convert at at (num_type (type_meant (Some m))).bits (num_in t))))
converted-means c at width (meanings.Constant own value) m t h k =
    let p = where-parts (nat_lt value (2 ^ bits_of width)) (meanings.Constant (Some width) value) m h in
    let P : Meaning → Type 0 = λ n. HasMeaning c n (number_or at (constant_number n) (numeric (typed.convert at at (num_type (type_meant (Some n))).bits (num_in t)))) in
    subst P p.1 (record { at = at; is = refl; fits = p.0 })
converted-means c at width (meanings.Typed ty) m t h k =
    let p = where-parts (meant.is_number (meanings.Typed ty)) (meanings.Typed (all_of width)) m h in
    let it = whole-tree c t (whole-number c (meanings.Typed ty) t p.0 k) in
    let P : Meaning → Type 0 = λ n. HasMeaning c n (number_or at (constant_number n) (numeric (typed.convert at at (num_type (type_meant (Some n))).bits (num_in t)))) in
    subst P p.1
    (record {
      tree = typed.convert at at (bits_of width) (num_in t);
      is = refl;
      width = refl;
      varies = refl;
      well = and-true (is_width (bits_of width)) _ (width-is width) (and-true (is_whole_number (num_in t)) (well_part c (num_in t)) it.0 it.1);
    })

-- `not`.
negated-means : (c : Context) (at : Place) (m : Meaning) (t : ValueTree) → meant.is_flag m ≡ true → HasMeaning c m t → HasMeaning c m (logical (typed.negation at (cond_in t)))
negated-means c at (meanings.Typed types.Flag) t h k = record { tree = typed.negation at (cond_in t); is = refl; well = cond-well c t k }
negated-means c at m t h k = absurd (cc h)

only-parts : (test : Meaning → Bool) (n m : Meaning) → only_where test n ≡ Some m → (test n ≡ true) × (n ≡ m)
only-parts test n m h = where-parts (test n) n m h

module _ (names : NamedScope) (s : Setting) (c : Context) (agree : Agree names s c) where
  mutual
    pub expr-means : (e : NamedExprTree) (m : Meaning) → by_grammar e ≡ true → named_expr names e ≡ true → meaning s e ≡ Some m → HasMeaning c m (expr_tree s e)
    expr-means (number value at) m g n h =
        let is : meanings.Constant None value ≡ m = cc h in
        let P : Meaning → Type 0 = λ i. HasMeaning c i (numeric (typed.number at value)) in
        subst P is (record { at = at; is = refl; fits = g })
    expr-means (status k at) m g n h =
        let is : meanings.Typed types.Status ≡ m = cc h in
        let P : Meaning → Type 0 = λ i. HasMeaning c i (state (typed.status at k)) in
        subst P is (record { tree = typed.status at k; is = refl; well = agree.told k n })
    expr-means (truth value at) m g n h =
        let is : meanings.Typed types.Flag ≡ m = cc h in
        let P : Meaning → Type 0 = λ i. HasMeaning c i (logical (typed.truth at value)) in
        subst P is (record { tree = typed.truth at value; is = refl; well = refl })
    expr-means (path p) m g n h =
        let it = then-parts (only_where is_value) (variable s p.of) m h in
        let value = only-parts is_value it.of m it.gives in
        let P : Option Meaning → Type 0 = λ v. HasMeaning c m (variable_tree p.at p.of v) in
        let Q : Meaning → Type 0 = λ i. HasMeaning c i (variable_tree p.at p.of (Some it.of)) in
        subst P (sym it.is) (subst Q value.1 (variable-means names s c agree p.at p.of it.of it.is value.0))
    expr-means (index p i at) m g n h =
        let whole = map-parts meanings.Typed (if_number (meaning s i) (option_and_then element_of (variable s p.of))) m h in
        let place = numbered (meaning s i) (option_and_then element_of (variable s p.of)) whole.of whole.is in
        let base = then-parts element_of (variable s p.of) whole.of place.gives in
        let inside = expr-means i place.of g (both (is_there names p) (named_expr names i) n).1 place.is in
        let P : Option Meaning → Type 0 = λ o. HasMeaning c m (numeric (element at (num_type (type_meant o)) (slice_in (path_tree s p)) (num_in (expr_tree s i)))) in
        let Q : Option Meaning → Type 0 = λ v. HasMeaning c m (numeric (element at (num_type (type_meant (Some m))) (slice_in (variable_tree p.at p.of v)) (num_in (expr_tree s i)))) in
        subst P (sym h)
        (subst Q (sym base.is)
        (element-means c at whole.of m (slice_in (variable_tree p.at p.of (Some base.of))) (expr_tree s i) (cells-of names s c agree p.at p.of base.of whole.of base.is base.gives)
        (whole-number c place.of (expr_tree s i) place.number inside) whole.gives))
    expr-means (slice p from to at) m g n h =
        let grammar = both (end_by_grammar from) (end_by_grammar to) g in
        let named = both (named_part names from) (named_part names to) (both (is_there names p) (named_part names from && named_part names to) n).1 in
        let whole = map-parts meanings.Typed (if_end s from (if_end s to (option_and_then told.slice_in (variable s p.of)))) m h in
        let first = end-means from (if_end s to (option_and_then told.slice_in (variable s p.of))) whole.of grammar.0 named.0 whole.is in
        let second = end-means to (option_and_then told.slice_in (variable s p.of)) whole.of grammar.1 named.1 first.0 in
        let base = then-parts told.slice_in (variable s p.of) whole.of second.0 in
        let Q : Option Meaning → Type 0 = λ v. HasMeaning c m (elements (cut at (slice_in (variable_tree p.at p.of v)) (end_tree s from) (end_tree s to))) in
        subst Q (sym base.is)
        (cut-means c at whole.of m (slice_in (variable_tree p.at p.of (Some base.of))) (end_tree s from) (end_tree s to) (wide-of names s c agree p.at p.of base.of whole.of base.is base.gives)
        first.1 second.1 whole.gives)
    expr-means (answer (call (callees.Base on sig) at mark args)) m g n h =
        let it = then-parts (pure_answer sig mark) (variable s on.of) m h in
        let wanted = both (is_wanted (args_wanted names (callees.Base on sig)) (count_args args)) (named_args names args) n in
        let kind = kind-wanted (has_kind (row_of sig).on (option_and_then kind_of (type_of_variable names on.of))) (length (row_of sig).args) (count_args args) wanted.0 in
        let Q : Option Meaning → Type 0 = λ v. HasMeaning c m (answer_of at sig (variable_tree on.at on.of v)) in
        subst Q (sym it.is) (answer-means names s c agree at on mark m sig it.of it.is (agree.kinds on.of it.of (row_of sig).on it.is kind) it.gives)
    expr-means (answer (call (callees.Own k) at mark args)) m g n h = absurd (cc h)
    expr-means (answer (call (callees.Sub x k) at mark args)) m g n h = absurd (cc h)
    expr-means (chain op first links at) m g n h =
        let grammar = both (has_operands op links) (by_grammar first && links_by_grammar links) g in
        let inside = both (by_grammar first) (links_by_grammar links) grammar.1 in
        let named = both (named_expr names first) (named_links names links) n in
        let all = then-parts (meaning_of_operator (operator_kind op)) (in_front (option_map (operand_at (place_of first)) (meaning s first)) (operands_behind s links)) m h in
        let parts = front-parts (option_map (operand_at (place_of first)) (meaning s first)) (operands_behind s links) all.of all.is in
        let head = operand-parts s first parts.first parts.here in
        let H : Operand → Type 0 = λ o. HasMeaning c o.of (expr_tree s first) in
        let trees : Matched c (parts.first ∷ parts.rest) (expr_tree s first ∷ link_trees s links) = (subst H head.is (expr-means first head.of inside.0 named.0 head.means), links-mean links parts.rest inside.1 named.1 parts.behind) in
        let O : List Operand → Type 0 = λ os. meaning_of_operator (operator_kind op) os ≡ Some m in
        let P : Option Meaning → Type 0 = λ o. HasMeaning c m (number_or at (option_and_then constant_number o) (chain_of at (signs_in links) (type_meant o) (operator_kind op) (expr_tree s first ∷ link_trees s links))) in
        subst P (sym h)
        (operator-means c at (signs_in links) op parts.first parts.rest (expr_tree s first) (link_trees s links) m (row-of s op links parts.rest grammar.0 parts.behind)
        (subst O (sym parts.is) all.gives) trees)
    expr-means (convert e t at) m g n h =
        let it = then-parts (converted (plain_width t)) (meaning s e) m h in
        let to = converts t it.of m it.gives in
        let inside = expr-means e it.of g (both (named_expr names e) (named_type names t) n).0 it.is in
        let P : Option Meaning → Type 0 = λ o. HasMeaning c m (number_or at (option_and_then constant_number o) (numeric (typed.convert at at (num_type (type_meant o)).bits (num_in (expr_tree s e))))) in
        subst P (sym h) (converted-means c at to.width it.of m (expr_tree s e) to.gives inside)
    expr-means (negation e at) m g n h =
        let it = then-parts (only_where meant.is_flag) (meaning s e) m h in
        let flag = only-parts meant.is_flag it.of m it.gives in
        let inside = expr-means e it.of g n it.is in
        let Q : Meaning → Type 0 = λ i. HasMeaning c i (logical (typed.negation at (cond_in (expr_tree s e)))) in
        subst Q flag.1 (negated-means c at it.of (expr_tree s e) flag.0 inside)

    end-means : (part : NamedPartTree) (x : Option Ty) (ty : Ty) → end_by_grammar part ≡ true → named_part names part ≡ true → if_end s part x ≡ Some ty
        → (x ≡ Some ty) × (well_end c (end_tree s part) ≡ true)
    end-means absent x ty g n h = (h, refl)
    end-means (present e) x ty g n h =
        let it = numbered (meaning s e) x ty h in
        let inside = whole-tree c (expr_tree s e) (whole-number c it.of (expr_tree s e) it.number (expr-means e it.of g n it.is)) in
        (it.gives, and-true (is_whole_number (num_in (expr_tree s e))) (well_part c (num_in (expr_tree s e))) inside.0 inside.1)

    links-mean : (links : NamedLinkTrees) (os : List Operand) → links_by_grammar links ≡ true → named_links names links ≡ true → operands_behind s links ≡ Some os
        → Matched c os (link_trees s links)
    links-mean no_link os g n h =
        let none : [] ≡ os = cc h in
        let P : List Operand → Type 0 = λ all. Matched c all [] in
        subst P none tt
    links-mean (link sign e others) os g n h =
        let grammar = both (by_grammar e) (links_by_grammar others) g in
        let named = both (named_expr names e) (named_links names others) n in
        let parts = front-parts (option_map (operand_at (place_of e)) (meaning s e)) (operands_behind s others) os h in
        let it = operand-parts s e parts.first parts.here in
        let H : Operand → Type 0 = λ o. HasMeaning c o.of (expr_tree s e) in
        let P : List Operand → Type 0 = λ all. Matched c all (expr_tree s e ∷ link_trees s others) in
        subst P parts.is (subst H it.is (expr-means e it.of grammar.0 named.0 it.means), links-mean others parts.rest grammar.1 named.1 parts.behind)
