-- What an expression means is what the rule of its form gives.
use Rattle.std.proofs.Common.{◌≡◌, ◌<◌, ◌^◌, ◌-◌, Bool, true, false, ◌&&◌, if◌then◌else◌, List, [], ◌∷◌, Option, None, Some, nat_eq, nat_lt, refl, sym, ap, ◌∙◌, subst, arith}
use Rattle.std.specs.Prelude.{option_and_then, option_map}
use Rattle.std.proofs.lemmas.Bool.Decides.{nat_tests}
use Rattle.wf_text.specs.declared.place.Place.{Place}
use Rattle.wf_base.specs.declared.widths.Width.{Width}
use Rattle.wf_base.specs.BaseTable.{bits_of, row_of}
use Rattle.wf_ast.specs.declared.types.Ty.{Ty}
use Rattle.wf_ast.specs.declared.types.Ty.TheVariants as types
use Rattle.wf_ast.specs.TypedTrees.{operator_kind}
use Rattle.wf_ast.specs.WellTyped.{is_pure}
use Rattle.wf_named.specs.declared.nodes.NamedCallee.TheVariants as callees
use Rattle.wf_named.specs.NamedTree as tree
use Rattle.wf_named.specs.NamedTree.{NamedExprTree, NamedPartTree, NamedLinkTrees, NamedTypeTree}
use Rattle.wf_named.specs.Grammar.{has_operands, by_grammar, end_by_grammar, links_by_grammar}
use Rattle.wf_types_rules.specs.declared.meanings.Meaning.{Meaning}
use Rattle.wf_types_rules.specs.declared.meanings.Meaning.TheVariants as meanings
use Rattle.wf_types_rules.specs.declared.meanings.Operand.{Operand}
use Rattle.wf_types_rules.specs.declared.settings.Setting.{Setting}
use Rattle.wf_types_rules.specs.Meanings.{all_of, variable, is_value, is_number, is_flag, place_of}
use Rattle.wf_types_rules.specs.Operands.{meaning_of_operator}
use Rattle.wf_types_rules.specs.ExprTypes.{only_where, element_of, slice_in, given_by_base, pure_answer, plain_width, converted, in_front, operand_at, if_number, meaning, if_end, operands_behind}
use Rattle.wf_typed_tree.proofs.NumberLemmas.{both, equal-numbers, then-parts, map-parts, where-parts}
use Rattle.wf_typed_tree.proofs.ExprLaws.{numbered}
use Rattle.wf_typed_expr_laws.specs.Typing as is
use Rattle.wf_typed_expr_laws.specs.Typing.{HasElements, IsSliced, HasType, IsEnd, HaveTypes}
use Rattle.wf_typed_expr_laws.specs.ExprLaws.{MeaningsAreTyped}
use Rattle.wf_typed_expr_laws.proofs.Operators.{meanings_in, operator-gives}

record InFront (o : Option Operand) (os : Option (List Operand)) (all : List Operand) : Type 0 where
  first : Operand
  rest : List Operand
  here : o ≡ Some first
  behind : os ≡ Some rest
  is : first ∷ rest ≡ all

front-parts : (o : Option Operand) (os : Option (List Operand)) (all : List Operand) → in_front o os ≡ Some all → InFront o os all
front-parts (Some o) (Some os) all h = record { first = o; rest = os; here = refl; behind = refl; is = cc h }
front-parts (Some o) None all h = absurd (cc h)
front-parts None os all h = absurd (cc h)

elements-so : (m : Meaning) (ty : Ty) → element_of m ≡ Some ty → HasElements m ty
elements-so (meanings.Typed (types.Array width lo hi count)) ty h = let same : types.Num width lo hi ≡ ty = cc h in subst (HasElements (meanings.Typed (types.Array width lo hi count))) same (is.of_array width lo hi count)
elements-so (meanings.Typed (types.Slice width)) ty h = let same : all_of width ≡ ty = cc h in subst (HasElements (meanings.Typed (types.Slice width))) same (is.of_slice width)
elements-so m ty h = absurd (cc h)

record Sliced (m : Meaning) (ty : Ty) : Type 0 where
  width : Width
  is : types.Slice width ≡ ty
  of : IsSliced m width

sliced-so : (m : Meaning) (ty : Ty) → slice_in m ≡ Some ty → Sliced m ty
sliced-so (meanings.Typed (types.Slice width)) ty h = record { width = width; is = cc h; of = is.a_slice width }
sliced-so (meanings.Typed (types.Array width lo hi count)) ty h =
    let p = where-parts (nat_eq lo 0 && nat_eq hi (2 ^ bits_of width - 1)) (types.Slice width) ty h in
    let q = both (nat_eq lo 0) (nat_eq hi (2 ^ bits_of width - 1)) p.0 in
    record { width = width; is = p.1; of = is.an_array width lo hi count (equal-numbers lo 0 q.0) (equal-numbers hi (2 ^ bits_of width - 1) q.1) }
sliced-so m ty h = absurd (cc h)

only-parts : (test : Meaning → Bool) (n m : Meaning) → only_where test n ≡ Some m → (test n ≡ true) × (n ≡ m)
only-parts test n m h = where-parts (test n) n m h

flag-is : (m : Meaning) → is_flag m ≡ true → meanings.Typed types.Flag ≡ m
flag-is (meanings.Typed types.Flag) h = refl
flag-is m h = absurd (cc h)

answer-parts : (a b : Bool) (x : Option Meaning) (m : Meaning) → (if a && b then x else None) ≡ Some m → (a ≡ true) × (b ≡ true) × (x ≡ Some m)
answer-parts true true x m h = (refl, refl, h)
answer-parts true false x m h = absurd (cc h)
answer-parts false b x m h = absurd (cc h)

module _ (s : Setting) where
  converts : (e : NamedExprTree) (t : NamedTypeTree) (at : Place) (from m : Meaning) → HasType s e from → (w : Option Width) → plain_width t ≡ w → converted w from ≡ Some m → HasType s (tree.convert e t at) m
  converts e t at from m of None k h = absurd (cc h)
  converts e t at (meanings.Constant own value) m of (Some width) k h =
      let p = where-parts (nat_lt value (2 ^ bits_of width)) (meanings.Constant (Some width) value) m h in
      let below : value < 2 ^ bits_of width = grind (arith, nat_tests, p.0) in
      subst (HasType s (tree.convert e t at)) p.1 (is.of_converted_constant e t at own value width of k below)
  converts e t at (meanings.Typed ty) m of (Some width) k h =
      let p = where-parts (is_number (meanings.Typed ty)) (meanings.Typed (all_of width)) m h in
      subst (HasType s (tree.convert e t at)) p.1 (is.of_conversion e t at (meanings.Typed ty) width of k p.0 refl)

  mutual
    pub expr-typed : (e : NamedExprTree) (m : Meaning) → by_grammar e ≡ true → meaning s e ≡ Some m → HasType s e m
    expr-typed (tree.number value at) m g h = let same : meanings.Constant None value ≡ m = cc h in subst (HasType s (tree.number value at)) same (is.of_literal value at)
    expr-typed (tree.status n at) m g h = let same : meanings.Typed types.Status ≡ m = cc h in subst (HasType s (tree.status n at)) same (is.of_status n at)
    expr-typed (tree.truth value at) m g h = let same : meanings.Typed types.Flag ≡ m = cc h in subst (HasType s (tree.truth value at)) same (is.of_truth value at)
    expr-typed (tree.path p) m g h =
        let it = then-parts (only_where is_value) (variable s p.of) m h in
        let value = only-parts is_value it.of m it.gives in
        subst (HasType s (tree.path p)) value.1 (is.of_variable p it.of it.is value.0)
    expr-typed (tree.index p i at) m g h =
        let it = map-parts meanings.Typed (if_number (meaning s i) (option_and_then element_of (variable s p.of))) m h in
        let n = numbered (meaning s i) (option_and_then element_of (variable s p.of)) it.of it.is in
        let on = then-parts element_of (variable s p.of) it.of n.gives in
        subst (HasType s (tree.index p i at)) it.gives (is.of_element p on.of i n.of it.of at on.is (elements-so on.of it.of on.gives) (expr-typed i n.of g n.is) n.number)
    expr-typed (tree.slice p from to at) m g h =
        let gs = both (end_by_grammar from) (end_by_grammar to) g in
        let it = map-parts meanings.Typed (if_end s from (if_end s to (option_and_then slice_in (variable s p.of)))) m h in
        let first = end-typed from (if_end s to (option_and_then slice_in (variable s p.of))) it.of gs.0 it.is in
        let second = end-typed to (option_and_then slice_in (variable s p.of)) it.of gs.1 first.1 in
        let on = then-parts slice_in (variable s p.of) it.of second.1 in
        let r = sliced-so on.of it.of on.gives in
        subst (HasType s (tree.slice p from to at)) (ap meanings.Typed r.is ∙ it.gives) (is.of_part p on.of from to r.width at on.is r.of first.0 second.0)
    expr-typed (tree.answer (tree.call (callees.Base on sig) at mark args)) m g h =
        let it = then-parts (pure_answer sig mark) (variable s on.of) m h in
        let p = answer-parts (is_pure (row_of sig).mark) (is_pure mark) (option_map meanings.Typed (given_by_base (row_of sig).gives)) m it.gives in
        let given = map-parts meanings.Typed (given_by_base (row_of sig).gives) m p.2 in
        subst (HasType s (tree.answer (tree.call (callees.Base on sig) at mark args))) given.gives (is.of_answer on it.of sig at mark args given.of it.is p.0 p.1 given.is)
    expr-typed (tree.answer (tree.call (callees.Own n) at mark args)) m g h = absurd (cc h)
    expr-typed (tree.answer (tree.call (callees.Sub x n) at mark args)) m g h = absurd (cc h)
    expr-typed (tree.chain op first tree.no_link at) m g h = absurd (cc g)
    expr-typed (tree.chain op first (tree.link sign e others) at) m g h =
        let links = tree.link sign e others in
        let gs = (both (by_grammar first) (links_by_grammar links) (both (has_operands op links) (by_grammar first && links_by_grammar links) g).1) in
        let it = then-parts (meaning_of_operator (operator_kind op)) (in_front (option_map (operand_at (place_of first)) (meaning s first)) (operands_behind s links)) m h in
        let f = front-parts (option_map (operand_at (place_of first)) (meaning s first)) (operands_behind s links) it.of it.is in
        let o = map-parts (operand_at (place_of first)) (meaning s first) f.first f.here in
        let q = front-parts (option_map (operand_at (place_of e)) (meaning s e)) (operands_behind s others) f.rest f.behind in
        let P : List Operand → Type 0 = λ os. meaning_of_operator (operator_kind op) os ≡ Some m in
        let Q : List Operand → Type 0 = λ os. meaning_of_operator (operator_kind op) (f.first ∷ os) ≡ Some m in
        let given = operator-gives (operator_kind op) f.first q.first q.rest m (subst Q (sym q.is) (subst P (sym f.is) it.gives)) in
        let first_is : o.of ≡ f.first.of = ap (λ (x : Operand). x.of) o.gives in
        let gl = both (by_grammar e) (links_by_grammar others) gs.1 in
        let second = map-parts (operand_at (place_of e)) (meaning s e) q.first q.here in
        let second_is : second.of ≡ q.first.of = ap (λ (x : Operand). x.of) second.gives in
        is.of_operator op first links at f.first.of (meanings_in (q.first ∷ q.rest)) m (expr-typed first f.first.of gs.0 (o.is ∙ ap (λ (x : Meaning). Some x) first_is))
        (is.more_operands sign e others q.first.of (meanings_in q.rest) (expr-typed e q.first.of gl.0 (second.is ∙ ap (λ (x : Meaning). Some x) second_is)) (links-typed others q.rest gl.1 q.behind)) given
    expr-typed (tree.convert e t at) m g h =
        let it = then-parts (converted (plain_width t)) (meaning s e) m h in
        converts e t at it.of m (expr-typed e it.of g it.is) (plain_width t) refl it.gives
    expr-typed (tree.negation e at) m g h =
        let it = then-parts (only_where is_flag) (meaning s e) m h in
        let flag = only-parts is_flag it.of m it.gives in
        let is_flag_type = flag-is it.of flag.0 in
        subst (HasType s (tree.negation e at)) (is_flag_type ∙ flag.1) (is.of_negation e at (expr-typed e (meanings.Typed types.Flag) g (it.is ∙ ap (λ (x : Meaning). Some x) (sym is_flag_type))))

    end-typed : (e : NamedPartTree) (x : Option Ty) (ty : Ty) → end_by_grammar e ≡ true → if_end s e x ≡ Some ty → IsEnd s e × (x ≡ Some ty)
    end-typed tree.absent x ty g h = (is.no_end, h)
    end-typed (tree.present e) x ty g h = let n = numbered (meaning s e) x ty h in (is.an_end e n.of (expr-typed e n.of g n.is) n.number, n.gives)

    links-typed : (ls : NamedLinkTrees) (os : List Operand) → links_by_grammar ls ≡ true → operands_behind s ls ≡ Some os → HaveTypes s ls (meanings_in os)
    links-typed tree.no_link os g h = let none : [] ≡ os = cc h in subst (λ (zs : List Operand). HaveTypes s tree.no_link (meanings_in zs)) none is.no_operands
    links-typed (tree.link sign e others) os g h =
        let gs = both (by_grammar e) (links_by_grammar others) g in
        let f = front-parts (option_map (operand_at (place_of e)) (meaning s e)) (operands_behind s others) os h in
        let o = map-parts (operand_at (place_of e)) (meaning s e) f.first f.here in
        let first_is : o.of ≡ f.first.of = ap (λ (x : Operand). x.of) o.gives in
        subst (λ (zs : List Operand). HaveTypes s (tree.link sign e others) (meanings_in zs)) f.is
        (is.more_operands sign e others f.first.of (meanings_in f.rest) (expr-typed e f.first.of gs.0 (o.is ∙ ap (λ (x : Meaning). Some x) first_is)) (links-typed others f.rest gs.1 f.behind))

pub meanings-are-typed : MeaningsAreTyped
meanings-are-typed s e m g h = expr-typed s e m g h
