use Rattle.std.proofs.Common.{◌≡◌, ◌∙◌, sym, ap, arith, rules, true, length, ◌<◌, ◌||◌}
use Rattle.std.specs.Prelude.{slice_index_or, nat_lt}
use Rattle.wf_ast.specs.declared.numbers.ExprId.{ExprId}
use Rattle.wf_ast.specs.TypedTree.{ValueTree}
use Rattle.wf_ast.specs.TypedTrees.{cond_in, operator_kind, tree_of, type_of_node, place_of_node, signs_of_node}
use Rattle.wf_ast.specs.TypedInvariant.{is_expr}
use Rattle.wf_ast.specs.NodeKinds.{is_condition_at}
use Rattle.wf_facts_exprs.specs.Knowledge.{told}
use Rattle.wf_facts_exprs.specs.Claims.{claims_in}
use Rattle.wf_facts_exprs.specs.Demands.{cond_refusal}
use Rattle.wf_facts_exprs.specs.Given.{gives, is_standing}
use Rattle.wf_facts_exprs.proofs.PassLemmas.{both_of, lt_from}
use Rattle.wf_facts_exprs.specs.Operands.{any_given, is_condition_below}
use Rattle.wf_facts_exprs.proofs.ChainLemmas.{item-true}
use Rattle.wf_facts_exprs.proofs.ConditionLemmas.{joined-refusal, joined-conditions}
use Rattle.wf_facts_exprs.proofs.GivenLemmas.{chain-all, chain-any, part-fine}
use Rattle.wf_facts_exprs.proofs.giving.+giving.Goals as goal

pub gives_all-gives-requires : goal.gives_all-gives-requires
gives_all-gives-requires t c =
    let none : ExprId = record { 0 = 0 } in
    let part : ExprId = slice_index_or c.args.parts.now c.loop-i.i none in
    let within : c.loop-i.i < length c.args.parts.now = omega arith in
    let b = both_of (nat_lt part.0 c.args.e.0) (is_condition_at c.args.t.now part) (item-true (is_condition_below c.args.t.now c.args.e) c.args.parts.now c.loop-i.i none c.requires.parts within) in
    let p : (slice_index_or c.args.parts.now c.loop-i.i (record { 0 = 0 })).0 < c.args.e.0 = lt_from part.0 c.args.e.0 b.0 in
    (search (rules, p), (c.requires.known, (b.1, part-fine (claims_in c.args.t.now (told c.args.facts.now)) c.args.t.now c.args.parts.now c.loop-i.i none c.requires.fine within)))

pub gives_any-gives-requires : goal.gives_any-gives-requires
gives_any-gives-requires t c =
    let none : ExprId = record { 0 = 0 } in
    let part : ExprId = slice_index_or c.args.parts.now c.loop-i.i none in
    let within : c.loop-i.i < length c.args.parts.now = omega arith in
    let b = both_of (nat_lt part.0 c.args.e.0) (is_condition_at c.args.t.now part) (item-true (is_condition_below c.args.t.now c.args.e) c.args.parts.now c.loop-i.i none c.requires.parts within) in
    let p : (slice_index_or c.args.parts.now c.loop-i.i (record { 0 = 0 })).0 < c.args.e.0 = lt_from part.0 c.args.e.0 b.0 in
    (search (rules, p), (c.requires.known, (b.1, part-fine (claims_in c.args.t.now (told c.args.facts.now)) c.args.t.now c.args.parts.now c.loop-i.i none c.requires.fine within)))

pub gives_chain-gives_all-requires : goal.gives_chain-gives_all-requires
gives_chain-gives_all-requires t c =
    let n = both_of (is_expr c.args.t.now c.args.e) _ c.requires.node in
    let inside : c.args.e.0 < length c.args.t.now.exprs = lt_from _ _ n.0 in
    let e = joined-refusal (claims_in c.args.t.now (told c.args.facts.now)) c.args.t.now (place_of_node c.args.t.now c.args.e.0) (signs_of_node c.args.t.now c.args.e.0) (type_of_node c.args.t.now c.args.e.0) (operator_kind c.args.op) c.args.parts.now c.requires.fits (sym c.if-not-joins.ensures) in
    (search rules, (c.requires.known, (joined-conditions c.args.t.now c.args.e inside (type_of_node c.args.t.now c.args.e.0) (operator_kind c.args.op) c.args.parts.now c.requires.fits (sym c.if-not-joins.ensures) c.requires.below, sym e ∙ ap (λ (t : ValueTree). cond_refusal (claims_in c.args.t.now (told c.args.facts.now)) (cond_in t)) (sym c.requires.tree) ∙ c.requires.fine)))

pub gives_chain-gives_any-requires : goal.gives_chain-gives_any-requires
gives_chain-gives_any-requires t c =
    let n = both_of (is_expr c.args.t.now c.args.e) _ c.requires.node in
    let inside : c.args.e.0 < length c.args.t.now.exprs = lt_from _ _ n.0 in
    let e = joined-refusal (claims_in c.args.t.now (told c.args.facts.now)) c.args.t.now (place_of_node c.args.t.now c.args.e.0) (signs_of_node c.args.t.now c.args.e.0) (type_of_node c.args.t.now c.args.e.0) (operator_kind c.args.op) c.args.parts.now c.requires.fits (sym c.if-not-joins.ensures) in
    (search rules, (c.requires.known, (joined-conditions c.args.t.now c.args.e inside (type_of_node c.args.t.now c.args.e.0) (operator_kind c.args.op) c.args.parts.now c.requires.fits (sym c.if-not-joins.ensures) c.requires.below, sym e ∙ ap (λ (t : ValueTree). cond_refusal (claims_in c.args.t.now (told c.args.facts.now)) (cond_in t)) (sym c.requires.tree) ∙ c.requires.fine)))

pub gives_chain-returns-then-needs_all : goal.gives_chain-returns-then-needs_all
gives_chain-returns-then-needs_all t c =
    c.gives_all.ensures ∙ sym (chain-all (claims_in c.args.t.now (told c.args.facts.now)) c.args.t.now c.args.answer (place_of_node c.args.t.now c.args.e.0) (signs_of_node c.args.t.now c.args.e.0) (type_of_node c.args.t.now c.args.e.0) (operator_kind c.args.op) c.args.parts.now c.requires.fits (sym c.needs_all.ensures ∙ c.if-needs_all.true))
    ∙ ap (λ (t : ValueTree). gives (claims_in c.args.t.now (told c.args.facts.now)) (cond_in t) c.args.answer) (sym c.requires.tree)

pub gives_chain-returns-then-gives_any : goal.gives_chain-returns-then-gives_any
gives_chain-returns-then-gives_any t c =
    let s = is_standing (claims_in c.args.t.now (told c.args.facts.now)) (cond_in (tree_of c.args.t.now c.args.e)) c.args.answer in
    let a = chain-any (claims_in c.args.t.now (told c.args.facts.now)) c.args.t.now c.args.answer (place_of_node c.args.t.now c.args.e.0) (signs_of_node c.args.t.now c.args.e.0) (type_of_node c.args.t.now c.args.e.0) (operator_kind c.args.op) c.args.parts.now c.requires.fits (sym c.if-not-joins.ensures) (sym c.needs_all.ensures ∙ c.if-needs_all.false) in
    let one : true ≡ (any_given (claims_in c.args.t.now (told c.args.facts.now)) c.args.t.now c.args.parts.now c.args.answer || s) = ap (λ b. b || s) (sym c.if-gives_any.true ∙ c.gives_any.ensures) in
    c.if-gives_any.true ∙ one ∙ ap (λ (t : ValueTree). any_given (claims_in c.args.t.now (told c.args.facts.now)) c.args.t.now c.args.parts.now c.args.answer || is_standing (claims_in c.args.t.now (told c.args.facts.now)) (cond_in t) c.args.answer) c.requires.tree ∙ sym a ∙ ap (λ (t : ValueTree). gives (claims_in c.args.t.now (told c.args.facts.now)) (cond_in t) c.args.answer) (sym c.requires.tree)

pub gives_chain-returns-else-gives_any : goal.gives_chain-returns-else-gives_any
gives_chain-returns-else-gives_any t c =
    let s = is_standing (claims_in c.args.t.now (told c.args.facts.now)) (cond_in (tree_of c.args.t.now c.args.e)) c.args.answer in
    let a = chain-any (claims_in c.args.t.now (told c.args.facts.now)) c.args.t.now c.args.answer (place_of_node c.args.t.now c.args.e.0) (signs_of_node c.args.t.now c.args.e.0) (type_of_node c.args.t.now c.args.e.0) (operator_kind c.args.op) c.args.parts.now c.requires.fits (sym c.if-not-joins.ensures) (sym c.needs_all.ensures ∙ c.if-needs_all.false) in
    let none : s ≡ (any_given (claims_in c.args.t.now (told c.args.facts.now)) c.args.t.now c.args.parts.now c.args.answer || s) = ap (λ b. b || s) (sym c.if-gives_any.false ∙ c.gives_any.ensures) in
    c.stands.ensures ∙ none ∙ ap (λ (t : ValueTree). any_given (claims_in c.args.t.now (told c.args.facts.now)) c.args.t.now c.args.parts.now c.args.answer || is_standing (claims_in c.args.t.now (told c.args.facts.now)) (cond_in t) c.args.answer) c.requires.tree ∙ sym a ∙ ap (λ (t : ValueTree). gives (claims_in c.args.t.now (told c.args.facts.now)) (cond_in t) c.args.answer) (sym c.requires.tree)
