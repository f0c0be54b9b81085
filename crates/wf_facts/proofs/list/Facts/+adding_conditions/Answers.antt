use Rattle.std.proofs.Common.{◌≡◌, ◌+◌, ◌<◌, [], ◌∷◌, List, length, take, drop, suc, sym, ap, ◌∙◌, subst, arith, rules}
use Rattle.std.specs.Prelude.{OnOk, OnErr, slice_index_or}
use Rattle.std.proofs.lemmas.Result.{err_from_is_err_and}
use Rattle.wf_ast.specs.declared.numbers.ExprId.{ExprId}
use Rattle.wf_ast.specs.TypedTree.{ValueTree}
use Rattle.wf_ast.specs.TypedTrees.{cond_in, operator_kind, type_of_node, place_of_node, signs_of_node}
use Rattle.wf_ast.specs.TypedInvariant.{is_expr}
use Rattle.wf_ast.specs.NodeKinds.{node_cond}
use Rattle.wf_facts_exprs.specs.Claims.{Claim, claims_in, facts_of, stands}
use Rattle.wf_facts_exprs.proofs.PassLemmas.{both_of, lt_from}
use Rattle.wf_facts_exprs.proofs.ConditionLemmas.{joined-conditions}
use Rattle.wf_facts.specs.FactLists.{all_added}
use Rattle.wf_facts.specs.Conditions.{StopsAt, facts_of_all}
use Rattle.wf_facts.proofs.ConditionLemmas.{chain-all, chain-whole, all-split, all-more, added-after, stops-among}
use Rattle.wf_facts.proofs.list.Facts.+adding_conditions.Goals as goal

pub add_all-returns-in_err-add_condition-clause-full : goal.add_all-returns-in_err-add_condition-clause-full
add_all-returns-in_err-add_condition-clause-full t c =
    let r = err_from_is_err_and c.from_residual.result c.from_residual.ensures.1 in
    let none : ExprId = record { 0 = 0 } in
    let part = facts_of (node_cond c.args.t.now (slice_index_or c.args.parts.now c.loop-i.i none)) c.args.answer in
    let before = claims_in c.args.t.now c.args.self.now.list in
    let after = claims_in c.args.t.now c.add_condition.new.self.list in
    let done = facts_of_all c.args.t.now c.args.answer (take c.loop-i.i c.args.parts.now) in
    let rest = facts_of_all c.args.t.now c.args.answer (drop (suc c.loop-i.i) c.args.parts.now) in
    let P : List Claim → Type 0 = λ fs. StopsAt fs part after in
    let Q : List Claim → Type 0 = λ fs. StopsAt before fs after in
    rw r.1 (subst Q (sym (all-split c.args.t.now c.args.answer c.args.parts.now c.loop-i.i none c.loop-i-test.true)) (stops-among before done part rest after (subst P c.loop-i.invariant.1 c.in_err-add_condition.ensures.full)))

pub add_all-loop-i-preserved : goal.add_all-loop-i-preserved
add_all-loop-i-preserved t c =
    let none : ExprId = record { 0 = 0 } in
    let part = facts_of (node_cond c.args.t.now (slice_index_or c.args.parts.now c.loop-i.i none)) c.args.answer in
    let before = claims_in c.args.t.now c.args.self.now.list in
    let done = facts_of_all c.args.t.now c.args.answer (take c.loop-i.i c.args.parts.now) in
    let next : suc c.loop-i.i ≡ c.loop-i.i + 1 = omega arith in (
      c.in_ok-add_condition.ensures.over,
      c.in_ok-add_condition.ensures.ok ∙ ap (λ fs. all_added fs part) c.loop-i.invariant.1 ∙ sym (added-after before done part)
          ∙ ap (all_added before) (sym (all-more c.args.t.now c.args.answer c.args.parts.now c.loop-i.i none c.loop-i-test.true))
          ∙ ap (λ n. all_added before (facts_of_all c.args.t.now c.args.answer (take n c.args.parts.now))) next,
    )

pub add_chain-add_all-requires : goal.add_chain-add_all-requires
add_chain-add_all-requires t c =
    let n = both_of (is_expr c.args.t.now c.args.e) _ c.requires.condition in
    let inside : c.args.e.0 < length c.args.t.now.exprs = lt_from _ _ n.0 in
    (search rules, (joined-conditions c.args.t.now c.args.e inside (type_of_node c.args.t.now c.args.e.0) (operator_kind c.args.op) c.args.parts.now c.requires.fits (sym c.if-not-joins.ensures) c.requires.below, c.requires.over))

pub add_chain-returns-then-needs_all-clause-ok : goal.add_chain-returns-then-needs_all-clause-ok
add_chain-returns-then-needs_all-clause-ok t c =
    let made : facts_of (node_cond c.args.t.now c.args.e) c.args.answer ≡ facts_of_all c.args.t.now c.args.answer c.args.parts.now =
    ap (λ (t : ValueTree). facts_of (cond_in t) c.args.answer) c.requires.tree
    ∙ chain-all c.args.t.now c.args.answer (place_of_node c.args.t.now c.args.e.0) (signs_of_node c.args.t.now c.args.e.0) (type_of_node c.args.t.now c.args.e.0) (operator_kind c.args.op) c.args.parts.now c.requires.fits (sym c.needs_all.ensures ∙ c.if-needs_all.true) in
    let P : List Claim → Type 0 = λ fs. OnOk c.add_all.result (claims_in c.args.t.now c.add_all.new.self.list ≡ all_added (claims_in c.args.t.now c.args.self.now.list) fs) in
    subst P (sym made) c.add_all.ensures.ok

pub add_chain-returns-then-needs_all-clause-full : goal.add_chain-returns-then-needs_all-clause-full
add_chain-returns-then-needs_all-clause-full t c =
    let made : facts_of (node_cond c.args.t.now c.args.e) c.args.answer ≡ facts_of_all c.args.t.now c.args.answer c.args.parts.now =
    ap (λ (t : ValueTree). facts_of (cond_in t) c.args.answer) c.requires.tree
    ∙ chain-all c.args.t.now c.args.answer (place_of_node c.args.t.now c.args.e.0) (signs_of_node c.args.t.now c.args.e.0) (type_of_node c.args.t.now c.args.e.0) (operator_kind c.args.op) c.args.parts.now c.requires.fits (sym c.needs_all.ensures ∙ c.if-needs_all.true) in
    let P : List Claim → Type 0 = λ fs. OnErr c.add_all.result (StopsAt (claims_in c.args.t.now c.args.self.now.list) fs (claims_in c.args.t.now c.add_all.new.self.list)) in
    subst P (sym made) c.add_all.ensures.full

pub add_chain-returns-else-needs_all-clause-ok : goal.add_chain-returns-else-needs_all-clause-ok
add_chain-returns-else-needs_all-clause-ok t c =
    let made : facts_of (node_cond c.args.t.now c.args.e) c.args.answer ≡ stands (node_cond c.args.t.now c.args.e) c.args.answer ∷ [] =
    ap (λ (t : ValueTree). facts_of (cond_in t) c.args.answer) c.requires.tree
    ∙ chain-whole c.args.t.now c.args.answer (place_of_node c.args.t.now c.args.e.0) (signs_of_node c.args.t.now c.args.e.0) (type_of_node c.args.t.now c.args.e.0) (operator_kind c.args.op) c.args.parts.now c.requires.fits (sym c.if-not-joins.ensures) (sym c.needs_all.ensures ∙ c.if-needs_all.false)
    ∙ ap (λ (t : ValueTree). stands (cond_in t) c.args.answer ∷ []) (sym c.requires.tree) in
    let P : List Claim → Type 0 = λ fs. OnOk c.add_whole.result (claims_in c.args.t.now c.add_whole.new.self.list ≡ all_added (claims_in c.args.t.now c.args.self.now.list) fs) in
    subst P (sym made) c.add_whole.ensures.ok

pub add_chain-returns-else-needs_all-clause-full : goal.add_chain-returns-else-needs_all-clause-full
add_chain-returns-else-needs_all-clause-full t c =
    let made : facts_of (node_cond c.args.t.now c.args.e) c.args.answer ≡ stands (node_cond c.args.t.now c.args.e) c.args.answer ∷ [] =
    ap (λ (t : ValueTree). facts_of (cond_in t) c.args.answer) c.requires.tree
    ∙ chain-whole c.args.t.now c.args.answer (place_of_node c.args.t.now c.args.e.0) (signs_of_node c.args.t.now c.args.e.0) (type_of_node c.args.t.now c.args.e.0) (operator_kind c.args.op) c.args.parts.now c.requires.fits (sym c.if-not-joins.ensures) (sym c.needs_all.ensures ∙ c.if-needs_all.false)
    ∙ ap (λ (t : ValueTree). stands (cond_in t) c.args.answer ∷ []) (sym c.requires.tree) in
    let P : List Claim → Type 0 = λ fs. OnErr c.add_whole.result (StopsAt (claims_in c.args.t.now c.args.self.now.list) fs (claims_in c.args.t.now c.add_whole.new.self.list)) in
    subst P (sym made) c.add_whole.ensures.full
