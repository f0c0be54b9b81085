use Rattle.std.proofs.Common.{◌≡◌, ◌<◌, [], ◌∷◌, List, length, sym, ap, ◌∙◌, subst}
use Rattle.std.specs.Prelude.{OnOk, OnErr, slice_index_or}
use Rattle.wf_ast.specs.declared.numbers.ExprId.{ExprId}
use Rattle.wf_ast.specs.TypedTree.{ValueTree}
use Rattle.wf_ast.specs.TypedTrees.{cond_in, operator_kind, type_of_node, place_of_node, signs_of_node}
use Rattle.wf_ast.specs.TypedInvariant.{is_expr}
use Rattle.wf_ast.specs.NodeKinds.{node_cond}
use Rattle.wf_facts_exprs.specs.Claims.{Claim, claim_in, claims_in, facts_of, stands, turned}
use Rattle.wf_facts_exprs.specs.Operands.{part_number}
use Rattle.wf_facts_exprs.proofs.PassLemmas.{both_of, lt_from}
use Rattle.wf_facts_exprs.proofs.ConditionLemmas.{pair-parts}
use Rattle.wf_facts.specs.FactLists.{all_added}
use Rattle.wf_facts.specs.Conditions.{StopsAt}
use Rattle.wf_facts.proofs.MentioningLemmas.{node_kind}
use Rattle.wf_facts.proofs.ConditionLemmas.{pair-facts, pair-whole}
use Rattle.wf_facts.proofs.list.Facts.add_comparison.Goals as goal

pub comparison-requires-clause-right : goal.comparison-requires-clause-right
comparison-requires-clause-right c =
    let n = both_of (is_expr c.args.t.now c.args.e) _ c.requires.condition in
    let inside : c.args.e.0 < length c.args.t.now.exprs = lt_from _ _ n.0 in
    let p = pair-parts c.args.t.now c.args.e inside (type_of_node c.args.t.now c.args.e.0) (operator_kind c.args.op) c.args.parts.now (record { 0 = 0 }) c.requires.fits c.requires.compares n.1 c.requires.below in
    p.numbers (sym c.is_number.ensures ∙ c.if-is_number.true)

pub returns-then-is_number-clause-ok : goal.returns-then-is_number-clause-ok
returns-then-is_number-clause-ok c =
    let n = both_of (is_expr c.args.t.now c.args.e) _ c.requires.condition in
    let first : ExprId = slice_index_or c.args.parts.now 0 (record { 0 = 0 }) in
    let kind = node_kind c.args.t.now first c.expr-first.result.now c.expr-first.ensures.made c.expr-first.ensures.kinds in
    let pair = pair-facts c.args.t.now c.args.answer (place_of_node c.args.t.now c.args.e.0) (signs_of_node c.args.t.now c.args.e.0) (type_of_node c.args.t.now c.args.e.0) (operator_kind c.args.op) c.args.parts.now (record { 0 = 0 }) c.requires.fits c.requires.compares n.1 (sym c.is_number.ensures ∙ c.if-is_number.true) kind in
    let made : facts_of (node_cond c.args.t.now c.args.e) c.args.answer ≡ claim_in c.args.t.now c.comparison.result ∷ [] =
    ap (λ (t : ValueTree). facts_of (cond_in t) c.args.answer) c.requires.tree ∙ pair
    ∙ ap (λ o. turned (part_number c.args.t.now c.args.parts.now 0) o (part_number c.args.t.now c.args.parts.now 1) ∷ []) (sym c.compared_by.ensures) ∙ ap (λ f. f ∷ []) (sym c.comparison.ensures.claim) in
    let P : List Claim → Type 0 = λ fs. OnOk c.add_fact.result (claims_in c.args.t.now c.add_fact.new.self.list ≡ all_added (claims_in c.args.t.now c.args.self.now.list) fs) in
    subst P (sym made) c.add_fact.ensures.ok

pub returns-then-is_number-clause-full : goal.returns-then-is_number-clause-full
returns-then-is_number-clause-full c =
    let n = both_of (is_expr c.args.t.now c.args.e) _ c.requires.condition in
    let first : ExprId = slice_index_or c.args.parts.now 0 (record { 0 = 0 }) in
    let kind = node_kind c.args.t.now first c.expr-first.result.now c.expr-first.ensures.made c.expr-first.ensures.kinds in
    let pair = pair-facts c.args.t.now c.args.answer (place_of_node c.args.t.now c.args.e.0) (signs_of_node c.args.t.now c.args.e.0) (type_of_node c.args.t.now c.args.e.0) (operator_kind c.args.op) c.args.parts.now (record { 0 = 0 }) c.requires.fits c.requires.compares n.1 (sym c.is_number.ensures ∙ c.if-is_number.true) kind in
    let made : facts_of (node_cond c.args.t.now c.args.e) c.args.answer ≡ claim_in c.args.t.now c.comparison.result ∷ [] =
    ap (λ (t : ValueTree). facts_of (cond_in t) c.args.answer) c.requires.tree ∙ pair
    ∙ ap (λ o. turned (part_number c.args.t.now c.args.parts.now 0) o (part_number c.args.t.now c.args.parts.now 1) ∷ []) (sym c.compared_by.ensures) ∙ ap (λ f. f ∷ []) (sym c.comparison.ensures.claim) in
    let P : List Claim → Type 0 = λ fs. OnErr c.add_fact.result (StopsAt (claims_in c.args.t.now c.args.self.now.list) fs (claims_in c.args.t.now c.add_fact.new.self.list)) in
    subst P (sym made) c.add_fact.ensures.full

pub returns-else-is_number-clause-ok : goal.returns-else-is_number-clause-ok
returns-else-is_number-clause-ok c =
    let n = both_of (is_expr c.args.t.now c.args.e) _ c.requires.condition in
    let first : ExprId = slice_index_or c.args.parts.now 0 (record { 0 = 0 }) in
    let kind = node_kind c.args.t.now first c.expr-first.result.now c.expr-first.ensures.made c.expr-first.ensures.kinds in
    let pair = pair-whole c.args.t.now c.args.answer (place_of_node c.args.t.now c.args.e.0) (signs_of_node c.args.t.now c.args.e.0) (type_of_node c.args.t.now c.args.e.0) (operator_kind c.args.op) c.args.parts.now (record { 0 = 0 }) c.requires.fits c.requires.compares n.1 (sym c.is_number.ensures ∙ c.if-is_number.false) kind in
    let made : facts_of (node_cond c.args.t.now c.args.e) c.args.answer ≡ stands (node_cond c.args.t.now c.args.e) c.args.answer ∷ [] =
    ap (λ (t : ValueTree). facts_of (cond_in t) c.args.answer) c.requires.tree ∙ pair ∙ ap (λ (t : ValueTree). stands (cond_in t) c.args.answer ∷ []) (sym c.requires.tree) in
    let P : List Claim → Type 0 = λ fs. OnOk c.add_whole.result (claims_in c.args.t.now c.add_whole.new.self.list ≡ all_added (claims_in c.args.t.now c.args.self.now.list) fs) in
    subst P (sym made) c.add_whole.ensures.ok

pub returns-else-is_number-clause-full : goal.returns-else-is_number-clause-full
returns-else-is_number-clause-full c =
    let n = both_of (is_expr c.args.t.now c.args.e) _ c.requires.condition in
    let first : ExprId = slice_index_or c.args.parts.now 0 (record { 0 = 0 }) in
    let kind = node_kind c.args.t.now first c.expr-first.result.now c.expr-first.ensures.made c.expr-first.ensures.kinds in
    let pair = pair-whole c.args.t.now c.args.answer (place_of_node c.args.t.now c.args.e.0) (signs_of_node c.args.t.now c.args.e.0) (type_of_node c.args.t.now c.args.e.0) (operator_kind c.args.op) c.args.parts.now (record { 0 = 0 }) c.requires.fits c.requires.compares n.1 (sym c.is_number.ensures ∙ c.if-is_number.false) kind in
    let made : facts_of (node_cond c.args.t.now c.args.e) c.args.answer ≡ stands (node_cond c.args.t.now c.args.e) c.args.answer ∷ [] =
    ap (λ (t : ValueTree). facts_of (cond_in t) c.args.answer) c.requires.tree ∙ pair ∙ ap (λ (t : ValueTree). stands (cond_in t) c.args.answer ∷ []) (sym c.requires.tree) in
    let P : List Claim → Type 0 = λ fs. OnErr c.add_whole.result (StopsAt (claims_in c.args.t.now c.args.self.now.list) fs (claims_in c.args.t.now c.add_whole.new.self.list)) in
    subst P (sym made) c.add_whole.ensures.full
