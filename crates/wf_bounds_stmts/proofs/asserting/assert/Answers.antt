use Rattle.std.proofs.Common.{◌≡◌, ◌<◌, ◌≤◌, true, length, None, Some, ap, sym, ◌∙◌, arith, of_calls}
use Rattle.std.proofs.lemmas.List.{length-map}
use Rattle.std.proofs.lemmas.Result.{err_from_is_err_and}
use Rattle.wf_facts_exprs.specs.Knowledge.{told}
use Rattle.wf_text.specs.declared.rules.Rule.TheVariants.{L8}
use Rattle.wf_ast.specs.TypedTrees.{axiom_made, tree_of}
use Rattle.wf_ast.specs.NodeKinds.{node_cond}
use Rattle.wf_facts_exprs.specs.Claims.{claim_in, claims_in, facts_of}
use Rattle.wf_facts_exprs.specs.Demands.{or_else}
use Rattle.wf_facts.specs.FactLists.{with_condition}
use Rattle.wf_loops.specs.LoopRules.{limit}
use Rattle.wf_loops.proofs.AskingLemmas.{too_many}
use Rattle.wf_loops.proofs.MappedErrors.{before_err, held_err, held_ok}
use Rattle.wf_bounds_stmts.specs.Assertions.{claim_refusal}
use Rattle.wf_bounds_stmts.proofs.OutcomeLemmas.{is-refused, is-fine, limit-kept, limit-passed}
use Rattle.wf_bounds_stmts.proofs.asserting.assert.Goals as goal

pub returns-in_err-check_assertion-clause-answers : goal.returns-in_err-check_assertion-clause-answers
returns-in_err-check_assertion-clause-answers c =
    let r = err_from_is_err_and c.from_residual.result c.from_residual.ensures.1 in
    let t = c.args.t.now in
    let fs = claims_in t c.args.facts.now.list in
    let p = claim_refusal fs c.args.at (node_cond t c.args.goal) (axiom_made t (tree_of t) c.args.by.now) in
    let found : p ≡ Some c.in_err-check_assertion.field-0.0 = is-refused p c.in_err-check_assertion.field-0.0 (rw c.as_known.ensures.list at (sym c.check_assertion.ensures ∙ c.in_err-check_assertion.was)) in
    rw (r.1, r.2) (ap (λ q. or_else q (limit c.args.at (with_condition fs (node_cond t c.args.goal) true))) found)

pub returns-clause-answers : goal.returns-clause-answers
returns-clause-answers c =
    let t = c.args.t.now in
    let fs = claims_in t c.args.facts.now.list in
    let p = claim_refusal fs c.args.at (node_cond t c.args.goal) (axiom_made t (tree_of t) c.args.by.now) in
    let list = c.add_condition.new.self.list in
    let known = with_condition fs (node_cond t c.args.goal) true in
    let made : claims_in t list ≡ known = held_ok _ c.add_condition.result c.map_err.result _ c.map_err.ensures.variant c.in_ok-map_err.was c.add_condition.ensures.ok in
    let small : length known ≤ 512 = omega (arith, ap length made, length-map list (claim_in t), c.keeps_limit.ensures) in
    (is-fine p (rw c.as_known.ensures.list at (sym c.check_assertion.ensures ∙ c.in_ok-check_assertion.was)), limit-kept c.args.at known small, made)

pub returns-in_err-map_err-clause-answers : goal.returns-in_err-map_err-clause-answers
returns-in_err-map_err-clause-answers c =
    let t = c.args.t.now in
    let fs = claims_in t c.args.facts.now.list in
    let p = claim_refusal fs c.args.at (node_cond t c.args.goal) (axiom_made t (tree_of t) c.args.by.now) in
    let known = with_condition fs (node_cond t c.args.goal) true in
    let stop = held_err _ c.add_condition.result c.map_err.result _ c.map_err.ensures.variant c.in_err-map_err.was c.add_condition.ensures.full in
    let large : 512 < length known = too_many (facts_of (node_cond t c.args.goal) true) fs stop.count stop.next _ stop.is stop.so_far stop.many stop.other in
    let fine : p ≡ None = is-fine p (rw c.as_known.ensures.list at (sym c.check_assertion.ensures ∙ c.in_ok-check_assertion.was)) in
    let r = err_from_is_err_and c.from_residual-in_err-map_err.result c.from_residual-in_err-map_err.ensures.1 in
    let told = before_err _ c.add_condition.result c.map_err.result _ c.map_err.ensures.cases c.in_err-map_err.was in
    let is : c.in_err-map_err.field-0.0 ≡ record { rule = L8; at = c.args.at } = search (of_calls, told.2) in
    rw (r.1, r.2, is) (ap (λ q. or_else q (limit c.args.at known)) fine ∙ limit-passed c.args.at known large)
