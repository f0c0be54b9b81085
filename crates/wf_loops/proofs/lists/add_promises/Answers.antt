use Rattle.std.proofs.Common.{◌+◌, ◌∙◌, true, Err, ap, sym, arith}
use Rattle.std.specs.Prelude.{drop, slice_index_or}
use Rattle.std.proofs.lemmas.Result.{err_from_is_err_and}
use Rattle.wf_ast.specs.declared.parsed.Clause.TheVariants.{Pre}
use Rattle.wf_ast.specs.NodeKinds.{node_cond}
use Rattle.wf_facts_exprs.specs.Claims.{claims_in}
use Rattle.wf_loops.specs.LoopRules.{limit, with_promises, is_asked}
use Rattle.wf_loops.specs.LoopNodes.{promises_in}
use Rattle.wf_facts.specs.FactLists.{with_condition}
use Rattle.wf_loops.proofs.AskingLemmas.{with_next, asked_past, err_is_some, refused_by}
use Rattle.wf_loops.proofs.lists.add_promises.Goals as goal

pub returns-in_err-add-clause-limit : goal.returns-in_err-add-clause-limit
returns-in_err-add-clause-limit c =
    let p = err_from_is_err_and c.from_residual.result c.from_residual.ensures.1 in
    let nodes = c.args.t.now in
    let promise = slice_index_or c.args.clauses.now c.loop-i.i (Pre, record { 0 = 0 }) in
    let fs = claims_in nodes c.loop-i.facts.list in
    let next = with_next nodes c.args.moment fs c.args.clauses.now c.loop-i.i (Pre, record { 0 = 0 }) (omega (arith, c.loop-i-test.true)) in
    let past = err_is_some (limit c.args.at (with_condition fs (node_cond nodes promise.1) true)) p.0 (ap (λ r. Err r) p.2 ∙ sym c.in_err-add.was ∙ c.add.ensures.limit) in
    let whole = with_promises c.args.moment (claims_in nodes c.args.facts.now.list) (promises_in nodes c.args.clauses.now) in
    rw p.1
    (refused_by (limit c.args.at whole) p.0 (asked_past c.args.at c.args.moment (is_asked c.args.moment promise.0) (node_cond nodes promise.1) (promises_in nodes (drop (c.loop-i.i + 1) c.args.clauses.now)) fs whole p.0
    (sym c.is_asked.ensures ∙ c.if-is_asked.true) (sym c.loop-i.invariant.2 ∙ next) past))
