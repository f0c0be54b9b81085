use Rattle.std.proofs.Common.{◌∙◌, ap, sym}
use Rattle.std.proofs.lemmas.Result.{err_from_is_err_and}
use Rattle.wf_loops.specs.declared.moments.Moment.TheVariants.{Leave}
use Rattle.wf_facts_exprs.specs.Claims.{claims_in}
use Rattle.wf_loops.specs.LoopRules.{limit, with_promises}
use Rattle.wf_loops.specs.LoopNodes.{head_at, promises_in}
use Rattle.wf_loops.proofs.AskingLemmas.{err_is_some, after_past}
use Rattle.wf_loops.proofs.lists.after_facts.Goals as goal

pub add_promises-requires-clause-over : goal.add_promises-requires-clause-over
add_promises-requires-clause-over c = c.in_ok-facts.ensures.over c.args.t.now

pub returns-in_err-add_promises : goal.returns-in_err-add_promises
returns-in_err-add_promises c =
    let p = err_from_is_err_and c.from_residual-in_err-add_promises.result c.from_residual-in_err-add_promises.ensures.1 in
    let nodes = c.args.t.now in
    let list = c.in_ok-facts.facts.list in
    let ps = promises_in nodes c.as_slice-clauses.result.now in
    let found = c.in_err-add_promises.field-0.0 in
    let q = err_is_some (limit c.place_of-at.result (with_promises Leave (claims_in nodes list) ps)) found (sym c.in_err-add_promises.was ∙ c.add_promises.ensures.limit) in
    let past = after_past nodes c.place_of-at.result (head_at nodes c.args.w) list ps found c.in_ok-facts.ensures.empty (c.head_of-head.ensures.promises ∙ ap (promises_in nodes) (sym c.as_slice-clauses.ensures)) q in
    rw (p.1, p.2, sym c.place_of-at.ensures) past
