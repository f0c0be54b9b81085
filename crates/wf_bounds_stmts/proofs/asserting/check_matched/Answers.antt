use Rattle.std.proofs.lemmas.Result.{IfOk-at_ok}
use Rattle.wf_facts_exprs.specs.Knowledge.{told}
use Rattle.wf_facts_exprs.specs.Claims.{claims_in}
use Rattle.wf_loops.proofs.MappedErrors.{before_ok}
use Rattle.wf_bounds_stmts.proofs.AssertLemmas.{given-all}
use Rattle.wf_bounds_stmts.proofs.asserting.check_matched.Goals as goal

pub check_premises-requires-clause-count : goal.check_premises-requires-clause-count
check_premises-requires-clause-count c = IfOk-at_ok _ (before_ok _ c.premises.result c.map_err.result _ c.map_err.ensures.variant c.map_err.ensures.cases c.in_ok-p.was) c.premises.ensures.count

pub check_premises-requires-clause-few : goal.check_premises-requires-clause-few
check_premises-requires-clause-few c = IfOk-at_ok _ (before_ok _ c.premises.result c.map_err.result _ c.map_err.ensures.variant c.map_err.ensures.cases c.in_ok-p.was) c.premises.ensures.few

pub check_premises-requires-clause-sides : goal.check_premises-requires-clause-sides
check_premises-requires-clause-sides c = IfOk-at_ok _ (before_ok _ c.premises.result c.map_err.result _ c.map_err.ensures.variant c.map_err.ensures.cases c.in_ok-p.was) c.premises.ensures.sides

pub check_premises-requires-clause-fine : goal.check_premises-requires-clause-fine
check_premises-requires-clause-fine c =
    let fs = claims_in c.args.t.now (told c.args.facts.now) in
    let fine = IfOk-at_ok _ (before_ok _ c.premises.result c.map_err.result _ c.map_err.ensures.variant c.map_err.ensures.cases c.in_ok-p.was) c.premises.ensures.fine in
    fine fs c.requires.fine (given-all c.args.t.now fs c.args.given.now c.requires.given_fine)
