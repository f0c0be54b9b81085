use Rattle.std.proofs.Common.{sym, ◌∙◌, arith}
use Rattle.std.proofs.lemmas.Result.{err_from_is_err_and}
use Rattle.wf_facts_exprs.specs.Knowledge.{told}
use Rattle.wf_facts_exprs.specs.Claims.{claims_in}
use Rattle.wf_bounds_stmts.proofs.AssertLemmas.{given-next, goes-on, stops}
use Rattle.wf_bounds_stmts.proofs.OutcomeLemmas.{is-fine, is-refused}
use Rattle.wf_bounds_stmts.proofs.asserting.check_given.Goals as goal

pub loop-i-preserved : goal.loop-i-preserved
loop-i-preserved c =
    let next = given-next c.args.t.now (claims_in c.args.t.now (told c.args.facts.now)) c.args.given.now c.loop-i.i (record { 0 = 0 }, record { 0 = 0 }) (omega (arith, c.loop-i-test.true)) in
    goes-on _ _ _ _ (is-fine _ (sym c.check_number.ensures ∙ c.in_ok-check_number.was)) next c.loop-i.invariant

pub returns-in_err-check_number : goal.returns-in_err-check_number
returns-in_err-check_number c =
    let r = err_from_is_err_and c.from_residual.result c.from_residual.ensures.1 in
    let next = given-next c.args.t.now (claims_in c.args.t.now (told c.args.facts.now)) c.args.given.now c.loop-i.i (record { 0 = 0 }, record { 0 = 0 }) (omega (arith, c.loop-i-test.true)) in
    rw (r.1, r.2) (stops _ _ _ _ c.in_err-check_number.field-0.0 (is-refused _ c.in_err-check_number.field-0.0 (sym c.check_number.ensures ∙ c.in_err-check_number.was)) next c.loop-i.invariant)
