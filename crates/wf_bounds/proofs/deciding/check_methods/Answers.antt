use Rattle.std.proofs.Common.{◌∙◌, sym, arith}
use Rattle.std.proofs.lemmas.Result.{err_from_is_err_and}
use Rattle.wf_bounds.proofs.MethodLemmas.{refusal_first, refusal_last, refusal_stops, refusal_goes}
use Rattle.wf_bounds.proofs.deciding.check_methods.Goals as goal

pub loop-m-init : goal.loop-m-init
loop-m-init c = refusal_first c.args.t.now c.requires

pub returns-in_err-check_method : goal.returns-in_err-check_method
returns-in_err-check_method c =
    let r = err_from_is_err_and c.from_residual-in_err-check_method.result c.from_residual-in_err-check_method.ensures.1 in
    let t = c.loop-m-test.true in
    let n = c.methods-m-end.ensures in
    rw (r.1, r.2) (refusal_stops c.args.t.now c.requires c.loop-m.m (omega (arith, t, n)) c.in_err-check_method.field-0.0 c.loop-m.invariant c.in_err-check_method.ensures)

pub loop-m-preserved : goal.loop-m-preserved
loop-m-preserved c =
    let t = c.loop-m-test.true in
    let n = c.methods-m-end.ensures in
    refusal_goes c.args.t.now c.requires c.loop-m.m (omega (arith, t, n)) c.loop-m.invariant c.in_ok-check_method.ensures

pub returns : goal.returns
returns c =
    let t = c.loop-m-test.false in
    let n = c.methods-m-end.ensures in
    sym c.loop-m.invariant ∙ refusal_last c.args.t.now c.requires c.loop-m.m (omega (arith, t, n))
