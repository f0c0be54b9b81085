use Rattle.std.proofs.lemmas.Result.{err_from_is_err_and}
use Rattle.wf_bounds.proofs.MethodLemmas.{method_passes, method_stops}
use Rattle.wf_bounds.proofs.methods.check_method.Goals as goal

pub returns : goal.returns
returns c = method_passes c.args.t.now c.args.m.0 c.in_ok-walk_method.field-0 c.walk_method.new.facts c.in_ok-walk_method.ensures.comes

pub returns-in_err-walk_method : goal.returns-in_err-walk_method
returns-in_err-walk_method c =
    let r = err_from_is_err_and c.from_residual.result c.from_residual.ensures.1 in
    rw (r.1, r.2) (method_stops c.args.t.now c.args.m.0 c.in_err-walk_method.field-0.0 c.walk_method.new.facts c.in_err-walk_method.ensures.comes)
