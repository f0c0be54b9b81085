use Rattle.std.proofs.Common.{◌≤◌, ◌∙◌, ap, map, length, arith}
use Rattle.wf_ast.specs.TypedPackage.{package_of, method_of, variable_of}
use Rattle.wf_points.specs.PointNumbers.{saved_locals, locals_kept}
use Rattle.wf_points.proofs.LoopLemmas.{next_saved, all_saved}
use Rattle.wf_points.proofs.NumberLemmas.{declared_there, methods_long}
use Rattle.wf_points.proofs.deciding.saved_by_method.Goals as goal

pub loop-m-preserved : goal.loop-m-preserved
loop-m-preserved c =
    let nodes = c.args.t.now in
    let b = declared_there nodes c.requires c.loop-m.m c.method.result.now c.method.ensures in
    next_saved saved_locals (package_of nodes).methods c.loop-m.m (method_of nodes c.method.result.now b.0) c.loop-m.saved c.push.new.self _ c.in_ok-find_saved.field-0 b.1 c.loop-m.invariant
    (c.in_ok-find_saved.ensures nodes ∙ ap (λ xs. locals_kept 0 (map (variable_of nodes) xs)) c.as_slice.ensures) c.in_ok-push.ensures.ok

pub returns : goal.returns
returns c =
    let nodes = c.args.t.now in
    let long = methods_long nodes c.requires in
    let t = c.loop-m-test.false in
    let n = c.methods-m-end.ensures in
    let past : length (package_of nodes).methods ≤ c.loop-m.m = omega (arith, long, t, n) in
    all_saved saved_locals (package_of nodes).methods c.loop-m.m c.loop-m.saved _ past c.loop-m.invariant
