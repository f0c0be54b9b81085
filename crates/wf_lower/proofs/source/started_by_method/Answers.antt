use Rattle.std.proofs.Common.{◌<◌, ◌≤◌, ◌+◌, ◌∙◌, [], ◌∷◌, ◌++◌, ap, map, length, refl, arith, drop}
use Rattle.wf_ast.specs.TypedPackage.{package_of}
use Rattle.c_text.proofs.Arena.{slice_get-some}
use Rattle.wf_lower_stmts.specs.BodyNodes.{started_in, started_of}
use Rattle.wf_lower.proofs.Known.{body_same, body_there, methods_same}
use Rattle.wf_lower.proofs.Walks.{walk_at, walk_end}
use Rattle.wf_lower.proofs.source.started_by_method.Goals as goal

pub find_started-requires-clause-known : goal.find_started-requires-clause-known
find_started-requires-clause-known c = body_there c.args.t.now c.requires c.loop-m.m c.body.result.now c.body.ensures

pub loop-m-preserved : goal.loop-m-preserved
loop-m-preserved c =
    let nodes = c.args.t.now in
    let methods = (package_of nodes).methods in
    let below : c.loop-m.m < length nodes.methods = omega (arith, c.loop-m-test.true, c.methods-m-end.ensures) in
    let m = slice_get-some methods c.loop-m.m (omega (arith, below, methods_same nodes c.requires)) in
    let one = ap (λ s. s ∷ []) (c.find_started.ensures ∙ ap started_in (body_same nodes c.loop-m.m c.body.result.now below c.body.ensures m.0 m.1)) in
    ap (λ l. l ++ map started_of (drop (c.loop-m.m + 1) methods)) c.in_ok-push.ensures.ok
    ∙ walk_at (λ n ms. map started_of ms) (λ n. refl) (λ n x xs. refl) c.loop-m.started _ _ c.loop-m.m c.loop-m.m methods m.0 m.1 one c.loop-m.invariant

pub returns : goal.returns
returns c =
    let nodes = c.args.t.now in
    let past : length (package_of nodes).methods ≤ c.loop-m.m = omega (arith, methods_same nodes c.requires, c.loop-m-test.false, c.methods-m-end.ensures) in
    walk_end (λ n ms. map started_of ms) (λ n. refl) (λ n x xs. refl) c.loop-m.started _ c.loop-m.m c.loop-m.m (package_of nodes).methods past c.loop-m.invariant
