use Rattle.std.proofs.Common.{◌≤◌, ◌<◌, ◌∙◌, ◌||◌, ap, length, arith}
use Rattle.wf_ast.specs.TypedPackage.{package_of}
use Rattle.c_text.proofs.Arena.{slice_get-some}
use Rattle.wf_lower_stmts.specs.BodyNodes.{stands}
use Rattle.wf_lower.specs.Called.{calls, is_called}
use Rattle.wf_lower.specs.Flags.{is_set}
use Rattle.wf_lower.proofs.FlagLaws.{sets_end, sets_more}
use Rattle.wf_lower.proofs.Known.{body_same, body_there, methods_same}
use Rattle.wf_lower.proofs.called.called_methods.Goals as goal

pub mark_body-requires-clause-known : goal.mark_body-requires-clause-known
mark_body-requires-clause-known c = body_there c.args.t.now c.requires c.loop-m.m c.body.result.now c.body.ensures

pub loop-m-preserved : goal.loop-m-preserved
loop-m-preserved c =
    let nodes = c.args.t.now in
    let methods = (package_of nodes).methods in
    let before = c.loop-m.called.items in
    let below : c.loop-m.m < length nodes.methods = omega (arith, c.loop-m-test.true, c.methods-m-end.ensures) in
    let m = slice_get-some methods c.loop-m.m (omega (arith, below, methods_same nodes c.requires)) in
    let same = body_same nodes c.loop-m.m c.body.result.now below c.body.ensures m.0 m.1 in
    record {
      sized = c.mark_body.ensures.sized ∙ c.loop-m.invariant.sized;
      left = λ n. sets_more (λ k it. stands (calls k) it.body) methods c.loop-m.m n (is_called (package_of nodes) n) before _ m.0 m.1 (c.mark_body.ensures.marks n ∙ ap (λ body. is_set before n || stands (calls n) body) same) (c.loop-m.invariant.left n);
    }

pub returns : goal.returns
returns c =
    let nodes = c.args.t.now in
    let methods = (package_of nodes).methods in
    let past : length methods ≤ c.loop-m.m = omega (arith, methods_same nodes c.requires, c.loop-m-test.false, c.methods-m-end.ensures) in
    record {
      sized = omega (arith, c.loop-m.invariant.sized, methods_same nodes c.requires);
      are = λ n. sets_end (λ k it. stands (calls k) it.body) methods c.loop-m.m n (is_called (package_of nodes) n) _ past (c.loop-m.invariant.left n);
    }
