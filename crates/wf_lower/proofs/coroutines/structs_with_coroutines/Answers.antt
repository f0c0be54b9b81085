use Rattle.std.proofs.Common.{◌≤◌, ◌∙◌, length, arith}
use Rattle.wf_ast.specs.TypedPackage.{method_of, package_of}
use Rattle.wf_lower.specs.Coroutines.{has_coroutine, is_coroutine_of}
use Rattle.wf_lower.proofs.CoroutineLaws.{struct_of_method}
use Rattle.wf_lower.proofs.FlagLaws.{sets_end, sets_more}
use Rattle.wf_lower.proofs.Known.{count_same, made_there, methods_same}
use Rattle.wf_lower.proofs.coroutines.structs_with_coroutines.Goals as goal

pub mark_struct-requires : goal.mark_struct-requires
mark_struct-requires c = omega (arith, c.loop-m.invariant.sized, struct_of_method c.args.t.now c.requires c.loop-m.m c.method.result.now c.method.ensures)

pub loop-m-preserved : goal.loop-m-preserved
loop-m-preserved c =
    let nodes = c.args.t.now in
    let m = c.method.result.now in
    let made = made_there nodes c.requires c.loop-m.m m c.method.ensures in
    record {
      sized = c.mark_struct.ensures.sized ∙ c.loop-m.invariant.sized;
      left = λ s. sets_more is_coroutine_of (package_of nodes).methods c.loop-m.m s (has_coroutine (package_of nodes) s) c.loop-m.flags.items _ (method_of nodes m made.0) made.1 (c.mark_struct.ensures.marks s) (c.loop-m.invariant.left s);
    }

pub returns : goal.returns
returns c =
    let nodes = c.args.t.now in
    let methods = (package_of nodes).methods in
    let past : length methods ≤ c.loop-m.m = omega (arith, methods_same nodes c.requires, c.loop-m-test.false, c.methods-m-end.ensures) in
    record {
      sized = omega (arith, c.loop-m.invariant.sized, count_same nodes);
      are = λ s. sets_end is_coroutine_of methods c.loop-m.m s (has_coroutine (package_of nodes) s) _ past (c.loop-m.invariant.left s);
    }
