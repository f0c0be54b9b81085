use Rattle.wf_ast.specs.TypedTrees.{tree_of, optional_target}
use Rattle.wf_named.specs.NamedParts.{exprs_of}
use Rattle.wf_named.specs.NamedTrees.{args_at}
use Rattle.wf_typed_stmts.proofs.GrowthLemmas.{exprs_more_still, optional_more}
use Rattle.wf_typed_stmts.proofs.SimpleLemmas.{callee_kept, target_kept, made_call}
use Rattle.wf_typed_stmts.proofs.calls.add_call.Goals as goal

pub returns-clause-made : goal.returns-clause-made
returns-clause-made c =
    let s = c.args.here.now.around.now in
    let call = c.args.call.now in
    let p = c.args.nodes.now in
    let mid = c.add_callee.new.nodes in
    let q = c.add_args.new.nodes in
    let grown = exprs_more_still p mid q c.in_ok-callee.ensures.grows c.in_ok-args.ensures.grows in
    let callee = callee_kept s call.callee call.mark mid q c.in_ok-callee.callee c.in_ok-args.ensures.grows c.in_ok-callee.ensures.made in
    let args = rw c.as_slice.ensures at c.in_ok-args.ensures.made in
    made_call s q c.args.target (optional_target (tree_of p) c.args.target) c.args.keep call.callee call.at call.mark (args_at (exprs_of c.args.here.now.nodes.now) call.args) c.args.at c.in_ok-callee.callee c.in_ok-args.args
    (optional_more p q grown.exprs.exprs c.args.target c.requires.target) (target_kept p q grown c.args.target c.requires.target) callee args
