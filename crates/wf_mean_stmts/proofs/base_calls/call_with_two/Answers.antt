use Rattle.wf_ast.specs.TypedTrees.{optional_target, tree_of}
use Rattle.wf_mean_stmts.proofs.PerformLemmas.{did_perform}
use Rattle.wf_mean_stmts.proofs.base_calls.call_with_two.Goals as goal

pub returns-in-SkipFast-clause-steps : goal.returns-in-SkipFast-clause-steps
returns-in-SkipFast-clause-steps c = λ done calls n site at rest behind. rw (c.in-SkipFast.is, c.did_if.ensures) (did_perform _ _ _ n _ rest behind (c.skip_fast.ensures.vars (optional_target (tree_of c.args.t.now) c.args.call.target)))
