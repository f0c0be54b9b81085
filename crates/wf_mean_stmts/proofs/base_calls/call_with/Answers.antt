use Rattle.wf_ast.specs.TypedTrees.{optional_target, tree_of}
use Rattle.wf_mean_stmts.proofs.PerformLemmas.{did_perform}
use Rattle.wf_mean_stmts.proofs.base_calls.call_with.Goals as goal

pub returns-in-Skip-clause-steps : goal.returns-in-Skip-clause-steps
returns-in-Skip-clause-steps c = λ calls n site at rest behind. rw c.in-Skip.is (c.skip.ensures.steps n _ rest behind (optional_target (tree_of c.args.t.now) c.args.call.target))

pub returns-in-Write-clause-steps : goal.returns-in-Write-clause-steps
returns-in-Write-clause-steps c = λ calls n site at rest behind. rw c.in-Write.is (c.write.ensures.steps n _ rest behind (optional_target (tree_of c.args.t.now) c.args.call.target))

pub returns-in-WriteFast-clause-steps : goal.returns-in-WriteFast-clause-steps
returns-in-WriteFast-clause-steps c = λ calls n site at rest behind. rw (c.in-WriteFast.is, c.did_if.ensures) (did_perform _ _ _ n _ rest behind (c.write_fast.ensures.vars (optional_target (tree_of c.args.t.now) c.args.call.target)))

pub returns-in-WriterCopy-clause-steps : goal.returns-in-WriterCopy-clause-steps
returns-in-WriterCopy-clause-steps c = λ calls n site at rest behind. rw (c.in-WriterCopy.is, c.did_if-in-WriterCopy.ensures) (did_perform _ _ _ n _ rest behind c.copy_to_writer.ensures.vars)

pub returns-in-SliceCopy-clause-steps : goal.returns-in-SliceCopy-clause-steps
returns-in-SliceCopy-clause-steps c = λ calls n site at rest behind. rw (c.in-SliceCopy.is, c.did_if-in-SliceCopy.ensures) (did_perform _ _ _ n _ rest behind c.copy_to_slice.ensures.vars)
