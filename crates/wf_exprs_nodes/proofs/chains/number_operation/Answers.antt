use Rattle.wf_exprs.proofs.Growing.{grows_on, retold}
use Rattle.wf_exprs_nodes.proofs.OperandLaws.{there_kept, same_kept}
use Rattle.wf_exprs_nodes.proofs.chains.number_operation.Goals as goal

pub operation-requires-clause-others : goal.operation-requires-clause-others
operation-requires-clause-others c = there_kept _ _ _ c.balanced.ensures.grows c.requires.others

pub returns-clause-grows : goal.returns-clause-grows
returns-clause-grows c = grows_on c.balanced.ensures.grows c.operation.ensures.grows

pub returns-clause-made : goal.returns-clause-made
returns-clause-made c =
    let x = c.in_ok-left.ensures.made.is in
    let y = c.balanced.ensures.grows.exprs _ c.requires.second in
    let z = same_kept _ _ _ c.balanced.ensures.grows c.requires.others in
    record { code = retold c.in_ok-code.ensures.made (cc (x, y, z)); ty = c.calculated.ensures }

pub returns-in_err-code-clause-grows : goal.returns-in_err-code-clause-grows
returns-in_err-code-clause-grows c = grows_on c.balanced.ensures.grows c.operation.ensures.grows
