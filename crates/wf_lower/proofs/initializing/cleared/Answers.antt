use Rattle.wf_exprs.proofs.Growing.{grows_on}
use Rattle.wf_lower.proofs.InitLaws.{cleared_answer}
use Rattle.wf_lower.proofs.initializing.cleared.Goals as goal

pub returns-clause-made : goal.returns-clause-made
returns-clause-made c =
    cleared_answer _ _ _ _ _ _ _ _ _ c.from_slice.result c.number.ensures.grows c.put_name.ensures.grows c.in_ok-receiver.ensures.made c.in_ok-zero.ensures.made c.in_ok-name.ensures.made c.from_slice.ensures

pub returns-clause-grows : goal.returns-clause-grows
returns-clause-grows c = grows_on (grows_on c.variable.ensures.grows c.number.ensures.grows) c.put_name.ensures.grows
