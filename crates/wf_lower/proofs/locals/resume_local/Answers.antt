use Rattle.std.proofs.Common.{ap, codes}
use Rattle.c_text.specs.declared.kinds.CUint.TheVariants.{U16}
use Rattle.c_text.specs.CTree.{uint}
use Rattle.wf_lower.specs.Bodies.{declared}
use Rattle.wf_lower.proofs.LocalLaws.{local_answer}
use Rattle.wf_lower.proofs.locals.resume_local.Goals as goal

pub returns-clause-made : goal.returns-clause-made
returns-clause-made c = local_answer _ _ _ c.local.result (ap (declared (uint U16) (codes "resume")) c.in_ok-there.ensures.made.is) c.local.ensures.made
