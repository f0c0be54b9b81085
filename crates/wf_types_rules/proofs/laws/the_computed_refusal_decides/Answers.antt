use Rattle.wf_types_rules.proofs.FirstBreakLaws.{deciding-decides}
use Rattle.wf_types_rules.proofs.laws.the_computed_refusal_decides.Goals as goal

pub returns : goal.returns
returns c p = deciding-decides p
