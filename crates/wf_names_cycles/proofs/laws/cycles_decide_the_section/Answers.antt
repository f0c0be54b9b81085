use Rattle.wf_names_cycles.proofs.SectionLemmas.{cycles-alone}
use Rattle.wf_names_cycles.proofs.laws.cycles_decide_the_section.Goals as goal

pub returns : goal.returns
returns c = cycles-alone
