use Rattle.wf_tool.proofs.OwnTexts.{own-texts, unit-texts}
use Rattle.wf_tool.proofs.laws.a_text_runs_as_its_package.Goals as goal

pub returns-clause-texts : goal.returns-clause-texts
returns-clause-texts c = unit-texts

pub returns-clause-packages : goal.returns-clause-packages
returns-clause-packages c = own-texts
