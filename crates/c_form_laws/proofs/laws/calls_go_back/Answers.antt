use Rattle.c_form_laws.proofs.CallLaws.{calls_go_back}
use Rattle.c_form_laws.proofs.laws.calls_go_back.Goals as goal

pub returns : goal.returns
returns c = calls_go_back
