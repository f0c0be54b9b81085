use Rattle.wf_typed_laws.proofs.StatusTexts.{read_statuses_are_plain}
use Rattle.wf_typed_laws.proofs.laws.statuses_are_plain.Goals as goal

pub returns : goal.returns
returns c = read_statuses_are_plain
