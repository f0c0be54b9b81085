use Rattle.wf_parse.proofs.ReadOrder.{reading_rises}
use Rattle.wf_parse.proofs.forms.statements_are_read_in_order.Goals as goal

pub returns : goal.returns
returns c = reading_rises
