use Rattle.wf_parse.proofs.TokenOrder.{tokens_rise}
use Rattle.wf_parse.proofs.forms.tokens_stand_in_order.Goals as goal

pub returns : goal.returns
returns c = tokens_rise
