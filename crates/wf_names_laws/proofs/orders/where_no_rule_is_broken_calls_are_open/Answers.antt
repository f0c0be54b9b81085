use Rattle.wf_names_laws.proofs.FrontLemmas.{calls-open}
use Rattle.wf_names_laws.proofs.orders.where_no_rule_is_broken_calls_are_open.Goals as goal

pub returns : goal.returns
returns c = calls-open
