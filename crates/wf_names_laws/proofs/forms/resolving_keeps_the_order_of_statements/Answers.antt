use Rattle.wf_names_laws.proofs.forms.resolving_keeps_the_order_of_statements.Goals as goal
use Rattle.wf_names_laws.proofs.ResolvedOrder.{resolving_keeps_order}

pub returns : goal.returns
returns c = resolving_keeps_order
