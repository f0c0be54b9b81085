use Rattle.wf_names_cycles.proofs.SectionLemmas.{methods-within}
use Rattle.wf_names_laws.proofs.FrontLemmas.{cycle-breaks, rows-few}
use Rattle.wf_names_laws.proofs.orders.rows_of_calls_are_a_graph.Goals as goal

pub returns : goal.returns
returns c = record { within = methods-within; few = rows-few; cycle = cycle-breaks }
