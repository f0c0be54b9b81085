use Rattle.wf_axioms.proofs.AxiomTable.{if_found, if_none}
use Rattle.wf_axioms.proofs.finding.axiom.Goals as goal

pub returns-clause-found : goal.returns-clause-found
returns-clause-found c = if_found c.args.name.now c.find_axiom.result c.find_axiom.ensures

pub returns-clause-none : goal.returns-clause-none
returns-clause-none c = if_none c.args.name.now c.find_axiom.result c.find_axiom.ensures
