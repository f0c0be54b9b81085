use Rattle.wf_facts_exprs.proofs.SetLemmas.{told}
use Rattle.wf_facts_exprs.proofs.sets.FactSet.has.Goals as goal

pub returns : goal.returns
returns c = told c.args.self.now.words c.args.i
