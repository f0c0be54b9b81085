use Rattle.std.proofs.Common.{rules}
use Rattle.wf_facts_exprs.proofs.SetLemmas.{inserted}
use Rattle.wf_facts_exprs.proofs.sets.FactSet.insert.Goals as goal

pub returns : goal.returns
returns c = inserted c.args.self.now.words (search rules) c.args.i c.requires
