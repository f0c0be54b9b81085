use Rattle.std.proofs.Common.{ap}
use Rattle.c_text.specs.CTree.{variable}
use Rattle.wf_exprs.proofs.Growing.{grows_on, retell}
use Rattle.wf_exprs.proofs.nodes.spelt_variable.Goals as goal

pub returns-clause-grows : goal.returns-clause-grows
returns-clause-grows c = grows_on c.put_spelt.ensures.grows c.put.ensures.grows

pub returns-clause-made : goal.returns-clause-made
returns-clause-made c = retell _ _ _ c.put.result (ap variable c.in_ok-name.ensures.made.is) c.put.ensures.made
