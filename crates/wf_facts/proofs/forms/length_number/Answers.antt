use Rattle.std.proofs.Common.{sym}
use Rattle.wf_facts.proofs.FormLemmas.{length_is}
use Rattle.wf_facts.proofs.forms.length_number.Goals as goal

pub returns-clause-value : goal.returns-clause-value
returns-clause-value c = sym (length_is c.args.t.now c.args.e c.expr-node.result.now c.expr-node.ensures.made c.expr-node.ensures.kinds c.requires).1
