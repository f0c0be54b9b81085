use Rattle.wf_facts.proofs.FormLemmas.{number_is}
use Rattle.wf_bounds_stmts.proofs.stepping.number.Goals as goal

pub returns : goal.returns
returns c = number_is c.args.t.now c.args.e c.expr-node.result.now c.expr-node.ensures.made c.expr-node.ensures.kinds c.requires c.constant.result c.constant.ensures
