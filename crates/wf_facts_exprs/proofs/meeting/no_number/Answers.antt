use Rattle.std.proofs.Common.{sym}
use Rattle.wf_ast.specs.TypedTrees.{tree_of, type_of_node}
use Rattle.wf_facts_exprs.proofs.ShapeLemmas.{length-number}
use Rattle.wf_facts_exprs.proofs.meeting.no_number.Goals as goal

pub returns-clause-number : goal.returns-clause-number
returns-clause-number c = sym (length-number c.args.t.now c.args.e (type_of_node c.args.t.now c.args.e.0) (tree_of c.args.t.now c.args.e))
