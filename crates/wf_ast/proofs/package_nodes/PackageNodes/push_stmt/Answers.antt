use Rattle.wf_ast.proofs.TreeLemmas.{IsShaped-stmt}
use Rattle.wf_ast.proofs.package_nodes.PackageNodes.push_stmt.Goals as goal

pub invariant_of-self-2 : goal.invariant_of-self-2
invariant_of-self-2 c = IsShaped-stmt _ c.args.node _ c.add_last.new.list.items c.self.invariant (rw (← c.self.view_is) at c.requires.parts) c.add_last.ensures.items
