use Rattle.wf_ast.proofs.package_nodes.PackageNodes.intern.Goals as goal

pub invariant_of-self : goal.invariant_of-self
invariant_of-self c = record {
  texts = c.number_of.ensures.unique;
  exprs = c.self.invariant.exprs;
  stmts = c.self.invariant.stmts;
  decls = c.self.invariant.decls;
}
