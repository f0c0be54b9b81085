use Rattle.wf_ast.proofs.LocalNodes.{firsts_there, local_there, local_numbered, local_is}
use Rattle.wf_ast.proofs.typed.Typed.local_expr.Goals as goal

pub bounds-as_slice-m : goal.bounds-as_slice-m
bounds-as_slice-m c = firsts_there _ _ c.self.view_is c.self.invariant _ c.as_slice.ensures c.args.m.0 c.args.x.0 c.requires.method

pub overflow_add-result : goal.overflow_add-result
overflow_add-result c = local_numbered _ _ c.self.view_is c.self.invariant _ c.as_slice.ensures c.args.m.0 c.args.x.0 c.requires.method c.requires.local

pub returns-clause-there : goal.returns-clause-there
returns-clause-there c = local_there _ _ c.self.view_is c.self.invariant _ c.as_slice.ensures c.args.m.0 c.args.x.0 c.requires.method c.requires.local

pub returns-clause-is : goal.returns-clause-is
returns-clause-is c = local_is _ _ c.self.view_is c.self.invariant _ c.as_slice.ensures c.args.m.0 c.args.x.0 c.requires.method
