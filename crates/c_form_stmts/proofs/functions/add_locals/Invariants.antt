use Rattle.std.proofs.Common.{◌≡◌, map, drop}
use Rattle.c_text.specs.CNodes.{local_tree, expr_of}
use Rattle.c_text.specs.CFits.{HasLocals}
use Rattle.c_meaning.specs.CTypes.{local_name}
use Rattle.c_form_exprs.specs.Front.{scope_in}
use Rattle.c_form_stmts.specs.Names.{locals_fit, with_names, is_in}
use Rattle.c_form_stmts.proofs.functions.add_locals.Given as goal

abbrev pub invariant-loop-local : goal.invariant-loop-local
invariant-loop-local l = record {
  same : l.scope.front ≡ l.fn.scope.front;
  has : HasLocals l.fn.scope.front.nodes (drop l.local-index l.locals);
  fits : locals_fit (is_in l.items) (scope_in l.scope) (map (local_tree l.fn.scope.front.nodes.names (expr_of l.fn.scope.front.nodes)) (drop l.local-index l.locals)) ≡ locals_fit (is_in l.items) (scope_in l.fn.scope) (map (local_tree l.fn.scope.front.nodes.names (expr_of l.fn.scope.front.nodes)) l.locals);
  names : with_names (scope_in l.scope) (map local_name (map (local_tree l.fn.scope.front.nodes.names (expr_of l.fn.scope.front.nodes)) (drop l.local-index l.locals))) ≡ with_names (scope_in l.fn.scope) (map local_name (map (local_tree l.fn.scope.front.nodes.names (expr_of l.fn.scope.front.nodes)) l.locals));
}
