use Rattle.std.proofs.Common.{◌≡◌, ◌++◌, true, map, drop}
use Rattle.c_text.specs.CNodes.{local_tree, expr_of}
use Rattle.c_text.specs.CFits.{HasLocals}
use Rattle.c_meaning.specs.CTypes.{local_name}
use Rattle.c_form_exprs.specs.Front.{scope_in}
use Rattle.c_form_stmts.specs.Names.{are_new}
use Rattle.c_step_load.proofs.functions.declare_locals.Given as goal

abbrev pub invariant-loop-local : goal.invariant-loop-local
invariant-loop-local l = record {
  same : l.scope.front ≡ l.fn.scope.front;
  has : HasLocals l.fn.scope.front.nodes (drop l.local-index l.locals);
  fresh : are_new (map (λ it. it.name) (scope_in l.scope).names) (map (λ it. it.name) (map local_name (map (local_tree l.fn.scope.front.nodes.names (expr_of l.fn.scope.front.nodes)) (drop l.local-index l.locals)))) ≡ true;
  names : (scope_in l.scope).names ++ map local_name (map (local_tree l.fn.scope.front.nodes.names (expr_of l.fn.scope.front.nodes)) (drop l.local-index l.locals)) ≡ (scope_in l.fn.scope).names ++ map local_name (map (local_tree l.fn.scope.front.nodes.names (expr_of l.fn.scope.front.nodes)) l.locals);
}
