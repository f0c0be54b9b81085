use Rattle.std.proofs.Common.{◌≡◌, ◌++◌, true, map, drop}
use Rattle.c_text.specs.CNodes.{param_tree}
use Rattle.c_text.specs.CFits.{HasParams}
use Rattle.c_form_exprs.specs.Front.{scope_in}
use Rattle.c_form_stmts.specs.Names.{are_new}
use Rattle.c_step_load.proofs.functions.declare_params.Given as goal

abbrev pub invariant-loop-param : goal.invariant-loop-param
invariant-loop-param l = record {
  same : l.scope.front ≡ l.fn.scope.front;
  has : HasParams l.fn.scope.front.nodes (drop l.param-index l.params);
  fresh : are_new (map (λ it. it.name) (scope_in l.scope).names) (map (λ it. it.name) (map (param_tree l.fn.scope.front.nodes.names) (drop l.param-index l.params))) ≡ true;
  names : (scope_in l.scope).names ++ map (param_tree l.fn.scope.front.nodes.names) (drop l.param-index l.params) ≡ (scope_in l.fn.scope).names ++ map (param_tree l.fn.scope.front.nodes.names) l.params;
}
