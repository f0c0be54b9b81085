use Rattle.std.proofs.Common.{◌≡◌, map, drop}
use Rattle.c_text.specs.CNodes.{param_tree}
use Rattle.c_text.specs.CFits.{HasParams}
use Rattle.c_form_exprs.specs.Front.{scope_in}
use Rattle.c_form_stmts.specs.Names.{params_fit, with_names, is_in}
use Rattle.c_form_stmts.proofs.functions.add_params.Given as goal

abbrev pub invariant-loop-param : goal.invariant-loop-param
invariant-loop-param l = record {
  same : l.scope.front ≡ l.fn.scope.front;
  has : HasParams l.fn.scope.front.nodes (drop l.param-index l.params);
  fits : params_fit (is_in l.items) (scope_in l.scope) (map (param_tree l.fn.scope.front.nodes.names) (drop l.param-index l.params)) ≡ params_fit (is_in l.items) (scope_in l.fn.scope) (map (param_tree l.fn.scope.front.nodes.names) l.params);
  names : with_names (scope_in l.scope) (map (param_tree l.fn.scope.front.nodes.names) (drop l.param-index l.params)) ≡ with_names (scope_in l.fn.scope) (map (param_tree l.fn.scope.front.nodes.names) l.params);
}
