use Rattle.std.proofs.Common.{◌≡◌, ◌≤◌, ◌+◌, ◌-◌, ◌*◌, drop, length, map, option_map, IfSome}
use Rattle.c_text.specs.CNodes.{expr_of, operands_in, args_in, param_tree}
use Rattle.c_text.specs.CFits.{HasExprs, HasArgs, HasParams}
use Rattle.c_meaning.specs.CTypes.{operand_types, operations_type, arg_types, passable}
use Rattle.c_form_exprs.specs.Front.{scope_in}
use Rattle.c_form_exprs.specs.Spines.{Climbs}
use Rattle.c_form_exprs.specs.TypeViews.{value_in, HasValue}
use Rattle.c_form_exprs.proofs.ArgLemmas.{takes_from}
use Rattle.c_form_exprs.proofs.scope.CScope.+expr_types.Given as goal

abbrev pub decreases-type_of : goal.decreases-type_of
decreases-type_of l = 16 * l.e.0 + 15

abbrev pub decreases-climb : goal.decreases-climb
decreases-climb l = 16 * l.e.0 + 14

abbrev pub decreases-base_type : goal.decreases-base_type
decreases-base_type l = 16 * l.e.0 + 14

abbrev pub decreases-held_of : goal.decreases-held_of
decreases-held_of l = 16 * l.e.0 + 14

abbrev pub decreases-linked : goal.decreases-linked
decreases-linked l = 16 * l.e.0 + 13

abbrev pub decreases-unary : goal.decreases-unary
decreases-unary l = 16 * l.of.0 + 16

abbrev pub decreases-choice : goal.decreases-choice
decreases-choice l = 16 * l.below + 1

abbrev pub decreases-call : goal.decreases-call
decreases-call l = 16 * l.below + 4

abbrev pub decreases-takes : goal.decreases-takes
decreases-takes l = 16 * l.below + 3

abbrev pub decreases-fits : goal.decreases-fits
decreases-fits l = 16 * l.below + 2

abbrev pub decreases-operation : goal.decreases-operation
decreases-operation l = 16 * l.below + 3

abbrev pub decreases-operands : goal.decreases-operands
decreases-operands l = 16 * l.below + 2

abbrev pub invariant-climb-loop-link : goal.invariant-climb-loop-link
invariant-climb-loop-link l = Climbs l.self.front.nodes (scope_in l.self) l.fn.e l.links.items l.found

abbrev pub decreases-climb-loop-link : goal.decreases-climb-loop-link
decreases-climb-loop-link l = length l.links.items

abbrev pub invariant-operands-loop-other : goal.invariant-operands-loop-other
invariant-operands-loop-other l = record {
  has : HasExprs l.below (drop l.other-index l.others);
  told : IfSome l.found (HasValue l.self.front.nodes);
  so_far : operations_type l.op (option_map (value_in l.self.front.nodes.names) l.found) (operand_types (scope_in l.self) (operands_in (expr_of l.self.front.nodes) (drop l.other-index l.others))) ≡ operations_type l.op (option_map (value_in l.self.front.nodes.names) l.fn.front) (operand_types (scope_in l.self) (operands_in (expr_of l.self.front.nodes) l.others));
}

abbrev pub invariant-takes-loop-i : goal.invariant-takes-loop-i
invariant-takes-loop-i l = record {
  same : length l.params ≡ length l.given;
  within : l.i ≤ length l.given;
  has_params : HasParams l.self.front.nodes (drop l.i l.params);
  has_given : HasArgs l.self.front.nodes l.below (drop l.i l.given);
  so_far : takes_from l.self.front.nodes (scope_in l.self) l.params l.given l.i ≡ passable (map (param_tree l.self.front.nodes.names) l.params) (arg_types (scope_in l.self) (args_in l.self.front.nodes.names (expr_of l.self.front.nodes) l.given));
}

abbrev pub decreases-takes-loop-i : goal.decreases-takes-loop-i
decreases-takes-loop-i l = length l.given - l.i
