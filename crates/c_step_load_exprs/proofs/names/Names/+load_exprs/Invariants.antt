use Rattle.std.proofs.Common.{◌≡◌, ◌≤◌, ◌+◌, ◌-◌, ◌*◌, ◌++◌, ◌&&◌, drop, length, map, option_map, IfSome}
use Rattle.c_text.specs.CNodes.{expr_of, operands_in, args_in, param_tree}
use Rattle.c_text.specs.CFits.{HasExprs, HasArgs}
use Rattle.c_meaning.specs.CTypes.{operand_types, operations_type, arg_types, passable}
use Rattle.c_meaning.specs.CExprs.{combination_of}
use Rattle.c_form_exprs.specs.TypeViews.{value_in, HasValue}
use Rattle.c_form_exprs.proofs.ArgLemmas.{takes_from}
use Rattle.c_step_exprs.specs.Resolving.{operands_code, args_code}
use Rattle.c_step_load_exprs.specs.Knowing.{program_scope}
use Rattle.c_step_load_exprs.proofs.ExprLemmas.{Climbing}
use Rattle.c_step_load_exprs.proofs.names.Names.+load_exprs.Given as goal

abbrev pub decreases-value : goal.decreases-value
decreases-value l = 16 * l.e.0 + 15

abbrev pub decreases-linked : goal.decreases-linked
decreases-linked l = 16 * l.e.0 + 14

abbrev pub decreases-put_element : goal.decreases-put_element
decreases-put_element l = 16 * l.at.0 + 16

abbrev pub decreases-base_value : goal.decreases-base_value
decreases-base_value l = 16 * l.e.0 + 14

abbrev pub decreases-put_pointed : goal.decreases-put_pointed
decreases-put_pointed l = 16 * l.of.0 + 16

abbrev pub decreases-put_cast : goal.decreases-put_cast
decreases-put_cast l = 16 * l.of.0 + 16

abbrev pub decreases-place : goal.decreases-place
decreases-place l = 16 * l.e.0 + 14

abbrev pub decreases-element_place : goal.decreases-element_place
decreases-element_place l = 16 * l.at.0 + 16

abbrev pub decreases-unary : goal.decreases-unary
decreases-unary l = 16 * l.of.0 + 18

abbrev pub decreases-turned : goal.decreases-turned
decreases-turned l = 16 * l.e.0 + 16

abbrev pub decreases-operation : goal.decreases-operation
decreases-operation l = 16 * l.below + 4

abbrev pub decreases-operands : goal.decreases-operands
decreases-operands l = 16 * l.below + 3

abbrev pub decreases-operand : goal.decreases-operand
decreases-operand l = 16 * l.e.0 + 18

abbrev pub decreases-tested : goal.decreases-tested
decreases-tested l = 16 * l.e.0 + 17

abbrev pub decreases-combined : goal.decreases-combined
decreases-combined l = 16 * l.e.0 + 16

abbrev pub decreases-choice : goal.decreases-choice
decreases-choice l = 16 * l.below + 3

abbrev pub decreases-arms : goal.decreases-arms
decreases-arms l = 16 * l.below + 2

abbrev pub decreases-other_arm : goal.decreases-other_arm
decreases-other_arm l = 16 * l.unmet.0 + 16

abbrev pub decreases-call : goal.decreases-call
decreases-call l = 16 * l.below + 4

abbrev pub decreases-args : goal.decreases-args
decreases-args l = 16 * l.below + 3

abbrev pub decreases-arg : goal.decreases-arg
decreases-arg l = 16 * l.below + 2

abbrev pub invariant-value-loop-link : goal.invariant-value-loop-link
invariant-value-loop-link l = Climbing l.self.scope.now.front.nodes (program_scope l.self.scope.now) l.fn.e l.links.items l.found l.fn.code.items l.code.items

abbrev pub decreases-value-loop-link : goal.decreases-value-loop-link
decreases-value-loop-link l = length l.links.items

abbrev pub invariant-operands-loop-other : goal.invariant-operands-loop-other
invariant-operands-loop-other l = record {
  has : HasExprs l.below (drop l.other-index l.others);
  told : IfSome l.found (HasValue l.self.scope.now.front.nodes);
  so_far : operations_type l.by.op (option_map (value_in l.self.scope.now.front.nodes.names) l.found) (operand_types (program_scope l.self.scope.now) (operands_in (expr_of l.self.scope.now.front.nodes) (drop l.other-index l.others))) ≡ operations_type l.by.op (option_map (value_in l.self.scope.now.front.nodes.names) l.fn.front) (operand_types (program_scope l.self.scope.now) (operands_in (expr_of l.self.scope.now.front.nodes) l.others));
  code_so_far : l.code.items ++ operands_code (program_scope l.self.scope.now) (combination_of l.by.op) l.by.object l.by.op (operands_in (expr_of l.self.scope.now.front.nodes) (drop l.other-index l.others)) ≡ l.fn.code.items ++ operands_code (program_scope l.self.scope.now) (combination_of l.by.op) l.by.object l.by.op (operands_in (expr_of l.self.scope.now.front.nodes) l.others);
}

abbrev pub invariant-args-loop-i : goal.invariant-args-loop-i
invariant-args-loop-i l = record {
  within : l.i ≤ length l.given;
  has : HasArgs l.self.scope.now.front.nodes l.below (drop l.i l.given);
  so_far : (l.fits && takes_from l.self.scope.now.front.nodes (program_scope l.self.scope.now) l.params l.given l.i) ≡ passable (map (param_tree l.self.scope.now.front.nodes.names) l.params) (arg_types (program_scope l.self.scope.now) (args_in l.self.scope.now.front.nodes.names (expr_of l.self.scope.now.front.nodes) l.given));
  code_so_far : l.code.items ++ args_code (program_scope l.self.scope.now) (args_in l.self.scope.now.front.nodes.names (expr_of l.self.scope.now.front.nodes) (drop l.i l.given)) ≡ l.fn.code.items ++ args_code (program_scope l.self.scope.now) (args_in l.self.scope.now.front.nodes.names (expr_of l.self.scope.now.front.nodes) l.given);
}

abbrev pub decreases-args-loop-i : goal.decreases-args-loop-i
decreases-args-loop-i l = length l.given - l.i
