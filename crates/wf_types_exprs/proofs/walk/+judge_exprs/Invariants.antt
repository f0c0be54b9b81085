use Rattle.std.proofs.Common.{◌≡◌, ◌+◌, ◌-◌, ◌*◌, ◌≤◌, ◌&&◌, max, drop, length, Option}
use Rattle.wf_text.specs.declared.rules.Refusal.{Refusal}
use Rattle.wf_ast.specs.Above.{above_part, above_exprs, above_links, above_prefix, above_prefixes, above_bounds}
use Rattle.wf_named.specs.NamedTree.{NamedTypeTree}
use Rattle.wf_named.specs.NamedTrees.{expr_trees, links_at, args_at, all_prefixed}
use Rattle.wf_types_rules.specs.ExprTypes.{operands_behind}
use Rattle.wf_types_rules.specs.Judgements.{are_arguments}
use Rattle.wf_types_rules.specs.Parts.{links_parts, args_parts}
use Rattle.wf_types_exprs.specs.Above.{above_type}
use Rattle.wf_types_exprs.specs.Judged.{judged, operands_joined, TellsType}
use Rattle.wf_types_exprs.proofs.walk.+judge_exprs.Given as goal

abbrev pub decreases-judge_expr : goal.decreases-judge_expr
decreases-judge_expr l = 16 * l.e.0 + 12

abbrev pub decreases-judge_value : goal.decreases-judge_value
decreases-judge_value l = 16 * l.e.0 + 13

abbrev pub decreases-judge_end : goal.decreases-judge_end
decreases-judge_end l = 16 * above_part l.end

abbrev pub decreases-judge_ends : goal.decreases-judge_ends
decreases-judge_ends l = 16 * max (above_part l.from) (above_part l.to) + 1

abbrev pub decreases-judge_chain : goal.decreases-judge_chain
decreases-judge_chain l = 16 * max (l.first.0 + 1) (above_links l.links.now) + 3

abbrev pub decreases-judge_pair : goal.decreases-judge_pair
decreases-judge_pair l = 16 * max (l.first.0 + 1) (l.link.operand.0 + 1) + 2

abbrev pub decreases-judge_operand : goal.decreases-judge_operand
decreases-judge_operand l = 16 * l.e.0 + 14

abbrev pub decreases-judge_links : goal.decreases-judge_links
decreases-judge_links l = 16 * above_links l.links.now

abbrev pub decreases-judge_operands : goal.decreases-judge_operands
decreases-judge_operands l = 16 * max (l.first.0 + 1) (above_links l.links.now) + 1

abbrev pub decreases-judge_argument : goal.decreases-judge_argument
decreases-judge_argument l = 16 * l.e.0 + 14

abbrev pub decreases-judge_args : goal.decreases-judge_args
decreases-judge_args l = 16 * above_exprs l.args.now

abbrev pub decreases-judge_call : goal.decreases-judge_call
decreases-judge_call l = 16 * above_exprs l.call.now.args + 1

abbrev pub decreases-judge_conversion : goal.decreases-judge_conversion
decreases-judge_conversion l = 16 * max (l.of.0 + 1) (above_type l.to.now) + 4

abbrev pub decreases-judge_bound : goal.decreases-judge_bound
decreases-judge_bound l = 16 * l.e.0 + 14

abbrev pub decreases-judge_low : goal.decreases-judge_low
decreases-judge_low l = 16 * above_part l.low

abbrev pub decreases-judge_refined : goal.decreases-judge_refined
decreases-judge_refined l = 16 * max (above_part l.bounds.low) (l.bounds.high.0 + 1) + 1

abbrev pub decreases-judge_core : goal.decreases-judge_core
decreases-judge_core l = 16 * above_bounds l.bounds + 2

abbrev pub decreases-judge_prefix : goal.decreases-judge_prefix
decreases-judge_prefix l = 16 * above_prefix l.prefix

abbrev pub decreases-judge_prefixes : goal.decreases-judge_prefixes
decreases-judge_prefixes l = 16 * above_prefixes l.prefixes.now + 1

abbrev pub decreases-judge_written : goal.decreases-judge_written
decreases-judge_written l = 16 * above_type l.of.now + 3

-- What is left, from here, comes to the whole.
abbrev pub invariant-judge_links-loop-link : goal.invariant-judge_links-loop-link
invariant-judge_links-loop-link l =
    (judged l.here.around.now l.found (links_parts (links_at (expr_trees l.here.nodes.now.exprs) (drop l.link-index l.links)))
    ≡ judged l.here.around.now l.fn.found (links_parts (links_at (expr_trees l.here.nodes.now.exprs) l.links)))
    × (operands_joined l.all (operands_behind l.here.around.now (links_at (expr_trees l.here.nodes.now.exprs) (drop l.link-index l.links)))
    ≡ operands_joined l.fn.before (operands_behind l.here.around.now (links_at (expr_trees l.here.nodes.now.exprs) l.links)))

abbrev pub invariant-judge_args-loop-n : goal.invariant-judge_args-loop-n
invariant-judge_args-loop-n l =
    (judged l.here.around.now l.found (args_parts l.callee l.n (args_at (expr_trees l.here.nodes.now.exprs) (drop l.n l.args)))
    ≡ judged l.here.around.now l.fn.found (args_parts l.callee 0 (args_at (expr_trees l.here.nodes.now.exprs) l.args)))
    × ((l.all && are_arguments l.here.around.now l.callee l.n (args_at (expr_trees l.here.nodes.now.exprs) (drop l.n l.args)))
    ≡ are_arguments l.here.around.now l.callee 0 (args_at (expr_trees l.here.nodes.now.exprs) l.args))

abbrev pub decreases-judge_args-loop-n : goal.decreases-judge_args-loop-n
decreases-judge_args-loop-n l = length l.args - l.n

abbrev pub invariant-judge_prefixes-loop-left : goal.invariant-judge_prefixes-loop-left
invariant-judge_prefixes-loop-left l =
    (l.left ≤ length l.prefixes)
    × ((before : Option Refusal) (t : NamedTypeTree) → TellsType l.here.around.now before l.fn.found t l.fn.core
    → TellsType l.here.around.now before l.found (all_prefixed (expr_trees l.here.nodes.now.exprs) (drop l.left l.prefixes) t) l.written)

abbrev pub decreases-judge_prefixes-loop-left : goal.decreases-judge_prefixes-loop-left
decreases-judge_prefixes-loop-left l = l.left
