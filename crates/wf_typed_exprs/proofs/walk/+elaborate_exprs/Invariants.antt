use Rattle.std.proofs.Common.{◌+◌, ◌*◌, max, drop}
use Rattle.wf_ast.specs.Above.{above_part, above_links}
use Rattle.wf_named.specs.NamedTrees.{expr_trees}
use Rattle.wf_typed_exprs.specs.Growth.{Grows}
use Rattle.wf_typed_exprs.proofs.EntryLemmas.{EntriesLeft}
use Rattle.wf_typed_exprs.proofs.WalkLemmas.{LeftToAdd}
use Rattle.wf_typed_exprs.proofs.walk.+elaborate_exprs.Given as goal

abbrev pub decreases-elaborate_expr : goal.decreases-elaborate_expr
decreases-elaborate_expr l = 16 * l.e.0 + 12

abbrev pub decreases-elaborate_node : goal.decreases-elaborate_node
decreases-elaborate_node l = 16 * l.e.0 + 11

abbrev pub decreases-elaborate_index : goal.decreases-elaborate_index
decreases-elaborate_index l = 16 * l.index.0 + 17

abbrev pub decreases-elaborate_slice : goal.decreases-elaborate_slice
decreases-elaborate_slice l = 16 * max (above_part l.from) (above_part l.to) + 2

abbrev pub decreases-elaborate_ends : goal.decreases-elaborate_ends
decreases-elaborate_ends l = 16 * max (above_part l.from) (above_part l.to) + 1

abbrev pub decreases-elaborate_end : goal.decreases-elaborate_end
decreases-elaborate_end l = 16 * above_part l.end

abbrev pub decreases-elaborate_chain : goal.decreases-elaborate_chain
decreases-elaborate_chain l = 16 * max (l.first.0 + 1) (above_links l.links.now) + 3

abbrev pub decreases-elaborate_pair : goal.decreases-elaborate_pair
decreases-elaborate_pair l = 16 * max (l.first.0 + 1) (l.link.operand.0 + 1) + 2

abbrev pub decreases-elaborate_operands : goal.decreases-elaborate_operands
decreases-elaborate_operands l = 16 * max (l.first.0 + 1) (above_links l.links.now) + 1

abbrev pub decreases-elaborate_operand : goal.decreases-elaborate_operand
decreases-elaborate_operand l = 16 * l.e.0 + 14

abbrev pub decreases-elaborate_links : goal.decreases-elaborate_links
decreases-elaborate_links l = 16 * above_links l.links.now

abbrev pub decreases-elaborate_link : goal.decreases-elaborate_link
decreases-elaborate_link l = 16 * l.link.operand.0 + 15

abbrev pub decreases-elaborate_convert : goal.decreases-elaborate_convert
decreases-elaborate_convert l = 16 * l.of.0 + 17

abbrev pub decreases-elaborate_negation : goal.decreases-elaborate_negation
decreases-elaborate_negation l = 16 * l.of.0 + 17

abbrev pub invariant-elaborate_links-loop-link : goal.invariant-elaborate_links-loop-link
invariant-elaborate_links-loop-link l =
    Grows l.fn.nodes l.nodes × (LeftToAdd l.here.around.now (expr_trees l.here.nodes.now.exprs) l.links (drop l.link-index l.links) l.nodes l.fn.before l.all
    × EntriesLeft l.here.around.now (expr_trees l.here.nodes.now.exprs) l.links (drop l.link-index l.links) l.fn.nodes l.nodes)
