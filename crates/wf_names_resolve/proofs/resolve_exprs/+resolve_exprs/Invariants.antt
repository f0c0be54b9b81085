use Rattle.std.proofs.Common.{◌+◌, ◌*◌, max}
use Rattle.wf_ast.specs.ParsedTrees.{expr_trees}
use Rattle.wf_ast.specs.Above.{above_part, above_given, above_links, above_prefix, above_prefixes, above_bounds, above_type}
use Rattle.wf_names_resolve.specs.Standing.{standing_here}
use Rattle.wf_names_resolve.proofs.ResolveLemmas.{LinksMade, GivenMade, PrefixesMade}
use Rattle.wf_names_resolve.proofs.resolve_exprs.+resolve_exprs.Given as goal

abbrev pub decreases-resolve_expr : goal.decreases-resolve_expr
decreases-resolve_expr l = 16 * l.e.0 + 15

abbrev pub decreases-resolve_node : goal.decreases-resolve_node
decreases-resolve_node l = 16 * l.e.0 + 14

abbrev pub decreases-resolve_part : goal.decreases-resolve_part
decreases-resolve_part l = 16 * above_part l.part

abbrev pub decreases-resolve_parts : goal.decreases-resolve_parts
decreases-resolve_parts l = 16 * max (above_part l.from) (above_part l.to) + 1

abbrev pub decreases-resolve_chain : goal.decreases-resolve_chain
decreases-resolve_chain l = 16 * max (l.first.0 + 1) (above_links l.links.now) + 1

abbrev pub decreases-resolve_convert : goal.decreases-resolve_convert
decreases-resolve_convert l = 16 * max (l.of.0 + 1) (above_type l.to.now) + 3

abbrev pub decreases-resolve_links : goal.decreases-resolve_links
decreases-resolve_links l = 16 * above_links l.links.now

abbrev pub decreases-resolve_given : goal.decreases-resolve_given
decreases-resolve_given l = 16 * above_given l.given.now

abbrev pub decreases-resolve_call : goal.decreases-resolve_call
decreases-resolve_call l = 16 * above_given l.call.now.args + 1

abbrev pub decreases-resolve_prefix : goal.decreases-resolve_prefix
decreases-resolve_prefix l = 16 * above_prefix l.prefix

abbrev pub decreases-resolve_prefixes : goal.decreases-resolve_prefixes
decreases-resolve_prefixes l = 16 * above_prefixes l.prefixes.now + 1

abbrev pub decreases-resolve_bounds : goal.decreases-resolve_bounds
decreases-resolve_bounds l = 16 * above_bounds l.bounds + 1

abbrev pub decreases-resolve_type : goal.decreases-resolve_type
decreases-resolve_type l = 16 * above_type l.of.now + 2

abbrev pub invariant-resolve_links-loop-link : goal.invariant-resolve_links-loop-link
invariant-resolve_links-loop-link l = LinksMade (standing_here l.here) (expr_trees l.here.parsed.now.exprs) l.links l.link-index l.fn.nodes l.nodes l.made

abbrev pub invariant-resolve_given-loop-one : goal.invariant-resolve_given-loop-one
invariant-resolve_given-loop-one l = GivenMade (standing_here l.here) (expr_trees l.here.parsed.now.exprs) l.given l.one-index l.fn.nodes l.nodes l.made

abbrev pub invariant-resolve_prefixes-loop-prefix : goal.invariant-resolve_prefixes-loop-prefix
invariant-resolve_prefixes-loop-prefix l = PrefixesMade (standing_here l.here) (expr_trees l.here.parsed.now.exprs) l.prefixes l.prefix-index l.fn.nodes l.nodes l.made
