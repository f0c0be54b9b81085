use Rattle.std.proofs.Common.{◌≡◌, ◌+◌, ◌*◌, max, drop}
use Rattle.std.specs.List.{flat_map}
use Rattle.wf_ast.specs.ParsedTrees.{expr_trees, links_at, given_at}
use Rattle.wf_ast.specs.Above.{above_part, above_given, above_links, above_prefix, above_prefixes, above_bounds, above_type}
use Rattle.wf_names_rules.specs.Uses.{link_uses, given_uses}
use Rattle.wf_names_rules.specs.NodeUses.{prefix_uses}
use Rattle.wf_names_rules.specs.Here.{known_here}
use Rattle.wf_names_rules.specs.Judged.{walked}
use Rattle.wf_names_rules.specs.Called.{with_calls}
use Rattle.wf_names_rules.proofs.walk_exprs.+walk_exprs.Given as goal

abbrev pub decreases-walk_expr : goal.decreases-walk_expr
decreases-walk_expr l = 8 * l.e.0 + 7

abbrev pub decreases-walk_part : goal.decreases-walk_part
decreases-walk_part l = 8 * above_part l.part + 1

abbrev pub decreases-walk_parts : goal.decreases-walk_parts
decreases-walk_parts l = 8 * max (above_part l.from) (above_part l.to) + 2

abbrev pub decreases-walk_links : goal.decreases-walk_links
decreases-walk_links l = 8 * above_links l.links.now + 1

abbrev pub decreases-walk_given : goal.decreases-walk_given
decreases-walk_given l = 8 * above_given l.args.now + 1

abbrev pub decreases-walk_call : goal.decreases-walk_call
decreases-walk_call l = 8 * above_given l.call.now.args + 2

abbrev pub decreases-walk_prefix : goal.decreases-walk_prefix
decreases-walk_prefix l = 8 * above_prefix l.prefix + 1

abbrev pub decreases-walk_prefixes : goal.decreases-walk_prefixes
decreases-walk_prefixes l = 8 * above_prefixes l.prefixes.now + 2

abbrev pub decreases-walk_bounds : goal.decreases-walk_bounds
decreases-walk_bounds l = 8 * above_bounds l.bounds + 3

abbrev pub decreases-walk_core : goal.decreases-walk_core
decreases-walk_core l = 8 * above_bounds l.bounds + 4

abbrev pub decreases-walk_type : goal.decreases-walk_type
decreases-walk_type l = 8 * above_type l.of.now + 5

abbrev pub invariant-walk_links-loop-link : goal.invariant-walk_links-loop-link
invariant-walk_links-loop-link l =
    (walked (known_here l.here) l.seen (link_uses (links_at (expr_trees l.here.parsed.now.exprs) (drop l.link-index l.links)))
    ≡ walked (known_here l.here) l.fn.seen (link_uses (links_at (expr_trees l.here.parsed.now.exprs) l.links)))
    × (with_calls (known_here l.here) l.row (link_uses (links_at (expr_trees l.here.parsed.now.exprs) (drop l.link-index l.links)))
    ≡ with_calls (known_here l.here) l.fn.row (link_uses (links_at (expr_trees l.here.parsed.now.exprs) l.links)))

abbrev pub invariant-walk_given-loop-given : goal.invariant-walk_given-loop-given
invariant-walk_given-loop-given l =
    (walked (known_here l.here) l.seen (given_uses (given_at (expr_trees l.here.parsed.now.exprs) (drop l.given-index l.args)))
    ≡ walked (known_here l.here) l.fn.seen (given_uses (given_at (expr_trees l.here.parsed.now.exprs) l.args)))
    × (with_calls (known_here l.here) l.row (given_uses (given_at (expr_trees l.here.parsed.now.exprs) (drop l.given-index l.args)))
    ≡ with_calls (known_here l.here) l.fn.row (given_uses (given_at (expr_trees l.here.parsed.now.exprs) l.args)))

abbrev pub invariant-walk_prefixes-loop-prefix : goal.invariant-walk_prefixes-loop-prefix
invariant-walk_prefixes-loop-prefix l =
    (walked (known_here l.here) l.seen (flat_map (prefix_uses (expr_trees l.here.parsed.now.exprs)) (drop l.prefix-index l.prefixes))
    ≡ walked (known_here l.here) l.fn.seen (flat_map (prefix_uses (expr_trees l.here.parsed.now.exprs)) l.prefixes))
    × (with_calls (known_here l.here) l.row (flat_map (prefix_uses (expr_trees l.here.parsed.now.exprs)) (drop l.prefix-index l.prefixes))
    ≡ with_calls (known_here l.here) l.fn.row (flat_map (prefix_uses (expr_trees l.here.parsed.now.exprs)) l.prefixes))
