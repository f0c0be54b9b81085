use Rattle.std.proofs.Common.{◌≡◌, ◌+◌, ◌*◌, drop}
use Rattle.wf_ast.specs.Above.{above_links}
use Rattle.wf_named.specs.NamedTrees.{expr_trees, links_at}
use Rattle.wf_types_rules.specs.Judgements.{links_name_others}
use Rattle.wf_types_exprs.proofs.reading.+names_others.Given as goal

abbrev pub decreases-names_others : goal.decreases-names_others
decreases-names_others l = 2 * l.e.0 + 1

abbrev pub decreases-links_others : goal.decreases-links_others
decreases-links_others l = 2 * above_links l.links.now

abbrev pub invariant-links_others-loop-link : goal.invariant-links_others-loop-link
invariant-links_others-loop-link l =
    links_name_others (links_at (expr_trees l.nodes.exprs) (drop l.link-index l.links)) ≡ links_name_others (links_at (expr_trees l.nodes.exprs) l.links)
