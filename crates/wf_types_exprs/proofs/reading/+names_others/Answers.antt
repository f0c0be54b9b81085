use Rattle.std.proofs.Common.{length, arith}
use Rattle.wf_ast.specs.ParsedParts.{LinksBelow}
use Rattle.wf_ast.proofs.AboveLemmas.{links_above, link_at_place}
use Rattle.wf_ast.proofs.TreeLemmas.{LinksBelow-more}
use Rattle.wf_types_exprs.proofs.reading.+names_others.Goals as goal

pub links_others-names_others-requires : goal.links_others-names_others-requires
links_others-names_others-requires t c =
    let place = link_at_place (length c.args.nodes.now.exprs) c.args.links.now c.loop-link.link-index _ c.loop-link-test.true c.requires in
    (omega (arith, place.0, c.decreases), place.1)

pub names_others-links_others-requires : goal.names_others-links_others-requires
names_others-links_others-requires t c =
    let parts = rw c.in-Chain.is at c.expr-node.ensures.parts in
    let below : LinksBelow c.args.e.0 c.as_slice.result.now = rw c.as_slice.ensures parts.1 in
    (omega (arith, links_above c.args.e.0 c.as_slice.result.now below, c.decreases), LinksBelow-more c.args.e.0 (length c.args.nodes.now.exprs) (omega (arith, c.requires)) c.as_slice.result.now below)
