use Rattle.std.proofs.Common.{◌<◌, ◌∙◌, length, sym, ap, arith}
use Rattle.std.proofs.lemmas.Bool.Decides.{nat_tests}
use Rattle.wf_ast.specs.TypedTree.{ValueTree}
use Rattle.wf_ast.specs.TypedTrees.{num_in, operator_kind, type_of_node, place_of_node, signs_of_node}
use Rattle.wf_exprs.specs.Exprs.{compared_as, lowered}
use Rattle.wf_exprs_nodes.proofs.ComparandLaws.{many_compared}
use Rattle.wf_exprs_nodes.proofs.SliceLaws.{retell_rated}
use Rattle.wf_exprs_nodes.proofs.comparands.chain.Goals as goal

pub returns-else-parts-eq2-clause-made : goal.returns-else-parts-eq2-clause-made
returns-else-parts-eq2-clause-made c =
    let nodes = c.args.scope.now.nodes in
    let names = c.args.scope.now.names in
    let e = c.args.e in
    let more : 2 < length c.args.parts.now = grind (arith, nat_tests, c.requires.some, c.if-parts-eq2.false) in
    retell_rated _ _ _ c.number.result
    (ap (λ (x : ValueTree). lowered names (num_in x)) c.requires.tree
    ∙ many_compared names nodes (place_of_node nodes e.0) (signs_of_node nodes e.0) (type_of_node nodes e.0) (operator_kind c.args.op) c.args.parts.now c.requires.arithmetic more
    ∙ ap (λ (x : ValueTree). compared_as names (num_in x)) (sym c.requires.tree)) c.number.ensures.made
