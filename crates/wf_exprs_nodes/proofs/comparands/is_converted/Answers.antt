use Rattle.std.proofs.Common.{◌≡◌, map, sym, subst, true, false, refl, rules}
use Rattle.wf_ast.specs.TypedTree.{NumTree, ValueTree}
use Rattle.wf_ast.specs.TypedTrees.{chain_of, num_in, operator_kind, tree_of, type_of_node, place_of_node, signs_of_node}
use Rattle.wf_ast.specs.TypedInvariant.{chain_fits, is_expr, is_numeric}
use Rattle.wf_ast.proofs.Arena.{both_true}
use Rattle.wf_exprs.specs.Exprs.{is_converted as is_converted_tree}
use Rattle.wf_exprs_nodes.proofs.GivenLaws.{chain_is_link}
use Rattle.wf_exprs_nodes.proofs.comparands.is_converted.Goals as goal

pub returns-in-Chain : goal.returns-in-Chain
returns-in-Chain c =
    let nodes = c.args.t.now in
    let e = c.args.e in
    let fits : chain_fits nodes (operator_kind c.in-Chain.op) c.in-Chain.parts (type_of_node nodes e.0) ≡ true = search rules in
    let tree : tree_of nodes e ≡ chain_of (place_of_node nodes e.0) (signs_of_node nodes e.0) (type_of_node nodes e.0) (operator_kind c.in-Chain.op) (map (tree_of nodes) c.in-Chain.parts) = search rules in
    let numeric = (both_true (is_expr nodes e) (is_numeric (type_of_node nodes e.0)) c.requires).1 in
    subst (λ (x : ValueTree). false ≡ is_converted_tree (num_in x)) (sym tree)
    (chain_is_link (λ (x : NumTree). false ≡ is_converted_tree x) nodes (place_of_node nodes e.0) (signs_of_node nodes e.0) (type_of_node nodes e.0) (operator_kind c.in-Chain.op) c.in-Chain.parts numeric fits (λ at sign op joined a b. refl))
