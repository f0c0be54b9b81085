use Rattle.std.proofs.Common.{◌≡◌, ◌∙◌, ℕ, map, sym, ap, subst, true, refl, rules}
use Rattle.wf_base.specs.BaseTable.{bits_of}
use Rattle.wf_ast.specs.TypedTree.{NumTree, ValueTree}
use Rattle.wf_ast.specs.TypedTrees.{chain_of, num_in, num_type, operator_kind, tree_of, type_of_node, place_of_node, signs_of_node}
use Rattle.wf_ast.specs.TypedInvariant.{chain_fits, is_expr, is_numeric}
use Rattle.wf_ast.specs.NodeKinds.{node_number}
use Rattle.wf_ast.proofs.Arena.{both_true}
use Rattle.wf_exprs.specs.Exprs.{given, lowered_expr, taken}
use Rattle.wf_exprs.proofs.Growing.{retell}
use Rattle.wf_exprs_nodes.proofs.GivenLaws.{chain_is_link}
use Rattle.wf_exprs_nodes.proofs.numbers.given.Goals as goal

pub returns-in-Chain-clause-made : goal.returns-in-Chain-clause-made
returns-in-Chain-clause-made c =
    let nodes = c.args.scope.now.nodes in
    let names = c.args.scope.now.names in
    let e = c.args.e in
    let bits = (num_type (type_of_node nodes e.0)).bits in
    let fits : chain_fits nodes (operator_kind c.in-Chain.op) c.in-Chain.parts (type_of_node nodes e.0) ≡ true = search rules in
    let tree : tree_of nodes e ≡ chain_of (place_of_node nodes e.0) (signs_of_node nodes e.0) (type_of_node nodes e.0) (operator_kind c.in-Chain.op) (map (tree_of nodes) c.in-Chain.parts) = search rules in
    let width : bits_of c.width_of.result ≡ bits = search rules in
    let numeric = (both_true (is_expr nodes e) (is_numeric (type_of_node nodes e.0)) c.requires).1 in
    let it = subst (λ (x : ValueTree). taken bits (lowered_expr names (num_in x)) ≡ given names (num_in x)) (sym tree)
    (chain_is_link (λ (x : NumTree). taken bits (lowered_expr names x) ≡ given names x) nodes (place_of_node nodes e.0) (signs_of_node nodes e.0) (type_of_node nodes e.0) (operator_kind c.in-Chain.op) c.in-Chain.parts numeric fits (λ at sign op joined a b. refl)) in
    retell _ _ _ c.code_taken-in-Chain.result (ap (λ (b : ℕ). taken b (lowered_expr names (node_number nodes e))) width ∙ it) c.code_taken-in-Chain.ensures.made
