use Rattle.std.proofs.Common.{◌≡◌, ◌∙◌, ap, sym, map, true, rules}
use Rattle.wf_ast.specs.TypedTree.{ValueTree}
use Rattle.wf_ast.specs.TypedTrees.{chain_of, num_in, operator_kind, tree_of, type_of_node, place_of_node, signs_of_node}
use Rattle.wf_ast.specs.TypedInvariant.{chain_fits, is_expr, is_numeric}
use Rattle.wf_ast.proofs.Arena.{both_true}
use Rattle.wf_lower_stmts.specs.Forms.{stays}
use Rattle.wf_lower_stmts.proofs.StayLaws.{chain_moves}
use Rattle.wf_lower_stmts.proofs.walks.+number_stays.Goals as goal

pub returns-in-Chain : goal.returns-in-Chain
returns-in-Chain t c =
    let nodes = c.args.t.now in
    let e = c.args.e in
    let ty = type_of_node nodes e.0 in
    let fits : chain_fits nodes (operator_kind c.in-Chain.op) c.in-Chain.parts ty ≡ true = search rules in
    let tree : tree_of nodes e ≡ chain_of (place_of_node nodes e.0) (signs_of_node nodes e.0) ty (operator_kind c.in-Chain.op) (map (tree_of nodes) c.in-Chain.parts) = search rules in
    let numeric = (both_true (is_expr nodes e) (is_numeric ty) c.requires.number).1 in
    sym (ap (λ (x : ValueTree). stays (num_in x)) tree ∙ chain_moves nodes (tree_of nodes) (place_of_node nodes e.0) (signs_of_node nodes e.0) (operator_kind c.in-Chain.op) c.in-Chain.parts ty numeric fits)
