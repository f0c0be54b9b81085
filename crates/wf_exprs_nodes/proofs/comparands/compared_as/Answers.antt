use Rattle.std.proofs.Common.{◌≡◌, true, nat_lt, rules}
use Rattle.std.specs.List.{list_all}
use Rattle.wf_ast.specs.declared.numbers.ExprId.{ExprId}
use Rattle.wf_ast.specs.TypedTrees.{operator_kind, type_of_node}
use Rattle.wf_ast.specs.TypedInvariant.{chain_fits, is_expr, is_numeric}
use Rattle.wf_ast.proofs.Arena.{both_true}
use Rattle.wf_exprs_nodes.proofs.KindLaws.{of_numbers, number_below}
use Rattle.wf_exprs_nodes.proofs.comparands.compared_as.Goals as goal

pub chain-requires-clause-arithmetic : goal.chain-requires-clause-arithmetic
chain-requires-clause-arithmetic c =
    let nodes = c.args.scope.now.nodes in
    let e = c.args.e in
    let fits : chain_fits nodes (operator_kind c.in-Chain.op) c.as_slice.result.now (type_of_node nodes e.0) ≡ true = search rules in
    let below : list_all (λ (p : ExprId). nat_lt p.0 e.0) c.as_slice.result.now ≡ true = search rules in
    (of_numbers nodes e.0 (type_of_node nodes e.0) (operator_kind c.in-Chain.op) c.as_slice.result.now (number_below nodes e c.requires) (both_true (is_expr nodes e) (is_numeric (type_of_node nodes e.0)) c.requires).1 fits below).arithmetic_sort

pub chain-requires-clause-numbers : goal.chain-requires-clause-numbers
chain-requires-clause-numbers c =
    let nodes = c.args.scope.now.nodes in
    let e = c.args.e in
    let fits : chain_fits nodes (operator_kind c.in-Chain.op) c.as_slice.result.now (type_of_node nodes e.0) ≡ true = search rules in
    let below : list_all (λ (p : ExprId). nat_lt p.0 e.0) c.as_slice.result.now ≡ true = search rules in
    (of_numbers nodes e.0 (type_of_node nodes e.0) (operator_kind c.in-Chain.op) c.as_slice.result.now (number_below nodes e c.requires) (both_true (is_expr nodes e) (is_numeric (type_of_node nodes e.0)) c.requires).1 fits below).numbers
