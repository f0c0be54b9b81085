use Rattle.std.proofs.Common.{◌≡◌, ◌∙◌, sym, ap, map, drop, true, nat_lt, arith, rules}
use Rattle.std.specs.List.{list_all}
use Rattle.std.specs.Prelude.{option_and_then}
use Rattle.wf_ast.specs.declared.numbers.ExprId.{ExprId}
use Rattle.wf_ast.specs.TypedTree.{ValueTree}
use Rattle.wf_ast.specs.TypedTrees.{chain_of, num_in, num_type, operator_kind, tree_of, type_of_node, place_of_node, signs_of_node}
use Rattle.wf_ast.specs.TypedInvariant.{chain_fits, is_expr, is_numeric, is_list}
use Rattle.wf_ast.specs.Value.{value, applied}
use Rattle.wf_ast.specs.OperatorForms.{arith_in}
use Rattle.wf_ast.specs.NodeKinds.{node_number}
use Rattle.wf_ast.proofs.Arena.{both_true}
use Rattle.wf_mean_exprs.specs.MachineState.{seen_from}
use Rattle.wf_mean_exprs.specs.Operands.{chain_value}
use Rattle.wf_ast.proofs.ChainKinds.{no_slice_chain}
use Rattle.wf_mean_exprs.proofs.Chains.{of_numbers, chain_begins, chain_next, chain_ends, number_below}
use Rattle.wf_mean_exprs.proofs.numbers.+valuing.Goals as goal

pub number-number_of_chain-requires : goal.number-number_of_chain-requires
number-number_of_chain-requires t c =
    let nodes = c.args.scene.now.package.now in
    let e = c.args.e in
    let fits : chain_fits nodes (operator_kind c.in-Chain.op) c.as_slice.result.now (type_of_node nodes e.0) ≡ true = search rules in
    let below : list_all (λ (p : ExprId). nat_lt p.0 e.0) c.as_slice.result.now ≡ true = search rules in
    let tree : tree_of nodes e ≡ chain_of (place_of_node nodes e.0) (signs_of_node nodes e.0) (type_of_node nodes e.0) (operator_kind c.in-Chain.op) (map (tree_of nodes) c.as_slice.result.now) = search rules in
    let a = of_numbers nodes e.0 (type_of_node nodes e.0) (operator_kind c.in-Chain.op) c.as_slice.result.now (number_below nodes e c.requires) (both_true (is_expr nodes e) (is_numeric (type_of_node nodes e.0)) c.requires).1 fits below in
    (search rules, (c.requires, (tree, (below, (a.arithmetic_sort, (a.numbers, a.some))))))

pub number_of_chain-loop-i-init : goal.number_of_chain-loop-i-init
number_of_chain-loop-i-init t c =
    let nodes = c.args.scene.now.package.now in
    let s = seen_from c.args.scene.now in
    let e = c.args.e in
    let op = operator_kind c.args.op in
    let ty = type_of_node nodes e.0 in
    record {
      from = omega arith;
      left = ap (λ o. chain_value s (arith_in op) (num_type ty).bits o (map (node_number nodes) (drop 1 c.args.parts.now))) c.number-so_far.ensures
          ∙ chain_begins s nodes (place_of_node nodes e.0) (signs_of_node nodes e.0) ty op c.args.parts.now (record { 0 = 0 }) c.requires.arithmetic c.requires.some
          ∙ ap (λ (x : ValueTree). value s (num_in x)) (sym c.requires.tree);
    }

pub number_of_chain-loop-i-preserved : goal.number_of_chain-loop-i-preserved
number_of_chain-loop-i-preserved t c =
    let nodes = c.args.scene.now.package.now in
    let s = seen_from c.args.scene.now in
    let op = arith_in (operator_kind c.args.op) in
    let bits = (num_type (type_of_node nodes c.args.e.0)).bits in
    record {
      from = omega arith;
      left = chain_next s nodes op bits c.loop-i.so_far c.joined-so_far.result _ c.args.parts.now c.loop-i.i (record { 0 = 0 }) c.loop-i-test.true c.loop-i.invariant.left
          (c.joined-so_far.ensures
          ∙ ap (λ b. option_and_then (λ m. option_and_then (applied op b m) c.number.result) c.loop-i.so_far) c.width_of-width.ensures
          ∙ ap (λ n. option_and_then (λ m. option_and_then (applied op bits m) n) c.loop-i.so_far) c.number.ensures);
    }

pub number_of_chain-returns : goal.number_of_chain-returns
number_of_chain-returns t c =
    let nodes = c.args.scene.now.package.now in
    chain_ends (seen_from c.args.scene.now) nodes (arith_in (operator_kind c.args.op)) (num_type (type_of_node nodes c.args.e.0)).bits c.loop-i.so_far _ c.args.parts.now c.loop-i.i c.loop-i-test.false c.loop-i.invariant.left

pub slice-unreachable-requires-in-Chain : goal.slice-unreachable-requires-in-Chain
slice-unreachable-requires-in-Chain t c =
    let nodes = c.args.scene.now.package.now in
    let ty = type_of_node nodes c.args.e.0 in
    let f : chain_fits nodes (operator_kind c.in-Chain.op) c.in-Chain.parts ty ≡ true = search rules in
    no_slice_chain nodes ty (operator_kind c.in-Chain.op) c.in-Chain.parts (both_true (is_expr nodes c.args.e) (is_list ty) c.requires).1 f
