use Rattle.std.proofs.Common.{◌≡◌, ◌∙◌, ◌&&◌, List, sym, ap, subst, map, get_or, true, nat_lt, arith, rules, refl}
use Rattle.std.specs.List.{list_all}
use Rattle.wf_base.specs.declared.marks.Mark.TheVariants.{Pure}
use Rattle.wf_base.specs.BaseTable.{bits_of, row_of}
use Rattle.wf_ast.specs.WellTyped.{same_mark}
use Rattle.wf_ast.specs.declared.numbers.ExprId.{ExprId}
use Rattle.wf_ast.specs.TypedTree.{ValueTree}
use Rattle.wf_ast.specs.TypedTrees.{answer_of, chain_of, end_in, num_in, num_type, operator_kind, tree_of, type_of_node, place_of_node, signs_of_node}
use Rattle.wf_ast.specs.TypedInvariant.{chain_fits, has_kind, is_expr, is_given, is_list, is_numeric}
use Rattle.wf_ast.specs.NodeKinds.{node_number, node_slice}
use Rattle.wf_ast.proofs.Arena.{both_true}
use Rattle.c_text.specs.CGrammar.{is_literal}
use Rattle.c_text.specs.CTree.{Operands, no_operand}
use Rattle.c_text.specs.declared.ids.CExprId.{CExprId}
use Rattle.wf_exprs.specs.Exprs.{with_operand, lowered, lowered_expr, lowered_slice}
use Rattle.wf_exprs.proofs.Growing.{grows_on, kept_expr}
use Rattle.wf_exprs_nodes.specs.Trees.{HasOperands}
use Rattle.wf_exprs_nodes.proofs.ChainLaws.{behind_end, behind_next, link_is, links_begin, links_next, operation_is}
use Rattle.wf_ast.proofs.ChainKinds.{no_slice_chain}
use Rattle.wf_exprs_nodes.proofs.KindLaws.{of_numbers, number_below, answers_a_number, list_given}
use Rattle.wf_exprs_nodes.proofs.OperandLaws.{has_there, has_kept, has_pushed}
use Rattle.wf_exprs_nodes.proofs.SliceLaws.{pointer_no_literal, part_is, rated_kept, retell_rated, pair_kept, pair_as, end_kept}
use Rattle.wf_exprs_nodes.proofs.numbers.+lowering.Goals as goal

pub cells-unreachable-requires-in-Chain : goal.cells-unreachable-requires-in-Chain
cells-unreachable-requires-in-Chain t c =
    let nodes = c.args.scope.now.nodes in
    let ty = type_of_node nodes c.args.e.0 in
    let f : chain_fits nodes (operator_kind c.in-Chain.op) c.in-Chain.parts ty ≡ true = search rules in
    no_slice_chain nodes ty (operator_kind c.in-Chain.op) c.in-Chain.parts (both_true (is_expr nodes c.args.e) (is_list ty) c.requires).1 f

pub cells-unreachable-requires-in-Base : goal.cells-unreachable-requires-in-Base
cells-unreachable-requires-in-Base t c =
    let nodes = c.args.scope.now.nodes in
    let ty = type_of_node nodes c.args.e.0 in
    let k : (same_mark (row_of c.in-Base.sig).mark Pure && (has_kind (row_of c.in-Base.sig).on (type_of_node nodes c.in-Base.on.0) && is_given (row_of c.in-Base.sig).gives ty)) ≡ true = search rules in
    let g = (both_true (has_kind (row_of c.in-Base.sig).on (type_of_node nodes c.in-Base.on.0)) (is_given (row_of c.in-Base.sig).gives ty) (both_true (same_mark (row_of c.in-Base.sig).mark Pure) _ k).1).1 in
    list_given (row_of c.in-Base.sig).gives ty (both_true (is_expr nodes c.args.e) (is_list ty) c.requires).1 g

pub conversion-returns-clause-grows : goal.conversion-returns-clause-grows
conversion-returns-clause-grows t c = grows_on c.number.ensures.grows c.converted.ensures.grows

pub cut-returns-in_err-pair-clause-grows : goal.cut-returns-in_err-pair-clause-grows
cut-returns-in_err-pair-clause-grows t c = grows_on (grows_on (grows_on c.cells.ensures.grows c.end.ensures.grows) c.end-2.ensures.grows) c.part.ensures.grows

pub cut-returns-clause-grows : goal.cut-returns-clause-grows
cut-returns-clause-grows t c = grows_on (grows_on (grows_on c.cells.ensures.grows c.end.ensures.grows) c.end-2.ensures.grows) c.part.ensures.grows

pub cut-returns-clause-made : goal.cut-returns-clause-made
cut-returns-clause-made t c =
    let nodes = c.args.scope.now.nodes in
    let names = c.args.scope.now.names in
    let whole = pair_kept _ _ _ _ c.end-2.ensures.grows (pair_kept _ _ _ _ c.end.ensures.grows c.in_ok-whole.ensures.made) in
    let first = end_kept _ _ _ _ c.end-2.ensures.grows c.in_ok-first.ensures.made in
    pair_as _ _ (part_is names _ _ _ _ _ (place_of_node nodes c.args.e.0) (node_slice nodes c.args.base) (end_in (tree_of nodes) c.args.from) (end_in (tree_of nodes) c.args.to) c.in_ok-whole.ensures.array whole first c.in_ok-last.ensures.made
    ∙ ap (lowered_slice names) (sym c.requires.tree)) c.in_ok-pair.ensures.made

pub element_of-returns-in_err-index-clause-grows : goal.element_of-returns-in_err-index-clause-grows
element_of-returns-in_err-index-clause-grows t c = grows_on c.cells.ensures.grows c.number.ensures.grows

pub element_of-element-requires-clause-pointer : goal.element_of-element-requires-clause-pointer
element_of-element-requires-clause-pointer t c =
    ap is_literal (kept_expr _ _ c.number.ensures.grows c.in_ok-cells.ensures.made.pointer).is ∙ pointer_no_literal c.args.scope.now.names (node_slice c.args.scope.now.nodes c.args.base)

pub element_of-returns-in_err-code-clause-grows : goal.element_of-returns-in_err-code-clause-grows
element_of-returns-in_err-code-clause-grows t c = grows_on (grows_on c.cells.ensures.grows c.number.ensures.grows) c.element.ensures.grows

pub element_of-returns-clause-grows : goal.element_of-returns-clause-grows
element_of-returns-clause-grows t c = grows_on (grows_on c.cells.ensures.grows c.number.ensures.grows) c.element.ensures.grows

pub linked_chain-loop-i-init : goal.linked_chain-loop-i-init
linked_chain-loop-i-init t c =
    let nodes = c.args.scope.now.nodes in
    let names = c.args.scope.now.names in
    let e = c.args.e in
    record {
      from = omega arith;
      grows = c.number.ensures.grows;
      so_far = lowered names (node_number nodes (get_or c.args.parts.now 0 (record { 0 = 0 })));
      has = c.in_ok-left.ensures.made;
      rest = links_begin names nodes (place_of_node nodes e.0) (signs_of_node nodes e.0) (type_of_node nodes e.0) (operator_kind c.args.op) c.args.parts.now (record { 0 = 0 }) c.requires.arithmetic c.requires.apart c.requires.some
          ∙ ap (λ (x : ValueTree). lowered names (num_in x)) (sym c.requires.tree);
    }

pub linked_chain-returns-in_err-left-2-clause-grows : goal.linked_chain-returns-in_err-left-2-clause-grows
linked_chain-returns-in_err-left-2-clause-grows t c = grows_on (grows_on c.loop-i.invariant.grows c.number-in-loop-i.ensures.grows) c.link.ensures.grows

pub linked_chain-loop-i-preserved : goal.linked_chain-loop-i-preserved
linked_chain-loop-i-preserved t c =
    let nodes = c.args.scope.now.nodes in
    let names = c.args.scope.now.names in
    let own = (num_type (type_of_node nodes c.args.e.0)).bits in
    let inv = c.loop-i.invariant in
    let right = lowered names (node_number nodes (get_or c.args.parts.now c.loop-i.i (record { 0 = 0 }))) in
    record {
      from = omega (arith, inv.from);
      grows = grows_on (grows_on inv.grows c.number-in-loop-i.ensures.grows) c.link.ensures.grows;
      so_far = _;
      has = c.in_ok-left-2.ensures.made;
      rest = links_next names nodes (operator_kind c.args.op) own inv.so_far _ _ c.args.parts.now c.loop-i.i (record { 0 = 0 }) c.loop-i-test.true inv.rest
          (link_is names (operator_kind c.args.op) (bits_of c.args.width) own c.number-in-loop-i.new.u c.loop-i.left c.in_ok-right.right inv.so_far right c.requires.width
          (rated_kept _ _ _ _ c.number-in-loop-i.ensures.grows inv.has) c.in_ok-right.ensures.made);
    }

pub number-chain-requires : goal.number-chain-requires
number-chain-requires t c =
    let nodes = c.args.scope.now.nodes in
    let e = c.args.e in
    let fits : chain_fits nodes (operator_kind c.in-Chain.op) c.as_slice.result.now (type_of_node nodes e.0) ≡ true = search rules in
    let below : list_all (λ (p : ExprId). nat_lt p.0 e.0) c.as_slice.result.now ≡ true = search rules in
    let tree : tree_of nodes e ≡ chain_of (place_of_node nodes e.0) (signs_of_node nodes e.0) (type_of_node nodes e.0) (operator_kind c.in-Chain.op) (map (tree_of nodes) c.as_slice.result.now) = search rules in
    let a = of_numbers nodes e.0 (type_of_node nodes e.0) (operator_kind c.in-Chain.op) c.as_slice.result.now (number_below nodes e c.requires) (both_true (is_expr nodes e) (is_numeric (type_of_node nodes e.0)) c.requires).1 fits below in
    (search rules, (c.requires, (tree, (below, (a.arithmetic_sort, (a.numbers, a.some))))))

pub number-answer-requires : goal.number-answer-requires
number-answer-requires t c =
    let nodes = c.args.scope.now.nodes in
    let e = c.args.e in
    let sig = c.in-Base.sig in
    let tree : tree_of nodes e ≡ answer_of (place_of_node nodes e.0) sig (tree_of nodes c.in-Base.on) = search rules in
    let ty = type_of_node nodes e.0 in
    let k : (same_mark (row_of sig).mark Pure && (has_kind (row_of sig).on (type_of_node nodes c.in-Base.on.0) && is_given (row_of sig).gives ty)) ≡ true = search rules in
    let m = both_true (same_mark (row_of sig).mark Pure) (has_kind (row_of sig).on (type_of_node nodes c.in-Base.on.0) && is_given (row_of sig).gives ty) k in
    let g = both_true (has_kind (row_of sig).on (type_of_node nodes c.in-Base.on.0)) (is_given (row_of sig).gives ty) m.1 in
    let numeric : is_numeric (type_of_node nodes e.0) ≡ true = (both_true (is_expr nodes e) (is_numeric (type_of_node nodes e.0)) c.requires).1 in
    (search rules, (tree, (g.0, (answers_a_number sig ty m.0 g.1 numeric, (search rules, search rules)))))

pub operation_chain-loop-i-init : goal.operation_chain-loop-i-init
operation_chain-loop-i-init t c =
    record {
      from = omega arith;
      grows = grows_on c.number.ensures.grows c.number-2.ensures.grows;
      one = rated_kept _ _ _ _ c.number-2.ensures.grows c.in_ok-first.ensures.made;
      two = c.in_ok-second.ensures.made;
      so_far = no_operand;
      has = rw (c.new-others.ensures) tt;
      left = refl;
    }

pub operation_chain-returns-in_err-operand-clause-grows : goal.operation_chain-returns-in_err-operand-clause-grows
operation_chain-returns-in_err-operand-clause-grows t c = grows_on c.loop-i.invariant.grows c.number-in-loop-i.ensures.grows

pub operation_chain-returns-in_err-push-clause-grows : goal.operation_chain-returns-in_err-push-clause-grows
operation_chain-returns-in_err-push-clause-grows t c = grows_on c.loop-i.invariant.grows c.number-in-loop-i.ensures.grows

pub operation_chain-loop-i-preserved : goal.operation_chain-loop-i-preserved
operation_chain-loop-i-preserved t c =
    let nodes = c.args.scope.now.nodes in
    let names = c.args.scope.now.names in
    let inv = c.loop-i.invariant in
    let more = c.number-in-loop-i.ensures.grows in
    let it = lowered_expr names (node_number nodes (get_or c.args.parts.now c.loop-i.i (record { 0 = 0 }))) in
    record {
      from = omega (arith, inv.from);
      grows = grows_on inv.grows more;
      one = rated_kept _ _ _ _ more inv.one;
      two = rated_kept _ _ _ _ more inv.two;
      so_far = with_operand inv.so_far it;
      has = subst (λ (es : List CExprId). HasOperands c.number-in-loop-i.new.u es (with_operand inv.so_far it)) (sym c.in_ok-push.ensures.ok)
          (has_pushed _ _ _ _ it (has_kept _ _ _ _ more inv.has) c.in_ok-operand.ensures.made.code);
      left = behind_next names nodes c.args.parts.now c.loop-i.i (record { 0 = 0 }) inv.so_far _ c.loop-i-test.true inv.left;
    }

pub operation_chain-number_operation-requires-clause-others : goal.operation_chain-number_operation-requires-clause-others
operation_chain-number_operation-requires-clause-others t c = has_there _ _ _ c.loop-i.invariant.has

pub operation_chain-returns-clause-grows : goal.operation_chain-returns-clause-grows
operation_chain-returns-clause-grows t c = grows_on c.loop-i.invariant.grows c.number_operation.ensures.grows

pub operation_chain-returns-clause-made : goal.operation_chain-returns-clause-made
operation_chain-returns-clause-made t c =
    let nodes = c.args.scope.now.nodes in
    let names = c.args.scope.now.names in
    let e = c.args.e in
    let inv = c.loop-i.invariant in
    let others = subst (λ (ts : Operands). HasOperands c.loop-i.u c.loop-i.others ts) (behind_end names nodes c.args.parts.now c.loop-i.i inv.so_far _ c.loop-i-test.false inv.left) inv.has in
    retell_rated _ _ _ c.number_operation.result
    (operation_is names nodes (place_of_node nodes e.0) (signs_of_node nodes e.0) (type_of_node nodes e.0) (operator_kind c.args.op) c.args.parts.now (record { 0 = 0 }) _ _ _ _ (bits_of c.args.width)
    c.requires.arithmetic c.requires.repeats c.requires.some c.requires.width inv.one inv.two others
    ∙ ap (λ (x : ValueTree). lowered names (num_in x)) (sym c.requires.tree)) c.number_operation.ensures.made
