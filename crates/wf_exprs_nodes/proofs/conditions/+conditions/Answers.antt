use Rattle.std.proofs.Common.{◌∙◌, List, sym, ap, subst, get_or, arith, rules, refl}
use Rattle.wf_ast.specs.TypedTree.{ValueTree}
use Rattle.wf_ast.specs.TypedTrees.{cond_in, operator_kind, type_of_node, place_of_node, signs_of_node}
use Rattle.wf_ast.specs.TypedInvariant.{is_expr, is_logical}
use Rattle.wf_ast.specs.NodeKinds.{node_cond}
use Rattle.wf_ast.proofs.Arena.{both_true}
use Rattle.c_text.specs.CTree.{Operands, no_operand}
use Rattle.c_text.specs.declared.ids.CExprId.{CExprId}
use Rattle.wf_exprs.specs.Exprs.{with_operand, lowered_cond}
use Rattle.wf_exprs.proofs.Growing.{grows_on, kept_expr, retell, retold}
use Rattle.wf_exprs_nodes.specs.Trees.{HasOperands}
use Rattle.wf_ast.proofs.ChainKinds.{all_there}
use Rattle.wf_exprs_nodes.proofs.ConditionLaws.{begun_is, behind_end, behind_next, junction_is}
use Rattle.wf_exprs_nodes.proofs.KindLaws.{of_conditions, of_comparison, condition_below}
use Rattle.wf_exprs_nodes.proofs.OperandLaws.{has_there, has_kept, has_pushed}
use Rattle.wf_exprs_nodes.proofs.conditions.+conditions.Goals as goal

pub opposite-returns-clause-grows : goal.opposite-returns-clause-grows
opposite-returns-clause-grows t c = grows_on c.condition.ensures.grows c.negated.ensures.grows

pub chain-junction-requires : goal.chain-junction-requires
chain-junction-requires t c =
    let nodes = c.args.scope.now.nodes in
    let e = c.args.e in
    let j = sym c.joins.ensures ∙ c.if-joins.true in
    let a = of_conditions nodes e.0 (type_of_node nodes e.0) (operator_kind c.args.op) c.args.parts.now (condition_below nodes e c.requires.node) j c.requires.fits c.requires.below in
    (search rules, (c.requires.tree, (j, (c.requires.below, (a.conditions, a.some)))))

pub chain-comparison-requires : goal.chain-comparison-requires
chain-comparison-requires t c =
    let nodes = c.args.scope.now.nodes in
    let e = c.args.e in
    let j = sym c.joins.ensures ∙ c.if-joins.false in
    let o = of_comparison nodes (type_of_node nodes e.0) (operator_kind c.args.op) c.args.parts.now (both_true (is_expr nodes e) (is_logical (type_of_node nodes e.0)) c.requires.node).1 j c.requires.fits in
    record { tree = c.requires.tree; ordering = o; fits = c.requires.fits; there = all_there nodes e.0 c.args.parts.now (condition_below nodes e c.requires.node) c.requires.below; trees = c.requires.trees }

pub junction-loop-i-init : goal.junction-loop-i-init
junction-loop-i-init t c =
    record {
      from = omega arith;
      grows = grows_on (grows_on c.condition.ensures.grows c.condition-2.ensures.grows) c.begun.ensures.grows;
      one = let was = kept_expr _ _ c.condition-2.ensures.grows c.in_ok-first.ensures.made in
          retold c.in_ok-first-2.ensures.made (begun_is c.op_of.ensures was.is c.in_ok-second.ensures.made.is);
      two = kept_expr _ _ c.begun.ensures.grows c.in_ok-second.ensures.made;
      so_far = no_operand;
      has = rw (c.new-others.ensures) tt;
      left = refl;
    }

pub junction-returns-in_err-operand-clause-grows : goal.junction-returns-in_err-operand-clause-grows
junction-returns-in_err-operand-clause-grows t c = grows_on c.loop-i.invariant.grows c.condition-in-loop-i.ensures.grows

pub junction-returns-in_err-push-clause-grows : goal.junction-returns-in_err-push-clause-grows
junction-returns-in_err-push-clause-grows t c = grows_on c.loop-i.invariant.grows c.condition-in-loop-i.ensures.grows

pub junction-loop-i-preserved : goal.junction-loop-i-preserved
junction-loop-i-preserved t c =
    let nodes = c.args.scope.now.nodes in
    let names = c.args.scope.now.names in
    let inv = c.loop-i.invariant in
    let more = c.condition-in-loop-i.ensures.grows in
    let it = lowered_cond names (node_cond nodes (get_or c.args.parts.now c.loop-i.i (record { 0 = 0 }))) in
    record {
      from = omega (arith, inv.from);
      grows = grows_on inv.grows more;
      one = kept_expr _ _ more inv.one;
      two = kept_expr _ _ more inv.two;
      so_far = with_operand inv.so_far it;
      has = subst (λ (es : List CExprId). HasOperands c.condition-in-loop-i.new.u es (with_operand inv.so_far it)) (sym c.in_ok-push.ensures.ok)
          (has_pushed _ _ _ _ it (has_kept _ _ _ _ more inv.has) c.in_ok-operand.ensures.made);
      left = behind_next names nodes c.args.parts.now c.loop-i.i (record { 0 = 0 }) inv.so_far _ c.loop-i-test.true inv.left;
    }

pub junction-operation-requires-clause-others : goal.junction-operation-requires-clause-others
junction-operation-requires-clause-others t c = has_there _ _ _ c.loop-i.invariant.has

pub junction-returns-clause-grows : goal.junction-returns-clause-grows
junction-returns-clause-grows t c = grows_on c.loop-i.invariant.grows c.operation.ensures.grows

pub junction-returns-clause-made : goal.junction-returns-clause-made
junction-returns-clause-made t c =
    let nodes = c.args.scope.now.nodes in
    let names = c.args.scope.now.names in
    let e = c.args.e in
    let inv = c.loop-i.invariant in
    let others = subst (λ (ts : Operands). HasOperands c.loop-i.u c.loop-i.others ts) (behind_end names nodes c.args.parts.now c.loop-i.i inv.so_far _ c.loop-i-test.false inv.left) inv.has in
    retell _ _ _ c.operation.result
    (junction_is names nodes (place_of_node nodes e.0) (signs_of_node nodes e.0) (type_of_node nodes e.0) (operator_kind c.args.op) c.args.parts.now (record { 0 = 0 }) _ _ _ _
    c.requires.joining c.requires.some inv.one inv.two others
    ∙ ap (λ (x : ValueTree). lowered_cond names (cond_in x)) (sym c.requires.tree)) c.operation.ensures.made
