use Rattle.std.proofs.Common.{◌≡◌, ◌-◌, List, true, IfOk, arith, refl, rules, subst, sym}
use Rattle.wf_ast.specs.declared.typed_code.Arm.{Arm}
use Rattle.wf_ast.specs.TypedTree.{Block}
use Rattle.wf_ast.specs.TypedTrees.{block_of}
use Rattle.wf_ast.specs.NodeKinds.{node_cond}
use Rattle.c_text.specs.CGrammar.{FitsElse}
use Rattle.c_text.specs.CNodes.{code_of}
use Rattle.c_text.specs.CTree.{Code, branch, finish}
use Rattle.wf_exprs.specs.Exprs.{lowered_cond}
use Rattle.wf_exprs.specs.Grown.{HasCode}
use Rattle.wf_exprs.proofs.Growing.{grows_on}
use Rattle.wf_lower_stmts.specs.BodyNodes.{form_in, points_by}
use Rattle.wf_lower_stmts.specs.Lower.{lower}
use Rattle.wf_lower_blocks.specs.Blocks.{HasOther, if_in, others_in}
use Rattle.wf_lower_blocks.proofs.BlockLaws.{block_step, if_stmt, more_below, other_step, others_first, simple_stmt, stmt_seen, while_stmt}
use Rattle.wf_lower_blocks.proofs.NodeLaws.{is_simple}
use Rattle.wf_lower_blocks.proofs.blocks.+lowering.Goals as goal

pub lower_arm-put_stmt-requires : goal.lower_arm-put_stmt-requires
lower_arm-put_stmt-requires t c =
    let grows = grows_on c.lower_inner.ensures.grows c.condition_on.ensures.grows in
    let P : Code → Type 0 = λ x. FitsElse c.args.other.kind x in (
      c.in_ok-test.ensures.made.there,
      c.condition_on.ensures.grows.more_stmts c.in_ok-body.body.0 c.in_ok-body.ensures.made.there,
      grows.more_stmts c.args.other.code.0 c.requires.other.0,
      subst P (sym (grows.stmts c.args.other.code.0 c.requires.other.0)) c.requires.other.1,
      grows.more_stmts c.args.rest.0 c.requires.rest,
    )

pub lower_arm-returns-clause-grows : goal.lower_arm-returns-clause-grows
lower_arm-returns-clause-grows t c = grows_on (grows_on c.lower_inner.ensures.grows c.condition_on.ensures.grows) c.put_stmt.ensures.grows

pub lower_others-returns-in_err-code-clause-grows : goal.lower_others-returns-in_err-code-clause-grows
lower_others-returns-in_err-code-clause-grows t c = grows_on (grows_on c.loop-left.invariant.grows c.finish.ensures.grows) c.lower_arm.ensures.grows

pub lower_others-loop-left-preserved : goal.lower_others-loop-left-preserved
lower_others-loop-left-preserved t c =
    let b = c.args.b.now in
    let P : Arm → Type 0 = λ arm. HasCode c.lower_arm.new.u c.in_ok-code.code.0 (branch (lowered_cond (form_in b).names (node_cond b.nodes arm.cond)) (lower (form_in b) (points_by b.numbers) (block_of b.nodes arm.body) finish) c.loop-left.other.kind (code_of c.finish.new.u c.loop-left.other.code.0) (code_of c.finish.new.u c.in_ok-rest.rest.0)) in
    record {
      within = omega (arith, c.loop-left.invariant.within);
      begun = λ h. omega (arith, c.loop-left-test.true);
      grows = grows_on (grows_on c.loop-left.invariant.grows c.finish.ensures.grows) c.lower_arm.ensures.grows;
      made = other_step b.nodes (form_in b) b.numbers c.args.s c.args.arms.now c.args.otherwise.now c.loop-left.left (c.loop-left.left - 1) c.index-arms-left.result (omega (arith, c.loop-left-test.true)) c.loop-left.invariant.within c.loop-left.invariant.made c.finish.ensures.grows c.in_ok-rest.ensures.made (subst P c.index-arms-left.is c.in_ok-code.ensures.made);
    }

pub lower_others-returns-clause-made : goal.lower_others-returns-clause-made
lower_others-returns-clause-made t c =
    let b = c.args.b.now in
    let P : List Arm → Type 0 = λ l. HasOther c.loop-left.u c.loop-left.other.kind c.loop-left.other.code.0 (others_in b.nodes c.args.s l c.args.otherwise.now) (lower (form_in b) (points_by b.numbers) (others_in b.nodes c.args.s l c.args.otherwise.now) finish) in
    subst P (others_first c.args.arms.now c.loop-left.left (omega (arith, c.loop-left-test.false)) c.loop-left.invariant.begun) c.loop-left.invariant.made

pub lower_stmt-returns-in-If-clause-made : goal.lower_stmt-returns-in-If-clause-made
lower_stmt-returns-in-If-clause-made t c =
    let b = c.args.b.now in
    let start = code_of c.args.u.now c.args.rest.0 in
    let P : List Arm → Type 0 = λ l. IfOk c.lower_if.result (λ code. (after : Block) (tail : Code) → start ≡ lower (form_in b) (points_by b.numbers) after tail → HasCode c.lower_if.new.u code.0 (lower (form_in b) (points_by b.numbers) (if_in b.nodes c.args.s l c.in-If.otherwise after) tail)) in
    if_stmt b.nodes (form_in b) b.numbers c.typed.ensures.kept c.args.s c.requires.within c.lower_if.new.u start c.in-If.arms c.in-If.otherwise c.lower_if.result
    (stmt_seen _ b.nodes c.args.s.0 _ _ c.typed.ensures.same c.stmt.ensures.node c.in-If.is) (subst P c.as_slice.ensures c.lower_if.ensures.made)

pub lower_stmt-returns-in-While-clause-made : goal.lower_stmt-returns-in-While-clause-made
lower_stmt-returns-in-While-clause-made t c =
    let b = c.args.b.now in
    while_stmt b.nodes (form_in b) b.numbers c.typed.ensures.kept c.args.s c.requires.within c.lower_while.new.u (code_of c.args.u.now c.args.rest.0) c.in-While.head c.in-While.body c.lower_while.result
    (stmt_seen _ b.nodes c.args.s.0 _ _ c.typed.ensures.same c.stmt.ensures.node c.in-While.is) c.lower_while.ensures.made

pub lower_stmt-returns-in_default : goal.lower_stmt-returns-in_default
lower_stmt-returns-in_default t c =
    let b = c.args.b.now in
    let simple : is_simple c.stmt.result.now ≡ true = search rules in
    record {
      grows = c.lower_simple.ensures.grows;
      made = simple_stmt b.nodes (form_in b) b.numbers c.typed.ensures.kept c.args.s c.requires.within c.lower_simple.new.u (code_of c.args.u.now c.args.rest.0) c.stmt.result.now c.lower_simple.result
          (stmt_seen _ b.nodes c.args.s.0 _ _ c.typed.ensures.same c.stmt.ensures.node refl) simple c.lower_simple.ensures.made;
    }

pub lower_while-behind_loop-requires-clause-known : goal.lower_while-behind_loop-requires-clause-known
lower_while-behind_loop-requires-clause-known t c = more_below c.args.w.0 _ (omega (arith, c.requires.within)) c.args.body.now.items c.requires.below

pub lower_while-end_of_body-requires : goal.lower_while-end_of_body-requires
lower_while-end_of_body-requires t c = record { known = more_below c.args.w.0 _ (omega (arith, c.requires.within)) c.args.body.now.items c.requires.below }

pub lower_while-returns-in_err-test-clause-grows : goal.lower_while-returns-in_err-test-clause-grows
lower_while-returns-in_err-test-clause-grows t c = grows_on (grows_on (grows_on c.behind_loop.ensures.grows c.end_of_body.ensures.grows) c.lower_within.ensures.grows) c.condition_on.ensures.grows

pub lower_while-put_stmt-requires : goal.lower_while-put_stmt-requires
lower_while-put_stmt-requires t c =
    let grows = grows_on (grows_on c.end_of_body.ensures.grows c.lower_within.ensures.grows) c.condition_on.ensures.grows in (
      c.in_ok-test.ensures.made.there,
      c.condition_on.ensures.grows.more_stmts c.in_ok-code.code.0 c.in_ok-code.ensures.made.there,
      grows.more_stmts c.in_ok-rest.rest.0 c.in_ok-rest.ensures.made.there,
    )

pub lower_while-returns-clause-grows : goal.lower_while-returns-clause-grows
lower_while-returns-clause-grows t c =
    grows_on (grows_on (grows_on (grows_on c.behind_loop.ensures.grows c.end_of_body.ensures.grows) c.lower_within.ensures.grows) c.condition_on.ensures.grows) c.put_stmt.ensures.grows

pub lower_within-loop-left-preserved : goal.lower_within-loop-left-preserved
lower_within-loop-left-preserved t c =
    let b = c.args.b.now in
    record {
      within = omega (arith, c.loop-left.invariant.within);
      grows = grows_on c.loop-left.invariant.grows c.lower_stmt.ensures.grows;
      made = block_step b.nodes (form_in b) b.numbers _ c.loop-left.left (c.loop-left.left - 1) _ _ (omega (arith, c.loop-left-test.true)) c.loop-left.invariant.within c.loop-left.invariant.made c.in_ok-code.ensures.made;
    }
