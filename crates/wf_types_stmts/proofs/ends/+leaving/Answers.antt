use Rattle.std.proofs.Common.{◌≡◌, ◌<◌, List, length, sym, ap, subst, arith}
use Rattle.std.specs.List.{AllByRecursion}
use Rattle.wf_ast.specs.declared.numbers.StmtId.{StmtId}
use Rattle.wf_ast.specs.declared.parsed.Arm.{Arm}
use Rattle.wf_ast.specs.ParsedParts.{BlockBelow}
use Rattle.wf_ast.specs.Above.{above_stmts}
use Rattle.wf_ast.proofs.AboveLemmas.{block_above, else_above, arms_above, arms_more, stmt_at_place, arm_at_place}
use Rattle.wf_ast.proofs.TreeLemmas.{BlockBelow-more, ElseBelow-more}
use Rattle.wf_types_stmts.proofs.ends.+leaving.Goals as goal

pub stmt_leaves-arms_leave-requires : goal.stmt_leaves-arms_leave-requires
stmt_leaves-arms_leave-requires t c =
    let e = length c.args.nodes.now.exprs in
    let k = c.args.s.0 in
    let parts = rw c.in-If.is at c.stmt-node.ensures.parts in
    let arms : AllByRecursion (λ (a : Arm). (a.condition.0 < e) × BlockBelow k a.body) c.as_slice.result.now = rw c.as_slice.ensures parts.0 in
    let in_arms = arms_above e k c.as_slice.result.now arms in
    let in_else = else_above k c.in-If.otherwise parts.1 in (
      omega (arith, in_arms, in_else, c.decreases),
      (
        arms_more e k (length c.args.nodes.now.stmts) (omega (arith, c.requires.s)) c.as_slice.result.now arms,
        (ElseBelow-more k (length c.args.nodes.now.stmts) (omega (arith, c.requires.s)) c.in-If.otherwise parts.1, (omega (arith, in_arms, c.requires.few), omega (arith, in_else, c.requires.few))),
      ),
    )

pub stmt_leaves-block_leaves-requires : goal.stmt_leaves-block_leaves-requires
stmt_leaves-block_leaves-requires t c =
    let k = c.args.s.0 in
    let parts = rw c.in-While.is at c.stmt-node.ensures.parts in
    let inside = block_above k c.in-While.body parts.2 in (
      omega (arith, inside, c.decreases),
      (BlockBelow-more k (length c.args.nodes.now.stmts) (omega (arith, c.requires.s)) c.in-While.body parts.2, omega (arith, inside, c.requires.few, c.further.ensures)),
    )

pub block_leaves-stmt_leaves-requires : goal.block_leaves-stmt_leaves-requires
block_leaves-stmt_leaves-requires t c =
    let below : AllByRecursion (λ (s : StmtId). s.0 < length c.args.nodes.now.stmts) c.as_slice-s-items.result.now =
    let P : List StmtId → Type 0 = λ ss. AllByRecursion (λ s. s.0 < length c.args.nodes.now.stmts) ss in subst P (sym c.as_slice-s-items.ensures) c.requires.block in
    let place = stmt_at_place (length c.args.nodes.now.stmts) c.as_slice-s-items.result.now c.loop-s.s-index (record { 0 = 0 }) c.loop-s-test.true below in
    let same : above_stmts c.as_slice-s-items.result.now ≡ above_stmts c.args.block.now.items = ap above_stmts c.as_slice-s-items.ensures in
    (omega (arith, place.0, same, c.decreases), (place.1, omega (arith, place.0, same, c.requires.few)))

pub arms_leave-block_leaves-requires : goal.arms_leave-block_leaves-requires
arms_leave-block_leaves-requires t c =
    let place = arm_at_place (length c.args.nodes.now.exprs) (length c.args.nodes.now.stmts) c.args.arms.now c.loop-arm.arm-index c.arm-item.result c.arm-item.is c.loop-arm-test.true c.requires.arms in
    (omega (arith, place.0, c.decreases), (place.1.1, omega (arith, place.0, c.requires.few_in_arms)))
