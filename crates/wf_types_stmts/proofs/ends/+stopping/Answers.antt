use Rattle.std.proofs.Common.{◌≡◌, ◌<◌, List, length, sym, ap, subst, arith}
use Rattle.std.specs.List.{AllByRecursion}
use Rattle.wf_ast.specs.declared.numbers.StmtId.{StmtId}
use Rattle.wf_ast.specs.declared.parsed.Arm.{Arm}
use Rattle.wf_ast.specs.ParsedParts.{BlockBelow}
use Rattle.wf_ast.specs.Above.{above_stmts}
use Rattle.wf_ast.proofs.AboveLemmas.{else_above, arms_above, arms_more, stmt_at_place, arm_at_place}
use Rattle.wf_ast.proofs.TreeLemmas.{ElseBelow-more}
use Rattle.wf_types_stmts.proofs.ends.+stopping.Goals as goal

pub stmt_stops-arms_stop-requires : goal.stmt_stops-arms_stop-requires
stmt_stops-arms_stop-requires t c =
    let e = length c.args.nodes.now.exprs in
    let k = c.args.s.0 in
    let parts = rw c.in-If.is at c.stmt-node.ensures.parts in
    let arms : AllByRecursion (λ (a : Arm). (a.condition.0 < e) × BlockBelow k a.body) c.as_slice.result.now = rw c.as_slice.ensures parts.0 in (
      omega (arith, arms_above e k c.as_slice.result.now arms, else_above k c.in-If.otherwise parts.1, c.decreases),
      (arms_more e k (length c.args.nodes.now.stmts) (omega (arith, c.requires)) c.as_slice.result.now arms, ElseBelow-more k (length c.args.nodes.now.stmts) (omega (arith, c.requires)) c.in-If.otherwise parts.1),
    )

pub block_stops-stmt_stops-requires : goal.block_stops-stmt_stops-requires
block_stops-stmt_stops-requires t c =
    let below : AllByRecursion (λ (s : StmtId). s.0 < length c.args.nodes.now.stmts) c.as_slice-s-items.result.now =
    let P : List StmtId → Type 0 = λ ss. AllByRecursion (λ s. s.0 < length c.args.nodes.now.stmts) ss in subst P (sym c.as_slice-s-items.ensures) c.requires in
    let place = stmt_at_place (length c.args.nodes.now.stmts) c.as_slice-s-items.result.now c.loop-s.s-index (record { 0 = 0 }) c.loop-s-test.true below in
    let same : above_stmts c.as_slice-s-items.result.now ≡ above_stmts c.args.block.now.items = ap above_stmts c.as_slice-s-items.ensures in
    (omega (arith, place.0, same, c.decreases), place.1)

pub arms_stop-block_stops-requires : goal.arms_stop-block_stops-requires
arms_stop-block_stops-requires t c =
    let place = arm_at_place (length c.args.nodes.now.exprs) (length c.args.nodes.now.stmts) c.args.arms.now c.loop-arm.arm-index c.arm-item.result c.arm-item.is c.loop-arm-test.true c.requires.arms in
    (omega (arith, place.0, c.decreases), place.1.1)
