use Rattle.std.proofs.Common.{◌≡◌, ◌<◌, ◌≤◌, ◌∙◌, List, length, sym, ap, subst, arith}
use Rattle.std.specs.List.{AllByRecursion}
use Rattle.wf_ast.specs.declared.numbers.StmtId.{StmtId}
use Rattle.wf_ast.specs.declared.parsed.Arm.{Arm}
use Rattle.wf_ast.specs.ParsedTrees.{expr_trees, expr_at, stmt_trees, block_at, else_at, target_at, call_at, via_at, clauses_at}
use Rattle.wf_ast.specs.ParsedParts.{BlockBelow}
use Rattle.wf_ast.specs.Above.{above_stmts}
use Rattle.wf_ast.proofs.TreeLemmas.{BlockBelow-more, ElseBelow-more}
use Rattle.wf_ast.proofs.AboveLemmas.{stmts_above, else_above, arms_above, arms_more, stmt_at_place, arm_at_place}
use Rattle.wf_names_rules.specs.Uses.{uses_of, call_uses, target_uses, clause_uses, block_uses, via_uses}
use Rattle.wf_names_rules.specs.Here.{known_here}
use Rattle.wf_names_rules.proofs.StmtLemmas.{ok_append, ok_append_more, stmt_step, arm_step}
use Rattle.wf_names_rules.proofs.JumpLemmas.{stmt_jumps_step, arm_jumps_step}
use Rattle.wf_names_rules.proofs.CalledLemmas.{row_append, row_append_more, row_stmt_step, row_arm_step}
use Rattle.wf_names_rules.proofs.walk_stmts.+walk_stmts.Goals as goal

pub walk_arm-returns-clause-seen : goal.walk_arm-returns-clause-seen
walk_arm-returns-clause-seen t c =
    let k = known_here c.args.here.now in
    let condition = uses_of (expr_at (expr_trees c.args.here.now.parsed.now.exprs) c.args.arm.now.condition) in
    let body = block_uses (block_at (stmt_trees c.args.here.now.parsed.now.exprs c.args.here.now.parsed.now.stmts) c.args.arm.now.body) in
    ok_append k c.args.seen.now c.walk_expr.new.seen condition body c.walk_block.result c.walk_block.new.seen c.in_ok-walk_expr.ensures.seen c.walk_block.ensures.seen

pub walk_arms-walk_arm-requires : goal.walk_arms-walk_arm-requires
walk_arms-walk_arm-requires t c =
    let place = arm_at_place (length c.args.here.now.parsed.now.exprs) (length c.args.here.now.parsed.now.stmts) c.args.arms.now c.loop-arm.arm-index c.arm-item.result c.arm-item.is c.loop-arm-test.true c.requires.arms in
    (omega (arith, place.0, c.decreases), place.1)

pub walk_arms-loop-arm-preserved : goal.walk_arms-loop-arm-preserved
walk_arms-loop-arm-preserved t c =
    let k = known_here c.args.here.now in
    let es = expr_trees c.args.here.now.parsed.now.exprs in
    let ts = stmt_trees c.args.here.now.parsed.now.exprs c.args.here.now.parsed.now.stmts in
    let last = else_at ts c.args.otherwise.now in (
      arm_step k c.loop-arm.seen _ es ts c.args.arms.now last c.loop-arm.arm-index c.arm-item.result c.arm-item.is c.loop-arm-test.true c.in_ok-walk_arm.ensures.seen ∙ c.loop-arm.invariant.0,
      row_arm_step k c.loop-arm.gathered.row c.walk_arm.new.gathered.row es ts c.args.arms.now last c.loop-arm.arm-index c.arm-item.result c.arm-item.is c.loop-arm-test.true c.in_ok-walk_arm.ensures.row ∙ c.loop-arm.invariant.1,
      arm_jumps_step c.args.here.now.parsed.now.texts c.loop-arm.gathered.labels _ c.args.gathered.now.loops.items es ts c.args.arms.now last c.loop-arm.arm-index c.arm-item.result c.arm-item.is c.loop-arm-test.true
          (rw c.loop-arm.invariant.3 at c.in_ok-walk_arm.ensures.labels) ∙ c.loop-arm.invariant.2,
      c.in_ok-walk_arm.ensures.loops ∙ c.loop-arm.invariant.3,
    )

pub walk_block-walk_stmt-requires : goal.walk_block-walk_stmt-requires
walk_block-walk_stmt-requires t c =
    let below : AllByRecursion (λ (s : StmtId). s.0 < length c.args.here.now.parsed.now.stmts) c.as_slice-s-items.result.now =
    let P : List StmtId → Type 0 = λ ss. AllByRecursion (λ s. s.0 < length c.args.here.now.parsed.now.stmts) ss in subst P (sym c.as_slice-s-items.ensures) c.requires in
    let place = stmt_at_place (length c.args.here.now.parsed.now.stmts) c.as_slice-s-items.result.now c.loop-s.s-index (record { 0 = 0 }) c.loop-s-test.true below in
    let same : above_stmts c.as_slice-s-items.result.now ≡ above_stmts c.args.block.now.items = ap above_stmts c.as_slice-s-items.ensures in
    (omega (arith, place.0, same, c.decreases), place.1)

pub walk_block-loop-s-preserved : goal.walk_block-loop-s-preserved
walk_block-loop-s-preserved t c =
    let k = known_here c.args.here.now in
    let ts = stmt_trees c.args.here.now.parsed.now.exprs c.args.here.now.parsed.now.stmts in
    let inside : c.loop-s.s-index < length c.args.block.now.items = rw (← c.as_slice-s-items.ensures) c.loop-s-test.true in
    let seen = rw c.as_slice-s-items.ensures at c.in_ok-walk_stmt.ensures.seen in
    let row = rw c.as_slice-s-items.ensures at c.in_ok-walk_stmt.ensures.row in (
      stmt_step k c.loop-s.seen _ ts c.args.block.now.items c.args.block.now.close c.loop-s.s-index (record { 0 = 0 }) inside seen ∙ c.loop-s.invariant.0,
      row_stmt_step k c.loop-s.gathered.row c.walk_stmt.new.gathered.row ts c.args.block.now.items c.args.block.now.close c.loop-s.s-index (record { 0 = 0 }) inside row ∙ c.loop-s.invariant.1,
      stmt_jumps_step c.args.here.now.parsed.now.texts c.loop-s.gathered.labels _ c.args.gathered.now.loops.items ts c.args.block.now.items c.args.block.now.close c.loop-s.s-index (record { 0 = 0 }) inside
          (rw (c.as_slice-s-items.ensures, c.loop-s.invariant.3) at c.in_ok-walk_stmt.ensures.labels) ∙ c.loop-s.invariant.2,
      c.in_ok-walk_stmt.ensures.loops ∙ c.loop-s.invariant.3,
    )

pub walk_stmt-walk_arms-requires : goal.walk_stmt-walk_arms-requires
walk_stmt-walk_arms-requires t c =
    let parts = rw c.in-If.is at c.stmt-node.ensures.parts in
    let arms : AllByRecursion (λ (a : Arm). (a.condition.0 < length c.args.here.now.parsed.now.exprs) × BlockBelow c.args.s.0 a.body) c.as_slice.result.now = rw c.as_slice.ensures parts.0 in
    let more : c.args.s.0 ≤ length c.args.here.now.parsed.now.stmts = omega (arith, c.requires) in
    let first = arms_above (length c.args.here.now.parsed.now.exprs) c.args.s.0 c.as_slice.result.now arms in
    let second = else_above c.args.s.0 c.in-If.otherwise parts.1 in (
      omega (arith, first, second, c.decreases),
      (arms_more (length c.args.here.now.parsed.now.exprs) c.args.s.0 (length c.args.here.now.parsed.now.stmts) more c.as_slice.result.now arms, ElseBelow-more c.args.s.0 (length c.args.here.now.parsed.now.stmts) more c.in-If.otherwise parts.1),
    )

pub walk_stmt-walk_loop-requires : goal.walk_stmt-walk_loop-requires
walk_stmt-walk_loop-requires t c =
    let parts = rw c.in-While.is at c.stmt-node.ensures.parts in
    let more : c.args.s.0 ≤ length c.args.here.now.parsed.now.stmts = omega (arith, c.requires) in
    (omega (arith, stmts_above c.args.s.0 c.in-While.body.items parts.2, c.decreases), BlockBelow-more c.args.s.0 (length c.args.here.now.parsed.now.stmts) more c.in-While.body parts.2)

pub walk_stmt-returns-in_ok-walk_target-in-Assign-clause-seen : goal.walk_stmt-returns-in_ok-walk_target-in-Assign-clause-seen
walk_stmt-returns-in_ok-walk_target-in-Assign-clause-seen t c =
    let k = known_here c.args.here.now in
    let es = expr_trees c.args.here.now.parsed.now.exprs in
    rw (c.stmt-node.ensures.made, c.in-Assign.is)
    (ok_append k c.args.seen.now c.walk_target.new.seen (target_uses (target_at es c.in-Assign.target)) (uses_of (expr_at es c.in-Assign.value)) c.walk_expr.result c.walk_expr.new.seen c.in_ok-walk_target-in-Assign.ensures.seen c.walk_expr.ensures.seen)

pub walk_stmt-returns-in_ok-walk_target-in-Keep-clause-seen : goal.walk_stmt-returns-in_ok-walk_target-in-Keep-clause-seen
walk_stmt-returns-in_ok-walk_target-in-Keep-clause-seen t c =
    let k = known_here c.args.here.now in
    let es = expr_trees c.args.here.now.parsed.now.exprs in
    rw (c.stmt-node.ensures.made, c.in-Keep.is)
    (ok_append k c.args.seen.now c.walk_target-in-Keep.new.seen (target_uses (target_at es c.in-Keep.target)) (call_uses (call_at es c.in-Keep.call)) c.walk_call.result c.walk_call.new.seen c.in_ok-walk_target-in-Keep.ensures.seen c.walk_call.ensures.seen)

pub walk_stmt-returns-in_ok-walk_head-in-While-clause-seen : goal.walk_stmt-returns-in_ok-walk_head-in-While-clause-seen
walk_stmt-returns-in_ok-walk_head-in-While-clause-seen t c =
    let k = known_here c.args.here.now in
    let es = expr_trees c.args.here.now.parsed.now.exprs in
    let ts = stmt_trees c.args.here.now.parsed.now.exprs c.args.here.now.parsed.now.stmts in
    let head = rw c.as_slice-in-While.ensures at c.in_ok-walk_head-in-While.ensures.seen in
    rw (c.stmt-node.ensures.made, c.in-While.is)
    (ok_append_more k c.args.seen.now c.walk_head.new.seen (uses_of (expr_at es c.in-While.condition)) (clause_uses (clauses_at es c.in-While.clauses)) (block_uses (block_at ts c.in-While.body)) c.walk_loop.result c.walk_loop.new.seen head c.walk_loop.ensures.seen)

pub walk_stmt-returns-in_ok-walk_expr-in-Assert-clause-seen : goal.walk_stmt-returns-in_ok-walk_expr-in-Assert-clause-seen
walk_stmt-returns-in_ok-walk_expr-in-Assert-clause-seen t c =
    let k = known_here c.args.here.now in
    let es = expr_trees c.args.here.now.parsed.now.exprs in
    rw (c.stmt-node.ensures.made, c.in-Assert.is)
    (ok_append k c.args.seen.now c.walk_expr-in-Assert.new.seen (uses_of (expr_at es c.in-Assert.goal)) (via_uses (via_at es c.in-Assert.via)) c.walk_via.result c.walk_via.new.seen c.in_ok-walk_expr-in-Assert.ensures.seen c.walk_via.ensures.seen)

pub walk_arm-returns-clause-row : goal.walk_arm-returns-clause-row
walk_arm-returns-clause-row t c =
    let k = known_here c.args.here.now in
    let condition = uses_of (expr_at (expr_trees c.args.here.now.parsed.now.exprs) c.args.arm.now.condition) in
    let body = block_uses (block_at (stmt_trees c.args.here.now.parsed.now.exprs c.args.here.now.parsed.now.stmts) c.args.arm.now.body) in
    row_append k c.args.gathered.now.row c.walk_expr.new.row condition body c.walk_block.result c.walk_block.new.gathered.row c.in_ok-walk_expr.ensures.row c.walk_block.ensures.row

pub walk_stmt-returns-in_ok-walk_target-in-Assign-clause-row : goal.walk_stmt-returns-in_ok-walk_target-in-Assign-clause-row
walk_stmt-returns-in_ok-walk_target-in-Assign-clause-row t c =
    let k = known_here c.args.here.now in
    let es = expr_trees c.args.here.now.parsed.now.exprs in
    rw (c.stmt-node.ensures.made, c.in-Assign.is)
    (row_append k c.args.gathered.now.row c.walk_target.new.row (target_uses (target_at es c.in-Assign.target)) (uses_of (expr_at es c.in-Assign.value)) c.walk_expr.result c.walk_expr.new.row c.in_ok-walk_target-in-Assign.ensures.row c.walk_expr.ensures.row)

pub walk_stmt-returns-in_ok-walk_target-in-Keep-clause-row : goal.walk_stmt-returns-in_ok-walk_target-in-Keep-clause-row
walk_stmt-returns-in_ok-walk_target-in-Keep-clause-row t c =
    let k = known_here c.args.here.now in
    let es = expr_trees c.args.here.now.parsed.now.exprs in
    rw (c.stmt-node.ensures.made, c.in-Keep.is)
    (row_append k c.args.gathered.now.row c.walk_target-in-Keep.new.row (target_uses (target_at es c.in-Keep.target)) (call_uses (call_at es c.in-Keep.call)) c.walk_call.result c.walk_call.new.row c.in_ok-walk_target-in-Keep.ensures.row c.walk_call.ensures.row)

pub walk_stmt-returns-in_ok-walk_head-in-While-clause-row : goal.walk_stmt-returns-in_ok-walk_head-in-While-clause-row
walk_stmt-returns-in_ok-walk_head-in-While-clause-row t c =
    let k = known_here c.args.here.now in
    let es = expr_trees c.args.here.now.parsed.now.exprs in
    let ts = stmt_trees c.args.here.now.parsed.now.exprs c.args.here.now.parsed.now.stmts in
    let head = rw c.as_slice-in-While.ensures at c.in_ok-walk_head-in-While.ensures.row in
    rw (c.stmt-node.ensures.made, c.in-While.is)
    (row_append_more k c.args.gathered.now.row c.walk_head.new.row (uses_of (expr_at es c.in-While.condition)) (clause_uses (clauses_at es c.in-While.clauses)) (block_uses (block_at ts c.in-While.body)) c.walk_loop.result c.walk_loop.new.gathered.row head c.walk_loop.ensures.row)

pub walk_stmt-returns-in_ok-walk_expr-in-Assert-clause-row : goal.walk_stmt-returns-in_ok-walk_expr-in-Assert-clause-row
walk_stmt-returns-in_ok-walk_expr-in-Assert-clause-row t c =
    let k = known_here c.args.here.now in
    let es = expr_trees c.args.here.now.parsed.now.exprs in
    rw (c.stmt-node.ensures.made, c.in-Assert.is)
    (row_append k c.args.gathered.now.row c.walk_expr-in-Assert.new.row (uses_of (expr_at es c.in-Assert.goal)) (via_uses (via_at es c.in-Assert.via)) c.walk_via.result c.walk_via.new.row c.in_ok-walk_expr-in-Assert.ensures.row c.walk_via.ensures.row)
