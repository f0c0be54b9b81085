use Rattle.std.proofs.Common.{◌≡◌, ◌<◌, ◌∙◌, List, [], Option, OnOk, length, drop, sym, ap, subst, arith}
use Rattle.std.specs.List.{AllByRecursion}
use Rattle.std.proofs.lemmas.List.{drop_all}
use Rattle.wf_text.specs.declared.rules.Refusal.{Refusal}
use Rattle.wf_ast.specs.declared.numbers.StmtId.{StmtId}
use Rattle.wf_ast.specs.declared.parsed.Arm.{Arm}
use Rattle.wf_ast.specs.ParsedParts.{BlockBelow}
use Rattle.wf_ast.specs.Above.{above_stmts}
use Rattle.wf_ast.proofs.AboveLemmas.{block_above, else_above, arms_above, arms_more, stmt_at_place, arm_at_place}
use Rattle.wf_ast.proofs.TreeLemmas.{BlockBelow-more, ElseBelow-more}
use Rattle.wf_named.specs.NamedTrees.{expr_trees, stmt_trees, expr_at, clauses_at, items_at, block_at, else_at, arms_at}
use Rattle.wf_types_rules.specs.Parts.{condition_parts, clauses_parts, block_parts, arms_parts}
use Rattle.wf_types_exprs.specs.Judged.{judged}
use Rattle.wf_types_exprs.proofs.JudgedLaws.{judged-none}
use Rattle.wf_types_stmts.proofs.BlockLemmas.{two_parts, three_parts, stmt_next, arm_next}
use Rattle.wf_types_stmts.proofs.statements.+judge_stmts.Goals as goal

pub judge_stmt-judge_arms-requires : goal.judge_stmt-judge_arms-requires
judge_stmt-judge_arms-requires t c =
    let e = length c.args.here.now.nodes.now.exprs in
    let k = c.args.s.0 in
    let parts = rw c.in-If.is at c.stmt-node.ensures.parts in
    let arms : AllByRecursion (λ (a : Arm). (a.condition.0 < e) × BlockBelow k a.body) c.as_slice.result.now = rw c.as_slice.ensures parts.0 in (
      omega (arith, arms_above e k c.as_slice.result.now arms, else_above k c.in-If.otherwise parts.1, c.decreases),
      (arms_more e k (length c.args.here.now.nodes.now.stmts) (omega (arith, c.requires)) c.as_slice.result.now arms, ElseBelow-more k (length c.args.here.now.nodes.now.stmts) (omega (arith, c.requires)) c.in-If.otherwise parts.1),
    )

pub judge_stmt-returns-in-If : goal.judge_stmt-returns-in-If
judge_stmt-returns-in-If t c = rw (c.stmt-node.ensures.made, c.in-If.is) (rw c.as_slice.ensures at c.judge_arms.ensures)

pub judge_stmt-judge_block-requires : goal.judge_stmt-judge_block-requires
judge_stmt-judge_block-requires t c =
    let k = c.args.s.0 in
    let parts = rw c.in-While.is at c.stmt-node.ensures.parts in
    (omega (arith, block_above k c.in-While.body parts.2, c.decreases), BlockBelow-more k (length c.args.here.now.nodes.now.stmts) (omega (arith, c.requires)) c.in-While.body parts.2)

pub judge_stmt-returns-in_ok-judge_head-in-While : goal.judge_stmt-returns-in_ok-judge_head-in-While
judge_stmt-returns-in_ok-judge_head-in-While t c =
    let s = c.args.here.now.around.now in
    let es = expr_trees c.args.here.now.nodes.now.exprs in
    let ts = stmt_trees c.args.here.now.nodes.now.texts c.args.here.now.nodes.now.exprs c.args.here.now.nodes.now.stmts in
    let xs = condition_parts (expr_at es c.in-While.condition) in
    let ys = clauses_parts (clauses_at es c.in-While.clauses) in
    let zs = block_parts (block_at ts c.in-While.body) in
    let head = rw c.as_slice-in-While.ensures at c.in_ok-judge_head-in-While.ensures in
    let P : Option Refusal → Type 0 = λ x. OnOk c.judge_block.result (c.judge_block.new.found ≡ x) in
    rw (c.stmt-node.ensures.made, c.in-While.is) (subst P (three_parts s c.args.found.now c.judge_head.new.found xs ys zs head) c.judge_block.ensures)

pub judge_stmt-returns-in-Break : goal.judge_stmt-returns-in-Break
judge_stmt-returns-in-Break t c = rw (c.stmt-node.ensures.made, c.in-Break.is) (judged-none c.args.here.now.around.now c.args.found.now)

pub judge_stmt-returns-in-Continue : goal.judge_stmt-returns-in-Continue
judge_stmt-returns-in-Continue t c = rw (c.stmt-node.ensures.made, c.in-Continue.is) (judged-none c.args.here.now.around.now c.args.found.now)

pub judge_block-judge_stmt-requires : goal.judge_block-judge_stmt-requires
judge_block-judge_stmt-requires t c =
    let below : AllByRecursion (λ (s : StmtId). s.0 < length c.args.here.now.nodes.now.stmts) c.as_slice-s-items.result.now =
    let P : List StmtId → Type 0 = λ ss. AllByRecursion (λ s. s.0 < length c.args.here.now.nodes.now.stmts) ss in subst P (sym c.as_slice-s-items.ensures) c.requires in
    let place = stmt_at_place (length c.args.here.now.nodes.now.stmts) c.as_slice-s-items.result.now c.loop-s.s-index (record { 0 = 0 }) c.loop-s-test.true below in
    let same : above_stmts c.as_slice-s-items.result.now ≡ above_stmts c.args.block.now.items = ap above_stmts c.as_slice-s-items.ensures in
    (omega (arith, place.0, same, c.decreases), place.1)

pub judge_block-loop-s-preserved : goal.judge_block-loop-s-preserved
judge_block-loop-s-preserved t c =
    let ts = stmt_trees c.args.here.now.nodes.now.texts c.args.here.now.nodes.now.exprs c.args.here.now.nodes.now.stmts in
    let l = c.loop-s in
    let inside : l.s-index < length c.args.block.now.items = rw (← c.as_slice-s-items.ensures) c.loop-s-test.true in
    let one = rw c.as_slice-s-items.ensures at c.in_ok-judge_stmt.ensures in
    stmt_next ts c.args.block.now.items c.args.block.now.close l.s-index (record { 0 = 0 }) inside c.args.here.now.around.now l.found _ one ∙ l.invariant

pub judge_block-returns : goal.judge_block-returns
judge_block-returns t c =
    let s = c.args.here.now.around.now in
    let ts = stmt_trees c.args.here.now.nodes.now.texts c.args.here.now.nodes.now.exprs c.args.here.now.nodes.now.stmts in
    let items = c.args.block.now.items in
    let l = c.loop-s in
    let over : drop l.s-index items ≡ [] = drop_all l.s-index items (omega (arith, c.loop-s-test.false, ap length c.as_slice-s-items.ensures)) in
    judged-none s l.found ∙ sym (ap (λ ss. judged s l.found (block_parts (items_at ts ss c.args.block.now.close))) over) ∙ l.invariant

pub judge_arm-returns : goal.judge_arm-returns
judge_arm-returns t c =
    let s = c.args.here.now.around.now in
    let xs = condition_parts (expr_at (expr_trees c.args.here.now.nodes.now.exprs) c.args.arm.now.condition) in
    let ys = block_parts (block_at (stmt_trees c.args.here.now.nodes.now.texts c.args.here.now.nodes.now.exprs c.args.here.now.nodes.now.stmts) c.args.arm.now.body) in
    let P : Option Refusal → Type 0 = λ x. OnOk c.judge_block.result (c.judge_block.new.found ≡ x) in
    subst P (two_parts s c.args.found.now c.judge_condition.new.found xs ys c.in_ok-judge_condition.ensures) c.judge_block.ensures

pub judge_else-returns-in-None : goal.judge_else-returns-in-None
judge_else-returns-in-None t c = rw c.in-None.is (judged-none c.args.here.now.around.now c.args.found.now)

pub judge_arms-judge_arm-requires : goal.judge_arms-judge_arm-requires
judge_arms-judge_arm-requires t c =
    let place = arm_at_place (length c.args.here.now.nodes.now.exprs) (length c.args.here.now.nodes.now.stmts) c.args.arms.now c.loop-arm.arm-index c.arm-item.result c.arm-item.is c.loop-arm-test.true c.requires.arms in
    (omega (arith, place.0, c.decreases), place.1)

pub judge_arms-loop-arm-preserved : goal.judge_arms-loop-arm-preserved
judge_arms-loop-arm-preserved t c =
    let es = expr_trees c.args.here.now.nodes.now.exprs in
    let ts = stmt_trees c.args.here.now.nodes.now.texts c.args.here.now.nodes.now.exprs c.args.here.now.nodes.now.stmts in
    let l = c.loop-arm in
    arm_next es ts (else_at ts c.args.otherwise.now) c.args.arms.now l.arm-index c.arm-item.result c.arm-item.is c.loop-arm-test.true c.args.here.now.around.now l.found _ c.in_ok-judge_arm.ensures ∙ l.invariant

pub judge_arms-returns : goal.judge_arms-returns
judge_arms-returns t c =
    let s = c.args.here.now.around.now in
    let es = expr_trees c.args.here.now.nodes.now.exprs in
    let ts = stmt_trees c.args.here.now.nodes.now.texts c.args.here.now.nodes.now.exprs c.args.here.now.nodes.now.stmts in
    let last = else_at ts c.args.otherwise.now in
    let l = c.loop-arm in
    let over : drop l.arm-index c.args.arms.now ≡ [] = drop_all l.arm-index c.args.arms.now (omega (arith, c.loop-arm-test.false)) in
    let P : Option Refusal → Type 0 = λ x. OnOk c.judge_else.result (c.judge_else.new.found ≡ x) in
    subst P (sym (ap (λ xs. judged s l.found (arms_parts (arms_at es ts xs last))) over) ∙ l.invariant) c.judge_else.ensures
