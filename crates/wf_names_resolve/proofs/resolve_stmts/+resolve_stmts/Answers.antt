use Rattle.std.proofs.Common.{◌≡◌, ◌<◌, ◌∙◌, List, [], Some, length, drop, refl, sym, ap, subst, arith}
use Rattle.std.specs.List.{AllByRecursion}
use Rattle.std.proofs.lemmas.List.{drop_all}
use Rattle.wf_ast.specs.declared.numbers.StmtId.{StmtId}
use Rattle.wf_ast.specs.declared.parsed.LoopClause.{LoopClause}
use Rattle.wf_ast.specs.ParsedTrees.{expr_trees, stmt_trees}
use Rattle.wf_ast.specs.Above.{above_stmts, above_arms}
use Rattle.wf_ast.proofs.AboveLemmas.{stmt_at_place, arm_at_place}
use Rattle.wf_named.specs.NamedTree as tree
use Rattle.wf_named.specs.NamedTrees.{arms_at}
use Rattle.wf_named.specs.NamedParts.{exprs_of, stmts_of}
use Rattle.wf_names_resolve.specs.Standing.{standing_here}
use Rattle.wf_names_resolve.specs.Resolved.{resolved_stmt}
use Rattle.wf_names_resolve.specs.Statements.{stmt_in, ArmsBelow, above_stmt}
use Rattle.wf_names_resolve.proofs.Growth.{grows_self, grows_more, ok_grows, ok_is, ok_still, expr_kept}
use Rattle.wf_names_resolve.proofs.StmtLemmas.{clauses_more, clauses_kept}
use Rattle.wf_names_resolve.proofs.BlockLemmas.{stmt_above, stmt_more, arms_below, arms_kept, loop_made, stmts_start, arms_start, stmt_added, arm_added, stmts_all_made, arms_all_made}
use Rattle.wf_names_resolve.proofs.resolve_stmts.+resolve_stmts.Goals as goal

pub resolve_stmt-resolve_parts-requires : goal.resolve_stmt-resolve_parts-requires
resolve_stmt-resolve_parts-requires t c =
    let node = c.stmt-node.result.now.stmt in
    (omega (arith, stmt_above (length c.args.here.now.parsed.now.exprs) c.args.s.0 node c.stmt-node.ensures.parts, c.decreases), stmt_more (length c.args.here.now.parsed.now.exprs) c.args.s.0 (length c.args.here.now.parsed.now.stmts) (omega (arith, c.requires)) node c.stmt-node.ensures.parts)

pub resolve_stmt-returns-clause-grows : goal.resolve_stmt-returns-clause-grows
resolve_stmt-returns-clause-grows t c =
    ok_grows c.args.nodes.now c.resolve_parts.new.nodes c.put_made.new.nodes c.put_made.result c.in_ok-stmt.ensures.grows c.put_made.ensures.grows

pub resolve_stmt-returns-clause-labels : goal.resolve_stmt-returns-clause-labels
resolve_stmt-returns-clause-labels t c =
    ok_still c.put_made.result _ c.in_ok-stmt.ensures.labels

pub resolve_stmt-returns-clause-made : goal.resolve_stmt-returns-clause-made
resolve_stmt-returns-clause-made t c =
    let k = standing_here c.args.here.now in
    let es = expr_trees c.args.here.now.parsed.now.exprs in
    let ts = stmt_trees c.args.here.now.parsed.now.exprs c.args.here.now.parsed.now.stmts in
    let is = c.in_ok-stmt.ensures.made c.stmt-node.result.now.at ∙ ap (resolved_stmt k c.args.labels.now.items) (sym c.stmt-node.ensures.made) in
    ok_is (λ r. stmt_in (stmts_of c.put_made.new.nodes) r) _ _ c.put_made.result is c.put_made.ensures.made

pub resolve_parts-resolve_if-requires : goal.resolve_parts-resolve_if-requires
resolve_parts-resolve_if-requires t c =
    let parts = rw c.in-If.is at c.requires in
    let arms : ArmsBelow (length c.args.here.now.parsed.now.exprs) (length c.args.here.now.parsed.now.stmts) c.as_slice.result.now = rw c.as_slice.ensures parts.0 in
    let whole = ap above_stmt c.in-If.is in
    let same = ap above_arms c.as_slice.ensures in
    (omega (arith, c.decreases, whole, same), (arms, parts.1))

pub resolve_parts-returns-in_ok-stmt-in-If-clause-made : goal.resolve_parts-returns-in_ok-stmt-in-If-clause-made
resolve_parts-returns-in_ok-stmt-in-If-clause-made t c =
    λ at. rw c.in-If.is (ap Some (rw c.as_slice.ensures at (c.in_ok-stmt-in-If.ensures.made at)))

pub resolve_parts-resolve_loop-requires : goal.resolve_parts-resolve_loop-requires
resolve_parts-resolve_loop-requires t c =
    let parts = rw c.in-While.is at c.requires in
    let clauses : AllByRecursion (λ (x : LoopClause). x.condition.0 < length c.args.here.now.parsed.now.exprs) c.as_slice-in-While.result.now = rw c.as_slice-in-While.ensures parts.1 in
    let whole = ap above_stmt c.in-While.is in
    (omega (arith, c.decreases, whole), (parts.0, (clauses, parts.2)))

pub resolve_parts-returns-in_ok-stmt-in-While-clause-made : goal.resolve_parts-returns-in_ok-stmt-in-While-clause-made
resolve_parts-returns-in_ok-stmt-in-While-clause-made t c =
    λ at. rw c.in-While.is (ap Some (rw c.as_slice-in-While.ensures at (c.in_ok-stmt-in-While.ensures.made at)))

pub resolve_block-loop-s-init : goal.resolve_block-loop-s-init
resolve_block-loop-s-init t c =
    let k = standing_here c.args.here.now in
    let es = expr_trees c.args.here.now.parsed.now.exprs in
    let ts = stmt_trees c.args.here.now.parsed.now.exprs c.args.here.now.parsed.now.stmts in
    (stmts_start k c.args.labels.now.items es ts c.args.nodes.now c.args.block.now.close c.args.block.now.items c.new-made.result c.new-made.ensures, refl)

pub resolve_block-resolve_stmt-requires : goal.resolve_block-resolve_stmt-requires
resolve_block-resolve_stmt-requires t c =
    let below : AllByRecursion (λ (s : StmtId). s.0 < length c.args.here.now.parsed.now.stmts) c.as_slice-s-items.result.now =
    let P : List StmtId → Type 0 = λ ss. AllByRecursion (λ s. s.0 < length c.args.here.now.parsed.now.stmts) ss in subst P (sym c.as_slice-s-items.ensures) c.requires in
    let place = stmt_at_place (length c.args.here.now.parsed.now.stmts) c.as_slice-s-items.result.now c.loop-s.s-index (record { 0 = 0 }) c.loop-s-test.true below in
    let same : above_stmts c.as_slice-s-items.result.now ≡ above_stmts c.args.block.now.items = ap above_stmts c.as_slice-s-items.ensures in
    (omega (arith, place.0, same, c.decreases), place.1)

pub resolve_block-loop-s-preserved : goal.resolve_block-loop-s-preserved
resolve_block-loop-s-preserved t c =
    let k = standing_here c.args.here.now in
    let es = expr_trees c.args.here.now.parsed.now.exprs in
    let ts = stmt_trees c.args.here.now.parsed.now.exprs c.args.here.now.parsed.now.stmts in
    let inside : c.loop-s.s-index < length c.args.block.now.items = rw (← c.as_slice-s-items.ensures) c.loop-s-test.true in
    let one = rw (c.as_slice-s-items.ensures, c.loop-s.invariant.1) at c.in_ok-one.ensures.made in
    let added = stmt_added k c.args.labels.now.items es ts c.args.nodes.now c.loop-s.nodes c.resolve_stmt.new.nodes c.loop-s.s-index c.args.block.now.close c.args.block.now.items c.loop-s.made (record { 0 = 0 }) c.in_ok-one.one inside c.loop-s.invariant.0 c.in_ok-one.ensures.grows c.in_ok-one.ensures.below one in
    (rw c.in_ok-add_stmt.ensures added, c.in_ok-one.ensures.labels ∙ c.loop-s.invariant.1)

pub resolve_block-returns-clause-grows : goal.resolve_block-returns-clause-grows
resolve_block-returns-clause-grows t c =
    c.loop-s.invariant.0.grows

pub resolve_block-returns-clause-below : goal.resolve_block-returns-clause-below
resolve_block-returns-clause-below t c =
    c.loop-s.invariant.0.below

pub resolve_block-returns-clause-labels : goal.resolve_block-returns-clause-labels
resolve_block-returns-clause-labels t c =
    c.loop-s.invariant.1

pub resolve_block-returns-clause-made : goal.resolve_block-returns-clause-made
resolve_block-returns-clause-made t c =
    let k = standing_here c.args.here.now in
    let es = expr_trees c.args.here.now.parsed.now.exprs in
    let ts = stmt_trees c.args.here.now.parsed.now.exprs c.args.here.now.parsed.now.stmts in
    let items = c.args.block.now.items in
    let over : drop c.loop-s.s-index items ≡ [] = drop_all c.loop-s.s-index items (omega (arith, c.loop-s-test.false, ap length c.as_slice-s-items.ensures)) in
    stmts_all_made k c.args.labels.now.items es ts c.args.nodes.now c.loop-s.nodes c.loop-s.nodes c.loop-s.s-index c.args.block.now.close items c.loop-s.made over c.loop-s.invariant.0

pub resolve_arm-returns-clause-grows : goal.resolve_arm-returns-clause-grows
resolve_arm-returns-clause-grows t c =
    grows_more c.args.nodes.now c.resolve_expr.new.nodes c.resolve_block.new.nodes c.in_ok-condition.ensures.grows c.in_ok-body.ensures.grows

pub resolve_arm-returns-clause-below : goal.resolve_arm-returns-clause-below
resolve_arm-returns-clause-below t c =
    (omega (arith, c.in_ok-condition.ensures.below, c.in_ok-body.ensures.grows.exprs), c.in_ok-body.ensures.below)

pub resolve_arm-returns-clause-condition : goal.resolve_arm-returns-clause-condition
resolve_arm-returns-clause-condition t c =
    expr_kept c.resolve_expr.new.nodes c.resolve_block.new.nodes c.in_ok-body.ensures.grows c.in_ok-condition.condition c.in_ok-condition.ensures.below ∙ c.in_ok-condition.ensures.made

pub resolve_arms-loop-arm-init : goal.resolve_arms-loop-arm-init
resolve_arms-loop-arm-init t c =
    let k = standing_here c.args.here.now in
    let es = expr_trees c.args.here.now.parsed.now.exprs in
    let ts = stmt_trees c.args.here.now.parsed.now.exprs c.args.here.now.parsed.now.stmts in
    (arms_start k c.args.labels.now.items es ts c.args.nodes.now c.args.arms.now c.new-made.result c.new-made.ensures, refl)

pub resolve_arms-resolve_arm-requires : goal.resolve_arms-resolve_arm-requires
resolve_arms-resolve_arm-requires t c =
    let place = arm_at_place (length c.args.here.now.parsed.now.exprs) (length c.args.here.now.parsed.now.stmts) c.args.arms.now c.loop-arm.arm-index c.arm-item.result c.arm-item.is c.loop-arm-test.true c.requires in
    (omega (arith, place.0, c.decreases), place.1)

pub resolve_arms-loop-arm-preserved : goal.resolve_arms-loop-arm-preserved
resolve_arms-loop-arm-preserved t c =
    let k = standing_here c.args.here.now in
    let es = expr_trees c.args.here.now.parsed.now.exprs in
    let ts = stmt_trees c.args.here.now.parsed.now.exprs c.args.here.now.parsed.now.stmts in
    let body = rw c.loop-arm.invariant.1 at c.in_ok-one.ensures.body in
    let added = arm_added k c.args.labels.now.items es ts c.args.nodes.now c.loop-arm.nodes c.resolve_arm.new.nodes c.loop-arm.arm-index c.args.arms.now c.loop-arm.made c.arm-item.result c.in_ok-one.one c.arm-item.is c.loop-arm-test.true c.loop-arm.invariant.0 c.in_ok-one.ensures.grows c.in_ok-one.ensures.below c.in_ok-one.ensures.condition body in
    (rw c.in_ok-push.ensures.ok added, c.in_ok-one.ensures.labels ∙ c.loop-arm.invariant.1)

pub resolve_arms-returns-clause-grows : goal.resolve_arms-returns-clause-grows
resolve_arms-returns-clause-grows t c =
    c.loop-arm.invariant.0.grows

pub resolve_arms-returns-clause-below : goal.resolve_arms-returns-clause-below
resolve_arms-returns-clause-below t c =
    c.loop-arm.invariant.0.below

pub resolve_arms-returns-clause-labels : goal.resolve_arms-returns-clause-labels
resolve_arms-returns-clause-labels t c =
    c.loop-arm.invariant.1

pub resolve_arms-returns-clause-made : goal.resolve_arms-returns-clause-made
resolve_arms-returns-clause-made t c =
    let k = standing_here c.args.here.now in
    let es = expr_trees c.args.here.now.parsed.now.exprs in
    let ts = stmt_trees c.args.here.now.parsed.now.exprs c.args.here.now.parsed.now.stmts in
    let over : drop c.loop-arm.arm-index c.args.arms.now ≡ [] = drop_all c.loop-arm.arm-index c.args.arms.now (omega (arith, c.loop-arm-test.false)) in
    arms_all_made k c.args.labels.now.items es ts c.args.nodes.now c.loop-arm.nodes c.loop-arm.nodes c.loop-arm.arm-index c.args.arms.now c.loop-arm.made over c.loop-arm.invariant.0

pub resolve_else-returns-in-None-clause-grows : goal.resolve_else-returns-in-None-clause-grows
resolve_else-returns-in-None-clause-grows t c =
    grows_self c.args.nodes.now

pub resolve_if-returns-clause-grows : goal.resolve_if-returns-clause-grows
resolve_if-returns-clause-grows t c =
    grows_more c.args.nodes.now c.resolve_arms.new.nodes c.resolve_else.new.nodes c.in_ok-arms.ensures.grows c.in_ok-otherwise.ensures.grows

pub resolve_if-returns-clause-labels : goal.resolve_if-returns-clause-labels
resolve_if-returns-clause-labels t c =
    c.in_ok-otherwise.ensures.labels ∙ c.in_ok-arms.ensures.labels

pub resolve_if-returns-clause-below : goal.resolve_if-returns-clause-below
resolve_if-returns-clause-below t c =
    (arms_below (length c.resolve_arms.new.nodes.exprs) (length c.resolve_else.new.nodes.exprs) (length c.resolve_arms.new.nodes.stmts) (length c.resolve_else.new.nodes.stmts) c.in_ok-otherwise.ensures.grows.exprs c.in_ok-otherwise.ensures.grows.stmts c.in_ok-arms.arms c.in_ok-arms.ensures.below, c.in_ok-otherwise.ensures.below)

pub resolve_if-returns-clause-made : goal.resolve_if-returns-clause-made
resolve_if-returns-clause-made t c =
    let k = standing_here c.args.here.now in
    let es = expr_trees c.args.here.now.parsed.now.exprs in
    let ts = stmt_trees c.args.here.now.parsed.now.exprs c.args.here.now.parsed.now.stmts in
    let last = rw c.in_ok-arms.ensures.labels at c.in_ok-otherwise.ensures.made in
    λ at. ap (λ arms. tree.branch arms at)
    (ap (arms_at (exprs_of c.resolve_else.new.nodes) (stmts_of c.resolve_else.new.nodes) c.in_ok-arms.arms) last ∙ arms_kept c.resolve_arms.new.nodes c.resolve_else.new.nodes c.in_ok-otherwise.ensures.grows c.in_ok-arms.arms _ c.in_ok-arms.ensures.below ∙ c.in_ok-arms.ensures.made _)

pub resolve_loop-returns-clause-grows : goal.resolve_loop-returns-clause-grows
resolve_loop-returns-clause-grows t c =
    grows_more c.args.nodes.now c.resolve_head.new.nodes c.resolve_inside.new.nodes c.in_ok-condition.ensures.grows c.in_ok-body.ensures.grows

pub resolve_loop-returns-clause-below : goal.resolve_loop-returns-clause-below
resolve_loop-returns-clause-below t c =
    (omega (arith, c.in_ok-condition.ensures.below.0, c.in_ok-body.ensures.grows.exprs), clauses_more (length c.resolve_head.new.nodes.exprs) (length c.resolve_inside.new.nodes.exprs) c.in_ok-body.ensures.grows.exprs c.in_ok-condition.clauses c.in_ok-condition.ensures.below.1, c.in_ok-body.ensures.below)

pub resolve_loop-returns-clause-made : goal.resolve_loop-returns-clause-made
resolve_loop-returns-clause-made t c =
    let condition = expr_kept c.resolve_head.new.nodes c.resolve_inside.new.nodes c.in_ok-body.ensures.grows c.in_ok-condition.condition c.in_ok-condition.ensures.below.0 ∙ c.in_ok-condition.ensures.condition in
    let clauses = clauses_kept c.resolve_head.new.nodes c.resolve_inside.new.nodes c.in_ok-body.ensures.grows c.in_ok-condition.clauses c.in_ok-condition.ensures.below.1 ∙ c.in_ok-condition.ensures.clauses in
    let body = c.in_ok-body.ensures.made in
    λ at. loop_made _ _ _ _ _ _ at condition clauses body
