use Rattle.std.proofs.Common.{◌≡◌, ◌<◌, List, [], length, drop, sym, ap, subst, arith}
use Rattle.std.specs.List.{AllByRecursion}
use Rattle.std.proofs.lemmas.List.{drop_all}
use Rattle.wf_ast.specs.declared.numbers.StmtId.{StmtId}
use Rattle.wf_ast.specs.declared.parsed.Arm.{Arm}
use Rattle.wf_ast.specs.ParsedParts.{BlockBelow}
use Rattle.wf_ast.specs.Above.{above_stmts}
use Rattle.wf_ast.proofs.AboveLemmas.{block_above, else_above, arms_above, arms_more, stmt_at_place, arm_at_place}
use Rattle.wf_ast.proofs.TreeLemmas.{BlockBelow-more, ElseBelow-more}
use Rattle.wf_named.specs.NamedParts.{named_package}
use Rattle.wf_named.specs.NamedTree.{no_else}
use Rattle.wf_named.specs.NamedTrees.{expr_trees, stmt_trees, arms_at, else_at}
use Rattle.wf_typed_tree.specs.Entries.{arms_entries}
use Rattle.wf_typed_exprs.proofs.EntryLemmas.{adds_then}
use Rattle.wf_typed_stmts.specs.Right.{known_in}
use Rattle.wf_typed_stmts.proofs.BlockLemmas.{stmt_right, stmts_added, stmts_all_made, stmts_entries, arm_right, arms_added, arms_all_made, arms_entries_made}
use Rattle.wf_typed_stmts.proofs.EntryLemmas.{arms_joined}
use Rattle.wf_typed_stmts.proofs.StepLemmas.{right_arms, if_made_so}
use Rattle.wf_typed_stmts.proofs.bodies.+elaborate_stmts.Goals as goal

pub elaborate_node-elaborate_if-requires : goal.elaborate_node-elaborate_if-requires
elaborate_node-elaborate_if-requires t c =
    let e = length c.args.here.now.nodes.now.exprs in
    let k = c.args.s.0 in
    let parts = rw c.in-If.is at c.stmt-node.ensures.parts in
    let arms : AllByRecursion (λ (a : Arm). (a.condition.0 < e) × BlockBelow k a.body) c.as_slice.result.now = rw c.as_slice.ensures parts.0 in
    let right = rw (c.stmt-node.ensures.made, c.in-If.is) at c.requires.right in (
      omega (arith, arms_above e k c.as_slice.result.now arms, else_above k c.in-If.otherwise parts.1, c.decreases),
      (
        arms_more e k (length c.args.here.now.nodes.now.stmts) (omega (arith, c.requires.there)) c.as_slice.result.now arms,
        (ElseBelow-more k (length c.args.here.now.nodes.now.stmts) (omega (arith, c.requires.there)) c.in-If.otherwise parts.1, (c.requires.begun, rw c.as_slice.ensures right)),
      ),
    )

pub elaborate_node-elaborate_loop-requires : goal.elaborate_node-elaborate_loop-requires
elaborate_node-elaborate_loop-requires t c =
    let k = c.args.s.0 in
    let parts = rw c.in-While.is at c.stmt-node.ensures.parts in
    let right = rw (c.stmt-node.ensures.made, c.in-While.is) at c.requires.right in (
      omega (arith, block_above k c.in-While.body parts.2, c.decreases),
      (
        parts.0,
        (
          rw c.as_slice-in-While.ensures parts.1,
          (BlockBelow-more k (length c.args.here.now.nodes.now.stmts) (omega (arith, c.requires.there)) c.in-While.body parts.2, (c.requires.begun, rw c.as_slice-in-While.ensures right)),
        ),
      ),
    )

pub elaborate_block-elaborate_stmt-requires : goal.elaborate_block-elaborate_stmt-requires
elaborate_block-elaborate_stmt-requires t c =
    let l = c.loop-s in
    let ts = stmt_trees c.args.here.now.nodes.now.texts c.args.here.now.nodes.now.exprs c.args.here.now.nodes.now.stmts in
    let below : AllByRecursion (λ (s : StmtId). s.0 < length c.args.here.now.nodes.now.stmts) c.as_slice-s-items.result.now =
    let P : List StmtId → Type 0 = λ ss. AllByRecursion (λ s. s.0 < length c.args.here.now.nodes.now.stmts) ss in subst P (sym c.as_slice-s-items.ensures) c.requires.below in
    let place = stmt_at_place (length c.args.here.now.nodes.now.stmts) c.as_slice-s-items.result.now l.s-index (record { 0 = 0 }) c.loop-s-test.true below in
    let same : above_stmts c.as_slice-s-items.result.now ≡ above_stmts c.args.block.now.items = ap above_stmts c.as_slice-s-items.ensures in
    let inside : l.s-index < length c.args.block.now.items = rw (← c.as_slice-s-items.ensures) c.loop-s-test.true in
    let right = (stmt_right c.args.here.now.around.now (known_in (named_package c.args.here.now.nodes.now)) c.args.loops.now c.args.here.now.nodes.now ts c.args.block.now.close c.args.block.now.items l.s-index (record { 0 = 0 }) inside l.invariant.right).0 in
    (omega (arith, place.0, same, c.decreases), (place.1, (l.invariant.begun, rw c.as_slice-s-items.ensures right)))

pub elaborate_block-loop-s-preserved : goal.elaborate_block-loop-s-preserved
elaborate_block-loop-s-preserved t c =
    let l = c.loop-s in
    let ts = stmt_trees c.args.here.now.nodes.now.texts c.args.here.now.nodes.now.exprs c.args.here.now.nodes.now.stmts in
    let inside : l.s-index < length c.args.block.now.items = rw (← c.as_slice-s-items.ensures) c.loop-s-test.true in
    let one = rw c.as_slice-s-items.ensures at c.in_ok-id.ensures.stands in
    rw c.in_ok-push.ensures.ok
    (stmts_added c.args.here.now.around.now (known_in (named_package c.args.here.now.nodes.now)) c.args.loops.now c.args.here.now.nodes.now ts c.args.block.now.close c.args.block.now.items l.s-index c.args.nodes.now l.nodes c.elaborate_stmt.new.nodes l.items
    (record { 0 = 0 }) c.in_ok-id.id inside l.invariant c.in_ok-id.ensures.adds c.in_ok-id.ensures.begun one (rw c.as_slice-s-items.ensures at c.in_ok-id.ensures.entries))

pub elaborate_block-returns-clause-stands : goal.elaborate_block-returns-clause-stands
elaborate_block-returns-clause-stands t c =
    let l = c.loop-s in
    let ts = stmt_trees c.args.here.now.nodes.now.texts c.args.here.now.nodes.now.exprs c.args.here.now.nodes.now.stmts in
    let items = c.args.block.now.items in
    let over : drop l.s-index items ≡ [] = drop_all l.s-index items (omega (arith, c.loop-s-test.false, ap length c.as_slice-s-items.ensures)) in
    stmts_all_made c.args.here.now.around.now (known_in (named_package c.args.here.now.nodes.now)) c.args.loops.now c.args.here.now.nodes.now ts c.args.block.now.close items l.s-index c.args.nodes.now l.nodes l.items over l.invariant

pub elaborate_arms-elaborate_arm-requires : goal.elaborate_arms-elaborate_arm-requires
elaborate_arms-elaborate_arm-requires t c =
    let l = c.loop-arm in
    let es = expr_trees c.args.here.now.nodes.now.exprs in
    let ts = stmt_trees c.args.here.now.nodes.now.texts c.args.here.now.nodes.now.exprs c.args.here.now.nodes.now.stmts in
    let place = arm_at_place (length c.args.here.now.nodes.now.exprs) (length c.args.here.now.nodes.now.stmts) c.args.arms.now l.arm-index c.arm-item.result c.arm-item.is c.loop-arm-test.true c.requires.below in
    let right =
    arm_right c.args.here.now.around.now (known_in (named_package c.args.here.now.nodes.now)) c.args.loops.now c.args.here.now.nodes.now es ts c.args.arms.now l.arm-index c.arm-item.result c.arm-item.is c.loop-arm-test.true l.invariant.right in
    (omega (arith, place.0, c.decreases), (place.1.0, (place.1.1, (l.invariant.begun, (right.0, right.1.0)))))

pub elaborate_arms-loop-arm-preserved : goal.elaborate_arms-loop-arm-preserved
elaborate_arms-loop-arm-preserved t c =
    let l = c.loop-arm in
    let es = expr_trees c.args.here.now.nodes.now.exprs in
    let ts = stmt_trees c.args.here.now.nodes.now.texts c.args.here.now.nodes.now.exprs c.args.here.now.nodes.now.stmts in
    rw c.in_ok-push.ensures.ok
    (arms_added c.args.here.now.around.now (known_in (named_package c.args.here.now.nodes.now)) c.args.loops.now c.args.here.now.nodes.now es ts c.args.arms.now l.arm-index c.arm-item.result c.arm-item.is c.loop-arm-test.true c.args.nodes.now l.nodes
    c.elaborate_arm.new.nodes l.made c.in_ok-one.one l.invariant c.in_ok-one.ensures.adds c.in_ok-one.ensures.begun c.in_ok-one.ensures.stands c.in_ok-one.ensures.entries)

pub elaborate_arms-returns-clause-stand : goal.elaborate_arms-returns-clause-stand
elaborate_arms-returns-clause-stand t c =
    let l = c.loop-arm in
    let es = expr_trees c.args.here.now.nodes.now.exprs in
    let ts = stmt_trees c.args.here.now.nodes.now.texts c.args.here.now.nodes.now.exprs c.args.here.now.nodes.now.stmts in
    let arms = c.args.arms.now in
    let over : drop l.arm-index arms ≡ [] = drop_all l.arm-index arms (omega (arith, c.loop-arm-test.false)) in
    arms_all_made c.args.here.now.around.now (known_in (named_package c.args.here.now.nodes.now)) c.args.loops.now c.args.here.now.nodes.now es ts arms l.arm-index c.args.nodes.now l.nodes l.made over
    (omega (arith, c.loop-arm-test.false, l.auto.arm-index-end)) l.invariant

pub elaborate_if-elaborate_arms-requires : goal.elaborate_if-elaborate_arms-requires
elaborate_if-elaborate_arms-requires t c =
    let es = expr_trees c.args.here.now.nodes.now.exprs in
    let ts = stmt_trees c.args.here.now.nodes.now.texts c.args.here.now.nodes.now.exprs c.args.here.now.nodes.now.stmts in
    let right = right_arms c.args.here.now.around.now (known_in (named_package c.args.here.now.nodes.now)) (length c.args.loops.now) es ts c.args.arms.now (else_at ts c.args.otherwise.now) c.requires.right.1 in
    (omega (arith, c.decreases), (c.requires.arms, (c.requires.begun, right.0)))

pub elaborate_if-elaborate_else-requires : goal.elaborate_if-elaborate_else-requires
elaborate_if-elaborate_else-requires t c =
    let es = expr_trees c.args.here.now.nodes.now.exprs in
    let ts = stmt_trees c.args.here.now.nodes.now.texts c.args.here.now.nodes.now.exprs c.args.here.now.nodes.now.stmts in
    let right = right_arms c.args.here.now.around.now (known_in (named_package c.args.here.now.nodes.now)) (length c.args.loops.now) es ts c.args.arms.now (else_at ts c.args.otherwise.now) c.requires.right.1 in
    (omega (arith, c.decreases), (c.requires.otherwise, (c.in_ok-arms.ensures.begun, right.1)))

pub elaborate_if-returns-clause-made : goal.elaborate_if-returns-clause-made
elaborate_if-returns-clause-made t c =
    let es = expr_trees c.args.here.now.nodes.now.exprs in
    let ts = stmt_trees c.args.here.now.nodes.now.texts c.args.here.now.nodes.now.exprs c.args.here.now.nodes.now.stmts in
    if_made_so c.args.here.now.around.now c.args.loops.now c.args.nodes.now c.elaborate_arms.new.nodes c.elaborate_else.new.nodes es ts c.args.arms.now c.args.otherwise.now c.args.at c.in_ok-arms.arms c.in_ok-otherwise.otherwise
    c.requires.right.0 c.in_ok-arms.ensures.stand c.in_ok-otherwise.ensures.adds.grows c.in_ok-otherwise.ensures.stands

pub elaborate_block-returns-clause-entries : goal.elaborate_block-returns-clause-entries
elaborate_block-returns-clause-entries t c =
    let l = c.loop-s in
    let ts = stmt_trees c.args.here.now.nodes.now.texts c.args.here.now.nodes.now.exprs c.args.here.now.nodes.now.stmts in
    let items = c.args.block.now.items in
    let over : drop l.s-index items ≡ [] = drop_all l.s-index items (omega (arith, c.loop-s-test.false, ap length c.as_slice-s-items.ensures)) in
    stmts_entries c.args.here.now.around.now (known_in (named_package c.args.here.now.nodes.now)) c.args.loops.now c.args.here.now.nodes.now ts c.args.block.now.close items l.s-index c.args.nodes.now l.nodes l.items over l.invariant

pub elaborate_arms-returns-clause-entries : goal.elaborate_arms-returns-clause-entries
elaborate_arms-returns-clause-entries t c =
    let l = c.loop-arm in
    let es = expr_trees c.args.here.now.nodes.now.exprs in
    let ts = stmt_trees c.args.here.now.nodes.now.texts c.args.here.now.nodes.now.exprs c.args.here.now.nodes.now.stmts in
    let arms = c.args.arms.now in
    let over : drop l.arm-index arms ≡ [] = drop_all l.arm-index arms (omega (arith, c.loop-arm-test.false)) in
    arms_entries_made c.args.here.now.around.now (known_in (named_package c.args.here.now.nodes.now)) c.args.loops.now c.args.here.now.nodes.now es ts arms l.arm-index c.args.nodes.now l.nodes l.made over l.invariant

pub elaborate_if-returns-clause-entries : goal.elaborate_if-returns-clause-entries
elaborate_if-returns-clause-entries t c =
    let es = expr_trees c.args.here.now.nodes.now.exprs in
    let ts = stmt_trees c.args.here.now.nodes.now.texts c.args.here.now.nodes.now.exprs c.args.here.now.nodes.now.stmts in
    rw (arms_joined c.args.here.now.around.now es ts c.args.arms.now (else_at ts c.args.otherwise.now))
    (adds_then c.args.nodes.now c.elaborate_arms.new.nodes c.elaborate_else.new.nodes (arms_entries c.args.here.now.around.now (arms_at es ts c.args.arms.now no_else)) (arms_entries c.args.here.now.around.now (else_at ts c.args.otherwise.now))
    c.in_ok-arms.ensures.entries c.in_ok-otherwise.ensures.entries)
