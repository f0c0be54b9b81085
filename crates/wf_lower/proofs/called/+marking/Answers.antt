use Rattle.std.proofs.Common.{ap, refl}
use Rattle.wf_lower_stmts.specs.BodyNodes.{stands_among, stands_at, stands_in_if}
use Rattle.wf_lower.specs.Called.{calls, is_callee}
use Rattle.wf_lower.proofs.CallLaws.{sets_none, sets_some}
use Rattle.wf_lower.proofs.called.+marking.Goals as goal

pub mark_at-returns-in-If-clause-marks : goal.mark_at-returns-in-If-clause-marks
mark_at-returns-in-If-clause-marks t c =
    let nodes = c.args.t.now in
    sets_some nodes c.args.s c.node.result.now _ c.node.ensures.calls c.in-If.is (λ n. stands_in_if (stands_at nodes (calls n)) c.as_slice.result.now c.in-If.otherwise) c.args.called.now.items c.mark_if.new.called.items
    (λ n. ap (λ arms. stands_in_if (stands_at nodes (calls n)) arms c.in-If.otherwise) c.as_slice.ensures) c.mark_if.ensures.marks

pub mark_at-returns-in-While-clause-marks : goal.mark_at-returns-in-While-clause-marks
mark_at-returns-in-While-clause-marks t c =
    let nodes = c.args.t.now in
    sets_some nodes c.args.s c.node.result.now _ c.node.ensures.calls c.in-While.is (λ n. stands_among (stands_at nodes (calls n)) c.in-While.body.items) c.args.called.now.items c.mark_block.new.called.items (λ n. refl) c.mark_block.ensures.marks

pub mark_at-returns-in-Call-clause-marks : goal.mark_at-returns-in-Call-clause-marks
mark_at-returns-in-Call-clause-marks t c =
    sets_some c.args.t.now c.args.s c.node.result.now _ c.node.ensures.calls c.in-Call.is (λ n. is_callee n c.in-Call.callee) c.args.called.now.items c.mark_callee.new.called.items (λ n. refl) c.mark_callee.ensures.marks

pub mark_at-returns-in-Break-clause-marks : goal.mark_at-returns-in-Break-clause-marks
mark_at-returns-in-Break-clause-marks t c = sets_none c.args.t.now c.args.s c.node.result.now _ c.node.ensures.calls c.in-Break.is c.args.called.now.items (λ n. refl)

pub mark_at-returns-in-Continue-clause-marks : goal.mark_at-returns-in-Continue-clause-marks
mark_at-returns-in-Continue-clause-marks t c = sets_none c.args.t.now c.args.s c.node.result.now _ c.node.ensures.calls c.in-Continue.is c.args.called.now.items (λ n. refl)

pub mark_at-returns-in-Return-clause-marks : goal.mark_at-returns-in-Return-clause-marks
mark_at-returns-in-Return-clause-marks t c = sets_none c.args.t.now c.args.s c.node.result.now _ c.node.ensures.calls c.in-Return.is c.args.called.now.items (λ n. refl)

pub mark_at-returns-in-Yield-clause-marks : goal.mark_at-returns-in-Yield-clause-marks
mark_at-returns-in-Yield-clause-marks t c = sets_none c.args.t.now c.args.s c.node.result.now _ c.node.ensures.calls c.in-Yield.is c.args.called.now.items (λ n. refl)

pub mark_at-returns-in-Assign-clause-marks : goal.mark_at-returns-in-Assign-clause-marks
mark_at-returns-in-Assign-clause-marks t c = sets_none c.args.t.now c.args.s c.node.result.now _ c.node.ensures.calls c.in-Assign.is c.args.called.now.items (λ n. refl)

pub mark_at-returns-in-Assert-clause-marks : goal.mark_at-returns-in-Assert-clause-marks
mark_at-returns-in-Assert-clause-marks t c = sets_none c.args.t.now c.args.s c.node.result.now _ c.node.ensures.calls c.in-Assert.is c.args.called.now.items (λ n. refl)
