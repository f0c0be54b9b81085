use Rattle.std.proofs.Common.{◌-◌, ap, arith, drop, length, subst, sym, ◌∙◌}
use Rattle.c_meaning.specs.CMemory.{Object}
use Rattle.c_meaning.specs.Typed.{object_shape}
use Rattle.c_step_exprs.specs.Stacks.{on_stack}
use Rattle.c_step_frames.specs.Frames.{StartsWith, on_top, one_cell}
use Rattle.c_step_frames.proofs.Arguments.{set_shaped, set_same_shape, rest_stays, gives_more, gives_none, taken_so_far}
use Rattle.c_step_frames.proofs.passing.pass.Goals as goal

pub loop-left-preserved : goal.loop-left-preserved
loop-left-preserved c =
    let h = c.in_ok-pass_one.ensures.passes in
    let ts = c.args.types.now in
    let fs = c.loop-left.object in
    let i = c.loop-left.left - 1 in
    record {
      within = omega arith;
      shaped = subst (λ (o : Object). StartsWith ts o) (sym h.6) (set_shaped ts fs i h.0 h.2 c.loop-left.invariant.shaped h.3);
      shape = ap object_shape h.6 ∙ (set_same_shape ts fs i h.0 h.2 c.loop-left.invariant.shaped h.3 ∙ c.loop-left.invariant.shape);
      gives = gives_more ts (on_top (length ts) (on_stack c.args.stack.now)) i c.loop-left.left (on_stack c.loop-left.stack) (on_stack c.pass_one.new.stack) fs c.pass_one.new.object h.0 h.1 h.2
          (omega arith) c.loop-left.invariant.within c.loop-left.invariant.shaped h.3 h.4 h.5 h.6 c.loop-left.invariant.gives;
      others = ap (drop (length ts)) h.6 ∙ (rest_stays fs i (length ts) (one_cell h.0 h.2) (omega arith) ∙ c.loop-left.invariant.others);
      stack = taken_so_far (on_stack c.args.stack.now) (on_stack c.loop-left.stack) (on_stack c.pass_one.new.stack) h.1 (length ts) i c.loop-left.left (omega arith) c.loop-left.invariant.within h.4 c.loop-left.invariant.stack;
      room = c.in_ok-pass_one.ensures.room ∙ c.loop-left.invariant.room;
    }

pub returns-in_err-pass_one-clause-passes : goal.returns-in_err-pass_one-clause-passes
returns-in_err-pass_one-clause-passes c =
    rw c.from_residual.ensures
    (gives_none c.args.types.now (on_top (length c.args.types.now) (on_stack c.args.stack.now)) (c.loop-left.left - 1) c.loop-left.left (on_stack c.loop-left.stack) (on_stack c.pass_one.new.stack) _
    (omega arith) c.loop-left.invariant.within c.loop-left.invariant.gives c.in_err-pass_one.ensures.passes.1)
