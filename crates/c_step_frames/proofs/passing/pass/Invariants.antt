use Rattle.std.proofs.Common.{◌≡◌, ◌-◌, ◌≤◌, length, take, drop}
use Rattle.c_meaning.specs.Typed.{object_shape}
use Rattle.c_step_exprs.specs.Stacks.{on_stack, most}
use Rattle.c_step_frames.specs.Frames.{StartsWith, on_top}
use Rattle.c_step_frames.proofs.Arguments.{Gives}
use Rattle.c_step_frames.proofs.passing.pass.Given as goal

abbrev pub invariant-loop-left : goal.invariant-loop-left
invariant-loop-left l = record {
  within : l.left ≤ length l.types;
  shaped : StartsWith l.types l.object;
  shape : object_shape l.object ≡ object_shape l.fn.object;
  gives : Gives l.types (on_top (length l.types) (on_stack l.fn.stack)) l.left (on_stack l.stack) (take (length l.types - l.left) (drop l.left l.object));
  others : drop (length l.types) l.object ≡ drop (length l.types) l.fn.object;
  stack : on_stack l.stack ≡ drop (length l.types - l.left) (on_stack l.fn.stack);
  room : most l.stack ≡ most l.fn.stack;
}

abbrev pub decreases-loop-left : goal.decreases-loop-left
decreases-loop-left l = l.left
