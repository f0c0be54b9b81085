use Rattle.std.proofs.Common.{◌≡◌, ◌≤◌, ◌-◌, length, drop}
use Rattle.stacks.specs.Shapes.{all_fit}
use Rattle.stacks.proofs.shapes.fits.Given as goal

abbrev pub invariant-loop-shape : goal.invariant-loop-shape
invariant-loop-shape g l = record {
  within : l.depth ≤ length l.shapes;
  rest : all_fit g.S.ShapeOf.is_shape (drop l.depth l.shapes) (drop l.depth l.values) ≡ all_fit g.S.ShapeOf.is_shape l.fn.shapes l.fn.values;
}

abbrev pub decreases-loop-shape : goal.decreases-loop-shape
decreases-loop-shape g l = length l.initial.shapes - l.depth
