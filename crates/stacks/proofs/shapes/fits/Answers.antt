use Rattle.std.proofs.Common.{sym, ◌∙◌}
use Rattle.stacks.specs.Shapes.{all_fit}
use Rattle.stacks.proofs.Fitting.{fits-fails, fits-goes_on, fits-within, fits-end}
use Rattle.stacks.proofs.shapes.fits.Goals as goal

pub returns-then-not-has_shape : goal.returns-then-not-has_shape
returns-then-not-has_shape g c = fits-fails g.S.ShapeOf.is_shape c.args.shapes.now c.args.values.now c.loop-shape.depth c.in-Some.shape c.has_shape.result (all_fit g.S.ShapeOf.is_shape c.args.shapes.now c.args.values.now) (sym c.in-Some.ensures) c.has_shape.ensures c.if-not-has_shape.true c.loop-shape.invariant.rest

pub loop-shape-preserved : goal.loop-shape-preserved
loop-shape-preserved g c = record {
  within = fits-within c.args.shapes.now c.loop-shape.depth c.in-Some.shape (sym c.in-Some.ensures);
  rest = fits-goes_on g.S.ShapeOf.is_shape c.args.shapes.now c.args.values.now c.loop-shape.depth c.in-Some.shape c.has_shape.result (all_fit g.S.ShapeOf.is_shape c.args.shapes.now c.args.values.now) (sym c.in-Some.ensures) c.has_shape.ensures c.if-not-has_shape.false c.loop-shape.invariant.rest;
}

pub returns : goal.returns
returns g c = sym (fits-end g.S.ShapeOf.is_shape c.args.shapes.now c.args.values.now c.loop-shape.depth (sym c.in_default.ensures)) ∙ c.loop-shape.invariant.rest
