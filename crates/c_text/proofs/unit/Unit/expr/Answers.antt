use Rattle.std.proofs.Common.{refl}
use Rattle.std.proofs.lemmas.Option.{slice_get_read}
use Rattle.c_text.proofs.Trees.{expr_of-is}
use Rattle.c_text.proofs.unit.Unit.expr.Goals as goal

pub returns-clause-tree : goal.returns-clause-tree
returns-clause-tree c =
    let within = rw (← c.self.view_is) at c.requires in
    let is = slice_get_read c.self.inside.exprs.items _ c.args.e.0 c.index.result.now refl within c.index.ensures in
    rw (← c.self.view_is) (expr_of-is _ c.args.e.0 c.index.result.now is (c.self.invariant.exprs c.args.e.0 c.index.result.now is))

pub returns-clause-fits : goal.returns-clause-fits
returns-clause-fits c =
    let within = rw (← c.self.view_is) at c.requires in
    let is = slice_get_read c.self.inside.exprs.items _ c.args.e.0 c.index.result.now refl within c.index.ensures in
    rw (← c.self.view_is) (c.self.invariant.exprs c.args.e.0 c.index.result.now is)
