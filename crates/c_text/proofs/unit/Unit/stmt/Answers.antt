use Rattle.std.proofs.Common.{refl}
use Rattle.std.proofs.lemmas.Option.{slice_get_read}
use Rattle.c_text.proofs.Trees.{code_of-is}
use Rattle.c_text.proofs.unit.Unit.stmt.Goals as goal

pub returns-clause-tree : goal.returns-clause-tree
returns-clause-tree c =
    let within = rw (← c.self.view_is) at c.requires in
    let is = slice_get_read c.self.inside.stmts.items _ c.args.s.0 c.index.result.now refl within c.index.ensures in
    rw (← c.self.view_is) (code_of-is _ c.args.s.0 c.index.result.now is (c.self.invariant.stmts c.args.s.0 c.index.result.now is))

pub returns-clause-fits : goal.returns-clause-fits
returns-clause-fits c =
    let within = rw (← c.self.view_is) at c.requires in
    let is = slice_get_read c.self.inside.stmts.items _ c.args.s.0 c.index.result.now refl within c.index.ensures in
    rw (← c.self.view_is) (c.self.invariant.stmts c.args.s.0 c.index.result.now is)
