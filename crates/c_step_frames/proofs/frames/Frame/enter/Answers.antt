use Rattle.std.proofs.Common.{List, ap, subst, sym, ◌++◌, ◌∙◌}
use Rattle.c_meaning.specs.declared.cells.CellType.{CellType}
use Rattle.c_meaning.specs.CMemory.{Object}
use Rattle.c_meaning.specs.Typed.{object_shape}
use Rattle.c_step_frames.specs.Frames.{StartsWith, unset_cells}
use Rattle.c_mem.proofs.UnsetCells.{small_again, unset_again}
use Rattle.c_step_frames.proofs.Arguments.{kept_is, unset_starts}
use Rattle.c_step_frames.proofs.frames.Frame.enter.Goals as goal

pub pass-requires : goal.pass-requires
pass-requires c =
    let e = kept_is c.self.inside.object c.in-Some.object (unset_cells (c.self.inside.params.items ++ c.self.inside.locals.items)) c.in-Some.ensures.value c.self.invariant in
    record {
      shaped = subst (λ (ts : List CellType). StartsWith ts c.in-Some.object) (sym c.as_slice.ensures.value)
          (subst (λ (o : Object). StartsWith c.self.inside.params.items o) (sym e) (unset_starts c.self.inside.params.items c.self.inside.locals.items));
    }

pub rested-requires : goal.rested-requires
rested-requires c =
    let e = kept_is c.self.inside.object c.in-Some.object (unset_cells (c.self.inside.params.items ++ c.self.inside.locals.items)) c.in-Some.ensures.value c.self.invariant in
    small_again (c.self.inside.params.items ++ c.self.inside.locals.items) c.pass.new.object (c.pass.ensures.shape ∙ ap object_shape e)

pub invariant_of-self-then-is_none : goal.invariant_of-self-then-is_none
invariant_of-self-then-is_none c =
    let e = kept_is c.self.inside.object c.in-Some.object (unset_cells (c.self.inside.params.items ++ c.self.inside.locals.items)) c.in-Some.ensures.value c.self.invariant in
    c.rested.ensures ∙ unset_again (c.self.inside.params.items ++ c.self.inside.locals.items) c.pass.new.object (c.pass.ensures.shape ∙ ap object_shape e)
