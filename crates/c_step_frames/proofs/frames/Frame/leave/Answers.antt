use Rattle.std.proofs.Common.{ap, refl, sym, ◌++◌, ◌∙◌}
use Rattle.c_meaning.specs.Typed.{object_shape}
use Rattle.c_mem.specs.MemoryViews.{memory}
use Rattle.c_step_frames.specs.Frames.{FrameView, types_of, unset_cells}
use Rattle.c_mem.proofs.UnsetCells.{small_again, unset_again}
use Rattle.c_step_frames.proofs.Arguments.{last_one, not_empty}
use Rattle.c_step_frames.proofs.frames.Frame.leave.Goals as goal

pub rested-requires : goal.rested-requires
rested-requires c =
    let r = last_one (memory c.leave.new.self) c.requires.front c.in-Some.last c.requires.last (sym c.in-Some.ensures.objects ∙ c.requires.is) in
    small_again (types_of c.args.self.now) c.in-Some.last (ap object_shape r.1 ∙ c.requires.shape)

pub invariant_of-self : goal.invariant_of-self
invariant_of-self c =
    let r = last_one (memory c.leave.new.self) c.requires.front c.in-Some.last c.requires.last (sym c.in-Some.ensures.objects ∙ c.requires.is) in
    c.rested.ensures ∙ unset_again (c.self.inside.params.items ++ c.self.inside.locals.items) c.in-Some.last
    (ap object_shape r.1 ∙ (c.requires.shape ∙ ap (λ (f : FrameView). object_shape (unset_cells (types_of f))) (sym c.self.view_is)))

pub returns-in_default-clause-memory : goal.returns-in_default-clause-memory
returns-in_default-clause-memory c = absurd (not_empty c.requires.front c.requires.last (sym c.requires.is ∙ c.in_default.ensures.none))

pub returns-in_default-clause-frame : goal.returns-in_default-clause-frame
returns-in_default-clause-frame c = absurd (not_empty c.requires.front c.requires.last (sym c.requires.is ∙ c.in_default.ensures.none))

pub returns-in_default-clause-room : goal.returns-in_default-clause-room
returns-in_default-clause-room c = absurd (not_empty c.requires.front c.requires.last (sym c.requires.is ∙ c.in_default.ensures.none))

pub returns-clause-room : goal.returns-clause-room
returns-clause-room c = λ more h. c.in-Some.ensures.room more h refl
