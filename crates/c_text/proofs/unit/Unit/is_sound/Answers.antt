use Rattle.c_text.proofs.unit.Unit.is_sound.Goals as goal

pub returns : goal.returns
returns c = rw (← c.self.view_is) c.self.invariant
