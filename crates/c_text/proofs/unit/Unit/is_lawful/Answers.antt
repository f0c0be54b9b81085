use Rattle.c_text.proofs.Lawful.{unit_is}
use Rattle.c_text.proofs.unit.Unit.is_lawful.Goals as goal

pub returns : goal.returns
returns c = rw (← c.self.view_is) (unit_is _ c.self.invariant)
