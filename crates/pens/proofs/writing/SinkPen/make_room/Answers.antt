use Rattle.pens.specs.PenLaws.{writes_nothing}
use Rattle.pens.proofs.writing.SinkPen.make_room.Goals as goal

pub returns-else-self-eq4096-clause-writes : goal.returns-else-self-eq4096-clause-writes
returns-else-self-eq4096-clause-writes g c = writes_nothing _ c.requires.sent
