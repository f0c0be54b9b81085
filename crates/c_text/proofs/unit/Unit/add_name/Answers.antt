use Rattle.c_text.proofs.Names.{adds_name, sound_names}
use Rattle.c_text.proofs.unit.Unit.add_name.Goals as goal

pub invariant_of-self-2 : goal.invariant_of-self-2
invariant_of-self-2 c = sound_names _ c.intern.new.self c.args.name.now c.in_ok-n.n c.in_ok-n.ensures.ok c.self.invariant c.requires

pub returns-clause-ok : goal.returns-clause-ok
returns-clause-ok c = rw (← c.self.view_is) (adds_name _ c.intern.new.self c.args.name.now c.in_ok-n.n c.in_ok-n.ensures.ok)
