use Rattle.c_text.proofs.Growth.{sound_string}
use Rattle.c_text.proofs.unit.Unit.add_string.Goals as goal

pub invariant_of-self-2 : goal.invariant_of-self-2
invariant_of-self-2 c = rw (c.in_ok-push.ensures.items, c.in_ok-owned.ensures) (sound_string _ c.args.bytes.now c.self.invariant c.requires)
