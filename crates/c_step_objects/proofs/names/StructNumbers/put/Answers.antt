use Rattle.c_step_objects.proofs.NameLemmas.{number_put}
use Rattle.c_step_objects.proofs.names.StructNumbers.put.Goals as goal

pub returns : goal.returns
returns c = λ q. rw (← c.self.view_is) (number_put c.self.inside.entries c.insert.new.self c.args.name.now c.args.number c.in_ok-insert.ensures.updates q)
