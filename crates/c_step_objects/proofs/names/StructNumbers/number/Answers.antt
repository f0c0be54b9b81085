use Rattle.std.proofs.Common.{sym, ap, ◌∙◌}
use Rattle.std.specs.Prelude.{unwrap_or}
use Rattle.c_step_objects.proofs.NameLemmas.{number_seen}
use Rattle.c_step_objects.proofs.names.StructNumbers.number.Goals as goal

pub returns : goal.returns
returns c = rw (← c.self.view_is) (c.unwrap_or.ensures ∙ (ap (λ o. unwrap_or o 0) (c.copied.ensures ∙ c.get.ensures.value) ∙ sym (number_seen c.self.inside.entries.entries c.args.name.now)))
