use Rattle.wf_names_rules.proofs.ListLaws.{doubles-sound, doubles-complete}
use Rattle.wf_names_rules.proofs.laws.doubles_are_the_repeated_names.Goals as goal

pub returns : goal.returns
returns c = record { sound = doubles-sound; complete = doubles-complete }
