use Rattle.wf_names_rules.proofs.ListLaws.{initializes-sound, initializes-complete}
use Rattle.wf_names_rules.proofs.laws.finds_are_the_initializing_names.Goals as goal

pub returns : goal.returns
returns c = record { sound = initializes-sound; complete = initializes-complete }
