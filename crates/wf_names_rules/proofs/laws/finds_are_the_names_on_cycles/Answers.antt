use Rattle.wf_names_rules.proofs.ListLaws.{flagged-sound, flagged-complete}
use Rattle.wf_names_rules.proofs.laws.finds_are_the_names_on_cycles.Goals as goal

pub returns : goal.returns
returns c = record { sound = flagged-sound; complete = flagged-complete }
