use Rattle.wf_names_rules.proofs.ListLaws.{reserved-sound, reserved-complete}
use Rattle.wf_names_rules.proofs.laws.finds_are_the_reserved_names.Goals as goal

pub returns : goal.returns
returns c = record { sound = reserved-sound; complete = reserved-complete }
