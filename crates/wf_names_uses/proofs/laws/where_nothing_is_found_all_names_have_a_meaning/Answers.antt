use Rattle.wf_names_uses.proofs.MeaningLaws.{uses-have-meaning, calls-have-meaning}
use Rattle.wf_names_uses.proofs.laws.where_nothing_is_found_all_names_have_a_meaning.Goals as goal

pub returns : goal.returns
returns c = record { uses = uses-have-meaning; calls = calls-have-meaning }
