use Rattle.c_meaning.proofs.Targets.{target_moved, one_is_both}
use Rattle.c_meaning.proofs.laws.a_target_is_one_place.Goals as goal

pub returns-clause-moved : goal.returns-clause-moved
returns-clause-moved c = target_moved

pub returns-clause-one : goal.returns-clause-one
returns-clause-one c = one_is_both
