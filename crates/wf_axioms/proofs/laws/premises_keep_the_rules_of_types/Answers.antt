use Rattle.wf_axioms.proofs.Follows.{premises-well}
use Rattle.wf_axioms.proofs.laws.premises_keep_the_rules_of_types.Goals as goal

pub returns : goal.returns
returns k a c goal given claims h w e = premises-well a c goal given claims h w e
