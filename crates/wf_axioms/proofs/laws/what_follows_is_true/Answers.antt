use Rattle.wf_axioms.proofs.Follows.{follows-true}
use Rattle.wf_axioms.proofs.laws.what_follows_is_true.Goals as goal

pub returns : goal.returns
returns k a c s goal given claims h e t i = follows-true c s a goal given claims h e t i
