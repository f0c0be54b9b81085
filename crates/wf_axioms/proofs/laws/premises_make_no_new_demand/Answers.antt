use Rattle.wf_axioms.proofs.Follows.{premises-fine}
use Rattle.wf_axioms.proofs.laws.premises_make_no_new_demand.Goals as goal

pub returns : goal.returns
returns k a known goal given claims h w e = premises-fine a known goal given claims h w e
