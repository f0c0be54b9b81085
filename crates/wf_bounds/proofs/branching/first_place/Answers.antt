use Rattle.wf_bounds.proofs.ComingLemmas.{site_place}
use Rattle.wf_bounds.proofs.branching.first_place.Goals as goal

pub returns : goal.returns
returns c = site_place c.args.t.now c.args.s c.stmt_place.result c.stmt_place.ensures
