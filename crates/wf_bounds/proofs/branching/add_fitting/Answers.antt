use Rattle.wf_bounds.proofs.ComingLemmas.{no_room_fits}
use Rattle.wf_bounds.proofs.branching.add_fitting.Goals as goal

pub unreachable-requires : goal.unreachable-requires
unreachable-requires c = no_room_fits _ _ _ c.requires.fits c.in-Err.ensures.full
