use Rattle.std.proofs.Common.{refl}
use Rattle.wf_lower.proofs.FlagLaws.{sets_one}
use Rattle.wf_lower.proofs.flags.set.Goals as goal

pub returns-clause-marks : goal.returns-clause-marks
returns-clause-marks c = sets_one c.args.n c.args.flags.now.items _ c.requires refl
