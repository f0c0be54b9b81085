use Rattle.std.proofs.Common.{ap}
use Rattle.wf_base.specs.BaseTable.{bits_of}
use Rattle.wf_exprs.specs.Exprs.{cut_off}
use Rattle.wf_exprs.proofs.Growing.{retell}
use Rattle.wf_exprs.proofs.rated.cut_off_two.Goals as goal

pub returns-clause-made : goal.returns-clause-made
returns-clause-made c = retell _ _ _ c.cut_off.result (ap (cut_off (bits_of c.args.width)) c.in_ok-whole.ensures.made.is) c.cut_off.ensures.made
