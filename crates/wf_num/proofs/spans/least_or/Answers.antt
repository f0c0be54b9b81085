use Rattle.std.proofs.Common.{bit_or}
use Rattle.wf_num.proofs.ExtremeLaws.{least-same}
use Rattle.wf_num.proofs.spans.least_or.Goals as goal

pub returns : goal.returns
returns c = least-same bit_or _ _ _ c.requires.xs c.requires.ys c.min_or.ensures.least
