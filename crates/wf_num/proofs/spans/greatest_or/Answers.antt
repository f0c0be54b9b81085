use Rattle.std.proofs.Common.{bit_or}
use Rattle.wf_num.proofs.ExtremeLaws.{greatest-same}
use Rattle.wf_num.proofs.spans.greatest_or.Goals as goal

pub returns : goal.returns
returns c = greatest-same bit_or _ _ _ c.requires.xs c.requires.ys c.max_or.ensures.greatest
