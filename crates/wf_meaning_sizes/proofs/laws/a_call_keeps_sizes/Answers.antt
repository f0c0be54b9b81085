use Rattle.wf_meaning_sizes.proofs.SizeSteps.{entry-same}
use Rattle.wf_meaning_sizes.proofs.laws.a_call_keeps_sizes.Goals as goal

pub returns : goal.returns
returns c p m number args n left w it e = entry-same p m number args n left w it e
