use Rattle.wf_mean_laws.proofs.Reached.{answers-have-kinds, refusals-have-kinds}
use Rattle.wf_mean_laws.proofs.laws.answers_have_their_kinds.Goals as goal

pub returns : goal.returns
returns c = record { answers = answers-have-kinds; refusals = refusals-have-kinds }
