use Rattle.wf_points.proofs.NumberLemmas.{only_points}
use Rattle.wf_points.proofs.laws.only_points_have_numbers.Goals as goal

pub returns : goal.returns
returns c = only_points
