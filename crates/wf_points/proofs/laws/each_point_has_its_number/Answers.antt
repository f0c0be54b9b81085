use Rattle.wf_points.proofs.NumberLemmas.{each_point}
use Rattle.wf_points.proofs.laws.each_point_has_its_number.Goals as goal

pub returns : goal.returns
returns c = each_point
