use Rattle.wf_points.proofs.OnceLemmas.{stand_once, stands_in_one}
use Rattle.wf_points.proofs.laws.each_statement_stands_once.Goals as goal

pub returns-clause-points : goal.returns-clause-points
returns-clause-points c = stand_once

pub returns-clause-methods : goal.returns-clause-methods
returns-clause-methods c nodes s typed low = stands_in_one nodes typed s low
