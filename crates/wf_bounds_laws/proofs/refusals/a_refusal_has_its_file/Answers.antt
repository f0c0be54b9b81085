use Rattle.wf_bounds_laws.proofs.RefusalFiles.{bounds_have_files, points_have_files, read_bounds_have_files, read_points_have_files}
use Rattle.wf_bounds_laws.proofs.refusals.a_refusal_has_its_file.Goals as goal

pub returns-clause-bounds : goal.returns-clause-bounds
returns-clause-bounds c = bounds_have_files

pub returns-clause-points : goal.returns-clause-points
returns-clause-points c = points_have_files

pub returns-clause-read_bounds : goal.returns-clause-read_bounds
returns-clause-read_bounds c = read_bounds_have_files

pub returns-clause-read_points : goal.returns-clause-read_points
returns-clause-read_points c = read_points_have_files
