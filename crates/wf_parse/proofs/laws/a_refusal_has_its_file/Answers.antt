use Rattle.wf_parse.proofs.RefusalPlaces.{refusals_have_files}
use Rattle.wf_parse.proofs.laws.a_refusal_has_its_file.Goals as goal

pub returns : goal.returns
returns c = refusals_have_files
