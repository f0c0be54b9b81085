use Rattle.wf_parse_laws.proofs.Files.{read-or-refused}
use Rattle.wf_parse_laws.proofs.laws.files_are_read_or_refused.Goals as goal

pub returns : goal.returns
returns c = read-or-refused
