use Rattle.wf_parse.proofs.ReadForms.{parsed_is_read}
use Rattle.wf_parse.proofs.forms.what_is_read_is_a_package.Goals as goal

pub returns : goal.returns
returns c = parsed_is_read
