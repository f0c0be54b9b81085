use Rattle.wf_names_scope_laws.proofs.Meanings.{names-have-meanings}
use Rattle.wf_names_scope_laws.proofs.laws.names_have_meanings.Goals as goal

pub returns : goal.returns
returns c = names-have-meanings
