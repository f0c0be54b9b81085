use Rattle.wf_typed_laws.proofs.Owners.{read_methods_have_owners}
use Rattle.wf_typed_laws.proofs.laws.methods_have_structs.Goals as goal

pub returns : goal.returns
returns c = read_methods_have_owners
