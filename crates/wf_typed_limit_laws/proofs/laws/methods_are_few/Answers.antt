use Rattle.wf_typed_limit_laws.proofs.Methods.{read_methods_are_few}
use Rattle.wf_typed_limit_laws.proofs.laws.methods_are_few.Goals as goal

pub returns : goal.returns
returns c = read_methods_are_few
