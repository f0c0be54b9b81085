use Rattle.wf_typed_const_laws.proofs.Lengths.{read_constants_have_one_value}
use Rattle.wf_typed_const_laws.proofs.laws.constants_have_one_value.Goals as goal

pub returns : goal.returns
returns c = read_constants_have_one_value
