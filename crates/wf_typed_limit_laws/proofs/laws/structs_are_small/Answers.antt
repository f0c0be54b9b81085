use Rattle.wf_typed_limit_laws.proofs.SmallStructs.{read_structs_are_small}
use Rattle.wf_typed_limit_laws.proofs.laws.structs_are_small.Goals as goal

pub returns : goal.returns
returns c = read_structs_are_small
