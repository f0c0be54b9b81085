use Rattle.wf_typed_limit_laws.proofs.SmallStructs.{bytes_are_one}
use Rattle.wf_typed_limit_laws.proofs.laws.bytes_are_one.Goals as goal

pub returns : goal.returns
returns c = bytes_are_one
