use Rattle.wf_typed_const_laws.proofs.Lengths.{read_arrays_are_bounded}
use Rattle.wf_typed_const_laws.proofs.laws.array_lengths_are_bounded.Goals as goal

pub returns : goal.returns
returns c = read_arrays_are_bounded
