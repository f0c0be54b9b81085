use Rattle.c_meaning.proofs.TypedLaws.{function_typed}
use Rattle.c_meaning.proofs.laws.memory_keeps_types_and_shapes.Goals as goal

pub returns : goal.returns
returns c = function_typed
