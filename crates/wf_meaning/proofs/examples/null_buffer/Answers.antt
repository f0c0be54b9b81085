use Rattle.std.proofs.Common.{refl}
use Rattle.turns.specs.Run.{run, runs, onward, holding}
use Rattle.wf_meaning.specs.SourceStep.{step, weight, with_some, where_true, either, taking_turn}
use Rattle.wf_meaning.specs.SourceCall.{source_run, source_call, source_init, bodies}
use Rattle.wf_meaning.proofs.examples.null_buffer.Goals as goal

pub returns : goal.returns
unfolding source_run source_call source_init bodies run runs onward holding step weight with_some where_true either taking_turn
returns c = refl
