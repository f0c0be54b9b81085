use Rattle.std.proofs.Common.{refl}
use Rattle.turns.specs.Run.{run, runs, onward, holding}
use Rattle.wf_meaning.specs.SourceStep.{step, weight, with_some, where_true, either, taking_turn}
use Rattle.wf_meaning.specs.SourceCall.{source_run, source_call, source_init, bodies}
use Rattle.wf_ast.specs.TypedPackage.{surface_of}
use Rattle.std.specs.Fmt.{digits}
use Rattle.wf_lower.specs.Unit.{lowered_unit}
use Rattle.wf_lower.proofs.agreement.a_coroutine_that_outlives_its_caller_agrees.Goals as goal

pub returns-clause-form : goal.returns-clause-form
unfolding surface_of lowered_unit digits
returns-clause-form c = refl

pub returns-clause-alike : goal.returns-clause-alike
unfolding source_run source_call source_init bodies run runs onward holding step weight with_some where_true either taking_turn surface_of lowered_unit digits
returns-clause-alike c = refl
