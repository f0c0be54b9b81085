use Rattle.std.proofs.Common.{refl}
use Rattle.turns.specs.Run.{run, runs, onward, holding}
use Rattle.wf_meaning.specs.SourceStep.{step, weight, with_some, where_true, either, taking_turn}
use Rattle.wf_meaning.specs.SourceCall.{source_run, source_call, source_init, bodies}
use Rattle.wf_ast.specs.TypedPackage.{surface_of}
use Rattle.std.specs.Fmt.{digits}
use Rattle.wf_lower.specs.Unit.{lowered_unit}
use Rattle.wf_lower.proofs.agreement.a_parsers_text_answers_as_its_package.Goals as goal

pub returns-clause-one_piece : goal.returns-clause-one_piece
unfolding source_run source_call source_init bodies run runs onward holding step weight with_some where_true either taking_turn surface_of lowered_unit digits
returns-clause-one_piece c = refl

pub returns-clause-byte_by_byte : goal.returns-clause-byte_by_byte
unfolding source_run source_call source_init bodies run runs onward holding step weight with_some where_true either taking_turn surface_of lowered_unit digits
returns-clause-byte_by_byte c = refl

pub returns-clause-too_large : goal.returns-clause-too_large
unfolding source_run source_call source_init bodies run runs onward holding step weight with_some where_true either taking_turn surface_of lowered_unit digits
returns-clause-too_large c = refl

pub returns-clause-not_ready : goal.returns-clause-not_ready
unfolding source_run source_call source_init bodies run runs onward holding step weight with_some where_true either taking_turn surface_of lowered_unit digits
returns-clause-not_ready c = refl

pub returns-clause-null_buffer : goal.returns-clause-null_buffer
unfolding source_run source_call source_init bodies run runs onward holding step weight with_some where_true either taking_turn surface_of lowered_unit digits
returns-clause-null_buffer c = refl
