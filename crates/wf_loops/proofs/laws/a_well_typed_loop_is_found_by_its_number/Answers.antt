use Rattle.wf_loops.proofs.NodeLemmas.{condition_found, loop_found, head_found, place_found}
use Rattle.wf_loops.proofs.laws.a_well_typed_loop_is_found_by_its_number.Goals as goal

pub returns-clause-condition : goal.returns-clause-condition
returns-clause-condition k nodes c e typed h well = condition_found nodes typed c e h well

pub returns-clause-is_loop : goal.returns-clause-is_loop
returns-clause-is_loop k nodes c w node head body typed h is well = loop_found nodes typed c w node head body h is well

pub returns-clause-head : goal.returns-clause-head
returns-clause-head k nodes w node head body h is = head_found nodes w node head body h is

pub returns-clause-place : goal.returns-clause-place
returns-clause-place k nodes w node h = place_found nodes w node h
