use Rattle.wf_bounds_stmts.proofs.PassLemmas.{node_makes, node_alone, node_place, node_receiver}
use Rattle.wf_bounds_stmts.proofs.laws.a_statement_without_blocks_is_found_by_its_number.Goals as goal

pub returns-clause-makes : goal.returns-clause-makes
returns-clause-makes c = node_makes

pub returns-clause-alone : goal.returns-clause-alone
returns-clause-alone c = node_alone

pub returns-clause-place : goal.returns-clause-place
returns-clause-place c = node_place

pub returns-clause-receiver : goal.returns-clause-receiver
returns-clause-receiver c = node_receiver
