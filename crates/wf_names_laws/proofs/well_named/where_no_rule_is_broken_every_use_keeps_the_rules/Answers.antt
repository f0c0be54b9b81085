use Rattle.wf_names_laws.proofs.KeptLaws.{nothing-found, sites-kept, jumps-kept}
use Rattle.wf_names_laws.proofs.well_named.where_no_rule_is_broken_every_use_keeps_the_rules.Goals as goal

pub returns-clause-none : goal.returns-clause-none
returns-clause-none c = nothing-found

pub returns-clause-kept : goal.returns-clause-kept
returns-clause-kept c = sites-kept

pub returns-clause-loops : goal.returns-clause-loops
returns-clause-loops c = jumps-kept
