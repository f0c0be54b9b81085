use Rattle.wf_names_laws.proofs.ExprLaws.{expr-named, made-named, type-named}
use Rattle.wf_names_laws.proofs.StmtLaws.{block-named}
use Rattle.wf_names_laws.proofs.well_named.what_keeps_the_rules_is_well_named.Goals as goal

pub returns-clause-exprs : goal.returns-clause-exprs
returns-clause-exprs c = expr-named

pub returns-clause-calls : goal.returns-clause-calls
returns-clause-calls c = made-named

pub returns-clause-types : goal.returns-clause-types
returns-clause-types c = type-named

pub returns-clause-blocks : goal.returns-clause-blocks
returns-clause-blocks c = block-named
