use Rattle.wf_names_laws.proofs.DeclLaws.{consts-named, structs-named, methods-named}
use Rattle.wf_names_laws.proofs.well_named.declarations_are_well_named.Goals as goal

pub returns-clause-consts : goal.returns-clause-consts
returns-clause-consts c = consts-named

pub returns-clause-structs : goal.returns-clause-structs
returns-clause-structs c = structs-named

pub returns-clause-methods : goal.returns-clause-methods
returns-clause-methods c = methods-named
