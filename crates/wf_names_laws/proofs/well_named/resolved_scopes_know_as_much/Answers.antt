use Rattle.wf_names_laws.proofs.ScopeLemmas.{const-known, struct-known, method-known}
use Rattle.wf_names_laws.proofs.well_named.resolved_scopes_know_as_much.Goals as goal

pub returns-clause-consts : goal.returns-clause-consts
returns-clause-consts c = const-known

pub returns-clause-structs : goal.returns-clause-structs
returns-clause-structs c = struct-known

pub returns-clause-methods : goal.returns-clause-methods
returns-clause-methods c = method-known
