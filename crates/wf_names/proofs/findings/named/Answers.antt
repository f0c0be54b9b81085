use Rattle.std.proofs.Common.{◌∙◌, ap}
use Rattle.wf_names_scopes.specs.UsesFound.{names_found}
use Rattle.wf_names_scopes.proofs.PackageLemmas.{on_ok}
use Rattle.wf_names.proofs.findings.named.Goals as goal
use Rattle.wf_names_rules.specs.Declarations.{declared_in}

pub declarations-requires-clause-constants : goal.declarations-requires-clause-constants
declarations-requires-clause-constants c = c.requires.tables.constants.places

pub returns-clause-found : goal.returns-clause-found
returns-clause-found c = on_ok c.uses.result (λ last. last ∙ ap (names_found (declared_in c.args.parsed.now)) c.in_ok-declarations.ensures) c.uses.ensures.found
