use Rattle.std.specs.Prelude.{[]}
use Rattle.std.proofs.Common.{◌∙◌}
use Rattle.wf_types_stmts.proofs.StatementLemmas.{path_found}
use Rattle.wf_types_stmts.proofs.targets.judged_path.Goals as goal

pub returns-clause-found : goal.returns-clause-found
returns-clause-found c =
    c.tell_target.ensures [] ∙ path_found c.args.around.now c.args.found.now c.args.path
