use Rattle.std.proofs.Common.{◌∙◌, ap}
use Rattle.wf_text.specs.Precedence.{soonest}
use Rattle.wf_ast.specs.ParsedTrees.{expr_trees, given_at}
use Rattle.wf_names_rules.specs.Meanings.{given_values}
use Rattle.wf_names_rules.specs.Judged.{io_passed_twice}
use Rattle.wf_names_rules.specs.Tables.{arg_sort_at}
use Rattle.wf_names_rules.proofs.PassedLemmas.{io-passed-same}
use Rattle.wf_names_rules.proofs.arguments.passed_twice.Goals as goal

pub loop-given-init : goal.loop-given-init
loop-given-init c =
    let arg = arg_sort_at c.args.tables.now c.args.scope.now.method in
    let values = given_values (given_at (expr_trees c.args.parsed.now.exprs) c.args.args.now) in
    ap (λ keys. soonest c.args.found.now (io_passed_twice arg keys values)) c.new-seen.ensures.empty ∙ ap (soonest c.args.found.now) (io-passed-same arg values)
