use Rattle.std.proofs.Common.{◌≡◌, drop, []}
use Rattle.wf_text.specs.Precedence.{soonest}
use Rattle.wf_ast.specs.ParsedTrees.{expr_trees, given_at}
use Rattle.wf_names_rules.specs.Meanings.{given_values}
use Rattle.wf_names_rules.specs.Judged.{passed_twice, io_passed_twice}
use Rattle.wf_names_rules.specs.Tables.{arg_sort_at}
use Rattle.wf_names_rules.proofs.arguments.passed_twice.Given as goal

abbrev pub invariant-loop-given : goal.invariant-loop-given
invariant-loop-given l =
    soonest l.found (io_passed_twice (arg_sort_at l.tables l.scope.method) l.seen.keys (given_values (given_at (expr_trees l.parsed.exprs) (drop l.given-index l.args))))
    ≡ soonest l.fn.found (passed_twice (arg_sort_at l.tables l.scope.method) [] (given_values (given_at (expr_trees l.parsed.exprs) l.args)))
