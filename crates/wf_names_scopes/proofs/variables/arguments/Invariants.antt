use Rattle.std.proofs.Common.{drop}
use Rattle.wf_ast.specs.ParsedTrees.{expr_trees, fields_at}
use Rattle.wf_names_rules.specs.Declarations.{variables}
use Rattle.wf_names_scopes.specs.Growing.{TellsUpTo}
use Rattle.wf_names_scopes.proofs.variables.arguments.Given as goal

abbrev pub invariant-loop-arg : goal.invariant-loop-arg
invariant-loop-arg l =
    TellsUpTo l.parsed.texts (variables (fields_at (expr_trees l.parsed.exprs) (drop l.arg-index l.args))) (variables (fields_at (expr_trees l.parsed.exprs) l.args)) l.table
