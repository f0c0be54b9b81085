use Rattle.std.proofs.Common.{drop}
use Rattle.wf_ast.specs.ParsedTrees.{expr_trees, fields_at}
use Rattle.wf_names_rules.specs.Declarations.{variables}
use Rattle.wf_names_resolve.specs.Standing.{standing_here}
use Rattle.wf_names_nodes.proofs.DeclaringLemmas.{VariablesMade}
use Rattle.wf_names_nodes.proofs.variables.resolve_fields.Given as goal

abbrev pub invariant-loop-field : goal.invariant-loop-field
invariant-loop-field l =
    VariablesMade (standing_here l.here) (variables (fields_at (expr_trees l.here.parsed.now.exprs) (drop l.field-index l.fields))) (variables (fields_at (expr_trees l.here.parsed.now.exprs) l.fields)) l.fn.nodes l.nodes l.made
