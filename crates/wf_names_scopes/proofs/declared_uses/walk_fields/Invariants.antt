use Rattle.std.proofs.Common.{◌≡◌, drop}
use Rattle.wf_ast.specs.ParsedTrees.{expr_trees, fields_at}
use Rattle.wf_names_rules.specs.Declarations.{variables}
use Rattle.wf_names_rules.specs.Uses.{variable_uses}
use Rattle.wf_names_rules.specs.Here.{known_here}
use Rattle.wf_names_rules.specs.Judged.{walked}
use Rattle.wf_names_rules.specs.Called.{with_calls}
use Rattle.wf_names_scopes.proofs.declared_uses.walk_fields.Given as goal

abbrev pub invariant-loop-field : goal.invariant-loop-field
invariant-loop-field l =
    (walked (known_here l.here) l.seen (variable_uses (variables (fields_at (expr_trees l.here.parsed.now.exprs) (drop l.field-index l.fields))))
    ≡ walked (known_here l.here) l.fn.seen (variable_uses (variables (fields_at (expr_trees l.here.parsed.now.exprs) l.fields))))
    × (with_calls (known_here l.here) l.row (variable_uses (variables (fields_at (expr_trees l.here.parsed.now.exprs) (drop l.field-index l.fields))))
    ≡ with_calls (known_here l.here) l.fn.row (variable_uses (variables (fields_at (expr_trees l.here.parsed.now.exprs) l.fields))))
