use Rattle.std.proofs.Common.{◌≡◌, drop, map}
use Rattle.wf_text.specs.Precedence.{soonest}
use Rattle.wf_ast.specs.ParsedTrees.{expr_trees, fields_at}
use Rattle.wf_names_rules.specs.Declarations.{variables}
use Rattle.wf_names_sizes.specs.ValuesBy.{value_in}
use Rattle.wf_names_sizes.specs.LongArrays.{too_long_array_by}
use Rattle.wf_names_sizes.proofs.arrays.long_fields.Given as goal

abbrev pub invariant-loop-field : goal.invariant-loop-field
invariant-loop-field l =
    soonest l.found (map (too_long_array_by (value_in l.env)) (variables (fields_at (expr_trees l.env.parsed.now.exprs) (drop l.field-index l.fields))))
    ≡ soonest l.fn.found (map (too_long_array_by (value_in l.env)) (variables (fields_at (expr_trees l.env.parsed.now.exprs) l.fields)))
