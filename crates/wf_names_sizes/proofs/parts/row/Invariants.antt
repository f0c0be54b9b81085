use Rattle.std.proofs.Common.{◌≡◌, ◌++◌, drop, map}
use Rattle.wf_ast.specs.ParsedTrees.{expr_trees, fields_at}
use Rattle.wf_names_rules.specs.Declarations.{variables, declared_in}
use Rattle.wf_names_sizes.specs.StructSizes.{field_of}
use Rattle.wf_names_sizes.proofs.parts.row.Given as goal

abbrev pub invariant-loop-field : goal.invariant-loop-field
invariant-loop-field l =
    l.row ++ map (field_of (declared_in l.setting.parsed.now)) (variables (fields_at (expr_trees l.setting.parsed.now.exprs) (drop l.field-index l.fields)))
    ≡ map (field_of (declared_in l.setting.parsed.now)) (variables (fields_at (expr_trees l.setting.parsed.now.exprs) l.fields))
