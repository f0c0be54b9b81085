use Rattle.std.proofs.Common.{◌∙◌}
use Rattle.wf_ast.specs.ParsedTrees.{expr_trees}
use Rattle.wf_names_rules.specs.Here.{known_here}
use Rattle.wf_names_scopes.proofs.RowLemmas.{field-called}
use Rattle.wf_names_scopes.proofs.UseLemmas.{field_walked}
use Rattle.wf_names_scopes.proofs.declared_uses.walk_fields.Goals as goal

pub loop-field-preserved : goal.loop-field-preserved
loop-field-preserved c =
    let k = known_here c.args.here.now in
    let es = expr_trees c.args.here.now.parsed.now.exprs in (
      field_walked k es c.loop-field.seen _ c.args.fields.now c.loop-field.field-index c.field-item.result c.field-item.is c.loop-field-test.true c.in_ok-walk_type.ensures.seen ∙ c.loop-field.invariant.0,
      field-called k c.loop-field.row c.walk_type.new.row es c.args.fields.now c.loop-field.field-index c.field-item.result c.field-item.is c.loop-field-test.true c.in_ok-walk_type.ensures.row ∙ c.loop-field.invariant.1,
    )
