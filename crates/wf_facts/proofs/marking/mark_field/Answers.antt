use Rattle.std.proofs.Common.{arith}
use Rattle.wf_ast.specs.declared.typed_code.Expr.TheVariants as exprs
use Rattle.wf_ast.specs.SameNodes.{head_mentions}
use Rattle.wf_facts.proofs.MarkLemmas.{field_named, field-one}
use Rattle.wf_facts.proofs.marking.mark_field.Goals as goal

pub returns-in-Field : goal.returns-in-Field
returns-in-Field c ty k low =
    rw c.in-Field.is (field-one c.args.n k c.field_set.result (λ x. head_mentions x ty (exprs.Field c.in-Field.x)) c.args.fields.now c.insert.new.self (omega (arith, low)) c.insert.ensures
    (field_named c.in-Field.x ty c.field_set.result c.field_set.ensures.number))
