use Rattle.c_step_load_exprs.proofs.NameLemmas.{field_here}
use Rattle.c_step_load_exprs.proofs.names.Names.field.Goals as goal

pub returns-in-Some-PointsTo-Object : goal.returns-in-Some-PointsTo-Object
returns-in-Some-PointsTo-Object c =
    let some = c.in-Some-PointsTo-Object.is in
    let points = rw some at c.in-Some-PointsTo-Object.field-0-is in
    let within = rw some at c.in-Some-PointsTo-Object.field-0-0-is in
    let object = rw points at within in
    rw (some, points, object) (field_here c.args.self.now.scope.now c.args.self.now.numbers.now c.requires.knows c.in-Some-PointsTo-Object.struct_name.0 c.args.field.0 c.field.result c.field.ensures)
