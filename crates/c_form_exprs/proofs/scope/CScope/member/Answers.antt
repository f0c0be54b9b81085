use Rattle.std.proofs.Common.{Some, ap, subst}
use Rattle.std.specs.Option.{option_and_then}
use Rattle.c_text.specs.CNodes.{bytes_at}
use Rattle.c_meaning.specs.CTypes.{structs_of, struct_named, field_named}
use Rattle.c_form_exprs.specs.Front.{Front, Within, Finds, IsField, front_items, scope_in}
use Rattle.c_form_exprs.proofs.ScopeLemmas.{member_found}
use Rattle.c_form_exprs.proofs.scope.CScope.member.Goals as goal

pub returns-in_ok-found-in-Some-PointsTo-Object : goal.returns-in_ok-found-in-Some-PointsTo-Object
returns-in_ok-found-in-Some-PointsTo-Object c =
    let some = c.in-Some-PointsTo-Object.is in
    let points = rw some at c.in-Some-PointsTo-Object.field-0-is in
    let within = rw some at c.in-Some-PointsTo-Object.field-0-0-is in
    let object = rw points at within in
    let found = subst (λ (f : Front). Finds (IsField f.nodes) (Some c.in_ok-found-in-Some-PointsTo-Object.found) (option_and_then (λ it. field_named it.fields (bytes_at f.nodes.names c.args.field.0)) (struct_named (structs_of (front_items f)) (bytes_at f.nodes.names c.in-Some-PointsTo-Object.struct_name.0)))) (ap (λ (w : Within). w.front) c.self.view_is) c.in_ok-found-in-Some-PointsTo-Object.ensures in
    rw (some, points, object) (member_found c.args.self.now.front.nodes (scope_in c.args.self.now) (bytes_at c.args.self.now.front.nodes.names c.in-Some-PointsTo-Object.struct_name.0) (bytes_at c.args.self.now.front.nodes.names c.args.field.0) c.in_ok-found-in-Some-PointsTo-Object.found c.field_held.result found c.field_held.ensures.tells c.field_held.ensures.has)
