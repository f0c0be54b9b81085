use Rattle.std.proofs.Common.{map, arith}
use Rattle.c_text.specs.CNodes.{bytes_at, field_tree}
use Rattle.c_form_exprs.proofs.GrowLemmas.{fields_more, after_new_struct}
use Rattle.c_form_exprs.proofs.front.Front.declare_struct.Goals as goal

pub invariant_of-self-2 : goal.invariant_of-self-2
invariant_of-self-2 c =
    let next = rw (← c.self.view_is) at c.requires.next in
    rw (c.next-next.ensures, ← c.self.view_is) (after_new_struct c.self.inside.unit.now c.self.inside.count c.self.inside.structs c.self.inside.fields.items c.self.inside.texts c.self.inside.functions c.self.invariant (map (field_tree c.self.inside.unit.now.names) c.args.fields.now) (bytes_at c.self.inside.unit.now.names c.args.name.0) c.in_ok-table.table c.push.new.self.items c.len-k.result c.in_ok-add.field-0 c.add.new.self next c.in_ok-table.ensures.names c.in_ok-table.ensures.tells c.in_ok-push.ensures.items (omega (arith, c.len-k.ensures, c.self.inside.fields.ok)) c.in_ok-add.ensures.names (rw c.self.invariant.structs.names at c.in_ok-add.ensures.fresh) (rw c.self.invariant.structs.names at c.in_ok-add.ensures.added))

pub invariant_of-self-in_err-add : goal.invariant_of-self-in_err-add
invariant_of-self-in_err-add c = rw (c.in_err-add.ensures.err, c.in_ok-push.ensures.items) (fields_more c.self.inside.unit.now c.self.inside.count c.self.inside.structs c.self.inside.fields.items c.self.inside.texts c.self.inside.functions c.self.invariant c.in_ok-table.table)
