use Rattle.std.proofs.Common.{◌<◌, length, sym, ◌∙◌, arith}
use Rattle.c_form.proofs.DemandLemmas.{found_item, struct_fails, struct_passes, struct_missing}
use Rattle.c_form.proofs.demands.Demands.ask_struct.Goals as goal

pub is_struct-requires : goal.is_struct-requires
is_struct-requires c = found_item c.self.inside.unit.now c.args.name.now c.in-Some.i (sym (c.self.invariant.1 c.args.name.now) ∙ (sym c.get.ensures ∙ c.in-Some.is))

pub index_mut-requires : goal.index_mut-requires
index_mut-requires c =
    let within : c.in-Some.i < length c.self.inside.unit.now.items = found_item c.self.inside.unit.now c.args.name.now c.in-Some.i (sym (c.self.invariant.1 c.args.name.now) ∙ (sym c.get.ensures ∙ c.in-Some.is)) in
    omega (arith, within, c.self.invariant.0, c.self.inside.met.ok)

pub returns-then-not-is_struct : goal.returns-then-not-is_struct
returns-then-not-is_struct c = rw (← c.self.view_is) (struct_fails c.self.inside.unit.now c.self.inside.met.items c.self.inside.complete c.args.name.now c.in-Some.i (sym (c.self.invariant.1 c.args.name.now) ∙ (sym c.get.ensures ∙ c.in-Some.is)) c.if-not-is_struct.ensures c.self.invariant.0)

pub returns-else-not-is_struct : goal.returns-else-not-is_struct
returns-else-not-is_struct c = rw (← c.self.view_is) (struct_passes c.self.inside.unit.now c.self.inside.met.items c.self.inside.complete c.args.name.now c.in-Some.i (sym (c.self.invariant.1 c.args.name.now) ∙ (sym c.get.ensures ∙ c.in-Some.is)) c.if-not-is_struct.ensures)

pub returns-in-None : goal.returns-in-None
returns-in-None c = rw (← c.self.view_is) (struct_missing c.self.inside.unit.now c.self.inside.met.items c.self.inside.complete c.args.name.now (sym (c.self.invariant.1 c.args.name.now) ∙ (sym c.get.ensures ∙ c.in-None.is)))
