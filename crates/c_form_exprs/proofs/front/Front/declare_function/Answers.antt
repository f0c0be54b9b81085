use Rattle.c_text.specs.CNodes.{bytes_at}
use Rattle.c_form_exprs.proofs.GrowLemmas.{after_function}
use Rattle.c_form_exprs.proofs.front.Front.declare_function.Goals as goal

pub invariant_of-self-2 : goal.invariant_of-self-2
invariant_of-self-2 c =
    let next = rw (← c.self.view_is) at c.requires.next in
    rw (c.next-next.ensures, ← c.self.view_is) (after_function c.self.inside.unit.now c.self.inside.count c.self.inside.structs c.self.inside.fields.items c.self.inside.texts c.self.inside.functions c.self.invariant next.it (bytes_at c.self.inside.unit.now.names c.args.name.0) c.args.head c.in_ok-add.field-0 c.add.new.self next.named next.is next.tells c.in_ok-add.ensures.names (rw c.self.invariant.functions.names at c.in_ok-add.ensures.fresh) (rw c.self.invariant.functions.names at c.in_ok-add.ensures.added))
