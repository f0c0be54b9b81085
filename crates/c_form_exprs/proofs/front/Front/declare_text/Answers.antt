use Rattle.c_text.specs.CNodes.{bytes_at}
use Rattle.c_form_exprs.proofs.GrowLemmas.{after_text}
use Rattle.c_form_exprs.proofs.front.Front.declare_text.Goals as goal

pub invariant_of-self-2 : goal.invariant_of-self-2
invariant_of-self-2 c =
    let next = rw (← c.self.view_is) at c.requires.next in
    rw (c.next-next.ensures, ← c.self.view_is) (after_text c.self.inside.unit.now c.self.inside.count c.self.inside.structs c.self.inside.fields.items c.self.inside.texts c.self.inside.functions c.self.invariant (bytes_at c.self.inside.unit.now.names c.args.name.0) next.0 c.in_ok-add.field-0 c.add.new.self next.1 c.in_ok-add.ensures.names (rw c.self.invariant.texts.names at c.in_ok-add.ensures.fresh) (rw c.self.invariant.texts.names at c.in_ok-add.ensures.added))
