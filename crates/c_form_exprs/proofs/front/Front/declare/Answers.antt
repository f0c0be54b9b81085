use Rattle.std.proofs.Common.{refl}
use Rattle.c_text.specs.CNodes.{bytes_at}
use Rattle.c_form_exprs.proofs.GrowLemmas.{next_function}
use Rattle.c_form_exprs.proofs.front.Front.declare.Goals as goal

pub declare_function-requires-clause-next : goal.declare_function-requires-clause-next
declare_function-requires-clause-next c =
    let tree = rw c.in-Function.is at c.item.ensures.tree in
    let fits = rw c.in-Function.is at c.item.ensures.fits in
    let callable = rw (c.as_slice-in-Function-2.ensures, c.as_slice-in-Function-3.ensures) at c.in_expressions.ensures (bytes_at c.self.inside.unit.now.names c.in-Function.name.0) in
    rw (← c.self.view_is) (next_function c.self.inside.unit.now c.self.inside.count c.in-Function.linkage c.in-Function.result c.in-Function.name c.in-Function.params c.in-Function.locals c.in-Function.body (record { params = c.as_slice-in-Function.result; result = c.in-Function.result; in_expressions = c.in_expressions.result }) tree fits c.as_slice-in-Function.ensures refl callable)
