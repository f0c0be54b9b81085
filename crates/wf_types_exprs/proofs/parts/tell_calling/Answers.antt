use Rattle.std.proofs.Common.{refl}
use Rattle.wf_types_exprs.proofs.parts.tell_calling.Goals as goal

pub returns : goal.returns
returns c es =
    let inside = c.args.inside in
    rw (c.tell-4.ensures, c.tell-3.ensures, c.tell-2.ensures, c.tell.ensures)
    (rw (c.impure_call.ensures inside es, c.coroutine_call.ensures inside es, c.call_inside.ensures es, c.wrong_mark.ensures inside es) refl)
