use Rattle.std.proofs.Common.{refl}
use Rattle.wf_exprs.proofs.Growing.{unchanged}
use Rattle.wf_lower.proofs.Kept.{locals_after, locals_push, locals_then, one_local}
use Rattle.wf_lower.proofs.LocalLaws.{first_of, no_locals_as, second_of}
use Rattle.wf_lower.proofs.locals.add_io.Goals as goal

pub returns-in_ok-end-clause-made : goal.returns-in_ok-end-clause-made
returns-in_ok-end-clause-made c =
    let place = one_local _ _ _ _ c.in_ok-push.ensures.ok c.place_local.ensures.grows c.in_ok-place.ensures.made in
    let end = locals_push _ _ _ _ c.push-then-is_io.result c.end_local.ensures.grows c.in_ok-end.ensures.made c.push-then-is_io.ensures.ok in
    locals_after _ _ _ _ _ _ _ c.push-then-is_io.result (unchanged _ _ refl) (first_of _ _ _ c.if-is_io.ensures) (locals_then _ _ _ _ _ _ _ _ c.push-then-is_io.result place end)

pub returns-else-is_io-clause-made : goal.returns-else-is_io-clause-made
returns-else-is_io-clause-made c = no_locals_as _ _ (second_of _ _ _ c.if-is_io.ensures) (unchanged _ _ refl)
