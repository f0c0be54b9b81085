use Rattle.std.proofs.Common.{refl}
use Rattle.wf_exprs.proofs.Growing.{unchanged}
use Rattle.wf_lower.proofs.Kept.{locals_after, locals_push}
use Rattle.wf_lower.proofs.LocalLaws.{first_of, no_locals_as, second_of}
use Rattle.wf_lower.proofs.locals.add_resume.Goals as goal

pub returns-in_ok-resume-clause-made : goal.returns-in_ok-resume-clause-made
returns-in_ok-resume-clause-made c =
    locals_after _ _ _ _ _ _ _ c.push.result (unchanged _ _ refl) (first_of _ _ _ c.if-is_coroutine.ensures) (locals_push _ _ _ _ c.push.result c.resume_local.ensures.grows c.in_ok-resume.ensures.made c.push.ensures.ok)

pub returns-else-is_coroutine-clause-made : goal.returns-else-is_coroutine-clause-made
returns-else-is_coroutine-clause-made c = no_locals_as _ _ (second_of _ _ _ c.if-is_coroutine.ensures) (unchanged _ _ refl)
