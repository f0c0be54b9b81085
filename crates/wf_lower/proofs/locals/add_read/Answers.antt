use Rattle.std.proofs.Common.{◌∙◌, sym}
use Rattle.wf_lower.proofs.Kept.{locals_push}
use Rattle.wf_lower.proofs.LocalLaws.{read_grown, unread_left}
use Rattle.wf_lower.proofs.locals.add_read.Goals as goal

pub returns-in_ok-local-clause-made : goal.returns-in_ok-local-clause-made
returns-in_ok-local-clause-made c =
    read_grown c.args.read.now _ _ _ _ _ c.push.result (λ reads those. sym c.if-has.true ∙ c.has.ensures reads those) (locals_push _ _ _ _ c.push.result c.zero_named.ensures.grows c.in_ok-local.ensures.made c.push.ensures.ok)

pub returns-else-has-clause-made : goal.returns-else-has-clause-made
returns-else-has-clause-made c = unread_left c.args.read.now c.args.u.now _ _ (λ reads those. sym c.if-has.false ∙ c.has.ensures reads those)
