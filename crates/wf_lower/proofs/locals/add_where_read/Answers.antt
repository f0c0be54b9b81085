use Rattle.std.proofs.Common.{◌∙◌, sym, refl}
use Rattle.wf_exprs.proofs.Growing.{unchanged}
use Rattle.wf_lower.proofs.Kept.{locals_push}
use Rattle.wf_lower.proofs.LocalLaws.{read_added, unread_left}
use Rattle.wf_lower.proofs.locals.add_where_read.Goals as goal

pub returns-then-has : goal.returns-then-has
returns-then-has c =
    read_added c.args.read.now c.args.u.now _ _ _ c.push.result (λ reads those. sym c.if-has.true ∙ c.has.ensures reads those)
    (locals_push _ _ _ _ c.push.result (unchanged _ _ refl) (record { there = c.requires; is = refl }) c.push.ensures.ok)

pub returns-else-has : goal.returns-else-has
returns-else-has c = unread_left c.args.read.now c.args.u.now _ _ (λ reads those. sym c.if-has.false ∙ c.has.ensures reads those)
