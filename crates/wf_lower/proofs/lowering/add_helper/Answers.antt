use Rattle.std.proofs.Common.{◌∙◌, sym}
use Rattle.wf_base.specs.BaseTable.{bits_of}
use Rattle.wf_exprs.specs.Helpers.{saturating}
use Rattle.wf_lower.proofs.Texts.{helper_unused, helper_used}
use Rattle.wf_lower.proofs.lowering.add_helper.Goals as goal

pub returns-then-has : goal.returns-then-has
returns-then-has c = helper_used c.args.u.now _ _ c.args.read.now _ (saturating c.args.is_sum (bits_of c.args.width)) c.is_sound.ensures c.saturating_name.ensures.grows c.in_ok-name.ensures.made c.put_saturating.result (λ reads those. sym c.if-has.true ∙ c.has.ensures reads those) c.put_saturating.ensures

pub returns-else-has : goal.returns-else-has
returns-else-has c = helper_unused c.args.u.now _ c.args.u.now c.args.read.now _ (saturating c.args.is_sum (bits_of c.args.width)) c.is_sound.ensures c.saturating_name.ensures.grows c.in_ok-name.ensures.made (λ reads those. sym c.if-has.false ∙ c.has.ensures reads those)
