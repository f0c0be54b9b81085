use Rattle.std.proofs.Common.{[], ◌∷◌}
use Rattle.wf_exprs.specs.Helpers.{saturating}
use Rattle.wf_lower.proofs.Texts.{helpers_on, helpers_then}
use Rattle.wf_lower.proofs.lowering.add_widths.Goals as goal

pub returns : goal.returns
returns c =
    let u8 = saturating c.args.is_sum 8 in
    let u16 = saturating c.args.is_sum 16 in
    let u32 = saturating c.args.is_sum 32 in
    let u64 = saturating c.args.is_sum 64 in
    let two = helpers_on _ _ _ c.args.read.now (u8 ∷ []) (u16 ∷ []) c.in_ok-add_helper.ensures c.in_ok-add_helper-2.ensures in
    let three = helpers_on _ _ _ c.args.read.now (u8 ∷ u16 ∷ []) (u32 ∷ []) two c.in_ok-add_helper-3.ensures in
    helpers_then _ _ _ c.args.read.now (u8 ∷ u16 ∷ u32 ∷ []) (u64 ∷ []) c.add_helper-4.result three c.add_helper-4.ensures
