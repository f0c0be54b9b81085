use Rattle.std.proofs.Common.{true, false}
use Rattle.wf_lower.specs.Parts.{saturating_widths}
use Rattle.wf_lower.proofs.Texts.{helpers_then}
use Rattle.wf_lower.proofs.lowering.add_helpers.Goals as goal

pub returns : goal.returns
returns c = helpers_then _ _ _ c.args.read.now (saturating_widths true) (saturating_widths false) c.add_widths-2.result c.in_ok-add_widths.ensures c.add_widths-2.ensures
