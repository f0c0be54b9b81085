use Rattle.std.proofs.Common.{◌∙◌, ap, append-nil}
use Rattle.wf_parse_grammar.specs.declared.builds.Build.TheVariants.{Enter}
use Rattle.wf_parse_grammar.proofs.builds.Build.enter.Goals as goal

pub returns : goal.returns
returns c = ap Enter (c.of.ensures ∙ append-nil c.args.wants.now)
