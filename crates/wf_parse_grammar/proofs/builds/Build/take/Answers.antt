use Rattle.std.proofs.Common.{◌∙◌, ap, append-nil}
use Rattle.wf_parse_grammar.specs.declared.builds.Build.TheVariants.{Take}
use Rattle.wf_parse_grammar.proofs.builds.Build.take.Goals as goal

pub returns : goal.returns
returns c = ap Take (c.of.ensures ∙ append-nil c.args.wants.now)
