use Rattle.std.proofs.Common.{◌∙◌}
use Rattle.wf_exprs_nodes.proofs.MarkLaws.{flag_of}
use Rattle.wf_exprs_nodes.proofs.marks.ReadNames.has.Goals as goal

pub returns : goal.returns
returns c = λ reads those. c.flag.ensures ∙ flag_of c.args.u.now.names c.names-known.ensures.unique c.args.name.0 c.args.self.now c.requires reads those
