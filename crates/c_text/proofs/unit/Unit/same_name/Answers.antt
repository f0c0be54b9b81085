use Rattle.std.proofs.Common.{◌∙◌}
use Rattle.c_text.proofs.Names.{same_names}
use Rattle.c_text.proofs.unit.Unit.same_name.Goals as goal

pub returns : goal.returns
returns c = c.eq.ensures ∙ same_names _ c.names-known.ensures.unique c.args.a.0 c.args.b.0 c.requires.first c.requires.second
