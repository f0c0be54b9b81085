use Rattle.std.proofs.Common.{ap}
use Rattle.wf_named.specs.declared.nodes.NamedPath.{NamedPath}
use Rattle.wf_named.specs.declared.nodes.Variable.{Variable}
use Rattle.wf_names_resolve.proofs.parts.path.Goals as goal

pub returns : goal.returns
returns c = λ texts. let made : Variable → NamedPath = λ v. record { of = v; at = c.args.path.at } in ap made (c.variable.ensures texts)
