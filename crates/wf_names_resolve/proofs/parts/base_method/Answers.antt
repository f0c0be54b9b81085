use Rattle.std.proofs.Common.{ap}
use Rattle.wf_named.specs.declared.nodes.NamedCallee.{NamedCallee}
use Rattle.wf_named.specs.declared.nodes.NamedCallee.TheVariants as callees
use Rattle.wf_named.specs.declared.nodes.NamedPath.{NamedPath}
use Rattle.wf_names_resolve.proofs.parts.base_method.Goals as goal

pub returns-in-Path : goal.returns-in-Path
returns-in-Path c = λ texts. let made : NamedPath → NamedCallee = λ p. callees.Base p c.args.sig in rw c.in-Path.is (ap made (c.path.ensures texts))
