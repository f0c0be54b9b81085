use Rattle.wf_names_resolve.proofs.Growth.{grows_self}
use Rattle.wf_names_nodes.proofs.variables.resolve_result.Goals as goal

pub returns-in-None-clause-grows : goal.returns-in-None-clause-grows
returns-in-None-clause-grows c = grows_self c.args.nodes.now
