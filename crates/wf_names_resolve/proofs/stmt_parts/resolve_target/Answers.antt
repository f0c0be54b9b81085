use Rattle.std.proofs.Common.{ap}
use Rattle.wf_named.specs.NamedTree as tree
use Rattle.wf_names_resolve.proofs.Growth.{grows_self}
use Rattle.wf_names_resolve.proofs.stmt_parts.resolve_target.Goals as goal

pub returns-in-Path-clause-grows : goal.returns-in-Path-clause-grows
returns-in-Path-clause-grows c = grows_self c.args.nodes.now

pub returns-in-Path-clause-made : goal.returns-in-Path-clause-made
returns-in-Path-clause-made c = rw c.in-Path.is (ap tree.to_path (c.path.ensures c.args.here.now.parsed.now.texts))

pub returns-in_ok-index-in-Element-clause-made : goal.returns-in_ok-index-in-Element-clause-made
returns-in_ok-index-in-Element-clause-made c =
    let base = c.path-array.ensures c.args.here.now.parsed.now.texts in
    let place = c.in_ok-index-in-Element.ensures.made in
    rw c.in-Element.is (cc (base, place))
