use Rattle.wf_named.specs.NamedParts.{named_package}
use Rattle.wf_names_nodes.proofs.DeclaringLemmas.{const_put}
use Rattle.wf_names_nodes.proofs.adding.put_const.Goals as goal

pub returns : goal.returns
returns c =
    const_put (named_package c.args.nodes.now) (named_package c.resolve_const.new.nodes) (named_package c.push_const.new.self) _ _ c.in_ok-push_const.ensures.«package» c.in_ok-made.ensures.grows.whole c.in_ok-made.ensures.made
