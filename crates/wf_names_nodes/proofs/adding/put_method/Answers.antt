use Rattle.wf_named.specs.NamedParts.{named_package}
use Rattle.wf_names_nodes.proofs.DeclaringLemmas.{method_put}
use Rattle.wf_names_nodes.proofs.adding.put_method.Goals as goal

pub returns : goal.returns
returns c =
    method_put (named_package c.args.nodes.now) (named_package c.resolve_method.new.nodes) (named_package c.push_method.new.self) _ _ c.in_ok-push_method.ensures.«package» c.in_ok-made.ensures.grows.whole c.in_ok-made.ensures.made
