use Rattle.wf_named.specs.NamedParts.{named_package}
use Rattle.wf_names_nodes.proofs.DeclaringLemmas.{struct_put}
use Rattle.wf_names_nodes.proofs.adding.put_struct.Goals as goal

pub returns : goal.returns
returns c =
    struct_put (named_package c.args.nodes.now) (named_package c.resolve_struct.new.nodes) (named_package c.push_struct.new.self) _ _ c.in_ok-push_struct.ensures.«package» c.in_ok-made.ensures.grows.whole c.in_ok-made.ensures.made
