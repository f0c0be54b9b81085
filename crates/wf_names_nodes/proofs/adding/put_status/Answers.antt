use Rattle.wf_named.specs.NamedParts.{named_package}
use Rattle.wf_names_nodes.proofs.DeclaringLemmas.{status_put}
use Rattle.wf_names_nodes.proofs.adding.put_status.Goals as goal

pub returns : goal.returns
returns c =
    status_put (named_package c.args.nodes.now) (named_package c.named_word.new.nodes) (named_package c.push_status.new.self) _ _ c.in_ok-push_status.ensures.«package» c.in_ok-text.ensures.grows.whole c.in_ok-text.ensures.made
