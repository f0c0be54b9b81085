use Rattle.wf_names.proofs.NamingLemmas.{resolved-named}
use Rattle.wf_names.proofs.resolving.resolved.Goals as goal

pub new-requires : goal.new-requires
new-requires c = resolved-named c.args.parsed.now c.in_ok-nodes.nodes c.requires.read c.in_ok-nodes.ensures
