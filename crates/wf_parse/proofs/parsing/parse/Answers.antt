use Rattle.std.proofs.Common.{map}
use Rattle.wf_parse.proofs.ReadForms.{parsed_is_read}
use Rattle.wf_parse.proofs.parsing.parse.Goals as goal

pub new-requires : goal.new-requires
new-requires c = parsed_is_read c.args.name.now (map (λ file. file.items) c.args.files.now) c.in_ok-nodes.nodes c.in_ok-nodes.ensures
