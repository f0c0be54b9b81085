use Rattle.std.proofs.lemmas.Result.{on_ok_weaker}
use Rattle.std.proofs.Common.{◌≡◌, ◌∙◌}
use Rattle.wf_parse_nodes.specs.Products as makes
use Rattle.wf_parse_nodes.specs.Makers.{made}
use Rattle.wf_parse_nodes.proofs.Performing.{put_on, push_performed, push_parts}
use Rattle.wf_parse_nodes.proofs.maker.Maker.push.Goals as goal

pub put_value-requires-clause-parts : goal.put_value-requires-clause-parts
put_value-requires-clause-parts c = push_parts c.args.self.now c.args.action c.pushed-value.result c.requires.pushes c.pushed-value.ensures c.requires.sound.below

pub returns-clause-made : goal.returns-clause-made
returns-clause-made c =
    let law = push_performed c.args.self.now c.args.action c.pushed-value.result c.requires.pushes c.pushed-value.ensures in
    let made_now = λ (e : made c.put_value.new.self ≡ put_on c.args.self.now (makes.Value c.pushed-value.result)). e ∙ law in
    on_ok_weaker c.put_value.result made_now c.put_value.ensures.made
