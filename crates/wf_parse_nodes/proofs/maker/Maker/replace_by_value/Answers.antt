use Rattle.std.proofs.lemmas.Result.{on_ok_weaker}
use Rattle.std.proofs.Common.{◌≡◌, ◌∙◌}
use Rattle.wf_parse_nodes.specs.Products as makes
use Rattle.wf_parse_nodes.specs.Makers.{made}
use Rattle.wf_parse_nodes.proofs.Performing.{put_on, fit_performed, fit_parts, fit_sound}
use Rattle.wf_parse_nodes.proofs.maker.Maker.replace_by_value.Goals as goal

pub put_value-requires-clause-sound : goal.put_value-requires-clause-sound
put_value-requires-clause-sound c = fit_sound c.args.self.now c.args.action c.requires.fit (makes.Value c.made_value-value.result) c.made_value-value.new.values c.made_value-value.ensures c.requires.sound

pub put_value-requires-clause-parts : goal.put_value-requires-clause-parts
put_value-requires-clause-parts c = fit_parts c.args.self.now c.args.action c.requires.fit (makes.Value c.made_value-value.result) c.made_value-value.new.values c.made_value-value.ensures c.requires.sound.below

pub returns-clause-made : goal.returns-clause-made
returns-clause-made c =
    let law = fit_performed c.args.self.now c.args.action c.requires.fit (makes.Value c.made_value-value.result) c.made_value-value.new.values c.made_value-value.ensures in
    let made_now = λ (e : made c.put_value.new.self ≡ put_on (record c.args.self.now { values = c.made_value-value.new.values }) (makes.Value c.made_value-value.result)). e ∙ law in
    on_ok_weaker c.put_value.result made_now c.put_value.ensures.made
