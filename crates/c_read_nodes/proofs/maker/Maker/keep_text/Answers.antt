use Rattle.std.proofs.Common.{◌≡◌, ◌∷◌}
use Rattle.std.proofs.lemmas.Result.{on_ok_weaker}
use Rattle.c_read_nodes.specs.declared.values.SemanticValue.TheVariants as vals
use Rattle.c_read_nodes.proofs.Putting.{text_made, text_fit}
use Rattle.c_read_nodes.proofs.maker.Maker.keep_text.Goals as goal

pub returns-clause-made : goal.returns-clause-made
returns-clause-made c =
    let made = λ (ws : c.push.new.self ≡ vals.Text c.in_ok-string.string ∷ c.args.self.now.values). text_made c.args.self.now.unit c.add_string.new.self c.args.text.now c.in_ok-string.string c.args.self.now.values c.push.new.self c.is_sound.ensures c.requires.fit c.in_ok-string.ensures.ok.0 c.in_ok-string.ensures.ok.1 ws in
    on_ok_weaker c.push.result made c.push.ensures.ok

pub returns-clause-fit : goal.returns-clause-fit
returns-clause-fit c =
    let fit = λ (ws : c.push.new.self ≡ vals.Text c.in_ok-string.string ∷ c.args.self.now.values). text_fit c.args.self.now.unit c.add_string.new.self c.args.text.now c.in_ok-string.string c.args.self.now.values c.push.new.self c.is_sound.ensures c.requires.fit c.in_ok-string.ensures.ok.0 c.in_ok-string.ensures.ok.1 ws in
    on_ok_weaker c.push.result fit c.push.ensures.ok
