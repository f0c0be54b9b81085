use Rattle.std.proofs.Common.{◌≡◌, ◌∷◌}
use Rattle.std.proofs.lemmas.Result.{on_ok_weaker}
use Rattle.c_read_nodes.specs.declared.values.SemanticValue.TheVariants as vals
use Rattle.c_read_nodes.proofs.Putting.{name_made, name_fit}
use Rattle.c_read_nodes.proofs.maker.Maker.keep_name.Goals as goal

pub returns-clause-made : goal.returns-clause-made
returns-clause-made c =
    let made = λ (ws : c.push.new.self ≡ vals.Name c.in_ok-name.name ∷ c.args.self.now.values). name_made c.args.self.now.unit c.add_name.new.self c.args.text.now c.in_ok-name.name c.args.self.now.values c.push.new.self c.is_sound.ensures c.requires.fit c.in_ok-name.ensures.ok ws in
    on_ok_weaker c.push.result made c.push.ensures.ok

pub returns-clause-fit : goal.returns-clause-fit
returns-clause-fit c =
    let fit = λ (ws : c.push.new.self ≡ vals.Name c.in_ok-name.name ∷ c.args.self.now.values). name_fit c.args.self.now.unit c.add_name.new.self c.args.text.now c.in_ok-name.name c.args.self.now.values c.push.new.self c.is_sound.ensures c.requires.fit c.in_ok-name.ensures.ok ws in
    on_ok_weaker c.push.result fit c.push.ensures.ok
