use Rattle.std.proofs.Common.{◌≡◌, ◌∷◌}
use Rattle.std.proofs.lemmas.Result.{on_ok_weaker}
use Rattle.c_read_nodes.specs.declared.values.SemanticValue.TheVariants as vals
use Rattle.c_read_nodes.proofs.Putting.{expr_made, expr_fit, expr_grew}
use Rattle.c_read_nodes.proofs.maker.Maker.put_expr.Goals as goal

pub returns-clause-made : goal.returns-clause-made
returns-clause-made c =
    let made = λ (ws : c.push.new.self ≡ vals.Expr c.in_ok-e.e ∷ c.args.self.now.values). expr_made c.args.self.now.unit c.add_expr.new.self c.args.x c.in_ok-e.e c.args.self.now.values c.push.new.self c.is_sound.ensures c.requires.fit c.in_ok-e.ensures.ok.0 c.in_ok-e.ensures.ok.1 ws c.in_ok-e.ensures.ok.2 in
    on_ok_weaker c.push.result made c.push.ensures.ok

pub returns-clause-fit : goal.returns-clause-fit
returns-clause-fit c =
    let fit = λ (ws : c.push.new.self ≡ vals.Expr c.in_ok-e.e ∷ c.args.self.now.values). expr_fit c.args.self.now.unit c.add_expr.new.self c.args.x c.in_ok-e.e c.args.self.now.values c.push.new.self c.is_sound.ensures c.requires.fit c.in_ok-e.ensures.ok.0 c.in_ok-e.ensures.ok.1 ws in
    on_ok_weaker c.push.result fit c.push.ensures.ok

pub returns-clause-grows : goal.returns-clause-grows
returns-clause-grows c =
    let grew = λ (ws : c.push.new.self ≡ vals.Expr c.in_ok-e.e ∷ c.args.self.now.values). expr_grew c.args.self.now.unit c.add_expr.new.self c.args.x c.is_sound.ensures c.in_ok-e.ensures.ok.1 in
    on_ok_weaker c.push.result grew c.push.ensures.ok
