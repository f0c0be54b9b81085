use Rattle.std.proofs.Common.{◌≡◌, ◌∷◌}
use Rattle.std.proofs.lemmas.Result.{on_ok_weaker}
use Rattle.c_read_nodes.proofs.BlockLaws.{below_made, below_fit}
use Rattle.c_read_nodes.proofs.maker.Maker.make_variable_below.Goals as goal

pub returns-clause-made : goal.returns-clause-made
returns-clause-made c =
    let made = λ (ws : c.push.new.self ≡ c.in-Some.top ∷ c.put_expr.new.self.values). below_made c.args.self.now.unit c.put_expr.new.self.unit c.in-Some.top c.pop_name-name.result c.args.self.now.values c.pop.new.self c.pop_name-name.new.values c.put_expr.new.self.values c.push.new.self c.in_ok-put_expr.ensures.grows c.requires.fit c.in-Some.ensures.some c.pop_name-name.ensures ws c.in_ok-put_expr.ensures.made in
    on_ok_weaker c.push.result made c.push.ensures.ok

pub returns-clause-fit : goal.returns-clause-fit
returns-clause-fit c =
    let fit = λ (ws : c.push.new.self ≡ c.in-Some.top ∷ c.put_expr.new.self.values). below_fit c.args.self.now.unit c.put_expr.new.self.unit c.in-Some.top c.pop_name-name.result c.args.self.now.values c.pop.new.self c.pop_name-name.new.values c.put_expr.new.self.values c.push.new.self c.in_ok-put_expr.ensures.grows c.requires.fit c.in-Some.ensures.some c.pop_name-name.ensures ws c.in_ok-put_expr.ensures.fit in
    on_ok_weaker c.push.result fit c.push.ensures.ok
