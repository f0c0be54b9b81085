use Rattle.std.proofs.lemmas.Result.{on_ok_weaker}
use Rattle.std.proofs.Common.{◌≡◌, ◌∷◌, refl}
use Rattle.wf_parse_nodes.specs.Products as makes
use Rattle.wf_parse_nodes.specs.declared.values.SemanticValue.TheVariants as vals
use Rattle.wf_parse_nodes.proofs.Performing.{expr_put, expr_sound}
use Rattle.wf_parse_nodes.proofs.maker.Maker.put_expr.Goals as goal

pub returns-clause-made : goal.returns-clause-made
returns-clause-made c =
    let made = λ (ws : c.push.new.self ≡ vals.Expr c.in_ok-number.number ∷ c.args.self.now.values). expr_put c.args.self.now c.requires.sound (makes.Expr c.args.node) c.push_expr.new.self c.push.new.self c.args.node c.in_ok-number.number refl c.in_ok-number.ensures.number c.in_ok-number.ensures.ok ws in
    on_ok_weaker c.push.result made c.push.ensures.ok

pub returns-clause-sound : goal.returns-clause-sound
returns-clause-sound c =
    let sound = λ (ws : c.push.new.self ≡ vals.Expr c.in_ok-number.number ∷ c.args.self.now.values). expr_sound c.args.self.now (record { alloc = c.args.self.now.alloc; «package» = c.push_expr.new.self; values = c.push.new.self }) c.requires.sound (makes.Expr c.args.node) c.requires.parts c.args.node c.in_ok-number.number refl c.in_ok-number.ensures.number c.in_ok-number.ensures.ok ws in
    on_ok_weaker c.push.result sound c.push.ensures.ok
