use Rattle.std.proofs.lemmas.Result.{on_ok_weaker}
use Rattle.std.proofs.Common.{◌≡◌, ◌∙◌}
use Rattle.wf_parse_nodes.specs.Products as makes
use Rattle.wf_parse_nodes.specs.Makers.{made}
use Rattle.wf_parse_nodes.proofs.Performing.{put_on, fit_performed, fit_parts, fit_sound}
use Rattle.wf_parse_nodes.proofs.maker.Maker.make_expr.Goals as goal

pub put_expr-requires-clause-sound : goal.put_expr-requires-clause-sound
put_expr-requires-clause-sound c = fit_sound c.args.self.now c.args.action c.requires.fit (makes.Expr c.made_expr-node.result) c.made_expr-node.new.values c.made_expr-node.ensures c.requires.sound

pub put_expr-requires-clause-parts : goal.put_expr-requires-clause-parts
put_expr-requires-clause-parts c = fit_parts c.args.self.now c.args.action c.requires.fit (makes.Expr c.made_expr-node.result) c.made_expr-node.new.values c.made_expr-node.ensures c.requires.sound.below

pub returns-clause-made : goal.returns-clause-made
returns-clause-made c =
    let law = fit_performed c.args.self.now c.args.action c.requires.fit (makes.Expr c.made_expr-node.result) c.made_expr-node.new.values c.made_expr-node.ensures in
    let made_now = λ (e : made c.put_expr.new.self ≡ put_on (record c.args.self.now { values = c.made_expr-node.new.values }) (makes.Expr c.made_expr-node.result)). e ∙ law in
    on_ok_weaker c.put_expr.result made_now c.put_expr.ensures.made
