use Rattle.std.proofs.lemmas.Result.{on_ok_weaker}
use Rattle.std.proofs.Common.{◌≡◌, ◌∙◌}
use Rattle.wf_parse_nodes.specs.Products as makes
use Rattle.wf_parse_nodes.specs.Makers.{made}
use Rattle.wf_parse_nodes.proofs.Performing.{put_on, fit_performed, fit_parts, fit_sound}
use Rattle.wf_parse_nodes.proofs.maker.Maker.make_stmt.Goals as goal

pub put_stmt-requires-clause-sound : goal.put_stmt-requires-clause-sound
put_stmt-requires-clause-sound c = fit_sound c.args.self.now c.args.action c.requires.fit (makes.Stmt c.made_stmt-node.result) c.made_stmt-node.new.values c.made_stmt-node.ensures c.requires.sound

pub put_stmt-requires-clause-parts : goal.put_stmt-requires-clause-parts
put_stmt-requires-clause-parts c = fit_parts c.args.self.now c.args.action c.requires.fit (makes.Stmt c.made_stmt-node.result) c.made_stmt-node.new.values c.made_stmt-node.ensures c.requires.sound.below

pub returns-clause-made : goal.returns-clause-made
returns-clause-made c =
    let law = fit_performed c.args.self.now c.args.action c.requires.fit (makes.Stmt c.made_stmt-node.result) c.made_stmt-node.new.values c.made_stmt-node.ensures in
    let made_now = λ (e : made c.put_stmt.new.self ≡ put_on (record c.args.self.now { values = c.made_stmt-node.new.values }) (makes.Stmt c.made_stmt-node.result)). e ∙ law in
    on_ok_weaker c.put_stmt.result made_now c.put_stmt.ensures.made
