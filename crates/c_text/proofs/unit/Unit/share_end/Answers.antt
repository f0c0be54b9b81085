use Rattle.c_text.specs.declared.nodes.CStmt.TheVariants as stmt
use Rattle.c_text.proofs.Growth.{shared_stmt}
use Rattle.c_text.proofs.unit.Unit.share_end.Goals as goal

-- The end that is known serves again.
pub returns-in-Some-clause-ok : goal.returns-in-Some-clause-ok
returns-in-Some-clause-ok c = shared_stmt c.args.self.now stmt.End c.in-Some.id.0 c.is_sound.ensures c.in-Some.ensures
