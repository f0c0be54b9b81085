use Rattle.c_text.proofs.Growth.{shared_expr}
use Rattle.c_text.proofs.unit.Unit.share_at.Goals as goal

-- What is known by its place is the same expression.
pub returns-in-Some-clause-ok : goal.returns-in-Some-clause-ok
returns-in-Some-clause-ok c = shared_expr c.args.self.now c.args.e c.in-Some.id.0 c.is_sound.ensures c.in-Some.ensures
