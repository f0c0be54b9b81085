use Rattle.turns.proofs.Raises.{leaves_fewer}
use Rattle.turns.proofs.laws.turns_never_grow.Goals as goal

pub returns : goal.returns
returns g c step weight falls n left s a e = leaves_fewer step weight falls n left s a e
