use Rattle.wf_exprs_laws.proofs.Buffers.{ahead_law}
use Rattle.wf_exprs_laws.proofs.laws.numbers_ahead_are_what_bytes_spell.Goals as goal

pub returns : goal.returns
returns c = ahead_law
