use Rattle.c_read_laws.proofs.Reading.{read-or-refused}
use Rattle.c_read_laws.proofs.laws.bytes_are_read_or_refused.Goals as goal

pub returns : goal.returns
returns c = read-or-refused
