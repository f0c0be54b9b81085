use Rattle.c_read.proofs.ReadBack.{read_back}
use Rattle.c_read.proofs.laws.every_text_is_read_back.Goals as goal

pub returns : goal.returns
returns c = read_back
