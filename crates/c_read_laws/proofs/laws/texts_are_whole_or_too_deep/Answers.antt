use Rattle.c_read_laws.proofs.Reading.{whole-or-deep}
use Rattle.c_read_laws.proofs.laws.texts_are_whole_or_too_deep.Goals as goal

pub returns : goal.returns
returns c = whole-or-deep
