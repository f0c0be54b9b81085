use Rattle.std.proofs.Common.{◌++◌, refl}
use Rattle.c_text.proofs.Names.{known_name}
use Rattle.c_text.proofs.unit.Unit.add_words.Goals as goal

pub returns-then-is_spelt_at-clause-ok : goal.returns-then-is_spelt_at-clause-ok
returns-then-is_spelt_at-clause-ok c = known_name c.args.self.now (c.args.first.now ++ (c.args.second.now ++ (c.args.third.now ++ c.args.fourth.now))) c.guess-guess.result (c.if-is_spelt_at.ensures refl)
