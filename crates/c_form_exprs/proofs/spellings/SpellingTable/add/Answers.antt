use Rattle.c_form_exprs.proofs.TableLemmas.{place_taken, place_free}
use Rattle.c_form_exprs.proofs.spellings.SpellingTable.add.Goals as goal

pub returns-in-Some-clause-fresh : goal.returns-in-Some-clause-fresh
returns-in-Some-clause-fresh g c = place_taken c.args.self.now c.args.name.now c.in-Some.field-0 c.in-Some.ensures

pub returns-in_ok-join-in-None-clause-fresh : goal.returns-in_ok-join-in-None-clause-fresh
returns-in_ok-join-in-None-clause-fresh g c = place_free c.args.self.now c.args.name.now c.in-None.ensures
