use Rattle.std.proofs.Common.{◌++◌}
use Rattle.wf_exprs.proofs.Growing.{name_grows}
use Rattle.wf_exprs.proofs.names.put_words.Goals as goal

pub returns-clause-grows : goal.returns-clause-grows
returns-clause-grows c = name_grows c.args.u.now c.add_words.new.self (c.args.first.now ++ (c.args.second.now ++ (c.args.third.now ++ c.args.fourth.now))) c.add_words.result c.is_sound.ensures c.add_words.ensures.ok c.add_words.ensures.err
