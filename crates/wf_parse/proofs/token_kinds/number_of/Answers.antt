use Rattle.wf_parse.proofs.TextNumbers.{joined, known_joins}
use Rattle.wf_parse.proofs.token_kinds.number_of.Goals as goal

pub returns-in-Some-clause-texts : goal.returns-in-Some-clause-texts
returns-in-Some-clause-texts c = known_joins c.args.parsed.now.texts c.args.text.now c.in-Some.number.0 c.in-Some.ensures

pub returns-clause-texts : goal.returns-clause-texts
returns-clause-texts c = joined c.args.parsed.now.texts c.intern.new.self.texts c.args.text.now c.in_ok-number.number.0 c.in_ok-number.ensures.joins c.in_ok-number.ensures.found c.texts-count.ensures.unique
