use Rattle.std.proofs.lemmas.Fmt.{decimal_digit}
use Rattle.c_text.proofs.print_exprs.decimal_number.Goals as goal

pub returns-then-n-lt10-clause-writes : goal.returns-then-n-lt10-clause-writes
returns-then-n-lt10-clause-writes g c = rw (decimal_digit c.args.n c.if-n-lt10.true, ← c.digit.ensures) c.write.ensures.writes
