use Rattle.std.proofs.Common.{rules, bit_or}
use Rattle.wf_num.proofs.RangeLaws.{holds-by, no_wider-by, Holds-tight, IsNoWider-tight}
use Rattle.wf_num.proofs.ranges.Range.or.Goals as goal

pub returns-clause-holds : goal.returns-clause-holds
returns-clause-holds c = λ x y h k. holds-by _ _ _ (search rules) (Holds-tight bit_or c.args.self c.args.other x y h k)

pub returns-clause-tight : goal.returns-clause-tight
returns-clause-tight c = no_wider-by _ _ _ _ _ (search rules) (IsNoWider-tight bit_or c.args.self c.args.other)
