use Rattle.std.proofs.Common.{rules}
use Rattle.wf_num.proofs.RangeLaws.{holds-by, no_wider-by, Holds-shl, IsNoWider-shl}
use Rattle.wf_num.proofs.ranges.Range.shl.Goals as goal

pub returns-clause-holds : goal.returns-clause-holds
returns-clause-holds c = λ x y h k. holds-by _ _ _ (search rules) (Holds-shl c.args.self c.args.other x y h k)

pub returns-clause-tight : goal.returns-clause-tight
returns-clause-tight c = no_wider-by _ _ _ _ _ (search rules) (IsNoWider-shl c.args.self c.args.other)
