use Rattle.std.proofs.Common.{rules}
use Rattle.wf_num.proofs.RangeLaws.{holds-by, no_wider-by, Holds-mul, IsNoWider-mul}
use Rattle.wf_num.proofs.ranges.Range.mul.Goals as goal

pub returns-clause-holds : goal.returns-clause-holds
returns-clause-holds c = λ x y h k. holds-by _ _ _ (search rules) (Holds-mul c.args.self c.args.other x y h k)

pub returns-clause-tight : goal.returns-clause-tight
returns-clause-tight c = λ fits. no_wider-by _ _ _ _ _ (search rules) (IsNoWider-mul c.args.self c.args.other fits)
