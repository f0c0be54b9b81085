use Rattle.std.proofs.Common.{rules}
use Rattle.wf_num.proofs.RangeLaws.{holds-by, small-hi, Holds-xor}
use Rattle.wf_num.proofs.ranges.Range.xor.Goals as goal

pub returns-clause-holds : goal.returns-clause-holds
returns-clause-holds c = λ x y h k. holds-by _ _ _ (search rules)
    (Holds-xor c.args.self c.args.other x y (small-hi _ x c.requires.left h) (small-hi _ y c.requires.right k) h k)
