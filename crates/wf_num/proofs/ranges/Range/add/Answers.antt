use Rattle.std.proofs.Common.{rules}
use Rattle.wf_num.proofs.RangeLaws.{no_wider-by, IsNoWider-add}
use Rattle.wf_num.proofs.ranges.Range.add.Goals as goal

pub returns-clause-tight : goal.returns-clause-tight
returns-clause-tight c =
    no_wider-by _ _ _ _ _ (search rules) (IsNoWider-add c.args.self c.args.other c.requires.left c.requires.right)
