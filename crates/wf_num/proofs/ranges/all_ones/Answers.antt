use Rattle.wf_num.proofs.RangeLaws.{ones-next, ones-small}
use Rattle.wf_num.proofs.ranges.all_ones.Goals as goal

pub returns-clause-fits : goal.returns-clause-fits
returns-clause-fits c =
    let next = c.next_power_of_two.ensures in
    ones-small c.args.n _ c.requires (ones-next c.args.n _ next.power next.lower_bound next.upper_bound)
