use Rattle.std.proofs.Common.{◌+◌, ◌<◌, length, sym, arith}
use Rattle.wf_parse.proofs.Counting.{is_shallow}
use Rattle.wf_parse.proofs.machine.Machine.is_deep.Goals as goal

pub returns-then-len-lt-MOST_BRACKETS : goal.returns-then-len-lt-MOST_BRACKETS
returns-then-len-lt-MOST_BRACKETS c =
    let same = c.len.ensures in
    let below = c.if-len-lt-MOST_BRACKETS.true in
    let low : length c.args.self.now.wants + 1 < 48 = omega (arith, same, below) in
    sym (is_shallow c.args.symbol c.args.self.now.wants low)
