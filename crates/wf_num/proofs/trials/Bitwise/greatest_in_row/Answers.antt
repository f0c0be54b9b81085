use Rattle.std.proofs.Common.{sym, ◌∙◌, arith}
use Rattle.wf_num.specs.Trials.{bitwise}
use Rattle.wf_num.proofs.ExtremeLaws.{greatest_of-none, greatest_of-more}
use Rattle.wf_num.proofs.trials.Bitwise.greatest_in_row.Goals as goal

pub loop-i-init : goal.loop-i-init
loop-i-init c = c.apply-top.ensures ∙ sym (greatest_of-none (bitwise c.args.self c.args.x) c.args.ys.lo)

pub loop-i-preserved : goal.loop-i-preserved
loop-i-preserved c =
    omega (arith, greatest_of-more (bitwise c.args.self c.args.x) c.args.ys.lo c.loop-i.i, c.apply.ensures, c.max-top.ensures)
