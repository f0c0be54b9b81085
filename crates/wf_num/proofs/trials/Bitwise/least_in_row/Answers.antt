use Rattle.std.proofs.Common.{sym, ◌∙◌, arith}
use Rattle.wf_num.specs.Trials.{bitwise}
use Rattle.wf_num.proofs.ExtremeLaws.{least_of-none, least_of-more}
use Rattle.wf_num.proofs.trials.Bitwise.least_in_row.Goals as goal

pub loop-i-init : goal.loop-i-init
loop-i-init c = c.apply-bottom.ensures ∙ sym (least_of-none (bitwise c.args.self c.args.x) c.args.ys.lo)

pub loop-i-preserved : goal.loop-i-preserved
loop-i-preserved c =
    omega (arith, least_of-more (bitwise c.args.self c.args.x) c.args.ys.lo c.loop-i.i, c.apply.ensures, c.min-bottom.ensures)
