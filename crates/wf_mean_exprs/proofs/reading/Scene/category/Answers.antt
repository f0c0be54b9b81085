use Rattle.std.proofs.Common.{◌≤◌, length, arith}
use Rattle.wf_mean_exprs.proofs.Variables.{no_text}
use Rattle.wf_mean_exprs.proofs.reading.Scene.category.Goals as goal

pub returns-else-s-statuses : goal.returns-else-s-statuses
returns-else-s-statuses c =
    let n = c.statuses.ensures in
    let f = c.if-s-statuses.false in
    let past : length c.args.self.now.package.now.statuses ≤ c.args.s = omega (arith, n, f) in
    no_text c.args.self.now c.args.s past
