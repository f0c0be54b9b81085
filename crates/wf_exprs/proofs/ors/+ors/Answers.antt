use Rattle.std.proofs.Common.{arith, rules}
use Rattle.wf_exprs.proofs.AlikeLaws.{each_below}
use Rattle.wf_exprs.proofs.ors.+ors.Goals as goal

pub any_or-has_or-requires : goal.any_or-has_or-requires
any_or-has_or-requires t c =
    let b = each_below c.args.e.0 c.args.operands.now c.loop-i.i (record { 0 = 0 }) c.requires.below c.loop-i-test.true in
    (search (rules, b), omega (arith, b, c.requires.one))
