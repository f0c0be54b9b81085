use Rattle.std.proofs.Common.{sym, arith, rules}
use Rattle.c_text.specs.CNodes.{expr_of}
use Rattle.wf_exprs.proofs.AlikeLaws.{each_below, lengths_differ}
use Rattle.wf_exprs.proofs.alike.+alike.Goals as goal

pub all_alike-returns-then-operands-others : goal.all_alike-returns-then-operands-others
all_alike-returns-then-operands-others t c = sym (lengths_differ (expr_of c.args.u.now) c.args.operands.now c.args.others.now c.if-operands-others.true)

pub all_alike-are_alike-requires : goal.all_alike-are_alike-requires
all_alike-are_alike-requires t c =
    let i = c.loop-i-test.true in
    let same = c.if-operands-others.false in
    let b = each_below c.args.e.0 c.args.operands.now c.loop-i.i (record { 0 = 0 }) c.requires.below i in
    let d = each_below c.args.other.0 c.args.others.now c.loop-i.i (record { 0 = 0 }) c.requires.others (omega (arith, i, same)) in
    (search (rules, b), (omega (arith, b, c.requires.one), omega (arith, d, c.requires.other)))
