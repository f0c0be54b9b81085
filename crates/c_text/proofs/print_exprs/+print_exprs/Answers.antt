use Rattle.std.proofs.Common.{◌<◌, length, ap, ◌∙◌, get_or, arith}
use Rattle.std.proofs.lemmas.List.{take_rest}
use Rattle.c_text.specs.CNodes.{expr_of}
use Rattle.pens.proofs.Progress.{goes_on, unroll, shift_on, shift_done}
use Rattle.c_text.proofs.Links.{all_links, behind_front, halved, last_link, sole_link}
use Rattle.c_text.proofs.Trees.{expr_of-node}
use Rattle.c_text.proofs.Parts.{args_written, args_rest, args_step, args_first, no_arg_given, operands_written, exprs_rest, no_expr}
use Rattle.c_text.proofs.print_exprs.+print_exprs.Goals as goal

pub any_expr-returns-in-None-clause-writes : goal.any_expr-returns-in-None-clause-writes
any_expr-returns-in-None-clause-writes g t c = rw (sole_link (expr_of c.args.u.now c.args.e.0) c.in-None.ensures) c.link.ensures.writes

pub chain-returns-in-Name-clause-writes : goal.chain-returns-in-Name-clause-writes
chain-returns-in-Name-clause-writes g t c =
    let r1 = g.met.P.Pen.joined _ _ _ _ _ (rw c.name.ensures at c.write.ensures.writes) c.link.ensures.writes in
    rw (behind_front _ _ c.requires.front, expr_of-node _ _ _ _ c.expr.ensures.tree c.in-Name.is) r1

pub chain-returns-in_default-clause-writes : goal.chain-returns-in_default-clause-writes
chain-returns-in_default-clause-writes g t c = rw (← all_links (expr_of c.args.u.now c.args.whole.0), ← c.count_links.ensures.counted) c.links.ensures.writes

pub links-returns-clause-writes : goal.links-returns-clause-writes
links-returns-clause-writes g t c =
    let one = last_link (expr_of c.args.u.now c.args.e.0) c.loop-left.left (omega (arith, c.loop-left-test.false, c.loop-left.invariant.some)) in
    shift_done g.P.Pen.writes _ _ _ _ _ (λ x y a b. g.met.P.Pen.joined _ _ _ x y a b) c.loop-left.invariant.so_far (rw one c.link.ensures.writes)

pub links-loop-left-preserved : goal.links-loop-left-preserved
links-loop-left-preserved g t c =
    record {
      ready = c.links.ensures.ready;
      some = omega (arith, c.loop-left-test.true);
      within = omega (arith, c.loop-left.invariant.within);
      so_far = shift_on g.P.Pen.writes _ _ _ _ _ _ _ (λ x y a b. g.met.P.Pen.joined _ _ _ x y a b) c.loop-left.invariant.so_far (halved _ _ c.loop-left.left _ c.before_links-middle.ensures.is (omega (arith, c.loop-left-test.true, c.loop-left.invariant.within)) (omega arith)) c.links.ensures.writes;
    }

pub link-returns-in-Member-clause-writes : goal.link-returns-in-Member-clause-writes
link-returns-in-Member-clause-writes g t c =
    let j = g.met.P.Pen.joined in
    let r1 = j _ _ _ _ _ c.write-in-Member.ensures.writes (rw c.name-in-Member.ensures at c.write-in-Member-2.ensures.writes) in
    rw (expr_of-node _ _ _ _ c.expr.ensures.tree c.in-Member.is) r1

pub link-returns-in-Index-clause-writes : goal.link-returns-in-Index-clause-writes
link-returns-in-Index-clause-writes g t c =
    let j = g.met.P.Pen.joined in
    let r1 = j _ _ _ _ _ c.write-in-Index.ensures.writes c.expr-in-Index.ensures.writes in
    let r2 = j _ _ _ _ _ r1 c.write-in-Index-2.ensures.writes in
    rw (expr_of-node _ _ _ _ c.expr.ensures.tree c.in-Index.is) r2

pub link-returns-in-Deref-clause-writes : goal.link-returns-in-Deref-clause-writes
link-returns-in-Deref-clause-writes g t c =
    let j = g.met.P.Pen.joined in
    let r1 = j _ _ _ _ _ c.write-in-Deref.ensures.writes c.expr-in-Deref.ensures.writes in
    let r2 = j _ _ _ _ _ r1 c.write-in-Deref-2.ensures.writes in
    rw (expr_of-node _ _ _ _ c.expr.ensures.tree c.in-Deref.is) r2

pub link-returns-in-Cast-clause-writes : goal.link-returns-in-Cast-clause-writes
link-returns-in-Cast-clause-writes g t c =
    let j = g.met.P.Pen.joined in
    let r1 = j _ _ _ _ _ c.write-in-Cast.ensures.writes c.value_type.ensures.writes in
    let r2 = j _ _ _ _ _ r1 c.write-in-Cast-2.ensures.writes in
    let r3 = j _ _ _ _ _ r2 c.expr-in-Cast.ensures.writes in
    let r4 = j _ _ _ _ _ r3 c.write-in-Cast-3.ensures.writes in
    rw (expr_of-node _ _ _ _ c.expr.ensures.tree c.in-Cast.is) r4

pub link-returns-in-Call-clause-writes : goal.link-returns-in-Call-clause-writes
link-returns-in-Call-clause-writes g t c =
    let j = g.met.P.Pen.joined in
    let r1 = j _ _ _ _ _ c.write-in-Call.ensures.writes c.call.ensures.writes in
    let r2 = j _ _ _ _ _ r1 c.write-in-Call-2.ensures.writes in
    rw (expr_of-node _ _ _ _ c.expr.ensures.tree c.in-Call.is) r2

pub choice-returns-clause-writes : goal.choice-returns-clause-writes
choice-returns-clause-writes g t c =
    let j = g.met.P.Pen.joined in
    let r1 = j _ _ _ _ _ c.write.ensures.writes c.expr.ensures.writes in
    let r2 = j _ _ _ _ _ r1 c.write-2.ensures.writes in
    let r3 = j _ _ _ _ _ r2 c.expr-2.ensures.writes in
    let r4 = j _ _ _ _ _ r3 c.write-3.ensures.writes in
    let r5 = j _ _ _ _ _ r4 c.expr-3.ensures.writes in
    let r6 = j _ _ _ _ _ r5 c.write-4.ensures.writes in
    r6

pub operation-returns-clause-writes : goal.operation-returns-clause-writes
operation-returns-clause-writes g t c =
    let j = g.met.P.Pen.joined in
    let r1 = j _ _ _ _ _ c.write.ensures.writes c.expr.ensures.writes in
    let r2 = j _ _ _ _ _ r1 c.spaced_op.ensures.writes in
    let r3 = j _ _ _ _ _ r2 c.expr-2.ensures.writes in
    let r4 = j _ _ _ _ _ r3 c.operands.ensures.writes in
    let r5 = j _ _ _ _ _ r4 c.write-2.ensures.writes in
    r5

pub call-returns-clause-writes : goal.call-returns-clause-writes
call-returns-clause-writes g t c =
    let j = g.met.P.Pen.joined in
    let r1 = j _ _ _ _ _ (rw c.name.ensures at c.write.ensures.writes) c.write-2.ensures.writes in
    let r2 = j _ _ _ _ _ r1 (rw c.as_slice.ensures at c.args-2.ensures.writes) in
    let r3 = j _ _ _ _ _ r2 c.write-3.ensures.writes in
    r3

pub argument-returns-in-SizeOf-clause-writes : goal.argument-returns-in-SizeOf-clause-writes
argument-returns-in-SizeOf-clause-writes g t c =
    let j = g.met.P.Pen.joined in
    let r1 = j _ _ _ _ _ c.write.ensures.writes (rw c.name.ensures at c.write-in-SizeOf.ensures.writes) in
    let r2 = j _ _ _ _ _ r1 c.write-in-SizeOf-2.ensures.writes in
    rw c.in-SizeOf.is r2

pub args-returns-in-len1-up-clause-writes : goal.args-returns-in-len1-up-clause-writes
args-returns-in-len1-up-clause-writes g t c =
    let j = g.met.P.Pen.joined in
    let r = j _ _ _ _ _ c.argument.ensures.writes c.more_args.ensures.writes in
    let some : 0 < length c.args.given.now = omega (arith, c.in-len1-up.len_at_least) in
    rw (args_first c.args.u.now c.args.given.now some) (rw (take_rest c.args.given.now 1) at r)

pub more_args-loop-other-preserved : goal.more_args-loop-other-preserved
more_args-loop-other-preserved g t c =
    let within : c.loop-other.other-index < length c.args.others.now = c.loop-other-test.true in
    let writes = g.met.P.Pen.joined _ _ _ _ _ c.write.ensures.writes c.argument.ensures.writes in
    record {
      ready = c.argument.ensures.ready;
      has = args_rest c.args.u.now c.args.below c.args.others.now c.loop-other.other-index within c.loop-other.invariant.has;
      so_far = goes_on g.P.Pen.writes (args_written c.args.u.now) c.args.others.now _ _ _ c.loop-other.other-index _ (λ x y a b. g.met.P.Pen.joined _ _ _ x y a b) c.loop-other.invariant.so_far (ap (args_written c.args.u.now) (unroll c.args.others.now c.loop-other.other-index no_arg_given within) ∙ args_step c.args.u.now (get_or c.args.others.now c.loop-other.other-index no_arg_given) _) writes;
    }

pub operands-loop-other-preserved : goal.operands-loop-other-preserved
operands-loop-other-preserved g t c =
    let within : c.loop-other.other-index < length c.args.others.now = c.loop-other-test.true in
    let writes = g.met.P.Pen.joined _ _ _ _ _ c.spaced_op.ensures.writes c.expr.ensures.writes in
    record {
      ready = c.expr.ensures.ready;
      has = exprs_rest c.args.below c.args.others.now c.loop-other.other-index within c.loop-other.invariant.has;
      so_far = goes_on g.P.Pen.writes (operands_written c.args.u.now c.args.op) c.args.others.now _ _ _ c.loop-other.other-index _ (λ x y a b. g.met.P.Pen.joined _ _ _ x y a b) c.loop-other.invariant.so_far (ap (operands_written c.args.u.now c.args.op) (unroll c.args.others.now c.loop-other.other-index no_expr within)) writes;
    }
