use Rattle.std.proofs.Common.{◌∙◌, arith, rules}
use Rattle.wf_exprs.proofs.AlikeLaws.{each_below}
use Rattle.wf_exprs_nodes.proofs.OperandLaws.{each_arg}
use Rattle.wf_exprs_nodes.proofs.marks.+marking.Goals as goal

pub mark_args-mark_arg-requires : goal.mark_args-mark_arg-requires
mark_args-mark_arg-requires t c = (search rules, (c.requires.there, (each_arg c.args.u.now c.args.e.0 c.args.args.now c.loop-arg.arg-index _ c.requires.below c.loop-arg-test.true, c.loop-arg.invariant.sized ∙ c.requires.sized)))

pub mark_operands-mark_expr-requires : goal.mark_operands-mark_expr-requires
mark_operands-mark_expr-requires t c =
    let b = each_below c.args.e.0 c.args.operands.now c.loop-operand.operand-index (record { 0 = 0 }) c.requires.below c.loop-operand-test.true in
    (search (rules, b), (omega (arith, b, c.requires.there), c.loop-operand.invariant.sized ∙ c.requires.sized))
