use Rattle.std.proofs.Common.{sym}
use Rattle.wf_facts.proofs.FormLemmas.{constant_form, expr_form}
use Rattle.wf_facts.proofs.forms.expr_form.Goals as goal

pub returns-then-is_some : goal.returns-then-is_some
returns-then-is_some c =
    constant_form c.args.t.now c.args.e c.expr-expr.result.now c.expr-expr.ensures.made c.expr-expr.ensures.kinds c.requires c.constant.result c.constant.ensures (sym c.if-is_some.ensures)

pub returns : goal.returns
returns c =
    expr_form c.args.t.now c.args.e c.expr-expr.result.now c.expr-expr.ensures.made c.expr-expr.ensures.kinds c.requires c.constant.result c.constant.ensures (sym c.if-is_some.ensures)
    c.node_form.result c.node_form.ensures
