use Rattle.std.proofs.Common.{sym}
use Rattle.wf_facts.proofs.FormLemmas.{io_form, list_form}
use Rattle.wf_facts.proofs.forms.length_form.Goals as goal

pub returns-then-is_io : goal.returns-then-is_io
returns-then-is_io c =
    io_form c.args.t.now c.args.e c.expr-node.result.now c.expr-node.ensures.made c.expr-node.ensures.kinds c.requires c.type_of.result c.type_of.ensures (sym c.if-is_io.ensures)

pub returns : goal.returns
returns c =
    list_form c.args.t.now c.args.e c.expr-node.result.now c.expr-node.ensures.made c.expr-node.ensures.kinds c.requires c.type_of.result c.type_of.ensures (sym c.if-is_io.ensures)
