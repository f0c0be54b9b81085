use Rattle.std.proofs.Common.{◌||◌, ◌∙◌, ap, sym, arith}
use Rattle.c_text.specs.CNodes.{code_of, expr_of, made_code}
use Rattle.wf_exprs.specs.Reads.{code_reads, expr_reads}
use Rattle.wf_exprs_nodes.specs.Marks.{is_marked}
use Rattle.wf_exprs_nodes.specs.Readers.{other_reads, own_reads}
use Rattle.wf_exprs_nodes.proofs.MarkLaws.{code_on, marks_three}
use Rattle.wf_exprs_nodes.proofs.marks.+marking_code.Goals as goal

pub mark_code-loop-next-preserved : goal.mark_code-loop-next-preserved
mark_code-loop-next-preserved t c =
    let u = c.args.u.now in
    let inv = c.loop-next.invariant in
    let before = c.args.read.now in
    let all = code_of u c.args.s.0 in
    record {
      within = omega (arith, c.in-Some.ensures.some.0, inv.within);
      sized = c.mark_stmt.ensures.sized ∙ inv.sized;
      left = code_on u c.loop-next.read c.mark_stmt.new.read (λ name. is_marked u.names before name || code_reads name all) c.loop-next.at.0 c.in-Some.next.0 c.mark_stmt.ensures.marks c.in-Some.ensures.some.1 inv.left;
    }

pub mark_stmt-returns-in-If-clause-marks : goal.mark_stmt-returns-in-If-clause-marks
mark_stmt-returns-in-If-clause-marks t c =
    let u = c.args.u.now in
    let before = c.args.read.now in
    let tree = c.stmt.ensures.tree ∙ ap (made_code u.names (expr_of u) (code_of u)) c.in-If.is in
    let all = marks_three u.names before c.mark_expr-in-If.new.read c.mark_code-in-If.new.read c.mark_other.new.read (λ name. expr_reads name (expr_of u c.in-If.test.0)) (λ name. code_reads name (code_of u c.in-If.body.0)) (λ name. other_reads name (code_of u c.in-If.other.0) (code_of u c.in-If.rest.0)) c.mark_expr-in-If.ensures.marks c.mark_code-in-If.ensures.marks c.mark_other.ensures.marks in
    λ name. all name ∙ ap (λ x. is_marked u.names before name || own_reads name x) (sym tree)
