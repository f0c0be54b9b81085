use Rattle.c_text.specs.CNodes.{code_of}
use Rattle.wf_exprs.specs.Reads.{code_reads}
use Rattle.wf_exprs_nodes.proofs.MarkLaws.{those_marked}
use Rattle.wf_exprs_nodes.proofs.marks.ReadNames.read_code.Goals as goal

pub returns : goal.returns
returns c = those_marked (λ name. code_reads name (code_of c.args.u.now c.args.s.0)) c.args.u.now.names c.begin.new.self c.mark_code.new.read c.in_ok-begin.ensures c.mark_code.ensures.sized c.mark_code.ensures.marks
