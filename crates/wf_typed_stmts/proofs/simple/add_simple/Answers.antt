use Rattle.wf_typed_stmts.proofs.SimpleLemmas.{made_leave, made_again}
use Rattle.wf_typed_stmts.proofs.simple.add_simple.Goals as goal

pub returns-in-Break-clause-made : goal.returns-in-Break-clause-made
returns-in-Break-clause-made c =
    rw c.in-Break.is (made_leave c.args.here.now.around.now c.args.loops.now c.args.nodes.now c.in-Break.outwards c.args.at c.loop_number.result (rw c.in-Break.is at c.requires.right) c.loop_number.ensures)

pub returns-in-Continue-clause-made : goal.returns-in-Continue-clause-made
returns-in-Continue-clause-made c =
    rw c.in-Continue.is
    (made_again c.args.here.now.around.now c.args.loops.now c.args.nodes.now c.in-Continue.outwards c.args.at c.loop_number-in-Continue.result (rw c.in-Continue.is at c.requires.right) c.loop_number-in-Continue.ensures)
