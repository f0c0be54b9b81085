use Rattle.wf_ast.specs.TypedTrees.{io_in, tree_of}
use Rattle.std.proofs.Common.{arith}
use Rattle.wf_mean_stmts.proofs.AwaitLemmas.{io_absent, io_found, io_past}
use Rattle.wf_mean_stmts.proofs.awaiting.find_io.Goals as goal

pub returns-then-k-len : goal.returns-then-k-len
returns-then-k-len c = io_found c.args.t.now c.args.stage.now (io_in (tree_of c.args.t.now c.args.on)) c.in_ok-k.k c.in_ok-k.ensures (omega (arith, c.if-k-len.true, c.len.ensures))

pub returns-else-k-len : goal.returns-else-k-len
returns-else-k-len c = io_past c.args.t.now c.args.stage.now (io_in (tree_of c.args.t.now c.args.on)) c.in_ok-k.k c.in_ok-k.ensures (omega (arith, c.if-k-len.false, c.len.ensures))

pub returns-in_err-k : goal.returns-in_err-k
returns-in_err-k c = rw c.from_residual.ensures (io_absent c.args.t.now c.args.stage.now (io_in (tree_of c.args.t.now c.args.on)) c.in_err-k.ensures)
