use Rattle.std.proofs.lemmas.Option.{slice_get_within}
use Rattle.wf_ast.specs.TypedTrees.{io_in, tree_of, optional_target}
use Rattle.wf_ast.specs.TypedTree.{take_number}
use Rattle.wf_mean_exprs.specs.MachineState.{done_seen}
use Rattle.wf_mean_stmts.proofs.AwaitLemmas.{io_await, no_io}
use Rattle.wf_mean_stmts.proofs.awaiting.read.Goals as goal

pub read_from-requires : goal.read_from-requires
read_from-requires c = record { typed = c.requires.typed; target = c.requires.target; there = slice_get_within c.args.stage.now.host.bufs c.in-Some.k c.in-Some.ensures.0 c.in-Some.ensures.1 }

pub returns-in-Some-clause-steps : goal.returns-in-Some-clause-steps
returns-in-Some-clause-steps c = λ n here rest behind.
    let nodes = c.args.t.now in
    let it = c.in-Some.ensures in
    io_await nodes c.args.stage.now (io_in (tree_of nodes c.args.on)) n (optional_target (tree_of nodes) c.args.target) here rest behind (done_seen c.args.done) c.in-Some.k it.0 it.2 (take_number c.args.form) _
    (c.read_from.ensures.steps n here rest behind it.0 it.1)

pub returns-in-None-clause-steps : goal.returns-in-None-clause-steps
returns-in-None-clause-steps c = λ n here rest behind. no_io _ _ c.in-None.ensures
