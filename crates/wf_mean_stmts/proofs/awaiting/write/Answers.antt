use Rattle.std.proofs.lemmas.Option.{slice_get_within}
use Rattle.wf_ast.specs.TypedTrees.{io_in, num_in, tree_of}
use Rattle.wf_mean_exprs.specs.MachineState.{done_seen}
use Rattle.wf_mean_stmts.proofs.AwaitLemmas.{no_io, no_write, write_await}
use Rattle.wf_mean_stmts.proofs.awaiting.write.Goals as goal

pub write_to-requires : goal.write_to-requires
write_to-requires c = record { there = slice_get_within c.args.stage.now.host.bufs c.in-Some.k c.in-Some.ensures.0 c.in-Some.ensures.1 }

pub returns-in-Some-byte_or_kept-clause-steps : goal.returns-in-Some-byte_or_kept-clause-steps
returns-in-Some-byte_or_kept-clause-steps c = λ n here rest behind target.
    let nodes = c.args.t.now in
    let it = c.in-Some.ensures in
    write_await nodes c.args.stage.now (io_in (tree_of nodes c.args.on)) n target here rest behind (done_seen c.args.done) c.in-Some.k it.0 it.2 (num_in (tree_of nodes c.args.byte)) c.in-Some-byte_or_kept.byte _ c.in-Some-byte_or_kept.ensures
    (c.write_to.ensures.steps nodes n here rest behind it.0 it.1)

pub returns-in-None-byte_or_kept-clause-steps : goal.returns-in-None-byte_or_kept-clause-steps
returns-in-None-byte_or_kept-clause-steps c = λ n here rest behind target.
    let nodes = c.args.t.now in
    let it = c.in-Some.ensures in
    no_write nodes c.args.stage.now (io_in (tree_of nodes c.args.on)) n target here rest behind (done_seen c.args.done) c.in-Some.k it.0 it.2 (num_in (tree_of nodes c.args.byte)) c.in-None-byte_or_kept.ensures

pub returns-in-None-clause-steps : goal.returns-in-None-clause-steps
returns-in-None-clause-steps c = λ n here rest behind target. no_io _ _ c.in-None.ensures
