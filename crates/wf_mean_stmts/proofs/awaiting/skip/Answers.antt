use Rattle.std.proofs.lemmas.Option.{slice_get_within}
use Rattle.wf_ast.specs.TypedTrees.{io_in, num_in, tree_of}
use Rattle.wf_mean_exprs.specs.MachineState.{done_seen}
use Rattle.wf_mean_stmts.proofs.AwaitLemmas.{no_io, no_skip, skip_await}
use Rattle.wf_mean_stmts.proofs.awaiting.skip.Goals as goal

pub skip_from-requires : goal.skip_from-requires
skip_from-requires c = record { there = slice_get_within c.args.stage.now.host.bufs c.in-Some.k c.in-Some.ensures.0 c.in-Some.ensures.1 }

pub returns-in-Some-count_or_kept-clause-steps : goal.returns-in-Some-count_or_kept-clause-steps
returns-in-Some-count_or_kept-clause-steps c = λ n here rest behind target.
    let nodes = c.args.t.now in
    let it = c.in-Some.ensures in
    skip_await nodes c.args.stage.now (io_in (tree_of nodes c.args.on)) n target here rest behind (done_seen c.args.done) c.in-Some.k it.0 it.2 (num_in (tree_of nodes c.args.count)) c.in-Some-count_or_kept.left _ c.in-Some-count_or_kept.ensures
    (c.skip_from.ensures.steps nodes n here rest behind it.0 it.1)

pub returns-in-None-count_or_kept-clause-steps : goal.returns-in-None-count_or_kept-clause-steps
returns-in-None-count_or_kept-clause-steps c = λ n here rest behind target.
    let nodes = c.args.t.now in
    let it = c.in-Some.ensures in
    no_skip nodes c.args.stage.now (io_in (tree_of nodes c.args.on)) n target here rest behind (done_seen c.args.done) c.in-Some.k it.0 it.2 (num_in (tree_of nodes c.args.count)) c.in-None-count_or_kept.ensures

pub returns-in-None-clause-steps : goal.returns-in-None-clause-steps
returns-in-None-clause-steps c = λ n here rest behind target. no_io _ _ c.in-None.ensures
