use Rattle.std.proofs.lemmas.Option.{slice_get_within}
use Rattle.wf_ast.specs.TypedTrees.{io_in, num_in, tree_of}
use Rattle.wf_mean_stmts.proofs.PerformLemmas.{no_actual, no_io_skip, no_worst, skip_goes}
use Rattle.wf_mean_stmts.proofs.performing.skip_fast.Goals as goal

pub skip_promised-requires : goal.skip_promised-requires
skip_promised-requires c = record { there = slice_get_within c.args.stage.now.host.bufs c.in-Some.k c.in-Some.ensures.0 c.in-Some.ensures.1 }

pub returns-in-Some-number_on-2-clause-vars : goal.returns-in-Some-number_on-2-clause-vars
returns-in-Some-number_on-2-clause-vars c = λ target.
    let it = c.in-Some.ensures in
    skip_goes c.args.t.now c.args.stage.now target (io_in (tree_of c.args.t.now c.args.on)) c.in-Some.k it.0 it.2 (num_in (tree_of c.args.t.now c.args.actual)) (num_in (tree_of c.args.t.now c.args.worst_case)) _ c.in-Some-number_on.m c.in-Some-number_on-2.n _ c.in-Some-number_on.ensures c.in-Some-number_on-2.ensures
    (c.skip_promised.ensures.vars c.args.t.now it.0 it.1)

pub returns-in-None-number_on-2-clause-vars : goal.returns-in-None-number_on-2-clause-vars
returns-in-None-number_on-2-clause-vars c = λ target.
    let it = c.in-Some.ensures in
    no_worst c.args.t.now c.args.stage.now target (io_in (tree_of c.args.t.now c.args.on)) c.in-Some.k it.0 it.2 (num_in (tree_of c.args.t.now c.args.actual)) (num_in (tree_of c.args.t.now c.args.worst_case)) c.in-Some-number_on.m _ c.in-Some-number_on.ensures c.in-None-number_on-2.ensures

pub returns-in-None-number_on-clause-vars : goal.returns-in-None-number_on-clause-vars
returns-in-None-number_on-clause-vars c = λ target.
    let it = c.in-Some.ensures in
    no_actual c.args.t.now c.args.stage.now target (io_in (tree_of c.args.t.now c.args.on)) c.in-Some.k it.0 it.2 (num_in (tree_of c.args.t.now c.args.actual)) (num_in (tree_of c.args.t.now c.args.worst_case)) _ c.in-None-number_on.ensures

pub returns-in-None-clause-vars : goal.returns-in-None-clause-vars
returns-in-None-clause-vars c = λ target. no_io_skip c.args.t.now c.args.stage.now target (io_in (tree_of c.args.t.now c.args.on)) c.in-None.ensures _ (num_in (tree_of c.args.t.now c.args.actual)) (num_in (tree_of c.args.t.now c.args.worst_case))
