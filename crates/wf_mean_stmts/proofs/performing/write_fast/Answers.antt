use Rattle.std.proofs.lemmas.Option.{slice_get_within}
use Rattle.wf_ast.specs.TypedTrees.{io_in, num_in, tree_of}
use Rattle.wf_mean_stmts.proofs.PerformLemmas.{no_byte, no_io_write, write_goes}
use Rattle.wf_mean_stmts.proofs.performing.write_fast.Goals as goal

pub write_byte-requires : goal.write_byte-requires
write_byte-requires c = record { there = slice_get_within c.args.stage.now.host.bufs c.in-Some.k c.in-Some.ensures.0 c.in-Some.ensures.1 }

pub returns-in-Some-number_on-clause-vars : goal.returns-in-Some-number_on-clause-vars
returns-in-Some-number_on-clause-vars c = λ target.
    let it = c.in-Some.ensures in
    write_goes c.args.t.now c.args.stage.now target (io_in (tree_of c.args.t.now c.args.on)) c.in-Some.k it.0 it.2 (num_in (tree_of c.args.t.now c.args.byte)) _ c.in-Some-number_on.n _ c.in-Some-number_on.ensures
    (c.write_byte.ensures.vars c.args.t.now it.0 it.1)

pub returns-in-None-number_on-clause-vars : goal.returns-in-None-number_on-clause-vars
returns-in-None-number_on-clause-vars c = λ target.
    let it = c.in-Some.ensures in
    no_byte c.args.t.now c.args.stage.now target (io_in (tree_of c.args.t.now c.args.on)) c.in-Some.k it.0 it.2 (num_in (tree_of c.args.t.now c.args.byte)) _ c.in-None-number_on.ensures

pub returns-in-None-clause-vars : goal.returns-in-None-clause-vars
returns-in-None-clause-vars c = λ target. no_io_write c.args.t.now c.args.stage.now target (io_in (tree_of c.args.t.now c.args.on)) c.in-None.ensures _ (num_in (tree_of c.args.t.now c.args.byte))
