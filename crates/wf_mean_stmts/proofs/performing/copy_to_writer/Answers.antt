use Rattle.std.proofs.Common.{subst}
use Rattle.std.proofs.lemmas.Option.{slice_get_within}
use Rattle.wf_ast.specs.TypedTrees.{io_in, slice_in, optional_target, tree_of}
use Rattle.wf_mean_stmts.specs.Stages.{vars_on}
use Rattle.wf_ast.specs.Value.{num}
use Rattle.wf_meaning.specs.World.{Body, put_value}
use Rattle.wf_mean_exprs.specs.MachineState.{span_seen}
use Rattle.wf_mean_stmts.specs.Stages.{Comes}
use Rattle.wf_mean_stmts.proofs.BodyLemmas.{same_body}
use Rattle.wf_mean_stmts.proofs.PerformLemmas.{no_io_copy, to_writer_absent, to_writer_goes, to_writer_stuck}
use Rattle.wf_mean_stmts.proofs.performing.copy_to_writer.Goals as goal

pub copy_out-requires : goal.copy_out-requires
copy_out-requires c = record { there = slice_get_within c.args.stage.now.host.bufs c.in-Some.k c.in-Some.ensures.0 c.in-Some.ensures.1 }

pub returns-in-Some-copy_out-clause-vars : goal.returns-in-Some-copy_out-clause-vars
returns-in-Some-copy_out-clause-vars c =
    let nodes = c.args.t.now in
    let it = c.in-Some.ensures in
    let mid = c.copy_out.new.stage in
    let P : Body → Type 0 = λ b. Comes c.put_if_any.result (put_value b (optional_target (tree_of nodes) c.args.target) (num c.in-Some-copy_out.n) (vars_on nodes mid)) (vars_on nodes c.put_if_any.new.stage) in
    to_writer_goes nodes c.args.stage.now (optional_target (tree_of nodes) c.args.target) (io_in (tree_of nodes c.args.on)) c.in-Some.k it.0 it.2 (slice_in (tree_of nodes c.args.source)) c.put_if_any.result (span_seen c.in-Some-slice_on.source) c.in-Some-copy_out.n (vars_on nodes mid) (vars_on nodes c.put_if_any.new.stage) c.in-Some-slice_on.ensures
    (c.in-Some-copy_out.ensures.vars it.0 it.1) (subst P (same_body nodes c.args.stage.now mid c.copy_out.ensures.shape) c.put_if_any.ensures.vars)

pub returns-in-None-copy_out-clause-vars : goal.returns-in-None-copy_out-clause-vars
returns-in-None-copy_out-clause-vars c =
    let nodes = c.args.t.now in
    let it = c.in-Some.ensures in
    to_writer_stuck nodes c.args.stage.now (optional_target (tree_of nodes) c.args.target) (io_in (tree_of nodes c.args.on)) c.in-Some.k it.0 it.2 (slice_in (tree_of nodes c.args.source)) (span_seen c.in-Some-slice_on.source) (vars_on nodes c.copy_out.new.stage) _ c.in-Some-slice_on.ensures (c.in-None-copy_out.ensures.vars it.0 it.1)

pub returns-in-None-slice_on-clause-vars : goal.returns-in-None-slice_on-clause-vars
returns-in-None-slice_on-clause-vars c =
    let nodes = c.args.t.now in
    let it = c.in-Some.ensures in
    to_writer_absent nodes c.args.stage.now (optional_target (tree_of nodes) c.args.target) (io_in (tree_of nodes c.args.on)) c.in-Some.k it.0 it.2 (slice_in (tree_of nodes c.args.source)) _ c.in-None-slice_on.ensures

pub returns-in-None-clause-vars : goal.returns-in-None-clause-vars
returns-in-None-clause-vars c = no_io_copy c.args.t.now c.args.stage.now (optional_target (tree_of c.args.t.now) c.args.target) (io_in (tree_of c.args.t.now c.args.on)) c.in-None.ensures _ (slice_in (tree_of c.args.t.now c.args.source))
