use Rattle.std.proofs.Common.{ℕ, List, subst, arith}
use Rattle.wf_ast.specs.TypedPackage.{package_of, surface_of}
use Rattle.wf_tool_runs.specs.Lowered.{lowered_report}
use Rattle.wf_tool_runs.specs.Runs.{RunsScript}
use Rattle.wf_tool.proofs.EndedRuns.{uncounted}
use Rattle.wf_tool.proofs.tool.run_package.Goals as goal

pub end_run-requires : goal.end_run-requires
end_run-requires g c = record {
  sink = λ is.
      let same = uncounted (g.O.Sink.faults c.args.out.now) (g.O.Sink.faults c.run_lowered-ended.new.out) c.run_lowered-ended.result c.run_lowered-ended.ensures.count is in
      omega (arith, same, c.requires.sink);
}

pub returns-clause-written : goal.returns-clause-written
returns-clause-written g c =
    let p = package_of c.args.ready.now.accepted.nodes in
    let old = g.O.Sink.written c.args.out.now in
    let mid = g.O.Sink.written c.run_lowered-ended.new.out in
    let room = g.O.Sink.room c.args.out.now in
    let left = g.O.Sink.room c.run_lowered-ended.new.out in
    let R : List ℕ → Type 0 = λ bytes. RunsScript (surface_of p) (lowered_report (g.L.Loader.seen c.args.loader.now) p) bytes old mid room left c.run_lowered-ended.result in
    c.end_run.ensures.written (surface_of p) (lowered_report (g.L.Loader.seen c.args.loader.now) p) c.args.ready.now.script.items old room (subst R c.as_slice.ensures.value c.run_lowered-ended.ensures.runs)

pub returns-clause-pieces : goal.returns-clause-pieces
returns-clause-pieces g c = c.end_run.ensures.pieces (g.O.Sink.longest c.args.out.now) c.run_lowered-ended.ensures.longest

pub returns-clause-sink : goal.returns-clause-sink
returns-clause-sink g c = c.end_run.ensures.sink (g.O.Sink.faults c.args.out.now) c.run_lowered-ended.ensures.count
