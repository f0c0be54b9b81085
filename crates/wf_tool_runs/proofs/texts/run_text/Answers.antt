use Rattle.std.proofs.Common.{◌≡◌, ◌∙◌, Ok, ap, subst}
use Rattle.wf_text.specs.Surface.{Surface}
use Rattle.wf_ast.specs.declared.typed_nodes.TypedNodes.{TypedNodes}
use Rattle.wf_ast.specs.TypedPackage.{package_of, surface_of}
use Rattle.wf_script_rules.specs.Scripts.{script_of}
use Rattle.wf_tool_runs.proofs.UnitRuns.{bytes-run}
use Rattle.wf_tool_runs.specs.Units.{RunsRead}
use Rattle.wf_tool_runs.proofs.texts.run_text.Goals as goal

pub returns-clause-runs : goal.returns-clause-runs
returns-clause-runs g c =
    let bytes = c.args.bytes.now in
    let script = c.in_ok-prepared.prepared.script in
    let seen = g.L.Loader.seen c.args.loader.now in
    let old = g.O.Sink.written c.args.out.now in
    let new = g.O.Sink.written c.run_read.new.out in
    let room = g.O.Sink.room c.args.out.now in
    let left = g.O.Sink.room c.run_read.new.out in
    let S : TypedNodes → Type 0 = λ nodes. script_of (surface_of (package_of nodes)) bytes ≡ Ok script in
    let R : Surface → Type 0 = λ surface. RunsRead seen surface script c.args.text.now old new room left c.run_read.result in
    let told = c.in_ok-prepared.ensures.reads.0 ∙ ap (λ (nodes : TypedNodes). surface_of (package_of nodes)) c.typed.ensures.same in
    bytes-run seen (surface_of (package_of c.args.a.now.nodes)) bytes c.args.text.now old new room left script (subst S c.typed.ensures.same c.in_ok-prepared.ensures.reads.1) c.run_read.result (subst R told c.run_read.ensures.runs)
