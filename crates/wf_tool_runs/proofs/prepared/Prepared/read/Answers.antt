use Rattle.wf_tool_runs.proofs.UnitRuns.{prepared}
use Rattle.wf_tool_runs.proofs.prepared.Prepared.read.Goals as goal

pub returns-clause-prepared : goal.returns-clause-prepared
returns-clause-prepared c =
    prepared c.args.t.now c.requires.typed (record { surface = c.in_ok-surface.surface; script = c.in_ok-script.script }) c.in_ok-surface.ensures (c.args.bytes.now, c.in_ok-script.ensures)
