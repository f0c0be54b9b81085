use Rattle.std.proofs.Common.{refl, sym}
use Rattle.wf_ast.specs.TypedTree.{yield}
use Rattle.wf_mean_exprs.specs.MachineState.{done_seen}
use Rattle.wf_mean_flows.specs.Flows.{made_of, site_of}
use Rattle.wf_mean_runs.proofs.SeekLaws.{is_here}
use Rattle.wf_mean_runs.proofs.seeking.seek_yield.Goals as goal

pub returns-then-is_at : goal.returns-then-is_at
returns-then-is_at c = record {
  sought = λ level.
      is_here c.args.t.now level c.args.point.at (done_seen c.args.point.done) c.args.stage.now (made_of c.args.t.now c.args.s) (site_of c.args.t.now c.args.s) (yield c.args.status.0) c.pause.result c.args.stage.now c.requires.made refl (sym c.if-is_at.ensures) (c.pause.ensures.runs level);
}
