use Rattle.std.proofs.Common.{◌∙◌, ap}
use Rattle.std.specs.Prelude.{slice_get}
use Rattle.wf_ast.specs.Value.{State}
use Rattle.wf_mean_exprs.specs.MachineState.{sight, store_seen}
use Rattle.wf_mean_stmts.proofs.copying.cell.Goals as goal

pub returns : goal.returns
unfolding sight
returns c = c.cell.ensures ∙ ap (λ (s : State). slice_get (s.cells_at (store_seen c.args.store)) c.args.k) c.scene.ensures.seen
