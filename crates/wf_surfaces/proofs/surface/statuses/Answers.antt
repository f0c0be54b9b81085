use Rattle.std.proofs.Common.{◌∙◌, ap, map}
use Rattle.wf_surfaces.proofs.SurfaceLemmas.{pushed}
use Rattle.wf_surfaces.proofs.surface.statuses.Goals as goal

pub loop-n-preserved : goal.loop-n-preserved
loop-n-preserved c = ap (map (λ text. text.items)) c.in_ok-push.ensures.items ∙ pushed (λ text. text.items) c.loop-n.all.items c.in_ok-text.text c.args.t.now.statuses c.loop-n.n _ c.loop-n.invariant c.status_text.ensures c.in_ok-text.ensures
