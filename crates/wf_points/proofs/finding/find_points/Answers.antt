use Rattle.std.proofs.Common.{◌∙◌, sym, ap, refl, map}
use Rattle.wf_points.specs.FoundPoints.{found_at, points_at, points_listed}
use Rattle.wf_points.proofs.LoopLemmas.{all_found}
use Rattle.wf_points.proofs.PointLemmas.{body_points}
use Rattle.wf_points.proofs.finding.find_points.Goals as goal

pub returns : goal.returns
returns c =
    let nodes = c.args.t.now in
    all_found (λ ss. map found_at (points_listed (points_at nodes) ss)) c.as_slice-s-items.result.now c.loop-s.s-index c.loop-s.found _ refl c.loop-s-test.false c.loop-s.invariant
    ∙ ap (λ ss. map found_at (points_listed (points_at nodes) ss)) c.as_slice-s-items.ensures
    ∙ ap (map found_at) (sym (body_points nodes c.requires.typed c.args.body.now c.requires.known))
