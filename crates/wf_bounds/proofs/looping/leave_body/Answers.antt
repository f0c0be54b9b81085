use Rattle.std.proofs.Common.{◌∙◌, Ok, ap, sym}
use Rattle.std.proofs.lemmas.Result.{err_from_is_err_and}
use Rattle.wf_bounds.specs.declared.ways.Way.{Way}
use Rattle.wf_facts_exprs.specs.Claims.{claims_in}
use Rattle.wf_loops.specs.LoopRules.{way_back_refusal}
use Rattle.wf_loops.specs.LoopNodes.{head_at, place_at}
use Rattle.wf_bounds.proofs.ComingLemmas.{left_goes, left_refused, comes_same, close_is, back_met, back_refused}
use Rattle.wf_bounds.proofs.looping.leave_body.Goals as goal

pub returns-in_ok-way_back-in-GoesOn-clause-comes : goal.returns-in_ok-way_back-in-GoesOn-clause-comes
returns-in_ok-way_back-in-GoesOn-clause-comes c walked h =
    let nodes = c.args.walk.now.t.now in
    let goes = c.in_ok-way.was ∙ ap (λ (w : Way). Ok w) c.in-GoesOn.is in
    let head = head_at nodes c.args.w in
    let at = place_at nodes c.args.w in
    let close = close_is nodes c.args.w c.inner_place.result c.requires.is_loop c.inner_place.ensures in
    let back = back_met _ _ _ c.in_ok-way_back-in-GoesOn.was c.way_back.ensures in
    comes_same nodes _ _ _ _
    (left_goes nodes walked c.args.way c.args.inside at head goes (ap (λ p. way_back_refusal (claims_in nodes c.args.inside.list) p head) (sym close) ∙ back) h)
    c.go_behind.ensures.comes

pub returns-in_err-way_back-in-GoesOn-clause-comes : goal.returns-in_err-way_back-in-GoesOn-clause-comes
returns-in_err-way_back-in-GoesOn-clause-comes c walked h =
    let r = err_from_is_err_and c.from_residual-in_err-way_back-in-GoesOn.result c.from_residual-in_err-way_back-in-GoesOn.ensures.1 in
    let nodes = c.args.walk.now.t.now in
    let goes = c.in_ok-way.was ∙ ap (λ (w : Way). Ok w) c.in-GoesOn.is in
    let head = head_at nodes c.args.w in
    let at = place_at nodes c.args.w in
    let close = close_is nodes c.args.w c.inner_place.result c.requires.is_loop c.inner_place.ensures in
    let back = back_refused _ _ _ c.in_err-way_back-in-GoesOn.was c.way_back.ensures in
    rw (r.1, r.2) (left_refused nodes walked c.args.way c.args.inside at head _ goes (ap (λ p. way_back_refusal (claims_in nodes c.args.inside.list) p head) (sym close) ∙ back) h)
