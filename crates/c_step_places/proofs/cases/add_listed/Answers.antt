use Rattle.std.proofs.Common.{◌<◌, ◌+◌, ◌++◌, length, map, drop, get_or, ap, sym, ◌∙◌}
use Rattle.pens.proofs.Progress.{unroll}
use Rattle.c_meaning.specs.CStep.{by_default}
use Rattle.c_step_text.specs.Layout.{first_number}
use Rattle.c_step_places.specs.Marks.{first_marked, cases_among}
use Rattle.c_step_places.specs.Places.{place_in}
use Rattle.c_step_places.proofs.MarkLemmas.{default_step, arms_step}
use Rattle.c_step_places.proofs.PlaceLemmas.{no_place, place_here, places_rest}
use Rattle.c_step_places.proofs.cases.add_listed.Goals as goal

pub add_case-requires : goal.add_case-requires
add_case-requires c = place_here c.args.it.now.unit.now c.args.listed.now c.loop-at.at-index c.loop-at-test.true c.loop-at.invariant.has

pub loop-at-preserved : goal.loop-at-preserved
loop-at-preserved c =
    let within : c.loop-at.at-index < length c.args.listed.now = c.loop-at-test.true in
    let here = ap (λ ps. map (place_in c.args.it.now.unit.now) ps) (unroll c.args.listed.now c.loop-at.at-index no_place within) in
    record {
      has = places_rest c.args.it.now.unit.now c.args.listed.now c.loop-at.at-index within c.loop-at.invariant.has;
      default_so_far = default_step c.loop-at.default c.in_ok-default.default (place_in c.args.it.now.unit.now (get_or c.args.listed.now c.loop-at.at-index no_place)) (map (place_in c.args.it.now.unit.now) (drop (c.loop-at.at-index + 1) c.args.listed.now)) c.in_ok-default.ensures.default ∙ (ap (λ ps. first_number c.loop-at.default (first_marked by_default ps)) (sym here) ∙ c.loop-at.invariant.default_so_far);
      arms_so_far = arms_step c.loop-at.arms.items c.add_case.new.arms.items (c.args.arms.now.items ++ cases_among (map (place_in c.args.it.now.unit.now) c.args.listed.now)) (place_in c.args.it.now.unit.now (get_or c.args.listed.now c.loop-at.at-index no_place)) (map (place_in c.args.it.now.unit.now) (drop (c.loop-at.at-index + 1) c.args.listed.now)) c.in_ok-default.ensures.arms (ap (λ ps. c.loop-at.arms.items ++ cases_among ps) (sym here) ∙ c.loop-at.invariant.arms_so_far);
    }
