use Rattle.std.proofs.Common.{◌≡◌, ◌++◌, map, drop}
use Rattle.c_meaning.specs.CStep.{by_default}
use Rattle.c_step_text.specs.Layout.{first_number}
use Rattle.c_step_places.specs.Marks.{first_marked, cases_among}
use Rattle.c_step_places.specs.Places.{place_in, HasPlaces}
use Rattle.c_step_places.proofs.cases.add_listed.Given as goal

abbrev pub invariant-loop-at : goal.invariant-loop-at
invariant-loop-at l = record {
  has : HasPlaces l.it.unit.now (drop l.at-index l.listed);
  default_so_far : first_number l.default (first_marked by_default (map (place_in l.it.unit.now) (drop l.at-index l.listed))) ≡ first_marked by_default (map (place_in l.it.unit.now) l.listed);
  arms_so_far : l.arms.items ++ cases_among (map (place_in l.it.unit.now) (drop l.at-index l.listed)) ≡ l.fn.arms.items ++ cases_among (map (place_in l.it.unit.now) l.listed);
}
