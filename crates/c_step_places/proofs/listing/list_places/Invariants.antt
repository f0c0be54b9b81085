use Rattle.std.proofs.Common.{◌≡◌, ◌++◌, map}
use Rattle.c_text.specs.CNodes.{code_of}
use Rattle.c_step_places.specs.Places.{places_of, place_in, HasPlaces, left_of, size_of}
use Rattle.c_step_places.proofs.listing.list_places.Given as goal

abbrev pub invariant-loop-at : goal.invariant-loop-at
invariant-loop-at l = record {
  so_far : map (place_in l.it.unit.now) l.listed.items ++ left_of l.it.unit.now l.enters l.left.items ≡ places_of l.enters l.number (code_of l.it.unit.now l.fn.body.0);
  has_left : HasPlaces l.it.unit.now l.left.items;
  has_listed : HasPlaces l.it.unit.now l.listed.items;
}

abbrev pub decreases-loop-at : goal.decreases-loop-at
decreases-loop-at l = size_of l.it.unit.now l.left.items
