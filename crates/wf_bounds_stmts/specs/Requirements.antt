-- What statements require, and where: that lists of facts keep to their limit, that a value lies in a type, that what is handed
-- over is in order; and where expressions stand.
use Rattle.std.specs.Prelude.{Bool, ◌&&◌, ◌||◌, List, [], ◌∷◌, Option, None, Some, option_map, if◌then◌else◌, nat_le, pos, int_le}
use Rattle.wf_text.specs.declared.place.Place.{Place}
use Rattle.wf_text.specs.declared.rules.Rule.{Rule}
use Rattle.wf_text.specs.declared.rules.Refusal.{Refusal}
use Rattle.wf_num.specs.declared.ranges.Range.{Range}
use Rattle.wf_num.specs.Ranges.{is_empty}
use Rattle.wf_ast.specs.declared.types.Ty.{Ty}
use Rattle.wf_ast.specs.declared.types.Ty.TheVariants as types
use Rattle.wf_ast.specs.TypedTree.{NumType, NumTree, number, read, element, link, convert, length_of, asked, SliceTree, slice, array, cut, StatusTree, status, held, no_status, CondTree, truth, flag, compare, same_status, junction, negation, closed, has_category, ValueTree, numeric, logical, state, elements, io, lost}
use Rattle.wf_ast.specs.TypedTrees.{no_place, num_type}
use Rattle.wf_ast.specs.StatementOrder.{stands_before}
use Rattle.wf_facts_exprs.specs.Claims.{Claim}
use Rattle.wf_facts_exprs.specs.RangeOf.{range_of}
use Rattle.wf_facts_exprs.specs.Demands.{demand, or_else, value_refusal}
use Rattle.wf_loops.specs.LoopRules.{limit}

-- Where an expression stands.

abbrev pub place_of_number : NumTree → Place
place_of_number (number at n) = at
place_of_number (read at of path) = at
place_of_number (element at of cells index) = at
place_of_number (link at sign op bits joined a b) = at
place_of_number (convert at sign bits a) = at
place_of_number (length_of at cells) = at
place_of_number (asked at question a) = at

abbrev pub place_of_slice : SliceTree → Place
place_of_slice (slice at bits path) = at
place_of_slice (array at of count path) = at
place_of_slice (cut at cells from to) = at

abbrev pub place_of_status : StatusTree → Place
place_of_status (status at n) = at
place_of_status (held at path) = at
place_of_status no_status = no_place

abbrev pub place_of_condition : CondTree → Place
place_of_condition (truth at b) = at
place_of_condition (flag at path) = at
place_of_condition (compare at sign a op b) = at
place_of_condition (same_status at sign a one b) = at
place_of_condition (junction at both joined a b) = at
place_of_condition (negation at a) = at
place_of_condition (closed at a) = at
place_of_condition (has_category at a category) = at

abbrev pub place_of : ValueTree → Place
place_of (numeric t) = place_of_number t
place_of (logical c) = place_of_condition c
place_of (state t) = place_of_status t
place_of (elements t) = place_of_slice t
place_of (io at a) = at
place_of lost = no_place

-- Each of these lists has to keep to the limit. `at` is the first token of the statement that makes them.
abbrev pub limits : (at : Place) → List (List Claim) → Option Refusal
limits at [] = None
limits at (fs ∷ lists) = or_else (limit at fs) (limits at lists)

-- All numbers of a range are numbers of a type; a type without bounds has all numbers of its width.
abbrev pub lies_in : NumType → Range → Bool
lies_in of r = is_empty r || (int_le (pos of.low) r.lo && nat_le r.hi of.high)

-- The type of numbers; None of a type of anything else.
abbrev pub number_type : Ty → Option NumType
number_type (types.Num width lo hi) = Some (num_type (types.Num width lo hi))
number_type ty = None

-- A number that goes where numbers of a type are taken has to lie in the type. It is refused at its own place.
abbrev pub lies_refusal : Rule → List Claim → Option NumType → ValueTree → Option Refusal
lies_refusal rule fs (Some of) (numeric t) = demand (lies_in of (range_of fs t)) rule (place_of_number t)
lies_refusal rule fs of t = None

-- The range of a value under a list of facts, if it is a number.
abbrev pub range_in : List Claim → ValueTree → Option Range
range_in fs (numeric t) = Some (range_of fs t)
range_in fs t = None

-- Values that are handed over, each with the type of numbers that takes it, if one does. They are looked at in written order,
-- whatever order they are declared in: of those that are refused, the one that stands first is told.

abbrev pub Handed : Type 0
Handed = Option NumType × ValueTree

abbrev pub handed_refusal : Rule → List Claim → Handed → Option Refusal
handed_refusal rule fs h = or_else (value_refusal fs h.1) (lies_refusal rule fs h.0 h.1)

-- A refusal with the place of the value that it comes from.
abbrev pub Placed : Type 0
Placed = Place × Refusal

abbrev pub placed : Place → Option Refusal → Option Placed
placed at refusal = option_map (λ r. (at, r)) refusal

abbrev pub written_first : Option Placed → Option Placed → Option Placed
written_first None other = other
written_first (Some p) None = Some p
written_first (Some p) (Some q) = if stands_before q.0 p.0 then Some q else Some p

-- What is found of values in order, `found` of those before them.
abbrev pub first_handed : Rule → List Claim → (found : Option Placed) → List Handed → Option Placed
first_handed rule fs found [] = found
first_handed rule fs found (h ∷ hs) = first_handed rule fs (written_first found (placed (place_of h.1) (handed_refusal rule fs h))) hs

abbrev pub all_handed : Rule → List Claim → List Handed → Option Refusal
all_handed rule fs hs = option_map (λ p. p.1) (first_handed rule fs None hs)
