-- The range that an expression has under a list of claims: the rule of its form gives a range, which is then met with
-- each claim that compares the same tree with a number. What stands left of a joined operator, the part of a chain so
-- far, is no expression of its own: its range is that of its rule alone.
use Rattle.std.specs.Prelude.{ℕ, ◌+◌, ◌-◌, ◌^◌, min, Bool, true, false, not, ◌&&◌, ◌||◌, List, [], ◌∷◌, Option, None, Some, if◌then◌else◌, nat_eq, pos, int_le}
use Rattle.std.specs.Int.{int_max}
use Rattle.wf_num.specs.declared.ranges.Range.{Range}
use Rattle.wf_num.specs.Ranges.{range, nothing, is_empty, low, exact_range, width_range, fits_width, add_ranges, sub_ranges, mul_ranges, div_ranges, rem_ranges, shl_ranges, shr_ranges, and_ranges, or_ranges, xor_ranges, meet_ranges}
use Rattle.wf_ast.specs.TypedTree.{NumType, Arith, plus, minus, times, divided, remainder, shift_left, shift_right, bits_and, bits_or, bits_xor, mod_plus, mod_minus, mod_times, mod_shift_left, sat_plus, sat_minus, Order, less, at_most, equal, differs, at_least, greater, NumTree, number, read, element, link, convert, length_of, asked, SliceTree, array}
use Rattle.wf_ast.specs.Value.{compares}
use Rattle.wf_ast.specs.Same.{same_num}
use Rattle.wf_ast.specs.WellTyped.{question_width}
use Rattle.wf_facts_exprs.specs.Claims.{SideTree, single, sum, Claim, compared, stands, tree_of_side, same_side, flip}

-- The first rule: a claim of the same two sides gives a comparison which allows, of less, equal and greater, all that the
-- claim does; with its sides exchanged the claim counts turned round.

abbrev pub allows_less : Order → Bool
allows_less op = compares op 0 1

abbrev pub allows_equal : Order → Bool
allows_equal op = compares op 0 0

abbrev pub allows_greater : Order → Bool
allows_greater op = compares op 1 0

abbrev pub implies : (p q : Bool) → Bool
implies p q = not p || q

abbrev pub allows_no_more : (known wanted : Order) → Bool
allows_no_more known wanted =
    implies (allows_less known) (allows_less wanted) && (implies (allows_equal known) (allows_equal wanted) && implies (allows_greater known) (allows_greater wanted))

abbrev pub claim_gives : Claim → SideTree → Order → SideTree → Bool
claim_gives (compared l known r) a op b =
    (same_side l a && (same_side r b && allows_no_more known op)) || (same_side l b && (same_side r a && allows_no_more (flip known) op))
claim_gives (stands c answer) a op b = false

abbrev pub first_rule : List Claim → SideTree → Order → SideTree → Bool
first_rule [] a op b = false
first_rule (f ∷ fs) a op b = claim_gives f a op b || first_rule fs a op b

-- Meeting a range with claims about its tree.

-- The numbers of the range up to n, and those from n on.
abbrev pub non_empty : Range → Range
non_empty r = if is_empty r then nothing else r

abbrev pub up_to : ℕ → Range → Range
up_to n r = non_empty (range r.lo (min r.hi n))

abbrev pub from_on : ℕ → Range → Range
from_on n r = non_empty (range (int_max r.lo (pos n)) r.hi)

abbrev pub below : ℕ → Range → Range
below n r = if nat_eq n 0 then nothing else up_to (n - 1) r

-- What a range is met with in the first pass, over all comparisons but `<>`.
abbrev pub narrowed : Order → ℕ → Range → Range
narrowed equal n r = meet_ranges r (exact_range n)
narrowed less n r = below n r
narrowed at_most n r = up_to n r
narrowed at_least n r = from_on n r
narrowed greater n r = from_on (n + 1) r
narrowed differs n r = r

-- And in the second, over `<>`, which removes an end.
abbrev pub is_low_end : ℕ → Range → Bool
is_low_end n r = int_le r.lo (pos n) && int_le (pos n) r.lo

abbrev pub without : ℕ → Range → Range
without n r = if is_low_end n r then from_on (n + 1) r else if nat_eq r.hi n then below n r else r

abbrev pub thinned : Order → ℕ → Range → Range
thinned differs n r = without n r
thinned op n r = r

-- The number that a side is.
abbrev pub number_of_side : SideTree → Option ℕ
number_of_side (single (number at n)) = Some n
number_of_side s = None

-- What a claim makes of the range of a tree, by one of the two passes.
abbrev pub met_with : (Order → ℕ → Range → Range) → Bool → Order → Option ℕ → Range → Range
met_with pass true op (Some n) r = pass op n r
met_with pass about op n r = r

abbrev pub met_by : (Order → ℕ → Range → Range) → Claim → NumTree → Range → Range
met_by pass (compared l op r) t held = met_with pass (same_num (tree_of_side l) t) op (number_of_side r) held
met_by pass (stands c answer) t held = held

abbrev pub passed : (Order → ℕ → Range → Range) → List Claim → NumTree → Range → Range
passed pass [] t r = r
passed pass (f ∷ fs) t r = passed pass fs t (met_by pass f t r)

unfoldable pub met : List Claim → NumTree → Range → Range
met fs t r = passed thinned fs t (passed narrowed fs t r)

-- The range of each operator. `ordered` tells that the right operand of `-` is given to be at most the left one.

abbrev pub difference : (ordered : Bool) → Range → Range → Range
difference true a b = range (int_max (pos 0) (sub_ranges a b).lo) (sub_ranges a b).hi
difference false a b = sub_ranges a b

-- The range without a wrap, if it lies in the type; otherwise all of the type's numbers.
abbrev pub wrapped : (bits : ℕ) → Range → Range
wrapped bits r = if fits_width r bits then r else width_range bits

-- The plain operator's ends, cut to 0 and the type's largest number.
abbrev pub cut_off : (bits : ℕ) → Range → Range
cut_off bits r = if is_empty r then nothing else range (pos (min (low r.lo) (2 ^ bits - 1))) (min r.hi (2 ^ bits - 1))

abbrev pub operator_range : Arith → (bits : ℕ) → (ordered : Bool) → Range → Range → Range
operator_range plus bits ordered a b = add_ranges a b
operator_range minus bits ordered a b = difference ordered a b
operator_range times bits ordered a b = mul_ranges a b
operator_range divided bits ordered a b = div_ranges a b
operator_range remainder bits ordered a b = rem_ranges a b
operator_range shift_left bits ordered a b = shl_ranges a b
operator_range shift_right bits ordered a b = shr_ranges a b
operator_range bits_and bits ordered a b = and_ranges a b
operator_range bits_or bits ordered a b = or_ranges a b
operator_range bits_xor bits ordered a b = xor_ranges a b
operator_range mod_plus bits ordered a b = wrapped bits (add_ranges a b)
operator_range mod_minus bits ordered a b = wrapped bits (difference ordered a b)
operator_range mod_times bits ordered a b = wrapped bits (mul_ranges a b)
operator_range mod_shift_left bits ordered a b = wrapped bits (shl_ranges a b)
operator_range sat_plus bits ordered a b = cut_off bits (add_ranges a b)
operator_range sat_minus bits ordered a b = cut_off bits (difference ordered a b)

-- The range of each form. A local, a field, an argument, an element and what a base method answers have that of their
-- type; the length of an array is its number of elements.

abbrev pub type_range : NumType → Range
type_range of = range (pos of.low) of.high

abbrev pub length_range : SliceTree → Range
length_range (array at of count path) = exact_range count
length_range t = width_range 64

-- Whether the list gives, by the first rule, that the right operand is at most the left one.
abbrev pub is_ordered : List Claim → (joined : Bool) → (a b : NumTree) → Bool
is_ordered fs joined a b = not joined && first_rule fs (single b) at_most (single a)

-- A part of a chain isn't met with claims; every other expression is.
abbrev pub met_unless : (part : Bool) → List Claim → NumTree → Range → Range
met_unless true fs t r = r
met_unless false fs t r = met fs t r

abbrev pub rule_range : List Claim → NumTree → Range
rule_range fs (number at n) = exact_range n
rule_range fs (read at of path) = type_range of
rule_range fs (element at of cells index) = type_range of
rule_range fs (link at sign op bits joined a b) =
    operator_range op bits (is_ordered fs joined a b) (met_unless joined fs a (rule_range fs a)) (met fs b (rule_range fs b))
rule_range fs (convert at sign bits a) = met fs a (rule_range fs a)
rule_range fs (length_of at cells) = length_range cells
rule_range fs (asked at question a) = width_range (question_width question)

-- The range of an expression, or, where `part` is true, of a part of a chain.
abbrev pub part_range : (part : Bool) → List Claim → NumTree → Range
part_range part fs t = met_unless part fs t (rule_range fs t)

abbrev pub range_of : List Claim → NumTree → Range
range_of fs t = met fs t (rule_range fs t)

-- The range of a side; that of a sum is the sum of the ranges.
abbrev pub side_range : List Claim → SideTree → Range
side_range fs (single t) = range_of fs t
side_range fs (sum a b) = add_ranges (range_of fs a) (range_of fs b)
