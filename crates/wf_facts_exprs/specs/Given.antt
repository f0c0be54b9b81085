-- What a list of claims gives: comparisons by two rules, and conditions that stand.
use Rattle.std.specs.Prelude.{Bool, false, not, ◌&&◌, ◌||◌, List, if◌then◌else◌, pos, int_lt, int_le}
use Rattle.wf_num.specs.declared.ranges.Range.{Range}
use Rattle.wf_num.specs.Ranges.{is_empty}
use Rattle.wf_ast.specs.TypedTree.{Order, less, at_most, equal, differs, at_least, greater, CondTree, truth, compare, junction, negation}
use Rattle.wf_ast.specs.Value.{same_truth}
use Rattle.wf_facts_exprs.specs.Claims.{SideTree, single, Claim, stands, is_among, with_answer}
use Rattle.wf_facts_exprs.specs.RangeOf.{first_rule, side_range}

-- The second rule: the ranges of the two sides decide the comparison for all their values, or one of them is empty.

abbrev pub decided : Order → (a b : Range) → Bool
decided less a b = int_lt (pos a.hi) b.lo
decided at_most a b = int_le (pos a.hi) b.lo
decided equal a b = int_le (pos a.hi) b.lo && int_le (pos b.hi) a.lo
decided differs a b = int_lt (pos a.hi) b.lo || int_lt (pos b.hi) a.lo
decided at_least a b = int_le (pos b.hi) a.lo
decided greater a b = int_lt (pos b.hi) a.lo

abbrev pub second_rule : Order → (a b : Range) → Bool
second_rule op a b = is_empty a || (is_empty b || decided op a b)

abbrev pub gives_sides : List Claim → SideTree → Order → SideTree → Bool
gives_sides fs a op b = first_rule fs a op b || second_rule op (side_range fs a) (side_range fs b)

-- The condition itself stands in the list, with this answer.
abbrev pub is_standing : List Claim → CondTree → (answer : Bool) → Bool
is_standing fs c answer = is_among fs (stands c answer)

-- Whether the list gives that a condition has this answer. All operands of `and` with yes, and of `or` with no, have to be
-- given; of `and` with no, and of `or` with yes, one of them, or the whole chain stands. `part` tells the part of a chain
-- so far, which never stands by itself.
abbrev pub gives_part : (part : Bool) → List Claim → CondTree → (answer : Bool) → Bool
gives_part part fs (truth at b) answer = same_truth b answer || is_standing fs (truth at b) answer
gives_part part fs (compare at sign a op b) answer = gives_sides fs (single a) (with_answer answer op) (single b)
gives_part part fs (junction at both joined a b) answer =
    if same_truth both answer then gives_part joined fs a answer && gives_part false fs b answer
    else gives_part joined fs a answer || (gives_part false fs b answer || (not part && is_standing fs (junction at both joined a b) answer))
gives_part part fs (negation at a) answer = gives_part false fs a (not answer)
gives_part part fs c answer = is_standing fs c answer

abbrev pub gives : List Claim → CondTree → (answer : Bool) → Bool
gives fs c answer = gives_part false fs c answer
