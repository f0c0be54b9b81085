-- The demands that the value of an expression makes: what has to be known so that it isn't stuck. They are looked at
-- operands first, from the left; the first that isn't met is refused, with its rule, at its node's sign, bracket or name.
use Rattle.std.specs.Prelude.{ℕ, Bool, true, false, ◌||◌, List, Option, None, Some, Result, Ok, Err, nat_lt, pos, int_le}
use Rattle.wf_text.specs.declared.place.Place.{Place}
use Rattle.wf_text.specs.declared.rules.Rule.{Rule}
use Rattle.wf_text.specs.declared.rules.Rule.TheVariants.{B1, B2, B3, B4, B5, B9}
use Rattle.wf_text.specs.declared.rules.Refusal.{Refusal}
use Rattle.wf_num.specs.declared.ranges.Range.{Range}
use Rattle.wf_num.specs.Ranges.{is_empty, fits_width}
use Rattle.wf_base.specs.BaseTable.{bytes_of, peek_width}
use Rattle.wf_ast.specs.TypedTree.{Arith, divided, remainder, shift_left, shift_right, mod_shift_left, less, at_most, at_least, Question, reader_length, peek, NumTree, number, read, element, link, convert, length_of, asked, SliceTree, slice, array, cut, EndTree, absent, present, CondTree, compare, junction, negation, ValueTree, numeric, logical, elements}
use Rattle.wf_facts_exprs.specs.Claims.{SideTree, single, sum, Claim}
use Rattle.wf_facts_exprs.specs.RangeOf.{part_range, range_of}
use Rattle.wf_facts_exprs.specs.Given.{gives_sides}

-- A demand that has to be met, and two of which the first one that isn't met counts.
abbrev pub demand : Bool → Rule → Place → Option Refusal
demand true rule at = None
demand false rule at = Some (record { rule = rule; at = at })

abbrev pub or_else : Option Refusal → Option Refusal → Option Refusal
or_else None later = later
or_else (Some refusal) later = Some refusal

-- What an operator asks of its right operand's range: a divisor is at least 1, and a shift is below the width.
abbrev pub is_divisor : Range → Bool
is_divisor b = is_empty b || int_le (pos 1) b.lo

abbrev pub is_below : (bits : ℕ) → Range → Bool
is_below bits b = is_empty b || nat_lt b.hi bits

abbrev pub operand_demand : Arith → (bits : ℕ) → (sign : Place) → Range → Option Refusal
operand_demand divided bits sign b = demand (is_divisor b) B5 sign
operand_demand remainder bits sign b = demand (is_divisor b) B5 sign
operand_demand shift_left bits sign b = demand (is_below bits b) B4 sign
operand_demand shift_right bits sign b = demand (is_below bits b) B4 sign
operand_demand mod_shift_left bits sign b = demand (is_below bits b) B4 sign
operand_demand op bits sign b = None

-- A peek needs its bytes.
abbrev pub question_demand : List Claim → Place → Question → (io_arg : ℕ) → Option Refusal
question_demand fs at (peek form) a =
    demand (gives_sides fs (single (asked at reader_length a)) at_least (single (number at (bytes_of (peek_width form))))) B9 at
question_demand fs at question a = None

-- The ends of a slice: the first is at most the second, which, where it is written, is at most the length. An absent
-- first end is 0, and an absent second one the length.
abbrev pub ends_demand : List Claim → Place → SliceTree → (from to : EndTree) → Option Refusal
ends_demand fs at cells absent absent = None
ends_demand fs at cells (present i) absent = demand (gives_sides fs (single i) at_most (single (length_of at cells))) B3 at
ends_demand fs at cells absent (present j) =
    or_else (demand (gives_sides fs (single (number at 0)) at_most (single j)) B3 at)
    (demand (gives_sides fs (single j) at_most (single (length_of at cells))) B3 at)
ends_demand fs at cells (present i) (present j) =
    or_else (demand (gives_sides fs (single i) at_most (single j)) B3 at)
    (demand (gives_sides fs (single j) at_most (single (length_of at cells))) B3 at)

-- The first demand of a number that isn't met; None where all are. An operator's value lies in its width, an operand of
-- `as` in the new one, and an index is below the length.
abbrev mutual
  pub num_refusal : List Claim → (part : Bool) → NumTree → Option Refusal
  num_refusal fs part (number at n) = None
  num_refusal fs part (read at of path) = None
  num_refusal fs part (element at of cells index) =
      or_else (slice_refusal fs cells) (or_else (num_refusal fs false index)
      (demand (gives_sides fs (single index) less (single (length_of at cells))) B2 at))
  num_refusal fs part (link at sign op bits joined a b) =
      or_else (num_refusal fs joined a) (or_else (num_refusal fs false b) (or_else (operand_demand op bits sign (range_of fs b))
      (demand (fits_width (part_range part fs (link at sign op bits joined a b)) bits) B1 sign)))
  num_refusal fs part (convert at sign bits a) = or_else (num_refusal fs false a) (demand (fits_width (range_of fs a) bits) B1 sign)
  num_refusal fs part (length_of at cells) = slice_refusal fs cells
  num_refusal fs part (asked at question a) = question_demand fs at question a

  pub slice_refusal : List Claim → SliceTree → Option Refusal
  slice_refusal fs (slice at bits path) = None
  slice_refusal fs (array at of count path) = None
  slice_refusal fs (cut at cells from to) =
      or_else (slice_refusal fs cells) (or_else (end_refusal fs from) (or_else (end_refusal fs to) (ends_demand fs at cells from to)))

  pub end_refusal : List Claim → EndTree → Option Refusal
  end_refusal fs absent = None
  end_refusal fs (present t) = num_refusal fs false t

abbrev pub cond_refusal : List Claim → CondTree → Option Refusal
cond_refusal fs (compare at sign a op b) = or_else (num_refusal fs false a) (num_refusal fs false b)
cond_refusal fs (junction at both joined a b) = or_else (cond_refusal fs a) (cond_refusal fs b)
cond_refusal fs (negation at a) = cond_refusal fs a
cond_refusal fs c = None

-- The first demand that the value of an expression makes and that isn't met.
abbrev pub value_refusal : List Claim → ValueTree → Option Refusal
value_refusal fs (numeric t) = num_refusal fs false t
value_refusal fs (logical c) = cond_refusal fs c
value_refusal fs (elements t) = slice_refusal fs t
value_refusal fs t = None

-- And that of the sides of a comparison.
abbrev pub side_refusal : List Claim → SideTree → Option Refusal
side_refusal fs (single t) = num_refusal fs false t
side_refusal fs (sum a b) = or_else (num_refusal fs false a) (num_refusal fs false b)

-- What is answered where all demands are met, or the first that isn't.
abbrev pub unless_refused : {X : Type 0} → Option Refusal → X → Result X Refusal
unless_refused None x = Ok x
unless_refused (Some refusal) x = Err refusal
