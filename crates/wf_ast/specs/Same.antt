-- When two trees are the same, wherever they stand: constant expressions are the same where their numbers are. Two shifts
-- are the same only where their widths are too, since a constant on the left has forgotten its own; every other operator
-- has its width from an operand that isn't constant.
use Rattle.std.specs.Prelude.{ℕ, Bool, true, false, ◌&&◌, nat_eq}
use Rattle.wf_base.specs.declared.base_methods.PeekForm.{PeekForm}
use Rattle.wf_base.specs.declared.base_methods.PeekForm.TheVariants.{PeekU8, PeekU16Le, PeekU32Le}
use Rattle.wf_ast.specs.TypedTree.{Path, local, field, arg, Arith, plus, minus, times, divided, remainder, shift_left, shift_right, bits_and, bits_or, bits_xor, mod_plus, mod_minus, mod_times, mod_shift_left, sat_plus, sat_minus, Order, less, at_most, equal, differs, at_least, greater, Question, reader_length, reader_position, peek, writer_length, writer_position, NumTree, number, read, element, link, convert, length_of, asked, SliceTree, slice, array, cut, EndTree, absent, present, StatusTree, status, held, CondTree, truth, flag, compare, same_status, junction, negation, closed, has_category, ValueTree, numeric, logical, state, elements, io}
use Rattle.wf_ast.specs.Value.{same_truth, same_category}

abbrev pub same_path : (p q : Path) → Bool
same_path (local m) (local n) = nat_eq m n
same_path (field m) (field n) = nat_eq m n
same_path (arg m) (arg n) = nat_eq m n
same_path p q = false

-- Operators by a number of their own.
abbrev pub arith_number : Arith → ℕ
arith_number plus = 0
arith_number minus = 1
arith_number times = 2
arith_number divided = 3
arith_number remainder = 4
arith_number shift_left = 5
arith_number shift_right = 6
arith_number bits_and = 7
arith_number bits_or = 8
arith_number bits_xor = 9
arith_number mod_plus = 10
arith_number mod_minus = 11
arith_number mod_times = 12
arith_number mod_shift_left = 13
arith_number sat_plus = 14
arith_number sat_minus = 15

abbrev pub same_arith : (f g : Arith) → Bool
same_arith f g = nat_eq (arith_number f) (arith_number g)

abbrev pub order_number : Order → ℕ
order_number less = 0
order_number at_most = 1
order_number equal = 2
order_number differs = 3
order_number at_least = 4
order_number greater = 5

abbrev pub same_order : (f g : Order) → Bool
same_order f g = nat_eq (order_number f) (order_number g)

abbrev pub peek_number : PeekForm → ℕ
peek_number PeekU8 = 0
peek_number PeekU16Le = 1
peek_number PeekU32Le = 2

abbrev pub question_number : Question → ℕ
question_number (peek form) = peek_number form
question_number reader_length = 3
question_number reader_position = 4
question_number writer_length = 5
question_number writer_position = 6

abbrev pub same_question : (p q : Question) → Bool
same_question p q = nat_eq (question_number p) (question_number q)

-- A shift has the width of its left side.
abbrev pub same_width : Arith → (bits other : ℕ) → Bool
same_width shift_left bits other = nat_eq bits other
same_width shift_right bits other = nat_eq bits other
same_width mod_shift_left bits other = nat_eq bits other
same_width op bits other = true

abbrev mutual
  pub same_num : (a b : NumTree) → Bool
  same_num (number at m) (number at' n) = nat_eq m n
  same_num (read at of p) (read at' of' q) = same_path p q
  same_num (element at of cells index) (element at' of' cells' index') = same_slice cells cells' && same_num index index'
  same_num (link at sign op bits joined a b) (link at' sign' op' bits' joined' a' b') =
      same_arith op op' && (same_width op bits bits' && (same_truth joined joined' && (same_num a a' && same_num b b')))
  same_num (convert at sign bits a) (convert at' sign' bits' a') = nat_eq bits bits' && same_num a a'
  same_num (length_of at cells) (length_of at' cells') = same_slice cells cells'
  same_num (asked at question a) (asked at' question' a') = same_question question question' && nat_eq a a'
  same_num a b = false

  pub same_slice : (a b : SliceTree) → Bool
  same_slice (slice at bits p) (slice at' bits' q) = same_path p q
  same_slice (array at of count p) (array at' of' count' q) = same_path p q
  same_slice (cut at cells from to) (cut at' cells' from' to') = same_slice cells cells' && (same_end from from' && same_end to to')
  same_slice a b = false

  pub same_end : (a b : EndTree) → Bool
  same_end absent absent = true
  same_end (present a) (present b) = same_num a b
  same_end a b = false

abbrev pub same_state : (a b : StatusTree) → Bool
same_state (status at m) (status at' n) = nat_eq m n
same_state (held at p) (held at' q) = same_path p q
same_state a b = false

abbrev pub same_cond : (a b : CondTree) → Bool
same_cond (truth at b) (truth at' c) = same_truth b c
same_cond (flag at p) (flag at' q) = same_path p q
same_cond (compare at sign a op b) (compare at' sign' a' op' b') = same_order op op' && (same_num a a' && same_num b b')
same_cond (same_status at sign a one b) (same_status at' sign' a' one' b') = same_truth one one' && (same_state a a' && same_state b b')
same_cond (junction at both joined a b) (junction at' both' joined' a' b') =
    same_truth both both' && (same_truth joined joined' && (same_cond a a' && same_cond b b'))
same_cond (negation at a) (negation at' a') = same_cond a a'
same_cond (closed at a) (closed at' a') = nat_eq a a'
same_cond (has_category at a category) (has_category at' a' category') = same_category category category' && same_state a a'
same_cond a b = false

-- Whether two trees are the same.
abbrev pub same : (a b : ValueTree) → Bool
same (numeric a) (numeric b) = same_num a b
same (logical a) (logical b) = same_cond a b
same (state a) (state b) = same_state a b
same (elements a) (elements b) = same_slice a b
same (io at a) (io at' b) = nat_eq a b
same a b = false
