-- What an expression comes to: a status, a slice, a truth value, or a whole number, to which no width belongs. No operand is
-- left out. `None` stands for an expression that is stuck: the number of a node is too large for its width, or one that `as`
-- takes for the new width; a shift is by the width or more; it divides by 0; an index or a slice leaves its bounds; or a base
-- method lacks what it needs.
use Rattle.std.specs.Prelude.{ℕ, zero, suc, ◌+◌, ◌-◌, ◌*◌, ◌/◌, ◌%◌, ◌^◌, min, Bool, true, false, not, ◌&&◌, ◌||◌, List, Option, None, Some, option_and_then, option_map, if◌then◌else◌, nat_eq, nat_lt, nat_le, bit_and, bit_or, bit_xor, slice_get}
use Rattle.wf_text.specs.declared.categories.Category.{Category}
use Rattle.wf_text.specs.declared.categories.Category.TheVariants.{Fine, Note, Suspension, Fault}
use Rattle.wf_text.specs.StatusText.{category_of}
use Rattle.wf_base.specs.BaseOps.{Buffer}
use Rattle.wf_base.specs.BaseOps as ops
use Rattle.wf_base.specs.BaseTable.{can_peek, peek_value}
use Rattle.wf_ast.specs.TypedTree.{Path, Arith, plus, minus, times, divided, remainder, shift_left, shift_right, bits_and, bits_or, bits_xor, mod_plus, mod_minus, mod_times, mod_shift_left, sat_plus, sat_minus, Order, less, at_most, equal, differs, at_least, greater, Question, reader_length, reader_position, peek, writer_length, writer_position, NumTree, number, read, element, link, convert, length_of, asked, SliceTree, slice, array, cut, EndTree, absent, present, StatusTree, status, held, no_status, CondTree, truth, flag, compare, same_status, junction, negation, closed, has_category, ValueTree, numeric, logical, state, elements, io, lost}

-- Where the elements of a slice stand: a byte array of the host by its number, an array in a field of a struct state, or
-- nowhere, as those of the empty slice.
pub data Store : Type 0 where
  nowhere : Store
  host_array : ℕ → Store
  field_array : (object field : ℕ) → Store

-- `count` elements from the one with the number `from` on.
pub record Span : Type 0 where
  pub store : Store
  pub from : ℕ
  pub count : ℕ

-- A reader or writer is the number of its buffer.
pub data Value : Type 0 where
  num : ℕ → Value
  truth_value : Bool → Value
  status_number : ℕ → Value
  span : Span → Value
  buffer : ℕ → Value

-- What an expression may look at. A path that holds no value of the kind has None.
pub record State : Type 0 where
  pub number_at : Path → Option ℕ
  pub flag_at : Path → Option Bool
  pub status_at : Path → Option ℕ
  pub span_at : Path → Option Span
  pub cells_at : Store → List ℕ
  pub buffer_number : (io_arg : ℕ) → Option ℕ
  pub buffer_at : ℕ → Option Buffer
  pub status_text : ℕ → List ℕ

-- A number within its width.
abbrev pub fitted : (bits : ℕ) → ℕ → Option ℕ
fitted bits n = if nat_lt n (2 ^ bits) then Some n else None

abbrev pub only_if : {X : Type 0} → Bool → Option X → Option X
only_if test x = if test then x else None

-- Operators.
abbrev pub applied : Arith → (bits : ℕ) → (m n : ℕ) → Option ℕ
applied plus bits m n = fitted bits (m + n)
applied minus bits m n = only_if (nat_le n m) (fitted bits (m - n))
applied times bits m n = fitted bits (m * n)
applied divided bits m zero = None
applied divided bits m (suc n) = fitted bits (m / suc n)
applied remainder bits m zero = None
applied remainder bits m (suc n) = fitted bits (m % suc n)
applied shift_left bits m n = only_if (nat_lt n bits) (fitted bits (m * 2 ^ n))
applied shift_right bits m n = only_if (nat_lt n bits) (fitted bits (m / 2 ^ n))
applied bits_and bits m n = fitted bits (bit_and m n)
applied bits_or bits m n = fitted bits (bit_or m n)
applied bits_xor bits m n = fitted bits (bit_xor m n)
applied mod_plus bits m n = Some ((m + n) % 2 ^ bits)
applied mod_minus bits m n = Some ((m + (2 ^ bits - n)) % 2 ^ bits)
applied mod_times bits m n = Some ((m * n) % 2 ^ bits)
applied mod_shift_left bits m n = only_if (nat_lt n bits) (Some ((m * 2 ^ n) % 2 ^ bits))
applied sat_plus bits m n = Some (min (m + n) (2 ^ bits - 1))
applied sat_minus bits m n = Some (m - n)

abbrev pub compares : Order → (m n : ℕ) → Bool
compares less m n = nat_lt m n
compares at_most m n = nat_le m n
compares equal m n = nat_eq m n
compares differs m n = not (nat_eq m n)
compares at_least m n = nat_le n m
compares greater m n = nat_lt n m

abbrev pub same_truth : (a b : Bool) → Bool
same_truth a b = if a then b else not b

abbrev pub same_category : (a b : Category) → Bool
same_category Fine Fine = true
same_category Note Note = true
same_category Suspension Suspension = true
same_category Fault Fault = true
same_category a b = false

-- What a buffer answers. A peek needs its bytes.
abbrev pub told : Question → Buffer → Option ℕ
told reader_length b = Some (ops.reader_length b)
told reader_position b = Some (ops.reader_position b)
told (peek form) b = only_if (can_peek form b) (Some (peek_value form b))
told writer_length b = Some (ops.writer_length b)
told writer_position b = Some (ops.writer_position b)

abbrev pub io_buffer : State → (io_arg : ℕ) → Option Buffer
io_buffer s a = option_and_then s.buffer_at (s.buffer_number a)

-- An element of a span.
abbrev pub element_of : State → Span → ℕ → Option ℕ
element_of s cells k = only_if (nat_lt k cells.count) (slice_get (s.cells_at cells.store) (cells.from + k))

-- The elements of a span from one number up to another.
abbrev pub part_of : Span → (from to : ℕ) → Option Span
part_of cells from to = only_if (nat_le from to && nat_le to cells.count) (Some (record { store = cells.store; from = cells.from + from; count = to - from }))

abbrev mutual
  -- The value of a number, and that of a slice.
  pub value : State → NumTree → Option ℕ
  value s (number at n) = Some n
  value s (read at of path) = s.number_at path
  value s (element at of cells index) = option_and_then (λ xs. option_and_then (element_of s xs) (value s index)) (span_of s cells)
  value s (link at sign op bits joined a b) = option_and_then (λ m. option_and_then (applied op bits m) (value s b)) (value s a)
  value s (convert at sign bits a) = option_and_then (fitted bits) (value s a)
  value s (length_of at cells) = option_map (λ xs. xs.count) (span_of s cells)
  value s (asked at question a) = option_and_then (told question) (io_buffer s a)

  pub span_of : State → SliceTree → Option Span
  span_of s (slice at bits path) = s.span_at path
  span_of s (array at of count path) = s.span_at path
  span_of s (cut at cells from to) =
      option_and_then (λ xs. option_and_then (λ i. option_and_then (part_of xs i) (end_value s xs.count to)) (end_value s 0 from)) (span_of s cells)

  -- The value of an end, or what stands for an absent one.
  pub end_value : State → ℕ → EndTree → Option ℕ
  end_value s default absent = Some default
  end_value s default (present e) = value s e

abbrev pub status_value : State → StatusTree → Option ℕ
status_value s (status at n) = Some n
status_value s (held at path) = s.status_at path
status_value s no_status = None

-- The truth value of a condition.
abbrev pub truth_of : State → CondTree → Option Bool
truth_of s (truth at b) = Some b
truth_of s (flag at path) = s.flag_at path
truth_of s (compare at sign a op b) = option_and_then (λ m. option_map (compares op m) (value s b)) (value s a)
truth_of s (same_status at sign a one b) = option_and_then (λ m. option_map (λ n. same_truth one (nat_eq m n)) (status_value s b)) (status_value s a)
truth_of s (junction at both joined a b) = option_and_then (λ p. option_map (λ q. if both then p && q else p || q) (truth_of s b)) (truth_of s a)
truth_of s (negation at a) = option_map not (truth_of s a)
truth_of s (closed at a) = option_map (λ b. b.closed) (io_buffer s a)
truth_of s (has_category at a category) = option_map (λ n. same_category category (category_of (s.status_text n))) (status_value s a)

-- The value of an expression of any kind.
abbrev pub value_of : State → ValueTree → Option Value
value_of s (numeric t) = option_map num (value s t)
value_of s (logical t) = option_map truth_value (truth_of s t)
value_of s (state t) = option_map status_number (status_value s t)
value_of s (elements t) = option_map span (span_of s t)
value_of s (io at a) = option_map buffer (s.buffer_number a)
value_of s lost = None
