-- What operators take, and what they give.
use Rattle.std.specs.Prelude.{ℕ, ◌+◌, ◌*◌, ◌^◌, Bool, true, false, not, ◌&&◌, List, [], ◌∷◌, Option, None, Some, option_and_then, if◌then◌else◌, nat_lt, bit_and, bit_or, bit_xor, is_some}
use Rattle.wf_text.specs.declared.place.Place.{Place}
use Rattle.wf_base.specs.declared.widths.Width.{Width}
use Rattle.wf_base.specs.BaseTable.{bits_of}
use Rattle.wf_ast.specs.declared.types.Ty.TheVariants as types
use Rattle.wf_ast.specs.TypedTree.{Arith, plus, times, bits_and, bits_or, bits_xor, equal, differs}
use Rattle.wf_ast.specs.TypedTrees.{OperatorKind, arithmetic, ordering, joining}
use Rattle.wf_ast.specs.Value.{applied, fitted}
use Rattle.wf_ast.specs.WellTyped.{is_shift}
use Rattle.wf_types_rules.specs.declared.meanings.Meaning.{Meaning}
use Rattle.wf_types_rules.specs.declared.meanings.Meaning.TheVariants as meanings
use Rattle.wf_types_rules.specs.declared.meanings.Operand.{Operand}
use Rattle.wf_types_rules.specs.Meanings.{all_of, same_width, is_number, is_flag, is_status, is_constant, constant_number, width_of}

-- The place of the first operand that fails a test.
abbrev pub first_not : (Meaning → Bool) → List Operand → Option Place
first_not test [] = None
first_not test (o ∷ os) = if test o.of then first_not test os else Some o.at

abbrev pub first_of : {X : Type 0} → (a b : Option X) → Option X
first_of None b = b
first_of (Some a) b = Some a

-- Numbers of one width, `width` being that of an operand before them: the place of the first that is none.
abbrev pub differs_in : (a b : Option Width) → Bool
differs_in (Some a) (Some b) = not (same_width a b)
differs_in a b = false

abbrev pub not_of_one_width : (width : Option Width) → List Operand → Option Place
not_of_one_width width [] = None
not_of_one_width width (o ∷ os) =
    if not (is_number o.of) then Some o.at else if differs_in width (width_of o.of) then Some o.at else not_of_one_width (first_of width (width_of o.of)) os

-- A shift takes a number of any width on its right, which is constant where the left one has no width.
abbrev pub shift_takes : (left right : Meaning) → Bool
shift_takes left right = is_number right && (if is_some (width_of left) then true else is_constant right)

abbrev pub not_shifted : List Operand → Option Place
not_shifted (a ∷ b ∷ os) = if not (is_number a.of) then Some a.at else if shift_takes a.of b.of then None else Some b.at
not_shifted os = None

-- `==` and `<>` take two statuses where the first is one, else two numbers.
abbrev pub not_compared : List Operand → Option Place
not_compared [] = None
not_compared (o ∷ os) = if is_status o.of then first_not is_status os else not_of_one_width None (o ∷ os)

-- The place of the first operand that an operator doesn't take.
abbrev pub not_taken : OperatorKind → List Operand → Option Place
not_taken (arithmetic op) os = if is_shift op then not_shifted os else not_of_one_width None os
not_taken (ordering equal) os = not_compared os
not_taken (ordering differs) os = not_compared os
not_taken (ordering op) os = not_of_one_width None os
not_taken (joining both) os = first_not is_flag os

-- The width of the first operand that has one.
abbrev pub common_width : List Operand → Option Width
common_width [] = None
common_width (o ∷ os) = first_of (width_of o.of) (common_width os)

-- A constant without a width fits the one beside it.
abbrev pub fits_width : Option Width → Meaning → Bool
fits_width (Some width) (meanings.Constant None value) = nat_lt value (2 ^ bits_of width)
fits_width width m = true

-- The place of the first constant that doesn't fit the width of the operands beside it. The right side of a shift needn't.
abbrev pub not_fitting : OperatorKind → List Operand → Option Place
not_fitting (arithmetic op) os = if is_shift op then None else first_not (fits_width (common_width os)) os
not_fitting (ordering op) os = first_not (fits_width (common_width os)) os
not_fitting (joining both) os = None

-- The width in which a constant expression is worked out: 64 bits where it has none.
abbrev pub bits_in : Option Width → ℕ
bits_in None = 64
bits_in (Some width) = bits_of width

abbrev pub left_width : List Operand → Option Width
left_width [] = None
left_width (o ∷ os) = width_of o.of

abbrev pub width_given : Arith → List Operand → Option Width
width_given op os = if is_shift op then left_width os else common_width os

-- The whole value of a chain of numbers counts, so nothing between is cut.
abbrev pub joined_numbers : Arith → (so_far : ℕ) → List ℕ → Option ℕ
joined_numbers op so_far [] = Some so_far
joined_numbers plus so_far (n ∷ ns) = joined_numbers plus (so_far + n) ns
joined_numbers times so_far (n ∷ ns) = joined_numbers times (so_far * n) ns
joined_numbers bits_and so_far (n ∷ ns) = joined_numbers bits_and (bit_and so_far n) ns
joined_numbers bits_or so_far (n ∷ ns) = joined_numbers bits_or (bit_or so_far n) ns
joined_numbers bits_xor so_far (n ∷ ns) = joined_numbers bits_xor (bit_xor so_far n) ns
joined_numbers op so_far ns = None

abbrev pub is_joined : Arith → Bool
is_joined plus = true
is_joined times = true
is_joined bits_and = true
is_joined bits_or = true
is_joined bits_xor = true
is_joined op = false

-- The value of an operator on constants, and None where it has none: it leaves its width, its divisor is 0, or its shift
-- isn't below the width.
abbrev pub value_of_two : Arith → (bits : ℕ) → List ℕ → Option ℕ
value_of_two op bits (m ∷ n ∷ []) = applied op bits m n
value_of_two op bits ns = None

abbrev pub value_of_chain : Arith → (bits : ℕ) → List ℕ → Option ℕ
value_of_chain op bits [] = None
value_of_chain op bits (n ∷ ns) = option_and_then (fitted bits) (joined_numbers op n ns)

abbrev pub constant_value : Arith → (bits : ℕ) → List ℕ → Option ℕ
constant_value op bits ns = if is_joined op then value_of_chain op bits ns else value_of_two op bits ns

-- The numbers of operands that are all constant.
abbrev pub with_number : Option ℕ → Option (List ℕ) → Option (List ℕ)
with_number (Some n) (Some ns) = Some (n ∷ ns)
with_number n ns = None

abbrev pub constants_in : List Operand → Option (List ℕ)
constants_in [] = Some []
constants_in (o ∷ os) = with_number (constant_number o.of) (constants_in os)

-- Operands that an operator takes.
abbrev pub are_taken : OperatorKind → List Operand → Bool
are_taken sort os = not (is_some (not_taken sort os)) && not (is_some (not_fitting sort os))

-- What the operator gives.
abbrev pub constant_of : Option Width → Option ℕ → Option Meaning
constant_of width None = None
constant_of width (Some n) = Some (meanings.Constant width n)

abbrev pub number_in : Option Width → Option Meaning
number_in None = None
number_in (Some width) = Some (meanings.Typed (all_of width))

abbrev pub computed : Arith → List Operand → Option (List ℕ) → Option Meaning
computed op os (Some ns) = constant_of (width_given op os) (constant_value op (bits_in (width_given op os)) ns)
computed op os None = number_in (width_given op os)

abbrev pub given : OperatorKind → List Operand → Option Meaning
given (arithmetic op) os = computed op os (constants_in os)
given (ordering op) os = Some (meanings.Typed types.Flag)
given (joining both) os = Some (meanings.Typed types.Flag)

abbrev pub meaning_of_operator : OperatorKind → List Operand → Option Meaning
meaning_of_operator sort os = if are_taken sort os then given sort os else None

-- The operands are taken and constant, and yet there is no value.
abbrev pub has_no_value : OperatorKind → List Operand → Bool
has_no_value sort os = are_taken sort os && not (is_some (given sort os))
