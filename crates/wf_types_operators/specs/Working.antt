-- Constants as they are worked out: what operators make of the numbers of operands, by the kind of the operator.
use Rattle.std.specs.Prelude.{ℕ, ◌+◌, ◌*◌, Bool, false, List, [], ◌∷◌, map, Option, None, Some, if◌then◌else◌, nat_eq, bit_and, bit_or, bit_xor}
use Rattle.wf_base.specs.declared.widths.Width.{Width}
use Rattle.wf_ast.specs.TypedTree.{Arith, plus, times, bits_and, bits_or, bits_xor}
use Rattle.wf_ast.specs.TypedTrees.{OperatorKind, arithmetic}
use Rattle.wf_ast.specs.Value.{fitted, applied}
use Rattle.wf_types_rules.specs.declared.meanings.Meaning.{Meaning}
use Rattle.wf_types_rules.specs.declared.meanings.Meaning.TheVariants as meanings
use Rattle.wf_types_rules.specs.declared.meanings.Operand.{Operand}
use Rattle.wf_types_rules.specs.Operands.{is_joined, constant_value, value_of_two, width_given, computed}

-- The number of a constant, and 0 for anything else.
abbrev pub number_or_zero : Meaning → ℕ
number_or_zero (meanings.Constant width value) = value
number_or_zero m = 0

-- The numbers of operands, of which each is constant.
abbrev pub numbers : List Operand → List ℕ
numbers os = map (λ o. number_or_zero o.of) os

-- A chain so far and its next number. What lies beyond 64 bits is None, and only a factor 0 brings it back.
abbrev pub capped : Arith → Option ℕ → ℕ → Option ℕ
capped plus (Some a) n = fitted 64 (a + n)
capped times (Some a) n = fitted 64 (a * n)
capped times None n = if nat_eq n 0 then Some 0 else None
capped bits_and (Some a) n = Some (bit_and a n)
capped bits_or (Some a) n = Some (bit_or a n)
capped bits_xor (Some a) n = Some (bit_xor a n)
capped op a n = None

-- A chain is worked out from the left.
abbrev pub folded : (Option ℕ → ℕ → Option ℕ) → Option ℕ → List ℕ → Option ℕ
folded step so_far [] = so_far
folded step so_far (n ∷ ns) = folded step (step so_far n) ns

-- The same of operators of all kinds, of which only the arithmetic ones make numbers: a step of a chain, the value of two
-- numbers and of the numbers of all operands, whether the operator has chains, the width of what it gives, and what it gives.
abbrev pub capped_by : OperatorKind → Option ℕ → ℕ → Option ℕ
capped_by (arithmetic op) a n = capped op a n
capped_by sort a n = None

abbrev pub applied_by : OperatorKind → (bits : ℕ) → (m n : ℕ) → Option ℕ
applied_by (arithmetic op) bits m n = applied op bits m n
applied_by sort bits m n = None

abbrev pub two_by : OperatorKind → (bits : ℕ) → List ℕ → Option ℕ
two_by (arithmetic op) bits ns = value_of_two op bits ns
two_by sort bits ns = None

abbrev pub value_by : OperatorKind → (bits : ℕ) → List ℕ → Option ℕ
value_by (arithmetic op) bits ns = constant_value op bits ns
value_by sort bits ns = None

abbrev pub joins : OperatorKind → Bool
joins (arithmetic op) = is_joined op
joins sort = false

abbrev pub width_by : OperatorKind → List Operand → Option Width
width_by (arithmetic op) os = width_given op os
width_by sort os = None

abbrev pub computed_by : OperatorKind → List Operand → Option (List ℕ) → Option Meaning
computed_by (arithmetic op) os ns = computed op os ns
computed_by sort os ns = None
