-- Values and chains as the code has them: the number of a chain may leave 64 bits on the way.
use Rattle.std.specs.Prelude.{◌≡◌, ℕ, ◌^◌, Bool, true, false, Option, Some, None, nat_lt, if◌then◌else◌, ⊤}
use Rattle.wf_base.specs.declared.widths.Width.{Width}
use Rattle.wf_base.specs.BaseTable.{bits_of}
use Rattle.wf_ast.specs.declared.operators.Op.{Op}
use Rattle.wf_ast.specs.declared.operators.Op.TheVariants as ops
use Rattle.wf_names_rules.specs.ConstantValues.{Sized, Running}
use Rattle.wf_names_sizes.specs.declared.numbers.ConstantValue.{ConstantValue}
use Rattle.wf_names_sizes.specs.declared.chains.Chain.{Chain}

abbrev pub bits_in : Option Width → Option ℕ
bits_in None = None
bits_in (Some width) = Some (bits_of width)

-- The value that the code's value is.
abbrev pub sized : Option ConstantValue → Option Sized
sized None = None
sized (Some v) = Some (record { bits = bits_in v.width; number = v.number })

-- A number where it lies in 64 bits.
abbrev pub within : ℕ → Option ℕ
within n = if nat_lt n (2 ^ 64) then Some n else None

abbrev pub all_within : Option ℕ → Option (Option ℕ)
all_within None = None
all_within (Some n) = Some (within n)

-- An operator that may make more than 64 bits of two numbers that have no more.
abbrev pub grows : Op → Bool
grows ops.Add = true
grows ops.Mul = true
grows ops.Shl = true
grows _ = false

-- Of an operator that can't grow each number lies in 64 bits.
abbrev pub Stays : Bool → Option (Option ℕ) → Type 0
Stays true number = ⊤
Stays false None = ⊤
Stays false (Some None) = ⊥
Stays false (Some (Some n)) = ⊤

abbrev pub ChainStays : Op → Option Chain → Type 0
ChainStays op None = ⊤
ChainStays op (Some c) = Stays (grows op) (Some c.number)

-- The code's chain is this one: its number is known where it lies in 64 bits.
pub record IsRun (c : Chain) (r : Running) : Type 0 where
  pub bits : r.bits ≡ bits_in c.width
  pub largest : r.largest ≡ c.largest
  pub number : c.number ≡ within r.number

abbrev pub Runs : Option Chain → Option Running → Type 0
Runs None None = ⊤
Runs (Some c) (Some r) = IsRun c r
Runs _ _ = ⊥
