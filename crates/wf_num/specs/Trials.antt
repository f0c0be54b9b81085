-- The two operations that are tried.
use Rattle.std.specs.Prelude.{ℕ, bit_and, bit_or}
use Rattle.wf_num.specs.declared.trials.Bitwise.{Bitwise}
use Rattle.wf_num.specs.declared.trials.Bitwise.TheVariants.{And, Or}

abbrev pub bitwise : Bitwise → ℕ → ℕ → ℕ
bitwise And x y = bit_and x y
bitwise Or x y = bit_or x y
