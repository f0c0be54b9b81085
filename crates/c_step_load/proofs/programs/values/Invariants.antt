use Rattle.std.proofs.Common.{◌≡◌, ◌+◌, length, drop}
use Rattle.c_step_program.specs.Programs.{inline_lengths}
use Rattle.c_step_load.proofs.programs.values.Given as goal

abbrev pub invariant-loop-func : goal.invariant-loop-func
invariant-loop-func l = l.sum + inline_lengths (drop l.func-index l.code.functions) ≡ inline_lengths l.code.functions + length l.code.text.exprs
