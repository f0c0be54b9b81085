use Rattle.std.proofs.Common.{◌≡◌, drop, nat_eq}
use Rattle.std.specs.Cmp.Lexicographic.{pointwise}
use Rattle.c_text.proofs.words.is_same.Given as goal

-- The bytes so far are the same, so all are where those that are left are.
abbrev pub invariant-loop-i : goal.invariant-loop-i
invariant-loop-i l = pointwise nat_eq (drop l.i l.a) (drop l.i l.b) ≡ pointwise nat_eq l.a l.b
