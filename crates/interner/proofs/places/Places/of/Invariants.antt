use Rattle.std.proofs.Common.{◌≤◌, length, take}
use Rattle.std.specs.Ordering.{nat_cmp}
use Rattle.std.specs.BTreeMap.{get_by}
use Rattle.std.specs.Cmp.Lexicographic.{slice_cmp}
use Rattle.interner.specs.declared.places.TheConstants.{REACH}
use Rattle.interner.specs.Interning.{Finds}
use Rattle.interner.proofs.places.Places.of.Given as goal

-- The texts before this number are found.
abbrev pub invariant-loop-number : goal.invariant-loop-number
invariant-loop-number l = (REACH ≤ length l.places.slots.items) × Finds l.places.slots.items (λ text. get_by (λ key. slice_cmp nat_cmp text key.items) l.places.others) (take l.number l.texts)
