use Rattle.std.proofs.Common.{ℕ, ◌+◌, ◌<◌, ◌≤◌, List, ◌++◌, length, take}
use Rattle.c_meaning.specs.CMemory.{parts_of}
use Rattle.c_mem.specs.Marking.{Marked}
use Rattle.c_mem.proofs.objects.Object.mark_parts.Given as goal

abbrev pub invariant-loop-field : goal.invariant-loop-field
invariant-loop-field l = (l.last ≤ l.most) × ((l.most < length l.marks) × ((wanted : List ℕ) → Marked l.initial.marks (l.own + 1) l.last wanted → Marked l.marks (l.own + 1) l.most (parts_of (take l.field-index l.field-items) ++ wanted)))
