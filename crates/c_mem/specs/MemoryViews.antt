-- A machine's memory as memory, and the room that it has.
use Rattle.std.specs.Prelude.{ℕ, ◌+◌, ◌≤◌, vec_len, vec_capacity}
use Rattle.c_meaning.specs.CMemory.{Memory}
use Rattle.c_mem.specs.declared.mem.Mem.{Mem}

abbrev pub memory : Mem → Memory
memory m = m.objects.items

-- So many objects can be added without taking memory.
abbrev pub HasRoom : Mem → (more : ℕ) → Type 0
HasRoom m more = (vec_len m.objects + more ≤ vec_capacity m.objects) × (vec_len m.marks + more ≤ vec_capacity m.marks)
