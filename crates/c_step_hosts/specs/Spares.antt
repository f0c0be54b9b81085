-- Objects that are kept for calls: structs of io buffers, and objects of bytes. What their cells hold doesn't matter.
use Rattle.std.specs.Prelude.{◌≡◌, true, List, [], ◌∷◌}
use Rattle.c_meaning.specs.CMemory.{Object}
use Rattle.c_meaning.specs.CRun.{no_buffer}
use Rattle.c_meaning.specs.Typed.{object_shape}
use Rattle.c_mem.specs.FieldParts.{has_bytes}

abbrev pub IsIo : Object → Type 0
IsIo object = object_shape object ≡ object_shape no_buffer

abbrev pub AreIos : List Object → Type 0
AreIos [] = Unit {0}
AreIos (object ∷ objects) = IsIo object × AreIos objects

abbrev pub HaveBytes : List Object → Type 0
HaveBytes [] = Unit {0}
HaveBytes (object ∷ objects) = (has_bytes object ≡ true) × HaveBytes objects
