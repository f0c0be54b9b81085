-- The objects of the strings before an item.
use Rattle.std.specs.Prelude.{ℕ, List, map, take}
use Rattle.c_text.specs.CNodes.{Nodes, unit_tree}
use Rattle.c_meaning.specs.CMemory.{Object}
use Rattle.c_meaning.specs.CTypes.{texts_of}
use Rattle.c_meaning.specs.CRun.{text_object}

abbrev pub texts_before : Nodes → (i : ℕ) → List Object
texts_before nodes i = map text_object (texts_of (take i (unit_tree nodes)))
