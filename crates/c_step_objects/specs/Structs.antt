-- The table of the structs of a unit, as it grows item by item.
use Rattle.std.specs.Prelude.{◌≡◌, ℕ, List, take, reverse}
use Rattle.c_text.specs.CNodes.{Nodes, unit_tree}
use Rattle.c_meaning.specs.CTypes.{StructDecl, structs_of}
use Rattle.c_step_objects.specs.declared.shapes.Shapes.{Shapes}
use Rattle.c_step_objects.specs.Shapes.{all_shapes, HasNumbers}

pub record AreShapes (it : Shapes) (structs : List StructDecl) : Type 0 where
  pub numbers : HasNumbers it.numbers structs
  pub all : it.all.items ≡ all_shapes structs

-- The structs before an item, the last one first.
abbrev pub structs_before : Nodes → (i : ℕ) → List StructDecl
structs_before nodes i = reverse (structs_of (take i (unit_tree nodes)))
