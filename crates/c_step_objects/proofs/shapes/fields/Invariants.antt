use Rattle.std.proofs.Common.{◌≡◌, ◌++◌, List, map, drop}
use Rattle.c_text.specs.CNodes.{field_tree}
use Rattle.c_text.specs.CFits.{HasFields}
use Rattle.c_meaning.specs.CTypes.{StructDecl}
use Rattle.c_step_objects.specs.Shapes.{own_fields, HasNumbers}
use Rattle.c_step_objects.proofs.shapes.fields.Given as goal

abbrev pub invariant-loop-it : goal.invariant-loop-it
invariant-loop-it l = record {
  has : HasFields l.unit (drop l.it-index l.them);
  so_far : (structs : List StructDecl) → HasNumbers l.numbers structs → l.all.items ++ own_fields structs (map (field_tree l.unit.names) (drop l.it-index l.them)) ≡ own_fields structs (map (field_tree l.unit.names) l.them);
}
