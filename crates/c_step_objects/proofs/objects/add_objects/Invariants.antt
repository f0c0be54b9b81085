use Rattle.std.proofs.Common.{◌≡◌, ◌+◌, ◌++◌, List, length}
use Rattle.std.specs.Prelude.{reverse}
use Rattle.c_meaning.specs.CTypes.{StructDecl}
use Rattle.c_step_objects.specs.Shapes.{objects_of, objects_of_all, all_shapes}
use Rattle.c_step_objects.proofs.objects.add_objects.Given as goal

abbrev pub invariant-loop : goal.invariant-loop
invariant-loop l = record {
  grown : length l.all.items ≡ length l.fn.all.items + l.counter;
  so_far : (structs : List StructDecl) → l.shapes ≡ all_shapes structs → l.all.items ++ objects_of_all structs (reverse l.left.items) (length l.all.items) ≡ l.fn.all.items ++ objects_of structs l.fn.k (length l.fn.all.items);
}
