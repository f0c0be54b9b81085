use Rattle.std.proofs.Common.{◌≡◌, ◌++◌, ◌∷◌, [], map, OnOk, subst}
use Rattle.c_text.specs.CTree.{ItemTree, struct_item}
use Rattle.c_text.specs.CNodes.{bytes_at, field_tree}
use Rattle.c_meaning.specs.CTypes.{structs_of}
use Rattle.c_step_load_exprs.specs.Knowing.{HasStructs}
use Rattle.c_step_load_exprs.proofs.numbers.Structs.add_item.Goals as goal

pub returns-in-Struct : goal.returns-in-Struct
returns-in-Struct c = λ before item is h.
    let tree = rw c.in-Struct.is at c.item.ensures.tree in
    let same : struct_item (map (field_tree c.args.unit.now.names) c.in-Struct.fields) (bytes_at c.args.unit.now.names c.in-Struct.name.0) ≡ item = cc (is, tree) in
    subst (λ (x : ItemTree). OnOk c.add.result (HasStructs c.args.unit.now c.add.new.self.fields.items c.add.new.self.by_name (before ++ structs_of (x ∷ [])))) same (rw c.as_slice.ensures at (c.add.ensures before h))
