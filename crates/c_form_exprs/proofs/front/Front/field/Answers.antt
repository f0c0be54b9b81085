use Rattle.std.proofs.Common.{◌<◌, length, take, Some, None, refl, arith}
use Rattle.std.proofs.lemmas.Option.{slice_get_read}
use Rattle.c_text.specs.CNodes.{bytes_at, unit_tree}
use Rattle.c_meaning.specs.CTypes.{structs_of, struct_named}
use Rattle.c_form_exprs.proofs.FrontLemmas.{in_structs, struct_at, index_within, no_struct, field_listed, field_names}
use Rattle.c_form_exprs.proofs.front.Front.field.Goals as goal

pub get-requires : goal.get-requires
get-requires c = in_structs c.self.inside.unit.now c.self.inside.count c.self.inside.structs c.self.inside.fields.items c.self.inside.texts c.self.inside.functions c.self.invariant c.args.of.0 (rw (← c.self.view_is) at c.requires.of)

pub index-requires : goal.index-requires
index-requires c =
    let struct = struct_at c.self.inside.unit.now c.self.inside.count c.self.inside.structs c.self.inside.fields.items c.self.inside.texts c.self.inside.functions c.self.invariant (bytes_at c.self.inside.unit.now.names c.args.of.0) c.get.result (Some c.in_ok-k.k) (rw c.self.invariant.structs.names at c.get.ensures) c.in_ok-k.was in
    let within : c.in_ok-k.k < length c.self.inside.fields.items = index_within c.self.inside.unit.now c.self.inside.fields.items c.in_ok-k.k (struct_named (structs_of (take c.self.inside.count (unit_tree c.self.inside.unit.now))) (bytes_at c.self.inside.unit.now.names c.args.of.0)) struct in
    omega (arith, within, c.self.inside.fields.ok)

pub get-requires-2 : goal.get-requires-2
get-requires-2 c =
    let struct = struct_at c.self.inside.unit.now c.self.inside.count c.self.inside.structs c.self.inside.fields.items c.self.inside.texts c.self.inside.functions c.self.invariant (bytes_at c.self.inside.unit.now.names c.args.of.0) c.get.result (Some c.in_ok-k.k) (rw c.self.invariant.structs.names at c.get.ensures) c.in_ok-k.was in
    let within : c.in_ok-k.k < length c.self.inside.fields.items = index_within c.self.inside.unit.now c.self.inside.fields.items c.in_ok-k.k (struct_named (structs_of (take c.self.inside.count (unit_tree c.self.inside.unit.now))) (bytes_at c.self.inside.unit.now.names c.args.of.0)) struct in
    let is = slice_get_read c.self.inside.fields.items _ c.in_ok-k.k c.index.result.now refl within c.index.ensures in
    let same = field_names c.self.inside.unit.now c.self.inside.fields.items c.in_ok-k.k (struct_named (structs_of (take c.self.inside.count (unit_tree c.self.inside.unit.now))) (bytes_at c.self.inside.unit.now.names c.args.of.0)) c.index.result.now struct is in
    rw same (rw (← c.self.view_is) at c.requires.name)

pub returns : goal.returns
returns c =
    let struct = struct_at c.self.inside.unit.now c.self.inside.count c.self.inside.structs c.self.inside.fields.items c.self.inside.texts c.self.inside.functions c.self.invariant (bytes_at c.self.inside.unit.now.names c.args.of.0) c.get.result (Some c.in_ok-k.k) (rw c.self.invariant.structs.names at c.get.ensures) c.in_ok-k.was in
    let within : c.in_ok-k.k < length c.self.inside.fields.items = index_within c.self.inside.unit.now c.self.inside.fields.items c.in_ok-k.k (struct_named (structs_of (take c.self.inside.count (unit_tree c.self.inside.unit.now))) (bytes_at c.self.inside.unit.now.names c.args.of.0)) struct in
    let is = slice_get_read c.self.inside.fields.items _ c.in_ok-k.k c.index.result.now refl within c.index.ensures in
    let same = field_names c.self.inside.unit.now c.self.inside.fields.items c.in_ok-k.k (struct_named (structs_of (take c.self.inside.count (unit_tree c.self.inside.unit.now))) (bytes_at c.self.inside.unit.now.names c.args.of.0)) c.index.result.now struct is in
    rw (← c.self.view_is, c.get-2.ensures, same) (field_listed c.self.inside.unit.now c.self.inside.fields.items c.in_ok-k.k (struct_named (structs_of (take c.self.inside.count (unit_tree c.self.inside.unit.now))) (bytes_at c.self.inside.unit.now.names c.args.of.0)) c.index.result.now (bytes_at c.self.inside.unit.now.names c.args.name.0) struct is)

pub returns-in_err-k : goal.returns-in_err-k
returns-in_err-k c =
    let struct = struct_at c.self.inside.unit.now c.self.inside.count c.self.inside.structs c.self.inside.fields.items c.self.inside.texts c.self.inside.functions c.self.invariant (bytes_at c.self.inside.unit.now.names c.args.of.0) c.get.result None (rw c.self.invariant.structs.names at c.get.ensures) c.in_err-k.was in
    rw (← c.self.view_is, c.from_residual.ensures) (no_struct c.self.inside.unit.now c.self.inside.fields.items (struct_named (structs_of (take c.self.inside.count (unit_tree c.self.inside.unit.now))) (bytes_at c.self.inside.unit.now.names c.args.of.0)) (bytes_at c.self.inside.unit.now.names c.args.name.0) struct)
