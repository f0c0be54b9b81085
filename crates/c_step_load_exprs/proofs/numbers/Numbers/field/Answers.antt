use Rattle.std.proofs.Common.{◌<◌, length, Some, None, refl, arith}
use Rattle.std.proofs.lemmas.Option.{slice_get_read}
use Rattle.c_text.specs.CNodes.{bytes_at, unit_tree}
use Rattle.c_meaning.specs.CTypes.{structs_of, struct_named}
use Rattle.c_step_load_exprs.proofs.PlaceLemmas.{struct_found, table_within, struct_field, table_names, no_struct_field}
use Rattle.c_step_load_exprs.proofs.numbers.Numbers.field.Goals as goal

pub get-requires : goal.get-requires
get-requires c = rw c.self.invariant.structs.names (rw (← c.self.view_is) at c.requires.of)

pub index-requires : goal.index-requires
index-requires c =
    let struct = struct_found c.self.inside.unit.now c.self.inside.structs.fields.items c.self.inside.structs.by_name (structs_of (unit_tree c.self.inside.unit.now)) c.self.invariant.structs (bytes_at c.self.inside.unit.now.names c.args.of.0) c.get.result (Some c.in_ok-k.k) (rw c.self.invariant.structs.names at c.get.ensures) c.in_ok-k.was in
    let within : c.in_ok-k.k < length c.self.inside.structs.fields.items = table_within c.self.inside.unit.now c.self.inside.structs.fields.items c.in_ok-k.k (struct_named (structs_of (unit_tree c.self.inside.unit.now)) (bytes_at c.self.inside.unit.now.names c.args.of.0)) struct in
    omega (arith, within, c.self.inside.structs.fields.ok)

pub get-requires-2 : goal.get-requires-2
get-requires-2 c =
    let struct = struct_found c.self.inside.unit.now c.self.inside.structs.fields.items c.self.inside.structs.by_name (structs_of (unit_tree c.self.inside.unit.now)) c.self.invariant.structs (bytes_at c.self.inside.unit.now.names c.args.of.0) c.get.result (Some c.in_ok-k.k) (rw c.self.invariant.structs.names at c.get.ensures) c.in_ok-k.was in
    let within : c.in_ok-k.k < length c.self.inside.structs.fields.items = table_within c.self.inside.unit.now c.self.inside.structs.fields.items c.in_ok-k.k (struct_named (structs_of (unit_tree c.self.inside.unit.now)) (bytes_at c.self.inside.unit.now.names c.args.of.0)) struct in
    let is = slice_get_read c.self.inside.structs.fields.items _ c.in_ok-k.k c.index.result.now refl within c.index.ensures in
    let same = table_names c.self.inside.unit.now c.self.inside.structs.fields.items c.in_ok-k.k (struct_named (structs_of (unit_tree c.self.inside.unit.now)) (bytes_at c.self.inside.unit.now.names c.args.of.0)) c.index.result.now struct is in
    rw same (rw (← c.self.view_is) at c.requires.name)

pub returns : goal.returns
returns c =
    let struct = struct_found c.self.inside.unit.now c.self.inside.structs.fields.items c.self.inside.structs.by_name (structs_of (unit_tree c.self.inside.unit.now)) c.self.invariant.structs (bytes_at c.self.inside.unit.now.names c.args.of.0) c.get.result (Some c.in_ok-k.k) (rw c.self.invariant.structs.names at c.get.ensures) c.in_ok-k.was in
    let within : c.in_ok-k.k < length c.self.inside.structs.fields.items = table_within c.self.inside.unit.now c.self.inside.structs.fields.items c.in_ok-k.k (struct_named (structs_of (unit_tree c.self.inside.unit.now)) (bytes_at c.self.inside.unit.now.names c.args.of.0)) struct in
    let is = slice_get_read c.self.inside.structs.fields.items _ c.in_ok-k.k c.index.result.now refl within c.index.ensures in
    let same = table_names c.self.inside.unit.now c.self.inside.structs.fields.items c.in_ok-k.k (struct_named (structs_of (unit_tree c.self.inside.unit.now)) (bytes_at c.self.inside.unit.now.names c.args.of.0)) c.index.result.now struct is in
    rw (← c.self.view_is, c.get-2.ensures, same) (struct_field c.self.inside.unit.now c.self.inside.structs.fields.items c.in_ok-k.k (struct_named (structs_of (unit_tree c.self.inside.unit.now)) (bytes_at c.self.inside.unit.now.names c.args.of.0)) c.index.result.now (bytes_at c.self.inside.unit.now.names c.args.name.0) struct is)

pub returns-in_err-k : goal.returns-in_err-k
returns-in_err-k c =
    let struct = struct_found c.self.inside.unit.now c.self.inside.structs.fields.items c.self.inside.structs.by_name (structs_of (unit_tree c.self.inside.unit.now)) c.self.invariant.structs (bytes_at c.self.inside.unit.now.names c.args.of.0) c.get.result None (rw c.self.invariant.structs.names at c.get.ensures) c.in_err-k.was in
    rw (← c.self.view_is, c.from_residual.ensures) (no_struct_field c.self.inside.unit.now c.self.inside.structs.fields.items (struct_named (structs_of (unit_tree c.self.inside.unit.now)) (bytes_at c.self.inside.unit.now.names c.args.of.0)) (bytes_at c.self.inside.unit.now.names c.args.name.0) struct)
