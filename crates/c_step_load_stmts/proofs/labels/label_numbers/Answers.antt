use Rattle.std.proofs.Common.{◌<◌, ◌≤◌, length, refl, arith}
use Rattle.std.proofs.lemmas.Option.{slice_get_read}
use Rattle.c_text.specs.CNodes.{code_of}
use Rattle.c_step_load_stmts.proofs.LabelLemmas.{place_at, all_labels}
use Rattle.c_step_load_stmts.proofs.labels.label_numbers.Goals as goal

pub returns : goal.returns
returns c = all_labels c.args.it.now.unit.now c.loop-i.table c.in_ok-listed.listed.items c.loop-i.i c.args.start (code_of c.args.it.now.unit.now c.args.body.0) (let past : length c.in_ok-listed.listed.items ≤ c.loop-i.i = omega (arith, c.loop-i-test.false, c.len.ensures, c.in_ok-listed.listed.ok) in past) c.loop-i.invariant.labels c.in_ok-listed.ensures.places

pub add_label-requires : goal.add_label-requires
add_label-requires c =
    let within : c.loop-i.i < length c.in_ok-listed.listed.items = omega (arith, c.loop-i-test.true, c.len.ensures, c.in_ok-listed.listed.ok) in
    let is = slice_get_read c.in_ok-listed.listed.items _ c.loop-i.i c.index.result.now refl within c.index.ensures in
    place_at c.args.it.now.unit.now c.in_ok-listed.listed.items c.loop-i.i c.index.result.now is c.in_ok-listed.ensures.has
