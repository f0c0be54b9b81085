use Rattle.std.proofs.Common.{◌≤◌, ◌<◌, length, ◌∙◌, sym}
use Rattle.wf_names_sizes.specs.LongArrays.{struct_longs}
use Rattle.wf_names_sizes.proofs.ArrayLemmas.{structs_step, structs_over}
use Rattle.wf_names_sizes.proofs.ValueLemmas.{item-there}
use Rattle.wf_names_sizes.proofs.arrays.long_in_structs.Goals as goal
use Rattle.wf_names_rules.specs.Declarations.{declared_in}

pub loop-number-preserved : goal.loop-number-preserved
loop-number-preserved c =
    let p = c.args.setting.now.parsed.now in
    let within : c.loop-number.number < length p.decls = rw c.decls-number-end.ensures at c.loop-number-test.true in
    let there = item-there p.decls c.loop-number.number within in
    structs_step p.exprs p.stmts p.decls c.loop-number.number (struct_longs (declared_in p)) there.0 there.1 c.loop-number.found _ (c.long_in_struct.ensures there.0 there.1) ∙ c.loop-number.invariant

pub returns : goal.returns
returns c =
    let p = c.args.setting.now.parsed.now in
    let past : length p.decls ≤ c.loop-number.number = rw c.decls-number-end.ensures at c.loop-number-test.false in
    sym (structs_over p.exprs p.stmts p.decls c.loop-number.number (struct_longs (declared_in p)) c.loop-number.found past) ∙ c.loop-number.invariant
