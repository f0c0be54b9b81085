use Rattle.std.proofs.Common.{◌≤◌, ◌<◌, length, ◌∙◌, refl, sym}
use Rattle.wf_names_sizes.specs.LongArrays.{method_longs}
use Rattle.wf_names_sizes.proofs.ArrayLemmas.{methods_step, methods_over}
use Rattle.wf_names_sizes.proofs.ValueLemmas.{item-there}
use Rattle.wf_names_sizes.proofs.arrays.long_in_methods.Goals as goal
use Rattle.wf_names_rules.specs.Declarations.{declared_in}

pub loop-number-init : goal.loop-number-init
loop-number-init c = (rw c.as_slice-left.ensures.value c.requires.tables.variables, refl)

pub loop-number-preserved : goal.loop-number-preserved
loop-number-preserved c =
    let p = c.args.setting.now.parsed.now in
    let within : c.loop-number.number < length p.decls = rw c.decls-number-end.ensures at c.loop-number-test.true in
    let there = item-there p.decls c.loop-number.number within in (
      c.long_in_method-left.ensures.left,
      methods_step p.exprs p.stmts p.decls c.loop-number.number (method_longs (declared_in p)) there.0 there.1 c.loop-number.found _ (c.long_in_method-left.ensures.found there.0 there.1) ∙ c.loop-number.invariant.1,
    )

pub returns : goal.returns
returns c =
    let p = c.args.setting.now.parsed.now in
    let past : length p.decls ≤ c.loop-number.number = rw c.decls-number-end.ensures at c.loop-number-test.false in
    sym (methods_over p.exprs p.stmts p.decls c.loop-number.number (method_longs (declared_in p)) c.loop-number.found past) ∙ c.loop-number.invariant.1
