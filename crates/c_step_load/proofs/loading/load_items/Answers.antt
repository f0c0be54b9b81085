use Rattle.std.proofs.Common.{◌≤◌, length, ap, ◌∙◌, arith}
use Rattle.c_step_program.specs.Programs.{code_of}
use Rattle.c_step_load.specs.Loading.{nodes_in, program_in, code_before}
use Rattle.c_step_load.proofs.ItemLemmas.{all_functions}
use Rattle.c_step_load.proofs.loading.load_items.Goals as goal

pub loop-i-preserved : goal.loop-i-preserved
loop-i-preserved c = record { within = omega (arith, c.loop-i-test.true, c.items.ensures); built = c.in_ok-load_item.ensures }

pub returns : goal.returns
returns c =
    let past : length (nodes_in c.args.known.now).items ≤ c.loop-i.i = omega (arith, c.loop-i-test.false, c.items.ensures) in
    c.code.ensures (code_before (nodes_in c.args.known.now) c.loop-i.i) c.loop-i.invariant.built
    ∙ ap (code_of (program_in (nodes_in c.args.known.now))) (all_functions (nodes_in c.args.known.now) c.loop-i.i past)
