use Rattle.std.proofs.Common.{◌≤◌, length, ap, ◌∙◌, arith}
use Rattle.c_text.specs.CNodes.{unit_tree}
use Rattle.c_meaning.specs.CCall.{program_of}
use Rattle.c_step_load.proofs.ItemLemmas.{all_functions}
use Rattle.c_step_cells.specs.Chains.{frame_cells}
use Rattle.c_step_cells.proofs.chains.frame_cells.Goals as goal

pub returns-clause-cells : goal.returns-clause-cells
returns-clause-cells c =
    let past : length c.unit-unit.result.now.items ≤ c.loop-i.i = omega (arith, c.loop-i-test.false, c.items.ensures) in
    c.loop-i.invariant.so_far.most
    ∙ (ap (frame_cells c.args.code.now) (all_functions c.unit-unit.result.now c.loop-i.i past)
    ∙ ap (λ nodes. frame_cells c.args.code.now (program_of (unit_tree nodes)).functions) c.unit-unit.ensures)
