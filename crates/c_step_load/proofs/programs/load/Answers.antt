use Rattle.std.proofs.Common.{subst}
use Rattle.c_text.specs.CNodes.{Nodes, unit_tree}
use Rattle.c_meaning.specs.CCall.{program_of}
use Rattle.c_meaning.specs.UnitForm.{HasUnitForm}
use Rattle.c_step_load.proofs.NameLaws.{items_apart}
use Rattle.c_step_load.proofs.RestLemmas.{at_rest, as_many, coded}
use Rattle.c_step_load.proofs.programs.load.Goals as goal

pub returns-clause-coded : goal.returns-clause-coded
returns-clause-coded c =
    let p = program_of (unit_tree c.args.numbered.now) in
    let form = subst (λ (nodes : Nodes). HasUnitForm c.is_formed.ensures.0 (unit_tree nodes)) c.formed.ensures c.is_formed.ensures.1 in
    coded p c.in_ok-code.code c.in_ok-frames.frames.items c.in_ok-args.args.items (items_apart c.is_formed.ensures.0 (unit_tree c.args.numbered.now) form)
    c.in_ok-code.ensures (rw (← c.unit-unit.ensures) c.in_ok-frames.ensures) (rw (← c.unit-unit.ensures) c.in_ok-args.ensures)

pub returns-clause-rests : goal.returns-clause-rests
returns-clause-rests c =
    let p = program_of (unit_tree c.args.numbered.now) in
    at_rest p c.in_ok-code.code c.in_ok-frames.frames.items c.in_ok-args.args.items c.in_ok-values.values
    c.in_ok-code.ensures (rw (← c.unit-unit.ensures) c.in_ok-frames.ensures) (rw (← c.unit-unit.ensures) c.in_ok-args.ensures) c.in_ok-values.ensures

pub returns-clause-size : goal.returns-clause-size
returns-clause-size c = as_many (program_of (unit_tree c.args.numbered.now)) c.in_ok-code.code c.in_ok-code.ensures
