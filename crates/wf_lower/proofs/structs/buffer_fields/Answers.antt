use Rattle.std.proofs.Common.{List, [], refl, sym, subst}
use Rattle.c_text.specs.declared.nodes.CField.{CField}
use Rattle.wf_exprs.proofs.Growing.{grows_on}
use Rattle.wf_lower.specs.Made.{HasFieldTrees}
use Rattle.wf_lower.proofs.structs.buffer_fields.Goals as goal

pub returns-in_err-add_outlook-clause-grows : goal.returns-in_err-add_outlook-clause-grows
returns-in_err-add_outlook-clause-grows c = grows_on (grows_on c.add_room.ensures.grows c.add_places.ensures.grows) c.add_outlook.ensures.grows

pub returns-clause-grows : goal.returns-clause-grows
returns-clause-grows c = grows_on (grows_on c.add_room.ensures.grows c.add_places.ensures.grows) c.add_outlook.ensures.grows

pub returns-clause-made : goal.returns-clause-made
returns-clause-made c =
    let P : List CField → Type 0 = λ fs. HasFieldTrees c.args.u.now fs [] in
    let none : HasFieldTrees c.args.u.now c.new-fields.result [] = subst P (sym c.new-fields.ensures) (record { there = tt; are = refl }) in
    c.in_ok-add_outlook.ensures.made _ (c.in_ok-add_places.ensures.made _ (c.in_ok-add_room.ensures.made [] none))
