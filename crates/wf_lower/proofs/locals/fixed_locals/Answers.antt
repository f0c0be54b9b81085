use Rattle.std.proofs.Common.{List, [], refl, sym, subst}
use Rattle.c_text.specs.declared.nodes.CLocal.{CLocal}
use Rattle.wf_lower.specs.Made.{HasLocalTrees}
use Rattle.wf_lower.proofs.locals.fixed_locals.Goals as goal

pub returns-clause-made : goal.returns-clause-made
returns-clause-made c =
    let P : List CLocal → Type 0 = λ ls. HasLocalTrees c.args.u.now ls [] in
    let none : HasLocalTrees c.args.u.now c.new-locals.result [] = subst P (sym c.new-locals.ensures) (record { there = tt; are = refl }) in
    c.in_ok-add_all_locals.ensures.made _ (c.in_ok-add_all_io.ensures.made [] none)
