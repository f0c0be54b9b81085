use Rattle.std.proofs.Common.{◌≡◌, ◌∙◌, ap, arith, false, length, replicate, vec_len}
use Rattle.wf_exprs_nodes.proofs.WalkLaws.{fitted, up_to_fit}
use Rattle.wf_exprs_nodes.proofs.marks.ReadNames.fit.Goals as goal

pub invariant_of-self-2 : goal.invariant_of-self-2
invariant_of-self-2 c =
    let walks = c.self.inside.walks in
    let count : vec_len walks ≡ length walks.items = omega arith in
    up_to_fit c.self.inside.walk c.names.result walks.items c.resize.new.self.items c.self.invariant (rw count at c.in_ok-resize.ensures.items)

pub returns : goal.returns
returns c =
    let walks = c.self.inside.walks in
    let count : vec_len walks ≡ length walks.items = omega arith in
    fitted c.self.inside.walk c.names.result walks.items c.resize.new.self.items c.self.invariant (rw (← c.self.view_is) at c.requires) (rw count at c.in_ok-resize.ensures.items)
    ∙ ap (λ n. replicate n false) c.names.ensures.count
