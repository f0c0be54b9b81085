use Rattle.std.proofs.Common.{◌≡◌, refl, rules, length}
use Rattle.c_text.proofs.Growth.{sound_stmt, added_stmt}
use Rattle.c_text.proofs.unit.Unit.add_stmt.Goals as goal

pub invariant_of-self-2 : goal.invariant_of-self-2
invariant_of-self-2 c = rw c.in_ok-add_last.ensures.items (sound_stmt _ c.args.s c.self.invariant (rw (← c.self.view_is) at c.requires))

pub returns-clause-ok : goal.returns-clause-ok
returns-clause-ok c =
    let place : c.len-id.result ≡ length c.self.inside.stmts.items = search rules in
    rw (← c.self.view_is, c.in_ok-add_last.ensures.items, place) (refl, refl, added_stmt _ c.args.s c.self.invariant (rw (← c.self.view_is) at c.requires))
