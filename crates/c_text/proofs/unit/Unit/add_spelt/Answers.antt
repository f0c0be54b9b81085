use Rattle.std.proofs.Common.{◌≡◌, ◌∙◌, ◌++◌}
use Rattle.c_text.proofs.Names.{adds_name, sound_names}
use Rattle.c_text.proofs.unit.Unit.add_spelt.Goals as goal

pub invariant_of-self-2 : goal.invariant_of-self-2
invariant_of-self-2 c =
    let spelt : c.as_slice.result.now ≡ c.args.first.now ++ (c.args.second.now ++ (c.args.third.now ++ c.args.fourth.now)) = c.as_slice.ensures.value ∙ c.in_ok-join.ensures in
    sound_names _ c.intern.new.self (c.args.first.now ++ (c.args.second.now ++ (c.args.third.now ++ c.args.fourth.now))) c.in_ok-n.n (rw spelt at c.in_ok-n.ensures.ok) c.self.invariant c.requires

pub returns-clause-ok : goal.returns-clause-ok
returns-clause-ok c =
    let spelt : c.as_slice.result.now ≡ c.args.first.now ++ (c.args.second.now ++ (c.args.third.now ++ c.args.fourth.now)) = c.as_slice.ensures.value ∙ c.in_ok-join.ensures in
    rw (← c.self.view_is) (adds_name _ c.intern.new.self (c.args.first.now ++ (c.args.second.now ++ (c.args.third.now ++ c.args.fourth.now))) c.in_ok-n.n (rw spelt at c.in_ok-n.ensures.ok))
