use Rattle.std.proofs.Common.{◌++◌, ◌∷◌, [], length, ap, ◌∙◌, arith, length-append}
use Rattle.wf_facts_exprs.specs.Knowledge.{left_of}
use Rattle.wf_facts.proofs.LeftLemmas.{left-few, left-pushed, own_stays}
use Rattle.wf_facts.proofs.list.Facts.append.Goals as goal

pub returns-clause-list : goal.returns-clause-list
returns-clause-list c =
    let gone = c.self.inside.gone.words in
    let fs = c.self.inside.slots.list in
    ap (left_of gone) c.append.ensures.list ∙ left-pushed gone fs c.args.f (own_stays c.args.self.now c.args.t.now c.requires.over _ c.self.view_is c.requires.room) ∙ ap (λ f. f.list ++ c.args.f ∷ []) c.self.view_is

pub returns-clause-few : goal.returns-clause-few
returns-clause-few c =
    let long = ap length c.append.ensures.list ∙ length-append c.self.inside.slots.list (c.args.f ∷ []) in
    omega (arith, left-few c.self.inside.gone.words c.append.new.self.list, long, c.requires.room, ap (λ f. length f.slots.list) c.self.view_is)
