use Rattle.std.proofs.Common.{ap, ◌∙◌}
use Rattle.wf_facts_exprs.specs.Claims.{claims_in}
use Rattle.wf_facts.specs.FactLists.{changed}
use Rattle.wf_facts.proofs.LeftLemmas.{left-none, slots_over, IsOver-whole}
use Rattle.wf_facts.proofs.list.Facts.change.Goals as goal

pub change-requires-clause-over : goal.change-requires-clause-over
change-requires-clause-over c = slots_over c.args.t.now c.settle.new.self _ c.self.view_is (c.settle.ensures.over c.args.t.now c.requires.over)

pub returns-clause-over : goal.returns-clause-over
returns-clause-over c = IsOver-whole c.args.t.now c.change.new.self c.self.inside.gone.words c.change.ensures.over c.change.ensures.few (ap (λ f. f.gone) c.self.view_is ∙ c.settle.ensures.none)

pub returns-clause-claims : goal.returns-clause-claims
returns-clause-claims c =
    let none = ap (λ f. f.gone) c.self.view_is ∙ c.settle.ensures.none in
    let whole = ap (λ f. f.slots.list) c.self.view_is ∙ c.settle.ensures.whole in
    ap (claims_in c.args.t.now) (left-none c.self.inside.gone.words c.change.new.self.list none) ∙ c.change.ensures.claims
    ∙ ap (λ fs. changed c.args.x c.args.change (claims_in c.args.t.now fs)) whole
