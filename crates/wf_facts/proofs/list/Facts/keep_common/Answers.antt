use Rattle.std.proofs.Common.{ap, ◌∙◌}
use Rattle.wf_facts_exprs.specs.Claims.{claims_in}
use Rattle.wf_facts_exprs.specs.Knowledge.{told}
use Rattle.wf_facts.specs.FactLists.{common}
use Rattle.wf_facts.proofs.LeftLemmas.{left-none, slots_over, IsOver-whole}
use Rattle.wf_facts.proofs.list.Facts.keep_common.Goals as goal

pub keep_common-requires-clause-over : goal.keep_common-requires-clause-over
keep_common-requires-clause-over c = slots_over c.args.t.now c.settle.new.self _ c.self.view_is (c.settle.ensures.over c.args.t.now c.requires.over)

pub returns-clause-over : goal.returns-clause-over
returns-clause-over c = IsOver-whole c.args.t.now c.keep_common.new.self c.self.inside.gone.words c.keep_common.ensures.over c.keep_common.ensures.few (ap (λ f. f.gone) c.self.view_is ∙ c.settle.ensures.none)

pub returns-clause-claims : goal.returns-clause-claims
returns-clause-claims c =
    let none = ap (λ f. f.gone) c.self.view_is ∙ c.settle.ensures.none in
    let whole = ap (λ f. f.slots.list) c.self.view_is ∙ c.settle.ensures.whole in
    ap (claims_in c.args.t.now) (left-none c.self.inside.gone.words c.keep_common.new.self.list none) ∙ c.keep_common.ensures.claims
    ∙ ap (λ fs. common (claims_in c.args.t.now fs) (claims_in c.args.t.now (told c.as_known.result))) whole ∙ ap (λ fs. common (claims_in c.args.t.now c.args.self.now.list) (claims_in c.args.t.now fs)) c.as_known.ensures.list
