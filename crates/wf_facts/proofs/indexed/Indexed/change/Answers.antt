use Rattle.std.proofs.Common.{◌≡◌, length, ap, ◌∙◌, arith}
use Rattle.std.proofs.lemmas.List.{take_at}
use Rattle.wf_facts_exprs.specs.Heads.{having_head}
use Rattle.wf_facts.specs.IndexedFacts.{mentioning}
use Rattle.wf_facts.proofs.ChangeLemmas.{AreOver-same}
use Rattle.wf_facts.proofs.indexed.Indexed.change.Goals as goal

pub returns-clause-over : goal.returns-clause-over
returns-clause-over c =
    let long : length c.renew-dropped.new.list ≡ c.self.inside.list.len = omega (arith, c.renew-dropped.auto.list, c.as_mut_slice.ensures.len) in
    c.drop_set.ensures.over c.args.t.now
    (AreOver-same c.args.t.now c.args.self.now _ c.renew-dropped.new.list (take_at c.renew-dropped.new.list _ _ long) (ap (λ f. f.sets) c.self.view_is) (ap (λ f. f.fields) c.self.view_is) (ap (λ f. f.heads) c.self.view_is) c.renew-dropped.ensures.facts
    (λ x. c.renew-dropped.ensures.same x ∙ ap (mentioning c.args.t.now x) (c.as_mut_slice.ensures.value ∙ ap (λ f. f.list) c.self.view_is))
    (λ h. c.renew-dropped.ensures.heads h ∙ ap (having_head c.args.t.now h) (c.as_mut_slice.ensures.value ∙ ap (λ f. f.list) c.self.view_is)) c.requires.over)
