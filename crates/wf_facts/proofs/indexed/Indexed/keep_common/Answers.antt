use Rattle.std.proofs.Common.{refl, ap, ◌∙◌}
use Rattle.wf_facts_exprs.specs.Claims.{claims_in}
use Rattle.wf_facts_exprs.specs.Knowledge.{told}
use Rattle.wf_facts.proofs.AddLemmas.{claims-common}
use Rattle.wf_facts.proofs.indexed.Indexed.keep_common.Goals as goal

pub returns-clause-over : goal.returns-clause-over
returns-clause-over c = c.drop_set.ensures.over c.args.t.now c.requires.over

pub returns-clause-claims : goal.returns-clause-claims
returns-clause-claims c =
    ap (claims_in c.args.t.now) c.drop_set.ensures.list
    ∙ claims-common c.args.t.now c.args.self.now.list (told c.args.others.now) c.as_slice.result.now (told c.args.others.now) c.lacking-dropped.result.words
    (c.as_slice.ensures.value ∙ ap (λ f. f.list) c.self.view_is) refl c.drop_set.ensures.few c.lacking-dropped.ensures
