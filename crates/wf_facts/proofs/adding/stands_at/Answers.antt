use Rattle.std.proofs.Common.{sym, ◌∙◌, arith}
use Rattle.wf_facts_exprs.specs.Claims.{claim_in}
use Rattle.wf_facts_exprs.proofs.ClassLemmas.{among-at}
use Rattle.wf_facts.proofs.adding.stands_at.Goals as goal

pub returns-clause-among : goal.returns-clause-among
returns-clause-among c it =
    among-at c.args.t.now c.args.known.now.gone.now.words c.args.known.now.list.now c.args.place _ (claim_in c.args.t.now c.args.f) (omega arith) (sym c.has.ensures ∙ c.if-has.false) (sym c.same_fact.ensures ∙ it)
