use Rattle.std.proofs.Common.{◌∙◌, sym, arith}
use Rattle.std.proofs.lemmas.Result.{err_from_is_err_and}
use Rattle.wf_facts_exprs.specs.Knowledge.{told}
use Rattle.wf_facts_exprs.specs.Claims.{claims_in}
use Rattle.wf_loops.proofs.AskingLemmas.{promises_next, at_most_one_more, asked_met, not_asked, asked_failing, ok_is_none, err_is_some, refused_by}
use Rattle.wf_loops.proofs.asking.require_promises.Goals as goal
use Rattle.wf_loops.proofs.asking.require_promises.Goals.{then-is_asked+in_ok-require, else-is_asked}

pub returns-in_err-require : goal.returns-in_err-require
returns-in_err-require c =
    let p = err_from_is_err_and c.from_residual.result c.from_residual.ensures.1 in
    let fs = claims_in c.args.t.now (told c.args.facts.now) in
    let next = promises_next c.args.t.now c.args.moment fs c.args.at c.args.clauses.now c.loop-i.i _ (omega (arith, c.loop-i-test.true)) in
    let failing = asked_failing _ _ _ _ (sym c.is_asked.ensures ∙ c.if-is_asked.true) (err_is_some _ _ (sym c.in_err-require.was ∙ (rw c.rule_of.ensures at c.require.ensures))) in
    rw (p.1, p.2) (refused_by _ _ (sym c.loop-i.invariant.left ∙ next ∙ failing))

pub loop-i-preserved : goal.loop-i-preserved
loop-i-preserved c =
    let fs = claims_in c.args.t.now (told c.args.facts.now) in
    let next = promises_next c.args.t.now c.args.moment fs c.args.at c.args.clauses.now c.loop-i.i _ (omega (arith, c.loop-i-test.true)) in
    record {
      left = elim c.if-is_asked.branch [
        | then-is_asked+in_ok-require w ↦
            asked_met _ _ _ (sym c.is_asked.ensures ∙ w.if-is_asked.true) (ok_is_none _ (sym w.in_ok-require.was ∙ (rw w.rule_of.ensures at w.require.ensures))) ∙ sym next ∙ c.loop-i.invariant.left
        | else-is_asked w ↦ not_asked _ _ _ (sym c.is_asked.ensures ∙ w.if-is_asked.false) ∙ sym next ∙ c.loop-i.invariant.left
      ];
      few = at_most_one_more c.loop-i.next c.loop-i.i c.gives_at-stands.result c.loop-i.invariant.few;
    }
