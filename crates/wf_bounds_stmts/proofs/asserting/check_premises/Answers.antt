use Rattle.std.proofs.Common.{◌≡◌, length, take, map, ap, sym, ◌∙◌, arith, rules}
use Rattle.std.proofs.lemmas.Result.{err_from_is_err_and}
use Rattle.wf_facts_exprs.specs.Knowledge.{told}
use Rattle.wf_facts_exprs.specs.Claims.{claims_in}
use Rattle.wf_facts_exprs.specs.Demands.{unless_refused}
use Rattle.wf_axioms.specs.Items.{claim_of_item, claims_of_items, IsFine}
use Rattle.wf_bounds_stmts.specs.Assertions.{inside_text, premises_refusal}
use Rattle.wf_bounds_stmts.proofs.AssertLemmas.{holds-of, premises-next, premises-done, goes-on, stops}
use Rattle.wf_bounds_stmts.proofs.OutcomeLemmas.{is-fine, is-refused}
use Rattle.wf_bounds_stmts.proofs.asserting.check_premises.Goals as goal

pub loop-i-init : goal.loop-i-init
loop-i-init c =
    let t = c.args.t.now in
    let offsets = c.premise_offsets-offsets.result in
    let same = ap (λ n. take n offsets) c.requires.count ∙ c.premise_offsets-offsets.ensures in
    ap (λ os. premises_refusal (claims_in t (told c.args.facts.now)) (map (inside_text c.args.text_at) os) (claims_of_items t c.args.p)) same

pub check_premise-requires-clause-fine : goal.check_premise-requires-clause-fine
check_premise-requires-clause-fine c =
    let t = c.args.t.now in
    let three : length c.args.p.items ≡ 3 = search rules in
    holds-of (λ i. IsFine (claims_in t (told c.args.facts.now)) (claim_of_item t i)) c.args.p.items c.args.p.count c.loop-i.i _ (omega (arith, c.loop-i-test.true)) (omega (arith, three, c.requires.few, c.loop-i-test.true)) c.requires.fine

pub loop-i-preserved : goal.loop-i-preserved
loop-i-preserved c =
    let fs = claims_in c.args.t.now (told c.args.facts.now) in
    let offsets = c.premise_offsets-offsets.result in
    let three : length c.args.p.items ≡ 3 = search rules in
    let also : length offsets ≡ 3 = search rules in
    let next = premises-next c.args.t.now fs c.args.text_at offsets c.args.p.items c.args.p.count c.loop-i.i _ _ (omega (arith, c.loop-i-test.true)) (omega (arith, also, c.requires.few)) (omega (arith, three, c.requires.few)) in
    let here = rw c.inside_text.ensures at (sym c.check_premise.ensures ∙ c.in_ok-check_premise.was) in
    goes-on _ _ _ _ (is-fine _ here) next c.loop-i.invariant

pub returns-in_err-check_premise : goal.returns-in_err-check_premise
returns-in_err-check_premise c =
    let r = err_from_is_err_and c.from_residual.result c.from_residual.ensures.1 in
    let fs = claims_in c.args.t.now (told c.args.facts.now) in
    let offsets = c.premise_offsets-offsets.result in
    let three : length c.args.p.items ≡ 3 = search rules in
    let also : length offsets ≡ 3 = search rules in
    let next = premises-next c.args.t.now fs c.args.text_at offsets c.args.p.items c.args.p.count c.loop-i.i _ _ (omega (arith, c.loop-i-test.true)) (omega (arith, also, c.requires.few)) (omega (arith, three, c.requires.few)) in
    let here = rw c.inside_text.ensures at (sym c.check_premise.ensures ∙ c.in_err-check_premise.was) in
    rw (r.1, r.2) (stops _ _ _ _ c.in_err-check_premise.field-0.0 (is-refused _ c.in_err-check_premise.field-0.0 here) next c.loop-i.invariant)

pub returns : goal.returns
returns c =
    let t = c.args.t.now in
    let done = premises-done t (claims_in t (told c.args.facts.now)) c.args.text_at c.premise_offsets-offsets.result c.args.p.items c.args.p.count c.loop-i.i (omega (arith, c.loop-i-test.false)) in
    ap (λ r. unless_refused r (tt {0})) (sym done ∙ c.loop-i.invariant)
