use Rattle.std.proofs.Common.{not, refl, sym, ap, arith}
use Rattle.wf_facts_exprs.specs.Knowledge.{told}
use Rattle.wf_facts_exprs.specs.Claims.{claim_in, claims_in, is_among}
use Rattle.wf_facts.proofs.AddLemmas.{marks-none, marks-one}
use Rattle.wf_facts.proofs.adding.lacking.Goals as goal

pub loop-i-preserved-then-stands_at : goal.loop-i-preserved-then-stands_at
loop-i-preserved-then-stands_at c = (
  omega (arith, c.if-stands_at.ensures.place refl),
  marks-none (λ f. not (is_among (claims_in c.args.t.now (told c.args.others.now)) (claim_in c.args.t.now f))) c.args.list.now c.loop-i.i _ (omega arith) c.loop-i.lacking.words c.loop-i.invariant.1
      (ap not (c.if-stands_at.ensures.among refl)),
)

pub loop-i-preserved-in_default : goal.loop-i-preserved-in_default
loop-i-preserved-in_default c = (
  c.loop-i.invariant.0,
  marks-one (λ f. not (is_among (claims_in c.args.t.now (told c.args.others.now)) (claim_in c.args.t.now f))) c.args.list.now c.loop-i.i _ (omega arith) c.loop-i.lacking.words c.insert.new.self.words c.loop-i.invariant.1
      (ap not (sym c.in_default.ensures.among)) c.insert.ensures,
)

pub loop-i-preserved : goal.loop-i-preserved
loop-i-preserved c = (
  omega (arith, c.in-Some.ensures.place),
  marks-none (λ f. not (is_among (claims_in c.args.t.now (told c.args.others.now)) (claim_in c.args.t.now f))) c.args.list.now c.loop-i.i _ (omega arith) c.loop-i.lacking.words c.loop-i.invariant.1
      (ap not (sym c.in-Some.ensures.among)),
)
