use Rattle.std.proofs.Common.{◌≡◌, ◌<◌, ◌∙◌, Option, None, Result, IfOk, sym, ap, subst, length, arith}
use Rattle.wf_text.specs.declared.faults.NoMemory.{NoMemory}
use Rattle.wf_ast.specs.declared.typed_nodes.TypedNodes.{TypedNodes}
use Rattle.wf_ast.specs.TypedInvariant.{IsTyped}
use Rattle.wf_facts.specs.IndexedFacts.{FactList}
use Rattle.wf_bounds_stmts.specs.FactRules.{Known}
use Rattle.wf_bounds_stmts.specs.MethodRules.{facts_refusal, facts_in_front}
use Rattle.wf_bounds.specs.Acceptance.{TellsKnown}
use Rattle.wf_bounds.proofs.MethodLemmas.{sound_at, front_first, front_skips, front_is, front_ends}
use Rattle.wf_bounds.proofs.NumberLemmas.{skipped, alone_in}
use Rattle.wf_bounds.proofs.looking.facts_at.Goals as goal

typed_same : (one other : TypedNodes) → one ≡ other → IsTyped other → IsTyped one
typed_same one other e h = let P : TypedNodes → Type 0 = IsTyped in subst P (sym e) h

told : (nodes : TypedNodes) (one other : Known) (answer : Result (Option FactList) NoMemory) → one ≡ other → IfOk answer (TellsKnown nodes one) → IfOk answer (TellsKnown nodes other)
told nodes one other answer e h = let P : Known → Type 0 = λ k. IfOk answer (TellsKnown nodes k) in subst P e h

pub loop-m-init : goal.loop-m-init
loop-m-init c = let typed = typed_same _ _ c.typed-t.ensures.same c.typed-t.ensures.kept.typed in front_first c.typed-t.result.now typed c.args.s

pub look_in-requires-clause-sound : goal.look_in-requires-clause-sound
look_in-requires-clause-sound c =
    let t = c.loop-m-test.true in
    let n = c.methods-m-end.ensures in
    let typed = typed_same _ _ c.typed-t.ensures.same c.typed-t.ensures.kept.typed in
    sound_at c.typed-t.result.now typed (ap (λ n. facts_refusal n) c.typed-t.ensures.same ∙ c.typed-t.ensures.kept.bounds) c.loop-m.m (omega (arith, t, n))

pub returns-then-may_hold : goal.returns-then-may_hold
returns-then-may_hold c =
    let t = c.loop-m-test.true in
    let n = c.methods-m-end.ensures in
    let nodes = c.typed-t.result.now in
    let typed = typed_same _ _ c.typed-t.ensures.same c.typed-t.ensures.kept.typed in
    let l : c.loop-m.m < length nodes.methods = omega (arith, t, n) in
    let P : TypedNodes → Type 0 = λ n. IfOk c.look_in.result (TellsKnown n (facts_in_front n c.args.s.0)) in
    let e = front_is nodes typed c.loop-m.m l c.args.s c.loop-m.invariant (alone_in nodes typed c.loop-m.m l c.args.s c.body.result.now c.body.ensures (sym c.may_hold.ensures ∙ c.if-may_hold.true)) in
    subst P c.typed-t.ensures.same (told nodes _ _ c.look_in.result e c.look_in.ensures)

pub loop-m-preserved : goal.loop-m-preserved
loop-m-preserved c =
    let t = c.loop-m-test.true in
    let n = c.methods-m-end.ensures in
    let nodes = c.typed-t.result.now in
    let typed = typed_same _ _ c.typed-t.ensures.same c.typed-t.ensures.kept.typed in
    let l : c.loop-m.m < length nodes.methods = omega (arith, t, n) in
    front_skips nodes typed c.loop-m.m l c.args.s c.loop-m.invariant (skipped nodes typed c.loop-m.m l c.args.s c.body.result.now c.body.ensures (sym c.may_hold.ensures ∙ c.if-may_hold.false))

pub returns : goal.returns
returns c =
    let t = c.loop-m-test.false in
    let n = c.methods-m-end.ensures in
    let typed = typed_same _ _ c.typed-t.ensures.same c.typed-t.ensures.kept.typed in
    let P : TypedNodes → Type 0 = λ n. TellsKnown n (facts_in_front n c.args.s.0) None in
    subst P c.typed-t.ensures.same (front_ends c.typed-t.result.now typed c.loop-m.m (omega (arith, t, n)) c.args.s c.loop-m.invariant)
