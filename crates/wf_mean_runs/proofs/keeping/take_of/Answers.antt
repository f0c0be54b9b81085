use Rattle.std.proofs.Common.{◌∙◌, ap, sym, subst, refl, length, Option, Some, None, arith}
use Rattle.wf_mean_exprs.specs.declared.objects.KeptBody.{KeptBody}
use Rattle.wf_mean_runs.specs.Bodies.{TakesUp}
use Rattle.wf_mean_runs.proofs.KeepLaws.{get_at, get_past, lengths_set, state_past, state_set}
use Rattle.wf_mean_runs.proofs.keeping.take_of.Goals as goal

pub returns-then-m-len-clause-state : goal.returns-then-m-len-clause-state
returns-then-m-len-clause-state c = λ p. state_set p c.args.m _ c.args.state.now c.take_kept.new.kept (c.take_kept.ensures.none p c.args.m)

pub returns-then-m-len-clause-lengths : goal.returns-then-m-len-clause-lengths
returns-then-m-len-clause-lengths c =
    lengths_set c.args.state.now.kept.items c.args.m c.take_kept.new.kept c.index_mut.result.now (omega (arith, c.if-m-len.true, c.len.ensures)) (c.take_kept.ensures.lengths ∙ ap (λ (k : KeptBody). length k.locals.items) c.index_mut.ensures.value)

pub returns-else-m-len-clause-state : goal.returns-else-m-len-clause-state
returns-else-m-len-clause-state c = λ p. state_past p c.args.m _ c.args.state.now (omega (arith, c.if-m-len.false, c.len.ensures))

pub returns-then-m-len-clause-kept : goal.returns-then-m-len-clause-kept
returns-then-m-len-clause-kept c =
    let P : Option KeptBody → Type 0 = λ o. TakesUp c.take_kept.result c.take_kept.new.locals o in
    subst P (ap Some c.index_mut.ensures.value ∙ sym (get_at c.args.state.now.kept.items c.args.m c.index_mut.result.now (omega (arith, c.if-m-len.true, c.len.ensures)))) c.take_kept.ensures.kept

pub returns-else-m-len-clause-kept : goal.returns-else-m-len-clause-kept
returns-else-m-len-clause-kept c =
    let P : Option KeptBody → Type 0 = λ o. TakesUp None c.args.locals.now o in
    subst P (sym (get_past c.args.state.now.kept.items c.args.m (omega (arith, c.if-m-len.false, c.len.ensures)))) (λ p m. refl)
