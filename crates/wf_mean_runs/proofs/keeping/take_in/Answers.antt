use Rattle.std.proofs.Common.{sym, subst, refl, Option, None}
use Rattle.std.specs.Prelude.{option_and_then, slice_get}
use Rattle.wf_mean_exprs.specs.declared.objects.ObjectState.{ObjectState}
use Rattle.wf_mean_exprs.specs.MachineState.{object_seen}
use Rattle.wf_mean_stmts.specs.Stages.{kept_lengths}
use Rattle.wf_mean_stmts.proofs.StoringLemmas.{past_updated, set_same, set_updated}
use Rattle.wf_mean_runs.specs.Bodies.{TakesUp}
use Rattle.wf_mean_runs.proofs.KeepLaws.{get_at, get_past}
use Rattle.wf_mean_runs.proofs.keeping.take_in.Goals as goal

pub returns-then-object-objects-clause-objects : goal.returns-then-object-objects-clause-objects
returns-then-object-objects-clause-objects c = λ p. set_updated (object_seen p) _ c.args.objects.now c.args.object c.take_of.new.state c.index-objects-object.result c.if-object-objects.true (c.take_of.ensures.state p)

pub returns-then-object-objects-clause-lengths : goal.returns-then-object-objects-clause-lengths
returns-then-object-objects-clause-lengths c = set_same kept_lengths c.args.objects.now c.args.object c.take_of.new.state c.index-objects-object.result c.if-object-objects.true c.take_of.ensures.lengths

pub returns-else-object-objects-clause-objects : goal.returns-else-object-objects-clause-objects
returns-else-object-objects-clause-objects c = λ p. past_updated (object_seen p) _ c.args.objects.now c.args.object c.if-object-objects.false

pub returns-then-object-objects-clause-kept : goal.returns-then-object-objects-clause-kept
returns-then-object-objects-clause-kept c =
    let P : Option ObjectState → Type 0 = λ o. TakesUp c.take_of.result c.take_of.new.locals (option_and_then (λ (s : ObjectState). slice_get s.kept.items c.args.m) o) in
    subst P (sym (get_at c.args.objects.now c.args.object c.index-objects-object.result c.if-object-objects.true)) c.take_of.ensures.kept

pub returns-else-object-objects-clause-kept : goal.returns-else-object-objects-clause-kept
returns-else-object-objects-clause-kept c =
    let P : Option ObjectState → Type 0 = λ o. TakesUp None c.args.locals.now (option_and_then (λ (s : ObjectState). slice_get s.kept.items c.args.m) o) in
    subst P (sym (get_past c.args.objects.now c.args.object c.if-object-objects.false)) (λ p m. refl)
