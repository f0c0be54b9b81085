use Rattle.std.proofs.Common.{◌∙◌, ap, arith, length, map}
use Rattle.std.specs.Vec.{with_items}
use Rattle.std.proofs.lemmas.List.{with_items_is}
use Rattle.wf_meaning.specs.SourceState.{cleared}
use Rattle.wf_mean_exprs.specs.declared.objects.KeptBody.{KeptBody}
use Rattle.wf_mean_exprs.specs.MachineState.{field_seen}
use Rattle.wf_mean.proofs.FreshLaws.{cleared-seen}
use Rattle.wf_mean.proofs.receivers.clear_object.Goals as goal

pub returns-clause-cleared : goal.returns-clause-cleared
returns-clause-cleared c p =
    cleared-seen p c.args.o.now (with_items c.args.o.now.fields c.clear_fields.new.fields).items c.clear_fields.new.fields (with_items c.args.o.now.kept c.forget_bodies.new.kept).items c.forget_bodies.new.kept
    (with_items_is c.args.o.now.fields c.clear_fields.new.fields (omega (arith, c.clear_fields.auto.fields, c.as_mut_slice.ensures.len)))
    (with_items_is c.args.o.now.kept c.forget_bodies.new.kept (omega (arith, c.forget_bodies.auto.kept, c.as_mut_slice-2.ensures.len)))
    (c.clear_fields.ensures ∙ ap (λ fields. map cleared (map field_seen fields)) c.as_mut_slice.ensures.value) c.forget_bodies.ensures.none
    (c.forget_bodies.ensures.locals ∙ ap (map (λ (k : KeptBody). length k.locals.items)) c.as_mut_slice-2.ensures.value)
