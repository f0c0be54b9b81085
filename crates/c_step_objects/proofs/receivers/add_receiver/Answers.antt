use Rattle.std.proofs.Common.{length, ap, sym, ◌++◌, ◌∙◌}
use Rattle.std.specs.Prelude.{unwrap_or}
use Rattle.wf_bufs.specs.SurfaceViews.{receiver_of}
use Rattle.c_step_objects.proofs.ReceiverLemmas.{receiver_is}
use Rattle.c_step_objects.proofs.receivers.add_receiver.Goals as goal

pub returns-clause-objects : goal.returns-clause-objects
returns-clause-objects c = λ p surface h.
    c.in_ok-add_objects.ensures p.structs (c.as_slice.ensures.value ∙ h.shapes)
    ∙ ap (λ objects. c.args.all.now.items ++ objects) (sym (receiver_is p surface (receiver_of c.args.receiver) (length c.args.all.now.items) c.unwrap_or-k.result c.if-receiver.false (c.unwrap_or-k.ensures ∙ ap (λ o. unwrap_or o 0) (c.copied.ensures ∙ (c.get.ensures.value ∙ h.numbers c.args.receiver.of.0)))))
