use Rattle.std.proofs.Common.{◌≡◌, refl, ◌∙◌, ap}
use Rattle.wf_text.specs.Surface.{Surface}
use Rattle.c_form.specs.Demands.{ask_structs, none_asked}
use Rattle.c_form.proofs.DemandLemmas.{structs_on}
use Rattle.c_form.proofs.demands.Demands.of.Goals as goal

pub loop-it-preserved : goal.loop-it-preserved
loop-it-preserved c =
    let same : c.as_slice-it-items.result.now ≡ c.args.surface.now.structs = c.as_slice-it-items.ensures.value ∙ ap (λ (p : Surface). p.structs) c.surface.view_is in
    structs_on c.args.surface.now c.loop-it.demands c.ask.new.self c.as_slice-it-items.result.now c.args.surface.now.structs c.loop-it.it-index c.it-item.result c.as_slice-in-loop-it-2.result.now c.as_slice-in-loop-it-3.result.now (ask_structs c.args.surface.now (none_asked c.args.unit.now) c.args.surface.now.structs) same c.loop-it-test.true c.it-item.is c.in_ok-ask.ensures (rw (← c.surface.view_is, ← c.it.view_is, c.as_slice-in-loop-it-2.ensures.value, c.in_ok-of.ensures, c.as_slice.ensures.value, c.as_slice-in-loop-it.ensures.value) refl) (rw (← c.it.view_is) c.as_slice-in-loop-it-3.ensures.value) c.loop-it.invariant
