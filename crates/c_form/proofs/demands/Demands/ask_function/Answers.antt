use Rattle.std.proofs.Common.{◌<◌, length, sym, ◌∙◌, arith}
use Rattle.c_form.specs.Signatures.{signature_of}
use Rattle.c_form.proofs.DemandLemmas.{found_item, function_fails, function_passes, function_missing}
use Rattle.c_form.proofs.demands.Demands.ask_function.Goals as goal

pub has_signature-requires : goal.has_signature-requires
has_signature-requires c = found_item c.self.inside.unit.now c.args.name.now c.in-Some.i (sym (c.self.invariant.1 c.args.name.now) ∙ (sym c.get.ensures ∙ c.in-Some.is))

pub index_mut-requires : goal.index_mut-requires
index_mut-requires c =
    let within : c.in-Some.i < length c.self.inside.unit.now.items = found_item c.self.inside.unit.now c.args.name.now c.in-Some.i (sym (c.self.invariant.1 c.args.name.now) ∙ (sym c.get.ensures ∙ c.in-Some.is)) in
    omega (arith, within, c.self.invariant.0, c.self.inside.met.ok)

pub returns-then-not-has_signature : goal.returns-then-not-has_signature
returns-then-not-has_signature c = rw (← c.self.view_is) (function_fails c.self.inside.unit.now c.self.inside.met.items c.self.inside.complete (signature_of c.args.name.now c.args.asked) c.in-Some.i (sym (c.self.invariant.1 c.args.name.now) ∙ (sym c.get.ensures ∙ c.in-Some.is)) (c.if-not-has_signature.ensures c.args.name.now) c.self.invariant.0)

pub returns-else-not-has_signature : goal.returns-else-not-has_signature
returns-else-not-has_signature c = rw (← c.self.view_is) (function_passes c.self.inside.unit.now c.self.inside.met.items c.self.inside.complete (signature_of c.args.name.now c.args.asked) c.in-Some.i (sym (c.self.invariant.1 c.args.name.now) ∙ (sym c.get.ensures ∙ c.in-Some.is)) (c.if-not-has_signature.ensures c.args.name.now))

pub returns-in-None : goal.returns-in-None
returns-in-None c = rw (← c.self.view_is) (function_missing c.self.inside.unit.now c.self.inside.met.items c.self.inside.complete (signature_of c.args.name.now c.args.asked) (sym (c.self.invariant.1 c.args.name.now) ∙ (sym c.get.ensures ∙ c.in-None.is)))
