use Rattle.std.proofs.Common.{map, refl}
use Rattle.c_form.specs.Demands.{ask_functions}
use Rattle.c_form.specs.Signatures.{signature_of, method_by}
use Rattle.c_form.proofs.DemandLemmas.{methods_on}
use Rattle.c_form.proofs.demands.Demands.ask_methods.Goals as goal

pub loop-method-preserved : goal.loop-method-preserved
loop-method-preserved c = methods_on c.args.of.now c.loop-method.self c.ask_function.new.self c.args.methods.now c.loop-method.method-index c.method-item.result (signature_of c.as_slice-in-loop-method-2.result.now (record { of = c.args.of; args = c.as_slice-in-loop-method.result; answers = c.method.inside.answers })) (ask_functions c.args.self.now (map (method_by c.args.of.now) c.args.methods.now)) c.loop-method-test.true c.method-item.is c.ask_function.ensures (rw (← c.method.view_is, c.as_slice-in-loop-method-2.ensures.value, c.in_ok-name.ensures, c.as_slice.ensures.value, c.as_slice-in-loop-method.ensures.value) refl) c.loop-method.invariant
