use Rattle.std.proofs.Common.{◌≡◌, map, drop}
use Rattle.c_form.specs.Demands.{ask_functions}
use Rattle.c_form.specs.Signatures.{method_by}
use Rattle.c_form.proofs.demands.Demands.ask_methods.Given as goal

abbrev pub invariant-loop-method : goal.invariant-loop-method
invariant-loop-method l = ask_functions l.self (map (method_by l.of) (drop l.method-index l.methods)) ≡ ask_functions l.fn.self (map (method_by l.of) l.methods)
