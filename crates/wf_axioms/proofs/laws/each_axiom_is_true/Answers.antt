use Rattle.wf_axioms.proofs.Truth.{axiom-true}
use Rattle.wf_axioms.proofs.laws.each_axiom_is_true.Goals as goal

pub returns : goal.returns
returns c a n h = axiom-true a n h
