use Rattle.std.proofs.Common.{◌≡◌, true}
use Rattle.turns.proofs.Invariants.{run_keeps}
use Rattle.turns.proofs.laws.an_invariant_lasts.Goals as goal

pub returns : goal.returns
returns g c step weight kept answered keeps n s h = run_keeps step weight (λ t. kept t ≡ true) (λ a. answered a ≡ true) keeps n s h
