use Rattle.std.proofs.Common.{◌≡◌, drop}
use Rattle.wf_axioms.specs.Matching.{given_trees, with_given}
use Rattle.wf_axioms.specs.Bindings.{trees_in, AreNumbers}
use Rattle.wf_axioms.proofs.given.bind_given.Given as goal

-- What is left to be given makes of the letters so far what all makes of the first ones.
abbrev pub invariant-loop-item : goal.invariant-loop-item
invariant-loop-item l = record {
  left : with_given l.a (given_trees l.t (drop l.item-index l.given)) (trees_in l.t l.bound) ≡ with_given l.a (given_trees l.t l.given) (trees_in l.t l.fn.b);
  numbers : AreNumbers l.t l.bound;
}
