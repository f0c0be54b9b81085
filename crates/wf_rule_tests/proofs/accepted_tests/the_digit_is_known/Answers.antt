use Rattle.std.proofs.Common.{Some, None, sym, subst}
use Rattle.wf_ast.specs.declared.typed_nodes.TypedNodes.{TypedNodes}
use Rattle.wf_bounds.specs.Acceptance.{TellsKnown}
use Rattle.wf_facts.specs.IndexedFacts.{FactList, IsOver}
use Rattle.wf_rule_tests.proofs.accepted_tests.the_digit_is_known.Goals as goal

-- What tells what is known is a list over the package.
told_over : (nodes : TypedNodes) (known : _) (facts : FactList) → TellsKnown nodes known (Some facts) → IsOver nodes facts
told_over nodes (Some gs) facts told = told.1
told_over nodes None facts told = absurd told

pub about-of_c-requires-clause-over : goal.about-of_c-requires-clause-over
about-of_c-requires-clause-over c =
    let P : TypedNodes → Type 0 = λ nodes. IsOver nodes c.in-Some-2.facts in
    subst P (sym c.typed-in-Some-2.ensures.same) (told_over _ _ c.in-Some-2.facts (rw c.in-Some-2.is at c.in_ok-facts.ensures))

pub about-of_this-requires-clause-over : goal.about-of_this-requires-clause-over
about-of_this-requires-clause-over c =
    let P : TypedNodes → Type 0 = λ nodes. IsOver nodes c.in-Some-2.facts in
    subst P (sym c.typed-in-Some-2-2.ensures.same) (told_over _ _ c.in-Some-2.facts (rw c.in-Some-2.is at c.in_ok-facts.ensures))
