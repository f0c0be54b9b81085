-- What the nodes of a typed package tell of assertions.
use Rattle.std.specs.Prelude.{◌≡◌, ◌<◌, true, length, Option, None, Some, All}
use Rattle.wf_ast.specs.declared.typed_code.AxiomRef.{AxiomRef}
use Rattle.wf_ast.specs.declared.typed_nodes.TypedNodes.{TypedNodes}
use Rattle.wf_axioms.specs.Bindings.{is_given_number}

-- The axiom that an assertion may name: its text is one of the package, and so is each letter that is given, with a number.
pub record IsAxiomOf (nodes : TypedNodes) (by : AxiomRef) : Type 0 where
  pub text : by.name.0 < length nodes.texts
  pub given : All (λ g. is_given_number nodes g ≡ true) by.given

abbrev pub MayBeAxiomOf : TypedNodes → Option AxiomRef → Type 0
MayBeAxiomOf nodes None = Unit {0}
MayBeAxiomOf nodes (Some by) = IsAxiomOf nodes by
