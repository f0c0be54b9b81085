-- The numbers that facts compare with, as far as one look at a fact tells them: most facts are told apart by these.
use Rattle.std.specs.Prelude.{ℕ, Bool, false, not, Option, None, Some, nat_eq}
use Rattle.wf_ast.specs.declared.typed_nodes.TypedNodes.{TypedNodes}
use Rattle.wf_ast.specs.TypedTrees.{num_in, tree_of}
use Rattle.wf_facts_exprs.specs.declared.facts.Side.{Side}
use Rattle.wf_facts_exprs.specs.declared.facts.Side.TheVariants as sides
use Rattle.wf_facts_exprs.specs.declared.facts.Fact.{Fact}
use Rattle.wf_facts_exprs.specs.declared.facts.Fact.TheVariants as facts
use Rattle.wf_facts.specs.Forms.{number_in}

abbrev pub plain_number_of_side : TypedNodes → Side → Option ℕ
plain_number_of_side nodes (sides.Expr e) = number_in (num_in (tree_of nodes e))
plain_number_of_side nodes (sides.Num n) = Some n
plain_number_of_side nodes side = None

-- The number on the right of a comparison.
abbrev pub plain_number_of : TypedNodes → Fact → Option ℕ
plain_number_of nodes (facts.Compare left op right) = plain_number_of_side nodes right
plain_number_of nodes f = None

-- Whether these are two numbers.
abbrev pub told_apart : (m n : Option ℕ) → Bool
told_apart (Some m) (Some n) = not (nat_eq m n)
told_apart m n = false
