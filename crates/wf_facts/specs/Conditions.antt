-- How the facts of a condition come into a list from those of its parts.
use Rattle.std.specs.Prelude.{◌≡◌, ℕ, Bool, false, List, [], ◌∷◌, ◌++◌, length, take, Some, slice_get}
use Rattle.wf_ast.specs.declared.numbers.ExprId.{ExprId}
use Rattle.wf_ast.specs.declared.typed_nodes.TypedNodes.{TypedNodes}
use Rattle.wf_ast.specs.NodeKinds.{node_cond}
use Rattle.wf_facts_exprs.specs.Claims.{Claim, is_among, facts_of}
use Rattle.wf_facts.specs.FactLists.{all_added}

-- The facts of several conditions with one answer, in order.
abbrev pub facts_of_all : TypedNodes → (answer : Bool) → List ExprId → List Claim
facts_of_all nodes answer [] = []
facts_of_all nodes answer (e ∷ es) = facts_of (node_cond nodes e) answer ++ facts_of_all nodes answer es

-- Of facts to be added, the first for which no room is left: 512 others stand by then, and those before it among them.
pub record StopsAt (before facts after : List Claim) : Type 0 where
  pub count : ℕ
  pub next : Claim
  pub is : slice_get facts count ≡ Some next
  pub so_far : after ≡ all_added before (take count facts)
  pub many : length after ≡ 512
  pub other : is_among after next ≡ false
