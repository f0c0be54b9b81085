-- The head of a fact: what kind of number stands on its left, and of a variable, a part of its number. Facts that claim the
-- same have the same head, so a fact is looked for among those with its own alone.
use Rattle.std.specs.Prelude.{ℕ, ◌+◌, ◌*◌, ◌%◌, Bool, List, map, nat_eq}
use Rattle.wf_ast.specs.declared.typed_code.Expr.{Expr}
use Rattle.wf_ast.specs.declared.typed_code.Expr.TheVariants as exprs
use Rattle.wf_ast.specs.declared.typed_nodes.TypedNodes.{TypedNodes}
use Rattle.wf_ast.specs.TypedTree.{Path, local, field, arg, NumTree, number, read, element, link}
use Rattle.wf_facts_exprs.specs.declared.facts.Fact.{Fact}
use Rattle.wf_facts_exprs.specs.Claims.{Claim, compared, stands, tree_of_side, claim_in}

-- There are 256 heads. Locals and fields take turns, so that a method with few of them has few heads.
abbrev pub path_head : Path → ℕ
path_head (local n) = 8 + 2 * (n % 124)
path_head (field n) = 9 + 2 * (n % 124)
path_head (arg n) = 4 + n % 4

abbrev pub head_of : NumTree → ℕ
head_of (number at n) = 0
head_of (link at sign op bits joined a b) = 1
head_of (element at of cells index) = 2
head_of (read at of p) = path_head p
head_of t = 3

-- That of a node which is no constant number.
abbrev pub head_of_node : Expr → ℕ
head_of_node (exprs.Chain op parts) = 1
head_of_node (exprs.Index base index) = 2
head_of_node (exprs.Local x) = path_head (local x.0)
head_of_node (exprs.Field x) = path_head (field x.0)
head_of_node (exprs.Arg x) = path_head (arg x.0)
head_of_node expr = 3

-- A condition that stands has that of a number.
abbrev pub claim_head : Claim → ℕ
claim_head (compared a op b) = head_of (tree_of_side a)
claim_head (stands c answer) = 0

-- Which facts of a list have this head, in order.
abbrev pub having_head : TypedNodes → ℕ → List Fact → List Bool
having_head nodes h fs = map (λ f. nat_eq (claim_head (claim_in nodes f)) h) fs
