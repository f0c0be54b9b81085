-- What a binding of letters to expressions says of the trees.
use Rattle.std.specs.Prelude.{◌≡◌, Bool, true, ◌&&◌, length, nat_lt, Option, option_map, IfSome}
use Rattle.wf_ast.specs.declared.numbers.ExprId.{ExprId}
use Rattle.wf_ast.specs.declared.numbers.TextId.{TextId}
use Rattle.wf_ast.specs.declared.typed_nodes.TypedNodes.{TypedNodes}
use Rattle.wf_ast.specs.TypedTree.{NumTree}
use Rattle.wf_ast.specs.TypedTrees.{num_in, tree_of}
use Rattle.wf_ast.specs.NodeKinds.{is_number_at}
use Rattle.wf_axioms.specs.declared.binding.Binding.{Binding}
use Rattle.wf_axioms.specs.Matching.{Trees}

abbrev pub optional_tree : TypedNodes → Option ExprId → Option NumTree
optional_tree nodes e = option_map (λ x. num_in (tree_of nodes x)) e

abbrev pub trees_in : TypedNodes → Binding → Trees
trees_in nodes b = record { a = optional_tree nodes b.a; b = optional_tree nodes b.b; c = optional_tree nodes b.c; d = optional_tree nodes b.d; b0 = optional_tree nodes b.b0; c0 = optional_tree nodes b.c0 }

-- Every letter that stands for an expression stands for a number.
abbrev pub IsNumber : TypedNodes → Option ExprId → Type 0
IsNumber nodes e = IfSome e (λ x. is_number_at nodes x ≡ true)

pub record AreNumbers (nodes : TypedNodes) (of : Binding) : Type 0 where
  pub a : IsNumber nodes of.a
  pub b : IsNumber nodes of.b
  pub c : IsNumber nodes of.c
  pub d : IsNumber nodes of.d
  pub b0 : IsNumber nodes of.b0
  pub c0 : IsNumber nodes of.c0

-- What is given for a letter: a text of the package, and a number.
abbrev pub is_given_number : TypedNodes → TextId × ExprId → Bool
is_given_number nodes g = nat_lt g.0.0 (length nodes.texts) && is_number_at nodes g.1
