-- Where the nodes of a typed package stand, and the place of what stands nowhere.
use Rattle.std.specs.Prelude.{◌≡◌, ℕ, ◌<◌, List, Some, map, slice_get}
use Rattle.wf_text.specs.declared.place.Place.{Place}
use Rattle.wf_ast.specs.declared.typed_nodes.TypedNodes.{TypedNodes}

-- The place of no token, and of what a number stands for that names no node: no package has it.
abbrev pub no_place : Place
no_place = record { file = 0; line = 0; col = 0 }

-- The places of all expressions, and of all statements, by number.
abbrev pub expr_places : TypedNodes → List Place
expr_places nodes = map (λ node. node.at) nodes.exprs

abbrev pub stmt_places : TypedNodes → List Place
stmt_places nodes = map (λ node. node.at) nodes.stmts

-- The item with the number `n` has this place, and none before it has.
pub record IsFirstAt (places : List Place) (at : Place) (n : ℕ) : Type 0 where
  pub stands : slice_get places n ≡ Some at
  pub first : (k : ℕ) → k < n → slice_get places k ≡ Some at → ⊥
