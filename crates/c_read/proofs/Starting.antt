-- Before a text's first token nothing is made.
use Rattle.std.proofs.Common.{◌≡◌, [], ◌∷◌, refl}
use Rattle.c_text.specs.CNodes.{no_nodes, unit_tree}
use Rattle.c_read_grammar.specs.Values.{a_unit}
use Rattle.c_read_nodes.specs.declared.values.SemanticValue.TheVariants as vals
use Rattle.c_read_nodes.specs.Seen.{seen_values}

pub nothing_made : seen_values no_nodes (vals.Unit ∷ []) ≡ a_unit [] ∷ []
unfolding unit_tree
nothing_made = refl
