use Rattle.std.proofs.Common.{◌≡◌, ◌++◌, drop, true}
use Rattle.std.specs.Prelude.{option_map, All}
use Rattle.wf_ast.specs.declared.typed_nodes.TypedNodes.{TypedNodes}
use Rattle.wf_axioms.specs.Matching.{claims_of}
use Rattle.wf_axioms.specs.Bindings.{trees_in, AreNumbers}
use Rattle.wf_axioms.specs.Items.{claims_of_items, is_item}
use Rattle.wf_axioms.proofs.asking.items.Given as goal

-- The claims so far and those of what is left are all claims.
abbrev pub invariant-loop-c : goal.invariant-loop-c
invariant-loop-c l = record {
  left : (nodes : TypedNodes) → option_map (λ fs. claims_of_items nodes l.made ++ fs) (claims_of (trees_in nodes l.b) (drop l.c-index l.asked)) ≡ claims_of (trees_in nodes l.b) l.asked;
  count : l.made.count ≡ l.c-index;
  sides : (nodes : TypedNodes) → AreNumbers nodes l.b → All (λ i. is_item nodes i ≡ true) l.made.items;
}
