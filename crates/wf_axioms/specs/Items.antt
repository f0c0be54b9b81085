-- What the premises that are answered claim.
use Rattle.std.specs.Prelude.{◌≡◌, Bool, ◌&&◌, List, map, take, None, Result, Ok, Err, All}
use Rattle.wf_ast.specs.declared.typed_nodes.TypedNodes.{TypedNodes}
use Rattle.wf_facts_exprs.specs.declared.facts.Cmp.{Cmp}
use Rattle.wf_facts_exprs.specs.declared.facts.Side.{Side}
use Rattle.wf_facts_exprs.specs.Claims.{Claim, compared, is_side, order_of, side_in}
use Rattle.wf_facts_exprs.specs.Demands.{side_refusal}
use Rattle.wf_axioms.specs.declared.asked.Premises.{Premises}
use Rattle.wf_axioms.specs.declared.asked.AxiomFault.{AxiomFault}

abbrev pub claim_of_item : TypedNodes → Side × Cmp × Side → Claim
claim_of_item nodes i = compared (side_in nodes i.0) (order_of i.1) (side_in nodes i.2)

-- The items that are premises, as claims.
abbrev pub claims_of_items : TypedNodes → Premises → List Claim
claims_of_items nodes p = map (claim_of_item nodes) (take p.count p.items)

abbrev pub answered : TypedNodes → Result Premises AxiomFault → Result (List Claim) AxiomFault
answered nodes (Ok p) = Ok (claims_of_items nodes p)
answered nodes (Err fault) = Err fault

-- Both sides name expressions of the package, of the kinds that a side wants.
abbrev pub is_item : TypedNodes → Side × Cmp × Side → Bool
is_item nodes i = is_side nodes i.0 && is_side nodes i.2

-- The demands of both sides of a comparison are met under these claims.
abbrev pub IsFine : List Claim → Claim → Type 0
IsFine known (compared a op b) = (side_refusal known a ≡ None) × (side_refusal known b ≡ None)
IsFine known claim = ⊥

abbrev pub AreFineItems : TypedNodes → List Claim → Premises → Type 0
AreFineItems nodes known p = All (λ i. IsFine known (claim_of_item nodes i)) (take p.count p.items)
