-- What it means that a package is accepted, and what is answered of packages.
use Rattle.std.specs.Prelude.{◌≡◌, ◌⊎◌, ℕ, map, Option, None, Some}
use Rattle.wf_text.specs.declared.faults.PhaseFault.{PhaseFault}
use Rattle.wf_text.specs.declared.faults.PhaseFault.TheVariants.{Refused, Memory}
use Rattle.wf_text.specs.Precedence.{Decides, IsFirst}
use Rattle.wf_ast.specs.declared.typed_nodes.TypedNodes.{TypedNodes}
use Rattle.wf_ast.specs.TypedPackage.{package_of}
use Rattle.wf_ast.specs.TypedInvariant.{IsTyped}
use Rattle.wf_facts_exprs.specs.Claims.{claims_in}
use Rattle.wf_facts.specs.IndexedFacts.{FactList, IsOver}
use Rattle.wf_points.specs.PointNumbers.{PointTable, HasTooMany, number_at, point_number, saved_locals}
use Rattle.wf_bounds_stmts.specs.FactRules.{Known}
use Rattle.wf_bounds_stmts.specs.MethodRules.{facts_refusal}

-- A package beside the table of its points.
pub record AcceptedPackage : Type 0 where
  pub nodes : TypedNodes
  pub points : PointTable

-- The package is typed, the rules of facts refuse nothing in it, no method has too many points, and the table is that of its
-- points.
pub record IsAccepted (a : AcceptedPackage) : Type 0 where
  pub typed : IsTyped a.nodes
  pub bounds : facts_refusal a.nodes ≡ None
  pub few : Decides (HasTooMany (package_of a.nodes)) None
  pub numbers : (s : ℕ) → number_at a.points.numbers s ≡ point_number (package_of a.nodes).methods s
  pub saved : a.points.saved ≡ map saved_locals (package_of a.nodes).methods

-- What a package is refused for: by the rules of facts, or, where these refuse nothing, for its points. Where memory is refused
-- nothing is said.
abbrev pub IsRefusedFor : TypedNodes → PhaseFault → Type 0
IsRefusedFor nodes (Refused r) = (facts_refusal nodes ≡ Some r) ⊎ ((facts_refusal nodes ≡ None) × IsFirst (HasTooMany (package_of nodes)) r)
IsRefusedFor nodes Memory = Unit {0}

-- The list that is answered of a statement tells what is known before it; None is answered where it isn't reached.
abbrev pub TellsKnown : TypedNodes → Known → Option FactList → Type 0
TellsKnown nodes (Some gs) (Some facts) = (claims_in nodes facts.list ≡ gs) × IsOver nodes facts
TellsKnown nodes None None = Unit {0}
TellsKnown nodes known answer = ⊥
