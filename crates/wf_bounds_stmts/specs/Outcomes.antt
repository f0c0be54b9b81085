-- What is answered of a statement, and what is then known.
use Rattle.std.specs.Prelude.{◌≡◌, ◌<◌, List, length, Option, None, Some, Result, Ok, Err}
use Rattle.wf_text.specs.declared.place.Place.{Place}
use Rattle.wf_text.specs.declared.rules.Refusal.{Refusal}
use Rattle.wf_ast.specs.declared.things.Thing.{Thing}
use Rattle.wf_ast.specs.declared.typed_nodes.TypedNodes.{TypedNodes}
use Rattle.wf_ast.specs.TypedTree.{Simple, Site}
use Rattle.wf_ast.specs.TypedPackage.{package_of}
use Rattle.wf_facts_exprs.specs.Claims.{Claim, claims_in}
use Rattle.wf_facts_exprs.specs.Demands.{or_else}
use Rattle.wf_facts.specs.declared.adding.Full.{Full}
use Rattle.wf_facts.specs.IndexedFacts.{FactList, IsNamedInSets}
use Rattle.wf_loops.specs.LoopRules.{limit}
use Rattle.wf_bounds_stmts.specs.FactRules.{Known, Around, single_refusal, known_behind, limit_behind}

-- A statement that requires this and makes that list: either the first requirement that isn't met, the list's limit being the
-- last, or the list. `at` is the statement's first token.
abbrev pub Answers : TypedNodes → (at : Place) → Option Refusal → List Claim → Result (Unit {0}) Refusal → FactList → Type 0
Answers nodes at refusal fs (Ok done) known = (refusal ≡ None) × (limit at fs ≡ None) × (claims_in nodes known.list ≡ fs)
Answers nodes at refusal fs (Err found) known = or_else refusal (limit at fs) ≡ Some found

-- The same where the list only loses facts.
abbrev pub Settles : TypedNodes → Option Refusal → List Claim → Result (Unit {0}) Refusal → FactList → Type 0
Settles nodes refusal fs (Ok done) known = (refusal ≡ None) × (claims_in nodes known.list ≡ fs)
Settles nodes refusal fs (Err found) known = refusal ≡ Some found

-- The same where what is known is told as it is of any statement.
abbrev pub Does : TypedNodes → Option Refusal → Known → Result (Unit {0}) Refusal → FactList → Type 0
Does nodes refusal known (Ok done) facts = (refusal ≡ None) × (known ≡ Some (claims_in nodes facts.list))
Does nodes refusal known (Err found) facts = refusal ≡ Some found

-- The same, where a list's limit may have been asked too.
abbrev pub Told : TypedNodes → (at : Place) → Option Refusal → Known → Result (Unit {0}) Refusal → FactList → Type 0
Told nodes at refusal known (Ok done) facts = (refusal ≡ None) × (known ≡ Some (claims_in nodes facts.list))
Told nodes at refusal known (Err found) facts = or_else refusal (limit_behind at known) ≡ Some found

-- And of a statement by its tree, which stands in the package.
abbrev pub Leaves : TypedNodes → List Claim → Simple → Result (Unit {0}) Refusal → FactList → Type 0
Leaves nodes fs simple answer facts = (a : Around) → a.context.within ≡ package_of nodes → (site : Site) → Does nodes (single_refusal a fs site simple) (known_behind fs simple) answer facts

-- A list that a statement makes: it keeps to the limit, or it would have another fact than those that stand.
abbrev pub Makes : TypedNodes → List Claim → Result (Unit {0}) Full → FactList → Type 0
Makes nodes fs (Ok done) known = claims_in nodes known.list ≡ fs
Makes nodes fs (Err full) known = 512 < length fs

-- A thing that may be dropped, if there is one.
abbrev pub MayBeDropped : Option Thing → Type 0
MayBeDropped None = Unit {0}
MayBeDropped (Some x) = IsNamedInSets x
