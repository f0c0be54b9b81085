-- What is answered of walks, and on the way.
use Rattle.std.specs.Prelude.{◌≡◌, Bool, true, false, ◌&&◌, List, [], ◌∷◌, Option, None, Some, Result, Ok, Err, nat_le, length, option_map}
use Rattle.wf_text.specs.declared.place.Place.{Place}
use Rattle.wf_text.specs.declared.rules.Refusal.{Refusal}
use Rattle.wf_text.specs.declared.faults.PhaseFault.{PhaseFault}
use Rattle.wf_text.specs.declared.faults.PhaseFault.TheVariants.{Refused, Memory}
use Rattle.wf_ast.specs.declared.typed_code.Arm.{Arm}
use Rattle.wf_ast.specs.declared.typed_nodes.TypedNodes.{TypedNodes}
use Rattle.wf_ast.specs.TypedTree.{CondTree, Head}
use Rattle.wf_ast.specs.NodeKinds.{node_cond}
use Rattle.wf_facts_exprs.specs.Claims.{Claim, claims_in}
use Rattle.wf_facts_exprs.specs.Demands.{or_else, cond_refusal}
use Rattle.wf_facts.specs.FactLists.{with_condition}
use Rattle.wf_facts.specs.IndexedFacts.{FactList, IsOver}
use Rattle.wf_loops.specs.LoopRules.{front_refusal, exit_refusal, head_list, body_list, limit}
use Rattle.wf_bounds_stmts.specs.FactRules.{Known}
use Rattle.wf_bounds.specs.declared.ways.Way.{Way}
use Rattle.wf_bounds.specs.declared.ways.Way.TheVariants.{GoesOn, Stops, Found}
use Rattle.wf_bounds.specs.Walks.{Reached, found, passed, joined}

-- What is answered of a walk: where it is found or passed the list is the one that is known, and a refusal is the first.
abbrev pub Comes : TypedNodes → Result (Reached Known) Refusal → Result Way PhaseFault → FactList → Type 0
Comes nodes walked (Ok GoesOn) known = walked ≡ Ok (passed (Some (claims_in nodes known.list)))
Comes nodes walked (Ok Stops) known = walked ≡ Ok (passed None)
Comes nodes walked (Ok Found) known = walked ≡ Ok (found (claims_in nodes known.list))
Comes nodes walked (Err (Refused refusal)) known = walked ≡ Err refusal
Comes nodes walked (Err Memory) known = Unit {0}

-- A block is passed, and then meets those before it, where `met` is known.
pub record Meets (walked : Result (Reached Known) Refusal) (met next : Known) : Type 0 where
  pub known : Known
  pub comes : walked ≡ Ok (passed known)
  pub meets : next ≡ joined met known

-- A list that there may be.
abbrev pub known_of : TypedNodes → Option FactList → Known
known_of nodes known = option_map (λ facts. claims_in nodes facts.list) known

abbrev pub MayBeOver : TypedNodes → Option FactList → Type 0
MayBeOver nodes None = Unit {0}
MayBeOver nodes (Some facts) = IsOver nodes facts

-- The lists before the blocks of an `if` keep to the limit, and so do those before its conditions.
abbrev pub keeps_limit : List Claim → Bool
keeps_limit fs = nat_le (length fs) 512

abbrev pub arms_fit : TypedNodes → List Claim → List Arm → Bool
arms_fit nodes fs [] = true
arms_fit nodes fs (arm ∷ arms) =
    keeps_limit (with_condition fs (node_cond nodes arm.cond) true)
    && (keeps_limit (with_condition fs (node_cond nodes arm.cond) false) && arms_fit nodes (with_condition fs (node_cond nodes arm.cond) false) arms)

-- What is answered where a condition of an `if` is checked: whether the list before its block keeps to the limit, with the list
-- where it has failed, or the first refusal.
abbrev pub ChecksArm : TypedNodes → (at : Place) → List Claim → CondTree → Result Bool PhaseFault → FactList → Type 0
ChecksArm nodes at fs c (Ok fits) known =
    (cond_refusal fs c ≡ None) × (limit at (with_condition fs c false) ≡ None) × (fits ≡ keeps_limit (with_condition fs c true)) × (claims_in nodes known.list ≡ with_condition fs c false)
ChecksArm nodes at fs c (Err (Refused refusal)) known = or_else (cond_refusal fs c) (limit at (with_condition fs c false)) ≡ Some refusal
ChecksArm nodes at fs c (Err Memory) known = Unit {0}

-- What becomes of what is known where the blocks of an `if` meet, and of the facts that go along, where an arm's block has been
-- walked through, with the list `front` at its end.
abbrev pub MeetsArm : TypedNodes → Result Way PhaseFault → (front : FactList) → (met meets : Known) → (before after : FactList) → Type 0
MeetsArm nodes (Ok GoesOn) front met meets before after = (meets ≡ joined met (Some (claims_in nodes front.list))) × (after ≡ before)
MeetsArm nodes (Ok Stops) front met meets before after = (meets ≡ met) × (after ≡ before)
MeetsArm nodes (Ok Found) front met meets before after = after ≡ front
MeetsArm nodes (Err fault) front met meets before after = Unit {0}

-- What is answered where an arm of an `if` has been walked through: `walked` is what its block comes to, and `fails` the list
-- where its condition has failed.
abbrev pub PassesArm : TypedNodes → (walked : Result (Reached Known) Refusal) → (fails : List Claim) → Result Way PhaseFault → (met meets : Known) → FactList → Type 0
PassesArm nodes walked fails (Ok GoesOn) met meets facts = Meets walked met meets × (claims_in nodes facts.list ≡ fails)
PassesArm nodes walked fails (Ok Stops) met meets facts = Meets walked met meets × (claims_in nodes facts.list ≡ fails)
PassesArm nodes walked fails (Ok Found) met meets facts = walked ≡ Ok (found (claims_in nodes facts.list))
PassesArm nodes walked fails (Err (Refused refusal)) met meets facts = walked ≡ Err refusal
PassesArm nodes walked fails (Err Memory) met meets facts = Unit {0}

-- What is answered where a loop is entered: the list before its body, or the first refusal. `fs` are known before the loop.
abbrev pub Enters : TypedNodes → List Claim → (at : Place) → Head → Result FactList PhaseFault → Type 0
Enters nodes fs at head (Ok inside) = (front_refusal fs at head ≡ None) × (claims_in nodes inside.list ≡ body_list (head_list head) head) × IsOver nodes inside
Enters nodes fs at head (Err (Refused refusal)) = front_refusal fs at head ≡ Some refusal
Enters nodes fs at head (Err Memory) = Unit {0}

-- The same of the test of its condition, `fs` being the list at its head.
abbrev pub tested_refusal : List Claim → (at : Place) → Head → Option Refusal
tested_refusal fs at head = or_else (cond_refusal fs head.cond) (or_else (exit_refusal fs at head) (limit at (body_list fs head)))

abbrev pub Tests : TypedNodes → List Claim → (at : Place) → Head → Result (Unit {0}) PhaseFault → FactList → Type 0
Tests nodes fs at head (Ok done) known = (tested_refusal fs at head ≡ None) × (claims_in nodes known.list ≡ body_list fs head)
Tests nodes fs at head (Err (Refused refusal)) known = tested_refusal fs at head ≡ Some refusal
Tests nodes fs at head (Err Memory) known = Unit {0}
