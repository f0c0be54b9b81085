-- Where the points of statements stand, as the nodes of a package have them.
use Rattle.std.specs.Prelude.{◌≡◌, ℕ, ◌+◌, Bool, false, List, [], ◌∷◌, ◌++◌, Option, None, Some, length, map, slice_get, option_map, unwrap_or, nat_eq, if◌then◌else◌}
use Rattle.wf_text.specs.declared.place.Place.{Place}
use Rattle.wf_text.specs.declared.rules.Refusal.{Refusal}
use Rattle.wf_text.specs.declared.rules.Rule.TheVariants.{L9}
use Rattle.wf_text.specs.Precedence.{soonest}
use Rattle.wf_base.specs.declared.base_methods.BaseSig.{BaseSig}
use Rattle.wf_base.specs.declared.base_methods.BaseSig.TheVariants as sigs
use Rattle.wf_ast.specs.declared.numbers.StmtId.{StmtId}
use Rattle.wf_ast.specs.declared.typed_code.Callee.{Callee}
use Rattle.wf_ast.specs.declared.typed_code.Callee.TheVariants as callees
use Rattle.wf_ast.specs.declared.typed_code.Arm.{Arm}
use Rattle.wf_ast.specs.declared.typed_code.Stmt.{Stmt}
use Rattle.wf_ast.specs.declared.typed_code.Stmt.TheVariants as stmts
use Rattle.wf_ast.specs.declared.typed_code.Block as typed_code
use Rattle.wf_ast.specs.declared.typed_nodes.TypedNodes.{TypedNodes}
use Rattle.wf_ast.specs.TypedTree.{Site, end}
use Rattle.wf_ast.specs.TypedTrees.{no_place, mark_of, onto, stmt_makers}
use Rattle.wf_ast.specs.TypedPackage.{MethodTree}
use Rattle.wf_meaning.specs.Remaining.{hands_on, points_in}
use Rattle.wf_points.specs.declared.finding.FoundPoint.{FoundPoint}
use Rattle.wf_points.specs.PointNumbers.{most_points, number_at, earlier, number_in, point_number}

-- A point as it is found.
abbrev pub found_at : Site → FoundPoint
found_at site = record { statement = record { 0 = site.number }; at = site.at }

-- The place of the statement with this number.
abbrev pub place_of_stmt : TypedNodes → ℕ → Place
place_of_stmt nodes s = unwrap_or (option_map (λ node. node.at) (slice_get nodes.stmts s)) no_place

-- The points of a statement, those inside it too.
unfoldable pub points_at : TypedNodes → StmtId → List Site
points_at nodes s = points_in (onto (stmt_makers nodes) s end)

-- The points of statements in order, where `look` gives those of each.
abbrev pub points_listed : (StmtId → List Site) → List StmtId → List Site
points_listed look [] = []
points_listed look (s ∷ ss) = look s ++ points_listed look ss

abbrev pub points_of_arms : (StmtId → List Site) → List Arm → List Site
points_of_arms look [] = []
points_of_arms look (arm ∷ arms) = points_listed look arm.body.items ++ points_of_arms look arms

abbrev pub points_of_else : (StmtId → List Site) → Option typed_code.Block → List Site
points_of_else look None = []
points_of_else look (Some block) = points_listed look block.items

-- The points in an `if`; one without an arm stands for no statement.
abbrev pub points_of_if : (StmtId → List Site) → List Arm → Option typed_code.Block → List Site
points_of_if look [] other = []
points_of_if look (arm ∷ arms) other = points_of_arms look (arm ∷ arms) ++ points_of_else look other

-- A base method that may suspend, with as many arguments as it takes.
abbrev pub base_suspends : BaseSig → (args : ℕ) → Bool
base_suspends (sigs.Read form) n = nat_eq n 0
base_suspends sigs.Skip n = nat_eq n 1
base_suspends sigs.Write n = nat_eq n 1
base_suspends sig n = false

-- A call with which its method may suspend.
abbrev pub call_suspends : TypedNodes → (keep : Bool) → Callee → (args : ℕ) → Bool
call_suspends nodes keep (callees.Own m) n = hands_on keep (mark_of nodes m.0)
call_suspends nodes keep (callees.Sub x m) n = hands_on keep (mark_of nodes m.0)
call_suspends nodes keep (callees.Base on sig) n = base_suspends sig n

-- The points of a statement by its node, where `look` gives those of the statements inside it.
abbrev pub points_of : TypedNodes → (StmtId → List Site) → Site → Stmt → List Site
points_of nodes look site (stmts.Assign target op value) = []
points_of nodes look site (stmts.Call target keep callee args) = if call_suspends nodes keep callee (length args) then site ∷ [] else []
points_of nodes look site (stmts.If arms otherwise) = points_of_if look arms otherwise
points_of nodes look site (stmts.While head body) = points_listed look body.items
points_of nodes look site (stmts.Break w) = []
points_of nodes look site (stmts.Continue w) = []
points_of nodes look site (stmts.Return value) = []
points_of nodes look site (stmts.Yield s) = site ∷ []
points_of nodes look site (stmts.Assert goal axiom_ref) = []

-- The refusal at the point after the last one that a method may have.
abbrev pub refused_at : Site → Refusal
refused_at site = record { rule = L9; at = site.at }

abbrev pub too_many : MethodTree → Option Refusal
too_many m = option_map refused_at (slice_get (points_in m.body) most_points)

-- The refusal of points that were found, where they are too many.
abbrev pub limit_at : FoundPoint → Refusal
limit_at point = record { rule = L9; at = point.at }

abbrev pub limit_of : List FoundPoint → Option Refusal
limit_of points = option_map limit_at (slice_get points most_points)

-- What is found of the points of a method: the refusal, if it has too many, and else their numbers in the table.
pub record NumbersMethod (old new : List (Option ℕ)) (refusal : Option Refusal) (method : MethodTree) : Type 0 where
  pub refused : refusal ≡ too_many method
  pub numbers : refusal ≡ None → (s : ℕ) → number_at new s ≡ earlier (number_at old s) (number_in method.body s)

-- The same of several methods.
pub record NumbersMethods (old new : List (Option ℕ)) (refusal : Option Refusal) (methods : List MethodTree) : Type 0 where
  pub refused : refusal ≡ soonest None (map too_many methods)
  pub numbers : refusal ≡ None → (s : ℕ) → number_at new s ≡ earlier (number_at old s) (point_number methods s)

-- The number of a statement among points that were found, `n` being the number of the first.
abbrev pub numbered_from : (n : ℕ) → List FoundPoint → (s : ℕ) → Option ℕ
numbered_from n [] s = None
numbered_from n (point ∷ points) s = if nat_eq point.statement.0 s then Some n else numbered_from (n + 1) points s

-- The number `n` for the statement `s`, and none for any other.
abbrev pub only_at : (s n : ℕ) → (k : ℕ) → Option ℕ
only_at s n k = if nat_eq s k then Some n else None
