-- The loops of a package by the numbers of their statements, and what is answered where facts come into a list.
use Rattle.std.specs.Prelude.{◌≡◌, Bool, false, ◌&&◌, List, [], map, Option, None, Some, Result, Ok, Err, option_map, unwrap_or, slice_get}
use Rattle.std.specs.List.{list_all}
use Rattle.wf_text.specs.declared.place.Place.{Place}
use Rattle.wf_text.specs.declared.faults.PhaseFault.{PhaseFault}
use Rattle.wf_text.specs.declared.faults.PhaseFault.TheVariants as faults
use Rattle.wf_text.specs.declared.rules.Refusal.{Refusal}
use Rattle.wf_ast.specs.declared.parsed.Clause.{Clause}
use Rattle.wf_ast.specs.declared.numbers.ExprId.{ExprId}
use Rattle.wf_ast.specs.declared.numbers.StmtId.{StmtId}
use Rattle.wf_ast.specs.declared.typed_code.Stmt.{Stmt}
use Rattle.wf_ast.specs.declared.typed_code.Stmt.TheVariants as stmts
use Rattle.wf_ast.specs.declared.typed_nodes.TypedNodes.{TypedNodes}
use Rattle.wf_ast.specs.TypedTree.{CondTree, Head, lost}
use Rattle.wf_ast.specs.TypedTrees.{no_place, cond_in, head_made, tree_of}
use Rattle.wf_ast.specs.NodeKinds.{is_condition_at, node_cond}
use Rattle.wf_facts_exprs.specs.Claims.{Claim, claims_in}
use Rattle.wf_facts.specs.IndexedFacts.{FactList, IsOver}
use Rattle.wf_loops.specs.LoopRules.{limit}

-- A loop's condition and its promises are conditions of the package.
abbrev pub are_conditions : TypedNodes → List (Clause × ExprId) → Bool
are_conditions nodes clauses = list_all (λ c. is_condition_at nodes c.1) clauses

abbrev pub is_loop_stmt : TypedNodes → Stmt → Bool
is_loop_stmt nodes (stmts.While head body) = is_condition_at nodes head.cond && are_conditions nodes head.clauses
is_loop_stmt nodes stmt = false

-- The statement with this number is a loop.
unfoldable pub is_loop : TypedNodes → StmtId → Bool
is_loop nodes w = unwrap_or (option_map (λ node. is_loop_stmt nodes node.stmt) (slice_get nodes.stmts w.0)) false

-- The head of that loop; what stands for that of no loop.
abbrev pub no_head : Head
no_head = record { cond = cond_in lost; clauses = []; is_left = false; close = no_place }

abbrev pub head_of_stmt : TypedNodes → Place → Stmt → Head
head_of_stmt nodes close (stmts.While head body) = head_made (tree_of nodes) close head
head_of_stmt nodes close stmt = no_head

unfoldable pub head_at : TypedNodes → StmtId → Head
head_at nodes w = unwrap_or (option_map (λ node. head_of_stmt nodes node.inner node.stmt) (slice_get nodes.stmts w.0)) no_head

-- The place of its `while`.
unfoldable pub place_at : TypedNodes → StmtId → Place
place_at nodes w = unwrap_or (option_map (λ node. node.at) (slice_get nodes.stmts w.0)) no_place

-- Promises as trees.
abbrev pub promises_in : TypedNodes → List (Clause × ExprId) → List (Clause × CondTree)
promises_in nodes clauses = map (λ c. (c.0, node_cond nodes c.1)) clauses

-- An answer by a phase: a refusal, or want of memory, which may come at any time.
abbrev pub Decides : {X : Type 0} → Option Refusal → Result X PhaseFault → Type 0
Decides refusal (Ok x) = refusal ≡ None
Decides refusal (Err (faults.Refused found)) = refusal ≡ Some found
Decides refusal (Err faults.Memory) = Unit {0}

-- The list of facts that is answered, where it keeps the limit.
abbrev pub Makes : TypedNodes → Place → List Claim → Result FactList PhaseFault → Type 0
Makes nodes at fs (Ok facts) = (limit at fs ≡ None) × (claims_in nodes facts.list ≡ fs) × IsOver nodes facts
Makes nodes at fs (Err (faults.Refused found)) = limit at fs ≡ Some found
Makes nodes at fs (Err faults.Memory) = Unit {0}
