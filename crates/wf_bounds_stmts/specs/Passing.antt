-- A statement without blocks by its number: its tree, what stands round it, and what is answered where it is passed.
use Rattle.std.specs.Prelude.{◌≡◌, ℕ, Bool, true, false, List, map, Option, None, Some, Result, Ok, Err, All, nat_le, length, option_map, unwrap_or, slice_get}
use Rattle.wf_text.specs.declared.place.Place.{Place}
use Rattle.wf_text.specs.declared.numbers.MethodId.{MethodId}
use Rattle.wf_text.specs.declared.rules.Refusal.{Refusal}
use Rattle.wf_base.specs.BaseTable.{row_of}
use Rattle.wf_ast.specs.declared.numbers.StmtId.{StmtId}
use Rattle.wf_ast.specs.declared.declarations.Method.{Method}
use Rattle.wf_ast.specs.declared.typed_code.Callee.{Callee}
use Rattle.wf_ast.specs.declared.typed_code.Callee.TheVariants as callees
use Rattle.wf_ast.specs.declared.typed_code.Stmt.{Stmt}
use Rattle.wf_ast.specs.declared.typed_code.Stmt.TheVariants as stmts
use Rattle.wf_ast.specs.declared.typed_nodes.TypedNodes.{TypedNodes}
use Rattle.wf_ast.specs.TypedTree.{Simple, assign, break_from, continue_in, give_back, yield, claim, Site, Head}
use Rattle.wf_ast.specs.TypedTrees.{no_place, no_statement, cond_in, target_of, optional_target, assigned_by, call_made, axiom_made, tree_of, type_of_node}
use Rattle.wf_ast.specs.TypedInvariant.{has_kind}
use Rattle.wf_ast.specs.TypedPackage.{package_of}
use Rattle.wf_ast.specs.WellTyped.{Context, well_simple}
use Rattle.wf_facts_exprs.specs.Claims.{claims_in}
use Rattle.wf_facts_exprs.specs.Demands.{or_else}
use Rattle.wf_facts.specs.IndexedFacts.{FactList}
use Rattle.wf_loops.specs.LoopNodes.{is_loop, head_at}
use Rattle.wf_bounds_stmts.specs.FactRules.{Known, Around, limit_behind}

-- The tree of a statement that has no blocks. `inner` is the second place that rules name in it.
abbrev pub simple_of : TypedNodes → (inner : Place) → Stmt → Simple
simple_of nodes inner (stmts.Assign target op value) = assign (target_of (tree_of nodes target)) (assigned_by op) (tree_of nodes value)
simple_of nodes inner (stmts.Call target keep callee args) =
    call_made nodes (tree_of nodes) inner (optional_target (tree_of nodes) target) keep callee (map (tree_of nodes) args)
simple_of nodes inner (stmts.If arms otherwise) = no_statement
simple_of nodes inner (stmts.While head body) = no_statement
simple_of nodes inner (stmts.Break w) = break_from w.0
simple_of nodes inner (stmts.Continue w) = continue_in w.0
simple_of nodes inner (stmts.Return value) = give_back (option_map (tree_of nodes) value)
simple_of nodes inner (stmts.Yield s) = yield s.0
simple_of nodes inner (stmts.Assert goal ax) = claim (cond_in (tree_of nodes goal)) (axiom_made nodes (tree_of nodes) ax)

abbrev pub has_no_block : Stmt → Bool
has_no_block (stmts.If arms otherwise) = false
has_no_block (stmts.While head body) = false
has_no_block stmt = true

-- The same by the statement's number.
unfoldable pub is_single : TypedNodes → StmtId → Bool
is_single nodes s = unwrap_or (option_map (λ node. has_no_block node.stmt) (slice_get nodes.stmts s.0)) false

unfoldable pub simple_at : TypedNodes → StmtId → Simple
simple_at nodes s = unwrap_or (option_map (λ node. simple_of nodes node.inner node.stmt) (slice_get nodes.stmts s.0)) no_statement

unfoldable pub site_at : TypedNodes → StmtId → Site
site_at nodes s = record { number = s.0; at = unwrap_or (option_map (λ node. node.at) (slice_get nodes.stmts s.0)) no_place }

-- The loops are loops of the package, by their numbers and heads.
pub record IsLoopOf (nodes : TypedNodes) (l : ℕ × Head) : Type 0 where
  pub is : is_loop nodes (record { 0 = l.0 }) ≡ true
  pub head : l.1 ≡ head_at nodes (record { 0 = l.0 })

abbrev pub AreLoopsOf : TypedNodes → List (ℕ × Head) → Type 0
AreLoopsOf nodes loops = All (IsLoopOf nodes) loops

-- The statement has no blocks, stands in the method with these loops round it, and keeps the rules of types there.
pub record StandsIn (nodes : TypedNodes) (m : MethodId) (a : Around) (s : StmtId) : Type 0 where
  pub within : a.context.within ≡ package_of nodes
  pub method : slice_get (package_of nodes).methods m.0 ≡ Some a.context.method
  pub loops : AreLoopsOf nodes a.loops
  pub alone : is_single nodes s ≡ true
  pub well : well_simple a.context (map (λ l. l.0) a.loops) (simple_at nodes s) ≡ true

-- It has something of that kind round it.
abbrev pub IsPlaced : TypedNodes → MethodId → StmtId → Type 0
IsPlaced nodes m s = (a : Around) × StandsIn nodes m a s

-- A tree that keeps the rules of types in some method of the package.
pub record KeepsTypes (nodes : TypedNodes) (simple : Simple) : Type 0 where
  pub context : Context
  pub loops : List ℕ
  pub within : context.within ≡ package_of nodes
  pub well : well_simple context loops simple ≡ true

-- The method takes so many arguments.
abbrev pub TakesArgs : TypedNodes → MethodId → (count : ℕ) → Type 0
TakesArgs nodes m n = (method : Method) → slice_get nodes.methods m.0 ≡ Some method → n ≡ length method.args

-- A method has at most 256 locals.
unfoldable pub has_few_locals : TypedNodes → MethodId → Bool
has_few_locals nodes m = unwrap_or (option_map (λ method. nat_le (length method.locals) 256) (slice_get nodes.methods m.0)) false

-- What a base method is called on is of the kind that it wants.
abbrev pub fits_callee : TypedNodes → Callee → Bool
fits_callee nodes (callees.Own m) = true
fits_callee nodes (callees.Sub x m) = true
fits_callee nodes (callees.Base on sig) = has_kind (row_of sig).on (type_of_node nodes on.0)

abbrev pub receiver_fits : TypedNodes → Stmt → Bool
receiver_fits nodes (stmts.Call target keep callee args) = fits_callee nodes callee
receiver_fits nodes stmt = true

unfoldable pub fits_receiver : TypedNodes → StmtId → Bool
fits_receiver nodes s = unwrap_or (option_map (λ node. receiver_fits nodes node.stmt) (slice_get nodes.stmts s.0)) false

-- What a statement requires and what is known after it, where it goes on: either the first requirement that isn't met, the
-- list's limit being the last, or whether it goes on, and then with this list. `at` is its first token.
abbrev pub Passes : TypedNodes → (at : Place) → Option Refusal → Known → Result Bool Refusal → FactList → Type 0
Passes nodes at refusal known (Ok true) facts = (refusal ≡ None) × (limit_behind at known ≡ None) × (known ≡ Some (claims_in nodes facts.list))
Passes nodes at refusal known (Ok false) facts = (refusal ≡ None) × (known ≡ None)
Passes nodes at refusal known (Err found) facts = or_else refusal (limit_behind at known) ≡ Some found
