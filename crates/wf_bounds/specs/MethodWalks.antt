-- Walks through methods: the facts with which a method begins, what is refused in it, and what is known before a statement.
use Rattle.std.specs.Prelude.{◌≡◌, ◌<◌, ℕ, Bool, List, [], ◌∷◌, Option, Some, Result, nat_le, length, take, drop, slice_get}
use Rattle.wf_text.specs.declared.rules.Refusal.{Refusal}
use Rattle.wf_ast.specs.declared.declarations.Var.{Var}
use Rattle.wf_ast.specs.declared.declarations.Method.{Method}
use Rattle.wf_ast.specs.declared.numbers.ExprId.{ExprId}
use Rattle.wf_ast.specs.declared.numbers.StmtId.{StmtId}
use Rattle.wf_ast.specs.declared.typed_nodes.TypedNodes.{TypedNodes}
use Rattle.wf_ast.specs.TypedPackage.{package_of}
use Rattle.wf_ast.specs.TypedInvariant.{IsTyped, IsLocal}
use Rattle.wf_facts_exprs.specs.Claims.{Claim}
use Rattle.wf_bounds_stmts.specs.Statements.{body_of}
use Rattle.wf_bounds_stmts.specs.FactRules.{Known}
use Rattle.wf_bounds_stmts.specs.MethodRules.{zero_facts, around_body, through_method, refusal_in, methods_refusal, front_in_method, front_in_methods, local_at}
use Rattle.wf_bounds.specs.Walks.{Reached, walked_body}
use Rattle.wf_bounds.specs.WalkNodes.{method_at}

-- What a walk through a method of a package rests on.
pub record IsReady (nodes : TypedNodes) (m : ℕ) : Type 0 where
  pub typed : IsTyped nodes
  pub known : m < length nodes.methods

-- The facts with which a method begins, as far as they are those of its first `n` locals.
unfoldable pub zeros_before : TypedNodes → (m n : ℕ) → List Claim
zeros_before nodes m n = zero_facts (local_at nodes m) 0 (take n (method_at nodes m).locals)

unfoldable pub start_facts : TypedNodes → (m : ℕ) → List Claim
start_facts nodes m = zero_facts (local_at nodes m) 0 (method_at nodes m).locals

-- What a walk comes to in a method, and what the rules of facts refuse in it.
unfoldable pub walked_method : TypedNodes → (m : ℕ) → (sought : Option StmtId) → Result (Reached Known) Refusal
walked_method nodes m sought = walked_body (around_body (package_of nodes) (method_at nodes m)) sought (start_facts nodes m) (body_of (method_at nodes m).body)

unfoldable pub method_refusal : TypedNodes → (m : ℕ) → Option Refusal
method_refusal nodes m = refusal_in (through_method (local_at nodes m) (package_of nodes) (method_at nodes m))

-- What is known before a statement, as far as it stands in a method.
unfoldable pub method_front : TypedNodes → (m : ℕ) → StmtId → Known
method_front nodes m s = front_in_method (local_at nodes m) (package_of nodes) (method_at nodes m) s.0

-- The same of all methods from one on.
unfoldable pub refusal_from : TypedNodes → (m : ℕ) → Option Refusal
refusal_from nodes m = methods_refusal (local_at nodes) (package_of nodes) m (drop m (package_of nodes).methods)

unfoldable pub front_from : TypedNodes → (m : ℕ) → StmtId → Known
front_from nodes m s = front_in_methods (local_at nodes) (package_of nodes) m (drop m (package_of nodes).methods) s.0

-- Whether the last statement of a block has this number or one above it: only then the statement with it may stand in the block.
abbrev pub last_reaches : (s : ℕ) → (so_far : Bool) → List StmtId → Bool
last_reaches s so_far [] = so_far
last_reaches s so_far (i ∷ ss) = last_reaches s (nat_le s i.0) ss

-- The expression of a local.
pub record LocalFound (nodes : TypedNodes) (m x : ℕ) (e : ExprId) : Type 0 where
  pub method : Method
  pub local : Var
  pub known : slice_get nodes.methods m ≡ Some method
  pub stands : slice_get method.locals x ≡ Some local
  pub is : IsLocal nodes e.0 x local
