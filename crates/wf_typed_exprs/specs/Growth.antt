-- How the nodes of a typed package grow while expressions are added.
use Rattle.std.specs.Prelude.{◌≡◌, ◌<◌, ◌≤◌, ◌^◌, ℕ, true, List, [], ◌∷◌, ◌++◌, length, slice_get}
use Rattle.wf_ast.specs.declared.typed_nodes.TypedNodes.{TypedNodes}
use Rattle.wf_ast.specs.TypedTrees.{expr_trees, type_of_node, constant_of_node}
use Rattle.wf_ast.specs.TypedInvariant.{parts_below, each_numbered, node_fits}
use Rattle.wf_typed_tree.specs.Entries.{Entry, entries}
use Rattle.wf_typed_exprs.specs.declared.columns.Columns.{Columns}
use Rattle.wf_typed_exprs.specs.declared.typed_exprs.TypedExpr.{TypedExpr}

-- A package with these expressions.
abbrev pub with_columns : TypedNodes → Columns → TypedNodes
with_columns nodes columns = record nodes { exprs = columns.exprs.items; types = columns.types.items; constants = columns.constants.items }

-- The lists of expressions with one more.
pub record IsPushed (old new : Columns) (x : TypedExpr) : Type 0 where
  pub exprs : new.exprs.items ≡ old.exprs.items ++ x.node ∷ []
  pub types : new.types.items ≡ old.types.items ++ x.ty ∷ []
  pub constants : new.constants.items ≡ old.constants.items ++ x.constant ∷ []

-- One with no expression.
abbrev pub without_exprs : TypedNodes → TypedNodes
without_exprs nodes = record nodes { exprs = []; types = []; constants = [] }

-- What holds at any time while a package is built: the parts of an expression stand before it, and it and its parts
-- have the kinds of their types. So many expressions have a number.
pub record IsBuilt (nodes : TypedNodes) : Type 0 where
  pub ordered : each_numbered (λ e node. parts_below e node.expr) 0 nodes.exprs ≡ true
  pub kinds : each_numbered (λ e node. node_fits nodes (type_of_node nodes e) (constant_of_node nodes e) node.expr) 0 nodes.exprs ≡ true
  pub typed : length nodes.types ≡ length nodes.exprs
  pub counted : length nodes.constants ≡ length nodes.exprs
  pub few : length nodes.exprs < 2 ^ 32

-- The first items of a list are those of the other, by place.
abbrev pub Keeps : {X : Type 0} → (count : ℕ) → (old new : List X) → Type 0
Keeps count old new = (i : ℕ) → i < count → slice_get old i ≡ slice_get new i

-- Expressions may be added: those that were there keep their numbers, their trees and their types. All else stays.
pub record Grows (old new : TypedNodes) : Type 0 where
  pub exprs : length old.exprs ≤ length new.exprs
  pub same_trees : Keeps (length old.exprs) (expr_trees old) (expr_trees new)
  pub same_types : Keeps (length old.exprs) old.types new.types
  pub same_constants : Keeps (length old.exprs) old.constants new.constants
  pub rest : without_exprs new ≡ without_exprs old

-- These expressions are added, in this order.
pub record AddsEntries (old new : TypedNodes) (es : List Entry) : Type 0 where
  pub is : entries new ≡ entries old ++ es

-- What is known of an expression that is added.
abbrev pub entry_made : TypedExpr → Entry
entry_made x = record { at = x.node.at; ty = x.ty; constant = x.constant }
