-- The bodies of a package's methods among its nodes.
use Rattle.std.specs.Prelude.{◌≡◌, ◌+◌, ℕ, ⊤, Bool, true, ◌&&◌, List, [], ◌∷◌, length, slice_get, Some, nat_lt}
use Rattle.wf_ast.specs.declared.numbers.ExprId.{ExprId}
use Rattle.wf_ast.specs.declared.typed_code.Block as typed_code
use Rattle.wf_ast.specs.declared.typed_nodes.TypedNodes.{TypedNodes}
use Rattle.wf_ast.specs.TypedTrees.{block_of}
use Rattle.wf_ast.specs.TypedInvariant.{block_below}
use Rattle.wf_named.specs.NamedParts.{NamedParts, named_package}
use Rattle.wf_named.specs.NamedTree.{NamedMethodTree, NamedPackageTree}
use Rattle.wf_types_rules.specs.DeclaredTypes.{in_method}
use Rattle.wf_typed_tree.specs.ElaboratedStmts.{count_block, block_tree}
use Rattle.wf_typed_tree.specs.ElaboratedPackage.{count_methods}
use Rattle.wf_typed_tree.specs.Entries as known
use Rattle.wf_typed_tree.specs.Entries.{methods_entries}
use Rattle.wf_typed_exprs.specs.Growth.{IsBuilt}
use Rattle.wf_typed_stmts.specs.Right.{known_in, IsRightBlock}
use Rattle.wf_typed_stmts.specs.StmtGrowth.{without_nodes, jumps_below, AreStmtsBuilt, IsBegun}
use Rattle.wf_types.specs.DeclaredNodes.{declared_nodes, without_name_and_orders}
use Rattle.wf_types.specs.Locals.{MethodsHaveNodes}

-- What is declared there.
abbrev pub without_bodies : TypedNodes → TypedNodes
without_bodies nodes = record nodes { exprs = []; types = []; constants = []; stmts = []; bodies = []; first_locals = [] }

-- The body of a method, `n` being the number of the first statement in it.
pub record IsBody (p : NamedPackageTree) (nodes : TypedNodes) (n : ℕ) (m : NamedMethodTree) (body : typed_code.Block) : Type 0 where
  pub below : block_below (length nodes.stmts) body ≡ true
  pub makes : block_of nodes body ≡ block_tree (in_method p m) [] n m.body

-- One for each method, in order.
abbrev pub AreBodies : NamedPackageTree → TypedNodes → (n : ℕ) → List NamedMethodTree → List typed_code.Block → Type 0
AreBodies p nodes n [] [] = ⊤
AreBodies p nodes n (m ∷ ms) (body ∷ bodies) = IsBody p nodes n m body × AreBodies p nodes (n + count_block m.body) ms bodies
AreBodies p nodes n ms bodies = ⊥

-- What is made while the bodies of methods are added one by one: `done` are the methods that have theirs.
pub record BodiesMade (q : NamedParts) (done : List NamedMethodTree) (nodes : TypedNodes) (made : List typed_code.Block) : Type 0 where
  pub declared : without_nodes nodes ≡ without_name_and_orders (declared_nodes q)
  pub begun : IsBegun q nodes
  pub jumps : jumps_below (length nodes.stmts) nodes.stmts ≡ true
  pub count : length nodes.stmts ≡ count_methods done
  pub bodies : AreBodies (named_package q) nodes 0 done made
  pub entries : known.entries nodes ≡ methods_entries (named_package q) done

-- Nodes with these bodies and these first locals, to which the name and the orders of the resolved package are handed on.
abbrev pub finished : NamedParts → TypedNodes → List typed_code.Block → List ExprId → TypedNodes
finished q nodes bodies first_locals = record nodes { «package» = q.package_name; bodies = bodies; first_locals = first_locals; order = q.order; struct_order = q.struct_order }

-- The nodes of a package with all its bodies. Each jump tells a statement, and each local has its expression.
pub record IsWhole (q : NamedParts) (nodes : TypedNodes) : Type 0 where
  pub declared : without_bodies nodes ≡ declared_nodes q
  pub bodies : AreBodies (named_package q) nodes 0 (named_package q).methods nodes.bodies
  pub entries : known.entries nodes ≡ methods_entries (named_package q) (named_package q).methods
  pub exprs : IsBuilt nodes
  pub stmts : AreStmtsBuilt nodes
  pub jumps : jumps_below (length nodes.stmts) nodes.stmts ≡ true
  pub count : length nodes.stmts ≡ count_methods (named_package q).methods
  pub locals : MethodsHaveNodes (named_package q) nodes nodes.first_locals (named_package q).methods

-- The bodies of all methods break no rule.
abbrev pub AreRightBodies : NamedPackageTree → Type 0
AreRightBodies p = (i : ℕ) (m : NamedMethodTree) → slice_get p.methods i ≡ Some m → IsRightBlock (in_method p m) (known_in p) 0 m.body

-- Each status, each struct and each method has a number.
abbrev pub has_numbers : TypedNodes → Bool
has_numbers nodes = nat_lt (length nodes.statuses) 4294967296 && (nat_lt (length nodes.structs) 4294967296 && nat_lt (length nodes.methods) 4294967296)
