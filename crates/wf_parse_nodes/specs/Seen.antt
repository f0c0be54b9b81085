-- What the parser's values mean as trees, by the nodes of the package that they name.
use Rattle.std.specs.Prelude.{◌<◌, ℕ, ⊤, Option, None, Some, List, [], ◌∷◌, ◌++◌, length, map}
use Rattle.std.specs.List.{AllByRecursion}
use Rattle.wf_ast.specs.declared.parsed.Arm.{Arm}
use Rattle.wf_ast.specs.declared.parsed.Block.{Block}
use Rattle.wf_ast.specs.declared.parsed.Field.{Field}
use Rattle.wf_ast.specs.declared.parsed.Given.{Given}
use Rattle.wf_ast.specs.declared.parsed.Link.{Link}
use Rattle.wf_ast.specs.declared.parsed.LoopClause.{LoopClause}
use Rattle.wf_ast.specs.declared.parsed.Prefix.{Prefix}
use Rattle.wf_ast.specs.declared.parsed.Prefix.TheVariants as fronts
use Rattle.wf_ast.specs.ParsedParts.{Parsed, IsBelow, LinksBelow, GivenBelow, PrefixBelow, BoundsBelow, TypeBelow, ExprParts, BlockBelow, ElseBelow, TargetBelow, ViaBelow, StmtParts, FieldsBelow, ResultBelow, DeclParts, StmtsOrdered}
use Rattle.wf_ast.specs.ParsedTree.{ExprTree, StmtTree, BlockTree, DeclTree}
use Rattle.wf_ast.specs.ParsedTrees.{expr_at, part_at, call_at, bounds_at, type_at, expr_trees, target_at, via_at, stmt_at, block_at, stmt_trees, result_at, decl_trees, expr_made, stmt_made, decl_made}
use Rattle.wf_parse_grammar.specs.Values as val
use Rattle.wf_parse_grammar.specs.Values.{Val, Made, LinkVal, GivenVal, ArmVal, ClauseVal, FieldVal, PrefixVal, CoreVal}
use Rattle.wf_parse_nodes.specs.Products.{Product}
use Rattle.wf_parse_nodes.specs.Products as makes
use Rattle.wf_parse_nodes.specs.declared.values.OpenCore.{OpenCore}
use Rattle.wf_parse_nodes.specs.declared.values.OpenCore.TheVariants as open_cores
use Rattle.wf_parse_nodes.specs.declared.values.SemanticValue.{SemanticValue}
use Rattle.wf_parse_nodes.specs.declared.values.SemanticValue.TheVariants as vals

-- `es` are the trees of the package's expressions, `ss` those of its statements.
abbrev pub seen_link : List ExprTree → Link → LinkVal
seen_link es l = record { sign = l.sign; operand = expr_at es l.operand }

abbrev pub seen_given : List ExprTree → Given → GivenVal
seen_given es g = record { name = g.name; value = expr_at es g.value }

abbrev pub seen_prefix : List ExprTree → Prefix → PrefixVal
seen_prefix es (fronts.Slice at) = val.slice_prefix at
seen_prefix es (fronts.Array length at) = val.array_prefix (expr_at es length) at

abbrev pub seen_core : OpenCore → CoreVal
seen_core (open_cores.Base name at) = val.base_core name at
seen_core (open_cores.Status at) = val.status_core at

abbrev pub seen_arm : List ExprTree → List StmtTree → Arm → ArmVal
seen_arm es ss a = record { condition = expr_at es a.condition; body = block_at ss a.body }

abbrev pub seen_clause : List ExprTree → LoopClause → ClauseVal
seen_clause es c = record { kind = c.kind; condition = expr_at es c.condition; at = c.at }

abbrev pub seen_field : List ExprTree → Field → FieldVal
seen_field es f = record { name = f.name; of = type_at es f.of }

abbrev pub seen_otherwise : List StmtTree → Option Block → Option BlockTree
seen_otherwise ss None = None
seen_otherwise ss (Some b) = Some (block_at ss b)

abbrev pub seen_value : List ExprTree → List StmtTree → SemanticValue → Val
seen_value es ss (vals.Name n) = val.name n
seen_value es ss (vals.Place p) = val.place p
seen_value es ss (vals.Mark m) = val.mark m
seen_value es ss (vals.Public b) = val.public b
seen_value es ss (vals.Sign s) = val.sign s.op s.at
seen_value es ss (vals.Path x) = val.path x
seen_value es ss (vals.Receiver r) = val.receiver r
seen_value es ss (vals.Expr e) = val.expr (expr_at es e)
seen_value es ss (vals.Part e) = val.part (part_at es e)
seen_value es ss (vals.Chain c) = val.chain c.op (expr_at es c.first) (map (seen_link es) c.links) c.at
seen_value es ss (vals.Givens gs) = val.givens (map (seen_given es) gs)
seen_value es ss (vals.Call c) = val.call (call_at es c)
seen_value es ss (vals.Prefixes ps) = val.prefixes (map (seen_prefix es) ps)
seen_value es ss (vals.Core c) = val.core (seen_core c)
seen_value es ss (vals.Bounds b) = val.bounds (bounds_at es b)
seen_value es ss (vals.Type t) = val.type (type_at es t)
seen_value es ss (vals.Items items) = val.items (map (stmt_at ss) items)
seen_value es ss (vals.Block b) = val.block (block_at ss b)
seen_value es ss (vals.Stmt s) = val.stmt (stmt_at ss s)
seen_value es ss (vals.Target t) = val.target (target_at es t)
seen_value es ss (vals.Arms arms) = val.arms (map (seen_arm es ss) arms)
seen_value es ss (vals.Otherwise b) = val.otherwise (seen_otherwise ss b)
seen_value es ss (vals.Clauses cs) = val.clauses (map (seen_clause es) cs)
seen_value es ss (vals.Label l) = val.label l
seen_value es ss (vals.Via v) = val.via (via_at es v)
seen_value es ss (vals.Fields fs) = val.fields (map (seen_field es) fs)
seen_value es ss (vals.Result t) = val.result (result_at es t)

abbrev pub seen_values : List ExprTree → List StmtTree → List SemanticValue → List Val
seen_values es ss [] = []
seen_values es ss (v ∷ vs) = seen_value es ss v ∷ seen_values es ss vs

-- What stands in a package and on the stack.
abbrev pub made_of : Parsed → List SemanticValue → Made
made_of p vs = record { vals = seen_values (expr_trees p.exprs) (stmt_trees p.exprs p.stmts) vs; decls = decl_trees p.exprs p.stmts p.decls }

-- A value names expressions below `e` and statements below `k`.
abbrev pub ValueBelow : ℕ → ℕ → SemanticValue → Type 0
ValueBelow e k (vals.Expr x) = x.0 < e
ValueBelow e k (vals.Part x) = IsBelow e x
ValueBelow e k (vals.Chain c) = (c.first.0 < e) × LinksBelow e c.links
ValueBelow e k (vals.Givens gs) = GivenBelow e gs
ValueBelow e k (vals.Call c) = GivenBelow e c.args
ValueBelow e k (vals.Prefixes ps) = AllByRecursion (PrefixBelow e) ps
ValueBelow e k (vals.Bounds b) = BoundsBelow e b
ValueBelow e k (vals.Type t) = TypeBelow e t
ValueBelow e k (vals.Items items) = AllByRecursion (λ s. s.0 < k) items
ValueBelow e k (vals.Block b) = BlockBelow k b
ValueBelow e k (vals.Stmt s) = s.0 < k
ValueBelow e k (vals.Target t) = TargetBelow e t
ValueBelow e k (vals.Arms arms) = AllByRecursion (λ a. (a.condition.0 < e) × BlockBelow k a.body) arms
ValueBelow e k (vals.Otherwise b) = ElseBelow k b
ValueBelow e k (vals.Clauses cs) = AllByRecursion (λ c. c.condition.0 < e) cs
ValueBelow e k (vals.Via v) = ViaBelow e v
ValueBelow e k (vals.Fields fs) = FieldsBelow e fs
ValueBelow e k (vals.Result t) = ResultBelow e t
ValueBelow e k _ = ⊤

abbrev pub ValuesBelow : ℕ → ℕ → List SemanticValue → Type 0
ValuesBelow e k vs = AllByRecursion (ValueBelow e k) vs

-- What is made names expressions below `e` and statements below `k`.
abbrev pub ProductParts : ℕ → ℕ → Product → Type 0
ProductParts e k (makes.Value v) = ValueBelow e k v
ProductParts e k (makes.Expr n) = ExprParts e n.expr
ProductParts e k (makes.Stmt n) = StmtParts e k n.stmt
ProductParts e k (makes.Decl n) = DeclParts e k n.decl

-- All that the values on the stack name stands in the package.
abbrev pub AreOf : Parsed → List SemanticValue → Type 0
AreOf p vs = ValuesBelow (length p.exprs) (length p.stmts) vs

-- What is there where this was made, above these values and after these declarations.
abbrev pub made_with : List ExprTree → List StmtTree → Product → List Val → List DeclTree → Made
made_with es ss (makes.Value v) vs ds = record { vals = seen_value es ss v ∷ vs; decls = ds }
made_with es ss (makes.Expr n) vs ds = record { vals = val.expr (expr_made es n.expr n.at) ∷ vs; decls = ds }
made_with es ss (makes.Stmt n) vs ds = record { vals = val.stmt (stmt_made es ss n.stmt n.at) ∷ vs; decls = ds }
made_with es ss (makes.Decl n) vs ds = record { vals = vs; decls = ds ++ decl_made es ss n.public n.decl n.at ∷ [] }

-- Each statement and each declaration names only what stands in the package.
pub record IsOrdered (p : Parsed) : Type 0 where
  pub stmts : StmtsOrdered (length p.exprs) 0 p.stmts
  pub decls : AllByRecursion (λ d. DeclParts (length p.exprs) (length p.stmts) d.decl) p.decls
