-- That the nodes of a package name only nodes before them, and texts that the package has.
use Rattle.std.specs.Prelude.{◌+◌, ◌<◌, ℕ, ⊤, Option, None, Some, List, [], ◌∷◌, length}
use Rattle.std.specs.List.{AllByRecursion}
pub use Rattle.interner.specs.Interning.{JoinsText, AreDistinct}
use Rattle.wf_ast.specs.declared.numbers.ExprId.{ExprId}
use Rattle.wf_ast.specs.declared.parsed.Block.{Block}
use Rattle.wf_ast.specs.declared.parsed.Bounds.{Bounds}
use Rattle.wf_ast.specs.declared.parsed.DeclNode.{DeclNode}
use Rattle.wf_ast.specs.declared.parsed.Decl.{Decl}
use Rattle.wf_ast.specs.declared.parsed.Decl.TheVariants as decls
use Rattle.wf_ast.specs.declared.parsed.ExprNode.{ExprNode}
use Rattle.wf_ast.specs.declared.parsed.Expr.{Expr}
use Rattle.wf_ast.specs.declared.parsed.Expr.TheVariants as exprs
use Rattle.wf_ast.specs.declared.parsed.Field.{Field}
use Rattle.wf_ast.specs.declared.parsed.Given.{Given}
use Rattle.wf_ast.specs.declared.parsed.Link.{Link}
use Rattle.wf_ast.specs.declared.parsed.Prefix.{Prefix}
use Rattle.wf_ast.specs.declared.parsed.Prefix.TheVariants as prefixes
use Rattle.wf_ast.specs.declared.parsed.Stmt.{Stmt}
use Rattle.wf_ast.specs.declared.parsed.Stmt.TheVariants as stmts
use Rattle.wf_ast.specs.declared.parsed.StmtNode.{StmtNode}
use Rattle.wf_ast.specs.declared.parsed.Target.{Target}
use Rattle.wf_ast.specs.declared.parsed.Target.TheVariants as targets
use Rattle.wf_ast.specs.declared.parsed.TypeExpr.{TypeExpr}
use Rattle.wf_ast.specs.declared.parsed.Via.{Via}

-- A package as contracts see it: its name, its texts in the order in which they are first seen, and its nodes.
pub record Parsed : Type 0 where
  pub name : List ℕ
  pub texts : List (List ℕ)
  pub exprs : List ExprNode
  pub stmts : List StmtNode
  pub decls : List DeclNode

-- Each expression number is below `k`.
abbrev pub IsBelow : ℕ → Option ExprId → Type 0
IsBelow k None = ⊤
IsBelow k (Some e) = e.0 < k

abbrev pub LinksBelow : ℕ → List Link → Type 0
LinksBelow k ls = AllByRecursion (λ l. l.operand.0 < k) ls

abbrev pub GivenBelow : ℕ → List Given → Type 0
GivenBelow k gs = AllByRecursion (λ g. g.value.0 < k) gs

abbrev pub PrefixBelow : ℕ → Prefix → Type 0
PrefixBelow k (prefixes.Slice at) = ⊤
PrefixBelow k (prefixes.Array length at) = length.0 < k

abbrev pub BoundsBelow : ℕ → Option Bounds → Type 0
BoundsBelow k None = ⊤
BoundsBelow k (Some b) = IsBelow k b.low × (b.high.0 < k)

abbrev pub TypeBelow : ℕ → TypeExpr → Type 0
TypeBelow k t = AllByRecursion (PrefixBelow k) t.prefixes × BoundsBelow k t.bounds

-- The parts of an expression have numbers below `k`.
abbrev pub ExprParts : ℕ → Expr → Type 0
ExprParts k (exprs.Index base place) = place.0 < k
ExprParts k (exprs.Slice base from to) = IsBelow k from × IsBelow k to
ExprParts k (exprs.Call c) = GivenBelow k c.args
ExprParts k (exprs.Chain op first links) = (first.0 < k) × LinksBelow k links
ExprParts k (exprs.Convert of to) = (of.0 < k) × TypeBelow k to
ExprParts k (exprs.Not of) = of.0 < k
ExprParts k _ = ⊤

-- The expressions of a statement have numbers below `e`, its statements below `k`.
abbrev pub BlockBelow : ℕ → Block → Type 0
BlockBelow k b = AllByRecursion (λ s. s.0 < k) b.items

abbrev pub ElseBelow : ℕ → Option Block → Type 0
ElseBelow k None = ⊤
ElseBelow k (Some b) = BlockBelow k b

abbrev pub TargetBelow : ℕ → Target → Type 0
TargetBelow e (targets.Path path) = ⊤
TargetBelow e (targets.Element base place at) = place.0 < e

abbrev pub ViaBelow : ℕ → Option Via → Type 0
ViaBelow e None = ⊤
ViaBelow e (Some v) = GivenBelow e v.given

abbrev pub StmtParts : ℕ → ℕ → Stmt → Type 0
StmtParts e k (stmts.Var name of) = TypeBelow e of
StmtParts e k (stmts.Assign target op sign value) = TargetBelow e target × (value.0 < e)
StmtParts e k (stmts.Keep target c) = TargetBelow e target × GivenBelow e c.args
StmtParts e k (stmts.Call c) = GivenBelow e c.args
StmtParts e k (stmts.If arms otherwise) = AllByRecursion (λ a. (a.condition.0 < e) × BlockBelow k a.body) arms × ElseBelow k otherwise
StmtParts e k (stmts.While label condition clauses body) = (condition.0 < e) × AllByRecursion (λ c. c.condition.0 < e) clauses × BlockBelow k body
StmtParts e k (stmts.Return value) = IsBelow e value
StmtParts e k (stmts.Yield value) = value.0 < e
StmtParts e k (stmts.Assert goal v) = (goal.0 < e) × ViaBelow e v
StmtParts e k _ = ⊤

-- A declaration names expressions below `e` and statements below `k`.
abbrev pub FieldsBelow : ℕ → List Field → Type 0
FieldsBelow e fs = AllByRecursion (λ f. TypeBelow e f.of) fs

abbrev pub ResultBelow : ℕ → Option TypeExpr → Type 0
ResultBelow e None = ⊤
ResultBelow e (Some t) = TypeBelow e t

abbrev pub DeclParts : ℕ → ℕ → Decl → Type 0
DeclParts e k (decls.Const name of value) = TypeBelow e of × (value.0 < e)
DeclParts e k (decls.Struct name mark fields) = FieldsBelow e fields
DeclParts e k (decls.Method owner name mark args result body) = FieldsBelow e args × ResultBelow e result × BlockBelow k body
DeclParts e k _ = ⊤

-- Each node's parts stand before it: `k` is the number of the first node of the list.
abbrev pub ExprsOrdered : ℕ → List ExprNode → Type 0
ExprsOrdered k [] = ⊤
ExprsOrdered k (n ∷ ns) = ExprParts k n.expr × ExprsOrdered (k + 1) ns

abbrev pub StmtsOrdered : ℕ → ℕ → List StmtNode → Type 0
StmtsOrdered e k [] = ⊤
StmtsOrdered e k (n ∷ ns) = StmtParts e k n.stmt × StmtsOrdered e (k + 1) ns

-- What is true of every package.
pub record IsShaped (p : Parsed) : Type 0 where
  pub texts : AreDistinct p.texts
  pub exprs : ExprsOrdered 0 p.exprs
  pub stmts : StmtsOrdered (length p.exprs) 0 p.stmts
  pub decls : AllByRecursion (λ d. DeclParts (length p.exprs) (length p.stmts) d.decl) p.decls
