-- A resolved package as contracts see it, and that its nodes name only nodes before them and texts that it has.
use Rattle.std.specs.Prelude.{◌+◌, ◌<◌, ℕ, ⊤, Option, None, Some, List, [], ◌∷◌, length, map}
use Rattle.std.specs.List.{AllByRecursion}
use Rattle.wf_ast.specs.declared.numbers.ExprId.{ExprId}
use Rattle.wf_ast.specs.declared.parsed.Given.{Given}
use Rattle.wf_ast.specs.declared.parsed.Name.{Name}
use Rattle.wf_ast.specs.declared.parsed.Via.{Via}
use Rattle.wf_ast.specs.ParsedParts.{AreDistinct, IsBelow, LinksBelow, PrefixBelow, BoundsBelow, BlockBelow, ElseBelow}
use Rattle.wf_named.specs.declared.nodes.NamedExpr.{NamedExpr}
use Rattle.wf_named.specs.declared.nodes.NamedExpr.TheVariants as exprs
use Rattle.wf_named.specs.declared.nodes.NamedExprNode.{NamedExprNode}
use Rattle.wf_named.specs.declared.nodes.NamedStmt.{NamedStmt}
use Rattle.wf_named.specs.declared.nodes.NamedStmt.TheVariants as stmts
use Rattle.wf_named.specs.declared.nodes.NamedStmtNode.{NamedStmtNode}
use Rattle.wf_named.specs.declared.nodes.NamedTarget.{NamedTarget}
use Rattle.wf_named.specs.declared.nodes.NamedTarget.TheVariants as targets
use Rattle.wf_named.specs.declared.nodes.NamedType.{NamedType}
use Rattle.wf_named.specs.declared.declarations.NamedConst.{NamedConst}
use Rattle.wf_named.specs.declared.declarations.NamedMethod.{NamedMethod}
use Rattle.wf_named.specs.declared.declarations.NamedStruct.{NamedStruct}
use Rattle.wf_named.specs.declared.declarations.NamedVar.{NamedVar}
use Rattle.wf_named.specs.NamedTree.{NamedExprTree, NamedStmtTree, NamedPackageTree}
use Rattle.wf_named.specs.NamedTrees.{expr_trees, stmt_trees, const_made, struct_made, method_made, word_at}

-- The parts of a resolved package: its name, its texts in the order in which they are first seen, its nodes and its
-- declarations. `order` has the numbers of all methods, each after those that it calls, and `struct_order` those of all
-- structs, each after those that its fields hold.
pub record NamedParts : Type 0 where
  pub package_name : List ℕ
  pub texts : List (List ℕ)
  pub exprs : List NamedExprNode
  pub stmts : List NamedStmtNode
  pub consts : List NamedConst
  pub statuses : List Name
  pub structs : List NamedStruct
  pub methods : List NamedMethod
  pub order : List ℕ
  pub struct_order : List ℕ

-- Their trees: of all expressions and of all statements, by number, and of the whole package.
abbrev pub exprs_of : NamedParts → List NamedExprTree
exprs_of p = expr_trees p.exprs

abbrev pub stmts_of : NamedParts → List NamedStmtTree
stmts_of p = stmt_trees p.texts p.exprs p.stmts

unfoldable pub named_package : NamedParts → NamedPackageTree
named_package p =
    record {
      package_name = p.package_name;
      consts = map (const_made p.texts (exprs_of p)) p.consts;
      statuses = map (word_at p.texts) p.statuses;
      structs = map (struct_made p.texts (exprs_of p)) p.structs;
      methods = map (method_made p.texts (exprs_of p) (stmts_of p)) p.methods;
      order = p.order;
      struct_order = p.struct_order;
    }

-- The parts of an expression have numbers below `k`.
abbrev pub ArgsBelow : ℕ → List ExprId → Type 0
ArgsBelow k es = AllByRecursion (λ e. e.0 < k) es

abbrev pub NamedTypeBelow : ℕ → NamedType → Type 0
NamedTypeBelow k t = AllByRecursion (PrefixBelow k) t.prefixes × BoundsBelow k t.bounds

abbrev pub NamedExprParts : ℕ → NamedExpr → Type 0
NamedExprParts k (exprs.Index base place) = place.0 < k
NamedExprParts k (exprs.Slice base from to) = IsBelow k from × IsBelow k to
NamedExprParts k (exprs.Call c) = ArgsBelow k c.args
NamedExprParts k (exprs.Chain op first links) = (first.0 < k) × LinksBelow k links
NamedExprParts k (exprs.Convert of to) = (of.0 < k) × NamedTypeBelow k to
NamedExprParts k (exprs.Not of) = of.0 < k
NamedExprParts k _ = ⊤

-- Texts have numbers below `t`, the expressions of a statement below `e`, its statements below `k`.
abbrev pub NamedTargetBelow : ℕ → NamedTarget → Type 0
NamedTargetBelow e (targets.Path path) = ⊤
NamedTargetBelow e (targets.Element base place at) = place.0 < e

abbrev pub LettersBelow : ℕ → ℕ → List Given → Type 0
LettersBelow t e gs = AllByRecursion (λ g. (g.name.text.0 < t) × (g.value.0 < e)) gs

abbrev pub AxiomBelow : ℕ → ℕ → Option Via → Type 0
AxiomBelow t e None = ⊤
AxiomBelow t e (Some v) = (v.axiom.text.0 < t) × LettersBelow t e v.given

abbrev pub NamedStmtParts : ℕ → ℕ → ℕ → NamedStmt → Type 0
NamedStmtParts t e k (stmts.Assign target op sign value) = NamedTargetBelow e target × (value.0 < e)
NamedStmtParts t e k (stmts.Keep target c) = NamedTargetBelow e target × ArgsBelow e c.args
NamedStmtParts t e k (stmts.Call c) = ArgsBelow e c.args
NamedStmtParts t e k (stmts.If arms otherwise) = AllByRecursion (λ a. (a.condition.0 < e) × BlockBelow k a.body) arms × ElseBelow k otherwise
NamedStmtParts t e k (stmts.While condition clauses body) = (condition.0 < e) × AllByRecursion (λ c. c.condition.0 < e) clauses × BlockBelow k body
NamedStmtParts t e k (stmts.Return value) = IsBelow e value
NamedStmtParts t e k (stmts.Yield value) = value.0 < e
NamedStmtParts t e k (stmts.Assert goal v) = (goal.0 < e) × AxiomBelow t e v
NamedStmtParts t e k _ = ⊤

-- Declarations likewise.
abbrev pub NamedVarBelow : ℕ → ℕ → NamedVar → Type 0
NamedVarBelow t e x = (x.name.text.0 < t) × NamedTypeBelow e x.of

abbrev pub NamedConstBelow : ℕ → ℕ → NamedConst → Type 0
NamedConstBelow t e c = (c.name.text.0 < t) × NamedTypeBelow e c.of × (c.value.0 < e)

abbrev pub NamedStructBelow : ℕ → ℕ → NamedStruct → Type 0
NamedStructBelow t e s = (s.name.text.0 < t) × AllByRecursion (NamedVarBelow t e) s.fields

abbrev pub NamedResultBelow : ℕ → Option NamedType → Type 0
NamedResultBelow e None = ⊤
NamedResultBelow e (Some t) = NamedTypeBelow e t

abbrev pub NamedMethodBelow : ℕ → ℕ → ℕ → NamedMethod → Type 0
NamedMethodBelow t e k m =
    (m.name.text.0 < t) × AllByRecursion (NamedVarBelow t e) m.args × AllByRecursion (NamedVarBelow t e) m.locals × NamedResultBelow e m.gives × BlockBelow k m.body

-- Each node's parts stand before it: `k` is the number of the first node of the list.
abbrev pub NamedExprsOrdered : ℕ → List NamedExprNode → Type 0
NamedExprsOrdered k [] = ⊤
NamedExprsOrdered k (n ∷ ns) = NamedExprParts k n.expr × NamedExprsOrdered (k + 1) ns

abbrev pub NamedStmtsOrdered : ℕ → ℕ → ℕ → List NamedStmtNode → Type 0
NamedStmtsOrdered t e k [] = ⊤
NamedStmtsOrdered t e k (n ∷ ns) = NamedStmtParts t e k n.stmt × NamedStmtsOrdered t e (k + 1) ns

-- What is true of every resolved package, also of one that is being built.
pub record IsShaped (p : NamedParts) : Type 0 where
  pub texts : AreDistinct p.texts
  pub exprs : NamedExprsOrdered 0 p.exprs
  pub stmts : NamedStmtsOrdered (length p.texts) (length p.exprs) 0 p.stmts
  pub consts : AllByRecursion (NamedConstBelow (length p.texts) (length p.exprs)) p.consts
  pub statuses : AllByRecursion (λ n. n.text.0 < length p.texts) p.statuses
  pub structs : AllByRecursion (NamedStructBelow (length p.texts) (length p.exprs)) p.structs
  pub methods : AllByRecursion (NamedMethodBelow (length p.texts) (length p.exprs) (length p.stmts)) p.methods
