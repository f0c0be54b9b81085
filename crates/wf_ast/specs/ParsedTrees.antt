-- The trees that the nodes of a package stand for. The tree of an expression is made of the trees of the
-- expressions before it, so the trees of all are a fold over the nodes from the left. Statements are folded
-- likewise, over the expressions' trees.
use Rattle.std.specs.Prelude.{Bool, Option, None, Some, List, [], ◌∷◌, ◌++◌, slice_get}
use Rattle.wf_text.specs.declared.place.Place.{Place}
use Rattle.wf_ast.specs.declared.numbers.ExprId.{ExprId}
use Rattle.wf_ast.specs.declared.numbers.StmtId.{StmtId}
use Rattle.wf_ast.specs.declared.parsed.Arm.{Arm}
use Rattle.wf_ast.specs.declared.parsed.Block.{Block}
use Rattle.wf_ast.specs.declared.parsed.Bounds.{Bounds}
use Rattle.wf_ast.specs.declared.parsed.Call.{Call}
use Rattle.wf_ast.specs.declared.parsed.Core.{Core}
use Rattle.wf_ast.specs.declared.parsed.Core.TheVariants as cores
use Rattle.wf_ast.specs.declared.parsed.DeclNode.{DeclNode}
use Rattle.wf_ast.specs.declared.parsed.Decl.{Decl}
use Rattle.wf_ast.specs.declared.parsed.Decl.TheVariants as decls
use Rattle.wf_ast.specs.declared.parsed.ExprNode.{ExprNode}
use Rattle.wf_ast.specs.declared.parsed.Expr.{Expr}
use Rattle.wf_ast.specs.declared.parsed.Expr.TheVariants as exprs
use Rattle.wf_ast.specs.declared.parsed.Field.{Field}
use Rattle.wf_ast.specs.declared.parsed.Given.{Given}
use Rattle.wf_ast.specs.declared.parsed.Link.{Link}
use Rattle.wf_ast.specs.declared.parsed.LoopClause.{LoopClause}
use Rattle.wf_ast.specs.declared.parsed.Prefix.{Prefix}
use Rattle.wf_ast.specs.declared.parsed.Prefix.TheVariants as prefixes
use Rattle.wf_ast.specs.declared.parsed.Stmt.{Stmt}
use Rattle.wf_ast.specs.declared.parsed.Stmt.TheVariants as stmts
use Rattle.wf_ast.specs.declared.parsed.StmtNode.{StmtNode}
use Rattle.wf_ast.specs.declared.parsed.Target.{Target}
use Rattle.wf_ast.specs.declared.parsed.Target.TheVariants as targets
use Rattle.wf_ast.specs.declared.parsed.TypeExpr.{TypeExpr}
use Rattle.wf_ast.specs.declared.parsed.Via.{Via}
use Rattle.wf_ast.specs.ParsedTree as tree
use Rattle.wf_ast.specs.ParsedTree.{ExprTree, PartTree, LinkTrees, GivenTrees, CallTree, TypeTree, BoundsTree, TargetTree, ClauseTrees, ViaTree, StmtTree, BlockTree, ArmTrees, FieldTrees, ResultTree, DeclTree}
pub use Rattle.wf_ast.specs.Places.{no_place}

-- What a number stands for that names no node: no package has them.
abbrev pub expr_or : Option ExprTree → ExprTree
expr_or (Some e) = e
expr_or None = tree.fine no_place

abbrev pub stmt_or : Option StmtTree → StmtTree
stmt_or (Some s) = s
stmt_or None = tree.back tree.absent no_place

-- The tree of an expression, where these are the trees so far.
abbrev pub expr_at : List ExprTree → ExprId → ExprTree
expr_at ts e = expr_or (slice_get ts e.0)

abbrev pub part_at : List ExprTree → Option ExprId → PartTree
part_at ts None = tree.absent
part_at ts (Some e) = tree.present (expr_at ts e)

abbrev pub links_at : List ExprTree → List Link → LinkTrees
links_at ts [] = tree.no_link
links_at ts (l ∷ ls) = tree.link l.sign (expr_at ts l.operand) (links_at ts ls)

abbrev pub given_at : List ExprTree → List Given → GivenTrees
given_at ts [] = tree.no_given
given_at ts (g ∷ gs) = tree.more_given g.name (expr_at ts g.value) (given_at ts gs)

abbrev pub call_at : List ExprTree → Call → CallTree
call_at ts c = tree.call c.on c.method c.mark (given_at ts c.args)

abbrev pub bounds_at : List ExprTree → Option Bounds → BoundsTree
bounds_at ts None = tree.unrefined
bounds_at ts (Some b) = tree.refined (part_at ts b.low) (expr_at ts b.high)

abbrev pub core_at : List ExprTree → Core → Option Bounds → TypeTree
core_at ts (cores.Base name at) b = tree.base_type name at (bounds_at ts b)
core_at ts (cores.BaseStatus at) b = tree.status_type at (bounds_at ts b)
core_at ts (cores.Struct name) b = tree.struct_type name

-- a prefix before a type
abbrev pub prefixed : List ExprTree → Prefix → TypeTree → TypeTree
prefixed ts (prefixes.Slice at) t = tree.slice_of at t
prefixed ts (prefixes.Array length at) t = tree.array_of (expr_at ts length) at t

abbrev pub all_prefixed : List ExprTree → List Prefix → TypeTree → TypeTree
all_prefixed ts [] t = t
all_prefixed ts (p ∷ ps) t = prefixed ts p (all_prefixed ts ps t)

abbrev pub type_at : List ExprTree → TypeExpr → TypeTree
type_at ts t = all_prefixed ts t.prefixes (core_at ts t.core t.bounds)

-- The tree that a node makes of the trees before it.
abbrev pub expr_made : List ExprTree → Expr → Place → ExprTree
expr_made ts (exprs.Number value) at = tree.number value at
expr_made ts (exprs.OwnStatus text) at = tree.own_status text
expr_made ts (exprs.BaseStatus text) at = tree.base_status text at
expr_made ts exprs.Fine at = tree.fine at
expr_made ts (exprs.Truth value) at = tree.truth value at
expr_made ts (exprs.Path path) at = tree.path path
expr_made ts (exprs.Index base place) at = tree.index base (expr_at ts place) at
expr_made ts (exprs.Slice base from to) at = tree.slice base (part_at ts from) (part_at ts to) at
expr_made ts (exprs.Call c) at = tree.answer (call_at ts c)
expr_made ts (exprs.Chain op first links) at = tree.chain op (expr_at ts first) (links_at ts links) at
expr_made ts (exprs.Convert of to) at = tree.convert (expr_at ts of) (type_at ts to) at
expr_made ts (exprs.Not of) at = tree.negation (expr_at ts of) at

abbrev pub exprs_after : List ExprTree → List ExprNode → List ExprTree
exprs_after ts [] = ts
exprs_after ts (n ∷ ns) = exprs_after (ts ++ expr_made ts n.expr n.at ∷ []) ns

-- The trees of all expression nodes, by number.
unfoldable pub expr_trees : List ExprNode → List ExprTree
expr_trees nodes = exprs_after [] nodes

-- Statements: `es` are the trees of all expressions, `ts` those of the statements so far.
abbrev pub target_at : List ExprTree → Target → TargetTree
target_at es (targets.Path path) = tree.to_path path
target_at es (targets.Element base place at) = tree.to_element base (expr_at es place) at

abbrev pub clauses_at : List ExprTree → List LoopClause → ClauseTrees
clauses_at es [] = tree.no_clause
clauses_at es (c ∷ cs) = tree.more_clauses c.kind (expr_at es c.condition) c.at (clauses_at es cs)

abbrev pub via_at : List ExprTree → Option Via → ViaTree
via_at es None = tree.by_itself
via_at es (Some v) = tree.via v.axiom (given_at es v.given)

abbrev pub stmt_at : List StmtTree → StmtId → StmtTree
stmt_at ts s = stmt_or (slice_get ts s.0)

abbrev pub items_at : List StmtTree → List StmtId → Place → BlockTree
items_at ts [] at = tree.close at
items_at ts (s ∷ ss) at = tree.more_stmts (stmt_at ts s) (items_at ts ss at)

abbrev pub block_at : List StmtTree → Block → BlockTree
block_at ts b = items_at ts b.items b.close

abbrev pub else_at : List StmtTree → Option Block → ArmTrees
else_at ts None = tree.no_else
else_at ts (Some b) = tree.otherwise (block_at ts b)

abbrev pub arms_at : List ExprTree → List StmtTree → List Arm → ArmTrees → ArmTrees
arms_at es ts [] last = last
arms_at es ts (a ∷ arms) last = tree.arm (expr_at es a.condition) (block_at ts a.body) (arms_at es ts arms last)

abbrev pub stmt_made : List ExprTree → List StmtTree → Stmt → Place → StmtTree
stmt_made es ts (stmts.Var name of) at = tree.var name (type_at es of) at
stmt_made es ts (stmts.Assign target op sign value) at = tree.assign (target_at es target) op sign (expr_at es value) at
stmt_made es ts (stmts.Keep target c) at = tree.keep (target_at es target) (call_at es c) at
stmt_made es ts (stmts.Call c) at = tree.do_call (call_at es c) at
stmt_made es ts (stmts.If arms otherwise) at = tree.branch (arms_at es ts arms (else_at ts otherwise)) at
stmt_made es ts (stmts.While label condition clauses body) at = tree.loop label (expr_at es condition) (clauses_at es clauses) (block_at ts body) at
stmt_made es ts (stmts.Break label) at = tree.leave label at
stmt_made es ts (stmts.Continue label) at = tree.again label at
stmt_made es ts (stmts.Return value) at = tree.back (part_at es value) at
stmt_made es ts (stmts.Yield value) at = tree.suspend (expr_at es value) at
stmt_made es ts (stmts.Assert goal v) at = tree.claim (expr_at es goal) (via_at es v) at

abbrev pub stmts_after : List ExprTree → List StmtTree → List StmtNode → List StmtTree
stmts_after es ts [] = ts
stmts_after es ts (n ∷ ns) = stmts_after es (ts ++ stmt_made es ts n.stmt n.at ∷ []) ns

-- The trees of all statement nodes, by number.
unfoldable pub stmt_trees : List ExprNode → List StmtNode → List StmtTree
stmt_trees exprs nodes = stmts_after (expr_trees exprs) [] nodes

-- Declarations.
abbrev pub fields_at : List ExprTree → List Field → FieldTrees
fields_at es [] = tree.no_field
fields_at es (f ∷ fs) = tree.more_fields f.name (type_at es f.of) (fields_at es fs)

abbrev pub result_at : List ExprTree → Option TypeExpr → ResultTree
result_at es None = tree.gives_nothing
result_at es (Some t) = tree.gives (type_at es t)

abbrev pub decl_made : List ExprTree → List StmtTree → Bool → Decl → Place → DeclTree
decl_made es ts public (decls.Status text) at = tree.status public text at
decl_made es ts public (decls.Const name of value) at = tree.constant public name (type_at es of) (expr_at es value) at
decl_made es ts public (decls.Struct name mark fields) at = tree.structure public name mark (fields_at es fields) at
decl_made es ts public (decls.Method owner name mark args result body) at = tree.method public owner name mark (fields_at es args) (result_at es result) (block_at ts body) at

abbrev pub decls_made : List ExprTree → List StmtTree → List DeclNode → List DeclTree
decls_made es ts [] = []
decls_made es ts (d ∷ ds) = decl_made es ts d.public d.decl d.at ∷ decls_made es ts ds

-- The trees of a package's declarations, in order.
unfoldable pub decl_trees : List ExprNode → List StmtNode → List DeclNode → List DeclTree
decl_trees exprs stmts decls = decls_made (expr_trees exprs) (stmt_trees exprs stmts) decls
