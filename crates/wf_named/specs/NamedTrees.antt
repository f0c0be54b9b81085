-- The trees that the nodes of a resolved package stand for. The tree of an expression is made of the trees of the
-- expressions before it, so the trees of all are a fold over the nodes from the left. Statements are folded
-- likewise, over the expressions' trees.
use Rattle.std.specs.Prelude.{ℕ, Option, None, Some, List, [], ◌∷◌, ◌++◌, map, option_map, slice_get}
use Rattle.wf_text.specs.declared.place.Place.{Place}
use Rattle.wf_ast.specs.declared.numbers.ExprId.{ExprId}
use Rattle.wf_ast.specs.declared.numbers.StmtId.{StmtId}
use Rattle.wf_ast.specs.declared.parsed.Arm.{Arm}
use Rattle.wf_ast.specs.declared.parsed.Block.{Block}
use Rattle.wf_ast.specs.declared.parsed.Bounds.{Bounds}
use Rattle.wf_ast.specs.declared.parsed.Given.{Given}
use Rattle.wf_ast.specs.declared.parsed.Link.{Link}
use Rattle.wf_ast.specs.declared.parsed.LoopClause.{LoopClause}
use Rattle.wf_ast.specs.declared.parsed.Name.{Name}
use Rattle.wf_ast.specs.declared.parsed.Prefix.{Prefix}
use Rattle.wf_ast.specs.declared.parsed.Prefix.TheVariants as prefixes
use Rattle.wf_ast.specs.declared.parsed.Via.{Via}
use Rattle.wf_ast.specs.Places.{no_place}
use Rattle.wf_named.specs.declared.nodes.NamedCall.{NamedCall}
use Rattle.wf_named.specs.declared.nodes.NamedCore.{NamedCore}
use Rattle.wf_named.specs.declared.nodes.NamedCore.TheVariants as cores
use Rattle.wf_named.specs.declared.nodes.NamedExpr.{NamedExpr}
use Rattle.wf_named.specs.declared.nodes.NamedExpr.TheVariants as exprs
use Rattle.wf_named.specs.declared.nodes.NamedExprNode.{NamedExprNode}
use Rattle.wf_named.specs.declared.nodes.NamedStmt.{NamedStmt}
use Rattle.wf_named.specs.declared.nodes.NamedStmt.TheVariants as stmts
use Rattle.wf_named.specs.declared.nodes.NamedStmtNode.{NamedStmtNode}
use Rattle.wf_named.specs.declared.nodes.NamedTarget.{NamedTarget}
use Rattle.wf_named.specs.declared.nodes.NamedTarget.TheVariants as targets
use Rattle.wf_named.specs.declared.nodes.NamedType.{NamedType}
use Rattle.wf_named.specs.declared.declarations.NamedConst.{NamedConst}
use Rattle.wf_named.specs.declared.declarations.NamedMethod.{NamedMethod}
use Rattle.wf_named.specs.declared.declarations.NamedStruct.{NamedStruct}
use Rattle.wf_named.specs.declared.declarations.NamedVar.{NamedVar}
use Rattle.wf_named.specs.NamedTree as tree
use Rattle.wf_named.specs.NamedTree.{NamedExprTree, NamedPartTree, NamedLinkTrees, NamedArgTrees, NamedCallTree, NamedTypeTree, NamedBoundsTree, NamedTargetTree, NamedClauseTrees, Word, LetterTrees, NamedViaTree, NamedStmtTree, NamedBlockTree, NamedArmTrees, VarTree, ConstTree, NamedStructTree, NamedMethodTree}

-- What a number stands for that names no node: no package has them.
abbrev pub expr_or : Option NamedExprTree → NamedExprTree
expr_or (Some e) = e
expr_or None = tree.status 0 no_place

abbrev pub stmt_or : Option NamedStmtTree → NamedStmtTree
stmt_or (Some s) = s
stmt_or None = tree.back tree.absent no_place

-- The tree of an expression, where these are the trees so far.
abbrev pub expr_at : List NamedExprTree → ExprId → NamedExprTree
expr_at ts e = expr_or (slice_get ts e.0)

abbrev pub part_at : List NamedExprTree → Option ExprId → NamedPartTree
part_at ts None = tree.absent
part_at ts (Some e) = tree.present (expr_at ts e)

abbrev pub links_at : List NamedExprTree → List Link → NamedLinkTrees
links_at ts [] = tree.no_link
links_at ts (l ∷ ls) = tree.link l.sign (expr_at ts l.operand) (links_at ts ls)

abbrev pub args_at : List NamedExprTree → List ExprId → NamedArgTrees
args_at ts [] = tree.no_arg
args_at ts (e ∷ es) = tree.more_args (expr_at ts e) (args_at ts es)

abbrev pub call_at : List NamedExprTree → NamedCall → NamedCallTree
call_at ts c = tree.call c.callee c.at c.mark (args_at ts c.args)

abbrev pub bounds_at : List NamedExprTree → Option Bounds → NamedBoundsTree
bounds_at ts None = tree.unrefined
bounds_at ts (Some b) = tree.refined (part_at ts b.low) (expr_at ts b.high)

abbrev pub core_at : List NamedExprTree → NamedCore → Option Bounds → NamedTypeTree
core_at ts (cores.Base of at) b = tree.base_type of at (bounds_at ts b)
core_at ts (cores.Struct of at) b = tree.struct_type of.0 at

-- a prefix before a type
abbrev pub prefixed : List NamedExprTree → Prefix → NamedTypeTree → NamedTypeTree
prefixed ts (prefixes.Slice at) t = tree.slice_of at t
prefixed ts (prefixes.Array length at) t = tree.array_of (expr_at ts length) at t

abbrev pub all_prefixed : List NamedExprTree → List Prefix → NamedTypeTree → NamedTypeTree
all_prefixed ts [] t = t
all_prefixed ts (p ∷ ps) t = prefixed ts p (all_prefixed ts ps t)

abbrev pub type_at : List NamedExprTree → NamedType → NamedTypeTree
type_at ts t = all_prefixed ts t.prefixes (core_at ts t.core t.bounds)

-- The tree that a node makes of the trees before it.
abbrev pub expr_made : List NamedExprTree → NamedExpr → Place → NamedExprTree
expr_made ts (exprs.Number value) at = tree.number value at
expr_made ts (exprs.Path path) at = tree.path path
expr_made ts (exprs.Status number) at = tree.status number.0 at
expr_made ts (exprs.Truth value) at = tree.truth value at
expr_made ts (exprs.Index base place) at = tree.index base (expr_at ts place) at
expr_made ts (exprs.Slice base from to) at = tree.slice base (part_at ts from) (part_at ts to) at
expr_made ts (exprs.Call c) at = tree.answer (call_at ts c)
expr_made ts (exprs.Chain op first links) at = tree.chain op (expr_at ts first) (links_at ts links) at
expr_made ts (exprs.Convert of to) at = tree.convert (expr_at ts of) (type_at ts to) at
expr_made ts (exprs.Not of) at = tree.negation (expr_at ts of) at

abbrev pub exprs_after : List NamedExprTree → List NamedExprNode → List NamedExprTree
exprs_after ts [] = ts
exprs_after ts (n ∷ ns) = exprs_after (ts ++ expr_made ts n.expr n.at ∷ []) ns

-- The trees of all expression nodes, by number.
unfoldable pub expr_trees : List NamedExprNode → List NamedExprTree
expr_trees nodes = exprs_after [] nodes

-- Names and quoted texts, by number.
abbrev pub text_or : Option (List ℕ) → List ℕ
text_or (Some text) = text
text_or None = []

abbrev pub word_at : List (List ℕ) → Name → Word
word_at texts n = record { text = text_or (slice_get texts n.text.0); at = n.at }

-- Statements: `es` are the trees of all expressions, `ts` those of the statements so far.
abbrev pub target_at : List NamedExprTree → NamedTarget → NamedTargetTree
target_at es (targets.Path path) = tree.to_path path
target_at es (targets.Element base place at) = tree.to_element base (expr_at es place) at

abbrev pub clauses_at : List NamedExprTree → List LoopClause → NamedClauseTrees
clauses_at es [] = tree.no_clause
clauses_at es (c ∷ cs) = tree.more_clauses c.kind (expr_at es c.condition) c.at (clauses_at es cs)

abbrev pub letters_at : List (List ℕ) → List NamedExprTree → List Given → LetterTrees
letters_at texts es [] = tree.no_letter
letters_at texts es (g ∷ gs) = tree.more_letters (word_at texts g.name) (expr_at es g.value) (letters_at texts es gs)

abbrev pub via_at : List (List ℕ) → List NamedExprTree → Option Via → NamedViaTree
via_at texts es None = tree.by_itself
via_at texts es (Some v) = tree.via (word_at texts v.axiom) (letters_at texts es v.given)

abbrev pub stmt_at : List NamedStmtTree → StmtId → NamedStmtTree
stmt_at ts s = stmt_or (slice_get ts s.0)

abbrev pub items_at : List NamedStmtTree → List StmtId → Place → NamedBlockTree
items_at ts [] at = tree.close at
items_at ts (s ∷ ss) at = tree.more_stmts (stmt_at ts s) (items_at ts ss at)

abbrev pub block_at : List NamedStmtTree → Block → NamedBlockTree
block_at ts b = items_at ts b.items b.close

abbrev pub else_at : List NamedStmtTree → Option Block → NamedArmTrees
else_at ts None = tree.no_else
else_at ts (Some b) = tree.otherwise (block_at ts b)

abbrev pub arms_at : List NamedExprTree → List NamedStmtTree → List Arm → NamedArmTrees → NamedArmTrees
arms_at es ts [] last = last
arms_at es ts (a ∷ arms) last = tree.arm (expr_at es a.condition) (block_at ts a.body) (arms_at es ts arms last)

abbrev pub stmt_made : List (List ℕ) → List NamedExprTree → List NamedStmtTree → NamedStmt → Place → NamedStmtTree
stmt_made texts es ts (stmts.Assign target op sign value) at = tree.assign (target_at es target) op sign (expr_at es value) at
stmt_made texts es ts (stmts.Keep target c) at = tree.keep (target_at es target) (call_at es c) at
stmt_made texts es ts (stmts.Call c) at = tree.do_call (call_at es c) at
stmt_made texts es ts (stmts.If arms otherwise) at = tree.branch (arms_at es ts arms (else_at ts otherwise)) at
stmt_made texts es ts (stmts.While condition clauses body) at = tree.loop (expr_at es condition) (clauses_at es clauses) (block_at ts body) at
stmt_made texts es ts (stmts.Break outwards) at = tree.leave outwards at
stmt_made texts es ts (stmts.Continue outwards) at = tree.again outwards at
stmt_made texts es ts (stmts.Return value) at = tree.back (part_at es value) at
stmt_made texts es ts (stmts.Yield value) at = tree.suspend (expr_at es value) at
stmt_made texts es ts (stmts.Assert goal v) at = tree.claim (expr_at es goal) (via_at texts es v) at

abbrev pub stmts_after : List (List ℕ) → List NamedExprTree → List NamedStmtTree → List NamedStmtNode → List NamedStmtTree
stmts_after texts es ts [] = ts
stmts_after texts es ts (n ∷ ns) = stmts_after texts es (ts ++ stmt_made texts es ts n.stmt n.at ∷ []) ns

-- The trees of all statement nodes, by number.
unfoldable pub stmt_trees : List (List ℕ) → List NamedExprNode → List NamedStmtNode → List NamedStmtTree
stmt_trees texts exprs nodes = stmts_after texts (expr_trees exprs) [] nodes

-- Declarations.
abbrev pub var_made : List (List ℕ) → List NamedExprTree → NamedVar → VarTree
var_made texts es x = record { name = word_at texts x.name; of = type_at es x.of }

abbrev pub const_made : List (List ℕ) → List NamedExprTree → NamedConst → ConstTree
const_made texts es c = record { name = word_at texts c.name; of = type_at es c.of; value = expr_at es c.value }

abbrev pub struct_made : List (List ℕ) → List NamedExprTree → NamedStruct → NamedStructTree
struct_made texts es s = record { name = word_at texts s.name; public = s.public; fields = map (var_made texts es) s.fields }

abbrev pub method_made : List (List ℕ) → List NamedExprTree → List NamedStmtTree → NamedMethod → NamedMethodTree
method_made texts es ts m =
    record {
      name = word_at texts m.name;
      of = m.of.0;
      public = m.public;
      mark = m.mark;
      args = map (var_made texts es) m.args;
      locals = map (var_made texts es) m.locals;
      gives = option_map (type_at es) m.gives;
      body = block_at ts m.body;
    }
