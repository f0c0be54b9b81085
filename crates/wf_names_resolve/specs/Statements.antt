-- Statements as they are made: the declaration of a local makes none.
use Rattle.std.specs.Prelude.{◌<◌, ℕ, ⊤, max, Bool, true, false, List, [], ◌∷◌, Option, Some, None}
use Rattle.std.specs.List.{AllByRecursion}
use Rattle.wf_text.specs.declared.place.Place.{Place}
use Rattle.wf_ast.specs.declared.numbers.StmtId.{StmtId}
use Rattle.wf_ast.specs.declared.parsed.Arm.{Arm}
use Rattle.wf_ast.specs.declared.parsed.Stmt.{Stmt}
use Rattle.wf_ast.specs.declared.parsed.Stmt.TheVariants as parsed
use Rattle.wf_ast.specs.ParsedParts.{BlockBelow}
use Rattle.wf_ast.specs.Above.{above_block, above_else, above_arms}
use Rattle.wf_named.specs.declared.nodes.NamedStmt.{NamedStmt}
use Rattle.wf_named.specs.NamedTree.{NamedExprTree, NamedStmtTree}
use Rattle.wf_named.specs.NamedTrees.{stmt_at, stmt_made}
use Rattle.wf_named.specs.NamedParts.{NamedStmtParts}

-- What may be none, as a list.
abbrev pub listed : {X : Type 0} → Option X → List X
listed None = []
listed (Some x) = x ∷ []

-- The tree of a statement that may be none.
abbrev pub stmt_in : List NamedStmtTree → Option StmtId → Option NamedStmtTree
stmt_in ts None = None
stmt_in ts (Some s) = Some (stmt_at ts s)

abbrev pub IsStmtBelow : ℕ → Option StmtId → Type 0
IsStmtBelow k None = ⊤
IsStmtBelow k (Some s) = s.0 < k

-- The same before it has a number.
abbrev pub made_in : (texts : List (List ℕ)) → List NamedExprTree → List NamedStmtTree → Option NamedStmt → Place → Option NamedStmtTree
made_in texts es ts None at = None
made_in texts es ts (Some s) at = Some (stmt_made texts es ts s at)

abbrev pub PartsBelow : (t e k : ℕ) → Option NamedStmt → Type 0
PartsBelow t e k None = ⊤
PartsBelow t e k (Some s) = NamedStmtParts t e k s

-- The conditions and blocks of an `if` have numbers below `e` and `k`.
abbrev pub ArmsBelow : (e k : ℕ) → List Arm → Type 0
ArmsBelow e k arms = AllByRecursion (λ a. (a.condition.0 < e) × BlockBelow k a.body) arms

-- A statement with no block in it.
abbrev pub is_simple : Stmt → Bool
is_simple (parsed.If arms otherwise) = false
is_simple (parsed.While label condition clauses body) = false
is_simple _ = true

-- A number above those of the statements in a statement.
abbrev pub above_stmt : Stmt → ℕ
above_stmt (parsed.If arms otherwise) = max (above_arms arms) (above_else otherwise)
above_stmt (parsed.While label condition clauses body) = above_block body
above_stmt _ = 0
