-- A number above those of the parts of a node: what a walk's measure counts from.
use Rattle.std.specs.Prelude.{ℕ, ◌+◌, max, Option, Some, None, List, [], ◌∷◌}
use Rattle.wf_ast.specs.declared.numbers.ExprId.{ExprId}
use Rattle.wf_ast.specs.declared.numbers.StmtId.{StmtId}
use Rattle.wf_ast.specs.declared.parsed.Arm.{Arm}
use Rattle.wf_ast.specs.declared.parsed.Block.{Block}
use Rattle.wf_ast.specs.declared.parsed.Bounds.{Bounds}
use Rattle.wf_ast.specs.declared.parsed.Given.{Given}
use Rattle.wf_ast.specs.declared.parsed.Link.{Link}
use Rattle.wf_ast.specs.declared.parsed.Prefix.{Prefix}
use Rattle.wf_ast.specs.declared.parsed.Prefix.TheVariants as prefixes
use Rattle.wf_ast.specs.declared.parsed.TypeExpr.{TypeExpr}

abbrev pub above_part : Option ExprId → ℕ
above_part None = 0
above_part (Some e) = e.0 + 1

abbrev pub above_given : List Given → ℕ
above_given [] = 0
above_given (g ∷ gs) = max (g.value.0 + 1) (above_given gs)

abbrev pub above_exprs : List ExprId → ℕ
above_exprs [] = 0
above_exprs (e ∷ es) = max (e.0 + 1) (above_exprs es)

abbrev pub above_links : List Link → ℕ
above_links [] = 0
above_links (l ∷ ls) = max (l.operand.0 + 1) (above_links ls)

abbrev pub above_prefix : Prefix → ℕ
above_prefix (prefixes.Slice at) = 0
above_prefix (prefixes.Array length at) = length.0 + 1

abbrev pub above_prefixes : List Prefix → ℕ
above_prefixes [] = 0
above_prefixes (p ∷ ps) = max (above_prefix p) (above_prefixes ps)

abbrev pub above_bounds : Option Bounds → ℕ
above_bounds None = 0
above_bounds (Some b) = max (above_part b.low) (b.high.0 + 1)

abbrev pub above_type : TypeExpr → ℕ
above_type t = max (above_prefixes t.prefixes) (above_bounds t.bounds)

abbrev pub above_stmts : List StmtId → ℕ
above_stmts [] = 0
above_stmts (s ∷ ss) = max (s.0 + 1) (above_stmts ss)

abbrev pub above_block : Block → ℕ
above_block b = above_stmts b.items

abbrev pub above_else : Option Block → ℕ
above_else None = 0
above_else (Some b) = above_block b

abbrev pub above_arms : List Arm → ℕ
above_arms [] = 0
above_arms (a ∷ arms) = max (above_block a.body) (above_arms arms)
