-- Numbers above those of parts, and parts by their place in a list.
use Rattle.std.proofs.Common.{◌≡◌, sym, subst, ℕ, zero, suc, ◌+◌, ◌<◌, ◌≤◌, List, [], ◌∷◌, length, slice_index_or, Option, Some, None, arith}
use Rattle.std.specs.List.{AllByRecursion}
use Rattle.wf_ast.specs.declared.numbers.ExprId.{ExprId}
use Rattle.wf_ast.specs.declared.numbers.StmtId.{StmtId}
use Rattle.wf_ast.specs.declared.parsed.Arm.{Arm}
use Rattle.wf_ast.specs.declared.parsed.Block.{Block}
use Rattle.wf_ast.specs.declared.parsed.Bounds.{Bounds}
use Rattle.wf_ast.specs.declared.parsed.Given.{Given}
use Rattle.wf_ast.specs.declared.parsed.Link.{Link}
use Rattle.wf_ast.specs.declared.parsed.Prefix.{Prefix}
use Rattle.wf_ast.specs.declared.parsed.Prefix.TheVariants as prefixes
use Rattle.wf_ast.specs.declared.parsed.TypeExpr.{TypeExpr}
use Rattle.wf_ast.specs.Above.{above_part, above_given, above_exprs, above_links, above_prefix, above_prefixes, above_bounds, above_type, above_stmts, above_block, above_else, above_arms}
use Rattle.wf_ast.specs.ParsedParts.{IsBelow, GivenBelow, LinksBelow, PrefixBelow, BoundsBelow, TypeBelow, BlockBelow, ElseBelow}
use Rattle.wf_ast.proofs.TreeLemmas.{all_map, BlockBelow-more}

-- Numbers above those of parts.
pub given_above : (k : ℕ) (gs : List Given) → GivenBelow k gs → above_given gs ≤ k
given_above k [] h = omega arith
given_above k (g ∷ gs) h = omega (arith, h.0, given_above k gs h.1)

pub exprs_above : (k : ℕ) (es : List ExprId) → AllByRecursion (λ e. e.0 < k) es → above_exprs es ≤ k
exprs_above k [] h = omega arith
exprs_above k (e ∷ es) h = omega (arith, h.0, exprs_above k es h.1)

pub links_above : (k : ℕ) (ls : List Link) → LinksBelow k ls → above_links ls ≤ k
links_above k [] h = omega arith
links_above k (l ∷ ls) h = omega (arith, h.0, links_above k ls h.1)

prefix_above : (k : ℕ) (p : Prefix) → PrefixBelow k p → above_prefix p ≤ k
prefix_above k (prefixes.Slice at) h = omega arith
prefix_above k (prefixes.Array length at) h = omega (arith, h)

pub prefixes_above : (k : ℕ) (ps : List Prefix) → AllByRecursion (PrefixBelow k) ps → above_prefixes ps ≤ k
prefixes_above k [] h = omega arith
prefixes_above k (p ∷ ps) h = omega (arith, prefix_above k p h.0, prefixes_above k ps h.1)

part_above : (k : ℕ) (e : Option ExprId) → IsBelow k e → above_part e ≤ k
part_above k None h = omega arith
part_above k (Some e) h = omega (arith, h)

pub bounds_above : (k : ℕ) (b : Option Bounds) → BoundsBelow k b → above_bounds b ≤ k
bounds_above k None h = omega arith
bounds_above k (Some b) h = omega (arith, part_above k b.low h.0, h.1)

pub type_above : (k : ℕ) (t : TypeExpr) → TypeBelow k t → above_type t ≤ k
type_above k t h = omega (arith, prefixes_above k t.prefixes h.0, bounds_above k t.bounds h.1)

pub stmts_above : (k : ℕ) (ss : List StmtId) → AllByRecursion (λ s. s.0 < k) ss → above_stmts ss ≤ k
stmts_above k [] h = omega arith
stmts_above k (s ∷ ss) h = omega (arith, h.0, stmts_above k ss h.1)

pub block_above : (k : ℕ) (b : Block) → BlockBelow k b → above_block b ≤ k
block_above k b h = stmts_above k b.items h

pub else_above : (k : ℕ) (b : Option Block) → ElseBelow k b → above_else b ≤ k
else_above k None h = omega arith
else_above k (Some b) h = block_above k b h

pub arms_above : (e k : ℕ) (arms : List Arm) → AllByRecursion (λ a. (a.condition.0 < e) × BlockBelow k a.body) arms → above_arms arms ≤ k
arms_above e k [] h = omega arith
arms_above e k (a ∷ arms) h = omega (arith, block_above k a.body h.0.1, arms_above e k arms h.1)

-- What lies below a number lies below a greater one.
pub arms_more : (e k l : ℕ) → k ≤ l → (arms : List Arm) → AllByRecursion (λ a. (a.condition.0 < e) × BlockBelow k a.body) arms
    → AllByRecursion (λ a. (a.condition.0 < e) × BlockBelow l a.body) arms
arms_more e k l m arms h = all_map (λ a. (a.condition.0 < e) × BlockBelow k a.body) (λ a. (a.condition.0 < e) × BlockBelow l a.body) (λ a p. (p.0, BlockBelow-more k l m a.body p.1)) arms h

-- Parts by their place in a list.
pub given_at_place : (k : ℕ) (gs : List Given) (i : ℕ) (d : Given) → i < length gs → GivenBelow k gs
    → ((slice_index_or gs i d).value.0 + 1 ≤ above_given gs) × ((slice_index_or gs i d).value.0 < k)
given_at_place k [] i d h b = absurd (omega (arith, h))
given_at_place k (g ∷ gs) zero d h b = (omega arith, b.0)
given_at_place k (g ∷ gs) (suc i) d h b = let r = given_at_place k gs i d (omega (arith, h)) b.1 in (omega (arith, r.0), r.1)

pub expr_at_place : (k : ℕ) (es : List ExprId) (i : ℕ) (d : ExprId) → i < length es → AllByRecursion (λ e. e.0 < k) es
    → ((slice_index_or es i d).0 + 1 ≤ above_exprs es) × ((slice_index_or es i d).0 < k)
expr_at_place k [] i d h b = absurd (omega (arith, h))
expr_at_place k (e ∷ es) zero d h b = (omega arith, b.0)
expr_at_place k (e ∷ es) (suc i) d h b = let r = expr_at_place k es i d (omega (arith, h)) b.1 in (omega (arith, r.0), r.1)

pub link_at_place : (k : ℕ) (ls : List Link) (i : ℕ) (d : Link) → i < length ls → LinksBelow k ls
    → ((slice_index_or ls i d).operand.0 + 1 ≤ above_links ls) × ((slice_index_or ls i d).operand.0 < k)
link_at_place k [] i d h b = absurd (omega (arith, h))
link_at_place k (l ∷ ls) zero d h b = (omega arith, b.0)
link_at_place k (l ∷ ls) (suc i) d h b = let r = link_at_place k ls i d (omega (arith, h)) b.1 in (omega (arith, r.0), r.1)

pub prefix_at_place : (k : ℕ) (ps : List Prefix) (i : ℕ) (d : Prefix) → i < length ps → AllByRecursion (PrefixBelow k) ps
    → (above_prefix (slice_index_or ps i d) ≤ above_prefixes ps) × PrefixBelow k (slice_index_or ps i d)
prefix_at_place k [] i d h b = absurd (omega (arith, h))
prefix_at_place k (p ∷ ps) zero d h b = (omega arith, b.0)
prefix_at_place k (p ∷ ps) (suc i) d h b = let r = prefix_at_place k ps i d (omega (arith, h)) b.1 in (omega (arith, r.0), r.1)

pub stmt_at_place : (k : ℕ) (ss : List StmtId) (i : ℕ) (d : StmtId) → i < length ss → AllByRecursion (λ s. s.0 < k) ss
    → ((slice_index_or ss i d).0 + 1 ≤ above_stmts ss) × ((slice_index_or ss i d).0 < k)
stmt_at_place k [] i d h b = absurd (omega (arith, h))
stmt_at_place k (s ∷ ss) zero d h b = (omega arith, b.0)
stmt_at_place k (s ∷ ss) (suc i) d h b = let r = stmt_at_place k ss i d (omega (arith, h)) b.1 in (omega (arith, r.0), r.1)

pub arm_at_place : (e k : ℕ) (arms : List Arm) (i : ℕ) (x : Arm) → x ≡ slice_index_or arms i x → i < length arms → AllByRecursion (λ a. (a.condition.0 < e) × BlockBelow k a.body) arms
    → (above_block x.body ≤ above_arms arms) × ((x.condition.0 < e) × BlockBelow k x.body)
arm_at_place e k [] i x is h b = absurd (omega (arith, h))
arm_at_place e k (a ∷ arms) zero x is h b =
    let P : Arm → Type 0 = λ y. (above_block y.body ≤ above_arms (a ∷ arms)) × ((y.condition.0 < e) × BlockBelow k y.body) in
    subst P (sym is) (omega arith, b.0)
arm_at_place e k (a ∷ arms) (suc i) x is h b = let r = arm_at_place e k arms i x is (omega (arith, h)) b.1 in (omega (arith, r.0), r.1)
