-- The tree of an expression's node is made of the trees of its parts, and keeps while nodes are added.
use Rattle.std.proofs.Common.{◌≡◌, ◌+◌, ◌<◌, ℕ, Option, None, Some, List, [], ◌∷◌, ◌++◌, length, refl, sym, ◌∙◌, ap, arith, length-append}
use Rattle.std.specs.List.{slice_get, AllByRecursion}
use Rattle.wf_text.specs.declared.place.Place.{Place}
use Rattle.wf_ast.specs.declared.numbers.ExprId.{ExprId}
use Rattle.wf_ast.specs.declared.parsed.Bounds.{Bounds}
use Rattle.wf_ast.specs.declared.parsed.Link.{Link}
use Rattle.wf_ast.specs.declared.parsed.Prefix.{Prefix}
use Rattle.wf_ast.specs.declared.parsed.Prefix.TheVariants as prefixes
use Rattle.wf_ast.specs.ParsedParts.{IsBelow, LinksBelow, PrefixBelow, BoundsBelow}
use Rattle.wf_ast.proofs.TreeLemmas.{Agree, slice_get-front, IsGrowing, IsInOrder, growing-made, ordered-parts, ordered-push}
use Rattle.wf_named.specs.declared.nodes.NamedCore.{NamedCore}
use Rattle.wf_named.specs.declared.nodes.NamedCore.TheVariants as cores
use Rattle.wf_named.specs.declared.nodes.NamedExpr.{NamedExpr}
use Rattle.wf_named.specs.declared.nodes.NamedExpr.TheVariants as exprs
use Rattle.wf_named.specs.declared.nodes.NamedExprNode.{NamedExprNode}
use Rattle.wf_named.specs.declared.nodes.NamedType.{NamedType}
use Rattle.wf_named.specs.NamedTree as tree
use Rattle.wf_named.specs.NamedTree.{NamedExprTree, NamedTypeTree}
use Rattle.wf_named.specs.NamedTrees.{expr_or, expr_at, part_at, links_at, args_at, bounds_at, core_at, prefixed, all_prefixed, type_at, expr_made, exprs_after, expr_trees}
use Rattle.wf_named.specs.NamedParts.{ArgsBelow, NamedTypeBelow, NamedExprParts, NamedExprsOrdered}

-- A list agrees with what it is a front of.
pub agree_front : {X : Type 0} (ts us : List X) → Agree (length ts) ts (ts ++ us)
agree_front ts us i h = sym (slice_get-front ts us i h)

module _ (k : ℕ) (ts us : List NamedExprTree) (a : Agree k ts us) where
  pub expr_at-same : (e : ExprId) → e.0 < k → expr_at ts e ≡ expr_at us e
  expr_at-same e h = ap expr_or (a e.0 h)

  pub part_at-same : (e : Option ExprId) → IsBelow k e → part_at ts e ≡ part_at us e
  part_at-same None h = refl
  part_at-same (Some e) h = ap tree.present (expr_at-same e h)

  pub links_at-same : (ls : List Link) → LinksBelow k ls → links_at ts ls ≡ links_at us ls
  links_at-same [] h = refl
  links_at-same (l ∷ ls) h = let p = expr_at-same l.operand h.0 in let q = links_at-same ls h.1 in cc

  pub args_at-same : (es : List ExprId) → ArgsBelow k es → args_at ts es ≡ args_at us es
  args_at-same [] h = refl
  args_at-same (e ∷ es) h = let p = expr_at-same e h.0 in let q = args_at-same es h.1 in cc

  pub bounds_at-same : (b : Option Bounds) → BoundsBelow k b → bounds_at ts b ≡ bounds_at us b
  bounds_at-same None h = refl
  bounds_at-same (Some b) h = let p = part_at-same b.low h.0 in let q = expr_at-same b.high h.1 in cc

  pub core_at-same : (c : NamedCore) (b : Option Bounds) → BoundsBelow k b → core_at ts c b ≡ core_at us c b
  core_at-same (cores.Base of at) b h = ap (tree.base_type of at) (bounds_at-same b h)
  core_at-same (cores.Struct of at) b h = refl

  pub prefixed-same : (p : Prefix) (t : NamedTypeTree) → PrefixBelow k p → prefixed ts p t ≡ prefixed us p t
  prefixed-same (prefixes.Slice at) t h = refl
  prefixed-same (prefixes.Array length at) t h = ap (λ e. tree.array_of e at t) (expr_at-same length h)

  pub all_prefixed-same : (ps : List Prefix) (t u : NamedTypeTree) → t ≡ u → AllByRecursion (PrefixBelow k) ps → all_prefixed ts ps t ≡ all_prefixed us ps u
  all_prefixed-same [] t u e h = e
  all_prefixed-same (p ∷ ps) t u e h = prefixed-same p (all_prefixed ts ps t) h.0 ∙ ap (prefixed us p) (all_prefixed-same ps t u e h.1)

  pub type_at-same : (t : NamedType) → NamedTypeBelow k t → type_at ts t ≡ type_at us t
  type_at-same t h = all_prefixed-same t.prefixes _ _ (core_at-same t.core t.bounds h.1) h.0

  pub expr_made-same : (e : NamedExpr) (at : Place) → NamedExprParts k e → expr_made ts e at ≡ expr_made us e at
  expr_made-same (exprs.Number value) at h = refl
  expr_made-same (exprs.Status number) at h = refl
  expr_made-same (exprs.Truth value) at h = refl
  expr_made-same (exprs.Path path) at h = refl
  expr_made-same (exprs.Index base place) at h = ap (λ e. tree.index base e at) (expr_at-same place h)
  expr_made-same (exprs.Slice base from to) at h = let p = part_at-same from h.0 in let q = part_at-same to h.1 in cc
  expr_made-same (exprs.Call c) at h = ap (λ es. tree.answer (tree.call c.callee c.at c.mark es)) (args_at-same c.args h)
  expr_made-same (exprs.Chain op first links) at h = let p = expr_at-same first h.0 in let q = links_at-same links h.1 in cc
  expr_made-same (exprs.Convert of to) at h = let p = expr_at-same of h.0 in let q = type_at-same to h.1 in cc
  expr_made-same (exprs.Not of) at h = ap (λ e. tree.negation e at) (expr_at-same of h)

-- The trees of the expressions grow by one a node, and their nodes are in order.
exprs_grow : IsGrowing (λ ts n. expr_made ts n.expr n.at) exprs_after
exprs_grow = record { none = λ ts. refl; more = λ ts n ns. refl }

exprs_in_order : IsInOrder (λ k n. NamedExprParts k n.expr) NamedExprsOrdered
exprs_in_order = record { none = λ k. tt; more = λ k n ns p o. (p, o); first = λ k n ns o. o.0; others = λ k n ns o. o.1 }

pub exprs_after-length : (ns : List NamedExprNode) (ts : List NamedExprTree) → length (exprs_after ts ns) ≡ length ts + length ns
exprs_after-length [] ts = omega arith
exprs_after-length (n ∷ ns) ts =
    let made = expr_made ts n.expr n.at in
    let p = exprs_after-length ns (ts ++ made ∷ []) in
    omega (arith, p, length-append ts (made ∷ []))

pub exprs_after-push : (ns : List NamedExprNode) (ts : List NamedExprTree) (n : NamedExprNode)
    → exprs_after ts (ns ++ n ∷ []) ≡ exprs_after ts ns ++ expr_made (exprs_after ts ns) n.expr n.at ∷ []
exprs_after-push [] ts n = refl
exprs_after-push (m ∷ ns) ts n = exprs_after-push ns (ts ++ expr_made ts m.expr m.at ∷ []) n

pub exprs_after-made : (ns : List NamedExprNode) (ts : List NamedExprTree) (k : ℕ) → k ≡ length ts → NamedExprsOrdered k ns
    → (i : ℕ) (n : NamedExprNode) → slice_get ns i ≡ Some n
    → slice_get (exprs_after ts ns) (k + i) ≡ Some (expr_made (exprs_after ts ns) n.expr n.at)
exprs_after-made = growing-made _ exprs_after exprs_grow (λ k n. NamedExprParts k n.expr) NamedExprsOrdered exprs_in_order (λ k ts us a n p. expr_made-same k ts us a n.expr n.at p)

pub expr_trees-node : (ns : List NamedExprNode) → NamedExprsOrdered 0 ns → (i : ℕ) (n : NamedExprNode) → slice_get ns i ≡ Some n
    → expr_or (slice_get (expr_trees ns) i) ≡ expr_made (expr_trees ns) n.expr n.at
unfolding expr_trees
expr_trees-node ns o i n g =
    let spot : 0 + i ≡ i = omega arith in
    ap (λ j. expr_or (slice_get (exprs_after [] ns) j)) (sym spot) ∙ ap expr_or (exprs_after-made ns [] 0 refl o i n g)

pub expr_trees-push : (ns : List NamedExprNode) (n : NamedExprNode) → expr_trees (ns ++ n ∷ []) ≡ expr_trees ns ++ expr_made (expr_trees ns) n.expr n.at ∷ []
unfolding expr_trees
expr_trees-push ns n = exprs_after-push ns [] n

pub expr_trees-length : (ns : List NamedExprNode) → length (expr_trees ns) ≡ length ns
unfolding expr_trees
expr_trees-length ns = exprs_after-length ns [] ∙ (omega arith)

-- Trees agree with those of more nodes.
pub expr_trees-agree : (ns : List NamedExprNode) (n : NamedExprNode) → Agree (length ns) (expr_trees ns) (expr_trees (ns ++ n ∷ []))
expr_trees-agree ns n i h =
    let made = expr_made (expr_trees ns) n.expr n.at in
    let inside : i < length (expr_trees ns) = omega (arith, expr_trees-length ns, h) in
    agree_front (expr_trees ns) (made ∷ []) i inside ∙ ap (λ ts. slice_get ts i) (sym (expr_trees-push ns n))

pub exprs_parts : (ns : List NamedExprNode) (k : ℕ) → NamedExprsOrdered k ns → (i : ℕ) (n : NamedExprNode) → slice_get ns i ≡ Some n → NamedExprParts (k + i) n.expr
exprs_parts = ordered-parts (λ k n. NamedExprParts k n.expr) NamedExprsOrdered exprs_in_order

pub exprs_push : (ns : List NamedExprNode) (k : ℕ) (n : NamedExprNode) → NamedExprsOrdered k ns → NamedExprParts (k + length ns) n.expr → NamedExprsOrdered k (ns ++ n ∷ [])
exprs_push = ordered-push (λ k n. NamedExprParts k n.expr) NamedExprsOrdered exprs_in_order
