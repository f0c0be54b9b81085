-- A node's tree is made of those of its parts, and stays while nodes are added.
use Rattle.std.proofs.Common.{if◌then◌else◌, true, false, ◌≡◌, ◌+◌, ◌<◌, ◌≤◌, ℕ, Bool, Option, None, Some, List, [], ◌∷◌, ◌++◌, length, refl, sym, ◌∙◌, ap, subst, arith, suc, zero, length-append}
use Rattle.std.specs.List.{slice_get, AllByRecursion}
use Rattle.wf_text.specs.declared.place.Place.{Place}
use Rattle.wf_ast.specs.declared.numbers.ExprId.{ExprId}
use Rattle.wf_ast.specs.declared.numbers.StmtId.{StmtId}
use Rattle.wf_ast.specs.declared.parsed.Arm.{Arm}
use Rattle.wf_ast.specs.declared.parsed.Block.{Block}
use Rattle.wf_ast.specs.declared.parsed.Bounds.{Bounds}
use Rattle.wf_ast.specs.declared.parsed.Core.{Core}
use Rattle.wf_ast.specs.declared.parsed.Core.TheVariants as cores
use Rattle.wf_ast.specs.declared.parsed.Decl.{Decl}
use Rattle.wf_ast.specs.declared.parsed.Decl.TheVariants as decls
use Rattle.wf_ast.specs.declared.parsed.ExprNode.{ExprNode}
use Rattle.wf_ast.specs.declared.parsed.Expr.{Expr}
use Rattle.wf_ast.specs.declared.parsed.Expr.TheVariants as exprs
use Rattle.wf_ast.specs.declared.parsed.Field.{Field}
use Rattle.wf_ast.specs.declared.parsed.Given.{Given}
use Rattle.wf_ast.specs.declared.parsed.Link.{Link}
use Rattle.wf_ast.specs.declared.parsed.Prefix.{Prefix}
use Rattle.wf_ast.specs.declared.parsed.Prefix.TheVariants as prefixes
use Rattle.wf_ast.specs.declared.parsed.Stmt.{Stmt}
use Rattle.wf_ast.specs.declared.parsed.Stmt.TheVariants as stmts
use Rattle.wf_ast.specs.declared.parsed.StmtNode.{StmtNode}
use Rattle.wf_ast.specs.declared.parsed.Target.{Target}
use Rattle.wf_ast.specs.declared.parsed.Target.TheVariants as targets
use Rattle.wf_ast.specs.declared.parsed.TypeExpr.{TypeExpr}
use Rattle.wf_ast.specs.declared.parsed.Via.{Via}
use Rattle.wf_ast.specs.ParsedTree as tree
use Rattle.wf_ast.specs.ParsedTree.{ExprTree, TypeTree, StmtTree, ArmTrees}
use Rattle.wf_ast.specs.ParsedTrees.{expr_or, stmt_or, expr_at, part_at, links_at, given_at, bounds_at, core_at, prefixed, all_prefixed, type_at, expr_made, exprs_after, expr_trees, stmt_at, items_at, block_at, else_at, arms_at, stmt_made, stmts_after, stmt_trees}
use Rattle.wf_ast.specs.ParsedParts.{Parsed, IsShaped, IsBelow, LinksBelow, GivenBelow, PrefixBelow, BoundsBelow, TypeBelow, ExprParts, BlockBelow, ElseBelow, TargetBelow, ViaBelow, StmtParts, FieldsBelow, ResultBelow, DeclParts, ExprsOrdered, StmtsOrdered}

-- Lists.
pub all_map : {X : Type 0} (P Q : X → Type 0) → ((x : X) → P x → Q x) → (xs : List X) → AllByRecursion P xs → AllByRecursion Q xs
all_map P Q f [] a = a
all_map P Q f (x ∷ xs) a = (f x a.0, all_map P Q f xs a.1)

pub all_push : {X : Type 0} (P : X → Type 0) (xs : List X) (y : X) → AllByRecursion P xs → P y → AllByRecursion P (xs ++ y ∷ [])
all_push P [] y a p = (p, tt)
all_push P (x ∷ xs) y a p = (a.0, all_push P xs y a.1 p)

pub slice_get-front : {X : Type 0} (xs ys : List X) (i : ℕ) → i < length xs → slice_get (xs ++ ys) i ≡ slice_get xs i
slice_get-front [] ys i h = absurd (omega arith)
slice_get-front (x ∷ xs) ys zero h = refl
slice_get-front (x ∷ xs) ys (suc i) h = slice_get-front xs ys i (omega arith)

pub slice_get-seam : {X : Type 0} (xs : List X) (y : X) (ys : List X) → slice_get (xs ++ y ∷ ys) (length xs) ≡ Some y
slice_get-seam [] y ys = refl
slice_get-seam (x ∷ xs) y ys = slice_get-seam xs y ys

-- The first `k` trees are the same.
abbrev pub Agree : {X : Type 0} → ℕ → List X → List X → Type 0
Agree k ts us = (i : ℕ) → i < k → slice_get ts i ≡ slice_get us i

-- A list of trees to which one tree a node is added, made of the trees before it.
pub record IsGrowing {N T : Type 0} (make : List T → N → T) (after : List T → List N → List T) : Type 0 where
  pub none : (ts : List T) → after ts [] ≡ ts
  pub more : (ts : List T) (n : N) (ns : List N) → after ts (n ∷ ns) ≡ after (ts ++ make ts n ∷ []) ns

-- Each node of a list has parts that fit its number.
pub record IsInOrder {N : Type 0} (Parts : ℕ → N → Type 0) (Ordered : ℕ → List N → Type 0) : Type 0 where
  pub none : (k : ℕ) → Ordered k []
  pub more : (k : ℕ) (n : N) (ns : List N) → Parts k n → Ordered (k + 1) ns → Ordered k (n ∷ ns)
  pub first : (k : ℕ) (n : N) (ns : List N) → Ordered k (n ∷ ns) → Parts k n
  pub others : (k : ℕ) (n : N) (ns : List N) → Ordered k (n ∷ ns) → Ordered (k + 1) ns

module _ {N T : Type 0} (make : List T → N → T) (after : List T → List N → List T) (g : IsGrowing make after) where
  -- It keeps the trees that it began with.
  pub growing-front : (ns : List N) (ts : List T) → Agree (length ts) ts (after ts ns)
  growing-front [] ts i h = ap (λ us. slice_get us i) (sym (g.none ts))
  growing-front (n ∷ ns) ts i h =
      let longer = ts ++ make ts n ∷ [] in
      let within : i < length longer = omega (arith, length-append ts (make ts n ∷ [])) in
      sym (slice_get-front ts (make ts n ∷ []) i h) ∙ growing-front ns longer i within ∙ ap (λ us. slice_get us i) (sym (g.more ts n ns))

  -- The tree of a node is the one made over all trees, since it has its parts among those before it.
  pub growing-made : (Parts : ℕ → N → Type 0) (Ordered : ℕ → List N → Type 0) → IsInOrder Parts Ordered → ((k : ℕ) (ts us : List T) → Agree k ts us → (n : N) → Parts k n → make ts n ≡ make us n)
      → (ns : List N) (ts : List T) (k : ℕ) → k ≡ length ts → Ordered k ns → (i : ℕ) (n : N) → slice_get ns i ≡ Some n → slice_get (after ts ns) (k + i) ≡ Some (make (after ts ns) n)
  growing-made Parts Ordered order same [] ts k e o i n found = absurd (cc found)
  growing-made Parts Ordered order same (m ∷ ns) ts k e o zero n found =
      let is : m ≡ n = cc found in
      let whole = after ts (m ∷ ns) in
      let made = make ts m in
      let longer = ts ++ made ∷ [] in
      let here : k + 0 < length longer = omega (arith, length-append ts (made ∷ [])) in
      let front : slice_get longer (k + 0) ≡ slice_get whole (k + 0) = growing-front ns longer (k + 0) here ∙ ap (λ us. slice_get us (k + 0)) (sym (g.more ts m ns)) in
      let spot : k + 0 ≡ length ts = omega arith in
      let seam : slice_get longer (k + 0) ≡ Some made = ap (slice_get longer) spot ∙ slice_get-seam ts made [] in
      let over_all : made ≡ make whole m = same k ts whole (λ j h. growing-front (m ∷ ns) ts j (omega arith)) m (order.first k m ns o) in
      sym front ∙ seam ∙ ap Some over_all ∙ ap (λ x. Some (make whole x)) is
  growing-made Parts Ordered order same (m ∷ ns) ts k e o (suc i) n found =
      let longer = ts ++ make ts m ∷ [] in
      let one_more : k + 1 ≡ length longer = omega (arith, length-append ts (make ts m ∷ [])) in
      let spot : k + suc i ≡ (k + 1) + i = omega arith in
      let P : List T → Type 0 = λ us. slice_get us (k + suc i) ≡ Some (make us n) in
      subst P (sym (g.more ts m ns)) (ap (slice_get (after longer ns)) spot ∙ growing-made Parts Ordered order same ns longer (k + 1) one_more (order.others k m ns o) i n found)

module _ {N : Type 0} (Parts : ℕ → N → Type 0) (Ordered : ℕ → List N → Type 0) (order : IsInOrder Parts Ordered) where
  pub ordered-parts : (ns : List N) (k : ℕ) → Ordered k ns → (i : ℕ) (n : N) → slice_get ns i ≡ Some n → Parts (k + i) n
  ordered-parts [] k o i n g = absurd (cc g)
  ordered-parts (m ∷ ns) k o zero n g =
      let is : m ≡ n = cc g in
      let spot : k ≡ k + 0 = omega arith in
      let P : N → Type 0 = λ x. Parts (k + 0) x in
      let Q : ℕ → Type 0 = λ j. Parts j m in
      subst P is (subst Q spot (order.first k m ns o))
  ordered-parts (m ∷ ns) k o (suc i) n g =
      let spot : (k + 1) + i ≡ k + suc i = omega arith in
      let Q : ℕ → Type 0 = λ j. Parts j n in
      subst Q spot (ordered-parts ns (k + 1) (order.others k m ns o) i n g)

  pub ordered-push : (ns : List N) (k : ℕ) (n : N) → Ordered k ns → Parts (k + length ns) n → Ordered k (ns ++ n ∷ [])
  ordered-push [] k n o p =
      let spot : k + 0 ≡ k = omega arith in
      let Q : ℕ → Type 0 = λ j. Parts j n in
      order.more k n [] (subst Q spot p) (order.none (k + 1))
  ordered-push (m ∷ ns) k n o p =
      let spot : k + suc (length ns) ≡ (k + 1) + length ns = omega arith in
      let Q : ℕ → Type 0 = λ j. Parts j n in
      order.more k m (ns ++ n ∷ []) (order.first k m ns o) (ordered-push ns (k + 1) n (order.others k m ns o) (subst Q spot p))

-- Trees that agree make the same of an expression.
pub expr_at-same : (k : ℕ) (ts us : List ExprTree) → Agree k ts us → (e : ExprId) → e.0 < k → expr_at ts e ≡ expr_at us e
expr_at-same k ts us a e h = ap expr_or (a e.0 h)

pub part_at-same : (k : ℕ) (ts us : List ExprTree) → Agree k ts us → (e : Option ExprId) → IsBelow k e → part_at ts e ≡ part_at us e
part_at-same k ts us a None h = refl
part_at-same k ts us a (Some e) h = ap tree.present (expr_at-same k ts us a e h)

pub links_at-same : (k : ℕ) (ts us : List ExprTree) → Agree k ts us → (ls : List Link) → LinksBelow k ls → links_at ts ls ≡ links_at us ls
links_at-same k ts us a [] h = refl
links_at-same k ts us a (l ∷ ls) h = let p = expr_at-same k ts us a l.operand h.0 in let q = links_at-same k ts us a ls h.1 in cc

pub given_at-same : (k : ℕ) (ts us : List ExprTree) → Agree k ts us → (gs : List Given) → GivenBelow k gs → given_at ts gs ≡ given_at us gs
given_at-same k ts us a [] h = refl
given_at-same k ts us a (g ∷ gs) h = let p = expr_at-same k ts us a g.value h.0 in let q = given_at-same k ts us a gs h.1 in cc

pub bounds_at-same : (k : ℕ) (ts us : List ExprTree) → Agree k ts us → (b : Option Bounds) → BoundsBelow k b → bounds_at ts b ≡ bounds_at us b
bounds_at-same k ts us a None h = refl
bounds_at-same k ts us a (Some b) h = let p = part_at-same k ts us a b.low h.0 in let q = expr_at-same k ts us a b.high h.1 in cc

pub core_at-same : (k : ℕ) (ts us : List ExprTree) → Agree k ts us → (c : Core) (b : Option Bounds) → BoundsBelow k b → core_at ts c b ≡ core_at us c b
core_at-same k ts us a (cores.Base name at) b h = ap (tree.base_type name at) (bounds_at-same k ts us a b h)
core_at-same k ts us a (cores.BaseStatus at) b h = ap (tree.status_type at) (bounds_at-same k ts us a b h)
core_at-same k ts us a (cores.Struct name) b h = refl

pub prefixed-same : (k : ℕ) (ts us : List ExprTree) → Agree k ts us → (p : Prefix) (t : TypeTree) → PrefixBelow k p → prefixed ts p t ≡ prefixed us p t
prefixed-same k ts us a (prefixes.Slice at) t h = refl
prefixed-same k ts us a (prefixes.Array length at) t h = ap (λ e. tree.array_of e at t) (expr_at-same k ts us a length h)

pub all_prefixed-same : (k : ℕ) (ts us : List ExprTree) → Agree k ts us → (ps : List Prefix) (t u : TypeTree) → t ≡ u → AllByRecursion (PrefixBelow k) ps → all_prefixed ts ps t ≡ all_prefixed us ps u
all_prefixed-same k ts us a [] t u e h = e
all_prefixed-same k ts us a (p ∷ ps) t u e h = prefixed-same k ts us a p (all_prefixed ts ps t) h.0 ∙ ap (prefixed us p) (all_prefixed-same k ts us a ps t u e h.1)

pub type_at-same : (k : ℕ) (ts us : List ExprTree) → Agree k ts us → (t : TypeExpr) → TypeBelow k t → type_at ts t ≡ type_at us t
type_at-same k ts us a t h = all_prefixed-same k ts us a t.prefixes _ _ (core_at-same k ts us a t.core t.bounds h.1) h.0

pub expr_made-same : (k : ℕ) (ts us : List ExprTree) → Agree k ts us → (e : Expr) (at : Place) → ExprParts k e → expr_made ts e at ≡ expr_made us e at
expr_made-same k ts us a (exprs.Number value) at h = refl
expr_made-same k ts us a (exprs.OwnStatus text) at h = refl
expr_made-same k ts us a (exprs.BaseStatus text) at h = refl
expr_made-same k ts us a exprs.Fine at h = refl
expr_made-same k ts us a (exprs.Truth value) at h = refl
expr_made-same k ts us a (exprs.Path path) at h = refl
expr_made-same k ts us a (exprs.Index base place) at h = ap (λ e. tree.index base e at) (expr_at-same k ts us a place h)
expr_made-same k ts us a (exprs.Slice base from to) at h = let p = part_at-same k ts us a from h.0 in let q = part_at-same k ts us a to h.1 in cc
expr_made-same k ts us a (exprs.Call c) at h = ap (λ gs. tree.answer (tree.call c.on c.method c.mark gs)) (given_at-same k ts us a c.args h)
expr_made-same k ts us a (exprs.Chain op first links) at h = let p = expr_at-same k ts us a first h.0 in let q = links_at-same k ts us a links h.1 in cc
expr_made-same k ts us a (exprs.Convert of to) at h = let p = expr_at-same k ts us a of h.0 in let q = type_at-same k ts us a to h.1 in cc
expr_made-same k ts us a (exprs.Not of) at h = ap (λ e. tree.negation e at) (expr_at-same k ts us a of h)

-- The trees of the expressions are such a list, and their nodes are in order.
exprs_grow : IsGrowing (λ ts n. expr_made ts n.expr n.at) exprs_after
exprs_grow = record { none = λ ts. refl; more = λ ts n ns. refl }

exprs_in_order : IsInOrder (λ k n. ExprParts k n.expr) ExprsOrdered
exprs_in_order = record { none = λ k. tt; more = λ k n ns p o. (p, o); first = λ k n ns o. o.0; others = λ k n ns o. o.1 }

pub exprs_after-made : (ns : List ExprNode) (ts : List ExprTree) (k : ℕ) → k ≡ length ts → ExprsOrdered k ns
    → (i : ℕ) (n : ExprNode) → slice_get ns i ≡ Some n
    → slice_get (exprs_after ts ns) (k + i) ≡ Some (expr_made (exprs_after ts ns) n.expr n.at)
exprs_after-made = growing-made _ exprs_after exprs_grow (λ k n. ExprParts k n.expr) ExprsOrdered exprs_in_order (λ k ts us a n p. expr_made-same k ts us a n.expr n.at p)

pub expr_trees-node : (ns : List ExprNode) → ExprsOrdered 0 ns → (i : ℕ) (n : ExprNode) → slice_get ns i ≡ Some n
    → expr_or (slice_get (expr_trees ns) i) ≡ expr_made (expr_trees ns) n.expr n.at
unfolding expr_trees
expr_trees-node ns o i n g =
    let spot : 0 + i ≡ i = omega arith in
    ap (λ j. expr_or (slice_get (exprs_after [] ns) j)) (sym spot) ∙ ap expr_or (exprs_after-made ns [] 0 refl o i n g)

pub exprs_parts : (ns : List ExprNode) (k : ℕ) → ExprsOrdered k ns → (i : ℕ) (n : ExprNode) → slice_get ns i ≡ Some n → ExprParts (k + i) n.expr
exprs_parts = ordered-parts (λ k n. ExprParts k n.expr) ExprsOrdered exprs_in_order

pub exprs_push : (ns : List ExprNode) (k : ℕ) (n : ExprNode) → ExprsOrdered k ns → ExprParts (k + length ns) n.expr → ExprsOrdered k (ns ++ n ∷ [])
exprs_push = ordered-push (λ k n. ExprParts k n.expr) ExprsOrdered exprs_in_order

-- Statements likewise, over the same expressions.
pub items_at-same : (k : ℕ) (ts us : List StmtTree) → Agree k ts us → (ss : List StmtId) (at : Place) → AllByRecursion (λ s. s.0 < k) ss → items_at ts ss at ≡ items_at us ss at
items_at-same k ts us a [] at h = refl
items_at-same k ts us a (s ∷ ss) at h = let p : stmt_at ts s ≡ stmt_at us s = ap stmt_or (a s.0 h.0) in let q = items_at-same k ts us a ss at h.1 in cc

pub else_at-same : (k : ℕ) (ts us : List StmtTree) → Agree k ts us → (b : Option Block) → ElseBelow k b → else_at ts b ≡ else_at us b
else_at-same k ts us a None h = refl
else_at-same k ts us a (Some b) h = ap tree.otherwise (items_at-same k ts us a b.items b.close h)

pub arms_at-same : (e k : ℕ) (es : List ExprTree) (ts us : List StmtTree) → Agree k ts us → (arms : List Arm) (x y : ArmTrees) → x ≡ y
    → AllByRecursion (λ a. (a.condition.0 < e) × BlockBelow k a.body) arms → arms_at es ts arms x ≡ arms_at es us arms y
arms_at-same e k es ts us a [] x y p h = p
arms_at-same e k es ts us a (m ∷ ms) x y p h =
    let q : block_at ts m.body ≡ block_at us m.body = items_at-same k ts us a m.body.items m.body.close h.0.1 in
    let r = arms_at-same e k es ts us a ms x y p h.1 in cc

pub stmt_made-same : (e k : ℕ) (es : List ExprTree) (ts us : List StmtTree) → Agree k ts us → (s : Stmt) (at : Place) → StmtParts e k s → stmt_made es ts s at ≡ stmt_made es us s at
stmt_made-same e k es ts us a (stmts.Var name of) at h = refl
stmt_made-same e k es ts us a (stmts.Assign target op sign value) at h = refl
stmt_made-same e k es ts us a (stmts.Keep target c) at h = refl
stmt_made-same e k es ts us a (stmts.Call c) at h = refl
stmt_made-same e k es ts us a (stmts.If arms otherwise) at h =
    ap (λ t. tree.branch t at) (arms_at-same e k es ts us a arms _ _ (else_at-same k ts us a otherwise h.1) h.0)
stmt_made-same e k es ts us a (stmts.While label condition clauses body) at h =
    let q : block_at ts body ≡ block_at us body = items_at-same k ts us a body.items body.close h.2 in cc
stmt_made-same e k es ts us a (stmts.Break label) at h = refl
stmt_made-same e k es ts us a (stmts.Continue label) at h = refl
stmt_made-same e k es ts us a (stmts.Return value) at h = refl
stmt_made-same e k es ts us a (stmts.Yield value) at h = refl
stmt_made-same e k es ts us a (stmts.Assert goal v) at h = refl

stmts_grow : (es : List ExprTree) → IsGrowing (λ ts n. stmt_made es ts n.stmt n.at) (stmts_after es)
stmts_grow es = record { none = λ ts. refl; more = λ ts n ns. refl }

stmts_in_order : (e : ℕ) → IsInOrder (λ k n. StmtParts e k n.stmt) (StmtsOrdered e)
stmts_in_order e = record { none = λ k. tt; more = λ k n ns p o. (p, o); first = λ k n ns o. o.0; others = λ k n ns o. o.1 }

pub stmts_after-made : (e : ℕ) (es : List ExprTree) (ns : List StmtNode) (ts : List StmtTree) (k : ℕ) → k ≡ length ts → StmtsOrdered e k ns
    → (i : ℕ) (n : StmtNode) → slice_get ns i ≡ Some n
    → slice_get (stmts_after es ts ns) (k + i) ≡ Some (stmt_made es (stmts_after es ts ns) n.stmt n.at)
stmts_after-made e es = growing-made _ (stmts_after es) (stmts_grow es) (λ k n. StmtParts e k n.stmt) (StmtsOrdered e) (stmts_in_order e) (λ k ts us a n p. stmt_made-same e k es ts us a n.stmt n.at p)

pub stmt_trees-node : (e : ℕ) (exprs : List ExprNode) (ns : List StmtNode) → StmtsOrdered e 0 ns → (i : ℕ) (n : StmtNode) → slice_get ns i ≡ Some n
    → stmt_or (slice_get (stmt_trees exprs ns) i) ≡ stmt_made (expr_trees exprs) (stmt_trees exprs ns) n.stmt n.at
unfolding stmt_trees
stmt_trees-node e exprs ns o i n g =
    let spot : 0 + i ≡ i = omega arith in
    ap (λ j. stmt_or (slice_get (stmts_after (expr_trees exprs) [] ns) j)) (sym spot) ∙ ap stmt_or (stmts_after-made e (expr_trees exprs) ns [] 0 refl o i n g)

pub stmts_parts : (e : ℕ) (ns : List StmtNode) (k : ℕ) → StmtsOrdered e k ns → (i : ℕ) (n : StmtNode) → slice_get ns i ≡ Some n → StmtParts e (k + i) n.stmt
stmts_parts e = ordered-parts (λ k n. StmtParts e k n.stmt) (StmtsOrdered e) (stmts_in_order e)

pub stmts_push : (e : ℕ) (ns : List StmtNode) (k : ℕ) (n : StmtNode) → StmtsOrdered e k ns → StmtParts e (k + length ns) n.stmt → StmtsOrdered e k (ns ++ n ∷ [])
stmts_push e = ordered-push (λ k n. StmtParts e k n.stmt) (StmtsOrdered e) (stmts_in_order e)

-- What is below a number is below a larger one.
pub IsBelow-more : (k l : ℕ) → k ≤ l → (e : Option ExprId) → IsBelow k e → IsBelow l e
IsBelow-more k l m None h = tt
IsBelow-more k l m (Some e) h = omega arith

pub GivenBelow-more : (k l : ℕ) → k ≤ l → (gs : List Given) → GivenBelow k gs → GivenBelow l gs
GivenBelow-more k l m gs h = all_map (λ g. g.value.0 < k) (λ g. g.value.0 < l) (λ g p. omega arith) gs h

pub LinksBelow-more : (k l : ℕ) → k ≤ l → (ls : List Link) → LinksBelow k ls → LinksBelow l ls
LinksBelow-more k l m ls h = all_map (λ x. x.operand.0 < k) (λ x. x.operand.0 < l) (λ x p. omega (arith, p, m)) ls h

pub PrefixBelow-more : (k l : ℕ) → k ≤ l → (p : Prefix) → PrefixBelow k p → PrefixBelow l p
PrefixBelow-more k l m (prefixes.Slice at) h = tt
PrefixBelow-more k l m (prefixes.Array length at) h = omega arith

pub BoundsBelow-more : (k l : ℕ) → k ≤ l → (b : Option Bounds) → BoundsBelow k b → BoundsBelow l b
BoundsBelow-more k l m None h = tt
BoundsBelow-more k l m (Some b) h = (IsBelow-more k l m b.low h.0, omega (arith, h.1))

pub TypeBelow-more : (k l : ℕ) → k ≤ l → (t : TypeExpr) → TypeBelow k t → TypeBelow l t
TypeBelow-more k l m t h = (all_map (PrefixBelow k) (PrefixBelow l) (PrefixBelow-more k l m) t.prefixes h.0, BoundsBelow-more k l m t.bounds h.1)

pub TargetBelow-more : (k l : ℕ) → k ≤ l → (t : Target) → TargetBelow k t → TargetBelow l t
TargetBelow-more k l m (targets.Path path) h = tt
TargetBelow-more k l m (targets.Element base place at) h = omega arith

pub ViaBelow-more : (k l : ℕ) → k ≤ l → (v : Option Via) → ViaBelow k v → ViaBelow l v
ViaBelow-more k l m None h = tt
ViaBelow-more k l m (Some v) h = GivenBelow-more k l m v.given h

pub StmtParts-more : (e f k : ℕ) → e ≤ f → (s : Stmt) → StmtParts e k s → StmtParts f k s
StmtParts-more e f k m (stmts.Var name of) h = TypeBelow-more e f m of h
StmtParts-more e f k m (stmts.Assign target op sign value) h = (TargetBelow-more e f m target h.0, omega (arith, h.1))
StmtParts-more e f k m (stmts.Keep target c) h = (TargetBelow-more e f m target h.0, GivenBelow-more e f m c.args h.1)
StmtParts-more e f k m (stmts.Call c) h = GivenBelow-more e f m c.args h
StmtParts-more e f k m (stmts.If arms otherwise) h =
    (all_map (λ a. (a.condition.0 < e) × BlockBelow k a.body) (λ a. (a.condition.0 < f) × BlockBelow k a.body) (λ a p. (omega (arith, p.0), p.1)) arms h.0, h.1)
StmtParts-more e f k m (stmts.While label condition clauses body) h =
    (omega (arith, h.0), all_map (λ c. c.condition.0 < e) (λ c. c.condition.0 < f) (λ c p. omega arith) clauses h.1, h.2)
StmtParts-more e f k m (stmts.Break label) h = tt
StmtParts-more e f k m (stmts.Continue label) h = tt
StmtParts-more e f k m (stmts.Return value) h = IsBelow-more e f m value h
StmtParts-more e f k m (stmts.Yield value) h = omega arith
StmtParts-more e f k m (stmts.Assert goal v) h = (omega (arith, h.0), ViaBelow-more e f m v h.1)

pub StmtsOrdered-more : (e f : ℕ) → e ≤ f → (ns : List StmtNode) (k : ℕ) → StmtsOrdered e k ns → StmtsOrdered f k ns
StmtsOrdered-more e f m [] k o = tt
StmtsOrdered-more e f m (n ∷ ns) k o = (StmtParts-more e f k m n.stmt o.0, StmtsOrdered-more e f m ns (k + 1) o.1)

pub BlockBelow-more : (k l : ℕ) → k ≤ l → (b : Block) → BlockBelow k b → BlockBelow l b
BlockBelow-more k l m b h = all_map (λ s. s.0 < k) (λ s. s.0 < l) (λ s p. omega arith) b.items h

pub ElseBelow-more : (k l : ℕ) → k ≤ l → (b : Option Block) → ElseBelow k b → ElseBelow l b
ElseBelow-more k l m None h = tt
ElseBelow-more k l m (Some b) h = BlockBelow-more k l m b h

pub FieldsBelow-more : (k l : ℕ) → k ≤ l → (fs : List Field) → FieldsBelow k fs → FieldsBelow l fs
FieldsBelow-more k l m fs h = all_map (λ f. TypeBelow k f.of) (λ f. TypeBelow l f.of) (λ f p. TypeBelow-more k l m f.of p) fs h

pub ResultBelow-more : (k l : ℕ) → k ≤ l → (t : Option TypeExpr) → ResultBelow k t → ResultBelow l t
ResultBelow-more k l m None h = tt
ResultBelow-more k l m (Some t) h = TypeBelow-more k l m t h

pub DeclParts-more : (e f k l : ℕ) → e ≤ f → k ≤ l → (d : Decl) → DeclParts e k d → DeclParts f l d
DeclParts-more e f k l m n (decls.Status name) h = tt
DeclParts-more e f k l m n (decls.Const name of value) h = (TypeBelow-more e f m of h.0, omega (arith, h.1))
DeclParts-more e f k l m n (decls.Struct name mark fields) h = FieldsBelow-more e f m fields h
DeclParts-more e f k l m n (decls.Method owner name mark args result body) h =
    (FieldsBelow-more e f m args h.0, ResultBelow-more e f m result h.1, BlockBelow-more k l n body h.2)

-- A package stays in order where a node is added whose parts are of it; `added` tells whether it was.
pub IsShaped-expr : (p : Parsed) (n : ExprNode) (added : Bool) (new : List ExprNode) → IsShaped p → ExprParts (length p.exprs) n.expr
    → new ≡ (if added then p.exprs ++ n ∷ [] else p.exprs) → IsShaped (record p { exprs = new })
IsShaped-expr p n false new s h e = let P : List ExprNode → Type 0 = λ es. IsShaped (record p { exprs = es }) in subst P (sym e) s
IsShaped-expr p n true new s h e =
    let longer = p.exprs ++ n ∷ [] in
    let more : length p.exprs ≤ length longer = omega (arith, length-append p.exprs (n ∷ [])) in
    let spot : length p.exprs ≡ 0 + length p.exprs = omega arith in
    let Q : ℕ → Type 0 = λ j. ExprParts j n.expr in
    let shaped : IsShaped (record p { exprs = longer }) = record {
      texts = s.texts;
      exprs = exprs_push p.exprs 0 n s.exprs (subst Q spot h);
      stmts = StmtsOrdered-more (length p.exprs) (length longer) more p.stmts 0 s.stmts;
      decls = all_map (λ d. DeclParts (length p.exprs) (length p.stmts) d.decl) (λ d. DeclParts (length longer) (length p.stmts) d.decl)
          (λ d o. DeclParts-more _ _ _ _ more (omega arith) d.decl o) p.decls s.decls;
    } in
    let P : List ExprNode → Type 0 = λ es. IsShaped (record p { exprs = es }) in subst P (sym e) shaped

pub IsShaped-stmt : (p : Parsed) (n : StmtNode) (added : Bool) (new : List StmtNode) → IsShaped p → StmtParts (length p.exprs) (length p.stmts) n.stmt
    → new ≡ (if added then p.stmts ++ n ∷ [] else p.stmts) → IsShaped (record p { stmts = new })
IsShaped-stmt p n false new s h e = let P : List StmtNode → Type 0 = λ ss. IsShaped (record p { stmts = ss }) in subst P (sym e) s
IsShaped-stmt p n true new s h e =
    let longer = p.stmts ++ n ∷ [] in
    let more : length p.stmts ≤ length longer = omega (arith, length-append p.stmts (n ∷ [])) in
    let spot : length p.stmts ≡ 0 + length p.stmts = omega arith in
    let Q : ℕ → Type 0 = λ j. StmtParts (length p.exprs) j n.stmt in
    let shaped : IsShaped (record p { stmts = longer }) = record {
      texts = s.texts;
      exprs = s.exprs;
      stmts = stmts_push (length p.exprs) p.stmts 0 n s.stmts (subst Q spot h);
      decls = all_map (λ d. DeclParts (length p.exprs) (length p.stmts) d.decl) (λ d. DeclParts (length p.exprs) (length longer) d.decl)
          (λ d o. DeclParts-more _ _ _ _ (omega arith) more d.decl o) p.decls s.decls;
    } in
    let P : List StmtNode → Type 0 = λ ss. IsShaped (record p { stmts = ss }) in subst P (sym e) shaped
