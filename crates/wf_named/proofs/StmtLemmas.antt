-- The tree of a statement's node is made of the trees of its parts, and keeps while texts and nodes are added.
use Rattle.std.proofs.Common.{◌≡◌, ◌+◌, ◌<◌, ℕ, Option, None, Some, List, [], ◌∷◌, ◌++◌, length, refl, sym, ◌∙◌, ap, arith, length-append}
use Rattle.std.specs.List.{slice_get, AllByRecursion}
use Rattle.wf_text.specs.declared.place.Place.{Place}
use Rattle.wf_ast.specs.declared.numbers.StmtId.{StmtId}
use Rattle.wf_ast.specs.declared.parsed.Arm.{Arm}
use Rattle.wf_ast.specs.declared.parsed.Block.{Block}
use Rattle.wf_ast.specs.declared.parsed.Given.{Given}
use Rattle.wf_ast.specs.declared.parsed.LoopClause.{LoopClause}
use Rattle.wf_ast.specs.declared.parsed.Name.{Name}
use Rattle.wf_ast.specs.declared.parsed.Via.{Via}
use Rattle.wf_ast.specs.ParsedParts.{BlockBelow, ElseBelow}
use Rattle.wf_ast.proofs.TreeLemmas.{Agree, IsGrowing, IsInOrder, growing-made, ordered-parts, ordered-push}
use Rattle.wf_named.specs.declared.nodes.NamedExprNode.{NamedExprNode}
use Rattle.wf_named.specs.declared.nodes.NamedStmt.{NamedStmt}
use Rattle.wf_named.specs.declared.nodes.NamedStmt.TheVariants as stmts
use Rattle.wf_named.specs.declared.nodes.NamedStmtNode.{NamedStmtNode}
use Rattle.wf_named.specs.declared.nodes.NamedTarget.{NamedTarget}
use Rattle.wf_named.specs.declared.nodes.NamedTarget.TheVariants as targets
use Rattle.wf_named.specs.NamedTree as tree
use Rattle.wf_named.specs.NamedTree.{NamedExprTree, NamedStmtTree, NamedArmTrees}
use Rattle.wf_named.specs.NamedTrees.{expr_trees, text_or, word_at, target_at, clauses_at, letters_at, via_at, stmt_or, stmt_at, items_at, block_at, else_at, arms_at, stmt_made, stmts_after, stmt_trees}
use Rattle.wf_named.specs.NamedParts.{NamedTargetBelow, LettersBelow, AxiomBelow, NamedStmtParts, NamedStmtsOrdered}
use Rattle.wf_named.proofs.ExprLemmas.{agree_front, expr_at-same, part_at-same, args_at-same, expr_trees-agree}

pub word_at-same : (t : ℕ) (texts other : List (List ℕ)) → Agree t texts other → (n : Name) → n.text.0 < t → word_at texts n ≡ word_at other n
word_at-same t texts other a n h = let p : text_or (slice_get texts n.text.0) ≡ text_or (slice_get other n.text.0) = ap text_or (a n.text.0 h) in cc

-- Expressions and texts that agree make the same parts of a statement.
module _ (t e : ℕ) (texts other : List (List ℕ)) (es fs : List NamedExprTree) (a : Agree t texts other) (b : Agree e es fs) where
  pub target_at-same : (x : NamedTarget) → NamedTargetBelow e x → target_at es x ≡ target_at fs x
  target_at-same (targets.Path path) h = refl
  target_at-same (targets.Element base place at) h = ap (λ p. tree.to_element base p at) (expr_at-same e es fs b place h)

  pub clauses_at-same : (cs : List LoopClause) → AllByRecursion (λ c. c.condition.0 < e) cs → clauses_at es cs ≡ clauses_at fs cs
  clauses_at-same [] h = refl
  clauses_at-same (c ∷ cs) h = let p = expr_at-same e es fs b c.condition h.0 in let q = clauses_at-same cs h.1 in cc

  pub letters_at-same : (gs : List Given) → LettersBelow t e gs → letters_at texts es gs ≡ letters_at other fs gs
  letters_at-same [] h = refl
  letters_at-same (g ∷ gs) h =
      let w = word_at-same t texts other a g.name h.0.0 in
      let p = expr_at-same e es fs b g.value h.0.1 in
      let q = letters_at-same gs h.1 in cc

  pub via_at-same : (v : Option Via) → AxiomBelow t e v → via_at texts es v ≡ via_at other fs v
  via_at-same None h = refl
  via_at-same (Some v) h = let w = word_at-same t texts other a v.axiom h.0 in let q = letters_at-same v.given h.1 in cc

-- Statements that agree make the same blocks.
module _ (k : ℕ) (ts us : List NamedStmtTree) (a : Agree k ts us) where
  pub items_at-same : (ss : List StmtId) (at : Place) → AllByRecursion (λ s. s.0 < k) ss → items_at ts ss at ≡ items_at us ss at
  items_at-same [] at h = refl
  items_at-same (s ∷ ss) at h = let p : stmt_at ts s ≡ stmt_at us s = ap stmt_or (a s.0 h.0) in let q = items_at-same ss at h.1 in cc

  pub block_at-same : (b : Block) → BlockBelow k b → block_at ts b ≡ block_at us b
  block_at-same b h = items_at-same b.items b.close h

  pub else_at-same : (b : Option Block) → ElseBelow k b → else_at ts b ≡ else_at us b
  else_at-same None h = refl
  else_at-same (Some b) h = ap tree.otherwise (items_at-same b.items b.close h)

  pub arms_at-same : (e : ℕ) (es fs : List NamedExprTree) → Agree e es fs → (arms : List Arm) (x y : NamedArmTrees) → x ≡ y
      → AllByRecursion (λ a. (a.condition.0 < e) × BlockBelow k a.body) arms → arms_at es ts arms x ≡ arms_at fs us arms y
  arms_at-same e es fs b [] x y p h = p
  arms_at-same e es fs b (m ∷ ms) x y p h =
      let c = expr_at-same e es fs b m.condition h.0.0 in
      let q : block_at ts m.body ≡ block_at us m.body = items_at-same m.body.items m.body.close h.0.1 in
      let r = arms_at-same e es fs b ms x y p h.1 in cc

pub stmt_made-same : (t e k : ℕ) (texts other : List (List ℕ)) (es fs : List NamedExprTree) (ts us : List NamedStmtTree)
    → Agree t texts other → Agree e es fs → Agree k ts us
    → (s : NamedStmt) (at : Place) → NamedStmtParts t e k s → stmt_made texts es ts s at ≡ stmt_made other fs us s at
stmt_made-same t e k texts other es fs ts us a b c (stmts.Assign target op sign value) at h =
    let p = target_at-same t e texts other es fs a b target h.0 in let q = expr_at-same e es fs b value h.1 in cc
stmt_made-same t e k texts other es fs ts us a b c (stmts.Keep target x) at h =
    let p = target_at-same t e texts other es fs a b target h.0 in let q = args_at-same e es fs b x.args h.1 in cc
stmt_made-same t e k texts other es fs ts us a b c (stmts.Call x) at h =
    ap (λ es. tree.do_call (tree.call x.callee x.at x.mark es) at) (args_at-same e es fs b x.args h)
stmt_made-same t e k texts other es fs ts us a b c (stmts.If arms otherwise) at h =
    ap (λ x. tree.branch x at) (arms_at-same k ts us c e es fs b arms _ _ (else_at-same k ts us c otherwise h.1) h.0)
stmt_made-same t e k texts other es fs ts us a b c (stmts.While condition clauses body) at h =
    let p = expr_at-same e es fs b condition h.0 in
    let q = clauses_at-same t e texts other es fs a b clauses h.1 in
    let r = block_at-same k ts us c body h.2 in cc
stmt_made-same t e k texts other es fs ts us a b c (stmts.Break outwards) at h = refl
stmt_made-same t e k texts other es fs ts us a b c (stmts.Continue outwards) at h = refl
stmt_made-same t e k texts other es fs ts us a b c (stmts.Return value) at h = ap (λ x. tree.back x at) (part_at-same e es fs b value h)
stmt_made-same t e k texts other es fs ts us a b c (stmts.Yield value) at h = ap (λ x. tree.suspend x at) (expr_at-same e es fs b value h)
stmt_made-same t e k texts other es fs ts us a b c (stmts.Assert goal v) at h =
    let p = expr_at-same e es fs b goal h.0 in let q = via_at-same t e texts other es fs a b v h.1 in cc

pub agree_self : {X : Type 0} (k : ℕ) (ts : List X) → Agree k ts ts
agree_self k ts i h = refl

stmts_grow : (texts : List (List ℕ)) (es : List NamedExprTree) → IsGrowing (λ ts n. stmt_made texts es ts n.stmt n.at) (stmts_after texts es)
stmts_grow texts es = record { none = λ ts. refl; more = λ ts n ns. refl }

stmts_in_order : (t e : ℕ) → IsInOrder (λ k n. NamedStmtParts t e k n.stmt) (NamedStmtsOrdered t e)
stmts_in_order t e = record { none = λ k. tt; more = λ k n ns p o. (p, o); first = λ k n ns o. o.0; others = λ k n ns o. o.1 }

pub stmts_after-length : (texts : List (List ℕ)) (es : List NamedExprTree) (ns : List NamedStmtNode) (ts : List NamedStmtTree) → length (stmts_after texts es ts ns) ≡ length ts + length ns
stmts_after-length texts es [] ts = omega arith
stmts_after-length texts es (n ∷ ns) ts =
    let made = stmt_made texts es ts n.stmt n.at in
    let p = stmts_after-length texts es ns (ts ++ made ∷ []) in
    omega (arith, p, length-append ts (made ∷ []))

pub stmts_after-push : (texts : List (List ℕ)) (es : List NamedExprTree) (ns : List NamedStmtNode) (ts : List NamedStmtTree) (n : NamedStmtNode)
    → stmts_after texts es ts (ns ++ n ∷ []) ≡ stmts_after texts es ts ns ++ stmt_made texts es (stmts_after texts es ts ns) n.stmt n.at ∷ []
stmts_after-push texts es [] ts n = refl
stmts_after-push texts es (m ∷ ns) ts n = stmts_after-push texts es ns (ts ++ stmt_made texts es ts m.stmt m.at ∷ []) n

-- Texts and expressions that agree make the same statements.
pub stmts_after-same : (t e : ℕ) (texts other : List (List ℕ)) (es fs : List NamedExprTree) → Agree t texts other → Agree e es fs
    → (ns : List NamedStmtNode) (k : ℕ) (ts : List NamedStmtTree) → NamedStmtsOrdered t e k ns → stmts_after texts es ts ns ≡ stmts_after other fs ts ns
stmts_after-same t e texts other es fs a b [] k ts o = refl
stmts_after-same t e texts other es fs a b (n ∷ ns) k ts o =
    let p = stmt_made-same t e k texts other es fs ts ts a b (agree_self k ts) n.stmt n.at o.0 in
    ap (λ made. stmts_after texts es (ts ++ made ∷ []) ns) p
    ∙ stmts_after-same t e texts other es fs a b ns (k + 1) (ts ++ stmt_made other fs ts n.stmt n.at ∷ []) o.1

pub stmts_after-made : (t e : ℕ) (texts : List (List ℕ)) (es : List NamedExprTree) (ns : List NamedStmtNode) (ts : List NamedStmtTree) (k : ℕ) → k ≡ length ts → NamedStmtsOrdered t e k ns
    → (i : ℕ) (n : NamedStmtNode) → slice_get ns i ≡ Some n
    → slice_get (stmts_after texts es ts ns) (k + i) ≡ Some (stmt_made texts es (stmts_after texts es ts ns) n.stmt n.at)
stmts_after-made t e texts es =
    growing-made _ (stmts_after texts es) (stmts_grow texts es) (λ k n. NamedStmtParts t e k n.stmt) (NamedStmtsOrdered t e) (stmts_in_order t e)
    (λ k ts us a n p. stmt_made-same t e k texts texts es es ts us (agree_self t texts) (agree_self e es) a n.stmt n.at p)

pub stmt_trees-node : (t e : ℕ) (texts : List (List ℕ)) (exprs : List NamedExprNode) (ns : List NamedStmtNode) → NamedStmtsOrdered t e 0 ns → (i : ℕ) (n : NamedStmtNode) → slice_get ns i ≡ Some n
    → stmt_or (slice_get (stmt_trees texts exprs ns) i) ≡ stmt_made texts (expr_trees exprs) (stmt_trees texts exprs ns) n.stmt n.at
unfolding stmt_trees
stmt_trees-node t e texts exprs ns o i n g =
    let spot : 0 + i ≡ i = omega arith in
    ap (λ j. stmt_or (slice_get (stmts_after texts (expr_trees exprs) [] ns) j)) (sym spot) ∙ ap stmt_or (stmts_after-made t e texts (expr_trees exprs) ns [] 0 refl o i n g)

pub stmt_trees-push : (texts : List (List ℕ)) (exprs : List NamedExprNode) (ns : List NamedStmtNode) (n : NamedStmtNode)
    → stmt_trees texts exprs (ns ++ n ∷ []) ≡ stmt_trees texts exprs ns ++ stmt_made texts (expr_trees exprs) (stmt_trees texts exprs ns) n.stmt n.at ∷ []
unfolding stmt_trees
stmt_trees-push texts exprs ns n = stmts_after-push texts (expr_trees exprs) ns [] n

pub stmt_trees-length : (texts : List (List ℕ)) (exprs : List NamedExprNode) (ns : List NamedStmtNode) → length (stmt_trees texts exprs ns) ≡ length ns
unfolding stmt_trees
stmt_trees-length texts exprs ns = stmts_after-length texts (expr_trees exprs) ns [] ∙ (omega arith)

-- Trees agree with those of more nodes, and stay where texts or expressions are added.
pub stmt_trees-agree : (texts : List (List ℕ)) (exprs : List NamedExprNode) (ns : List NamedStmtNode) (n : NamedStmtNode)
    → Agree (length ns) (stmt_trees texts exprs ns) (stmt_trees texts exprs (ns ++ n ∷ []))
stmt_trees-agree texts exprs ns n i h =
    let before = stmt_trees texts exprs ns in
    let made = stmt_made texts (expr_trees exprs) before n.stmt n.at in
    let inside : i < length before = omega (arith, stmt_trees-length texts exprs ns, h) in
    agree_front before (made ∷ []) i inside ∙ ap (λ ts. slice_get ts i) (sym (stmt_trees-push texts exprs ns n))

pub stmt_trees-expr : (texts : List (List ℕ)) (exprs : List NamedExprNode) (n : NamedExprNode) (ns : List NamedStmtNode) → NamedStmtsOrdered (length texts) (length exprs) 0 ns
    → stmt_trees texts exprs ns ≡ stmt_trees texts (exprs ++ n ∷ []) ns
unfolding stmt_trees
stmt_trees-expr texts exprs n ns o =
    stmts_after-same (length texts) (length exprs) texts texts (expr_trees exprs) (expr_trees (exprs ++ n ∷ [])) (agree_self (length texts) texts) (expr_trees-agree exprs n) ns 0 [] o

pub stmt_trees-text : (texts : List (List ℕ)) (text : List ℕ) (exprs : List NamedExprNode) (ns : List NamedStmtNode) → NamedStmtsOrdered (length texts) (length exprs) 0 ns
    → stmt_trees texts exprs ns ≡ stmt_trees (texts ++ text ∷ []) exprs ns
unfolding stmt_trees
stmt_trees-text texts text exprs ns o =
    stmts_after-same (length texts) (length exprs) texts (texts ++ text ∷ []) (expr_trees exprs) (expr_trees exprs) (agree_front texts (text ∷ [])) (agree_self (length exprs) (expr_trees exprs)) ns 0 [] o

pub stmts_parts : (t e : ℕ) (ns : List NamedStmtNode) (k : ℕ) → NamedStmtsOrdered t e k ns → (i : ℕ) (n : NamedStmtNode) → slice_get ns i ≡ Some n → NamedStmtParts t e (k + i) n.stmt
stmts_parts t e = ordered-parts (λ k n. NamedStmtParts t e k n.stmt) (NamedStmtsOrdered t e) (stmts_in_order t e)

pub stmts_push : (t e : ℕ) (ns : List NamedStmtNode) (k : ℕ) (n : NamedStmtNode) → NamedStmtsOrdered t e k ns → NamedStmtParts t e (k + length ns) n.stmt → NamedStmtsOrdered t e k (ns ++ n ∷ [])
stmts_push t e = ordered-push (λ k n. NamedStmtParts t e k n.stmt) (NamedStmtsOrdered t e) (stmts_in_order t e)
