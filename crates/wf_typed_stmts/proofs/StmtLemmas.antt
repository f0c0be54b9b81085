-- What statements make keeps while expressions are added.
use Rattle.std.proofs.Common.{◌≡◌, ℕ, ◌+◌, ◌<◌, Bool, true, ◌&&◌, List, [], ◌∷◌, ◌++◌, length, map, Option, Some, None, nat_lt, refl, ap, ◌∙◌, arith}
use Rattle.std.specs.List.{list_all}
use Rattle.std.proofs.lemmas.Bool.Decides.{nat_tests}
use Rattle.wf_text.specs.declared.place.Place.{Place}
use Rattle.wf_base.specs.BaseTable.{row_of}
use Rattle.wf_ast.specs.declared.numbers.ExprId.{ExprId}
use Rattle.wf_ast.specs.declared.numbers.StmtId.{StmtId}
use Rattle.wf_ast.specs.declared.numbers.TextId.{TextId}
use Rattle.wf_ast.specs.declared.parsed.Clause.{Clause}
use Rattle.wf_ast.specs.declared.typed_code.AxiomRef.{AxiomRef}
use Rattle.wf_ast.specs.declared.typed_code.Arm.{Arm}
use Rattle.wf_ast.specs.declared.typed_code.Block as typed_code
use Rattle.wf_ast.specs.declared.typed_code.Callee.{Callee}
use Rattle.wf_ast.specs.declared.typed_code.Callee.TheVariants as callees
use Rattle.wf_ast.specs.declared.typed_code.Stmt.{Stmt}
use Rattle.wf_ast.specs.declared.typed_code.Stmt.TheVariants as stmts
use Rattle.wf_ast.specs.declared.typed_code.StmtNode.{StmtNode}
use Rattle.wf_ast.specs.declared.typed_nodes.TypedNodes.{TypedNodes}
use Rattle.wf_ast.specs.TypedTree.{ValueTree, Target, Site, Block, plain, give_back}
use Rattle.wf_ast.specs.TypedTrees.{type_of_node, optional_target, call_made, axiom_made, otherwise_made, if_made, stmt_made, onto, stmts_after}
use Rattle.wf_ast.specs.TypedInvariant.{each_numbered, is_expr, is_optional_expr, callee_exists, has_kind, axiom_exists, block_below, optional_block_below}
use Rattle.wf_ast.proofs.Arena.{both_true}
use Rattle.wf_typed_stmts.specs.Parts.{conditions_made, letters_made}
use Rattle.wf_typed_stmts.specs.StmtGrowth.{stmt_there}

below : (m n : ℕ) → nat_lt m n ≡ true → m < n
below m n h = grind (arith, nat_tests, h)

-- `q` has the methods and texts of `p`, and its look-up gives the same trees below the number of expressions of `p`.
module _ (p q : TypedNodes) (methods : q.methods ≡ p.methods) (texts : q.texts ≡ p.texts) (f g : ExprId → ValueTree)
    (same : (e : ExprId) → e.0 < length p.exprs → g e ≡ f e) where
  look : (e : ExprId) → is_expr p e ≡ true → g e ≡ f e
  look e h = same e (below e.0 (length p.exprs) h)

  all_looked : (es : List ExprId) → list_all (is_expr p) es ≡ true → map g es ≡ map f es
  all_looked [] h = refl
  all_looked (e ∷ es) h = let k = both_true (is_expr p e) _ h in let a = look e k.0 in let b = all_looked es k.1 in rw (a, b) refl

  target_same : (t : Option ExprId) → is_optional_expr p t ≡ true → optional_target g t ≡ optional_target f t
  target_same None h = refl
  target_same (Some e) h = rw (look e h) refl

  call_same : (at : Place) (t : Target) (keep : Bool) (callee : Callee) (args : List ValueTree) → callee_exists p callee ≡ true → call_made q g at t keep callee args ≡ call_made p f at t keep callee args
  call_same at t keep (callees.Own m) args h = rw methods refl
  call_same at t keep (callees.Sub x m) args h = rw methods refl
  call_same at t keep (callees.Base on sig) args h = rw (look on (both_true (is_expr p on) (has_kind (row_of sig).on (type_of_node p on.0)) h).0) refl

  given_same : (gs : List (TextId × ExprId)) → list_all (λ x. nat_lt x.0.0 (length p.texts) && is_expr p x.1) gs ≡ true
      → letters_made q g gs ≡ letters_made p f gs
  given_same [] h = refl
  given_same (x ∷ gs) h =
      let k = both_true (nat_lt x.0.0 (length p.texts) && is_expr p x.1) _ h in
      let a = look x.1 (both_true (nat_lt x.0.0 (length p.texts)) (is_expr p x.1) k.0).1 in
      let b = given_same gs k.1 in
      rw (texts, a, b) refl

  conditions_same : (cs : List (Clause × ExprId)) → list_all (λ c. is_expr p c.1) cs ≡ true → conditions_made g cs ≡ conditions_made f cs
  conditions_same [] h = refl
  conditions_same (c ∷ cs) h = let k = both_true (is_expr p c.1) _ h in let a = look c.1 k.0 in let b = conditions_same cs k.1 in rw (a, b) refl

  module _ (inner : StmtId → Block → Block) (site : Site) (s : ℕ) where
    otherwise_same : (arms : List Arm) (other : Option typed_code.Block) → list_all (λ a. is_expr p a.cond && block_below s a.body) arms ≡ true
        → otherwise_made g inner site arms other ≡ otherwise_made f inner site arms other
    otherwise_same [] None h = refl
    otherwise_same [] (Some b) h = refl
    otherwise_same (arm ∷ arms) other h =
        let k = both_true (is_expr p arm.cond && block_below s arm.body) _ h in
        let a = look arm.cond (both_true (is_expr p arm.cond) (block_below s arm.body) k.0).0 in
        let b = otherwise_same arms other k.1 in
        rw (a, b) refl

    if_same : (arms : List Arm) (other : Option typed_code.Block) (rest : Block) → list_all (λ a. is_expr p a.cond && block_below s a.body) arms ≡ true
        → if_made g inner site arms other rest ≡ if_made f inner site arms other rest
    if_same [] other rest h = refl
    if_same (arm ∷ arms) other rest h =
        let k = both_true (is_expr p arm.cond && block_below s arm.body) _ h in
        let a = look arm.cond (both_true (is_expr p arm.cond) (block_below s arm.body) k.0).0 in
        let b = otherwise_same arms other k.1 in
        rw (a, b) refl

  axiom_same : (a : Option AxiomRef) → axiom_exists p a ≡ true → axiom_made q g a ≡ axiom_made p f a
  axiom_same None h = refl
  axiom_same (Some a) h =
      let k = both_true (nat_lt a.name.0 (length p.texts)) _ h in
      let b = given_same a.given k.1 in
      rw (b, texts) refl

  -- The same statement before the same block makes the same.
  by_stmt : (inner : StmtId → Block → Block) (n s : ℕ) (at close : Place) (rest : Block) (st : Stmt) → stmt_there p s st ≡ true
      → stmt_made q g inner n (record { stmt = st; at = at; inner = close }) rest ≡ stmt_made p f inner n (record { stmt = st; at = at; inner = close }) rest
  by_stmt inner n s at close rest (stmts.Assign target op value) h =
      let k = both_true (is_expr p target) (is_expr p value) h in
      let a = look target k.0 in
      let b = look value k.1 in
      rw (a, b) refl
  by_stmt inner n s at close rest (stmts.Call target keep callee args) h =
      let k = both_true (is_optional_expr p target) (callee_exists p callee && list_all (is_expr p) args) h in
      let l = both_true (callee_exists p callee) (list_all (is_expr p) args) k.1 in
      let a = target_same target k.0 in
      let b = all_looked args l.1 in
      let c = call_same close (optional_target f target) keep callee (map f args) l.0 in
      rw (a, b) (ap (λ x. plain (record { number = n; at = at }) x rest) c)
  by_stmt inner n s at close rest (stmts.If arms otherwise) h =
      if_same inner (record { number = n; at = at }) s arms otherwise rest (both_true (list_all (λ a. is_expr p a.cond && block_below s a.body) arms) (optional_block_below s otherwise) h).0
  by_stmt inner n s at close rest (stmts.While head body) h =
      let k = both_true (is_expr p head.cond) (list_all (λ c. is_expr p c.1) head.clauses && block_below s body) h in
      let l = both_true (list_all (λ c. is_expr p c.1) head.clauses) (block_below s body) k.1 in
      let a = look head.cond k.0 in
      let b = conditions_same head.clauses l.0 in
      rw (a, b) refl
  by_stmt inner n s at close rest (stmts.Break w) h = refl
  by_stmt inner n s at close rest (stmts.Continue w) h = refl
  by_stmt inner n s at close rest (stmts.Return None) h = refl
  by_stmt inner n s at close rest (stmts.Return (Some e)) h = ap (λ t. plain (record { number = n; at = at }) (give_back (Some t)) rest) (look e h)
  by_stmt inner n s at close rest (stmts.Yield n_status) h = refl
  by_stmt inner n s at close rest (stmts.Assert goal a) h =
      let k = both_true (is_expr p goal) (axiom_exists p a) h in
      let b = look goal k.0 in
      let c = axiom_same a k.1 in
      rw (b, c) refl

  pub node_same : (inner : StmtId → Block → Block) (n s : ℕ) (node : StmtNode) → stmt_there p s node.stmt ≡ true → stmt_made q g inner n node ≡ stmt_made p f inner n node
  node_same inner n s node h = λ i rest. by_stmt inner n s node.at node.inner rest node.stmt h i

  -- So do all.
  pub after_same : (made : List (Block → Block)) (k : ℕ) (ns : List StmtNode) → each_numbered (λ s node. stmt_there p s node.stmt) k ns ≡ true → stmts_after q g made ns ≡ stmts_after p f made ns
  after_same made k [] h = refl
  after_same made k (n ∷ ns) h =
      let both = both_true (stmt_there p k n.stmt) (each_numbered (λ s node. stmt_there p s node.stmt) (k + 1) ns) h in
      let here = node_same (onto made) (length made) k n both.0 in
      after_same (made ++ stmt_made q g (onto made) (length made) n ∷ []) (k + 1) ns both.1 ∙ ap (λ x. stmts_after p f (made ++ x ∷ []) ns) here
