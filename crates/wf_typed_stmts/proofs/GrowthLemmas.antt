-- Growing step by step, and what keeps while it does.
use Rattle.std.proofs.Common.{◌≡◌, ℕ, ◌<◌, ◌≤◌, Bool, true, ◌&&◌, List, [], ◌∷◌, length, map, Option, Some, None, Result, Ok, Err, IfOk, OnOk, nat_lt, refl, sym, ap, ◌∙◌, subst, arith}
use Rattle.std.specs.Prelude.{slice_get, unwrap_or}
use Rattle.std.specs.List.{list_all}
use Rattle.std.proofs.lemmas.Bool.Decides.{nat_tests}
use Rattle.wf_base.specs.BaseTable.{row_of}
use Rattle.wf_ast.specs.declared.numbers.ExprId.{ExprId}
use Rattle.wf_ast.specs.declared.numbers.StmtId.{StmtId}
use Rattle.wf_ast.specs.declared.numbers.TextId.{TextId}
use Rattle.wf_ast.specs.declared.parsed.Clause.{Clause}
use Rattle.wf_ast.specs.declared.typed_code.Arm.{Arm}
use Rattle.wf_ast.specs.declared.typed_code.AxiomRef.{AxiomRef}
use Rattle.wf_ast.specs.declared.typed_code.Callee.{Callee}
use Rattle.wf_ast.specs.declared.typed_code.Callee.TheVariants as callees
use Rattle.wf_ast.specs.declared.typed_code.Expr.TheVariants as nodes
use Rattle.wf_ast.specs.declared.typed_code.ExprNode.{ExprNode}
use Rattle.wf_ast.specs.declared.operators.Op.{Op}
use Rattle.wf_text.specs.declared.place.Place.{Place}
use Rattle.wf_ast.specs.declared.typed_code.Stmt.{Stmt}
use Rattle.wf_ast.specs.declared.typed_code.Stmt.TheVariants as stmts
use Rattle.wf_ast.specs.declared.typed_code.StmtNode.{StmtNode}
use Rattle.wf_ast.specs.declared.typed_nodes.TypedNodes.{TypedNodes}
use Rattle.wf_ast.specs.declared.types.Ty.{Ty}
use Rattle.wf_ast.specs.declared.types.Ty.TheVariants as types
use Rattle.wf_ast.specs.TypedTree.{ValueTree, Block, lost}
use Rattle.wf_ast.specs.TypedTrees.{operator_kind, chain_of, type_of_node, made_or_number, expr_trees, tree_of, no_stmt, onto, stmt_makers, stmts_after}
use Rattle.wf_ast.specs.TypedInvariant.{each_numbered, is_expr, has_kind, is_optional_expr, callee_exists, axiom_exists, block_below}
use Rattle.wf_ast.proofs.Arena.{both_true}
use Rattle.wf_named.specs.NamedParts.{NamedParts}
use Rattle.wf_types_rules.specs.declared.meanings.Meaning.{Meaning}
use Rattle.wf_typed_tree.proofs.NumberLemmas.{and-true}
use Rattle.wf_typed_exprs.specs.Growth.{Keeps, Grows}
use Rattle.wf_typed_exprs.specs.Nodes.{Stands}
use Rattle.wf_typed_exprs.proofs.GrowthLemmas.{grows_more}
use Rattle.wf_typed_stmts.specs.StmtGrowth.{with_stmts, stmt_there, AreStmtsBuilt, GrowsStmts, GrowsExprs, Adds, IsBegun}
use Rattle.wf_typed_stmts.specs.Parts.{HasTree}
use Rattle.wf_typed_stmts.proofs.StmtLemmas.{after_same}
use Rattle.wf_typed_stmts.proofs.PushLemmas.{numbered_more, trees_stay, tree_stays}

pub below : (m n : ℕ) → nat_lt m n ≡ true → m < n
below m n h = grind (arith, nat_tests, h)

pub less : (m n : ℕ) → m < n → nat_lt m n ≡ true
less m n h = grind (arith, nat_tests, h)

less_more : (k m n : ℕ) → m ≤ n → nat_lt k m ≡ true → nat_lt k n ≡ true
less_more k m n l h = grind (arith, nat_tests, l, h)

pub all_more : {X : Type 0} (f g : X → Bool) (xs : List X) → ((x : X) → f x ≡ true → g x ≡ true) → list_all f xs ≡ true → list_all g xs ≡ true
all_more f g [] each h = refl
all_more f g (x ∷ xs) each h =
    let k = both_true (f x) (list_all f xs) h in and-true (g x) (list_all g xs) (each x k.0) (all_more f g xs each k.1)

-- More of all: what was there is there.
module _ (p q : TypedNodes) (exprs : length p.exprs ≤ length q.exprs) where
  pub expr_more : (e : ExprId) → is_expr p e ≡ true → is_expr q e ≡ true
  expr_more e h = less_more e.0 (length p.exprs) (length q.exprs) exprs h

  pub optional_more : (e : Option ExprId) → is_optional_expr p e ≡ true → is_optional_expr q e ≡ true
  optional_more None h = refl
  optional_more (Some e) h = expr_more e h

  pub exprs_more : (es : List ExprId) → list_all (is_expr p) es ≡ true → list_all (is_expr q) es ≡ true
  exprs_more es h = all_more (is_expr p) (is_expr q) es expr_more h

  pub conditions_more : (cs : List (Clause × ExprId)) → list_all (λ c. is_expr p c.1) cs ≡ true → list_all (λ c. is_expr q c.1) cs ≡ true
  conditions_more cs h = all_more (λ (c : Clause × ExprId). is_expr p c.1) (λ c. is_expr q c.1) cs (λ c. expr_more c.1) h

  module _ (methods : q.methods ≡ p.methods) (texts : q.texts ≡ p.texts) (statuses : q.statuses ≡ p.statuses) (kept_types : Keeps (length p.exprs) p.types q.types) where
    pub callee_more : (c : Callee) → callee_exists p c ≡ true → callee_exists q c ≡ true
    callee_more (callees.Own m) h = rw methods h
    callee_more (callees.Sub x m) h = rw methods h
    callee_more (callees.Base on sig) h =
        let k = both_true (is_expr p on) (has_kind (row_of sig).on (type_of_node p on.0)) h in
        let P : Option Ty → Type 0 = λ o. has_kind (row_of sig).on (unwrap_or o types.Flag) ≡ true in
        and-true (is_expr q on) _ (expr_more on k.0) (subst P (kept_types on.0 (below on.0 (length p.exprs) k.0)) k.1)

    pub letters_more : (gs : List (TextId × ExprId)) → list_all (λ g. nat_lt g.0.0 (length p.texts) && is_expr p g.1) gs ≡ true → list_all (λ g. nat_lt g.0.0 (length q.texts) && is_expr q g.1) gs ≡ true
    letters_more gs h =
        all_more (λ (g : TextId × ExprId). nat_lt g.0.0 (length p.texts) && is_expr p g.1) (λ g. nat_lt g.0.0 (length q.texts) && is_expr q g.1) gs
        (λ g k. let l = both_true (nat_lt g.0.0 (length p.texts)) (is_expr p g.1) k in and-true (nat_lt g.0.0 (length q.texts)) (is_expr q g.1) (rw texts l.0) (expr_more g.1 l.1)) h

    pub axiom_more : (a : Option AxiomRef) → axiom_exists p a ≡ true → axiom_exists q a ≡ true
    axiom_more None h = refl
    axiom_more (Some a) h =
        let k = both_true (nat_lt a.name.0 (length p.texts)) _ h in and-true (nat_lt a.name.0 (length q.texts)) _ (rw texts k.0) (letters_more a.given k.1)

    pub there_more : (s : ℕ) (st : Stmt) → stmt_there p s st ≡ true → stmt_there q s st ≡ true
    there_more s (stmts.Assign target op value) h =
        let k = both_true (is_expr p target) (is_expr p value) h in and-true (is_expr q target) (is_expr q value) (expr_more target k.0) (expr_more value k.1)
    there_more s (stmts.Call target keep callee args) h =
        let k = both_true (is_optional_expr p target) (callee_exists p callee && list_all (is_expr p) args) h in
        let l = both_true (callee_exists p callee) (list_all (is_expr p) args) k.1 in
        and-true (is_optional_expr q target) _ (optional_more target k.0) (and-true (callee_exists q callee) _ (callee_more callee l.0) (exprs_more args l.1))
    there_more s (stmts.If arms otherwise) h =
        let k = both_true (list_all (λ a. is_expr p a.cond && block_below s a.body) arms) _ h in
        and-true (list_all (λ a. is_expr q a.cond && block_below s a.body) arms) _
        (all_more (λ (a : Arm). is_expr p a.cond && block_below s a.body) (λ a. is_expr q a.cond && block_below s a.body) arms
        (λ a i. let l = both_true (is_expr p a.cond) (block_below s a.body) i in and-true (is_expr q a.cond) (block_below s a.body) (expr_more a.cond l.0) l.1) k.0) k.1
    there_more s (stmts.While head body) h =
        let k = both_true (is_expr p head.cond) (list_all (λ c. is_expr p c.1) head.clauses && block_below s body) h in
        let l = both_true (list_all (λ c. is_expr p c.1) head.clauses) (block_below s body) k.1 in
        and-true (is_expr q head.cond) _ (expr_more head.cond k.0) (and-true (list_all (λ c. is_expr q c.1) head.clauses) _ (conditions_more head.clauses l.0) l.1)
    there_more s (stmts.Break w) h = refl
    there_more s (stmts.Continue w) h = refl
    there_more s (stmts.Return value) h = optional_more value h
    there_more s (stmts.Yield n) h = rw statuses h
    there_more s (stmts.Assert goal a) h =
        let k = both_true (is_expr p goal) (axiom_exists p a) h in and-true (is_expr q goal) _ (expr_more goal k.0) (axiom_more a k.1)

-- Expressions added to a package with statements.
pub lifted : (b c : TypedNodes) (items : List StmtNode) → Grows b c → Grows (with_stmts b items) (with_stmts c items)
lifted b c items g = record {
  exprs = g.exprs;
  same_trees = λ i h. ap (λ ts. slice_get ts i) (trees_stay b items) ∙ g.same_trees i h ∙ ap (λ ts. slice_get ts i) (sym (trees_stay c items));
  same_types = g.same_types;
  same_constants = g.same_constants;
  rest = ap (λ n. with_stmts n items) g.rest;
}

module _ (p q : TypedNodes) (built : AreStmtsBuilt p) (g : Grows p q) where
  same_stmts : q.stmts ≡ p.stmts
  same_stmts = ap (λ (n : TypedNodes). n.stmts) g.rest

  same_methods : q.methods ≡ p.methods
  same_methods = ap (λ (n : TypedNodes). n.methods) g.rest

  same_texts : q.texts ≡ p.texts
  same_texts = ap (λ (n : TypedNodes). n.texts) g.rest

  same_statuses : q.statuses ≡ p.statuses
  same_statuses = ap (λ (n : TypedNodes). n.statuses) g.rest

  pub makers_same : stmt_makers q ≡ stmt_makers p
  unfolding stmt_makers
  makers_same =
      ap (stmts_after q (tree_of q) []) same_stmts
      ∙ after_same p q same_methods same_texts (tree_of p) (tree_of q) (λ e h. ap (λ o. unwrap_or o lost) (sym (g.same_trees e.0 h))) [] 0 p.stmts built.ordered

  pub widens : GrowsExprs p q
  widens = record { exprs = g; makers = makers_same }

  pub built_more : AreStmtsBuilt q
  built_more =
      let test : ℕ → StmtNode → Bool = λ s node. stmt_there q s node.stmt in
      let all = numbered_more (λ s node. stmt_there p s node.stmt) test 0 p.stmts (λ s node h. there_more p q g.exprs same_methods same_texts same_statuses g.same_types s node.stmt h) built.ordered in
      record {
        ordered = ap (each_numbered test 0) same_stmts ∙ all;
        few = omega (arith, built.few, ap (λ (xs : List StmtNode). length xs) same_stmts);
      }

pub begun_more : (named : NamedParts) (p q : TypedNodes) → IsBegun named p → Grows p q → IsBegun named q
begun_more named p q b g = record {
  texts = ap (λ (n : TypedNodes). n.texts) g.rest ∙ b.texts;
  statuses = ap (λ (n : TypedNodes). length n.statuses) g.rest ∙ b.statuses;
  marks = ap (λ (n : TypedNodes). map (λ m. m.mark) n.methods) g.rest ∙ b.marks;
  stmts = built_more p q b.stmts g;
}

-- The same of the parts that the code keeps.
module _ (b c : TypedNodes) (items : List StmtNode) (g : Grows b c) where
  pub step_grows : AreStmtsBuilt (with_stmts b items) → GrowsExprs (with_stmts b items) (with_stmts c items)
  step_grows built = widens (with_stmts b items) (with_stmts c items) built (lifted b c items g)

  pub step_begun : (named : NamedParts) → IsBegun named (with_stmts b items) → IsBegun named (with_stmts c items)
  step_begun named begun = begun_more named (with_stmts b items) (with_stmts c items) begun (lifted b c items g)

pub step_stands : (t : ValueTree) (of : Option Meaning) (c : TypedNodes) (items : List StmtNode) (e : ExprId) → Stands t of c e → Stands t of (with_stmts c items) e
step_stands t of c items e h = record { there = h.there; tree_is = tree_stays c items e ∙ h.tree_is; typed = h.typed; counted = h.counted }

pub operator_made : (b c : TypedNodes) (items : List StmtNode) (e left right : ExprId) (op : Op) (sign : Place) (ty : Ty) (n : ExprNode)
    → n ≡ record { expr = nodes.Chain op (left ∷ right ∷ []); at = sign; signs = sign ∷ [] } → tree_of c e ≡ made_or_number (tree_of b) n.at n.signs ty None n.expr
    → tree_of (with_stmts c items) e ≡ chain_of sign (sign ∷ []) ty (operator_kind op) (tree_of (with_stmts b items) left ∷ tree_of (with_stmts b items) right ∷ [])
operator_made b c items e left right op sign ty n is made =
    let N : ExprNode → Type 0 = λ x. tree_of c e ≡ made_or_number (tree_of b) x.at x.signs ty None x.expr in
    let plain : tree_of c e ≡ chain_of sign (sign ∷ []) ty (operator_kind op) (tree_of b left ∷ tree_of b right ∷ []) = subst N is made in
    tree_stays c items e ∙ plain
    ∙ ap (λ t. chain_of sign (sign ∷ []) ty (operator_kind op) (t ∷ tree_of b right ∷ [])) (sym (tree_stays b items left))
    ∙ ap (λ t. chain_of sign (sign ∷ []) ty (operator_kind op) (tree_of (with_stmts b items) left ∷ t ∷ [])) (sym (tree_stays b items right))

pub exprs_more_still : (p q r : TypedNodes) → GrowsExprs p q → GrowsExprs q r → GrowsExprs p r
exprs_more_still p q r g h = record { exprs = grows_more p q r g.exprs h.exprs; makers = h.makers ∙ g.makers }

keeps_more : {X : Type 0} (m n : ℕ) (xs ys zs : List X) → m ≤ n → Keeps m xs ys → Keeps n ys zs → Keeps m xs zs
keeps_more m n xs ys zs l p q i h = p i h ∙ q i (omega (arith, h, l))

pub stmts_more : (p q r : TypedNodes) → GrowsStmts p q → GrowsStmts q r → GrowsStmts p r
stmts_more p q r g h = record {
  exprs = omega (arith, g.exprs, h.exprs);
  stmts = omega (arith, g.stmts, h.stmts);
  same_trees = keeps_more (length p.exprs) (length q.exprs) (expr_trees p) (expr_trees q) (expr_trees r) g.exprs g.same_trees h.same_trees;
  same_types = keeps_more (length p.exprs) (length q.exprs) p.types q.types r.types g.exprs g.same_types h.same_types;
  same_constants = keeps_more (length p.exprs) (length q.exprs) p.constants q.constants r.constants g.exprs g.same_constants h.same_constants;
  same_makers = keeps_more (length p.stmts) (length q.stmts) (stmt_makers p) (stmt_makers q) (stmt_makers r) g.stmts g.same_makers h.same_makers;
  rest = h.rest ∙ g.rest;
}

pub count_same : (p q : TypedNodes) → GrowsExprs p q → length q.stmts ≡ length p.stmts
count_same p q g = ap (λ (n : TypedNodes). length n.stmts) g.exprs.rest

pub stmts_of_exprs : (p q : TypedNodes) → GrowsExprs p q → GrowsStmts p q
stmts_of_exprs p q g = record {
  exprs = g.exprs.exprs;
  stmts = omega (arith, count_same p q g);
  same_trees = g.exprs.same_trees;
  same_types = g.exprs.same_types;
  same_constants = g.exprs.same_constants;
  same_makers = λ i h. ap (λ ms. slice_get ms i) (sym g.makers);
  rest = ap (λ n. with_stmts n []) g.exprs.rest;
}

module _ (loops : List ℕ) where
  pub adds_more : (p q r : TypedNodes) → Adds loops p q → Adds loops q r → Adds loops p r
  adds_more p q r g h = record {
    grows = stmts_more p q r g.grows h.grows;
    jumps = λ limit a b c. h.jumps limit a b (g.jumps limit a (omega (arith, b, h.grows.stmts)) c);
  }

-- What stands for something keeps doing so.
pub stands_kept : (t : ValueTree) (of : Option Meaning) (p q : TypedNodes) (e : ExprId) → GrowsStmts p q → Stands t of p e → Stands t of q e
stands_kept t of p q e g h = record {
  there = omega (arith, h.there, g.exprs);
  tree_is = ap (λ o. unwrap_or o lost) (sym (g.same_trees e.0 h.there)) ∙ h.tree_is;
  typed = ap (λ o. unwrap_or o types.Flag) (sym (g.same_types e.0 h.there)) ∙ h.typed;
  counted = ap (λ o. unwrap_or o None) (sym (g.same_constants e.0 h.there)) ∙ h.counted;
}

pub tree_kept : (p q : TypedNodes) → GrowsStmts p q → (e : ExprId) → is_expr p e ≡ true → tree_of q e ≡ tree_of p e
tree_kept p q g e h = ap (λ o. unwrap_or o lost) (sym (g.same_trees e.0 (below e.0 (length p.exprs) h)))

pub has_kept : (t : ValueTree) (p q : TypedNodes) (e : ExprId) → GrowsStmts p q → HasTree t p e → HasTree t q e
has_kept t p q e g h = record { there = expr_more p q g.exprs e h.there; is = tree_kept p q g e h.there ∙ h.is }

pub maker_kept : (p q : TypedNodes) → GrowsStmts p q → (s : StmtId) → nat_lt s.0 (length p.stmts) ≡ true → (rest : Block) → onto (stmt_makers q) s rest ≡ onto (stmt_makers p) s rest
maker_kept p q g s h rest = ap (λ o. unwrap_or o no_stmt rest) (sym (g.same_makers s.0 (below s.0 (length p.stmts) h)))

-- Of an answer after another step.
pub ok_so : {X E : Type 0} (r : Result X E) (P Q : X → Type 0) → ((x : X) → P x → Q x) → IfOk r P → IfOk r Q
ok_so (Ok x) P Q f h = f x h
ok_so (Err e) P Q f h = tt

pub on_so : {X E : Type 0} (r : Result X E) (P Q : Type 0) → (P → Q) → OnOk r P → OnOk r Q
on_so (Ok x) P Q f h = f h
on_so (Err e) P Q f h = tt
