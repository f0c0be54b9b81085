-- Growing step by step, and what keeps while it does.
use Rattle.std.proofs.Common.{◌≡◌, ◌<◌, ◌≤◌, ℕ, List, [], ◌∷◌, ◌++◌, Option, Result, Ok, Err, IfOk, OnOk, length, slice_get, refl, sym, ap, ◌∙◌, arith, length-append}
use Rattle.std.specs.List.{AllByRecursion}
use Rattle.wf_ast.specs.declared.numbers.ExprId.{ExprId}
use Rattle.wf_ast.specs.declared.parsed.Given.{Given}
use Rattle.wf_ast.specs.declared.parsed.Link.{Link}
use Rattle.wf_ast.specs.declared.parsed.Prefix.{Prefix}
use Rattle.wf_ast.specs.ParsedParts.{IsBelow, LinksBelow, GivenBelow, PrefixBelow}
use Rattle.wf_ast.proofs.TreeLemmas.{slice_get-front}
use Rattle.wf_named.specs.declared.nodes.NamedExprNode.{NamedExprNode}
use Rattle.wf_named.specs.declared.nodes.NamedStmtNode.{NamedStmtNode}
use Rattle.wf_named.specs.NamedTree.{NamedExprTree, NamedTypeTree, NamedStmtTree}
use Rattle.wf_named.specs.NamedTrees.{expr_at, part_at, links_at, all_prefixed}
use Rattle.wf_named.specs.NamedParts.{NamedParts, exprs_of, stmts_of, named_package}
use Rattle.wf_named.proofs.ExprLemmas.{expr_at-same, part_at-same, links_at-same, all_prefixed-same, expr_trees-length}
use Rattle.wf_named.proofs.StmtLemmas.{stmt_trees-length}
use Rattle.wf_names_resolve.specs.Growth.{Keeps, Grows}
use Rattle.wf_names_resolve.specs.Ordered.{given_tree, given_trees}

keeps_more : {X : Type 0} (m n : ℕ) (xs ys zs : List X) → m ≤ n → Keeps m xs ys → Keeps n ys zs → Keeps m xs zs
keeps_more m n xs ys zs l p q i h = p i h ∙ q i (omega (arith, h, l))

keeps_push : {X : Type 0} (xs ys : List X) (x : X) → ys ≡ xs ++ x ∷ [] → Keeps (length xs) xs ys
keeps_push xs ys x e i h = sym (slice_get-front xs (x ∷ []) i h) ∙ ap (λ zs. slice_get zs i) (sym e)

pub grows_self : (p : NamedParts) → Grows p p
grows_self p = record {
  texts = omega arith;
  exprs = omega arith;
  stmts = omega arith;
  same_texts = λ i h. refl;
  same_exprs = λ i h. refl;
  same_stmts = λ i h. refl;
  whole = refl;
}

pub grows_more : (p q r : NamedParts) → Grows p q → Grows q r → Grows p r
grows_more p q r g h = record {
  texts = omega (arith, g.texts, h.texts);
  exprs = omega (arith, g.exprs, h.exprs);
  stmts = omega (arith, g.stmts, h.stmts);
  same_texts = keeps_more (length p.texts) (length q.texts) p.texts q.texts r.texts g.texts g.same_texts h.same_texts;
  same_exprs = keeps_more (length p.exprs) (length q.exprs) (exprs_of p) (exprs_of q) (exprs_of r) g.exprs g.same_exprs h.same_exprs;
  same_stmts = keeps_more (length p.stmts) (length q.stmts) (stmts_of p) (stmts_of q) (stmts_of r) g.stmts g.same_stmts h.same_stmts;
  whole = h.whole ∙ g.whole;
}

-- With one expression more.
pub grows_expr : (p q : NamedParts) (n : NamedExprNode) (t : NamedExprTree) → q ≡ record p { exprs = p.exprs ++ n ∷ [] } → exprs_of q ≡ exprs_of p ++ t ∷ []
    → stmts_of q ≡ stmts_of p → named_package q ≡ named_package p → Grows p q
grows_expr p q n t e more stmts whole =
    let texts : q.texts ≡ p.texts = ap (λ (x : NamedParts). x.texts) e in
    let exprs : q.exprs ≡ p.exprs ++ n ∷ [] = ap (λ (x : NamedParts). x.exprs) e in
    let nodes : q.stmts ≡ p.stmts = ap (λ (x : NamedParts). x.stmts) e in
    let count : length (exprs_of p) ≡ length p.exprs = expr_trees-length p.exprs in
    record {
      texts = omega (arith, ap (λ (xs : List (List ℕ)). length xs) texts);
      exprs = omega (arith, ap (λ (xs : List NamedExprNode). length xs) exprs, length-append p.exprs (n ∷ []));
      stmts = omega (arith, ap (λ (xs : List _). length xs) nodes);
      same_texts = λ i h. ap (λ xs. slice_get xs i) (sym texts);
      same_exprs = λ i h. keeps_push (exprs_of p) (exprs_of q) t more i (omega (arith, h, count));
      same_stmts = λ i h. ap (λ xs. slice_get xs i) (sym stmts);
      whole = whole;
    }

-- With one statement more.
pub grows_stmt : (p q : NamedParts) (n : NamedStmtNode) (t : NamedStmtTree) → q ≡ record p { stmts = p.stmts ++ n ∷ [] } → stmts_of q ≡ stmts_of p ++ t ∷ []
    → named_package q ≡ named_package p → Grows p q
grows_stmt p q n t e more whole =
    let texts : q.texts ≡ p.texts = ap (λ (x : NamedParts). x.texts) e in
    let exprs : q.exprs ≡ p.exprs = ap (λ (x : NamedParts). x.exprs) e in
    let nodes : q.stmts ≡ p.stmts ++ n ∷ [] = ap (λ (x : NamedParts). x.stmts) e in
    let trees : exprs_of q ≡ exprs_of p = ap (λ (x : NamedParts). exprs_of x) e in
    let count : length (stmts_of p) ≡ length p.stmts = stmt_trees-length p.texts p.exprs p.stmts in
    record {
      texts = omega (arith, ap (λ (xs : List (List ℕ)). length xs) texts);
      exprs = omega (arith, ap (λ (xs : List NamedExprNode). length xs) exprs);
      stmts = omega (arith, ap (λ (xs : List NamedStmtNode). length xs) nodes, length-append p.stmts (n ∷ []));
      same_texts = λ i h. ap (λ xs. slice_get xs i) (sym texts);
      same_exprs = λ i h. ap (λ xs. slice_get xs i) (sym trees);
      same_stmts = λ i h. keeps_push (stmts_of p) (stmts_of q) t more i (omega (arith, h, count));
      whole = whole;
    }

module _ (p q : NamedParts) (g : Grows p q) where
  pub expr_kept : (e : ExprId) → e.0 < length p.exprs → expr_at (exprs_of q) e ≡ expr_at (exprs_of p) e
  expr_kept e h = sym (expr_at-same (length p.exprs) (exprs_of p) (exprs_of q) g.same_exprs e h)

  pub part_kept : (e : Option ExprId) → IsBelow (length p.exprs) e → part_at (exprs_of q) e ≡ part_at (exprs_of p) e
  part_kept e h = sym (part_at-same (length p.exprs) (exprs_of p) (exprs_of q) g.same_exprs e h)

  pub links_kept : (ls : List Link) → LinksBelow (length p.exprs) ls → links_at (exprs_of q) ls ≡ links_at (exprs_of p) ls
  links_kept ls h = sym (links_at-same (length p.exprs) (exprs_of p) (exprs_of q) g.same_exprs ls h)

  pub prefixes_kept : (ps : List Prefix) (t : NamedTypeTree) → AllByRecursion (PrefixBelow (length p.exprs)) ps → all_prefixed (exprs_of q) ps t ≡ all_prefixed (exprs_of p) ps t
  prefixes_kept ps t h = sym (all_prefixed-same (length p.exprs) (exprs_of p) (exprs_of q) g.same_exprs ps t t refl h)

  pub given_kept : (gs : List Given) → GivenBelow (length p.exprs) gs → given_trees (exprs_of q) gs ≡ given_trees (exprs_of p) gs
  given_kept [] h = refl
  given_kept (x ∷ gs) h =
      ap (λ v. record { name = x.name; value = v } ∷ given_trees (exprs_of q) gs) (expr_kept x.value h.0)
      ∙ ap (λ xs. given_tree (exprs_of p) x ∷ xs) (given_kept gs h.1)

-- Of an answer after another step.
pub ok_grows : {X E : Type 0} (p q s : NamedParts) (r : Result X E) → Grows p q → OnOk r (Grows q s) → OnOk r (Grows p s)
ok_grows p q s (Ok x) g h = grows_more p q s g h
ok_grows p q s (Err e) g h = tt

pub ok_is : {X Y E : Type 0} (f : X → Y) (s t : Y) (r : Result X E) → s ≡ t → IfOk r (λ x. f x ≡ s) → IfOk r (λ x. f x ≡ t)
ok_is f s t (Ok x) e h = h ∙ e
ok_is f s t (Err x) e h = tt

pub ok_still : {X E : Type 0} (r : Result X E) (P : Type 0) → P → OnOk r P
ok_still (Ok x) P h = h
ok_still (Err e) P h = tt

pub ok_so : {X E : Type 0} (r : Result X E) (P Q : X → Type 0) → ((x : X) → P x → Q x) → IfOk r P → IfOk r Q
ok_so (Ok x) P Q f h = f x h
ok_so (Err e) P Q f h = tt
