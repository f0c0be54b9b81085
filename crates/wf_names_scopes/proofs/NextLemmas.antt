-- Which methods come next, by the numbers of methods.
use Rattle.std.proofs.Common.{◌≡◌, ℕ, ◌+◌, List, [], ◌∷◌, ◌++◌, length, drop, Some, slice_get, sym, ap, ◌∙◌, subst, append_assoc, length-append, arith}
use Rattle.wf_ast.specs.declared.parsed.DeclNode.{DeclNode}
use Rattle.wf_ast.specs.ParsedParts.{Parsed}
use Rattle.wf_ast.specs.ParsedTree.{ExprTree, StmtTree, DeclTree}
use Rattle.wf_ast.specs.ParsedTrees.{expr_trees, stmt_trees, decl_made, decls_made}
use Rattle.wf_ast.proofs.TreeLemmas.{slice_get-seam}
use Rattle.wf_names_rules.specs.Declarations.{Method, Declared, methods_of, declared_in}
use Rattle.wf_names_scopes.specs.CallRows.{AreRowsInFront}
use Rattle.wf_names_scopes.specs.Growing.{AreLeft, AreNext}
use Rattle.wf_names_scopes.proofs.PackageLemmas.{methods_append, trees_made}
use Rattle.wf_names_scopes.proofs.UseLemmas.{drop_at}

-- The next method by its number.
pub next-at : (d : Declared) (n : ℕ) (m : Method) → AreNext d n (m ∷ []) → slice_get d.methods n ≡ Some m
next-at d n m next =
    let h = next.1 in
    ap (λ ms. slice_get ms n) h.whole ∙ ap (λ k. slice_get (h.front ++ m ∷ next.0) k) (sym h.long) ∙ slice_get-seam h.front m next.0

-- After the methods of a declaration those of the others are left.
pub left-over : (d : Declared) (n k : ℕ) (ms left : List Method) → k ≡ n + length ms → AreLeft d n (ms ++ left) → AreLeft d k left
left-over d n k ms left e h = record {
  front = h.front ++ ms;
  whole = h.whole ∙ sym (append_assoc h.front ms left);
  long = omega (arith, length-append h.front ms, h.long, e);
}

-- The methods of the next declaration are next.
module _ (d : Declared) (n : ℕ) (es : List ExprTree) (ts : List StmtTree) (decls : List DeclNode) (i : ℕ) (node : DeclNode) (at : slice_get decls i ≡ Some node) where
  abbrev made : DeclTree
  made = decl_made es ts node.public node.decl node.at

  abbrev rest : List DeclTree
  rest = decls_made es ts (drop (i + 1) decls)

  pub left-split : AreLeft d n (methods_of (decls_made es ts (drop i decls))) → AreLeft d n (methods_of (made ∷ []) ++ methods_of rest)
  left-split h =
      let split : methods_of (decls_made es ts (drop i decls)) ≡ methods_of (made ∷ []) ++ methods_of rest = ap (λ ns. methods_of (decls_made es ts ns)) (drop_at decls i node at) ∙ methods_append (made ∷ []) rest in
      subst (AreLeft d n) split h

  pub next-of : AreLeft d n (methods_of (decls_made es ts (drop i decls))) → AreNext d n (methods_of (made ∷ []))
  next-of h = (methods_of rest, left-split h)

-- Rows of the methods before others count them.
pub rows-left : (d : Declared) (rows : List (List ℕ)) (left : List Method) → AreRowsInFront d rows left → AreLeft d (length rows) left
rows-left d rows left h = record { front = h.front; whole = h.whole; long = sym h.made.len }

-- At the beginning all are left.
pub all-left : (p : Parsed) (n : ℕ) → n ≡ 0 → AreLeft (declared_in p) n (methods_of (decls_made (expr_trees p.exprs) (stmt_trees p.exprs p.stmts) p.decls))
all-left p n e = record { front = []; whole = ap methods_of (trees_made p); long = sym e }
