-- What a package and a stack stand for after one node more.
use Rattle.std.proofs.Common.{◌≡◌, ◌<◌, ◌≤◌, ◌+◌, ℕ, Some, List, [], ◌∷◌, ◌++◌, length, refl, sym, ◌∙◌, ap, subst, arith, length-append}
use Rattle.std.specs.List.{slice_get}
use Rattle.wf_ast.specs.declared.numbers.ExprId.{ExprId}
use Rattle.wf_ast.specs.declared.numbers.StmtId.{StmtId}
use Rattle.wf_ast.specs.declared.parsed.DeclNode.{DeclNode}
use Rattle.wf_ast.specs.declared.parsed.ExprNode.{ExprNode}
use Rattle.wf_ast.specs.declared.parsed.StmtNode.{StmtNode}
use Rattle.wf_ast.specs.ParsedTree.{ExprTree, StmtTree}
use Rattle.wf_ast.specs.ParsedTrees.{expr_or, stmt_or, expr_made, exprs_after, expr_trees, stmt_made, stmts_after, stmt_trees, decl_made, decls_made, decl_trees}
use Rattle.wf_ast.specs.ParsedParts.{Parsed, ExprParts, StmtParts, DeclParts}
use Rattle.wf_ast.proofs.TreeLemmas.{Agree, all_map, all_push, slice_get-front, slice_get-seam, stmts_push, StmtsOrdered-more, DeclParts-more}
use Rattle.wf_parse_grammar.specs.Values as val
use Rattle.wf_parse_grammar.specs.Values.{Made}
use Rattle.wf_parse_nodes.specs.Products as makes
use Rattle.wf_parse_nodes.specs.declared.values.SemanticValue.{SemanticValue}
use Rattle.wf_parse_nodes.specs.declared.values.SemanticValue.TheVariants as vals
use Rattle.wf_parse_nodes.specs.Seen.{seen_values, AreOf, made_of, made_with, IsOrdered}
use Rattle.wf_parse_nodes.proofs.Growth.{values_same, decls_same, stmts_exprs, values_more}

-- As many trees as nodes, and one more for a node more.
exprs_after-length : (ns : List ExprNode) (ts : List ExprTree) → length (exprs_after ts ns) ≡ length ts + length ns
exprs_after-length [] ts = omega arith
exprs_after-length (n ∷ ns) ts =
    let m = expr_made ts n.expr n.at ∷ [] in
    let h = exprs_after-length ns (ts ++ m) in
    omega (arith, h, length-append ts m)

exprs_after-push : (ns : List ExprNode) (ts : List ExprTree) (n : ExprNode) → exprs_after ts (ns ++ n ∷ []) ≡ exprs_after ts ns ++ expr_made (exprs_after ts ns) n.expr n.at ∷ []
exprs_after-push [] ts n = refl
exprs_after-push (m ∷ ns) ts n = exprs_after-push ns (ts ++ expr_made ts m.expr m.at ∷ []) n

stmts_after-length : (es : List ExprTree) (ns : List StmtNode) (ts : List StmtTree) → length (stmts_after es ts ns) ≡ length ts + length ns
stmts_after-length es [] ts = omega arith
stmts_after-length es (n ∷ ns) ts =
    let m = stmt_made es ts n.stmt n.at ∷ [] in
    let h = stmts_after-length es ns (ts ++ m) in
    omega (arith, h, length-append ts m)

stmts_after-push : (es : List ExprTree) (ns : List StmtNode) (ts : List StmtTree) (n : StmtNode) → stmts_after es ts (ns ++ n ∷ []) ≡ stmts_after es ts ns ++ stmt_made es (stmts_after es ts ns) n.stmt n.at ∷ []
stmts_after-push es [] ts n = refl
stmts_after-push es (m ∷ ns) ts n = stmts_after-push es ns (ts ++ stmt_made es ts m.stmt m.at ∷ []) n

decls_made-push : (es : List ExprTree) (ss : List StmtTree) (ds : List DeclNode) (d : DeclNode) → decls_made es ss (ds ++ d ∷ []) ≡ decls_made es ss ds ++ decl_made es ss d.public d.decl d.at ∷ []
decls_made-push es ss [] d = refl
decls_made-push es ss (x ∷ ds) d = ap (λ rest. decl_made es ss x.public x.decl x.at ∷ rest) (decls_made-push es ss ds d)

front_agrees : {X : Type 0} (xs ys : List X) (k : ℕ) → k ≡ length xs → Agree k xs (xs ++ ys)
front_agrees xs ys k e i h = sym (slice_get-front xs ys i (omega arith))

seam_at : {X : Type 0} (xs : List X) (y : X) (k : ℕ) → k ≡ length xs → slice_get (xs ++ y ∷ []) k ≡ Some y
seam_at xs y k e = ap (slice_get (xs ++ y ∷ [])) e ∙ slice_get-seam xs y []

-- One expression more.
module _ (p : Parsed) (n : ExprNode) (vs : List SemanticValue) (o : IsOrdered p) (b : AreOf p vs) (x : ExprId) (is : x.0 ≡ length p.exprs) where
  pub expr_put : made_of (record p { exprs = p.exprs ++ n ∷ [] }) (vals.Expr x ∷ vs) ≡ made_with (expr_trees p.exprs) (stmt_trees p.exprs p.stmts) (makes.Expr n) (seen_values (expr_trees p.exprs) (stmt_trees p.exprs p.stmts) vs) (decl_trees p.exprs p.stmts p.decls)
  unfolding expr_trees stmt_trees decl_trees
  expr_put =
      let es = exprs_after [] p.exprs in
      let made = expr_made es n.expr n.at in
      let ss = stmts_after es [] p.stmts in
      let longer : exprs_after [] (p.exprs ++ n ∷ []) ≡ es ++ made ∷ [] = exprs_after-push p.exprs [] n in
      let whole = exprs_after-length p.exprs [] in
      let count : length p.exprs ≡ length es = omega (arith, whole) in
      let agree = front_agrees es (made ∷ []) (length p.exprs) count in
      let there : expr_or (slice_get (es ++ made ∷ []) x.0) ≡ made = ap expr_or (seam_at es made x.0 (is ∙ count)) in
      let stmts_stay : ss ≡ stmts_after (es ++ made ∷ []) [] p.stmts = stmts_exprs (length p.exprs) es (es ++ made ∷ []) agree 0 [] [] p.stmts refl o.stmts in
      let vals_stay : seen_values es ss vs ≡ seen_values (es ++ made ∷ []) ss vs = values_same (length p.exprs) (length p.stmts) es (es ++ made ∷ []) ss ss agree (λ i m. refl) vs b in
      let decls_stay : decls_made es ss p.decls ≡ decls_made (es ++ made ∷ []) ss p.decls = decls_same (length p.exprs) (length p.stmts) es (es ++ made ∷ []) ss ss agree (λ i m. refl) p.decls o.decls in
      let step : (fs : List ExprTree) → fs ≡ es ++ made ∷ []
      → (let made_then : Made = record { vals = val.expr (expr_or (slice_get fs x.0)) ∷ seen_values fs (stmts_after fs [] p.stmts) vs; decls = decls_made fs (stmts_after fs [] p.stmts) p.decls } in made_then)
      ≡ (let made_now : Made = record { vals = val.expr made ∷ seen_values es ss vs; decls = decls_made es ss p.decls } in made_now)
      = λ fs e. rw e (rw (there, sym stmts_stay, sym vals_stay, sym decls_stay) refl) in
      step (exprs_after [] (p.exprs ++ n ∷ [])) longer

  pub expr_ordered : ExprParts (length p.exprs) n.expr → IsOrdered (record p { exprs = p.exprs ++ n ∷ [] })
  expr_ordered h =
      let longer = p.exprs ++ n ∷ [] in
      let more : length p.exprs ≤ length longer = omega (arith, length-append p.exprs (n ∷ [])) in
      record {
        stmts = StmtsOrdered-more (length p.exprs) (length longer) more p.stmts 0 o.stmts;
        decls = all_map (λ d. DeclParts (length p.exprs) (length p.stmts) d.decl) (λ d. DeclParts (length longer) (length p.stmts) d.decl)
            (λ d q. DeclParts-more _ _ _ _ more (omega arith) d.decl q) p.decls o.decls;
      }

  pub expr_of : AreOf (record p { exprs = p.exprs ++ n ∷ [] }) (vals.Expr x ∷ vs)
  expr_of =
      let longer = p.exprs ++ n ∷ [] in
      let count : length longer ≡ length p.exprs + 1 = length-append p.exprs (n ∷ []) in
      let more : length p.exprs ≤ length longer = omega (arith, count) in
      let here : x.0 < length longer = omega (arith, count, is) in
      (here, values_more (length p.exprs) (length longer) (length p.stmts) (length p.stmts) more (omega arith) vs b)

-- One statement more.
module _ (p : Parsed) (n : StmtNode) (vs : List SemanticValue) (o : IsOrdered p) (b : AreOf p vs) (x : StmtId) (is : x.0 ≡ length p.stmts) where
  pub stmt_put : made_of (record p { stmts = p.stmts ++ n ∷ [] }) (vals.Stmt x ∷ vs) ≡ made_with (expr_trees p.exprs) (stmt_trees p.exprs p.stmts) (makes.Stmt n) (seen_values (expr_trees p.exprs) (stmt_trees p.exprs p.stmts) vs) (decl_trees p.exprs p.stmts p.decls)
  unfolding stmt_trees decl_trees
  stmt_put =
      let es = expr_trees p.exprs in
      let ss = stmts_after es [] p.stmts in
      let made = stmt_made es ss n.stmt n.at in
      let longer : stmts_after es [] (p.stmts ++ n ∷ []) ≡ ss ++ made ∷ [] = stmts_after-push es p.stmts [] n in
      let whole = stmts_after-length es p.stmts [] in
      let count : length p.stmts ≡ length ss = omega (arith, whole) in
      let agree = front_agrees ss (made ∷ []) (length p.stmts) count in
      let there : stmt_or (slice_get (ss ++ made ∷ []) x.0) ≡ made = ap stmt_or (seam_at ss made x.0 (is ∙ count)) in
      let vals_stay : seen_values es ss vs ≡ seen_values es (ss ++ made ∷ []) vs = values_same (length p.exprs) (length p.stmts) es es ss (ss ++ made ∷ []) (λ i m. refl) agree vs b in
      let decls_stay : decls_made es ss p.decls ≡ decls_made es (ss ++ made ∷ []) p.decls = decls_same (length p.exprs) (length p.stmts) es es ss (ss ++ made ∷ []) (λ i m. refl) agree p.decls o.decls in
      let step : (us : List StmtTree) → us ≡ ss ++ made ∷ []
      → (let made_then : Made = record { vals = val.stmt (stmt_or (slice_get us x.0)) ∷ seen_values es us vs; decls = decls_made es us p.decls } in made_then)
      ≡ (let made_now : Made = record { vals = val.stmt made ∷ seen_values es ss vs; decls = decls_made es ss p.decls } in made_now)
      = λ us e. rw e (rw (there, sym vals_stay, sym decls_stay) refl) in
      step (stmts_after es [] (p.stmts ++ n ∷ [])) longer

  pub stmt_ordered : StmtParts (length p.exprs) (length p.stmts) n.stmt → IsOrdered (record p { stmts = p.stmts ++ n ∷ [] })
  stmt_ordered h =
      let longer = p.stmts ++ n ∷ [] in
      let more : length p.stmts ≤ length longer = omega (arith, length-append p.stmts (n ∷ [])) in
      let spot : length p.stmts ≡ 0 + length p.stmts = omega arith in
      let Q : ℕ → Type 0 = λ j. StmtParts (length p.exprs) j n.stmt in
      record {
        stmts = stmts_push (length p.exprs) p.stmts 0 n o.stmts (subst Q spot h);
        decls = all_map (λ d. DeclParts (length p.exprs) (length p.stmts) d.decl) (λ d. DeclParts (length p.exprs) (length longer) d.decl)
            (λ d q. DeclParts-more _ _ _ _ (omega arith) more d.decl q) p.decls o.decls;
      }

  pub stmt_of : AreOf (record p { stmts = p.stmts ++ n ∷ [] }) (vals.Stmt x ∷ vs)
  stmt_of =
      let longer = p.stmts ++ n ∷ [] in
      let count : length longer ≡ length p.stmts + 1 = length-append p.stmts (n ∷ []) in
      let more : length p.stmts ≤ length longer = omega (arith, count) in
      let here : x.0 < length longer = omega (arith, count, is) in
      (here, values_more (length p.exprs) (length p.exprs) (length p.stmts) (length longer) (omega arith) more vs b)

-- One declaration more.
module _ (p : Parsed) (d : DeclNode) (vs : List SemanticValue) (o : IsOrdered p) where
  pub decl_put : made_of (record p { decls = p.decls ++ d ∷ [] }) vs ≡ made_with (expr_trees p.exprs) (stmt_trees p.exprs p.stmts) (makes.Decl d) (seen_values (expr_trees p.exprs) (stmt_trees p.exprs p.stmts) vs) (decl_trees p.exprs p.stmts p.decls)
  unfolding decl_trees
  decl_put = ap (λ ds. let made : Made = record { vals = seen_values (expr_trees p.exprs) (stmt_trees p.exprs p.stmts) vs; decls = ds } in made) (decls_made-push (expr_trees p.exprs) (stmt_trees p.exprs p.stmts) p.decls d)

  pub decl_ordered : DeclParts (length p.exprs) (length p.stmts) d.decl → IsOrdered (record p { decls = p.decls ++ d ∷ [] })
  decl_ordered h = record { stmts = o.stmts; decls = all_push (λ x. DeclParts (length p.exprs) (length p.stmts) x.decl) p.decls d o.decls h }
