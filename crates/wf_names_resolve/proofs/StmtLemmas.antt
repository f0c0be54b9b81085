-- Parts of statements, while nodes are added.
use Rattle.std.proofs.Common.{◌≡◌, ◌+◌, ◌<◌, ◌≤◌, ℕ, List, [], ◌∷◌, ◌++◌, length, drop, slice_index_or, refl, sym, ap, ◌∙◌, subst, arith}
use Rattle.std.specs.List.{AllByRecursion}
use Rattle.wf_ast.specs.declared.numbers.ExprId.{ExprId}
use Rattle.wf_ast.specs.declared.parsed.LoopClause.{LoopClause}
use Rattle.wf_ast.specs.ParsedTree.{ExprTree}
use Rattle.wf_ast.specs.ParsedTrees as parsed
use Rattle.wf_ast.proofs.TreeLemmas.{all_map, all_push}
use Rattle.wf_named.specs.declared.nodes.NamedTarget.{NamedTarget}
use Rattle.wf_named.specs.declared.nodes.NamedTarget.TheVariants as targets
use Rattle.wf_named.specs.NamedTree as tree
use Rattle.wf_named.specs.NamedTree.{NamedExprTree, NamedClauseTrees}
use Rattle.wf_named.specs.NamedTrees.{expr_at, target_at, clauses_at}
use Rattle.wf_named.specs.NamedParts.{NamedParts, exprs_of, NamedTargetBelow}
use Rattle.wf_names_rules.proofs.WalkLemmas.{drop-one}
use Rattle.wf_names_resolve.specs.Standing.{Standing}
use Rattle.wf_names_resolve.specs.Resolved.{resolved_expr, resolved_clauses}
use Rattle.wf_names_resolve.specs.Growth.{Grows}
use Rattle.wf_names_resolve.proofs.Growth.{grows_self, grows_more, expr_kept}

pub target_more : (k l : ℕ) → k ≤ l → (x : NamedTarget) → NamedTargetBelow k x → NamedTargetBelow l x
target_more k l m (targets.Path path) h = tt
target_more k l m (targets.Element base place at) h = omega (arith, h, m)

pub clauses_more : (k l : ℕ) → k ≤ l → (cs : List LoopClause) → AllByRecursion (λ c. c.condition.0 < k) cs → AllByRecursion (λ c. c.condition.0 < l) cs
clauses_more k l m cs h = all_map (λ c. c.condition.0 < k) (λ c. c.condition.0 < l) (λ c p. omega (arith, p, m)) cs h

module _ (p q : NamedParts) (g : Grows p q) where
  pub target_kept : (x : NamedTarget) → NamedTargetBelow (length p.exprs) x → target_at (exprs_of q) x ≡ target_at (exprs_of p) x
  target_kept (targets.Path path) h = refl
  target_kept (targets.Element base place at) h = ap (λ e. tree.to_element base e at) (expr_kept p q g place h)

  pub clauses_kept : (cs : List LoopClause) → AllByRecursion (λ c. c.condition.0 < length p.exprs) cs → clauses_at (exprs_of q) cs ≡ clauses_at (exprs_of p) cs
  clauses_kept [] h = refl
  clauses_kept (c ∷ cs) h = let e = expr_kept p q g c.condition h.0 in let es = clauses_kept cs h.1 in cc

-- Promises after those of another list.
abbrev pub clauses_behind : NamedClauseTrees → NamedClauseTrees → NamedClauseTrees
clauses_behind tree.no_clause others = others
clauses_behind (tree.more_clauses kind condition at first) others = tree.more_clauses kind condition at (clauses_behind first others)

clauses_end : (cs : NamedClauseTrees) → clauses_behind cs tree.no_clause ≡ cs
clauses_end tree.no_clause = refl
clauses_end (tree.more_clauses kind condition at others) = ap (tree.more_clauses kind condition at) (clauses_end others)

clauses_push : (ts : List NamedExprTree) (cs : List LoopClause) (c : LoopClause) (others : NamedClauseTrees)
    → clauses_behind (clauses_at ts (cs ++ c ∷ [])) others ≡ clauses_behind (clauses_at ts cs) (tree.more_clauses c.kind (expr_at ts c.condition) c.at others)
clauses_push ts [] c others = refl
clauses_push ts (x ∷ cs) c others = ap (tree.more_clauses x.kind (expr_at ts x.condition) x.at) (clauses_push ts cs c others)

-- What a loop keeps over promises.
pub record ClausesMade (k : Standing) (es : List ExprTree) (clauses : List LoopClause) (i : ℕ) (p q : NamedParts) (made : List LoopClause) : Type 0 where
  pub grows : Grows p q
  pub below : AllByRecursion (λ c. c.condition.0 < length q.exprs) made
  pub trees : clauses_behind (clauses_at (exprs_of q) made) (resolved_clauses k (parsed.clauses_at es (drop i clauses))) ≡ resolved_clauses k (parsed.clauses_at es clauses)

pub clauses_start : (k : Standing) (es : List ExprTree) (p : NamedParts) (clauses made : List LoopClause) → made ≡ [] → ClausesMade k es clauses 0 p p made
clauses_start k es p clauses made e =
    let P : List LoopClause → Type 0 = λ m. ClausesMade k es clauses 0 p p m in
    let none : ClausesMade k es clauses 0 p p [] = record { grows = grows_self p; below = tt; trees = refl } in
    subst P (sym e) none

module _ (k : Standing) (es : List ExprTree) (p q r : NamedParts) (i : ℕ) where
  pub clause_made : (clauses made : List LoopClause) (d : LoopClause) (e : ExprId) → i < length clauses → ClausesMade k es clauses i p q made → Grows q r → e.0 < length r.exprs
      → expr_at (exprs_of r) e ≡ resolved_expr k (parsed.expr_at es (slice_index_or clauses i d).condition)
      → ClausesMade k es clauses (i + 1) p r (made ++ record { kind = (slice_index_or clauses i d).kind; condition = e; at = (slice_index_or clauses i d).at } ∷ [])
  clause_made clauses made d e h m g b is =
      let x = slice_index_or clauses i d in
      let l : LoopClause = record { kind = x.kind; condition = e; at = x.at } in
      let rest = resolved_clauses k (parsed.clauses_at es (drop (i + 1) clauses)) in
      let trees : clauses_behind (clauses_at (exprs_of r) (made ++ l ∷ [])) rest ≡ resolved_clauses k (parsed.clauses_at es clauses) =
      clauses_push (exprs_of r) made l rest
      ∙ ap (λ o. clauses_behind (clauses_at (exprs_of r) made) (tree.more_clauses x.kind o x.at rest)) is
      ∙ ap (λ cs. clauses_behind cs (tree.more_clauses x.kind (resolved_expr k (parsed.expr_at es x.condition)) x.at rest)) (clauses_kept q r g made m.below)
      ∙ sym (ap (λ xs. clauses_behind (clauses_at (exprs_of q) made) (resolved_clauses k (parsed.clauses_at es xs))) (drop-one clauses i d h))
      ∙ m.trees in
      record {
        grows = grows_more p q r m.grows g;
        below = all_push (λ c. c.condition.0 < length r.exprs) made l (clauses_more (length q.exprs) (length r.exprs) g.exprs made m.below) b;
        trees = trees;
      }

  pub clauses_made : (clauses made : List LoopClause) → drop i clauses ≡ [] → ClausesMade k es clauses i p q made → clauses_at (exprs_of q) made ≡ resolved_clauses k (parsed.clauses_at es clauses)
  clauses_made clauses made e m =
      sym (clauses_end (clauses_at (exprs_of q) made)) ∙ sym (ap (λ xs. clauses_behind (clauses_at (exprs_of q) made) (resolved_clauses k (parsed.clauses_at es xs))) e) ∙ m.trees
