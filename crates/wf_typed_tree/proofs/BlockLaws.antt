-- The bodies of methods keep the rules, and with them the whole typed package.
use Rattle.std.proofs.Common.{◌≡◌, ℕ, zero, suc, ◌+◌, ◌≤◌, Bool, true, false, ◌&&◌, List, [], ◌∷◌, ◌++◌, length, Some, None, refl, sym, ap, ◌∙◌, subst, arith, nat_lt, nat_eq}
use Rattle.std.specs.Prelude.{slice_get}
use Rattle.std.specs.List.{list_all}
use Rattle.std.proofs.lemmas.Bool.Decides.{nat_tests}
use Rattle.std.proofs.lemmas.List.{length-map}
use Rattle.wf_ast.specs.TypedTree.{Simple, Site, Block, end, plain}
use Rattle.wf_ast.specs.TypedTrees.{cond_in}
use Rattle.wf_ast.specs.TypedPackage.{MethodTree}
use Rattle.wf_ast.specs.Value.{same_truth}
use Rattle.wf_ast.specs.WellTyped.{well_cond, well_simple, well_block, breaks, may_be_arg, may_be_local, may_be_result, answers_always, well_method, calls_in_front, all_structs_whole, has_struct_order, well_typed}
use Rattle.wf_ast.specs.OperatorForms.{updates}
use Rattle.wf_named.specs.NamedTree.{NamedClauseTrees, no_clause, more_clauses, NamedStmtTree, assign, keep, do_call, branch, loop, leave, again, back, suspend, claim, NamedBlockTree, close, more_stmts, NamedArmTrees, no_else, otherwise, arm, NamedMethodTree, NamedPackageTree}
use Rattle.wf_named.specs.WellNamed.{named_expr, named_target, named_call, named_via, named_clauses, named_stmt, named_block, named_arms, well_named}
use Rattle.wf_named.specs.Grammar.{by_grammar, target_by_grammar, call_by_grammar, via_by_grammar, clauses_by_grammar, has_condition, stmt_by_grammar, block_by_grammar, arms_by_grammar, package_by_grammar}
use Rattle.wf_types_rules.specs.Parts.{condition_parts, clauses_parts, stmt_parts, block_parts, arms_parts}
use Rattle.wf_types_rules.specs.Judgements.{block_leaves}
use Rattle.wf_types_rules.specs.FirstBreak.{deciding}
use Rattle.wf_typed_tree.specs.ElaboratedExprs.{expr_tree}
use Rattle.wf_typed_tree.specs.ElaboratedStmts.{simple_tree, count_stmt, count_block, count_arms, site, clause_trees, stmt_tree, block_tree, arms_tree}
use Rattle.wf_typed_tree.specs.ElaboratedPackage.{typed_struct, typed_method, typed_methods, typed_package}
use Rattle.wf_typed_tree.proofs.NumberLemmas.{both, and-true}
use Rattle.wf_typed_tree.proofs.NoBreaks.{AllFine, fine-split}
use Rattle.wf_typed_tree.proofs.Agreement.{PackageIs, MethodIs, package-is, method-is, typed-structs}
use Rattle.wf_typed_tree.proofs.CallLaws.{typed-order}
use Rattle.wf_typed_tree.proofs.DeclarationLaws.{head-is, typed-structs-whole, typed-struct-order}
use Rattle.wf_typed_tree.proofs.EndLaws.{method-answers}
use Rattle.wf_typed_tree.proofs.LoopLaws.{Above, left-told}
use Rattle.wf_typed_tree.proofs.BodyLaws.{around, names, context, condition-keeps}
use Rattle.wf_typed_tree.proofs.CalledLaws.{typed-methods}
use Rattle.wf_typed_tree.proofs.CallStmtLaws.{call-alone-keeps, call-kept-keeps}
use Rattle.wf_typed_tree.proofs.SimpleLaws.{among-loops, assign-keeps, return-keeps, yield-keeps, claim-keeps}

above-less : (a b : ℕ) (loops : List ℕ) → b ≤ a → Above a loops → Above b loops
above-less a b loops le h j low = let high = h j low in grind (arith, le, high)

above-inside : (w : ℕ) (loops : List ℕ) → Above (suc w) loops → Above w (w ∷ loops)
above-inside w loops h zero low = grind arith
above-inside w loops h (suc j) low = let high = h j (grind (arith, nat_tests, low)) in grind (arith, high)

above-none : (bound : ℕ) → Above bound []
above-none bound j low = absurd (grind (arith, nat_tests, low))

truth-same : (a b : Bool) → b ≡ a → same_truth a b ≡ true
truth-same true b h = h
truth-same false b h = rw h refl

module _ (p : NamedPackageTree) (n : ℕ) (m : NamedMethodTree) (is : MethodIs p m) (whole : PackageIs p) where
  clauses-keep : (clauses : NamedClauseTrees) → AllFine p (around p n m is) (clauses_parts clauses) → clauses_by_grammar clauses ≡ true → named_clauses (names p n m is) clauses ≡ true
      → list_all (λ x. well_cond (context p n m is) x.1) (clause_trees (around p n m is) clauses) ≡ true
  clauses-keep no_clause h g k = refl
  clauses-keep (more_clauses kind e at others) h g k =
      let grammar = both (by_grammar e) (clauses_by_grammar others) g in
      let named = both (named_expr (names p n m is) e) (named_clauses (names p n m is) others) k in
      let parts = fine-split p (around p n m is) (condition_parts e) (clauses_parts others) h in
      and-true (well_cond (context p n m is) (cond_in (expr_tree (around p n m is) e))) _ (condition-keeps p n m is e parts.0 grammar.0 named.0) (clauses-keep others parts.1 grammar.1 named.1)

  plain-keeps : (loops : List ℕ) (at : Site) (s : Simple) (rest : Block) → well_simple (context p n m is) loops s ≡ true → well_block (context p n m is) loops rest ≡ true
      → well_block (context p n m is) loops (plain at s rest) ≡ true
  plain-keeps loops at s rest h k = and-true (well_simple (context p n m is) loops s) (well_block (context p n m is) loops rest) h k

  mutual
    stmt-keeps : (loops : List ℕ) (k : ℕ) (st : NamedStmtTree) (rest : Block) → Above (k + count_stmt st) loops → AllFine p (around p n m is) (stmt_parts st) → stmt_by_grammar st ≡ true
        → named_stmt (names p n m is) (length loops) st ≡ true → well_block (context p n m is) loops rest ≡ true
        → well_block (context p n m is) loops (stmt_tree (around p n m is) loops k st rest) ≡ true
    stmt-keeps loops k (branch arms at) rest above h g w r =
        let grammar = both (has_condition arms) (arms_by_grammar arms) g in
        let less : k + count_arms arms ≤ k + suc (count_arms arms) = grind arith in
        arms-keep loops k (site (k + count_arms arms) at) false arms rest (above-less (k + suc (count_arms arms)) (k + count_arms arms) loops less above) h grammar.1 w r
    stmt-keeps loops k (loop e clauses body at) rest above h g w r =
        let grammar = both (by_grammar e) (clauses_by_grammar clauses && block_by_grammar body) g in
        let grammar_in = both (clauses_by_grammar clauses) (block_by_grammar body) grammar.1 in
        let named = both (named_expr (names p n m is) e) (named_clauses (names p n m is) clauses && named_block (names p n m is) (suc (length loops)) body) w in
        let named_in = both (named_clauses (names p n m is) clauses) (named_block (names p n m is) (suc (length loops)) body) named.1 in
        let parts = fine-split p (around p n m is) (condition_parts e) (clauses_parts clauses ++ block_parts body) h in
        let parts_in = fine-split p (around p n m is) (clauses_parts clauses) (block_parts body) parts.1 in
        let number : ℕ = k + count_block body in
        let A : ℕ → Type 0 = λ b. Above b loops in
        let behind : k + suc (count_block body) ≡ suc (k + count_block body) = omega arith in
        let high : Above (suc (k + count_block body)) loops = subst A behind above in
        let left = left-told (around p n m is) (names p n m is) loops k body high grammar_in.1 named_in.1 in
        and-true (well_cond (context p n m is) (cond_in (expr_tree (around p n m is) e))) _ (condition-keeps p n m is e parts.0 grammar.0 named.0)
        (and-true (list_all (λ x. well_cond (context p n m is) x.1) (clause_trees (around p n m is) clauses)) _ (clauses-keep clauses parts_in.0 grammar_in.0 named_in.0)
        (and-true (same_truth (block_leaves 0 body) (breaks (k + count_block body) (block_tree (around p n m is) ((k + count_block body) ∷ loops) k body))) _ (truth-same _ _ left)
        (and-true (well_block (context p n m is) ((k + count_block body) ∷ loops) (block_tree (around p n m is) ((k + count_block body) ∷ loops) k body)) (well_block (context p n m is) loops rest)
        (block-keeps ((k + count_block body) ∷ loops) k body (above-inside (k + count_block body) loops high) parts_in.1 grammar_in.1 named_in.1) r)))
    stmt-keeps loops k (assign t op sign e at) rest above h g w r =
        let grammar = both (updates op) (target_by_grammar t && by_grammar e) g in
        let grammar_in = both (target_by_grammar t) (by_grammar e) grammar.1 in
        let named = both (named_target (names p n m is) t) (named_expr (names p n m is) e) w in
        plain-keeps loops (site k at) (simple_tree (around p n m is) loops (assign t op sign e at)) rest
        (assign-keeps p n m is whole loops t op sign e h grammar.0 grammar_in.0 grammar_in.1 named.0 named.1) r
    stmt-keeps loops k (keep t c at) rest above h g w r =
        let grammar = both (target_by_grammar t) (call_by_grammar c) g in
        let named = both (named_target (names p n m is) t) (named_call (names p n m is) c) w in
        plain-keeps loops (site k at) (simple_tree (around p n m is) loops (keep t c at)) rest (call-kept-keeps p n m is whole loops t c h grammar.0 grammar.1 named.0 named.1) r
    stmt-keeps loops k (do_call c at) rest above h g w r =
        plain-keeps loops (site k at) (simple_tree (around p n m is) loops (do_call c at)) rest (call-alone-keeps p n m is whole loops c h g w) r
    stmt-keeps loops k (leave outwards at) rest above h g w r =
        plain-keeps loops (site k at) (simple_tree (around p n m is) loops (leave outwards at)) rest (among-loops loops outwards w) r
    stmt-keeps loops k (again outwards at) rest above h g w r =
        plain-keeps loops (site k at) (simple_tree (around p n m is) loops (again outwards at)) rest (among-loops loops outwards w) r
    stmt-keeps loops k (back e at) rest above h g w r =
        plain-keeps loops (site k at) (simple_tree (around p n m is) loops (back e at)) rest (return-keeps p n m is whole loops at e h g w) r
    stmt-keeps loops k (suspend e at) rest above h g w r =
        plain-keeps loops (site k at) (simple_tree (around p n m is) loops (suspend e at)) rest (yield-keeps p n m is whole loops at e h) r
    stmt-keeps loops k (claim e by at) rest above h g w r =
        let grammar = both (by_grammar e) (via_by_grammar by) g in
        let named = both (named_expr (names p n m is) e) (named_via (names p n m is) by) w in
        plain-keeps loops (site k at) (simple_tree (around p n m is) loops (claim e by at)) rest (claim-keeps p n m is whole loops e by h grammar.0 grammar.1 named.0 named.1) r

    block-keeps : (loops : List ℕ) (k : ℕ) (b : NamedBlockTree) → Above (k + count_block b) loops → AllFine p (around p n m is) (block_parts b) → block_by_grammar b ≡ true
        → named_block (names p n m is) (length loops) b ≡ true → well_block (context p n m is) loops (block_tree (around p n m is) loops k b) ≡ true
    block-keeps loops k (close at) above h g w = refl
    block-keeps loops k (more_stmts first others) above h g w =
        let grammar = both (stmt_by_grammar first) (block_by_grammar others) g in
        let named = both (named_stmt (names p n m is) (length loops) first) (named_block (names p n m is) (length loops) others) w in
        let parts = fine-split p (around p n m is) (stmt_parts first) (block_parts others) h in
        let here : k + count_stmt first ≤ k + (count_stmt first + count_block others) = grind arith in
        let behind : k + count_stmt first + count_block others ≤ k + (count_stmt first + count_block others) = grind arith in
        let low = above-less (k + (count_stmt first + count_block others)) (k + count_stmt first) loops here above in
        let rest = above-less (k + (count_stmt first + count_block others)) (k + count_stmt first + count_block others) loops behind above in
        stmt-keeps loops k first (block_tree (around p n m is) loops (k + count_stmt first) others) low parts.0 grammar.0 named.0
        (block-keeps loops (k + count_stmt first) others rest parts.1 grammar.1 named.1)

    arms-keep : (loops : List ℕ) (k : ℕ) (of : Site) (chained : Bool) (arms : NamedArmTrees) (rest : Block) → Above (k + count_arms arms) loops → AllFine p (around p n m is) (arms_parts arms)
        → arms_by_grammar arms ≡ true → named_arms (names p n m is) (length loops) arms ≡ true → well_block (context p n m is) loops rest ≡ true
        → well_block (context p n m is) loops (arms_tree (around p n m is) loops k of chained arms rest) ≡ true
    arms-keep loops k of chained no_else rest above h g w r = refl
    arms-keep loops k of chained (otherwise body) rest above h g w r = block-keeps loops k body above h g w
    arms-keep loops k of chained (arm e body others) rest above h g w r =
        let grammar = both (by_grammar e) (block_by_grammar body && arms_by_grammar others) g in
        let grammar_in = both (block_by_grammar body) (arms_by_grammar others) grammar.1 in
        let named = both (named_expr (names p n m is) e) (named_block (names p n m is) (length loops) body && named_arms (names p n m is) (length loops) others) w in
        let named_in = both (named_block (names p n m is) (length loops) body) (named_arms (names p n m is) (length loops) others) named.1 in
        let parts = fine-split p (around p n m is) (condition_parts e) (block_parts body ++ arms_parts others) h in
        let parts_in = fine-split p (around p n m is) (block_parts body) (arms_parts others) parts.1 in
        let here : k + count_block body ≤ k + (count_block body + count_arms others) = grind arith in
        let behind : k + count_block body + count_arms others ≤ k + (count_block body + count_arms others) = grind arith in
        let low = above-less (k + (count_block body + count_arms others)) (k + count_block body) loops here above in
        let high = above-less (k + (count_block body + count_arms others)) (k + count_block body + count_arms others) loops behind above in
        and-true (well_cond (context p n m is) (cond_in (expr_tree (around p n m is) e))) _ (condition-keeps p n m is e parts.0 grammar.0 named.0)
        (and-true (well_block (context p n m is) loops (block_tree (around p n m is) loops k body)) _ (block-keeps loops k body low parts_in.0 grammar_in.0 named_in.0)
        (and-true (well_block (context p n m is) loops (arms_tree (around p n m is) loops (k + count_block body) of true others end)) (well_block (context p n m is) loops rest)
        (arms-keep loops (k + count_block body) of true others end high parts_in.1 grammar_in.1 named_in.1 refl) r))

  -- A method.
  pub method-keeps : block_by_grammar m.body ≡ true → well_method (typed_package p) (typed_method p n m) ≡ true
  method-keeps g =
      let count : length (typed_package p).structs ≡ length p.structs = ap length (typed-structs p) ∙ length-map p.structs (typed_struct p) in
      let L : ℕ → Type 0 = λ l. nat_lt m.of l ≡ true in
      let head = head-is p m is in
      and-true (nat_lt m.of (length (typed_package p).structs)) _ (subst L (sym count) is.inside)
      (and-true (list_all (λ x. may_be_arg x.ty) (typed_method p n m).args) _ head.args
      (and-true (list_all (λ x. may_be_local x.ty) (typed_method p n m).locals) _ head.locals
      (and-true (may_be_result m.mark (typed_method p n m).gives) _ head.gives
      (and-true (answers_always m.mark (typed_method p n m).gives (typed_method p n m).body) _ (method-answers p n m is g)
      (block-keeps [] n m.body (above-none (n + count_block m.body)) is.body.1 g is.named)))))

methods-keep : (p : NamedPackageTree) → PackageIs p → (n : ℕ) (ms : List NamedMethodTree) → ((i : ℕ) (m : NamedMethodTree) → slice_get ms i ≡ Some m → MethodIs p m)
    → list_all (λ m. block_by_grammar m.body) ms ≡ true → list_all (well_method (typed_package p)) (typed_methods p n ms) ≡ true
methods-keep p whole n [] all g = refl
methods-keep p whole n (m ∷ ms) all g =
    let grammar = both (block_by_grammar m.body) (list_all (λ m. block_by_grammar m.body) ms) g in
    and-true (well_method (typed_package p) (typed_method p n m)) _ (method-keeps p n m (all 0 m refl) whole grammar.0)
    (methods-keep p whole (n + count_block m.body) ms (λ i x e. all (suc i) x e) grammar.1)

-- The typed tree of a package that breaks no rule keeps all of them.
pub package-keeps : (p : NamedPackageTree) → deciding p ≡ None → well_named p ≡ true → package_by_grammar p ≡ true → well_typed (typed_package p) ≡ true
unfolding well_typed
package-keeps p none named g =
    let whole = package-is p none named in
    let order = both (nat_eq (length (typed_package p).order) (length (typed_package p).methods)) (calls_in_front (typed_package p) [] (typed_package p).order) (typed-order p whole) in
    let M : List MethodTree → Type 0 = λ ms. list_all (well_method (typed_package p)) ms ≡ true in
    and-true (all_structs_whole (typed_package p) 0 (typed_package p).structs) _ (typed-structs-whole p whole)
    (and-true (list_all (well_method (typed_package p)) (typed_package p).methods) _
    (subst M (sym (typed-methods p)) (methods-keep p whole 0 p.methods (λ i m e. method-is p whole i m e) g))
    (and-true (nat_eq (length (typed_package p).order) (length (typed_package p).methods)) _ order.0
    (and-true (calls_in_front (typed_package p) [] (typed_package p).order) (has_struct_order (typed_package p)) order.1 (typed-struct-order p whole))))
