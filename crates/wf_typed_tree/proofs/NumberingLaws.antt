-- The statements of a typed package are numbered in order, method by method, each after those inside it.
use Rattle.std.proofs.Common.{◌≡◌, ℕ, zero, suc, ◌+◌, true, false, List, [], ◌∷◌, ◌++◌, refl, sym, ap, ◌∙◌, arith}
use Rattle.std.specs.List.{list_all, flat_map}
use Rattle.std.proofs.lemmas.List.{append-nil, append_assoc}
use Rattle.wf_text.specs.declared.place.Place.{Place}
use Rattle.wf_ast.specs.TypedTree.{Site, Block, end}
use Rattle.wf_ast.specs.TypedPackage.{MethodTree}
use Rattle.wf_ast.specs.TypedInvariant.{numbers_in, numbers_from}
use Rattle.wf_named.specs.NamedTree.{NamedStmtTree, assign, keep, do_call, branch, loop, leave, again, back, suspend, claim, NamedBlockTree, close, more_stmts, NamedArmTrees, no_else, otherwise, arm, NamedMethodTree, NamedPackageTree}
use Rattle.wf_named.specs.Grammar.{by_grammar, stmt_by_grammar, block_by_grammar, arms_by_grammar, has_condition, package_by_grammar}
use Rattle.wf_types_rules.specs.declared.settings.Setting.{Setting}
use Rattle.wf_types_rules.specs.DeclaredTypes.{in_method}
use Rattle.wf_typed_tree.specs.ElaboratedStmts.{count_stmt, count_block, count_arms, site, stmt_tree, block_tree, arms_tree}
use Rattle.wf_typed_tree.specs.ElaboratedPackage.{count_methods, typed_methods, typed_package}
use Rattle.wf_typed_tree.proofs.NumberLemmas.{both}

-- Numbers that follow each other.
pub numbers-join : (n a b : ℕ) → numbers_from n a ++ numbers_from (n + a) b ≡ numbers_from n (a + b)
numbers-join n zero b = let plain : n + 0 ≡ n = omega arith in let same : b ≡ 0 + b = omega arith in ap (λ k. numbers_from k b) plain ∙ ap (numbers_from n) same
numbers-join n (suc a) b =
    let moved : n + suc a ≡ suc n + a = omega arith in
    let grown : suc (a + b) ≡ suc a + b = omega arith in
    ap (λ xs. n ∷ xs) (ap (λ k. numbers_from (suc n) a ++ numbers_from k b) moved ∙ numbers-join (suc n) a b) ∙ ap (numbers_from n) grown

numbers-last : (n a : ℕ) → numbers_from n a ++ (n + a) ∷ [] ≡ numbers_from n (suc a)
numbers-last n a = numbers-join n a 1 ∙ (let more : a + 1 ≡ suc a = omega arith in ap (numbers_from n) more)

module _ (s : Setting) where
  -- What stands after the first numbers of a statement.
  inner-last : (n a : ℕ) (rest : List ℕ) → numbers_from n a ++ (n + a) ∷ rest ≡ numbers_from n (suc a) ++ rest
  inner-last n a rest = sym (append_assoc (numbers_from n a) ((n + a) ∷ []) rest) ∙ ap (λ xs. xs ++ rest) (numbers-last n a)

  mutual
    stmt-numbers : (loops : List ℕ) (n : ℕ) (st : NamedStmtTree) (rest : Block) → stmt_by_grammar st ≡ true → numbers_in (stmt_tree s loops n st rest) ≡ numbers_from n (count_stmt st) ++ numbers_in rest
    stmt-numbers loops n (branch arms at) rest g =
        let parts = both (has_condition arms) (arms_by_grammar arms) g in
        first-arm loops n at arms rest parts.0 parts.1
    stmt-numbers loops n (loop e clauses body at) rest g =
        let grammar = (both (by_grammar e) _ g).1 in
        let inner = block-numbers ((n + count_block body) ∷ loops) n body (both _ (block_by_grammar body) grammar).1 in
        ap (λ xs. xs ++ (n + count_block body) ∷ numbers_in rest) inner ∙ inner-last n (count_block body) (numbers_in rest)
    stmt-numbers loops n (assign t op sign e at) rest g = refl
    stmt-numbers loops n (keep t c at) rest g = refl
    stmt-numbers loops n (do_call c at) rest g = refl
    stmt-numbers loops n (leave outwards at) rest g = refl
    stmt-numbers loops n (again outwards at) rest g = refl
    stmt-numbers loops n (back e at) rest g = refl
    stmt-numbers loops n (suspend e at) rest g = refl
    stmt-numbers loops n (claim e by at) rest g = refl

    pub block-numbers : (loops : List ℕ) (n : ℕ) (b : NamedBlockTree) → block_by_grammar b ≡ true → numbers_in (block_tree s loops n b) ≡ numbers_from n (count_block b)
    block-numbers loops n (close at) g = refl
    block-numbers loops n (more_stmts first others) g =
        let parts = both (stmt_by_grammar first) (block_by_grammar others) g in
        stmt-numbers loops n first (block_tree s loops (n + count_stmt first) others) parts.0
        ∙ (ap (λ xs. numbers_from n (count_stmt first) ++ xs) (block-numbers loops (n + count_stmt first) others parts.1) ∙ numbers-join n (count_stmt first) (count_block others))

    first-arm : (loops : List ℕ) (n : ℕ) (at : Place) (arms : NamedArmTrees) (rest : Block) → has_condition arms ≡ true → arms_by_grammar arms ≡ true
        → numbers_in (arms_tree s loops n (site (n + count_arms arms) at) false arms rest) ≡ numbers_from n (suc (count_arms arms)) ++ numbers_in rest
    first-arm loops n at no_else rest h g = absurd (cc h)
    first-arm loops n at (otherwise body) rest h g = absurd (cc h)
    first-arm loops n at (arm e body others) rest h g =
        let grammar = both (block_by_grammar body) (arms_by_grammar others) (both (by_grammar e) _ g).1 in
        let inner = block-numbers loops n body grammar.0 in
        let behind = other-arms loops (n + count_block body) (site (n + count_arms (arm e body others)) at) others grammar.1 in
        let own = (n + count_arms (arm e body others)) ∷ numbers_in rest in
        ap (λ xs. xs ++ (numbers_in (arms_tree s loops (n + count_block body) (site (n + count_arms (arm e body others)) at) true others end) ++ own)) inner
        ∙ (ap (λ xs. numbers_from n (count_block body) ++ (xs ++ own)) behind
        ∙ (sym (append_assoc (numbers_from n (count_block body)) (numbers_from (n + count_block body) (count_arms others)) own)
        ∙ (ap (λ xs. xs ++ own) (numbers-join n (count_block body) (count_arms others)) ∙ inner-last n (count_block body + count_arms others) (numbers_in rest))))

    other-arms : (loops : List ℕ) (n : ℕ) (of : Site) (arms : NamedArmTrees) → arms_by_grammar arms ≡ true → numbers_in (arms_tree s loops n of true arms end) ≡ numbers_from n (count_arms arms)
    other-arms loops n of no_else g = refl
    other-arms loops n of (otherwise body) g = block-numbers loops n body g
    other-arms loops n of (arm e body others) g =
        let grammar = both (block_by_grammar body) (arms_by_grammar others) (both (by_grammar e) _ g).1 in
        ap (λ xs. xs ++ (numbers_in (arms_tree s loops (n + count_block body) of true others end) ++ [])) (block-numbers loops n body grammar.0)
        ∙ (ap (λ xs. numbers_from n (count_block body) ++ xs) (append-nil _ ∙ other-arms loops (n + count_block body) of others grammar.1) ∙ numbers-join n (count_block body) (count_arms others))

methods-numbers : (p : NamedPackageTree) (n : ℕ) (ms : List NamedMethodTree) → list_all (λ (m : NamedMethodTree). block_by_grammar m.body) ms ≡ true
    → flat_map (λ (m : MethodTree). numbers_in m.body) (typed_methods p n ms) ≡ numbers_from n (count_methods ms)
methods-numbers p n [] g = refl
methods-numbers p n (m ∷ ms) g =
    let parts = both (block_by_grammar m.body) _ g in
    ap (λ xs. xs ++ flat_map (λ (x : MethodTree). numbers_in x.body) (typed_methods p (n + count_block m.body) ms)) (block-numbers (in_method p m) [] n m.body parts.0)
    ∙ (ap (λ xs. numbers_from n (count_block m.body) ++ xs) (methods-numbers p (n + count_block m.body) ms parts.1) ∙ numbers-join n (count_block m.body) (count_methods ms))

pub package-numbers : (p : NamedPackageTree) → package_by_grammar p ≡ true → flat_map (λ (m : MethodTree). numbers_in m.body) (typed_package p).methods ≡ numbers_from 0 (count_methods p.methods)
unfolding typed_package
package-numbers p grammar = methods-numbers p 0 p.methods grammar
