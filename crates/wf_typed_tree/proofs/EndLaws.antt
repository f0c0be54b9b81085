-- A typed body never goes on where the resolved one doesn't: so a method with a result always answers.
use Rattle.std.proofs.Common.{◌≡◌, ℕ, ◌+◌, Bool, true, false, not, ◌&&◌, ◌||◌, List, [], Option, Some, None, refl, subst}
use Rattle.std.specs.Prelude.{option_map, is_some}
use Rattle.wf_text.specs.declared.rules.Rule.TheVariants.{T4}
use Rattle.wf_base.specs.declared.marks.Mark.{Mark}
use Rattle.wf_base.specs.declared.marks.Mark.TheVariants.{Pure, Impure, Coroutine}
use Rattle.wf_ast.specs.declared.types.Ty.{Ty}
use Rattle.wf_ast.specs.declared.types.Ty.TheVariants as types
use Rattle.wf_ast.specs.TypedTree.{Site, Block, end}
use Rattle.wf_ast.specs.WellTyped.{is_coroutine, leaves, never_goes_on, answers_always}
use Rattle.wf_ast.specs.WellTyped as well
use Rattle.wf_ast.specs.TypedTrees.{cond_in}
use Rattle.wf_named.specs.NamedTree.{NamedExprTree, truth, NamedTypeTree, NamedStmtTree, assign, keep, do_call, branch, loop, leave, again, back, suspend, claim, NamedBlockTree, close, more_stmts, NamedArmTrees, no_else, otherwise, arm, NamedMethodTree, NamedPackageTree}
use Rattle.wf_named.specs.Grammar.{has_condition, stmt_by_grammar, block_by_grammar, arms_by_grammar, by_grammar}
use Rattle.wf_types_rules.specs.declared.settings.Setting.{Setting}
use Rattle.wf_types_rules.specs.declared.settings.Role.TheVariants as roles
use Rattle.wf_types_rules.specs.DeclaredTypes.{may_be, declared, for_types, in_method}
use Rattle.wf_types_rules.specs.Judgements.{block_leaves, is_word_true, stmt_stops, block_stops, arms_stop, reaches_end}
use Rattle.wf_types_rules.proofs.TypeRows as rows
use Rattle.wf_typed_tree.specs.ElaboratedExprs.{expr_tree}
use Rattle.wf_typed_tree.specs.ElaboratedStmts.{simple_tree, count_stmt, count_block, count_arms, site, stmt_tree, block_tree, arms_tree}
use Rattle.wf_typed_tree.specs.ElaboratedPackage.{type_declared, typed_method}
use Rattle.wf_typed_tree.proofs.NumberLemmas.{both, and-true, or-left, or-right}
use Rattle.wf_typed_tree.proofs.NoBreaks.{at-none}
use Rattle.wf_typed_tree.proofs.DeclaredLaws.{declared-parts}
use Rattle.wf_typed_tree.proofs.Agreement.{MethodIs}

either : (a b : Bool) (P : Type 0) → (a ≡ true → P) → (b ≡ true → P) → (a || b) ≡ true → P
either true b P f g h = f refl
either false b P f g h = g h

word-true : (s : Setting) (e : NamedExprTree) → is_word_true e ≡ true → well.is_word_true (cond_in (expr_tree s e)) ≡ true
word-true s (truth value at) h = h
word-true s e h = absurd (cc h)

-- What follows a statement that is reached may be what never goes on.
rest-ends : (s : Setting) (loops : List ℕ) (n : ℕ) (st : NamedStmtTree) (rest : Block) → stmt_by_grammar st ≡ true → never_goes_on rest ≡ true
    → never_goes_on (stmt_tree s loops n st rest) ≡ true
rest-ends s loops n (branch no_else at) rest g h = absurd (cc g)
rest-ends s loops n (branch (otherwise body) at) rest g h = absurd (cc g)
rest-ends s loops n (branch (arm e body others) at) rest g h = or-right _ (never_goes_on rest) h
rest-ends s loops n (loop e clauses body at) rest g h = or-right _ (never_goes_on rest) h
rest-ends s loops n (assign t op sign e at) rest g h = or-right (leaves (simple_tree s loops (assign t op sign e at))) (never_goes_on rest) h
rest-ends s loops n (keep t c at) rest g h = or-right (leaves (simple_tree s loops (keep t c at))) (never_goes_on rest) h
rest-ends s loops n (do_call c at) rest g h = or-right (leaves (simple_tree s loops (do_call c at))) (never_goes_on rest) h
rest-ends s loops n (leave outwards at) rest g h = refl
rest-ends s loops n (again outwards at) rest g h = refl
rest-ends s loops n (back e at) rest g h = refl
rest-ends s loops n (suspend e at) rest g h = h
rest-ends s loops n (claim e by at) rest g h = h

mutual
  stmt-ends : (s : Setting) (loops : List ℕ) (n : ℕ) (st : NamedStmtTree) (rest : Block) → stmt_by_grammar st ≡ true → stmt_stops st ≡ true
      → never_goes_on (stmt_tree s loops n st rest) ≡ true
  stmt-ends s loops n (branch arms at) rest g h =
      let grammar = both (has_condition arms) (arms_by_grammar arms) g in
      arms-end s loops n (site (n + count_arms arms) at) false arms rest grammar.1 h
  stmt-ends s loops n (loop e clauses body at) rest g h =
      let parts = both (is_word_true e) (not (block_leaves 0 body)) h in
      or-left _ (never_goes_on rest) (and-true (well.is_word_true (cond_in (expr_tree s e))) (not (block_leaves 0 body)) (word-true s e parts.0) parts.1)
  stmt-ends s loops n (leave outwards at) rest g h = refl
  stmt-ends s loops n (again outwards at) rest g h = refl
  stmt-ends s loops n (back e at) rest g h = refl
  stmt-ends s loops n (assign t op sign e at) rest g h = absurd (cc h)
  stmt-ends s loops n (keep t c at) rest g h = absurd (cc h)
  stmt-ends s loops n (do_call c at) rest g h = absurd (cc h)
  stmt-ends s loops n (suspend e at) rest g h = absurd (cc h)
  stmt-ends s loops n (claim e by at) rest g h = absurd (cc h)

  block-ends : (s : Setting) (loops : List ℕ) (n : ℕ) (b : NamedBlockTree) → block_by_grammar b ≡ true → block_stops b ≡ true → never_goes_on (block_tree s loops n b) ≡ true
  block-ends s loops n (close at) g h = absurd (cc h)
  block-ends s loops n (more_stmts first others) g h =
      let grammar = both (stmt_by_grammar first) (block_by_grammar others) g in
      let rest : Block = block_tree s loops (n + count_stmt first) others in
      let here : stmt_stops first ≡ true → never_goes_on (stmt_tree s loops n first rest) ≡ true = λ e. stmt-ends s loops n first rest grammar.0 e in
      let behind : block_stops others ≡ true → never_goes_on (stmt_tree s loops n first rest) ≡ true =
      λ e. rest-ends s loops n first rest grammar.0 (block-ends s loops (n + count_stmt first) others grammar.1 e) in
      either (stmt_stops first) (block_stops others) (never_goes_on (stmt_tree s loops n first rest) ≡ true) here behind h

  arms-end : (s : Setting) (loops : List ℕ) (n : ℕ) (of : Site) (chained : Bool) (arms : NamedArmTrees) (rest : Block) → arms_by_grammar arms ≡ true → arms_stop arms ≡ true
      → never_goes_on (arms_tree s loops n of chained arms rest) ≡ true
  arms-end s loops n of chained no_else rest g h = absurd (cc h)
  arms-end s loops n of chained (otherwise body) rest g h = block-ends s loops n body g h
  arms-end s loops n of chained (arm e body others) rest g h =
      let grammar = both (block_by_grammar body) (arms_by_grammar others) (both (by_grammar e) _ g).1 in
      let parts = both (block_stops body) (arms_stop others) h in
      or-left _ (never_goes_on rest)
      (and-true (never_goes_on (block_tree s loops n body)) _ (block-ends s loops n body grammar.0 parts.0) (arms-end s loops (n + count_block body) of true others end grammar.1 parts.1))

-- A method with a result; a coroutine has none.
stops : (b : Bool) → not b ≡ false → b ≡ true
stops true h = refl
stops false h = absurd (cc h)

none-in-coroutine : (ty : Ty) → may_be (roles.Result Coroutine) ty ≡ true → ⊥
none-in-coroutine (types.Num width lo hi) h = cc h
none-in-coroutine types.Flag h = cc h
none-in-coroutine types.Status h = cc h
none-in-coroutine ty h = cc h

body-stops : (p : NamedPackageTree) (m : NamedMethodTree) (mark : Mark) (t : NamedTypeTree) (ty : Ty) → declared (for_types p) (roles.Result mark) t ≡ Some ty
    → (not (is_coroutine mark) && (true && not (block_stops m.body))) ≡ false → block_stops m.body ≡ true
body-stops p m Pure t ty d h = stops (block_stops m.body) h
body-stops p m Impure t ty d h = stops (block_stops m.body) h
body-stops p m Coroutine t ty d h = absurd (none-in-coroutine ty (declared-parts (for_types p) (roles.Result Coroutine) t ty d).may)

pub method-answers : (p : NamedPackageTree) (n : ℕ) (m : NamedMethodTree) → MethodIs p m → block_by_grammar m.body ≡ true
    → answers_always m.mark (option_map (type_declared p (roles.Result m.mark)) m.gives) (typed_method p n m).body ≡ true
method-answers p n m is g = by_result m.gives refl
  where
    by_result : (o : Option NamedTypeTree) → m.gives ≡ o → answers_always m.mark (option_map (type_declared p (roles.Result m.mark)) o) (typed_method p n m).body ≡ true
    by_result None e = refl
    by_result (Some t) e =
        let judged = at-none _ _ (is.body.0 T4 reaches_end rows.reaches_end) in
        let G : Option NamedTypeTree → Type 0 = λ o. (not (is_coroutine m.mark) && (is_some (option_map (declared (for_types p) (roles.Result m.mark)) o) && not (block_stops m.body))) ≡ false in
        block-ends (in_method p m) [] n m.body g (body-stops p m m.mark t (is.gives t e).0 (is.gives t e).1 (subst G e judged))
