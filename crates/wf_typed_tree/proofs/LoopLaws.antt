-- A `break` of a typed body leaves the loop that the resolved one means: so the head of a loop tells whether it is left.
use Rattle.std.proofs.Common.{◌≡◌, ℕ, zero, suc, ◌+◌, ◌<◌, ◌≤◌, Bool, true, false, ◌||◌, List, [], ◌∷◌, length, Some, None, refl, sym, ap, ◌∙◌, arith, nat_eq, nat_lt}
use Rattle.std.specs.Prelude.{if◌then◌else◌}
use Rattle.std.proofs.lemmas.Bool.Decides.{nat_tests}
use Rattle.wf_text.specs.declared.place.Place.{Place}
use Rattle.wf_base.specs.declared.base_methods.BaseSig.{BaseSig}
use Rattle.wf_base.specs.declared.base_methods.BaseSig.TheVariants as sigs
use Rattle.wf_base.specs.BaseTable.{row_of}
use Rattle.wf_ast.specs.TypedTree.{ValueTree, Target, Simple, break_from, Site, Block, end, plain}
use Rattle.wf_ast.specs.TypedTree as typed
use Rattle.wf_ast.specs.TypedTrees.{answer_of, base_call}
use Rattle.wf_ast.specs.WellTyped.{is_pure, breaks}
use Rattle.wf_named.specs.declared.nodes.NamedCallee.TheVariants as callees
use Rattle.wf_named.specs.NamedTree.{NamedExprTree, answer, NamedCallTree, call, NamedTargetTree, NamedStmtTree, assign, keep, do_call, branch, loop, leave, again, back, suspend, claim, NamedBlockTree, close, more_stmts, NamedArmTrees, no_else, otherwise, arm}
use Rattle.wf_named.specs.WellNamed.{NamedScope, named_expr, named_clauses, named_stmt, named_block, named_arms}
use Rattle.wf_named.specs.Grammar.{stmt_by_grammar, block_by_grammar, arms_by_grammar, by_grammar, clauses_by_grammar}
use Rattle.wf_types_rules.specs.declared.settings.Setting.{Setting}
use Rattle.wf_types_rules.specs.Judgements.{stmt_leaves, block_leaves, arms_leave}
use Rattle.wf_typed_tree.specs.ElaboratedExprs.{path_tree, arg_trees}
use Rattle.wf_typed_tree.specs.ElaboratedStmts.{target_tree, call_tree, assigned_call, assign_tree, loop_meant, count_stmt, count_block, count_arms, site, stmt_tree, block_tree, arms_tree}
use Rattle.wf_typed_tree.proofs.NumberLemmas.{both}

-- The loop with the number `w` stands so many loops outwards.
abbrev StandsAt : (w k : ℕ) → List ℕ → Type 0
StandsAt w k loops = (j : ℕ) → nat_lt j (length loops) ≡ true → nat_eq (loop_meant loops j) w ≡ nat_eq j k

-- All loops round a block have numbers from a bound on.
abbrev pub Above : ℕ → List ℕ → Type 0
Above bound loops = (j : ℕ) → nat_lt j (length loops) ≡ true → bound ≤ loop_meant loops j

stands-inside : (w k v : ℕ) (loops : List ℕ) → v < w → StandsAt w k loops → StandsAt w (suc k) (v ∷ loops)
stands-inside w k v loops low at zero h = grind (arith, nat_tests, low)
stands-inside w k v loops low at (suc j) h = let rest = at j (grind (arith, nat_tests, h)) in let same : nat_eq (suc j) (suc k) ≡ nat_eq j k = grind (arith, nat_tests) in rest ∙ sym same

stands-first : (w : ℕ) (loops : List ℕ) → Above (suc w) loops → StandsAt w 0 (w ∷ loops)
stands-first w loops above zero h = grind (arith, nat_tests)
stands-first w loops above (suc j) h = let high = above j (grind (arith, nat_tests, h)) in grind (arith, nat_tests, high)

-- No other statement is a `break`.
abbrev is_break : Simple → Bool
is_break (break_from w) = true
is_break s = false

base-breaks : (at : Place) (target : Target) (on : ValueTree) (sig : BaseSig) (args : List ValueTree) → is_break (base_call at target on sig args) ≡ false
base-breaks at target on (sigs.Read form) [] = refl
base-breaks at target on sigs.Skip (n ∷ []) = refl
base-breaks at target on sigs.Write (a ∷ []) = refl
base-breaks at target on sigs.SkipFast (actual ∷ worst_case ∷ []) = refl
base-breaks at target on sigs.WriteFast (a ∷ []) = refl
base-breaks at target on sigs.WriterCopy (s ∷ []) = refl
base-breaks at target on (sigs.SliceCopy width) (s ∷ []) = refl
base-breaks at target on sig args = refl

call-breaks : (s : Setting) (target : Target) (kept : Bool) (c : NamedCallTree) → is_break (call_tree s target kept c) ≡ false
call-breaks s target kept (call (callees.Own m) at mark args) = refl
call-breaks s target kept (call (callees.Sub x m) at mark args) = refl
call-breaks s target kept (call (callees.Base on sig) at mark args) = base-breaks at target (path_tree s on) sig (arg_trees s args)

assigned-breaks : (s : Setting) (target : Target) (c : NamedCallTree) → is_break (assigned_call s target c) ≡ false
assigned-breaks s target (call (callees.Own m) at mark args) = refl
assigned-breaks s target (call (callees.Sub x m) at mark args) = refl
assigned-breaks s target (call (callees.Base on sig) at mark args) = by_mark (is_pure (row_of sig).mark)
  where
    by_mark : (b : Bool) → is_break (if b then typed.assign target None (answer_of at sig (path_tree s on)) else call_tree s target false (call (callees.Base on sig) at mark args)) ≡ false
    by_mark true = refl
    by_mark false = call-breaks s target false (call (callees.Base on sig) at mark args)

value-breaks : (s : Setting) (t : NamedTargetTree) (sign : Place) (e : NamedExprTree) → is_break (assign_tree s t None sign e) ≡ false
value-breaks s t sign (answer c) = assigned-breaks s (target_tree s t) c
value-breaks s t sign e = refl

plain-breaks : (w : ℕ) (at : Site) (x : Simple) (rest : Block) → is_break x ≡ false → breaks w (plain at x rest) ≡ breaks w rest
plain-breaks w at (break_from v) rest h = absurd (cc h)
plain-breaks w at x rest h = refl

or-moved : (a b c : Bool) → (a || (b || c)) ≡ ((a || b) || c)
or-moved true b c = refl
or-moved false b c = refl

or-none : (a : Bool) → (a || false) ≡ a
or-none true = refl
or-none false = refl

or-same : (a b c d : Bool) → a ≡ b → c ≡ d → (a || c) ≡ (b || d)
or-same a b c d e f = ap (λ x. x || c) e ∙ ap (λ x. b || x) f

module _ (s : Setting) (names : NamedScope) where
  mutual
    stmt-breaks : (w k : ℕ) (loops : List ℕ) (n : ℕ) (st : NamedStmtTree) (rest : Block) → StandsAt w k loops → n + count_stmt st ≤ w → stmt_by_grammar st ≡ true
        → named_stmt names (length loops) st ≡ true → breaks w (stmt_tree s loops n st rest) ≡ (stmt_leaves k st || breaks w rest)
    stmt-breaks w k loops n (branch no_else at) rest at_loop low g h = absurd (cc g)
    stmt-breaks w k loops n (branch (otherwise body) at) rest at_loop low g h = absurd (cc g)
    stmt-breaks w k loops n (branch (arm e body others) at) rest at_loop low g h =
        let grammar = both (block_by_grammar body) (arms_by_grammar others) (both (by_grammar e) _ g).1 in
        let named = both (named_block names (length loops) body) (named_arms names (length loops) others) (both (named_expr names e) _ h).1 in
        let of : Site = site (n + count_arms (arm e body others)) at in
        let here : n + count_block body ≤ w = grind (arith, low) in
        let behind : n + count_block body + count_arms others ≤ w = grind (arith, low) in
        let first = block-breaks w k loops n body at_loop here grammar.0 named.0 in
        let second = others-break w k loops (n + count_block body) of others at_loop behind grammar.1 named.1 in
        or-same _ _ _ _ first (or-same _ _ (breaks w rest) (breaks w rest) second refl) ∙ or-moved (block_leaves k body) (arms_leave k others) (breaks w rest)
    stmt-breaks w k loops n (loop e clauses body at) rest at_loop low g h =
        let grammar = both (clauses_by_grammar clauses) (block_by_grammar body) (both (by_grammar e) _ g).1 in
        let named = both (named_clauses names clauses) (named_block names (suc (length loops)) body) (both (named_expr names e) _ h).1 in
        let inner : n + count_block body < w = grind (arith, low) in
        let below : n + count_block body ≤ w = grind (arith, inner) in
        or-same _ _ (breaks w rest) (breaks w rest)
        (block-breaks w (suc k) ((n + count_block body) ∷ loops) n body (stands-inside w k (n + count_block body) loops inner at_loop) below grammar.1 named.1) refl
    stmt-breaks w k loops n (leave outwards at) rest at_loop low g h = or-same (nat_eq (loop_meant loops outwards) w) (nat_eq outwards k) (breaks w rest) (breaks w rest) (at_loop outwards h) refl
    stmt-breaks w k loops n (assign t None sign e at) rest at_loop low g h = plain-breaks w (site n at) (assign_tree s t None sign e) rest (value-breaks s t sign e)
    stmt-breaks w k loops n (assign t (Some op) sign e at) rest at_loop low g h = refl
    stmt-breaks w k loops n (keep t c at) rest at_loop low g h = plain-breaks w (site n at) (call_tree s (target_tree s t) true c) rest (call-breaks s (target_tree s t) true c)
    stmt-breaks w k loops n (do_call c at) rest at_loop low g h = plain-breaks w (site n at) (call_tree s typed.to_nothing false c) rest (call-breaks s typed.to_nothing false c)
    stmt-breaks w k loops n (again outwards at) rest at_loop low g h = refl
    stmt-breaks w k loops n (back e at) rest at_loop low g h = refl
    stmt-breaks w k loops n (suspend e at) rest at_loop low g h = refl
    stmt-breaks w k loops n (claim e by at) rest at_loop low g h = refl

    block-breaks : (w k : ℕ) (loops : List ℕ) (n : ℕ) (b : NamedBlockTree) → StandsAt w k loops → n + count_block b ≤ w → block_by_grammar b ≡ true
        → named_block names (length loops) b ≡ true → breaks w (block_tree s loops n b) ≡ block_leaves k b
    block-breaks w k loops n (close at) at_loop low g h = refl
    block-breaks w k loops n (more_stmts first others) at_loop low g h =
        let grammar = both (stmt_by_grammar first) (block_by_grammar others) g in
        let named = both (named_stmt names (length loops) first) (named_block names (length loops) others) h in
        let here : n + count_stmt first ≤ w = grind (arith, low) in
        let behind : n + count_stmt first + count_block others ≤ w = grind (arith, low) in
        stmt-breaks w k loops n first (block_tree s loops (n + count_stmt first) others) at_loop here grammar.0 named.0
        ∙ ap (λ x. stmt_leaves k first || x) (block-breaks w k loops (n + count_stmt first) others at_loop behind grammar.1 named.1)

    -- What follows the first arm has no rest of its own.
    others-break : (w k : ℕ) (loops : List ℕ) (n : ℕ) (of : Site) (arms : NamedArmTrees) → StandsAt w k loops → n + count_arms arms ≤ w → arms_by_grammar arms ≡ true
        → named_arms names (length loops) arms ≡ true → breaks w (arms_tree s loops n of true arms end) ≡ arms_leave k arms
    others-break w k loops n of no_else at_loop low g h = refl
    others-break w k loops n of (otherwise body) at_loop low g h = block-breaks w k loops n body at_loop low g h
    others-break w k loops n of (arm e body others) at_loop low g h =
        let grammar = both (block_by_grammar body) (arms_by_grammar others) (both (by_grammar e) _ g).1 in
        let named = both (named_block names (length loops) body) (named_arms names (length loops) others) (both (named_expr names e) _ h).1 in
        let here : n + count_block body ≤ w = grind (arith, low) in
        let behind : n + count_block body + count_arms others ≤ w = grind (arith, low) in
        or-same _ _ _ _ (block-breaks w k loops n body at_loop here grammar.0 named.0)
        (or-none (breaks w (arms_tree s loops (n + count_block body) of true others end)) ∙ others-break w k loops (n + count_block body) of others at_loop behind grammar.1 named.1)

  -- The head of a loop tells whether a `break` leaves it.
  pub left-told : (loops : List ℕ) (n : ℕ) (body : NamedBlockTree) → Above (suc (n + count_block body)) loops → block_by_grammar body ≡ true
      → named_block names (suc (length loops)) body ≡ true → breaks (n + count_block body) (block_tree s ((n + count_block body) ∷ loops) n body) ≡ block_leaves 0 body
  left-told loops n body above g h =
      let here : n + count_block body ≤ n + count_block body = grind arith in
      block-breaks (n + count_block body) 0 ((n + count_block body) ∷ loops) n body (stands-first (n + count_block body) loops above) here g h
