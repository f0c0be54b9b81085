-- Statements and blocks whose uses keep the rules, and whose jumps have their loops, are named.
use Rattle.std.proofs.Common.{◌≡◌, ℕ, suc, Bool, true, ◌&&◌, List, [], ◌∷◌, ◌++◌, length, Option, Some, None, refl, sym, ap, ◌∙◌, length-append, arith}
use Rattle.wf_ast.specs.declared.parsed.Name.{Name}
use Rattle.wf_ast.specs.ParsedTree as tree
use Rattle.wf_ast.specs.ParsedTree.{TargetTree, ClauseTrees, ViaTree, StmtTree, BlockTree, ArmTrees}
use Rattle.wf_named.specs.NamedTree.{NamedStmtTree, NamedBlockTree}
use Rattle.wf_named.specs.WellNamed.{NamedScope as NamedScope, is_there, named_expr, named_call, named_target, named_clauses, named_letters, named_via, named_stmt, named_block, named_arms}
use Rattle.wf_names_rules.specs.Declarations.{Declared}
use Rattle.wf_names_rules.specs.Uses.{Use, Scope, uses_of, call_uses, target_uses, clause_uses, via_uses, stmt_uses, block_uses, arm_uses}
use Rattle.wf_names_rules.specs.Jumps.{Jump, label_jumps, stmt_jumps, block_jumps, arm_jumps}
use Rattle.wf_names_uses.proofs.FoundLemmas.{both-so}
use Rattle.wf_names_resolve.specs.Standing.{standing_at}
use Rattle.wf_names_resolve.specs.Resolved.{NamedGiven, outwards, with_stmt, letters_of, resolved_path, resolved_expr, resolved_given, resolved_call, resolved_target, resolved_clauses, resolved_via, resolved_stmt, resolved_block, resolved_arms}
use Rattle.wf_names_laws.specs.Kept.{IsKept, AreKept, HasLoop, HaveLoops}
use Rattle.wf_names_laws.specs.ResolvedScopes.{IsScopeOf}
use Rattle.wf_names_laws.proofs.ListLemmas.{all-front, all-behind}
use Rattle.wf_names_laws.proofs.VariableLemmas.{path-there}
use Rattle.wf_names_laws.proofs.ArgumentLemmas.{AreNamed}
use Rattle.wf_names_laws.proofs.ExprLaws.{below-so, expr-named, part-named, given-named, made-named}
use Rattle.wf_names_laws.proofs.LoopLemmas.{outwards-below}

loops-front : (js ks : List Jump) → HaveLoops (js ++ ks) → HaveLoops js
loops-front js ks a = all-front HasLoop js ks a

loops-behind : (js ks : List Jump) → HaveLoops (js ++ ks) → HaveLoops ks
loops-behind js ks a = all-behind HasLoop js ks a

-- A declaration of a local is no statement.
abbrev pub named_if : NamedScope → (loops : ℕ) → Option NamedStmtTree → Bool
named_if s loops None = true
named_if s loops (Some t) = named_stmt s loops t

with-named : (s : NamedScope) (loops : ℕ) (o : Option NamedStmtTree) (others : NamedBlockTree) → named_if s loops o ≡ true → named_block s loops others ≡ true
    → named_block s loops (with_stmt o others) ≡ true
with-named s loops None others h k = k
with-named s loops (Some t) others h k = both-so (named_stmt s loops t) (named_block s loops others) h k

module _ (d : Declared) (scope : Scope) (s : NamedScope) (known : IsScopeOf d scope s) where
  front : (us vs : List Use) → AreKept d scope (us ++ vs) → AreKept d scope us
  front us vs a = all-front (IsKept d scope) us vs a

  behind : (us vs : List Use) → AreKept d scope (us ++ vs) → AreKept d scope vs
  behind us vs a = all-behind (IsKept d scope) us vs a

  target-named : (t : TargetTree) → AreKept d scope (target_uses t) → named_target s (resolved_target (standing_at d scope) t) ≡ true
  target-named (tree.to_path path) a = path-there d scope s known path a.0
  target-named (tree.to_element base place at) a =
      both-so (is_there s (resolved_path (standing_at d scope) base)) (named_expr s (resolved_expr (standing_at d scope) place)) (path-there d scope s known base a.0)
      (expr-named d scope s known place a.1)

  clauses-named : (cs : ClauseTrees) → AreKept d scope (clause_uses cs) → named_clauses s (resolved_clauses (standing_at d scope) cs) ≡ true
  clauses-named tree.no_clause a = refl
  clauses-named (tree.more_clauses kind condition at others) a =
      both-so (named_expr s (resolved_expr (standing_at d scope) condition)) (named_clauses s (resolved_clauses (standing_at d scope) others))
      (expr-named d scope s known condition (front (uses_of condition) (clause_uses others) a)) (clauses-named others (behind (uses_of condition) (clause_uses others) a))

  letters-named : (gs : List NamedGiven) → AreNamed s gs → named_letters s (letters_of (standing_at d scope) gs) ≡ true
  letters-named [] a = refl
  letters-named (g ∷ gs) a = both-so (named_expr s g.value) (named_letters s (letters_of (standing_at d scope) gs)) a.0 (letters-named gs a.1)

  via-named : (v : ViaTree) → AreKept d scope (via_uses v) → named_via s (resolved_via (standing_at d scope) v) ≡ true
  via-named tree.by_itself a = refl
  via-named (tree.via axiom_name given) a = letters-named (resolved_given (standing_at d scope) given) (given-named d scope s known given a)

  mutual
    stmt-named : (loops : List (Option Name)) (t : StmtTree) → AreKept d scope (stmt_uses t) → HaveLoops (stmt_jumps loops t)
        → named_if s (length loops) (resolved_stmt (standing_at d scope) loops t) ≡ true
    stmt-named loops (tree.var name of at) a js = refl
    stmt-named loops (tree.assign target op sign value at) a js =
        both-so (named_target s (resolved_target (standing_at d scope) target)) (named_expr s (resolved_expr (standing_at d scope) value))
        (target-named target (front (target_uses target) (uses_of value) a)) (expr-named d scope s known value (behind (target_uses target) (uses_of value) a))
    stmt-named loops (tree.keep target c at) a js =
        both-so (named_target s (resolved_target (standing_at d scope) target)) (named_call s (resolved_call (standing_at d scope) c))
        (target-named target (front (target_uses target) (call_uses c) a)) (made-named d scope s known c (behind (target_uses target) (call_uses c) a))
    stmt-named loops (tree.do_call c at) a js = made-named d scope s known c a
    stmt-named loops (tree.branch arms at) a js = arms-named loops arms a js
    stmt-named loops (tree.loop label condition clauses body at) a js =
        let b = behind (uses_of condition) (clause_uses clauses ++ block_uses body) a in
        let inner = block-named (loops ++ label ∷ []) body (behind (clause_uses clauses) (block_uses body) b) (loops-behind (label_jumps loops label) (block_jumps (loops ++ label ∷ []) body) js) in
        let long : length (loops ++ label ∷ []) ≡ suc (length loops) = omega (arith, length-append loops (label ∷ [])) in
        let resolved = resolved_block (standing_at d scope) (loops ++ label ∷ []) body in
        both-so (named_expr s (resolved_expr (standing_at d scope) condition)) (named_clauses s (resolved_clauses (standing_at d scope) clauses) && named_block s (suc (length loops)) resolved)
        (expr-named d scope s known condition (front (uses_of condition) (clause_uses clauses ++ block_uses body) a))
        (both-so (named_clauses s (resolved_clauses (standing_at d scope) clauses)) (named_block s (suc (length loops)) resolved)
        (clauses-named clauses (front (clause_uses clauses) (block_uses body) b)) (ap (λ n. named_block s n resolved) (sym long) ∙ inner))
    stmt-named loops (tree.leave label at) a js = below-so (outwards loops label) (length loops) (outwards-below loops label at js.0)
    stmt-named loops (tree.again label at) a js = below-so (outwards loops label) (length loops) (outwards-below loops label at js.0)
    stmt-named loops (tree.back value at) a js = part-named d scope s known value a
    stmt-named loops (tree.suspend value at) a js = expr-named d scope s known value a
    stmt-named loops (tree.claim goal axiom_named at) a js =
        both-so (named_expr s (resolved_expr (standing_at d scope) goal)) (named_via s (resolved_via (standing_at d scope) axiom_named))
        (expr-named d scope s known goal (front (uses_of goal) (via_uses axiom_named) a)) (via-named axiom_named (behind (uses_of goal) (via_uses axiom_named) a))

    pub block-named : (loops : List (Option Name)) (b : BlockTree) → AreKept d scope (block_uses b) → HaveLoops (block_jumps loops b)
        → named_block s (length loops) (resolved_block (standing_at d scope) loops b) ≡ true
    block-named loops (tree.close at) a js = refl
    block-named loops (tree.more_stmts first others) a js =
        with-named s (length loops) (resolved_stmt (standing_at d scope) loops first) (resolved_block (standing_at d scope) loops others)
        (stmt-named loops first (front (stmt_uses first) (block_uses others) a) (loops-front (stmt_jumps loops first) (block_jumps loops others) js))
        (block-named loops others (behind (stmt_uses first) (block_uses others) a) (loops-behind (stmt_jumps loops first) (block_jumps loops others) js))

    arms-named : (loops : List (Option Name)) (arms : ArmTrees) → AreKept d scope (arm_uses arms) → HaveLoops (arm_jumps loops arms)
        → named_arms s (length loops) (resolved_arms (standing_at d scope) loops arms) ≡ true
    arms-named loops tree.no_else a js = refl
    arms-named loops (tree.otherwise body) a js = block-named loops body a js
    arms-named loops (tree.arm condition body others) a js =
        let b = behind (uses_of condition) (block_uses body ++ arm_uses others) a in
        both-so (named_expr s (resolved_expr (standing_at d scope) condition))
        (named_block s (length loops) (resolved_block (standing_at d scope) loops body) && named_arms s (length loops) (resolved_arms (standing_at d scope) loops others))
        (expr-named d scope s known condition (front (uses_of condition) (block_uses body ++ arm_uses others) a))
        (both-so (named_block s (length loops) (resolved_block (standing_at d scope) loops body)) (named_arms s (length loops) (resolved_arms (standing_at d scope) loops others))
        (block-named loops body (front (block_uses body) (arm_uses others) b) (loops-front (block_jumps loops body) (arm_jumps loops others) js))
        (arms-named loops others (behind (block_uses body) (arm_uses others) b) (loops-behind (block_jumps loops body) (arm_jumps loops others) js)))
