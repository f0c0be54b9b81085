-- Statements and blocks are resolved to what their names and jumps mean.
use Rattle.std.proofs.Common.{List, [], ◌∷◌, ◌++◌, Option, None}
use Rattle.wf_text.specs.Precedence.{Decides}
use Rattle.wf_ast.specs.declared.parsed.Name.{Name}
use Rattle.wf_ast.specs.ParsedParts.{AreDistinct}
use Rattle.wf_ast.specs.ParsedTree as parsed
use Rattle.wf_ast.specs.ParsedTree.{GivenTrees, TargetTree, ClauseTrees, ViaTree, BlockTree, ArmTrees}
use Rattle.wf_names_rules.specs.Declarations.{Declared}
use Rattle.wf_names_rules.specs.NameRules.{Breaks}
use Rattle.wf_names_rules.specs.Uses.{Use, Scope, uses_of, given_uses, call_uses, target_uses, clause_uses, via_uses, stmt_uses, block_uses, arm_uses}
use Rattle.wf_names_rules.specs.Jumps.{Jump, label_jumps, stmt_jumps, block_jumps, arm_jumps}
use Rattle.wf_names_resolve.specs.Standing.{standing_at}
use Rattle.wf_names_resolve.specs.Resolved.{outwards, letters_of, resolved_path, resolved_expr, resolved_part, resolved_given, resolved_call, resolved_target, resolved_clauses, resolved_via, resolved_block, resolved_arms}
use Rattle.wf_names_laws.specs.Kept.{IsKept, AreKept, HasLoop, HaveLoops}
use Rattle.wf_names_laws.proofs.ListLemmas.{all-front, all-behind}
use Rattle.wf_names_scope_laws.specs.ResolvedStmts.{ResolvesTarget, ResolvesClauses, ResolvesLetters, ResolvesVia, ResolvesBlock, ResolvesArms}
use Rattle.wf_names_scope_laws.specs.ResolvedStmts as is
use Rattle.wf_names_scope_laws.proofs.Apart.{IsApart}
use Rattle.wf_names_scope_laws.proofs.Exprs.{expr-is, part-is, call-is}
use Rattle.wf_names_scope_laws.proofs.Jumping.{HasFreshLabel, HaveFreshLabels, AreLabelledOnce, fresh-label, jump-means, labelled-longer}
use Rattle.wf_names_scope_laws.proofs.Variables.{path-means}

loops-front : (js ks : List Jump) → HaveLoops (js ++ ks) → HaveLoops js
loops-front js ks a = all-front HasLoop js ks a

loops-behind : (js ks : List Jump) → HaveLoops (js ++ ks) → HaveLoops ks
loops-behind js ks a = all-behind HasLoop js ks a

fresh-front : (js ks : List Jump) → HaveFreshLabels (js ++ ks) → HaveFreshLabels js
fresh-front js ks a = all-front HasFreshLabel js ks a

fresh-behind : (js ks : List Jump) → HaveFreshLabels (js ++ ks) → HaveFreshLabels ks
fresh-behind js ks a = all-behind HasFreshLabel js ks a

module _ (d : Declared) (h : Decides (Breaks d) None) (distinct : AreDistinct d.texts) (scope : Scope) (apart : IsApart d scope) where
  front : (us vs : List Use) → AreKept d scope (us ++ vs) → AreKept d scope us
  front us vs a = all-front (IsKept d scope) us vs a

  behind : (us vs : List Use) → AreKept d scope (us ++ vs) → AreKept d scope vs
  behind us vs a = all-behind (IsKept d scope) us vs a

  target-is : (t : TargetTree) → AreKept d scope (target_uses t) → ResolvesTarget d scope t (resolved_target (standing_at d scope) t)
  target-is (parsed.to_path path) a = is.a_variable path (resolved_path (standing_at d scope) path) (path-means d h scope apart path a.0)
  target-is (parsed.to_element base place at) a =
      is.an_element base (resolved_path (standing_at d scope) base) place (resolved_expr (standing_at d scope) place) at (path-means d h scope apart base a.0) (expr-is d h distinct scope apart place a.1)

  clauses-are : (cs : ClauseTrees) → AreKept d scope (clause_uses cs) → ResolvesClauses d scope cs (resolved_clauses (standing_at d scope) cs)
  clauses-are parsed.no_clause a = is.no_clauses
  clauses-are (parsed.more_clauses kind condition at others) a =
      is.one_clause kind condition (resolved_expr (standing_at d scope) condition) at others (resolved_clauses (standing_at d scope) others)
      (expr-is d h distinct scope apart condition (front (uses_of condition) (clause_uses others) a)) (clauses-are others (behind (uses_of condition) (clause_uses others) a))

  letters-are : (gs : GivenTrees) → AreKept d scope (given_uses gs) → ResolvesLetters d scope gs (letters_of (standing_at d scope) (resolved_given (standing_at d scope) gs))
  letters-are parsed.no_given a = is.no_letters
  letters-are (parsed.more_given name value others) a =
      is.one_letter name value (resolved_expr (standing_at d scope) value) others (letters_of (standing_at d scope) (resolved_given (standing_at d scope) others))
      (expr-is d h distinct scope apart value (front (uses_of value) (given_uses others) a)) (letters-are others (behind (uses_of value) (given_uses others) a))

  via-is : (v : ViaTree) → AreKept d scope (via_uses v) → ResolvesVia d scope v (resolved_via (standing_at d scope) v)
  via-is parsed.by_itself a = is.no_axiom
  via-is (parsed.via axiom_name given) a = is.an_axiom axiom_name given (letters_of (standing_at d scope) (resolved_given (standing_at d scope) given)) (letters-are given a)

  mutual
    pub block-is : (loops : List (Option Name)) (b : BlockTree) → AreLabelledOnce loops → AreKept d scope (block_uses b) → HaveLoops (block_jumps loops b) → HaveFreshLabels (block_jumps loops b)
        → ResolvesBlock d scope loops b (resolved_block (standing_at d scope) loops b)
    block-is loops (parsed.close at) once a js fs = is.an_end loops at
    block-is loops (parsed.more_stmts (parsed.var name of at) others) once a js fs =
        is.a_local loops name of at others (resolved_block (standing_at d scope) loops others) (block-is loops others once (behind (stmt_uses (parsed.var name of at)) (block_uses others) a) js fs)
    block-is loops (parsed.more_stmts (parsed.assign target op sign value at) others) once a js fs =
        let b = front (stmt_uses (parsed.assign target op sign value at)) (block_uses others) a in
        let k = standing_at d scope in
        is.a_stmt loops (parsed.assign target op sign value at) _ others (resolved_block k loops others)
        (is.an_assignment loops target (resolved_target k target) op sign value (resolved_expr k value) at (target-is target (front (target_uses target) (uses_of value) b))
        (expr-is d h distinct scope apart value (behind (target_uses target) (uses_of value) b)))
        (block-is loops others once (behind (stmt_uses (parsed.assign target op sign value at)) (block_uses others) a) js fs)
    block-is loops (parsed.more_stmts (parsed.keep target c at) others) once a js fs =
        let b = front (stmt_uses (parsed.keep target c at)) (block_uses others) a in
        let k = standing_at d scope in
        is.a_stmt loops (parsed.keep target c at) _ others (resolved_block k loops others)
        (is.a_kept_answer loops target (resolved_target k target) c (resolved_call k c) at (target-is target (front (target_uses target) (call_uses c) b))
        (call-is d h distinct scope apart c (behind (target_uses target) (call_uses c) b)))
        (block-is loops others once (behind (stmt_uses (parsed.keep target c at)) (block_uses others) a) js fs)
    block-is loops (parsed.more_stmts (parsed.do_call c at) others) once a js fs =
        let k = standing_at d scope in
        is.a_stmt loops (parsed.do_call c at) _ others (resolved_block k loops others)
        (is.a_called_method loops c (resolved_call k c) at (call-is d h distinct scope apart c (front (call_uses c) (block_uses others) a)))
        (block-is loops others once (behind (call_uses c) (block_uses others) a) js fs)
    block-is loops (parsed.more_stmts (parsed.branch arms at) others) once a js fs =
        let k = standing_at d scope in
        is.a_stmt loops (parsed.branch arms at) _ others (resolved_block k loops others)
        (is.a_branch loops arms (resolved_arms k loops arms) at
        (arms-are loops arms once (front (arm_uses arms) (block_uses others) a) (loops-front (arm_jumps loops arms) (block_jumps loops others) js) (fresh-front (arm_jumps loops arms) (block_jumps loops others) fs)))
        (block-is loops others once (behind (arm_uses arms) (block_uses others) a) (loops-behind (arm_jumps loops arms) (block_jumps loops others) js) (fresh-behind (arm_jumps loops arms) (block_jumps loops others) fs))
    block-is loops (parsed.more_stmts (parsed.loop label condition clauses body at) others) once a js fs =
        let t = parsed.loop label condition clauses body at in
        let k = standing_at d scope in
        let inner = loops ++ label ∷ [] in
        let b = front (stmt_uses t) (block_uses others) a in
        let c = behind (uses_of condition) (clause_uses clauses ++ block_uses body) b in
        let js_here = loops-front (stmt_jumps loops t) (block_jumps loops others) js in
        let fs_here = fresh-front (stmt_jumps loops t) (block_jumps loops others) fs in
        let fresh = fresh-label loops label (fresh-front (label_jumps loops label) (block_jumps inner body) fs_here) in
        is.a_stmt loops t _ others (resolved_block k loops others)
        (is.a_loop loops label condition (resolved_expr k condition) clauses (resolved_clauses k clauses) body (resolved_block k inner body) at
        (expr-is d h distinct scope apart condition (front (uses_of condition) (clause_uses clauses ++ block_uses body) b)) (clauses-are clauses (front (clause_uses clauses) (block_uses body) c))
        (block-is inner body (labelled-longer loops label once fresh) (behind (clause_uses clauses) (block_uses body) c) (loops-behind (label_jumps loops label) (block_jumps inner body) js_here)
        (fresh-behind (label_jumps loops label) (block_jumps inner body) fs_here)))
        (block-is loops others once (behind (stmt_uses t) (block_uses others) a) (loops-behind (stmt_jumps loops t) (block_jumps loops others) js) (fresh-behind (stmt_jumps loops t) (block_jumps loops others) fs))
    block-is loops (parsed.more_stmts (parsed.leave label at) others) once a js fs =
        is.a_stmt loops (parsed.leave label at) _ others (resolved_block (standing_at d scope) loops others) (is.a_break loops label (outwards loops label) at (jump-means loops label at once js.0))
        (block-is loops others once a js.1 fs.1)
    block-is loops (parsed.more_stmts (parsed.again label at) others) once a js fs =
        is.a_stmt loops (parsed.again label at) _ others (resolved_block (standing_at d scope) loops others) (is.a_continue loops label (outwards loops label) at (jump-means loops label at once js.0))
        (block-is loops others once a js.1 fs.1)
    block-is loops (parsed.more_stmts (parsed.back value at) others) once a js fs =
        let t = parsed.back value at in
        let k = standing_at d scope in
        is.a_stmt loops t _ others (resolved_block k loops others)
        (is.a_return loops value (resolved_part k value) at (part-is d h distinct scope apart value (front (stmt_uses t) (block_uses others) a)))
        (block-is loops others once (behind (stmt_uses t) (block_uses others) a) js fs)
    block-is loops (parsed.more_stmts (parsed.suspend value at) others) once a js fs =
        let t = parsed.suspend value at in
        let k = standing_at d scope in
        is.a_stmt loops t _ others (resolved_block k loops others)
        (is.a_yield loops value (resolved_expr k value) at (expr-is d h distinct scope apart value (front (stmt_uses t) (block_uses others) a)))
        (block-is loops others once (behind (stmt_uses t) (block_uses others) a) js fs)
    block-is loops (parsed.more_stmts (parsed.claim goal by at) others) once a js fs =
        let t = parsed.claim goal by at in
        let k = standing_at d scope in
        let b = front (stmt_uses t) (block_uses others) a in
        is.a_stmt loops t _ others (resolved_block k loops others)
        (is.an_assertion loops goal (resolved_expr k goal) by (resolved_via k by) at (expr-is d h distinct scope apart goal (front (uses_of goal) (via_uses by) b)) (via-is by (behind (uses_of goal) (via_uses by) b)))
        (block-is loops others once (behind (stmt_uses t) (block_uses others) a) js fs)

    arms-are : (loops : List (Option Name)) (arms : ArmTrees) → AreLabelledOnce loops → AreKept d scope (arm_uses arms) → HaveLoops (arm_jumps loops arms) → HaveFreshLabels (arm_jumps loops arms)
        → ResolvesArms d scope loops arms (resolved_arms (standing_at d scope) loops arms)
    arms-are loops parsed.no_else once a js fs = is.no_arms loops
    arms-are loops (parsed.otherwise body) once a js fs = is.an_else loops body (resolved_block (standing_at d scope) loops body) (block-is loops body once a js fs)
    arms-are loops (parsed.arm condition body others) once a js fs =
        let k = standing_at d scope in
        let b = behind (uses_of condition) (block_uses body ++ arm_uses others) a in
        is.an_arm loops condition (resolved_expr k condition) body (resolved_block k loops body) others (resolved_arms k loops others)
        (expr-is d h distinct scope apart condition (front (uses_of condition) (block_uses body ++ arm_uses others) a))
        (block-is loops body once (front (block_uses body) (arm_uses others) b) (loops-front (block_jumps loops body) (arm_jumps loops others) js) (fresh-front (block_jumps loops body) (arm_jumps loops others) fs))
        (arms-are loops others once (behind (block_uses body) (arm_uses others) b) (loops-behind (block_jumps loops body) (arm_jumps loops others) js) (fresh-behind (block_jumps loops body) (arm_jumps loops others) fs))
