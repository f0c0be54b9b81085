-- A well formed block is resolved to one as the grammar gives.
use Rattle.std.proofs.Common.{◌≡◌, Bool, true, not, ◌&&◌, List, [], ◌∷◌, ◌++◌, Option, Some, None, refl}
use Rattle.wf_ast.specs.WellTyped.{is_pure}
use Rattle.wf_ast.specs.declared.parsed.Name.{Name}
use Rattle.wf_ast.specs.declared.parsed.WrittenMark.{WrittenMark}
use Rattle.wf_ast.specs.declared.parsed.WrittenMark.TheVariants as marks
use Rattle.wf_ast.specs.ParsedTree as parsed
use Rattle.wf_ast.specs.ParsedTree.{CallTree, TargetTree, ClauseTrees, ViaTree, StmtTree, BlockTree, ArmTrees}
use Rattle.wf_ast.specs.OperatorForms.{updates}
use Rattle.wf_ast.specs.WellFormed.{formed_expr, formed_given, is_marked, formed_call, formed_target, formed_clauses, formed_via, has_arm, formed_stmt, formed_block, formed_arms}
use Rattle.wf_ast.proofs.BoolLemmas.{both, and-true}
use Rattle.wf_named.specs.NamedTree.{NamedStmtTree, NamedBlockTree}
use Rattle.wf_named.specs.Grammar.{by_grammar, args_by_grammar, call_by_grammar, target_by_grammar, clauses_by_grammar, letters_by_grammar, via_by_grammar, has_condition, stmt_by_grammar, block_by_grammar, arms_by_grammar}
use Rattle.wf_names_resolve.specs.Standing.{Standing}
use Rattle.wf_names_resolve.specs.Resolved.{NamedGiven, args_for, resolved_mark, resolved_expr, resolved_given, resolved_call, resolved_target, resolved_clauses, letters_of, resolved_via, with_stmt, resolved_stmt, resolved_block, resolved_arms}
use Rattle.wf_names_laws.proofs.ExprsKept.{GivenAreKept, args-kept, expr-kept, part-kept, given-kept}

mark-kept : (mark : WrittenMark) → is_marked mark ≡ true → not (is_pure (resolved_mark mark)) ≡ true
mark-kept marks.Unmarked h = absurd (cc h)
mark-kept marks.Exclamation h = refl
mark-kept marks.Question h = refl

-- The declaration of a local leaves no statement.
abbrev kept_by_grammar : Option NamedStmtTree → Bool
kept_by_grammar None = true
kept_by_grammar (Some s) = stmt_by_grammar s

with-stmt-kept : (o : Option NamedStmtTree) (others : NamedBlockTree) → kept_by_grammar o ≡ true → block_by_grammar others ≡ true → block_by_grammar (with_stmt o others) ≡ true
with-stmt-kept None others h k = k
with-stmt-kept (Some s) others h k = and-true (stmt_by_grammar s) (block_by_grammar others) h k

module _ (k : Standing) where
  call-kept : (c : CallTree) → formed_call c ≡ true → call_by_grammar (resolved_call k c) ≡ true
  call-kept (parsed.call on name mark given) h =
      let parts = both (is_marked mark) (formed_given given) h in
      let args = args-kept k (k.callee on name.text.0) (resolved_given k given) (given-kept k given parts.1) in
      and-true (not (is_pure (resolved_mark mark))) (args_by_grammar (args_for k (k.callee on name.text.0) (resolved_given k given))) (mark-kept mark parts.0) args

  target-kept : (t : TargetTree) → formed_target t ≡ true → target_by_grammar (resolved_target k t) ≡ true
  target-kept (parsed.to_path path) h = refl
  target-kept (parsed.to_element base place at) h = expr-kept k place h

  clauses-kept : (clauses : ClauseTrees) → formed_clauses clauses ≡ true → clauses_by_grammar (resolved_clauses k clauses) ≡ true
  clauses-kept parsed.no_clause h = refl
  clauses-kept (parsed.more_clauses kind condition at others) h =
      let parts = both (formed_expr condition) (formed_clauses others) h in
      and-true (by_grammar (resolved_expr k condition)) (clauses_by_grammar (resolved_clauses k others)) (expr-kept k condition parts.0) (clauses-kept others parts.1)

  letters-kept : (given : List NamedGiven) → GivenAreKept given → letters_by_grammar (letters_of k given) ≡ true
  letters-kept [] a = refl
  letters-kept (g ∷ given) a = and-true (by_grammar g.value) (letters_by_grammar (letters_of k given)) a.0 (letters-kept given a.1)

  via-kept : (by : ViaTree) → formed_via by ≡ true → via_by_grammar (resolved_via k by) ≡ true
  via-kept parsed.by_itself h = refl
  via-kept (parsed.via axiom_name given) h = letters-kept (resolved_given k given) (given-kept k given h)

  arm-kept : (loops : List (Option Name)) (arms : ArmTrees) → has_arm arms ≡ true → has_condition (resolved_arms k loops arms) ≡ true
  arm-kept loops parsed.no_else h = absurd (cc h)
  arm-kept loops (parsed.otherwise body) h = absurd (cc h)
  arm-kept loops (parsed.arm condition body others) h = refl

  mutual
    stmt-kept : (loops : List (Option Name)) (s : StmtTree) → formed_stmt s ≡ true → kept_by_grammar (resolved_stmt k loops s) ≡ true
    stmt-kept loops (parsed.var name of at) h = refl
    stmt-kept loops (parsed.assign target op sign value at) h =
        let parts = both (updates op) (formed_target target && formed_expr value) h in
        let sides = both (formed_target target) (formed_expr value) parts.1 in
        and-true (updates op) (target_by_grammar (resolved_target k target) && by_grammar (resolved_expr k value)) parts.0
        (and-true (target_by_grammar (resolved_target k target)) (by_grammar (resolved_expr k value)) (target-kept target sides.0) (expr-kept k value sides.1))
    stmt-kept loops (parsed.keep target c at) h =
        let sides = both (formed_target target) (formed_call c) h in
        and-true (target_by_grammar (resolved_target k target)) (call_by_grammar (resolved_call k c)) (target-kept target sides.0) (call-kept c sides.1)
    stmt-kept loops (parsed.do_call c at) h = call-kept c h
    stmt-kept loops (parsed.branch arms at) h =
        let parts = both (has_arm arms) (formed_arms arms) h in
        and-true (has_condition (resolved_arms k loops arms)) (arms_by_grammar (resolved_arms k loops arms)) (arm-kept loops arms parts.0) (arms-kept loops arms parts.1)
    stmt-kept loops (parsed.loop label condition clauses body at) h =
        let parts = both (formed_expr condition) (formed_clauses clauses && formed_block body) h in
        let inner = both (formed_clauses clauses) (formed_block body) parts.1 in
        let inside : List (Option Name) = loops ++ label ∷ [] in
        and-true (by_grammar (resolved_expr k condition)) (clauses_by_grammar (resolved_clauses k clauses) && block_by_grammar (resolved_block k inside body)) (expr-kept k condition parts.0)
        (and-true (clauses_by_grammar (resolved_clauses k clauses)) (block_by_grammar (resolved_block k inside body)) (clauses-kept clauses inner.0) (block-kept inside body inner.1))
    stmt-kept loops (parsed.leave label at) h = refl
    stmt-kept loops (parsed.again label at) h = refl
    stmt-kept loops (parsed.back value at) h = part-kept k value h
    stmt-kept loops (parsed.suspend value at) h = expr-kept k value h
    stmt-kept loops (parsed.claim goal by at) h =
        let parts = both (formed_expr goal) (formed_via by) h in
        and-true (by_grammar (resolved_expr k goal)) (via_by_grammar (resolved_via k by)) (expr-kept k goal parts.0) (via-kept by parts.1)

    pub block-kept : (loops : List (Option Name)) (b : BlockTree) → formed_block b ≡ true → block_by_grammar (resolved_block k loops b) ≡ true
    block-kept loops (parsed.close at) h = refl
    block-kept loops (parsed.more_stmts first others) h =
        let parts = both (formed_stmt first) (formed_block others) h in
        with-stmt-kept (resolved_stmt k loops first) (resolved_block k loops others) (stmt-kept loops first parts.0) (block-kept loops others parts.1)

    arms-kept : (loops : List (Option Name)) (arms : ArmTrees) → formed_arms arms ≡ true → arms_by_grammar (resolved_arms k loops arms) ≡ true
    arms-kept loops parsed.no_else h = refl
    arms-kept loops (parsed.otherwise body) h = block-kept loops body h
    arms-kept loops (parsed.arm condition body others) h =
        let parts = both (formed_expr condition) (formed_block body && formed_arms others) h in
        let inner = both (formed_block body) (formed_arms others) parts.1 in
        and-true (by_grammar (resolved_expr k condition)) (block_by_grammar (resolved_block k loops body) && arms_by_grammar (resolved_arms k loops others)) (expr-kept k condition parts.0)
        (and-true (block_by_grammar (resolved_block k loops body)) (arms_by_grammar (resolved_arms k loops others)) (block-kept loops body inner.0) (arms-kept loops others inner.1))
