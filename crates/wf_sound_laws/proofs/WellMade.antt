-- The bodies of a package that breaks no rule hand on what they may, and nothing follows an `else if` in its block.
use Rattle.std.proofs.Common.{◌≡◌, ℕ, ◌+◌, Bool, true, false, not, ◌&&◌, ◌||◌, List, [], ◌∷◌, ◌++◌, length, Option, Some, None, refl, sym, subst, suc, nat_lt}
use Rattle.std.specs.Prelude.{slice_get, if◌then◌else◌}
use Rattle.std.specs.List.{list_all}
use Rattle.wf_text.specs.declared.place.Place.{Place}
use Rattle.wf_text.specs.declared.rules.Rule.TheVariants.{T1}
use Rattle.wf_base.specs.declared.marks.Mark.{Mark}
use Rattle.wf_base.specs.declared.widths.Width.{Width}
use Rattle.wf_base.specs.declared.base_methods.BaseSig.{BaseSig}
use Rattle.wf_base.specs.declared.base_methods.BaseSig.TheVariants as sigs
use Rattle.wf_base.specs.BaseTable.{row_of}
use Rattle.wf_ast.specs.declared.operators.Op.{Op}
use Rattle.wf_ast.specs.TypedTree.{ValueTree, Target, to_nothing, Called, own, sub, assign, Simple, Site, Block, end, plain}
use Rattle.wf_ast.specs.TypedTree as typed
use Rattle.wf_ast.specs.TypedTrees.{operator_kind, slice_in, cond_in, answer_of, base_call}
use Rattle.wf_ast.specs.TypedPackage.{Variable, MethodTree, PackageTree}
use Rattle.wf_ast.specs.Value.{same_truth}
use Rattle.wf_ast.specs.WellTyped.{is_unrefined, is_pure, element_type, same_mark, calls_method, fits_type, fit_types, well_cond, well_invoked, well_simple, breaks, well_block, may_be_arg, may_be_local, may_be_result, answers_always, well_method, all_structs_whole, well_typed}
use Rattle.wf_base.specs.Effects.{allows}
use Rattle.wf_named.specs.declared.nodes.NamedCallee.{NamedCallee}
use Rattle.wf_named.specs.declared.nodes.NamedCallee.TheVariants as callees
use Rattle.wf_named.specs.declared.nodes.NamedPath.{NamedPath}
use Rattle.wf_named.specs.NamedTree.{NamedExprTree, path, answer, NamedArgTrees, no_arg, more_args, NamedCallTree, call, NamedTargetTree, NamedClauseTrees, NamedStmtTree, keep, do_call, branch, loop, leave, again, back, suspend, claim, NamedBlockTree, close, more_stmts, NamedArmTrees, no_else, otherwise, arm, NamedMethodTree, NamedPackageTree}
use Rattle.wf_named.specs.NamedTree as resolved
use Rattle.wf_named.specs.WellNamed.{count_args, is_wanted, args_wanted, has_kind, named_args, named_expr, named_call, named_target, named_clauses, named_stmt, named_block, named_arms, well_named}
use Rattle.wf_named.specs.Grammar.{by_grammar, clauses_by_grammar, has_condition, stmt_by_grammar, block_by_grammar, arms_by_grammar, package_by_grammar}
use Rattle.wf_types_rules.specs.declared.meanings.Meaning.{Meaning}
use Rattle.wf_types_rules.specs.Meanings.{variable, is_value}
use Rattle.wf_types_rules.specs.Parts.{argument, expr_parts, args_parts, whole_call_parts, value_parts, target_parts, condition_parts, clauses_parts, stmt_parts, block_parts, arms_parts}
use Rattle.wf_types_rules.specs.Judgements.{fails, both_fail, takes, wanted, may_be_handed, wrong_operand, wrong_argument, block_leaves}
use Rattle.wf_types_rules.proofs.TypeRows as rows
use Rattle.wf_types_rules.specs.FirstBreak.{deciding}
use Rattle.wf_typed_tree.specs.ElaboratedExprs.{variable_tree, path_tree, expr_tree, arg_trees}
use Rattle.wf_typed_tree.specs.ElaboratedStmts.{target_tree, update_tree, call_tree, assigned_call, assign_tree, simple_tree, count_stmt, count_block, count_arms, site, clause_trees, stmt_tree, block_tree, arms_tree}
use Rattle.wf_typed_tree.specs.ElaboratedPackage.{typed_method, typed_methods, typed_package}
use Rattle.wf_typed_tree.specs.MeaningTrees.{kind_meant}
use Rattle.wf_typed_tree.proofs.NumberLemmas.{both, and-true}
use Rattle.wf_typed_tree.proofs.NoBreaks.{Fine, AllFine, fine-split, at-none, either-false}
use Rattle.wf_typed_tree.proofs.Agreement.{PackageIs, MethodIs, package-is, method-is}
use Rattle.wf_typed_tree.proofs.BodyLaws.{around, names, context}
use Rattle.wf_typed_tree.proofs.ArgLaws.{split-arg}
use Rattle.wf_typed_tree.proofs.CalledLaws.{typed-methods}
use Rattle.wf_typed_tree.proofs.CallStmtLaws.{on-base}
use Rattle.wf_typed_tree.proofs.BlockLaws.{package-keeps}
use Rattle.wf_sound.specs.Positions.{is_slice_value, hands_on_well}
use Rattle.wf_sound_runs.specs.Chains.{is_end, well_made}
use Rattle.wf_sound_laws.proofs.SliceValues.{none-handed, fitting-slice, assigned-slice, value-meant, handed-meant, receiver-unrefined, answer-none, chained-none, MayStand, tree-whole}

-- A base method copies to a slice alone.
base-hands : (at : Place) (target : Target) (on : ValueTree) (sig : BaseSig) (args : List ValueTree) → ((width : Width) → sig ≡ sigs.SliceCopy width → is_unrefined (element_type (slice_in on)) ≡ true)
    → hands_on_well (base_call at target on sig args) ≡ true
base-hands at target on (sigs.Read form) [] h = refl
base-hands at target on sigs.Skip (n ∷ []) h = refl
base-hands at target on sigs.Write (a ∷ []) h = refl
base-hands at target on sigs.SkipFast (actual ∷ worst_case ∷ []) h = refl
base-hands at target on sigs.WriteFast (a ∷ []) h = refl
base-hands at target on sigs.WriterCopy (s ∷ []) h = refl
base-hands at target on (sigs.SliceCopy width) (s ∷ []) h = h width refl
base-hands at target on sig args h = refl

module _ (p : NamedPackageTree) (n : ℕ) (m : NamedMethodTree) (is : MethodIs p m) (whole : PackageIs p) where
  -- A path that is a value, or an argument, is no whole array.
  value-stands : (e : NamedExprTree) → AllFine p (around p n m is) (expr_parts e) → MayStand (around p n m is) e
  value-stands (path q) h =
      value-meant (variable (around p n m is) q.of) (at-none (fails is_value (variable (around p n m is) q.of)) q.at (h.0 T1 wrong_operand rows.wrong_operand))
  value-stands e h = tt

  argument-stands : (callee : NamedCallee) (j : ℕ) (e : NamedExprTree) → Fine p (around p n m is) (argument callee j e) → MayStand (around p n m is) e
  argument-stands callee j (path q) fine =
      let meant : Option Meaning = variable (around p n m is) q.of in
      let wrong = either-false (fails may_be_handed meant) (both_fail takes (wanted (around p n m is) callee j) meant) (at-none _ q.at (fine T1 wrong_argument rows.wrong_argument)) in
      handed-meant meant wrong.0
  argument-stands callee j e fine = tt

  -- Arguments.
  arguments-hand : (callee : NamedCallee) (j : ℕ) (args : NamedArgTrees) (xs : List Variable) → AllFine p (around p n m is) (args_parts callee j args)
      → fit_types (context p n m is) xs (arg_trees (around p n m is) args) ≡ true → list_all is_slice_value (arg_trees (around p n m is) args) ≡ true
  arguments-hand callee j no_arg xs h fit = refl
  arguments-hand callee j (more_args e others) [] h fit = absurd (cc fit)
  arguments-hand callee j (more_args e others) (x ∷ xs) h fit =
      let parts = split-arg p n m is callee j e others h in
      let fits = both (fits_type (context p n m is) x.ty (expr_tree (around p n m is) e)) _ fit in
      let first = fitting-slice (context p n m is) x.ty (expr_tree (around p n m is) e) fits.0 (tree-whole (around p n m is) e (argument-stands callee j e parts.0)) in
      and-true (is_slice_value (expr_tree (around p n m is) e)) _ first (arguments-hand callee (j + 1) others xs parts.2 fits.1)

  invoked-hands : (target : Target) (kept : Bool) (mark : Mark) (called : Called) (callee : NamedCallee) (args : NamedArgTrees) (o : Option MethodTree)
      → AllFine p (around p n m is) (args_parts callee 0 args) → well_invoked (context p n m is) target kept mark called (arg_trees (around p n m is) args) o ≡ true
      → list_all is_slice_value (arg_trees (around p n m is) args) ≡ true
  invoked-hands target kept mark called callee args None h w = absurd (cc w)
  invoked-hands target kept mark called callee args (Some of) h w =
      let marked = both (same_mark mark of.mark) _ w in
      let allowed = both (allows (context p n m is).method.mark mark) _ marked.1 in
      let calls = both (calls_method (context p n m is) called of) _ allowed.1 in
      let fit = both (fit_types (context p n m is) of.args (arg_trees (around p n m is) args)) _ calls.1 in
      arguments-hand callee 0 args of.args h fit.0

  -- What a base method is called on.
  on-hands : (on : NamedPath) (sig : BaseSig) (args : NamedArgTrees) → is_wanted (args_wanted (names p n m is) (callees.Base on sig)) (count_args args) ≡ true → (width : Width)
      → sig ≡ sigs.SliceCopy width → is_unrefined (element_type (slice_in (path_tree (around p n m is) on))) ≡ true
  on-hands on sig args w width e =
      let it = on-base p n m is whole on sig (count_args args) w in
      let K : BaseSig → Type 0 = λ z. has_kind (row_of z).on (kind_meant it.of) ≡ true in
      let P : Option Meaning → Type 0 = λ o. is_unrefined (element_type (slice_in (variable_tree on.at on.of o))) ≡ true in
      subst P (sym it.meant) (receiver-unrefined on.at on.of width it.of (subst K e it.kind))

  -- Calls.
  call-hands : (loops : List ℕ) (target : Target) (kept : Bool) (c : NamedCallTree) → AllFine p (around p n m is) (whole_call_parts c) → named_call (names p n m is) c ≡ true
      → well_simple (context p n m is) loops (call_tree (around p n m is) target kept c) ≡ true → hands_on_well (call_tree (around p n m is) target kept c) ≡ true
  call-hands loops target kept (call (callees.Own k) at mark args) h w well = invoked-hands target kept mark (own k.0) (callees.Own k) args _ h.1 well
  call-hands loops target kept (call (callees.Sub x k) at mark args) h w well = invoked-hands target kept mark (sub x.0 k.0) (callees.Sub x k) args _ h.1 well
  call-hands loops target kept (call (callees.Base on sig) at mark args) h w well =
      let parts = both (is_wanted (args_wanted (names p n m is) (callees.Base on sig)) (count_args args)) (named_args (names p n m is) args) w in
      base-hands at target (path_tree (around p n m is) on) sig (arg_trees (around p n m is) args) (on-hands on sig args parts.0)

  assigned-hands : (loops : List ℕ) (target : Target) (c : NamedCallTree) → AllFine p (around p n m is) (whole_call_parts c) → named_call (names p n m is) c ≡ true
      → well_simple (context p n m is) loops (assigned_call (around p n m is) target c) ≡ true → hands_on_well (assigned_call (around p n m is) target c) ≡ true
  assigned-hands loops target (call (callees.Own k) at mark args) h w well = call-hands loops target false (call (callees.Own k) at mark args) h w well
  assigned-hands loops target (call (callees.Sub x k) at mark args) h w well = call-hands loops target false (call (callees.Sub x k) at mark args) h w well
  assigned-hands loops target (call (callees.Base on sig) at mark args) h w well = by_mark (is_pure (row_of sig).mark) well
    where
      by_mark : (b : Bool)
          → well_simple (context p n m is) loops
          (if b then typed.assign target None (answer_of at sig (path_tree (around p n m is) on)) else call_tree (around p n m is) target false (call (callees.Base on sig) at mark args)) ≡ true
          → hands_on_well
          (if b then typed.assign target None (answer_of at sig (path_tree (around p n m is) on)) else call_tree (around p n m is) target false (call (callees.Base on sig) at mark args)) ≡ true
      by_mark true v = none-handed (answer_of at sig (path_tree (around p n m is) on)) (answer-none at sig (path_tree (around p n m is) on))
      by_mark false v = call-hands loops target false (call (callees.Base on sig) at mark args) h w v

  -- Assignments.
  value-hands : (loops : List ℕ) (t : NamedTargetTree) (sign : Place) (e : NamedExprTree) → AllFine p (around p n m is) (value_parts None e) → named_expr (names p n m is) e ≡ true
      → well_simple (context p n m is) loops (assign_tree (around p n m is) t None sign e) ≡ true → hands_on_well (assign_tree (around p n m is) t None sign e) ≡ true
  value-hands loops t sign (answer c) h w well = assigned-hands loops (target_tree (around p n m is) t) c h w well
  value-hands loops t sign e h w well =
      assigned-slice (context p n m is) (target_tree (around p n m is) t) (expr_tree (around p n m is) e) well (tree-whole (around p n m is) e (value-stands e h))

  assign-hands : (loops : List ℕ) (t : NamedTargetTree) (op : Option Op) (sign : Place) (e : NamedExprTree) → AllFine p (around p n m is) (target_parts t ++ value_parts op e)
      → named_expr (names p n m is) e ≡ true → well_simple (context p n m is) loops (assign_tree (around p n m is) t op sign e) ≡ true
      → hands_on_well (assign_tree (around p n m is) t op sign e) ≡ true
  assign-hands loops t None sign e h w well = value-hands loops t sign e (fine-split p (around p n m is) (target_parts t) (value_parts None e) h).1 w well
  assign-hands loops t (Some op) sign e h w well = none-handed (update_tree (around p n m is) t op sign e) (chained-none sign _ _ (operator_kind op) _ _)

  plain-made : (loops : List ℕ) (at : Site) (s : Simple) (rest : Block) → well_block (context p n m is) loops (plain at s rest) ≡ true
      → (well_simple (context p n m is) loops s ≡ true → hands_on_well s ≡ true) → well_made rest ≡ true → well_made (plain at s rest) ≡ true
  plain-made loops at s rest well hands made = and-true (hands_on_well s) (well_made rest) (hands (both (well_simple (context p n m is) loops s) _ well).0) made

  -- What a loop has inside keeps the rules of types, and so does what follows it, where all together do.
  loop-keeps : (loops : List ℕ) (k : ℕ) (e : NamedExprTree) (clauses : NamedClauseTrees) (body : NamedBlockTree) (at : Place) (rest : Block)
      → well_block (context p n m is) loops (stmt_tree (around p n m is) loops k (loop e clauses body at) rest) ≡ true
      → (well_block (context p n m is) ((k + count_block body) ∷ loops) (block_tree (around p n m is) ((k + count_block body) ∷ loops) k body) ≡ true) × (well_block (context p n m is) loops rest ≡ true)
  loop-keeps loops k e clauses body at rest well =
      let inner : List ℕ = (k + count_block body) ∷ loops in
      let cond = both (well_cond (context p n m is) (cond_in (expr_tree (around p n m is) e))) _ well in
      let head = both (list_all (λ x. well_cond (context p n m is) x.1) (clause_trees (around p n m is) clauses)) _ cond.1 in
      let left = both (same_truth (block_leaves 0 body) (breaks (k + count_block body) (block_tree (around p n m is) inner k body))) _ head.1 in
      both (well_block (context p n m is) inner (block_tree (around p n m is) inner k body)) _ left.1

  -- What follows a statement keeps the rules of types where both together do.
  rest-keeps : (loops : List ℕ) (k : ℕ) (st : NamedStmtTree) (rest : Block) → stmt_by_grammar st ≡ true → well_block (context p n m is) loops (stmt_tree (around p n m is) loops k st rest) ≡ true
      → well_block (context p n m is) loops rest ≡ true
  rest-keeps loops k (branch no_else at) rest g well = absurd (cc g)
  rest-keeps loops k (branch (otherwise body) at) rest g well = absurd (cc g)
  rest-keeps loops k (branch (arm e body others) at) rest g well =
      let cond = both (well_cond (context p n m is) (cond_in (expr_tree (around p n m is) e))) _ well in
      let one = both (well_block (context p n m is) loops (block_tree (around p n m is) loops k body)) _ cond.1 in
      (both (well_block (context p n m is) loops (arms_tree (around p n m is) loops (k + count_block body) (site (k + count_arms (arm e body others)) at) true others end)) _ one.1).1
  rest-keeps loops k (loop e clauses body at) rest g well = (loop-keeps loops k e clauses body at rest well).1
  rest-keeps loops k (resolved.assign t op sign e at) rest g well = (both (well_simple (context p n m is) loops (assign_tree (around p n m is) t op sign e)) _ well).1
  rest-keeps loops k (keep t c at) rest g well = (both (well_simple (context p n m is) loops (call_tree (around p n m is) (target_tree (around p n m is) t) true c)) _ well).1
  rest-keeps loops k (do_call c at) rest g well = (both (well_simple (context p n m is) loops (call_tree (around p n m is) to_nothing false c)) _ well).1
  rest-keeps loops k (leave outwards at) rest g well = (both (well_simple (context p n m is) loops (simple_tree (around p n m is) loops (leave outwards at))) _ well).1
  rest-keeps loops k (again outwards at) rest g well = (both (well_simple (context p n m is) loops (simple_tree (around p n m is) loops (again outwards at))) _ well).1
  rest-keeps loops k (back e at) rest g well = (both (well_simple (context p n m is) loops (simple_tree (around p n m is) loops (back e at))) _ well).1
  rest-keeps loops k (suspend e at) rest g well = (both (well_simple (context p n m is) loops (simple_tree (around p n m is) loops (suspend e at))) _ well).1
  rest-keeps loops k (claim e by at) rest g well = (both (well_simple (context p n m is) loops (simple_tree (around p n m is) loops (claim e by at))) _ well).1

  mutual
    stmt-made : (loops : List ℕ) (k : ℕ) (st : NamedStmtTree) (rest : Block) → AllFine p (around p n m is) (stmt_parts st) → stmt_by_grammar st ≡ true
        → named_stmt (names p n m is) (length loops) st ≡ true → well_block (context p n m is) loops (stmt_tree (around p n m is) loops k st rest) ≡ true → well_made rest ≡ true
        → well_made (stmt_tree (around p n m is) loops k st rest) ≡ true
    stmt-made loops k (branch arms at) rest h g w well made =
        arms-made loops k (site (k + count_arms arms) at) false arms rest h (both (has_condition arms) (arms_by_grammar arms) g).1 w well refl made
    stmt-made loops k (loop e clauses body at) rest h g w well made =
        let grammar = both (clauses_by_grammar clauses) (block_by_grammar body) (both (by_grammar e) (clauses_by_grammar clauses && block_by_grammar body) g).1 in
        let named = both (named_expr (names p n m is) e) (named_clauses (names p n m is) clauses && named_block (names p n m is) (suc (length loops)) body) w in
        let named_in = both (named_clauses (names p n m is) clauses) (named_block (names p n m is) (suc (length loops)) body) named.1 in
        let parts = fine-split p (around p n m is) (condition_parts e) (clauses_parts clauses ++ block_parts body) h in
        let parts_in = fine-split p (around p n m is) (clauses_parts clauses) (block_parts body) parts.1 in
        let inner : List ℕ = (k + count_block body) ∷ loops in
        and-true (well_made (block_tree (around p n m is) inner k body)) (well_made rest)
        (block-made inner k body parts_in.1 grammar.1 named_in.1 (loop-keeps loops k e clauses body at rest well).0) made
    stmt-made loops k (resolved.assign t op sign e at) rest h g w well made =
        let named = both (named_target (names p n m is) t) (named_expr (names p n m is) e) w in
        plain-made loops (site k at) (assign_tree (around p n m is) t op sign e) rest well (assign-hands loops t op sign e h.1 named.1) made
    stmt-made loops k (keep t c at) rest h g w well made =
        let named = both (named_target (names p n m is) t) (named_call (names p n m is) c) w in
        let parts = fine-split p (around p n m is) (target_parts t) (whole_call_parts c) h.1 in
        plain-made loops (site k at) (call_tree (around p n m is) (target_tree (around p n m is) t) true c) rest well (call-hands loops (target_tree (around p n m is) t) true c parts.1 named.1) made
    stmt-made loops k (do_call c at) rest h g w well made =
        plain-made loops (site k at) (call_tree (around p n m is) to_nothing false c) rest well (call-hands loops to_nothing false c h w) made
    stmt-made loops k (leave outwards at) rest h g w well made = made
    stmt-made loops k (again outwards at) rest h g w well made = made
    stmt-made loops k (back e at) rest h g w well made = made
    stmt-made loops k (suspend e at) rest h g w well made = made
    stmt-made loops k (claim e by at) rest h g w well made = made

    block-made : (loops : List ℕ) (k : ℕ) (b : NamedBlockTree) → AllFine p (around p n m is) (block_parts b) → block_by_grammar b ≡ true → named_block (names p n m is) (length loops) b ≡ true
        → well_block (context p n m is) loops (block_tree (around p n m is) loops k b) ≡ true → well_made (block_tree (around p n m is) loops k b) ≡ true
    block-made loops k (close at) h g w well = refl
    block-made loops k (more_stmts first others) h g w well =
        let grammar = both (stmt_by_grammar first) (block_by_grammar others) g in
        let named = both (named_stmt (names p n m is) (length loops) first) (named_block (names p n m is) (length loops) others) w in
        let parts = fine-split p (around p n m is) (stmt_parts first) (block_parts others) h in
        let rest : Block = block_tree (around p n m is) loops (k + count_stmt first) others in
        stmt-made loops k first rest parts.0 grammar.0 named.0 well
        (block-made loops (k + count_stmt first) others parts.1 grammar.1 named.1 (rest-keeps loops k first rest grammar.0 well))

    arms-made : (loops : List ℕ) (k : ℕ) (of : Site) (chained : Bool) (arms : NamedArmTrees) (rest : Block) → AllFine p (around p n m is) (arms_parts arms) → arms_by_grammar arms ≡ true
        → named_arms (names p n m is) (length loops) arms ≡ true → well_block (context p n m is) loops (arms_tree (around p n m is) loops k of chained arms rest) ≡ true
        → (not chained || is_end rest) ≡ true → well_made rest ≡ true → well_made (arms_tree (around p n m is) loops k of chained arms rest) ≡ true
    arms-made loops k of chained no_else rest h g w well alone made = refl
    arms-made loops k of chained (otherwise body) rest h g w well alone made = block-made loops k body h g w well
    arms-made loops k of chained (arm e body others) rest h g w well alone made =
        let grammar = both (block_by_grammar body) (arms_by_grammar others) (both (by_grammar e) (block_by_grammar body && arms_by_grammar others) g).1 in
        let named = both (named_expr (names p n m is) e) (named_block (names p n m is) (length loops) body && named_arms (names p n m is) (length loops) others) w in
        let named_in = both (named_block (names p n m is) (length loops) body) (named_arms (names p n m is) (length loops) others) named.1 in
        let parts = fine-split p (around p n m is) (condition_parts e) (block_parts body ++ arms_parts others) h in
        let parts_in = fine-split p (around p n m is) (block_parts body) (arms_parts others) parts.1 in
        let first : Block = block_tree (around p n m is) loops k body in
        let second : Block = arms_tree (around p n m is) loops (k + count_block body) of true others end in
        let cond = both (well_cond (context p n m is) (cond_in (expr_tree (around p n m is) e))) _ well in
        let one = both (well_block (context p n m is) loops first) _ cond.1 in
        let two = both (well_block (context p n m is) loops second) _ one.1 in
        and-true (not chained || is_end rest) _ alone
        (and-true (well_made first) _ (block-made loops k body parts_in.0 grammar.0 named_in.0 one.0)
        (and-true (well_made second) (well_made rest) (arms-made loops (k + count_block body) of true others end parts_in.1 grammar.1 named_in.1 two.0 refl refl) made))

  -- A method.
  method-made : block_by_grammar m.body ≡ true → well_method (typed_package p) (typed_method p n m) ≡ true → well_made (typed_method p n m).body ≡ true
  method-made g well =
      let args = both (list_all (λ x. may_be_arg x.ty) (typed_method p n m).args) _ (both (nat_lt m.of (length (typed_package p).structs)) _ well).1 in
      let locals = both (list_all (λ x. may_be_local x.ty) (typed_method p n m).locals) _ args.1 in
      let gives = both (may_be_result m.mark (typed_method p n m).gives) _ locals.1 in
      let ends = both (answers_always m.mark (typed_method p n m).gives (typed_method p n m).body) _ gives.1 in
      block-made [] n m.body is.body.1 g is.named ends.1

methods-made : (p : NamedPackageTree) → PackageIs p → (n : ℕ) (ms : List NamedMethodTree) → ((i : ℕ) (m : NamedMethodTree) → slice_get ms i ≡ Some m → MethodIs p m)
    → list_all (λ m. block_by_grammar m.body) ms ≡ true → list_all (well_method (typed_package p)) (typed_methods p n ms) ≡ true → list_all (λ m. well_made m.body) (typed_methods p n ms) ≡ true
methods-made p whole n [] all g well = refl
methods-made p whole n (m ∷ ms) all g well =
    let grammar = both (block_by_grammar m.body) (list_all (λ m. block_by_grammar m.body) ms) g in
    let keeps = both (well_method (typed_package p) (typed_method p n m)) _ well in
    and-true (well_made (typed_method p n m).body) _ (method-made p n m (all 0 m refl) whole grammar.0 keeps.0)
    (methods-made p whole (n + count_block m.body) ms (λ i x e. all (suc i) x e) grammar.1 keeps.1)

-- A package.
methods-well : (q : PackageTree) → well_typed q ≡ true → list_all (well_method q) q.methods ≡ true
unfolding well_typed
methods-well q h = (both (list_all (well_method q) q.methods) _ (both (all_structs_whole q 0 q.structs) _ h).1).0

pub package-made : (p : NamedPackageTree) → deciding p ≡ None → well_named p ≡ true → package_by_grammar p ≡ true → list_all (λ m. well_made m.body) (typed_package p).methods ≡ true
package-made p none named g =
    let whole = package-is p none named in
    let W : List MethodTree → Type 0 = λ ms. list_all (well_method (typed_package p)) ms ≡ true in
    let M : List MethodTree → Type 0 = λ ms. list_all (λ m. well_made m.body) ms ≡ true in
    let well = subst W (typed-methods p) (methods-well (typed_package p) (package-keeps p none named g)) in
    subst M (sym (typed-methods p)) (methods-made p whole 0 p.methods (λ i m e. method-is p whole i m e) g well)
