-- The bodies of a package that breaks no rule: each statement is right, since no judgement finds fault with its parts.
use Rattle.std.proofs.Common.{◌≡◌, ℕ, zero, suc, ◌+◌, Bool, true, false, not, ◌&&◌, List, [], ◌∷◌, ◌++◌, length, Option, None, Some, refl, sym, ap, ◌∙◌, subst, nat_lt}
use Rattle.std.specs.Prelude.{slice_get, option_map, option_and_then, if◌then◌else◌}
use Rattle.std.specs.List.{list_all}
use Rattle.std.proofs.lemmas.Option.{slice_get-map}
use Rattle.wf_text.specs.declared.place.Place.{Place}
use Rattle.wf_text.specs.declared.rules.Rule.TheVariants.{T1, T2, E5}
use Rattle.wf_base.specs.declared.marks.Mark.{Mark}
use Rattle.wf_base.specs.declared.base_methods.BaseSig.{BaseSig}
use Rattle.wf_base.specs.declared.base_methods.Kind.{Kind}
use Rattle.wf_base.specs.BaseTable.{row_of}
use Rattle.wf_ast.specs.declared.operators.Op.{Op}
use Rattle.wf_ast.specs.declared.types.Ty.{Ty}
use Rattle.wf_ast.specs.declared.types.Ty.TheVariants as types
use Rattle.wf_ast.specs.TypedTree.{Arith}
use Rattle.wf_ast.specs.TypedTrees.{OperatorKind, arithmetic, operator_kind}
use Rattle.wf_ast.specs.TypedInvariant.{is_numeric}
use Rattle.wf_ast.specs.WellTyped.{is_pure, is_shift}
use Rattle.wf_ast.specs.OperatorForms.{updates, is_arithmetic}
use Rattle.wf_named.specs.declared.nodes.NamedCallee.{NamedCallee}
use Rattle.wf_named.specs.declared.nodes.NamedCallee.TheVariants as callees
use Rattle.wf_named.specs.declared.nodes.NamedPath.{NamedPath}
use Rattle.wf_named.specs.NamedTree.{NamedExprTree, status, path, index, answer, NamedPartTree, absent, present, NamedArgTrees, no_arg, more_args, NamedCallTree, call, NamedTargetTree, to_path, to_element, NamedClauseTrees, no_clause, more_clauses, LetterTrees, no_letter, more_letters, NamedViaTree, by_itself, via, NamedStmtTree, assign, keep, do_call, branch, loop, leave, again, back, suspend, claim, NamedBlockTree, close, more_stmts, NamedArmTrees, no_else, otherwise, arm, NamedMethodTree, NamedPackageTree}
use Rattle.wf_named.specs.WellNamed.{has_kind, is_wanted, args_wanted, count_args, named_expr, named_part, named_args, named_call, named_target, named_clauses, named_letters, named_via, named_stmt, named_block, named_arms, well_named, NamedScope, scope_of_method}
use Rattle.wf_named.specs.Grammar.{by_grammar, end_by_grammar, args_by_grammar, call_by_grammar, target_by_grammar, clauses_by_grammar, letters_by_grammar, via_by_grammar, has_condition, stmt_by_grammar, block_by_grammar, arms_by_grammar, package_by_grammar}
use Rattle.wf_types_rules.specs.declared.meanings.Meaning.{Meaning}
use Rattle.wf_types_rules.specs.declared.meanings.Meaning.TheVariants as meanings
use Rattle.wf_types_rules.specs.declared.meanings.Operand.{Operand}
use Rattle.wf_types_rules.specs.declared.settings.Setting.{Setting}
use Rattle.wf_types_rules.specs.Meanings.{variable, is_value, is_number, place_of}
use Rattle.wf_types_rules.specs.Operands.{not_taken, not_shifted, not_of_one_width}
use Rattle.wf_types_rules.specs.ExprTypes.{operand_at, pure_answer, meaning}
use Rattle.wf_types_rules.specs.DeclaredTypes.{in_method}
use Rattle.wf_types_rules.specs.Parts.{argument, expr_parts, end_parts, args_parts, whole_call_parts, value_parts, target_parts, condition_parts, clauses_parts, letters_parts, via_parts, stmt_parts, block_parts, arms_parts, assigned, yielded}
use Rattle.wf_types_rules.specs.Judgements.{fails, both_fail, takes, wanted, may_be_handed, wrong_argument, is_no_target, wrong_target, target_meaning, target_place, updated, wrong_update, is_suspension_text, wrong_yield}
use Rattle.wf_types_rules.proofs.TypeRows as rows
use Rattle.wf_types_rules.specs.FirstBreak.{deciding}
use Rattle.wf_typed_tree.specs.ElaboratedExprs.{type_meant}
use Rattle.wf_typed_tree.specs.ElaboratedStmts.{unrefined, written_to, status_in}
use Rattle.wf_typed_tree.specs.ElaboratedPackage.{context_of}
use Rattle.wf_typed_tree.specs.MeaningTrees.{kind_meant}
use Rattle.wf_typed_tree.proofs.NumberLemmas.{both, named-more}
use Rattle.wf_typed_tree.proofs.NoBreaks.{Fine, AllFine, fine-split, at-none, either-false, not-not, holds}
use Rattle.wf_typed_tree.proofs.OperandLaws.{one-width-parts}
use Rattle.wf_typed_tree.proofs.AllOperators.{shift-parts}
use Rattle.wf_typed_exprs.proofs.FormLaws.{kind-typed}
use Rattle.wf_typed_tree.proofs.KnownMeanings.{then-known, map-known, front-known, pure-known, expr-known}
use Rattle.wf_typed_tree.proofs.Agreement.{PackageIs, MethodIs, package-is, method-is, method-known, method-agrees}
use Rattle.wf_typed_tree.proofs.ArgLaws.{ArgFine, split-arg, value-is}
use Rattle.wf_typed_tree.proofs.CalledLaws.{mark-same, own-calls, sub-calls}
use Rattle.wf_typed_tree.proofs.CallStmtLaws.{same-marks, target-is, on-base}
use Rattle.wf_typed_exprs.specs.Right.{Around, IsRight, is_struct, IsRightPath, IsRightEnd}
use Rattle.wf_typed_exprs.proofs.AroundLaws as standing
use Rattle.wf_typed_stmts.specs.Right.{Known, known_in, IsRightArg, AreRightArgs, IsRightCallee, IsRightCall, IsRightBy, IsRightAnswer, IsRightValue, IsRightTarget, IsRightUpdate, IsRightSide, AreRightClauses, AreRightLetters, IsRightVia, IsRightStmt, IsRightBlock, AreRightArms}

-- A value, what is handed on and what has base methods is no struct.
value-whole : (of : Meaning) → is_value of ≡ true → is_struct of ≡ false
value-whole (meanings.Typed (types.Part part)) h = absurd (cc h)
value-whole of h = refl

handed-whole : (of : Meaning) → may_be_handed of ≡ true → is_struct of ≡ false
handed-whole (meanings.Typed (types.Part part)) h = absurd (cc h)
handed-whole of h = refl

kind-whole : (kind : Kind) (of : Meaning) → has_kind kind (kind_meant of) ≡ true → is_struct of ≡ false
kind-whole kind (meanings.Typed (types.Part part)) h = absurd (cc h)
kind-whole kind of h = refl

-- The operands of an operator with `=`.
number-sort : (sort : OperatorKind) → is_arithmetic sort ≡ true → (op : Arith) × (sort ≡ arithmetic op)
number-sort (arithmetic op) h = (op, refl)
number-sort sort h = absurd (cc h)

both-numbers : (op : Arith) (o q : Operand) → not_taken (arithmetic op) (o ∷ q ∷ []) ≡ None → (is_number o.of ≡ true) × (is_number q.of ≡ true)
both-numbers op o q h = by_shift (is_shift op) h
  where
    by_shift : (b : Bool) → (if b then not_shifted (o ∷ q ∷ []) else not_of_one_width None (o ∷ q ∷ [])) ≡ None → (is_number o.of ≡ true) × (is_number q.of ≡ true)
    by_shift true k = let it = shift-parts o q k in (it.left, it.right)
    by_shift false k = let it = one-width-parts None o (q ∷ []) k in (it.number, (one-width-parts _ q [] it.behind).number)

number-type : (m : Meaning) → is_number m ≡ true → is_numeric (type_meant (Some m)) ≡ true
number-type (meanings.Constant None value) h = refl
number-type (meanings.Constant (Some width) value) h = refl
number-type (meanings.Typed (types.Num width lo hi)) h = refl
number-type m h = absurd (cc h)

number-told : (o : Option Meaning) (m : Meaning) → o ≡ Some m → is_number m ≡ true → is_numeric (type_meant o) ≡ true
number-told o m e h = let P : Option Meaning → Type 0 = λ z. is_numeric (type_meant z) ≡ true in subst P (sym e) (number-type m h)

unrefined-number : (ty : Ty) → is_numeric ty ≡ true → is_numeric (unrefined ty) ≡ true
unrefined-number (types.Num width lo hi) h = refl
unrefined-number ty h = absurd (cc h)

grammar-at : (ms : List NamedMethodTree) (i : ℕ) (m : NamedMethodTree) → list_all (λ m. block_by_grammar m.body) ms ≡ true → slice_get ms i ≡ Some m → block_by_grammar m.body ≡ true
grammar-at [] i m g e = absurd (cc e)
grammar-at (x ∷ xs) zero m g e =
    let same : x ≡ m = cc e in
    let P : NamedMethodTree → Type 0 = λ z. block_by_grammar z.body ≡ true in
    subst P same (both (block_by_grammar x.body) (list_all (λ m. block_by_grammar m.body) xs) g).0
grammar-at (x ∷ xs) (suc i) m g e = grammar-at xs i m (both (block_by_grammar x.body) (list_all (λ m. block_by_grammar m.body) xs) g).1 e

module _ (p : NamedPackageTree) (m : NamedMethodTree) (is : MethodIs p m) (whole : PackageIs p) (base : Around (in_method p m) (10 + length p.statuses)) where
  abbrev around : Setting
  around = in_method p m

  abbrev names : NamedScope
  names = scope_of_method p m

  abbrev known : Known
  known = known_in p

  abbrev round : Around (in_method p m) (10 + length p.statuses)
  round = record { names = scope_of_method p m; context = context_of p 0 m; agree = method-agrees p 0 m is; fields = base.fields; args = base.args; locals = base.locals; told = refl }

  -- Expressions and paths.
  expr-right : (e : NamedExprTree) → AllFine p around (expr_parts e) → by_grammar e ≡ true → named_expr names e ≡ true → IsRight around known.statuses e
  expr-right e h g k = let it = expr-known p names around (method-known p m is) e h k in record { around = round; grammar = g; named = k; of = it.0; means = it.1 }

  path-right : (q : NamedPath) (of : Meaning) → variable around q.of ≡ Some of → is_struct of ≡ false → IsRightPath around known.statuses q
  path-right q of h w = record { around = round; of = of; means = h; whole = w }

  end-right : (e : NamedPartTree) → AllFine p around (end_parts e) → end_by_grammar e ≡ true → named_part names e ≡ true → IsRightEnd around known.statuses e
  end-right absent h g k = tt
  end-right (present e) h g k = expr-right e h g k

  -- Calls.
  arg-right : (callee : NamedCallee) (j : ℕ) (e : NamedExprTree) → Fine p around (argument callee j e) → ArgFine p 0 m is e → by_grammar e ≡ true → named_expr names e ≡ true → IsRightArg around known e
  arg-right callee j (path q) fine parts g k =
      let it = method-known p m is q.of k in
      let wrong = either-false (fails may_be_handed (variable around q.of)) (both_fail takes (wanted around callee j) (variable around q.of))
      (at-none _ q.at (fine T1 wrong_argument rows.wrong_argument)) in
      path-right q it.0 it.1 (handed-whole it.0 (holds may_be_handed (variable around q.of) it.0 it.1 wrong.0))
  arg-right callee j e fine parts g k = expr-right e parts g k

  args-right : (callee : NamedCallee) (j : ℕ) (args : NamedArgTrees) → AllFine p around (args_parts callee j args) → args_by_grammar args ≡ true → named_args names args ≡ true → AreRightArgs around known args
  args-right callee j no_arg h g k = tt
  args-right callee j (more_args e others) h g k =
      let parts = split-arg p 0 m is callee j e others h in
      let grammar = both (by_grammar e) (args_by_grammar others) g in
      let named = named-more names e others k in
      (arg-right callee j e parts.0 parts.1 grammar.0 named.0, args-right callee (j + 1) others parts.2 grammar.1 named.1)

  mark-at : (k : ℕ) (of : NamedMethodTree) (mark : Mark) → slice_get p.methods k ≡ Some of → mark ≡ of.mark → slice_get known.marks k ≡ Some mark
  mark-at k of mark e same =
      let of_method : NamedMethodTree → Mark = λ z. z.mark in
      slice_get-map of_method p.methods k ∙ ap (option_map of_method) e ∙ ap Some (sym same)

  callee-right : (callee : NamedCallee) (at : Place) (mark : Mark) (args : NamedArgTrees) → AllFine p around (whole_call_parts (call callee at mark args))
      → is_wanted (args_wanted names callee) (count_args args) ≡ true → IsRightCallee around known callee mark
  callee-right (callees.Own k) at mark args h w =
      let it = own-calls p 0 m is whole k (count_args args) w in
      mark-at k.0 it.0.of mark it.0.at (same-marks mark it.0.of.mark (mark-same p 0 m is whole (callees.Own k) at mark it.0.of.mark args h it.0.mark))
  callee-right (callees.Sub x k) at mark args h w =
      let it = sub-calls p 0 m is whole x k (count_args args) w in
      mark-at k.0 it.0.of mark it.0.at (same-marks mark it.0.of.mark (mark-same p 0 m is whole (callees.Sub x k) at mark it.0.of.mark args h it.0.mark))
  callee-right (callees.Base on sig) at mark args h w =
      let it = on-base p 0 m is whole on sig (count_args args) w in
      (path-right on it.of it.meant (kind-whole (row_of sig).on it.of it.kind), rw it.meant (kind-typed (row_of sig).on it.of it.kind))

  written-right : (callee : NamedCallee) (at : Place) (mark : Mark) (args : NamedArgTrees) → AllFine p around (whole_call_parts (call callee at mark args)) → args_by_grammar args ≡ true
      → named_call names (call callee at mark args) ≡ true → IsRightCall around known (call callee at mark args)
  written-right callee at mark args h g k =
      let parts = both (is_wanted (args_wanted names callee) (count_args args)) (named_args names args) k in
      (callee-right callee at mark args h parts.0, args-right callee 0 args h.1 g parts.1)

  call-right : (c : NamedCallTree) → AllFine p around (whole_call_parts c) → call_by_grammar c ≡ true → named_call names c ≡ true → IsRightCall around known c
  call-right (call callee at mark args) h g k = written-right callee at mark args h (both (not (is_pure mark)) (args_by_grammar args) g).1 k

  -- What a pure base method answers.
  pure-right : (on : NamedPath) (sig : BaseSig) (at : Place) (mark : Mark) (args : NamedArgTrees) → AllFine p around (whole_call_parts (call (callees.Base on sig) at mark args)) → args_by_grammar args ≡ true
      → named_call names (call (callees.Base on sig) at mark args) ≡ true → is_pure (row_of sig).mark ≡ true → IsRight around known.statuses (answer (call (callees.Base on sig) at mark args))
  pure-right on sig at mark args h g k pure =
      let parts = both (is_wanted (args_wanted names (callees.Base on sig)) (count_args args)) (named_args names args) k in
      let it = on-base p 0 m is whole on sig (count_args args) parts.0 in
      let marked = mark-same p 0 m is whole (callees.Base on sig) at mark (row_of sig).mark args h refl in
      let P : Mark → Type 0 = λ z. is_pure z ≡ true in
      let value = pure-known sig mark it.of (subst P (sym (same-marks mark (row_of sig).mark marked)) pure) marked in
      record { around = round; grammar = g; named = k; of = value.0; means = then-known (pure_answer sig mark) (variable around on.of) it.of value.0 it.meant value.1 }

  base-right : (on : NamedPath) (sig : BaseSig) (at : Place) (mark : Mark) (args : NamedArgTrees) → AllFine p around (whole_call_parts (call (callees.Base on sig) at mark args)) → args_by_grammar args ≡ true
      → named_call names (call (callees.Base on sig) at mark args) ≡ true → (b : Bool) → is_pure (row_of sig).mark ≡ b → IsRightBy b around known (call (callees.Base on sig) at mark args)
  base-right on sig at mark args h g k true e = pure-right on sig at mark args h g k e
  base-right on sig at mark args h g k false e = written-right (callees.Base on sig) at mark args h g k

  answer-right : (c : NamedCallTree) → AllFine p around (whole_call_parts c) → by_grammar (answer c) ≡ true → named_call names c ≡ true → IsRightAnswer around known c
  answer-right (call (callees.Own x) at mark args) h g k = written-right (callees.Own x) at mark args h g k
  answer-right (call (callees.Sub x y) at mark args) h g k = written-right (callees.Sub x y) at mark args h g k
  answer-right (call (callees.Base on sig) at mark args) h g k = base-right on sig at mark args h g k (is_pure (row_of sig).mark) refl

  -- Assignments.
  target-right : (t : NamedTargetTree) → AllFine p around (target_parts t) → target_by_grammar t ≡ true → named_target names t ≡ true → IsRightTarget around known t
  target-right (to_path q) h g k =
      let to = target-is p 0 m is whole (to_path q) h g k in
      let open_target = at-none (is_no_target around (to_path q)) q.at (h.0 T2 wrong_target rows.wrong_target) in
      let same : target_meaning around (to_path q) ≡ variable around q.of = rw open_target refl in
      let of : Meaning = meanings.Typed to.ty in
      (path-right q of (sym same ∙ to.means) (value-whole of (value-is p 0 m is of (written_to around (to_path q)) to.value)), same)
  target-right (to_element q i at) h g k = expr-right (index q i at) h.1 g k

  value-right : (e : NamedExprTree) → AllFine p around (value_parts None e) → by_grammar e ≡ true → named_expr names e ≡ true → IsRightValue around known e
  value-right (answer c) h g k = answer-right c h g k
  value-right e h g k = expr-right e h g k

  update-right : (t : NamedTargetTree) (op : Op) (e : NamedExprTree) → AllFine p around (assigned t (Some op) e ∷ (target_parts t ++ expr_parts e)) → is_arithmetic (operator_kind op) ≡ true
      → target_by_grammar t ≡ true → by_grammar e ≡ true → named_target names t ≡ true → named_expr names e ≡ true → IsRightUpdate around known t op e
  update-right t op e h number gt ge kt ke =
      let parts = fine-split p around (target_parts t) (expr_parts e) h.1 in
      let to = target-is p 0 m is whole t parts.0 gt kt in
      let it = expr-right e parts.1 ge ke in
      let sort = number-sort (operator_kind op) number in
      let o : Operand = operand_at (target_place t) (meanings.Typed to.ty) in
      let q : Operand = operand_at (place_of e) it.of in
      let all : updated around t e ≡ Some (o ∷ q ∷ []) =
      front-known _ _ o (q ∷ []) (map-known (operand_at (target_place t)) (target_meaning around t) (meanings.Typed to.ty) to.means)
      (front-known _ (Some []) q [] (map-known (operand_at (place_of e)) (meaning around e) it.of it.means) refl) in
      let T : Option (List Operand) → Type 0 = λ x. option_and_then (not_taken (operator_kind op)) x ≡ None in
      let S : OperatorKind → Type 0 = λ s. not_taken s (o ∷ q ∷ []) ≡ None in
      let numbers = both-numbers sort.0 o q (subst S sort.1 (subst T all (h.0 T1 wrong_update rows.wrong_update))) in
      let target = number-told (target_meaning around t) (meanings.Typed to.ty) to.means numbers.0 in
      record { gives = number; target = target; result = unrefined-number (type_meant (target_meaning around t)) target; value = number-told (meaning around e) it.of it.means numbers.1; right = it }

  assign-right : (t : NamedTargetTree) (op : Option Op) (e : NamedExprTree) → AllFine p around (assigned t op e ∷ (target_parts t ++ value_parts op e)) → updates op ≡ true
      → target_by_grammar t ≡ true → by_grammar e ≡ true → named_target names t ≡ true → named_expr names e ≡ true → IsRightTarget around known t × IsRightSide around known t op e
  assign-right t None e h u gt ge kt ke =
      let parts = fine-split p around (target_parts t) (value_parts None e) h.1 in (target-right t parts.0 gt kt, value-right e parts.1 ge ke)
  assign-right t (Some op) e h u gt ge kt ke =
      let parts = fine-split p around (target_parts t) (expr_parts e) h.1 in (target-right t parts.0 gt kt, update-right t op e h u gt ge kt ke)

  -- Conditions, and what is given for letters.
  condition-right : (e : NamedExprTree) → AllFine p around (condition_parts e) → by_grammar e ≡ true → named_expr names e ≡ true → IsRight around known.statuses e
  condition-right e h g k = expr-right e h.1 g k

  clauses-right : (clauses : NamedClauseTrees) → AllFine p around (clauses_parts clauses) → clauses_by_grammar clauses ≡ true → named_clauses names clauses ≡ true → AreRightClauses around known clauses
  clauses-right no_clause h g k = tt
  clauses-right (more_clauses kind e at others) h g k =
      let grammar = both (by_grammar e) (clauses_by_grammar others) g in
      let named = both (named_expr names e) (named_clauses names others) k in
      let parts = fine-split p around (condition_parts e) (clauses_parts others) h in
      (condition-right e parts.0 grammar.0 named.0, clauses-right others parts.1 grammar.1 named.1)

  letters-right : (given : LetterTrees) → AllFine p around (letters_parts given) → letters_by_grammar given ≡ true → named_letters names given ≡ true → AreRightLetters around known given
  letters-right no_letter h g k = tt
  letters-right (more_letters letter e others) h g k =
      let grammar = both (by_grammar e) (letters_by_grammar others) g in
      let named = both (named_expr names e) (named_letters names others) k in
      let parts = fine-split p around (expr_parts e) (letters_parts others) h.1 in
      (expr-right e parts.0 grammar.0 named.0, letters-right others parts.1 grammar.1 named.1)

  via-right : (by : NamedViaTree) → AllFine p around (via_parts by) → via_by_grammar by ≡ true → named_via names by ≡ true → IsRightVia around known by
  via-right by_itself h g k = tt
  via-right (via text given) h g k = letters-right given h g k

  -- What is yielded.
  status-told : (e : NamedExprTree) → is_suspension_text around e ≡ true → named_expr names e ≡ true → nat_lt (status_in e) known.statuses ≡ true
  status-told (status n at) h k = k
  status-told e h k = absurd (cc h)

  yield-right : (at : Place) (e : NamedExprTree) → AllFine p around (yielded at e ∷ expr_parts e) → named_expr names e ≡ true → nat_lt (status_in e) known.statuses ≡ true
  yield-right at e h k =
      status-told e (not-not (is_suspension_text around e) (at-none (not (is_suspension_text around e)) (place_of e) (h.0 E5 wrong_yield rows.wrong_yield))) k

  mutual
    stmt-right : (loops : ℕ) (st : NamedStmtTree) → AllFine p around (stmt_parts st) → stmt_by_grammar st ≡ true → named_stmt names loops st ≡ true → IsRightStmt around known loops st
    stmt-right loops (assign t op sign e at) h g k =
        let grammar = both (updates op) (target_by_grammar t && by_grammar e) g in
        let grammar_in = both (target_by_grammar t) (by_grammar e) grammar.1 in
        let named = both (named_target names t) (named_expr names e) k in
        assign-right t op e h grammar.0 grammar_in.0 grammar_in.1 named.0 named.1
    stmt-right loops (keep t c at) h g k =
        let grammar = both (target_by_grammar t) (call_by_grammar c) g in
        let named = both (named_target names t) (named_call names c) k in
        let parts = fine-split p around (target_parts t) (whole_call_parts c) h.1 in
        (target-right t parts.0 grammar.0 named.0, call-right c parts.1 grammar.1 named.1)
    stmt-right loops (do_call c at) h g k = call-right c h g k
    stmt-right loops (branch arms at) h g k =
        let grammar = both (has_condition arms) (arms_by_grammar arms) g in (grammar.0, arms-right loops arms h grammar.1 k)
    stmt-right loops (loop e clauses body at) h g k =
        let grammar = both (by_grammar e) (clauses_by_grammar clauses && block_by_grammar body) g in
        let grammar_in = both (clauses_by_grammar clauses) (block_by_grammar body) grammar.1 in
        let named = both (named_expr names e) (named_clauses names clauses && named_block names (suc loops) body) k in
        let named_in = both (named_clauses names clauses) (named_block names (suc loops) body) named.1 in
        let parts = fine-split p around (condition_parts e) (clauses_parts clauses ++ block_parts body) h in
        let parts_in = fine-split p around (clauses_parts clauses) (block_parts body) parts.1 in
        (condition-right e parts.0 grammar.0 named.0, (clauses-right clauses parts_in.0 grammar_in.0 named_in.0, block-right (suc loops) body parts_in.1 grammar_in.1 named_in.1))
    stmt-right loops (leave outwards at) h g k = k
    stmt-right loops (again outwards at) h g k = k
    stmt-right loops (back e at) h g k = end-right e h.1 g k
    stmt-right loops (suspend e at) h g k = yield-right at e h k
    stmt-right loops (claim e by at) h g k =
        let grammar = both (by_grammar e) (via_by_grammar by) g in
        let named = both (named_expr names e) (named_via names by) k in
        let parts = fine-split p around (condition_parts e) (via_parts by) h in
        (condition-right e parts.0 grammar.0 named.0, via-right by parts.1 grammar.1 named.1)

    block-right : (loops : ℕ) (b : NamedBlockTree) → AllFine p around (block_parts b) → block_by_grammar b ≡ true → named_block names loops b ≡ true → IsRightBlock around known loops b
    block-right loops (close at) h g k = tt
    block-right loops (more_stmts first others) h g k =
        let grammar = both (stmt_by_grammar first) (block_by_grammar others) g in
        let named = both (named_stmt names loops first) (named_block names loops others) k in
        let parts = fine-split p around (stmt_parts first) (block_parts others) h in
        (stmt-right loops first parts.0 grammar.0 named.0, block-right loops others parts.1 grammar.1 named.1)

    arms-right : (loops : ℕ) (arms : NamedArmTrees) → AllFine p around (arms_parts arms) → arms_by_grammar arms ≡ true → named_arms names loops arms ≡ true → AreRightArms around known loops arms
    arms-right loops no_else h g k = tt
    arms-right loops (otherwise body) h g k = block-right loops body h g k
    arms-right loops (arm e body others) h g k =
        let grammar = both (by_grammar e) (block_by_grammar body && arms_by_grammar others) g in
        let grammar_in = both (block_by_grammar body) (arms_by_grammar others) grammar.1 in
        let named = both (named_expr names e) (named_block names loops body && named_arms names loops others) k in
        let named_in = both (named_block names loops body) (named_arms names loops others) named.1 in
        let parts = fine-split p around (condition_parts e) (block_parts body ++ arms_parts others) h in
        let parts_in = fine-split p around (block_parts body) (arms_parts others) parts.1 in
        (condition-right e parts.0 grammar.0 named.0, (block-right loops body parts_in.0 grammar_in.0 named_in.0, arms-right loops others parts_in.1 grammar_in.1 named_in.1))

-- The body of a method of a package that breaks no rule.
pub body_is_right : (p : NamedPackageTree) → deciding p ≡ None → well_named p ≡ true → package_by_grammar p ≡ true → (i : ℕ) (m : NamedMethodTree) → slice_get p.methods i ≡ Some m
    → IsRightBlock (in_method p m) (known_in p) 0 m.body
body_is_right p none named g i m e =
    let whole = package-is p none named in
    let is = method-is p whole i m e in
    block-right p m is whole (standing.body_is_right p none named i m e) 0 m.body is.body.1 (grammar-at p.methods i m g e) is.named
