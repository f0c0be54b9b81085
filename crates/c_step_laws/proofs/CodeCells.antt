-- What the instructions of a function's statements call is what its tree calls, where the statements keep their rules.
use Rattle.std.proofs.Common.{◌≡◌, ℕ, zero, suc, ◌+◌, Bool, true, List, [], ◌∷◌, ◌++◌, length, max, Option, Some, None, refl, sym, ap, ◌∙◌, subst, arith}
use Rattle.c_text.specs.declared.kinds.CNumber.TheVariants as literal
use Rattle.c_text.specs.CTree.{TypeTree, ExprTree, number, variable, Args, no_arg, expr_arg, sizeof_arg, Code, finish, nested, empty, assign, call, jump, branch, repeat, select, leave, case_label, default_label, name_label}
use Rattle.c_meaning.specs.CTypes.{Function, CScope, function_named, ExprType, Held, type_of, held_of, arg_types}
use Rattle.c_meaning.specs.CStep.{Callee, memory_move, memory_set, own, callee_of}
use Rattle.c_meaning.specs.UnitForm.{Checked}
use Rattle.c_form_stmts.specs.Lines.{LineTree, line, lines_of}
use Rattle.c_form_laws.specs.Places.{Has}
use Rattle.c_form_laws.specs.StatementRules.{MayKeep, MayCall, MayReturn, KeepsStatement}
use Rattle.c_form_laws.proofs.StatementLaws.{passed-decides}
use Rattle.c_step_exprs.specs.declared.instrs.Instr.{Instr}
use Rattle.c_step_exprs.specs.Resolving.{function_number, value_code, place_code, args_code}
use Rattle.c_step_text.specs.declared.text.StmtInstr.{StmtInstr}
use Rattle.c_step_text.specs.declared.text.StmtInstr.TheVariants.{Back, Stuck}
use Rattle.c_step_text.specs.Flat.{FlatText, code_in}
use Rattle.c_step_text.specs.Layout.{Names, go, past, past_both, second}
use Rattle.c_step_text.specs.Emitted.{StandAt, span_of, cases_of, arms_of, target_exprs, target_span, zero_exprs, zero_instr, own_exprs, own_instr, call_exprs, call_instr, jump_instr, return_exprs, return_instr, exprs_of, statements_of}
use Rattle.c_step_cells.specs.Chains.{cells_at, code_cells, optional_cells, stmt_cells, body_cells}
use Rattle.c_step_laws.specs.Callees.{expr_callees, arg_callees, optional_callees, called_name, code_callees}
use Rattle.c_step_laws.proofs.Lists.{greatest, greatest_append, at_left, at_right, at_range}
use Rattle.c_form_laws.proofs.NameLaws.{Is, AllTyped, passed_typed}
use Rattle.c_step_laws.proofs.ExprCells.{numbered, value_cells, place_cells, args_cells}

pub has_left : {A : Type 0} (xs ys : List A) (x : A) → Has xs x → Has (xs ++ ys) x
has_left [] ys x h = absurd (let e = h.1 in cc e)
has_left (z ∷ xs) ys x (zero, e) = (0, e)
has_left (z ∷ xs) ys x (suc i, e) = let k = has_left xs ys x (i, e) in (suc k.0, k.1)

pub has_right : {A : Type 0} (xs ys : List A) (x : A) → Has ys x → Has (xs ++ ys) x
has_right [] ys x h = h
has_right (z ∷ xs) ys x h = let k = has_right xs ys x h in (suc k.0, k.1)

has_more : {A : Type 0} (z : A) (xs : List A) (x : A) → Has xs x → Has (z ∷ xs) x
has_more z xs x h = (suc h.0, h.1)

module _ (t : FlatText) (table : List ℕ) where
  abbrev in_body : List StmtInstr → ℕ
  in_body xs = body_cells t table xs

  pub body_append : (xs ys : List StmtInstr) → in_body (xs ++ ys) ≡ max (in_body xs) (in_body ys)
  body_append [] ys = omega arith
  body_append (x ∷ xs) ys = omega (arith, body_append xs ys)

  pub span_is : (e : ℕ) (code : List Instr) → StandAt t.exprs e code → code_cells table (code_in t (span_of e code)) ≡ code_cells table code
  span_is e code h = ap (code_cells table) (at_range t.exprs e code h)

-- What a lower scope's types are in the scope of the program.
pub record Rises (low high : CScope) : Type 0 where
  pub types : (e : ExprTree) (type : ExprType) → type_of low e ≡ Some type → type_of high e ≡ Some type
  pub lvalues : (e : ExprTree) (held : Held) → held_of low e ≡ Some held → held_of high e ≡ Some held
  pub arguments : (given : Args) → AllTyped (arg_types low given) → AllTyped (arg_types high given)

-- The numbers of functions have the cells that their names have.
pub record AreNumbered (table : List ℕ) (of : List ℕ → ℕ) (names : Names) (low : CScope) : Type 0 where
  pub in_expressions : (name : List ℕ) → numbered table (function_number names.scope.functions name) ≡ of name
  pub in_statements : (name : List ℕ) → numbered table (function_number names.callable name) ≡ of name
  pub known : (name : List ℕ) (g : Function) → function_named low.functions name ≡ Some g → Is (function_number names.callable name)

module _ (t : FlatText) (table : List ℕ) (of : List ℕ → ℕ) (names : Names) (c : Checked) (same_result : c.result_type ≡ names.result_type) (rises : Rises c.scope names.scope) (are : AreNumbered table of names c.scope) where
  abbrev Exprs : ℕ → List Instr → Type 0
  Exprs n xs = StandAt t.exprs n xs

  abbrev tree : List (List ℕ) → ℕ
  tree xs = greatest of xs

  abbrev coded : List Instr → ℕ
  coded xs = code_cells table xs

  value_is : (e : ExprTree) (type : ExprType) → type_of c.scope e ≡ Some type → coded (value_code names.scope e) ≡ tree (expr_callees e)
  value_is e type h = value_cells table names.scope of are.in_expressions e type (rises.types e type h)

  place_is : (e : ExprTree) (held : Held) → held_of c.scope e ≡ Some held → coded (place_code names.scope e) ≡ tree (expr_callees e)
  place_is e held h = place_cells table names.scope of are.in_expressions e held (rises.lvalues e held h)

  args_are : (given : Args) → AllTyped (arg_types c.scope given) → coded (args_code names.scope given) ≡ tree (arg_callees given)
  args_are given h = args_cells table names.scope of are.in_expressions given (rises.arguments given h)

  -- Calls.
  target_is : (e : ℕ) (target : Option ExprTree) (result : Option TypeTree) → MayKeep c.scope target result → Exprs e (target_exprs names target) → optional_cells t table (target_span names e target) ≡ tree (optional_callees target)
  target_is e None result h x = refl
  target_is e (Some target) None h x = absurd h
  target_is e (Some target) (Some result) h x = span_is t table e (place_code names.scope target) x ∙ place_is target _ h.1

  own_is : (e next : ℕ) (target : Option ExprTree) (name : List ℕ) (o : Option ℕ) (given : Args) → function_number names.callable name ≡ o → MayCall own c.scope target name given → Exprs e (own_exprs names target o given)
      → stmt_cells t table (own_instr names e next target o given) ≡ max (of name) (max (tree (optional_callees target)) (tree (arg_callees given)))
  own_is e next target name None given is h x = absurd (let k = are.known name h.0 h.1 in let e = k.1 in cc (is, e))
  own_is e next target name (Some k) given is h x =
      let typed = passed_typed h.0.params (arg_types c.scope given) ((passed-decides h.0.params (arg_types c.scope given)).1 h.2) in
      let a = target_is e target h.0.result_type h.3 (at_left t.exprs e (target_exprs names target) (args_code names.scope given) x) in
      let b = span_is t table (e + length (target_exprs names target)) (args_code names.scope given) (at_right t.exprs e (target_exprs names target) (args_code names.scope given) x) in
      let d = args_are given typed in
      let n : cells_at table k ≡ of name = sym (ap (numbered table) is) ∙ are.in_statements name in
      rw (a, b, d, n) refl

  abbrev parts : Callee → Option ExprTree → List ℕ → Args → ℕ
  parts k target name given = max (tree (called_name k name)) (max (tree (optional_callees target)) (tree (arg_callees given)))

  only : (n : ℕ) → n ≡ max 0 (max 0 n)
  only n = omega arith

  call_is : (k : Callee) (e next : ℕ) (target : Option ExprTree) (name : List ℕ) (given : Args) → MayCall k c.scope target name given → Exprs e (call_exprs k names target name given)
      → stmt_cells t table (call_instr k names e next target name given) ≡ parts k target name given
  call_is memory_move e next target name given h x =
      let is = h.1.3 in
      let typed = subst AllTyped (sym is) ((_, refl), ((_, refl), ((_, refl), tt))) in
      let none = ap (λ (o : Option ExprTree). tree (optional_callees o)) h.0 in
      span_is t table e (args_code names.scope given) x ∙ (args_are given typed ∙ (only (tree (arg_callees given)) ∙ ap (λ (n : ℕ). max 0 (max n (tree (arg_callees given)))) (sym none)))
  call_is memory_set e next target name given h x =
      let none = ap (λ (o : Option ExprTree). tree (optional_callees o)) h.0 in
      by given h.1.2 x ∙ ap (λ (n : ℕ). max 0 (max n (tree (arg_callees given)))) (sym none)
    where
      by : (given : Args) → given ≡ expr_arg (variable h.1.0) (expr_arg (number (literal.Int 0)) (sizeof_arg h.1.0 no_arg)) → Exprs e (zero_exprs names given) → stmt_cells t table (zero_instr names e next given) ≡ max 0 (max 0 (tree (arg_callees given)))
      by given is x = subst (λ (g : Args). Exprs e (zero_exprs names g) → stmt_cells t table (zero_instr names e next g) ≡ max 0 (max 0 (tree (arg_callees g)))) (sym is)
          (λ y. span_is t table e (value_code names.scope (variable h.1.0)) y ∙ value_is (variable h.1.0) _ h.1.3) x
  call_is own e next target name given h x =
      let a = own_is e next target name (function_number names.callable name) given refl h x in
      omega (arith, a)

  -- `return`.
  return_is : (e : ℕ) (type : Option TypeTree) (v : Option ExprTree) → MayReturn c.scope v type → Exprs e (return_exprs names type v) → stmt_cells t table (return_instr names e type v) ≡ tree (optional_callees v)
  return_is e type None h x = refl
  return_is e None (Some v) h x = absurd h
  return_is e (Some type) (Some v) h x = span_is t table e (value_code names.scope v) x ∙ value_is v h.0 h.1

  jump_is : (o : Option ℕ) → stmt_cells t table (jump_instr o) ≡ 0
  jump_is None = refl
  jump_is (Some n) = refl

  abbrev Kept : List LineTree → Type 0
  Kept ls = (l : LineTree) → Has ls l → (all : List LineTree) × (i : ℕ) × KeepsStatement c all i l.switched l.code

  first_kept : (l : LineTree) (ls : List LineTree) → Kept (l ∷ ls) → (all : List LineTree) × (i : ℕ) × KeepsStatement c all i l.switched l.code
  first_kept l ls h = h l (0, refl)

  rest_kept : (l : LineTree) (ls : List LineTree) → Kept (l ∷ ls) → Kept ls
  rest_kept l ls h = λ m has. h m (has_more l ls m has)

  left_kept : (xs ys : List LineTree) → Kept (xs ++ ys) → Kept xs
  left_kept xs ys h = λ m has. h m (has_left xs ys m has)

  right_kept : (xs ys : List LineTree) → Kept (xs ++ ys) → Kept ys
  right_kept xs ys h = λ m has. h m (has_right xs ys m has)

  pub code_is : (s : Bool) (i next e m : ℕ) (code : Code) → Kept (lines_of true s code) → Exprs e (exprs_of names code) → body_cells t table (statements_of names i next e m code) ≡ tree (code_callees code)
  code_is s i next e m finish h x = refl
  code_is s i next e m (nested inner rest) h x =
      let f = go (past i inner) next rest in
      let xs = statements_of names (i + 1) f e m inner in
      let ys = statements_of names (past i inner) next (e + length (exprs_of names inner)) (m + length (arms_of (i + 1) inner)) rest in
      let k = rest_kept (line s (nested inner rest)) (lines_of true s inner ++ lines_of true s rest) h in
      let a = code_is s (i + 1) f e m inner (left_kept (lines_of true s inner) (lines_of true s rest) k) (at_left t.exprs e (exprs_of names inner) (exprs_of names rest) x) in
      let b = code_is s (past i inner) next (e + length (exprs_of names inner)) (m + length (arms_of (i + 1) inner)) rest (right_kept (lines_of true s inner) (lines_of true s rest) k) (at_right t.exprs e (exprs_of names inner) (exprs_of names rest) x) in
      omega (arith, a, b, body_append t table xs (Stuck ∷ ys), greatest_append of (code_callees inner) (code_callees rest))
  code_is s i next e m (empty rest) h x =
      let a = code_is s (i + 1) next e m rest (rest_kept _ _ h) x in
      omega (arith, a)
  code_is s i next e m (assign target v rest) h x =
      let p = place_code names.scope target in
      let w = value_code names.scope v in
      let y = at_right t.exprs e p (w ++ exprs_of names rest) x in
      let k = (first_kept _ _ h).2 in
      let a = code_is s (i + 1) next (e + length p + length w) m rest (rest_kept _ _ h) (at_right t.exprs (e + length p) w (exprs_of names rest) y) in
      omega (
        arith,
        a,
        span_is t table e p (at_left t.exprs e p (w ++ exprs_of names rest) x),
        place_is target _ k.1,
        span_is t table (e + length p) w (at_left t.exprs (e + length p) w (exprs_of names rest) y),
        value_is v k.2.0 k.2.1,
        greatest_append of (expr_callees target) (expr_callees v ++ code_callees rest),
        greatest_append of (expr_callees v) (code_callees rest),
      )
  code_is s i next e m (call target function given rest) h x =
      let p = call_exprs (callee_of function) names target function given in
      let k = (first_kept _ _ h).2 in
      let a = code_is s (i + 1) next (e + length p) m rest (rest_kept _ _ h) (at_right t.exprs e p (exprs_of names rest) x) in
      let b = call_is (callee_of function) e (go (i + 1) next rest) target function given k (at_left t.exprs e p (exprs_of names rest) x) in
      omega (arith, a, b, greatest_append of (called_name (callee_of function) function) (optional_callees target ++ (arg_callees given ++ code_callees rest)), greatest_append of (optional_callees target) (arg_callees given ++ code_callees rest), greatest_append of (arg_callees given) (code_callees rest))
  code_is s i next e m (jump label rest) h x =
      let a = code_is s (i + 1) next e m rest (rest_kept _ _ h) x in
      omega (arith, a, jump_is (names.labels label))
  code_is s i next e m (branch test body otherwise other rest) h x =
      let ls = lines_of true s body ++ (lines_of true s other ++ lines_of true s rest) in
      let f = go (past_both i body other) next rest in
      let v = value_code names.scope test in
      let b = exprs_of names body in
      let o = exprs_of names other in
      let r = exprs_of names rest in
      let e1 = e + length v in
      let e2 = e1 + length b in
      let e3 = e2 + length o in
      let ab = arms_of (i + 1) body in
      let ao = arms_of (second i body) other in
      let xs = statements_of names (i + 1) f e1 m body in
      let ys = statements_of names (second i body) f e2 (m + length ab) other in
      let zs = statements_of names (past_both i body other) next e3 (m + length ab + length ao) rest in
      let x1 = at_right t.exprs e v (b ++ (o ++ r)) x in
      let x2 = at_right t.exprs e1 b (o ++ r) x1 in
      let k = (first_kept (line s (branch test body otherwise other rest)) ls h).2 in
      let l = rest_kept (line s (branch test body otherwise other rest)) ls h in
      let lo = right_kept (lines_of true s body) (lines_of true s other ++ lines_of true s rest) l in
      let ca = code_is s (i + 1) f e1 m body (left_kept (lines_of true s body) (lines_of true s other ++ lines_of true s rest) l) (at_left t.exprs e1 b (o ++ r) x1) in
      let cb = code_is s (second i body) f e2 (m + length ab) other (left_kept (lines_of true s other) (lines_of true s rest) lo) (at_left t.exprs e2 o r x2) in
      let cd = code_is s (past_both i body other) next e3 (m + length ab + length ao) rest (right_kept (lines_of true s other) (lines_of true s rest) lo) (at_right t.exprs e2 o r x2) in
      omega (
        arith,
        ca,
        cb,
        cd,
        span_is t table e v (at_left t.exprs e v (b ++ (o ++ r)) x),
        value_is test k.0 k.1,
        body_append t table xs (ys ++ Stuck ∷ zs),
        body_append t table ys (Stuck ∷ zs),
        greatest_append of (expr_callees test) (code_callees body ++ (code_callees other ++ code_callees rest)),
        greatest_append of (code_callees body) (code_callees other ++ code_callees rest),
        greatest_append of (code_callees other) (code_callees rest),
      )
  code_is s i next e m (repeat test body rest) h x =
      let f = go (past i body) next rest in
      let v = value_code names.scope test in
      let b = exprs_of names body in
      let r = exprs_of names rest in
      let e1 = e + length v in
      let ab = arms_of (i + 1) body in
      let xs = statements_of names (i + 1) (second i body) e1 m body in
      let zs = statements_of names (past i body) next (e1 + length b) (m + length ab) rest in
      let back = Back (span_of e v) (go (i + 1) (second i body) body) f in
      let x1 = at_right t.exprs e v (b ++ r) x in
      let k = (first_kept _ _ h).2.1 in
      let l = rest_kept _ _ h in
      let ca = code_is s (i + 1) (second i body) e1 m body (left_kept (lines_of true s body) (lines_of true s rest) l) (at_left t.exprs e1 b r x1) in
      let cd = code_is s (past i body) next (e1 + length b) (m + length ab) rest (right_kept (lines_of true s body) (lines_of true s rest) l) (at_right t.exprs e1 b r x1) in
      omega (
        arith,
        ca,
        cd,
        span_is t table e v (at_left t.exprs e v (b ++ r) x),
        value_is test k.0 k.1,
        body_append t table xs (back ∷ zs),
        greatest_append of (expr_callees test) (code_callees body ++ code_callees rest),
        greatest_append of (code_callees body) (code_callees rest),
      )
  code_is s i next e m (select on body rest) h x =
      let f = go (past i body) next rest in
      let v = value_code names.scope on in
      let b = exprs_of names body in
      let r = exprs_of names rest in
      let e1 = e + length v in
      let cs = cases_of (i + 1) body in
      let ab = arms_of (i + 1) body in
      let xs = statements_of names (i + 1) f e1 (m + length cs) body in
      let zs = statements_of names (past i body) next (e1 + length b) (m + length cs + length ab) rest in
      let x1 = at_right t.exprs e v (b ++ r) x in
      let k = (first_kept _ _ h).2.0 in
      let l = rest_kept _ _ h in
      let ca = code_is true (i + 1) f e1 (m + length cs) body (left_kept (lines_of true true body) (lines_of true s rest) l) (at_left t.exprs e1 b r x1) in
      let cd = code_is s (past i body) next (e1 + length b) (m + length cs + length ab) rest (right_kept (lines_of true true body) (lines_of true s rest) l) (at_right t.exprs e1 b r x1) in
      omega (
        arith,
        ca,
        cd,
        span_is t table e v (at_left t.exprs e v (b ++ r) x),
        value_is on k.0 k.1,
        body_append t table xs (Stuck ∷ zs),
        greatest_append of (expr_callees on) (code_callees body ++ code_callees rest),
        greatest_append of (code_callees body) (code_callees rest),
      )
  code_is s i next e m (leave v rest) h x =
      let p = return_exprs names names.result_type v in
      let k = subst (λ (o : Option TypeTree). MayReturn c.scope v o) same_result (first_kept _ _ h).2 in
      let a = code_is s (i + 1) next (e + length p) m rest (rest_kept _ _ h) (at_right t.exprs e p (exprs_of names rest) x) in
      let b = return_is e names.result_type v k (at_left t.exprs e p (exprs_of names rest) x) in
      omega (arith, a, b, greatest_append of (optional_callees v) (code_callees rest))
  code_is s i next e m (case_label n rest) h x =
      let a = code_is s (i + 1) next e m rest (rest_kept _ _ h) x in
      omega (arith, a)
  code_is s i next e m (default_label rest) h x =
      let a = code_is s (i + 1) next e m rest (rest_kept _ _ h) x in
      omega (arith, a)
  code_is s i next e m (name_label name rest) h x =
      let a = code_is s (i + 1) next e m rest (rest_kept _ _ h) x in
      omega (arith, a)
