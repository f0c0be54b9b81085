-- A run of a call has at no time more cells than its function has with those of what it calls.
use Rattle.std.proofs.Common.{◌≡◌, ◌≤◌, ◌⊎◌, inl, inr, ℕ, zero, suc, ◌+◌, Bool, true, false, List, [], ◌∷◌, ◌++◌, length, max, take, drop, Option, Some, None, refl, sym, ap, ◌∙◌, subst, arith}
use Rattle.std.specs.Prelude.{if◌then◌else◌, slice_get, bytes_eq, option_and_then}
use Rattle.std.proofs.lemmas.List.{append_assoc}
use Rattle.turns.specs.Run.{Next, Go, Turn, End, Out, Fail}
use Rattle.c_text.specs.CTree.{ExprTree, number, variable, member, element, pointed, operation, unary, cast, choice, called, Operands, no_operand, operand, Args, no_arg, expr_arg, sizeof_arg, Code, finish, nested, empty, assign, call, jump, branch, repeat, select, leave, case_label, default_label, name_label, LocalTree}
use Rattle.c_meaning.specs.declared.values.CValue.{CValue}
use Rattle.c_meaning.specs.CMemory.{Memory}
use Rattle.c_meaning.specs.CTypes.{Function, returned}
use Rattle.c_meaning.specs.CExprs.{Surroundings}
use Rattle.c_meaning.specs.CStep.{Continuation, stop, behind, again, Running, State, state, surroundings, Callee, callee_of, step}
use Rattle.c_meaning.specs.CCall.{Program, program_of, expression_call, initialized, running, call_of}
use Rattle.c_meaning.specs.Typed.{IsTyped, shape_of, StaysTyped}
use Rattle.c_meaning.proofs.KeptSteps.{LeftBy, OutBy, call_by}
use Rattle.c_meaning.proofs.TypedLaws.{typed_kept}
use Rattle.c_step_exprs.specs.Resolving.{function_number}
use Rattle.c_step_run.specs.Coding.{CodeView}
use Rattle.c_step_program.specs.Programs.{code_of}
use Rattle.c_step_program.proofs.Coded.{one_return}
use Rattle.c_step_cells.specs.Chains.{cells_at, called_cells}
use Rattle.c_step_laws.specs.Callees.{IsIn, placed, last_named, expr_callees, operand_callees, arg_callees, optional_callees, called_name, code_callees, local_callees, callees}
use Rattle.c_step_laws.specs.Passing.{CallTree, calls_in, operand_calls, arg_calls, ValuePasses, OptionalPasses, OneOrOther, inline_surroundings, InlinePasses, ExpressionPasses, arg_exprs, optional_expr, exprs_at, CallsNow, KeepsNow, StatementPasses, here, expression, callee, target, Moment, next_moment, after_steps, InitialsPass, BodyPasses, begins, goes, FunctionPasses, CallPasses, object_cells, CellsAreEnough}
use Rattle.c_step_laws.proofs.Lists.{greatest, greatest_append}
use Rattle.c_step_laws.proofs.ExprCells.{numbered}
use Rattle.c_step_laws.proofs.ChainLaws.{table, deep, of_name, get_front, found, found_cells, host_most, by_tree}
use Rattle.c_step_laws.proofs.StepKeeps.{TypedBy, calls_from, after_call, NextGood, step_good, initialized_by}
use Rattle.c_step_laws.proofs.Sizes.{Over, over_here, over_same, over_more, over_object, over_size, passed_cells, frame_cells}

-- What is in one of two lists.
in_both : {A : Type 0} (xs ys : List A) (x : A) → IsIn x (xs ++ ys) → IsIn x xs ⊎ IsIn x ys
in_both [] ys x h = inr h
in_both (z ∷ xs) ys x (inl e) = inl (inl e)
in_both (z ∷ xs) ys x (inr h) = by (in_both xs ys x h)
  where
    by : IsIn x xs ⊎ IsIn x ys → IsIn x (z ∷ xs) ⊎ IsIn x ys
    by (inl k) = inl (inr k)
    by (inr k) = inr k

-- A call in an expression calls one of the expression's names.
module _ (of : List ℕ → ℕ) where
  abbrev tree : List (List ℕ) → ℕ
  tree xs = greatest of xs

  abbrev AtMost : List CallTree → ℕ → Type 0
  AtMost calls most = (it : CallTree) → IsIn it calls → of it.function ≤ most

  both_most : (xs ys : List CallTree) (a b most : ℕ) → AtMost xs a → AtMost ys b → max a b ≤ most → AtMost (xs ++ ys) most
  both_most xs ys a b most h k m it i = by (in_both xs ys it i)
    where
      by : IsIn it xs ⊎ IsIn it ys → of it.function ≤ most
      by (inl j) = omega (arith, h it j, m)
      by (inr j) = omega (arith, k it j, m)

  mutual
    pub calls_most : (e : ExprTree) → AtMost (calls_in e) (tree (expr_callees e))
    calls_most (number n) it h = absurd h
    calls_most (variable name) it h = absurd h
    calls_most (member pointer field) it h = calls_most pointer it h
    calls_most (element pointer index) it h = both_most (calls_in pointer) (calls_in index) _ _ _ (calls_most pointer) (calls_most index) (omega (arith, greatest_append of (expr_callees pointer) (expr_callees index))) it h
    calls_most (pointed pointer) it h = calls_most pointer it h
    calls_most (operation op first second others) it h =
        both_most (calls_in first) (calls_in second ++ operand_calls others) _ _ _ (calls_most first)
        (both_most (calls_in second) (operand_calls others) _ _ (max (tree (expr_callees second)) (tree (operand_callees others))) (calls_most second) (operands_most others) (omega arith))
        (omega (arith, greatest_append of (expr_callees first) (expr_callees second ++ operand_callees others), greatest_append of (expr_callees second) (operand_callees others))) it h
    calls_most (unary op x) it h = calls_most x it h
    calls_most (cast to x) it h = calls_most x it h
    calls_most (choice test met unmet) it h =
        both_most (calls_in test) (calls_in met ++ calls_in unmet) _ _ _ (calls_most test)
        (both_most (calls_in met) (calls_in unmet) _ _ (max (tree (expr_callees met)) (tree (expr_callees unmet))) (calls_most met) (calls_most unmet) (omega arith))
        (omega (arith, greatest_append of (expr_callees test) (expr_callees met ++ expr_callees unmet), greatest_append of (expr_callees met) (expr_callees unmet))) it h
    calls_most (called function given) it (inl e) = let s = ap (λ (c : CallTree). of c.function) e in omega (arith, s)
    calls_most (called function given) it (inr h) = omega (arith, args_most given it h)

    operands_most : (others : Operands) → AtMost (operand_calls others) (tree (operand_callees others))
    operands_most no_operand it h = absurd h
    operands_most (operand e others) it h = both_most (calls_in e) (operand_calls others) _ _ _ (calls_most e) (operands_most others) (omega (arith, greatest_append of (expr_callees e) (operand_callees others))) it h

    args_most : (given : Args) → AtMost (arg_calls given) (tree (arg_callees given))
    args_most no_arg it h = absurd h
    args_most (expr_arg e others) it h = both_most (calls_in e) (arg_calls others) _ _ _ (calls_most e) (args_most others) (omega (arith, greatest_append of (expr_callees e) (arg_callees others))) it h
    args_most (sizeof_arg name others) it h = args_most others it h

  -- The expressions of a statement call names that are called from there.
  arg_most : (given : Args) (e : ExprTree) → IsIn e (arg_exprs given) → tree (expr_callees e) ≤ tree (arg_callees given)
  arg_most no_arg e h = absurd h
  arg_most (expr_arg x others) e (inl s) = let n = ap (λ (y : ExprTree). tree (expr_callees y)) s in omega (arith, n, greatest_append of (expr_callees x) (arg_callees others))
  arg_most (expr_arg x others) e (inr h) = omega (arith, arg_most others e h, greatest_append of (expr_callees x) (arg_callees others))
  arg_most (sizeof_arg name others) e h = arg_most others e h

  optional_most : (o : Option ExprTree) (e : ExprTree) → IsIn e (optional_expr o) → tree (expr_callees e) ≤ tree (optional_callees o)
  optional_most None e h = absurd h
  optional_most (Some x) e (inl s) = let n = ap (λ (y : ExprTree). tree (expr_callees y)) s in omega (arith, n)
  optional_most (Some x) e (inr h) = absurd h

  one_most : (x e : ExprTree) → IsIn e (x ∷ []) → tree (expr_callees e) ≤ tree (expr_callees x)
  one_most x e (inl s) = let n = ap (λ (y : ExprTree). tree (expr_callees y)) s in omega (arith, n)
  one_most x e (inr h) = absurd h

  pub exprs_most : (c : Code) (k : Continuation) (e : ExprTree) → IsIn e (exprs_at c k) → tree (expr_callees e) ≤ calls_from of c k
  exprs_most finish stop e h = absurd h
  exprs_most finish (behind over rest k) e h = absurd h
  exprs_most finish (again test body k) e h = omega (arith, one_most test e h)
  exprs_most (nested inner rest) k e h = absurd h
  exprs_most (empty rest) k e h = absurd h
  exprs_most (assign to v rest) k e (inl s) =
      let n = ap (λ (y : ExprTree). tree (expr_callees y)) s in
      omega (arith, n, greatest_append of (expr_callees to) (expr_callees v ++ code_callees rest))
  exprs_most (assign to v rest) k e (inr h) =
      omega (arith, one_most v e h, greatest_append of (expr_callees to) (expr_callees v ++ code_callees rest), greatest_append of (expr_callees v) (code_callees rest))
  exprs_most (call to function given rest) k e h = by (in_both (optional_expr to) (arg_exprs given) e h)
    where
      by : IsIn e (optional_expr to) ⊎ IsIn e (arg_exprs given) → tree (expr_callees e) ≤ calls_from of (call to function given rest) k
      by (inl i) = omega (arith, optional_most to e i, after_call of to function given rest)
      by (inr i) = omega (arith, arg_most given e i, after_call of to function given rest)
  exprs_most (jump label rest) k e h = absurd h
  exprs_most (branch test body otherwise other rest) k e h = omega (arith, one_most test e h, greatest_append of (expr_callees test) (code_callees body ++ (code_callees other ++ code_callees rest)))
  exprs_most (repeat test body rest) k e h = omega (arith, one_most test e h, greatest_append of (expr_callees test) (code_callees body ++ code_callees rest))
  exprs_most (select on body rest) k e h = omega (arith, one_most on e h, greatest_append of (expr_callees on) (code_callees body ++ code_callees rest))
  exprs_most (leave v rest) k e h = omega (arith, optional_most v e h, greatest_append of (optional_callees v) (code_callees rest))
  exprs_most (case_label n rest) k e h = absurd h
  exprs_most (default_label rest) k e h = absurd h
  exprs_most (name_label name rest) k e h = absurd h

  rest_locals : (n : ℕ) (ls : List LocalTree) → tree (local_callees (drop n ls)) ≤ tree (local_callees ls)
  rest_locals zero ls = omega arith
  rest_locals (suc n) [] = omega arith
  rest_locals (suc n) (l ∷ ls) = omega (arith, rest_locals n ls, greatest_append of (optional_callees l.initial) (local_callees ls))

module _ (c : CodeView) (p : Program) (calls_tree : (after : List Function) (f : Function) (fs : List Function) → p.functions ≡ after ++ f ∷ fs → called_cells c (table c fs) (length (table c fs)) ≡ greatest (of_name c fs) (callees f)) where
  abbrev called_in : List Function → List ℕ → ℕ
  called_in fs name = of_name c fs name

  -- A function more changes nothing for those before it.
  more_cells : (xs ys : List ℕ) (o : Option ℕ) → numbered xs o ≤ numbered (xs ++ ys) o
  more_cells xs ys None = omega arith
  more_cells xs ys (Some k) = by (slice_get xs k) refl
    where
      by : (o : Option ℕ) → slice_get xs k ≡ o → cells_at xs k ≤ cells_at (xs ++ ys) k
      by None e = let z : cells_at xs k ≡ 0 = rw e refl in omega (arith, z)
      by (Some x) e =
          let a : cells_at xs k ≡ x = rw e refl in
          let f = get_front c xs ys k x e in
          let b : cells_at (xs ++ ys) k ≡ x = rw f refl in
          omega (arith, a, b)

  later_name : (f : Function) (fs : List Function) (name : List ℕ) → bytes_eq f.name name ≡ false → called_in fs name ≤ called_in (f ∷ fs) name
  later_name f fs name h =
      let n : function_number (f ∷ fs) name ≡ function_number fs name = ap (λ (b : Bool). if b then Some (length fs) else function_number fs name) h in
      subst (λ (o : Option ℕ). called_in fs name ≤ numbered (table c (f ∷ fs)) o) (sym n) (more_cells (table c fs) _ (function_number fs name))

  this_name : (f : Function) (fs : List Function) (name : List ℕ) → bytes_eq f.name name ≡ true → called_in (f ∷ fs) name ≡ deep c (placed f fs)
  this_name f fs name h = found_cells c (f ∷ fs) name (placed f fs) (ap (λ (b : Bool). if b then Some (placed f fs) else last_named fs name) h)

  -- Expressions.
  abbrev ExprBound : List Function → Type 0
  ExprBound fs = (name : List ℕ) (memory : Memory) (given : List CValue) (now : Memory) → ExpressionPasses p fs name memory given now → Over memory now (called_in fs name)

  value_over : (fs : List Function) → ExprBound fs → (s : Surroundings) (e : ExprTree) (now : Memory) → ValuePasses s (ExpressionPasses p fs) e now → Over s.memory now (greatest (called_in fs) (expr_callees e))
  value_over fs bound s e now h = over_more s.memory now (called_in fs h.it.function) (greatest (called_in fs) (expr_callees e)) (calls_most (called_in fs) e h.it h.stands) (bound h.it.function s.memory h.values now h.there)

  optional_over : (fs : List Function) → ExprBound fs → (s : Surroundings) (o : Option ExprTree) (now : Memory) → OptionalPasses s (ExpressionPasses p fs) o now → Over s.memory now (greatest (called_in fs) (optional_callees o))
  optional_over fs bound s None now h = absurd h
  optional_over fs bound s (Some e) now h = value_over fs bound s e now h

  returned_most : (fs : List Function) (f : Function) → greatest (called_in fs) (optional_callees (returned f.body)) ≤ greatest (called_in fs) (callees f)
  returned_most fs f = by (returned f.body) refl
    where
      by : (o : Option ExprTree) → returned f.body ≡ o → greatest (called_in fs) (optional_callees o) ≤ greatest (called_in fs) (callees f)
      by None e = omega arith
      by (Some x) e =
          let s = ap (λ (code : Code). greatest (called_in fs) (code_callees code)) (one_return f.body x e) in
          omega (arith, s, greatest_append (called_in fs) (expr_callees x) [], greatest_append (called_in fs) (code_callees f.body) (local_callees f.locals))

  inline_over : (after : List Function) (f : Function) (fs : List Function) → p.functions ≡ after ++ f ∷ fs → ExprBound fs → (memory : Memory) (given : List CValue) (now : Memory) → InlinePasses p f (expression_call p fs) (ExpressionPasses p fs) memory given now → Over memory now (deep c (placed f fs))
  inline_over after f fs is bound memory given now h = by h.there
    where
      size : object_cells h.object ≡ length f.params
      size = passed_cells f.params given h.object h.is

      whole : (n : ℕ) → n ≤ greatest (called_in fs) (callees f) → object_cells h.object + n ≤ deep c (placed f fs)
      whole n less = omega (arith, less, size, calls_tree after f fs is)

      by : (now ≡ memory ++ h.object ∷ []) ⊎ OptionalPasses (inline_surroundings p f (expression_call p fs) (length memory) (memory ++ h.object ∷ [])) (ExpressionPasses p fs) (returned f.body) now → Over memory now (deep c (placed f fs))
      by (inl e) =
          over_more memory now (object_cells h.object + 0) (deep c (placed f fs)) (whole 0 (omega arith))
          (over_object memory now h.object 0 (over_here (memory ++ h.object ∷ []) now 0 (ap shape_of e)))
      by (inr k) =
          over_more memory now (object_cells h.object + greatest (called_in fs) (optional_callees (returned f.body))) (deep c (placed f fs)) (whole _ (returned_most fs f))
          (over_object memory now h.object (greatest (called_in fs) (optional_callees (returned f.body))) (optional_over fs bound _ (returned f.body) now k))

  next_stands : (after : List Function) (f : Function) (fs : List Function) → p.functions ≡ after ++ f ∷ fs → p.functions ≡ (after ++ f ∷ []) ++ fs
  next_stands after f fs is = is ∙ sym (append_assoc after (f ∷ []) fs)

  pub expr_bound : (after fs : List Function) → p.functions ≡ after ++ fs → ExprBound fs
  expr_bound after [] is name memory given now h = absurd h
  expr_bound after (f ∷ fs) is name memory given now h = by (bytes_eq f.name name) refl h (expr_bound (after ++ f ∷ []) fs (next_stands after f fs is))
    where
      by : (b : Bool) → bytes_eq f.name name ≡ b → OneOrOther b (InlinePasses p f (expression_call p fs) (ExpressionPasses p fs) memory given now) (ExpressionPasses p fs name memory given now) → ExprBound fs → Over memory now (called_in (f ∷ fs) name)
      by true e h bound = subst (λ (n : ℕ). Over memory now n) (sym (this_name f fs name e)) (inline_over after f fs is bound memory given now h)
      by false e h bound = over_more memory now (called_in fs name) (called_in (f ∷ fs) name) (later_name f fs name e) (bound name memory given now h)

  -- Statements.
  abbrev CallBound : List Function → Type 0
  CallBound fs = (name : List ℕ) (n : ℕ) (given : List CValue) (memory now : Memory) → IsTyped memory → CallPasses p fs name n given memory now → Over memory now (called_in fs name)

  module _ (f : Function) (fs : List Function) (frame : ℕ) (exprs : ExprBound fs) (calls : CallBound fs) where
    abbrev r : Running
    r = running p f (expression_call p fs) (call_of p fs) frame

    abbrev most : ℕ
    most = greatest (called_in fs) (callees f)

    body_most : greatest (called_in fs) (code_callees f.body) ≤ most
    body_most = omega (arith, greatest_append (called_in fs) (code_callees f.body) (local_callees f.locals))

    typed : (name : List ℕ) → TypedBy (r.callee name)
    typed name = call_by IsTyped StaysTyped typed_kept p fs name

    abbrev IsGood : Memory → State → Type 0
    IsGood before s = StaysTyped before s.memory × (calls_from (called_in fs) s.place.code s.place.continuation ≤ most)

    steps_good : (before : Memory) (k : ℕ) (m now : Moment) → IsGood before m.state → after_steps r k m ≡ Some now → IsGood before now.state
    steps_good before zero m now good e = let is : m ≡ now = cc e in subst (λ (x : Moment). IsGood before x.state) is good
    steps_good before (suc k) m now good e = by (step r m.turns m.state) (step_good (called_in fs) r typed most body_most m.state.memory good.0.typed m.turns m.state.place.code m.state.place.continuation good.1) e (λ x h. steps_good before k x now h)
      where
        on : (t : State) → IsGood m.state.memory t → IsGood before t
        on t h = (typed_kept.chain before m.state.memory t.memory good.0 h.0, h.1)

        by : (next : Next State _) → NextGood (called_in fs) r typed most body_most m.state.memory next → option_and_then (after_steps r k) (next_moment m.turns next) ≡ Some now
            → ((x : Moment) → IsGood before x.state → after_steps r k x ≡ Some now → IsGood before now.state) → IsGood before now.state
        by (Go t) h e more = more (record { turns = m.turns; state = t }) (on t h) e
        by (Turn left t) h e more = more (record { turns = left; state = t }) (on t h) e
        by (End left done) h e more = absurd (cc e)
        by Out h e more = absurd (cc e)
        by Fail h e more = absurd (cc e)

    -- A statement of the body.
    called_most : (code : Code) (k : Continuation) (memory : Memory) (it : CallsNow r code memory) → called_in fs it.function ≤ calls_from (called_in fs) code k
    called_most code k memory it =
        let n : greatest (called_in fs) (called_name (callee_of it.function) it.function) ≡ greatest (called_in fs) (it.function ∷ []) = ap (λ (x : Callee). greatest (called_in fs) (called_name x it.function)) it.of_text in
        let a = after_call (called_in fs) it.target it.function it.given it.rest in
        let s = ap (λ (x : Code). greatest (called_in fs) (code_callees x)) it.is in
        omega (arith, n, a, s)

    target_most : (code : Code) (k : Continuation) (memory : Memory) (it : CallsNow r code memory) → greatest (called_in fs) (optional_callees it.target) ≤ calls_from (called_in fs) code k
    target_most code k memory it =
        let a = after_call (called_in fs) it.target it.function it.given it.rest in
        let s = ap (λ (x : Code). greatest (called_in fs) (code_callees x)) it.is in
        omega (arith, a, s)

    kept_shape : (turns : ℕ) (code : Code) (memory : Memory) → IsTyped memory → (it : KeepsNow r turns code memory) → shape_of it.done.memory ≡ shape_of memory
    kept_shape turns code memory ready it = (subst (OutBy StaysTyped memory) it.returns ((typed it.calls.function).by turns it.calls.values memory ready)).shape

    statement_over : (turns : ℕ) (s : State) (now : Memory) → IsTyped s.memory → calls_from (called_in fs) s.place.code s.place.continuation ≤ most
        → StatementPasses r (ExpressionPasses p fs) (CallPasses p fs) turns s now → Over s.memory now most
    statement_over turns s now ready w (here e) = over_here s.memory now most (ap shape_of e)
    statement_over turns s now ready w (expression e stands h) =
        over_more s.memory now (greatest (called_in fs) (expr_callees e)) most (let l = exprs_most (called_in fs) s.place.code s.place.continuation e stands in omega (arith, l, w))
        (value_over fs exprs (surroundings r s.memory) e now h)
    statement_over turns s now ready w (callee it h) =
        over_more s.memory now (called_in fs it.function) most (let l = called_most s.place.code s.place.continuation s.memory it in omega (arith, l, w))
        (calls it.function turns it.values s.memory now ready h)
    statement_over turns s now ready w (target it h) =
        over_same s.memory it.done.memory now most (kept_shape turns s.place.code s.memory ready it)
        (over_more it.done.memory now (greatest (called_in fs) (optional_callees it.calls.target)) most (let l = target_most s.place.code s.place.continuation s.memory it.calls in omega (arith, l, w))
        (optional_over fs exprs (surroundings r it.done.memory) it.calls.target now h))

    -- The initial values.
    initial_over : (ls : List LocalTree) (memory now : Memory) → greatest (called_in fs) (local_callees ls) ≤ most → InitialsPass r (ExpressionPasses p fs) ls memory now → Over memory now most
    initial_over [] memory now w e = over_here memory now most (ap shape_of e)
    initial_over (l ∷ ls) memory now w (inl e) = over_here memory now most (ap shape_of e)
    initial_over (l ∷ ls) memory now w (inr h) =
        over_more memory now (greatest (called_in fs) (optional_callees l.initial)) most (omega (arith, w, greatest_append (called_in fs) (optional_callees l.initial) (local_callees ls)))
        (optional_over fs exprs (surroundings r memory) l.initial now h)

    stays : (entered : Memory) → IsTyped entered → (ls : List LocalTree) (memory : Memory) → initialized r (length f.params) ls entered ≡ Some memory → StaysTyped entered memory
    stays entered ready ls memory e = subst (LeftBy StaysTyped entered) e (initialized_by r ls (length f.params) entered ready)

    body_over : (turns : ℕ) (entered now : Memory) → IsTyped entered → BodyPasses r f (ExpressionPasses p fs) (CallPasses p fs) turns entered now → Over entered now most
    body_over turns entered now ready (begins k memory e h) =
        let less = rest_locals (called_in fs) k f.locals in
        let all = greatest_append (called_in fs) (code_callees f.body) (local_callees f.locals) in
        over_same entered memory now most (stays entered ready (take k f.locals) memory e).shape (initial_over (drop k f.locals) memory now (omega (arith, less, all)) h)
    body_over turns entered now ready (goes memory steps m e at h) =
        let first = stays entered ready f.locals memory e in
        let good = steps_good entered steps (record { turns = turns; state = state f.body stop memory }) m (first, omega (arith, body_most)) at in
        over_same entered m.state.memory now most good.0.shape (statement_over m.turns m.state now good.0.typed good.1 h)

  function_over : (after : List Function) (f : Function) (fs : List Function) → p.functions ≡ after ++ f ∷ fs → ExprBound fs → CallBound fs → (n : ℕ) (given : List CValue) (memory now : Memory) → IsTyped memory
      → FunctionPasses p f (expression_call p fs) (call_of p fs) (ExpressionPasses p fs) (CallPasses p fs) n given memory now → Over memory now (deep c (placed f fs))
  function_over after f fs is exprs calls n given memory now ready h =
      let size = frame_cells f given h.object h.is in
      let all = calls_tree after f fs is in
      over_more memory now (object_cells h.object + greatest (called_in fs) (callees f)) (deep c (placed f fs)) (omega (arith, size, all))
      (over_object memory now h.object (greatest (called_in fs) (callees f)) (body_over f fs (length memory) exprs calls h.turns (memory ++ h.object ∷ []) now (typed_kept.enters memory ready f given h.object h.is) h.there))

  pub call_bound : (after fs : List Function) → p.functions ≡ after ++ fs → CallBound fs
  call_bound after [] is name n given memory now ready h = absurd h
  call_bound after (f ∷ fs) is name n given memory now ready h = by (bytes_eq f.name name) refl h (expr_bound (after ++ f ∷ []) fs (next_stands after f fs is)) (call_bound (after ++ f ∷ []) fs (next_stands after f fs is))
    where
      by : (b : Bool) → bytes_eq f.name name ≡ b → OneOrOther b (FunctionPasses p f (expression_call p fs) (call_of p fs) (ExpressionPasses p fs) (CallPasses p fs) n given memory now) (CallPasses p fs name n given memory now) → ExprBound fs → CallBound fs → Over memory now (called_in (f ∷ fs) name)
      by true e h exprs calls = subst (λ (n : ℕ). Over memory now n) (sym (this_name f fs name e)) (function_over after f fs is exprs calls n given memory now ready h)
      by false e h exprs calls = over_more memory now (called_in fs name) (called_in (f ∷ fs) name) (later_name f fs name e) (calls name n given memory now ready h)

pub cells_are_enough : CellsAreEnough
cells_are_enough surface items form name f named external turns given memory now ready h =
    let p = program_of items in
    let c = code_of p p.functions in
    let over = call_bound c p (by_tree surface items form) [] p.functions refl name turns given memory now ready h in
    let size = over_size memory now (of_name c p.functions name) over in
    let cells = found_cells c p.functions name f named in
    let there = found c p.functions name f named in
    let most = host_most c p (by_tree surface items form) p.functions there.after f.function f.before there.stands external in
    omega (arith, size, cells, most)
