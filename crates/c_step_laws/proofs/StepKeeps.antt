-- A step of a body keeps the shapes of all objects, and leads to statements of the body, which call what the body calls.
use Rattle.std.proofs.Common.{◌≡◌, ◌≤◌, ℕ, zero, suc, ◌+◌, Bool, true, false, List, [], ◌∷◌, ◌++◌, max, Option, Some, None, arith}
use Rattle.std.specs.Prelude.{if◌then◌else◌, nat_eq, nat_lt, option_and_then}
use Rattle.turns.specs.Run.{Next, Go, Turn, End, Out, Fail, Outcome, Got, More, Lost, onward, holding}
use Rattle.c_text.specs.CTree.{ExprTree, Args, Code, finish, nested, empty, assign, call, jump, branch, repeat, select, leave, case_label, default_label, name_label, LocalTree}
use Rattle.c_meaning.specs.declared.values.Pointer.{Pointer}
use Rattle.c_meaning.specs.declared.values.CValue.{CValue}
use Rattle.c_meaning.specs.declared.values.CValue.TheVariants.{Numeric as numeric, Address as address, NullPointer as null_pointer}
use Rattle.c_meaning.specs.CValues.{holds}
use Rattle.c_meaning.specs.CMemory.{Memory, stored, zeroed}
use Rattle.c_meaning.specs.CExprs.{value, place, pointed_place, arg_values, all_some}
use Rattle.c_meaning.specs.CStep.{Continuation, stop, behind, again, Place, at, place_weight, Label, by_name, by_case, by_default, enters_switch, is_case, is_default, is_named, first_of, here, find, Returned, Meaning, Running, State, state, surroundings, goes_on, by_test, takes_turn, tested_again, leaps, jumps, enters, switches, one_place, kept, goes_back, calls, Callee, memory_move, memory_set, own, callee_of, as_size, moves, zeroes, move_given, set_given, calls_function, returns, result_value, assigned, at_end, step_at}
use Rattle.c_meaning.specs.CCall.{initial_stored, initialized}
use Rattle.c_meaning.specs.Typed.{IsTyped, StaysTyped}
use Rattle.c_meaning.proofs.KeptSteps.{LeftBy, OutBy, MeaningBy}
use Rattle.c_meaning.proofs.TypedLaws.{typed_kept}
use Rattle.c_step_laws.specs.Callees.{expr_callees, arg_callees, optional_callees, code_callees, called_name}
use Rattle.c_step_laws.proofs.Lists.{greatest, greatest_append}

abbrev pub TypedBy : Meaning → Type 0
TypedBy meaning = MeaningBy IsTyped StaysTyped typed_kept meaning

left_then : (a b : Memory) (o : Option Memory) → StaysTyped a b → LeftBy StaysTyped b o → LeftBy StaysTyped a o
left_then a b None h k = tt
left_then a b (Some c) h k = typed_kept.chain a b c h k

-- The greatest number of a name that is called from a place on.
module _ (of : List ℕ → ℕ) where
  abbrev tree : List (List ℕ) → ℕ
  tree xs = greatest of xs

  abbrev pub later : Continuation → ℕ
  later stop = 0
  later (behind over rest k) = max (tree (code_callees rest)) (later k)
  later (again test body k) = max (tree (expr_callees test)) (max (tree (code_callees body)) (later k))

  abbrev pub calls_from : Code → Continuation → ℕ
  calls_from code k = max (tree (code_callees code)) (later k)

  pub after_call : (target : Option ExprTree) (function : List ℕ) (given : Args) (rest : Code) → tree (code_callees (call target function given rest)) ≡ max (tree (called_name (callee_of function) function)) (max (tree (optional_callees target)) (max (tree (arg_callees given)) (tree (code_callees rest))))
  after_call target function given rest =
      let a = greatest_append of (called_name (callee_of function) function) (optional_callees target ++ (arg_callees given ++ code_callees rest)) in
      let b = greatest_append of (optional_callees target) (arg_callees given ++ code_callees rest) in
      let d = greatest_append of (arg_callees given) (code_callees rest) in
      omega (arith, a, b, d)

  -- What is found calls no more.
  abbrev FoundIn : ℕ → Option Place → Type 0
  FoundIn most None = Unit {0}
  FoundIn most (Some p) = calls_from p.code p.continuation ≤ most

  first_in : (most : ℕ) (a b : Option Place) → FoundIn most a → FoundIn most b → FoundIn most (first_of a b)
  first_in most None b h k = k
  first_in most (Some p) b h k = h

  here_in : (most : ℕ) (b : Bool) (p : Place) (o : Option Place) → FoundIn most (Some p) → FoundIn most o → FoundIn most (here b p o)
  here_in most true p o h k = h
  here_in most false p o h k = k

  if_in : (most : ℕ) (b : Bool) (o : Option Place) → FoundIn most o → FoundIn most (if b then o else None)
  if_in most true o h = h
  if_in most false o h = tt

  pub found_in : (most : ℕ) (label : Label) (c : Code) (k : Continuation) → calls_from c k ≤ most → FoundIn most (find label c k)
  found_in most label finish k h = tt
  found_in most label (nested inner rest) k h =
      let a = greatest_append of (code_callees inner) (code_callees rest) in
      first_in most _ _ (found_in most label inner (behind finish rest k) (omega (arith, h, a))) (found_in most label rest k (omega (arith, h, a)))
  found_in most label (empty rest) k h = found_in most label rest k h
  found_in most label (assign target v rest) k h =
      let a = greatest_append of (expr_callees target) (expr_callees v ++ code_callees rest) in
      let b = greatest_append of (expr_callees v) (code_callees rest) in
      found_in most label rest k (omega (arith, h, a, b))
  found_in most label (call target function given rest) k h = found_in most label rest k (omega (arith, h, after_call target function given rest))
  found_in most label (jump name rest) k h = found_in most label rest k h
  found_in most label (branch test body otherwise other rest) k h =
      let a = greatest_append of (expr_callees test) (code_callees body ++ (code_callees other ++ code_callees rest)) in
      let b = greatest_append of (code_callees body) (code_callees other ++ code_callees rest) in
      let d = greatest_append of (code_callees other) (code_callees rest) in
      first_in most _ _ (found_in most label body (behind other rest k) (omega (arith, h, a, b, d)))
      (first_in most _ _ (found_in most label other (behind finish rest k) (omega (arith, h, a, b, d))) (found_in most label rest k (omega (arith, h, a, b, d))))
  found_in most label (repeat test body rest) k h =
      let a = greatest_append of (expr_callees test) (code_callees body ++ code_callees rest) in
      let b = greatest_append of (code_callees body) (code_callees rest) in
      first_in most _ _ (found_in most label body (again test body (behind finish rest k)) (omega (arith, h, a, b))) (found_in most label rest k (omega (arith, h, a, b)))
  found_in most label (select on body rest) k h =
      let a = greatest_append of (expr_callees on) (code_callees body ++ code_callees rest) in
      let b = greatest_append of (code_callees body) (code_callees rest) in
      first_in most _ _ (if_in most (enters_switch label) _ (found_in most label body (behind finish rest k) (omega (arith, h, a, b)))) (found_in most label rest k (omega (arith, h, a, b)))
  found_in most label (leave v rest) k h =
      let a = greatest_append of (optional_callees v) (code_callees rest) in
      found_in most label rest k (omega (arith, h, a))
  found_in most label (case_label n rest) k h = here_in most (is_case label n) _ _ h (found_in most label rest k h)
  found_in most label (default_label rest) k h = here_in most (is_default label) _ _ h (found_in most label rest k h)
  found_in most label (name_label name rest) k h = here_in most (is_named label name) _ _ h (found_in most label rest k h)

  -- A body's steps.
  module _ (r : Running) (callees : (name : List ℕ) → TypedBy (r.callee name)) (most : ℕ) (whole : tree (code_callees r.body) ≤ most) where
    abbrev pub Good : Memory → State → Type 0
    Good before s = StaysTyped before s.memory × (calls_from s.place.code s.place.continuation ≤ most)

    abbrev pub NextGood : Memory → Next State Returned → Type 0
    NextGood before (Go s) = Good before s
    NextGood before (Turn left s) = Good before s
    NextGood before (End left done) = Unit {0}
    NextGood before Out = Unit {0}
    NextGood before Fail = Unit {0}

    module _ (memory : Memory) (ready : IsTyped memory) where
      same : StaysTyped memory memory
      same = typed_kept.same memory ready

      goes_on_good : (rest : Code) (k : Continuation) (o : Option Memory) → calls_from rest k ≤ most → LeftBy StaysTyped memory o → NextGood memory (goes_on rest k o)
      goes_on_good rest k None w h = tt
      goes_on_good rest k (Some now) w h = (h, w)

      if_good : (b : Bool) (met unmet : Next State Returned) → NextGood memory met → NextGood memory unmet → NextGood memory (if b then met else unmet)
      if_good true met unmet h k = h
      if_good false met unmet h k = k

      by_test_good : (o : Option CValue) (met unmet : Next State Returned) → NextGood memory met → NextGood memory unmet → NextGood memory (by_test o met unmet)
      by_test_good None met unmet h k = tt
      by_test_good (Some v) met unmet h k = if_good (holds v) met unmet h k

      takes_turn_good : (n : ℕ) (f : ℕ → Next State Returned) → ((m : ℕ) → NextGood memory (f m)) → NextGood memory (takes_turn n f)
      takes_turn_good zero f h = tt
      takes_turn_good (suc n) f h = h n

      leaps_good : (b : Bool) (n : ℕ) (target : Place) → calls_from target.code target.continuation ≤ most → NextGood memory (leaps b n target memory)
      leaps_good true n target w = (same, w)
      leaps_good false n target w = takes_turn_good n (λ left. Turn left (record { place = target; memory = memory })) (λ m. (same, w))

      jumps_good : (n : ℕ) (from : Place) (o : Option Place) → FoundIn most o → NextGood memory (jumps n from o memory)
      jumps_good n from None w = tt
      jumps_good n from (Some target) w = leaps_good (nat_lt (place_weight target) (place_weight from)) n target w

      enters_good : (o : Option Place) (rest : Code) (k : Continuation) → FoundIn most o → calls_from rest k ≤ most → NextGood memory (enters o rest k memory)
      enters_good None rest k w x = (same, x)
      enters_good (Some p) rest k w x = (same, w)

      switches_good : (o : Option CValue) (body rest : Code) (k : Continuation) → calls_from body (behind finish rest k) ≤ most → calls_from rest k ≤ most → NextGood memory (switches o body rest k memory)
      switches_good None body rest k w x = tt
      switches_good (Some (numeric n)) body rest k w x = enters_good (first_of (find (by_case n) body (behind finish rest k)) (find by_default body (behind finish rest k))) rest k
          (first_in most _ _ (found_in most (by_case n) body (behind finish rest k) w) (found_in most by_default body (behind finish rest k) w)) x
      switches_good (Some (address p)) body rest k w x = tt
      switches_good (Some null_pointer) body rest k w x = tt

      assigned_by : (p : Option Pointer) (v : Option CValue) → LeftBy StaysTyped memory (assigned memory p v)
      assigned_by None v = tt
      assigned_by (Some p) None = tt
      assigned_by (Some p) (Some v) = typed_kept.stores memory ready p v

      moves_by : (to from : Option Pointer) (n : Option ℕ) → LeftBy StaysTyped memory (moves memory to from n)
      moves_by None from n = tt
      moves_by (Some to) None n = tt
      moves_by (Some to) (Some from) None = tt
      moves_by (Some to) (Some from) (Some n) = typed_kept.moves memory ready to from n

      move_given_by : (given : List (Option CValue)) → LeftBy StaysTyped memory (move_given memory given)
      move_given_by [] = tt
      move_given_by (a ∷ []) = tt
      move_given_by (a ∷ b ∷ []) = tt
      move_given_by (a ∷ b ∷ c ∷ []) = moves_by (pointed_place a) (pointed_place b) (as_size c)
      move_given_by (a ∷ b ∷ c ∷ d ∷ others) = tt

      zeroes_by : (p : Option Pointer) → LeftBy StaysTyped memory (zeroes memory p)
      zeroes_by None = tt
      zeroes_by (Some p) = by_index (nat_eq p.index 0)
        where
          by_index : (b : Bool) → LeftBy StaysTyped memory (if b then zeroed memory p.object else None)
          by_index true = typed_kept.sets memory ready p.object
          by_index false = tt

      set_given_by : (given : List (Option CValue)) → LeftBy StaysTyped memory (set_given memory given)
      set_given_by [] = tt
      set_given_by (a ∷ others) = zeroes_by (pointed_place a)

      kept_by : (target : Option ExprTree) (done : Returned) → StaysTyped memory done.memory → LeftBy StaysTyped memory (kept r memory target done)
      kept_by None done h = h
      kept_by (Some target) done h = left_then memory done.memory _ h (by_value done.value)
        where
          by_place : (v : CValue) (p : Option Pointer) → LeftBy StaysTyped done.memory (option_and_then (λ q. stored done.memory q v) p)
          by_place v None = tt
          by_place v (Some p) = typed_kept.stores done.memory h.typed p v

          by_value : (v : Option CValue) → LeftBy StaysTyped done.memory (option_and_then (λ v. option_and_then (λ p. stored done.memory p v) (one_place (place (surroundings r memory) target) (place (surroundings r done.memory) target))) v)
          by_value None = tt
          by_value (Some v) = by_place v (one_place (place (surroundings r memory) target) (place (surroundings r done.memory) target))

      goes_back_good : (n left : ℕ) (rest : Code) (k : Continuation) (o : Option Memory) → calls_from rest k ≤ most → LeftBy StaysTyped memory o → NextGood memory (goes_back n left rest k o)
      unfolding onward
      goes_back_good n left rest k None w h = tt
      goes_back_good n left rest k (Some now) w h = if_good (nat_lt left n) (Turn left (state rest k now)) (Go (state rest k now)) (h, w) (h, w)

      holding_good : (o : Outcome Returned) (on : ℕ → Returned → Next State Returned) → OutBy StaysTyped memory o → ((left : ℕ) (done : Returned) → StaysTyped memory done.memory → NextGood memory (on left done)) → NextGood memory (holding o on)
      unfolding holding
      holding_good (Got left done) on h f = f left done h
      holding_good More on h f = tt
      holding_good Lost on h f = tt

      calls_good : (n : ℕ) (target : Option ExprTree) (name : List ℕ) (given : Option (List CValue)) (rest : Code) (k : Continuation) → calls_from rest k ≤ most → NextGood memory (calls r n target (r.callee name) given rest k memory)
      calls_good n target name None rest k w = tt
      calls_good n target name (Some given) rest k w = holding_good (r.callee name n given memory) _ ((callees name).by n given memory ready) (λ left done a. goes_back_good n left rest k (kept r memory target done) w (kept_by target done a))

      function_good : (c : Callee) (n : ℕ) (target : Option ExprTree) (name : List ℕ) (given : List (Option CValue)) (rest : Code) (k : Continuation) → calls_from rest k ≤ most → NextGood memory (calls_function c r n target name given rest k memory)
      function_good memory_move n target name given rest k w = goes_on_good rest k (move_given memory given) w (move_given_by given)
      function_good memory_set n target name given rest k w = goes_on_good rest k (set_given memory given) w (set_given_by given)
      function_good own n target name given rest k w = calls_good n target name (all_some given) rest k w

      returns_good : (n : ℕ) (v : Option CValue) → NextGood memory (returns n memory v)
      returns_good n None = tt
      returns_good n (Some v) = tt

      end_good : (n : ℕ) (k : Continuation) → later k ≤ most → NextGood memory (at_end r n k memory)
      end_good n stop w = tt
      end_good n (behind over rest k) w = (same, w)
      end_good n (again test body k) w = takes_turn_good n (tested_again r test body k memory) (λ m. by_test_good (value (surroundings r memory) test) _ _ (same, omega (arith, w)) (same, omega (arith, w)))

      pub step_good : (n : ℕ) (c : Code) (k : Continuation) → calls_from c k ≤ most → NextGood memory (step_at r n c k memory)
      step_good n finish k w = end_good n k (omega (arith, w))
      step_good n (nested inner rest) k w =
          let a = greatest_append of (code_callees inner) (code_callees rest) in
          (same, omega (arith, w, a))
      step_good n (empty rest) k w = (same, w)
      step_good n (assign target v rest) k w =
          let a = greatest_append of (expr_callees target) (expr_callees v ++ code_callees rest) in
          let b = greatest_append of (expr_callees v) (code_callees rest) in
          goes_on_good rest k _ (omega (arith, w, a, b)) (assigned_by (place (surroundings r memory) target) (value (surroundings r memory) v))
      step_good n (call target function given rest) k w = function_good (callee_of function) n target function (arg_values (surroundings r memory) given) rest k (omega (arith, w, after_call target function given rest))
      step_good n (jump label rest) k w = jumps_good n (at (jump label rest) k) (find (by_name label) r.body stop) (found_in most (by_name label) r.body stop (omega (arith, whole)))
      step_good n (branch test body otherwise other rest) k w =
          let a = greatest_append of (expr_callees test) (code_callees body ++ (code_callees other ++ code_callees rest)) in
          let b = greatest_append of (code_callees body) (code_callees other ++ code_callees rest) in
          let d = greatest_append of (code_callees other) (code_callees rest) in
          by_test_good (value (surroundings r memory) test) _ _ (same, omega (arith, w, a, b, d)) (same, omega (arith, w, a, b, d))
      step_good n (repeat test body rest) k w =
          let a = greatest_append of (expr_callees test) (code_callees body ++ code_callees rest) in
          let b = greatest_append of (code_callees body) (code_callees rest) in
          by_test_good (value (surroundings r memory) test) _ _ (same, omega (arith, w, a, b)) (same, omega (arith, w, a, b))
      step_good n (select on body rest) k w =
          let a = greatest_append of (expr_callees on) (code_callees body ++ code_callees rest) in
          let b = greatest_append of (code_callees body) (code_callees rest) in
          switches_good (value (surroundings r memory) on) body rest k (omega (arith, w, a, b)) (omega (arith, w, a, b))
      step_good n (leave None rest) k w = tt
      step_good n (leave (Some v) rest) k w = returns_good n (result_value r.result_type (value (surroundings r memory) v))
      step_good n (case_label number rest) k w = (same, w)
      step_good n (default_label rest) k w = (same, w)
      step_good n (name_label name rest) k w = (same, w)

-- The initial values of locals.
module _ (r : Running) where
  initial_by : (memory : Memory) → IsTyped memory → (field : ℕ) (e : Option ExprTree) → LeftBy StaysTyped memory (initial_stored r field e memory)
  initial_by memory ready field None = typed_kept.same memory ready
  initial_by memory ready field (Some e) = by_value (value (surroundings r memory) e)
    where
      by_value : (v : Option CValue) → LeftBy StaysTyped memory (option_and_then (stored memory (record { object = r.frame; field = field; index = 0 })) v)
      by_value None = tt
      by_value (Some v) = typed_kept.stores memory ready (record { object = r.frame; field = field; index = 0 }) v

  then_by : (before : Memory) → IsTyped before → (o : Option Memory) (f : Memory → Option Memory) → LeftBy StaysTyped before o → ((memory : Memory) → IsTyped memory → LeftBy StaysTyped memory (f memory)) → LeftBy StaysTyped before (option_and_then f o)
  then_by before ready None f h g = tt
  then_by before ready (Some now) f h g = left_then before now (f now) h (g now h.typed)

  pub initialized_by : (ls : List LocalTree) (field : ℕ) (memory : Memory) → IsTyped memory → LeftBy StaysTyped memory (initialized r field ls memory)
  initialized_by [] field memory ready = typed_kept.same memory ready
  initialized_by (l ∷ ls) field memory ready = then_by memory ready (initial_stored r field l.initial memory) (initialized r (field + 1) ls) (initial_by memory ready field l.initial) (λ now k. initialized_by ls (field + 1) now k)
