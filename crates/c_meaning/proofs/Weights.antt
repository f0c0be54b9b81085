-- The text that is left: a label is found within the block that it is looked for in, and each step that is no turn leaves
-- less text.
use Rattle.std.proofs.Common.{◌≡◌, ℕ, zero, suc, ◌+◌, ◌<◌, ◌≤◌, Bool, true, false, List, Option, Some, None, refl, arith}
use Rattle.std.specs.Prelude.{if◌then◌else◌, nat_lt}
use Rattle.std.proofs.lemmas.Bool.{ltb-true}
use Rattle.turns.specs.Run.{Next, Go, Turn, Outcome, Got, More, Lost, onward, holding}
use Rattle.turns.specs.Steps.{FallsTo, Falls}
use Rattle.c_text.specs.CTree.{ExprTree, Code, finish, nested, empty, assign, call, jump, branch, repeat, select, leave, case_label, default_label, name_label}
use Rattle.c_meaning.specs.CValues.{CValue, numeric, address, null_pointer, holds}
use Rattle.c_meaning.specs.CMemory.{Memory}
use Rattle.c_meaning.specs.CExprs.{value, place, all_some, arg_values}
use Rattle.c_meaning.specs.CStep.{Continuation, stop, behind, again, Place, at, code_weight, continuation_weight, place_weight, Label, by_name, by_case, by_default, enters_switch, is_case, is_default, is_named, first_of, here, find, Returned, Meaning, Running, State, state, weight, surroundings, goes_on, by_test, takes_turn, tested_again, leaps, jumps, enters, switches, kept, goes_back, calls, Callee, memory_move, memory_set, own, callee_of, move_given, set_given, calls_function, returns, result_value, assigned, at_end, step_at, step}

-- A place that is found has at most so much text after it.
abbrev pub Within : ℕ → Option Place → Type 0
Within n None = Unit {0}
Within n (Some p) = place_weight p ≤ n

within_more : (n m : ℕ) (o : Option Place) → n ≤ m → Within n o → Within m o
within_more n m None le h = tt
within_more n m (Some p) le h = omega (arith, le, h)

within_first : (n : ℕ) (a b : Option Place) → Within n a → Within n b → Within n (first_of a b)
within_first n None b h k = k
within_first n (Some p) b h k = h

within_here : (n : ℕ) (b : Bool) (p : Place) (o : Option Place) → place_weight p ≤ n → Within n o → Within n (here b p o)
within_here n true p o h k = h
within_here n false p o h k = k

within_if : (n : ℕ) (b : Bool) (o : Option Place) → Within n o → Within n (if b then o else None)
within_if n true o h = h
within_if n false o h = tt

pub found_within : (label : Label) (c : Code) (k : Continuation) → Within (code_weight c + continuation_weight k) (find label c k)
found_within label finish k = tt
found_within label (nested inner rest) k =
    within_first _ _ _ (within_more _ _ _ (omega arith) (found_within label inner (behind finish rest k))) (within_more _ _ _ (omega arith) (found_within label rest k))
found_within label (empty rest) k = within_more _ _ _ (omega arith) (found_within label rest k)
found_within label (assign target v rest) k = within_more _ _ _ (omega arith) (found_within label rest k)
found_within label (call target function given rest) k = within_more _ _ _ (omega arith) (found_within label rest k)
found_within label (jump name rest) k = within_more _ _ _ (omega arith) (found_within label rest k)
found_within label (branch test body otherwise other rest) k =
    within_first _ _ _ (within_more _ _ _ (omega arith) (found_within label body (behind other rest k)))
    (within_first _ _ _ (within_more _ _ _ (omega arith) (found_within label other (behind finish rest k))) (within_more _ _ _ (omega arith) (found_within label rest k)))
found_within label (repeat test body rest) k =
    within_first _ _ _ (within_more _ _ _ (omega arith) (found_within label body (again test body (behind finish rest k)))) (within_more _ _ _ (omega arith) (found_within label rest k))
found_within label (select on body rest) k =
    within_first _ _ _ (within_if _ (enters_switch label) _ (within_more _ _ _ (omega arith) (found_within label body (behind finish rest k)))) (within_more _ _ _ (omega arith) (found_within label rest k))
found_within label (leave v rest) k = within_more _ _ _ (omega arith) (found_within label rest k)
found_within label (case_label n rest) k = within_here _ (is_case label n) _ _ (omega arith) (within_more _ _ _ (omega arith) (found_within label rest k))
found_within label (default_label rest) k = within_here _ (is_default label) _ _ (omega arith) (within_more _ _ _ (omega arith) (found_within label rest k))
found_within label (name_label name rest) k = within_here _ (is_named label name) _ _ (omega arith) (within_more _ _ _ (omega arith) (found_within label rest k))

-- Steps, from a state s with n turns left.
module _ (n : ℕ) (s : State) where
  abbrev Down : Next State Returned → Type 0
  Down next = FallsTo weight n (weight s) next

  goes_on_down : (rest : Code) (k : Continuation) (o : Option Memory) → code_weight rest + continuation_weight k < weight s → Down (goes_on rest k o)
  goes_on_down rest k None h = tt
  goes_on_down rest k (Some memory) h = h

  if_down : (b : Bool) (met unmet : Next State Returned) → Down met → Down unmet → Down (if b then met else unmet)
  if_down true met unmet h k = h
  if_down false met unmet h k = k

  by_test_down : (o : Option CValue) (met unmet : Next State Returned) → Down met → Down unmet → Down (by_test o met unmet)
  by_test_down None met unmet h k = tt
  by_test_down (Some v) met unmet h k = if_down (holds v) met unmet h k

  leaps_down : (b : Bool) (target : Place) (memory : Memory) → (b ≡ true → place_weight target < weight s) → Down (leaps b n target memory)
  leaps_down true target memory h = h refl
  leaps_down false target memory h = turn n
    where
      turn : (m : ℕ) → FallsTo weight m (weight s) (takes_turn m (λ left. Turn left (record { place = target; memory = memory })))
      turn zero = tt
      turn (suc m) = omega arith

  jumps_down : (from : Place) (o : Option Place) (memory : Memory) → place_weight from ≡ weight s → Down (jumps n from o memory)
  jumps_down from None memory e = tt
  jumps_down from (Some target) memory e = leaps_down (nat_lt (place_weight target) (place_weight from)) target memory (λ t. let h : place_weight target < place_weight from = ltb-true _ _ t in omega (arith, h, e))

  enters_down : (m : ℕ) (o : Option Place) (rest : Code) (k : Continuation) (memory : Memory) → Within m o → m < weight s → code_weight rest + continuation_weight k < weight s → Down (enters o rest k memory)
  enters_down m None rest k memory w h l = l
  enters_down m (Some p) rest k memory w h l = omega (arith, w, h)

  switches_down : (o : Option CValue) (body rest : Code) (k : Continuation) (memory : Memory) → code_weight body + code_weight rest + continuation_weight k + 1 < weight s → Down (switches o body rest k memory)
  switches_down None body rest k memory h = tt
  switches_down (Some (address p)) body rest k memory h = tt
  switches_down (Some null_pointer) body rest k memory h = tt
  switches_down (Some (numeric x)) body rest k memory h =
      enters_down (code_weight body + continuation_weight (behind finish rest k)) _ rest k memory
      (within_first _ _ _ (found_within (by_case x) body (behind finish rest k)) (found_within by_default body (behind finish rest k))) (omega (arith, h)) (omega (arith, h))

  with_turns_down : (left : ℕ) (t : State) → weight t < weight s → Down (onward n left t)
  unfolding onward
  with_turns_down left t h = by_cases (nat_lt left n) refl
    where
      by_cases : (b : Bool) → nat_lt left n ≡ b → Down (if b then Turn left t else Go t)
      by_cases true e = ltb-true _ _ e
      by_cases false e = h

  goes_back_down : (left : ℕ) (rest : Code) (k : Continuation) (o : Option Memory) → code_weight rest + continuation_weight k < weight s → Down (goes_back n left rest k o)
  goes_back_down left rest k None h = tt
  goes_back_down left rest k (Some memory) h = with_turns_down left (state rest k memory) h

  holding_down : (o : Outcome Returned) (on : ℕ → Returned → Next State Returned) → ((left : ℕ) (done : Returned) → Down (on left done)) → Down (holding o on)
  unfolding holding
  holding_down (Got left done) on h = h left done
  holding_down More on h = tt
  holding_down Lost on h = tt

  calls_down : (r : Running) (target : Option ExprTree) (meaning : Meaning) (given : Option (List CValue)) (rest : Code) (k : Continuation) (memory : Memory) → code_weight rest + continuation_weight k < weight s → Down (calls r n target meaning given rest k memory)
  calls_down r target meaning None rest k memory h = tt
  calls_down r target meaning (Some given) rest k memory h = holding_down (meaning n given memory) _ (λ left done. goes_back_down left rest k (kept r memory target done) h)

  calls_function_down : (c : Callee) (r : Running) (target : Option ExprTree) (name : List ℕ) (given : List (Option CValue)) (rest : Code) (k : Continuation) (memory : Memory) → code_weight rest + continuation_weight k < weight s → Down (calls_function c r n target name given rest k memory)
  calls_function_down memory_move r target name given rest k memory h = goes_on_down rest k (move_given memory given) h
  calls_function_down memory_set r target name given rest k memory h = goes_on_down rest k (set_given memory given) h
  calls_function_down own r target name given rest k memory h = calls_down r target (r.callee name) (all_some given) rest k memory h

  returns_down : (memory : Memory) (o : Option CValue) → Down (returns n memory o)
  returns_down memory None = tt
  returns_down memory (Some v) = omega arith

  again_down : (r : Running) (test : ExprTree) (body : Code) (k : Continuation) (memory : Memory) → Down (takes_turn n (tested_again r test body k memory))
  again_down r test body k memory = turn n
    where
      by_truth : (m : ℕ) (b : Bool) → FallsTo {A = Returned} weight (suc m) (weight s) (if b then Turn m (state body (again test body k) memory) else Turn m (state finish k memory))
      by_truth m true = omega arith
      by_truth m false = omega arith

      tested : (m : ℕ) (o : Option CValue) → FallsTo {A = Returned} weight (suc m) (weight s) (by_test o (Turn m (state body (again test body k) memory)) (Turn m (state finish k memory)))
      tested m None = tt
      tested m (Some v) = by_truth m (holds v)

      turn : (m : ℕ) → FallsTo {A = Returned} weight m (weight s) (takes_turn m (tested_again r test body k memory))
      turn zero = tt
      turn (suc m) = tested m (value (surroundings r memory) test)

end_down : (r : Running) (n : ℕ) (k : Continuation) (memory : Memory) → FallsTo weight n (weight (state finish k memory)) (at_end r n k memory)
end_down r n stop memory = omega arith
end_down r n (behind passed rest k) memory = omega arith
end_down r n (again test body k) memory = again_down n (state finish (again test body k) memory) r test body k memory

step_down : (r : Running) (n : ℕ) (c : Code) (k : Continuation) (memory : Memory) → FallsTo weight n (weight (state c k memory)) (step_at r n c k memory)
step_down r n finish k memory = end_down r n k memory
step_down r n (nested inner rest) k memory = omega arith
step_down r n (empty rest) k memory = omega arith
step_down r n (assign target v rest) k memory = goes_on_down n (state (assign target v rest) k memory) rest k (assigned memory (place (surroundings r memory) target) (value (surroundings r memory) v)) (omega arith)
step_down r n (call target function given rest) k memory = calls_function_down n (state (call target function given rest) k memory) (callee_of function) r target function (arg_values (surroundings r memory) given) rest k memory (omega arith)
step_down r n (jump label rest) k memory = jumps_down n (state (jump label rest) k memory) (at (jump label rest) k) (find (by_name label) r.body stop) memory refl
step_down r n (branch test body otherwise other rest) k memory = by_test_down n (state (branch test body otherwise other rest) k memory) (value (surroundings r memory) test) _ _ (omega arith) (omega arith)
step_down r n (repeat test body rest) k memory = by_test_down n (state (repeat test body rest) k memory) (value (surroundings r memory) test) _ _ (omega arith) (omega arith)
step_down r n (select on body rest) k memory = switches_down n (state (select on body rest) k memory) (value (surroundings r memory) on) body rest k memory (omega arith)
step_down r n (leave None rest) k memory = omega arith
step_down r n (leave (Some v) rest) k memory = returns_down n (state (leave (Some v) rest) k memory) memory (result_value r.result_type (value (surroundings r memory) v))
step_down r n (case_label number rest) k memory = omega arith
step_down r n (default_label rest) k memory = omega arith
step_down r n (name_label name rest) k memory = omega arith

pub step_falls : (r : Running) → Falls (step r) weight
step_falls r = record { by = λ n s. step_down r n s.place.code s.place.continuation s.memory }
