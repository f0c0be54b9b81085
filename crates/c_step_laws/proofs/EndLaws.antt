-- A call that returns passes through the memory that it leaves.
use Rattle.std.proofs.Common.{◌≡◌, ◌<◌, ℕ, zero, suc, Bool, true, false, List, [], ◌∷◌, ◌++◌, length, take, Option, Some, None, refl, sym, ap, ◌∙◌, subst, arith}
use Rattle.std.specs.Prelude.{if◌then◌else◌, nat_lt, bytes_eq, option_and_then}
use Rattle.turns.specs.Run.{Next, Go, Turn, End, Out, Fail, Outcome, Got, More, Lost, on_next, onward, holding, run}
use Rattle.turns.specs.Steps.{FallsTo}
use Rattle.turns.proofs.Unfolds.{unfolds}
use Rattle.c_text.specs.declared.kinds.Linkage.{Linkage}
use Rattle.c_text.specs.declared.kinds.Linkage.TheVariants.{External, Static, StaticInline}
use Rattle.c_text.specs.CTree.{ExprTree, Code, finish, nested, empty, assign, call, jump, branch, repeat, select, leave, case_label, default_label, name_label}
use Rattle.c_meaning.specs.declared.values.CValue.{CValue}
use Rattle.c_meaning.specs.declared.values.CValue.TheVariants.{Numeric as numeric, Address as address, NullPointer as null_pointer}
use Rattle.c_meaning.specs.CValues.{holds}
use Rattle.c_meaning.specs.CMemory.{Object, Memory}
use Rattle.c_meaning.specs.CTypes.{Function}
use Rattle.c_meaning.specs.CExprs.{value, arg_values, all_some}
use Rattle.c_meaning.specs.CStep.{Continuation, stop, behind, again, Place, at, place_weight, by_name, by_case, by_default, first_of, find, Returned, Meaning, Running, State, state, weight, surroundings, goes_on, by_test, takes_turn, tested_again, leaps, jumps, enters, switches, kept, goes_back, calls, Callee, memory_move, memory_set, own, callee_of, move_given, set_given, calls_function, returns, result_value, at_end, step_at, step}
use Rattle.c_meaning.specs.CCall.{Program, frame_object, expression_call, entered, initialized, without_frame, body_run, running, started, function_meaning, call_of}
use Rattle.c_meaning.proofs.Weights.{step_falls}
use Rattle.c_step_laws.specs.Passing.{OneOrOther, ExpressionPasses, here, Moment, next_moment, after_steps, goes, Enters, FunctionPasses, CallPasses, CallsPassToTheirEnds}

-- A step that ends leaves memory as it is.
module _ (r : Running) where
  abbrev EndsIn : Memory → Next State Returned → Type 0
  EndsIn memory (Go s) = Unit {0}
  EndsIn memory (Turn left s) = Unit {0}
  EndsIn memory (End left done) = done.memory ≡ memory
  EndsIn memory Out = Unit {0}
  EndsIn memory Fail = Unit {0}

  module _ (memory : Memory) where
    goes_on_ends : (rest : Code) (k : Continuation) (o : Option Memory) → EndsIn memory (goes_on rest k o)
    goes_on_ends rest k None = tt
    goes_on_ends rest k (Some now) = tt

    if_ends : (b : Bool) (met unmet : Next State Returned) → EndsIn memory met → EndsIn memory unmet → EndsIn memory (if b then met else unmet)
    if_ends true met unmet h k = h
    if_ends false met unmet h k = k

    by_test_ends : (o : Option CValue) (met unmet : Next State Returned) → EndsIn memory met → EndsIn memory unmet → EndsIn memory (by_test o met unmet)
    by_test_ends None met unmet h k = tt
    by_test_ends (Some v) met unmet h k = if_ends (holds v) met unmet h k

    takes_turn_ends : (n : ℕ) (f : ℕ → Next State Returned) → ((m : ℕ) → EndsIn memory (f m)) → EndsIn memory (takes_turn n f)
    takes_turn_ends zero f h = tt
    takes_turn_ends (suc n) f h = h n

    leaps_ends : (b : Bool) (n : ℕ) (target : Place) → EndsIn memory (leaps b n target memory)
    leaps_ends true n target = tt
    leaps_ends false n target = takes_turn_ends n (λ left. Turn left (record { place = target; memory = memory })) (λ m. tt)

    jumps_ends : (n : ℕ) (from : Place) (o : Option Place) → EndsIn memory (jumps n from o memory)
    jumps_ends n from None = tt
    jumps_ends n from (Some target) = leaps_ends (nat_lt (place_weight target) (place_weight from)) n target

    enters_ends : (o : Option Place) (rest : Code) (k : Continuation) → EndsIn memory (enters o rest k memory)
    enters_ends None rest k = tt
    enters_ends (Some p) rest k = tt

    switches_ends : (o : Option CValue) (body rest : Code) (k : Continuation) → EndsIn memory (switches o body rest k memory)
    switches_ends None body rest k = tt
    switches_ends (Some (numeric n)) body rest k = enters_ends (first_of (find (by_case n) body (behind finish rest k)) (find by_default body (behind finish rest k))) rest k
    switches_ends (Some (address p)) body rest k = tt
    switches_ends (Some null_pointer) body rest k = tt

    goes_back_ends : (n left : ℕ) (rest : Code) (k : Continuation) (o : Option Memory) → EndsIn memory (goes_back n left rest k o)
    unfolding onward
    goes_back_ends n left rest k None = tt
    goes_back_ends n left rest k (Some now) = if_ends (nat_lt left n) (Turn left (state rest k now)) (Go (state rest k now)) tt tt

    holding_ends : (o : Outcome Returned) (on : ℕ → Returned → Next State Returned) → ((left : ℕ) (done : Returned) → EndsIn memory (on left done)) → EndsIn memory (holding o on)
    unfolding holding
    holding_ends (Got left done) on f = f left done
    holding_ends More on f = tt
    holding_ends Lost on f = tt

    calls_ends : (n : ℕ) (target : Option ExprTree) (meaning : Meaning) (given : Option (List CValue)) (rest : Code) (k : Continuation) → EndsIn memory (calls r n target meaning given rest k memory)
    calls_ends n target meaning None rest k = tt
    calls_ends n target meaning (Some given) rest k = holding_ends (meaning n given memory) _ (λ left done. goes_back_ends n left rest k (kept r memory target done))

    function_ends : (c : Callee) (n : ℕ) (target : Option ExprTree) (name : List ℕ) (given : List (Option CValue)) (rest : Code) (k : Continuation) → EndsIn memory (calls_function c r n target name given rest k memory)
    function_ends memory_move n target name given rest k = goes_on_ends rest k (move_given memory given)
    function_ends memory_set n target name given rest k = goes_on_ends rest k (set_given memory given)
    function_ends own n target name given rest k = calls_ends n target (r.callee name) (all_some given) rest k

    returns_ends : (n : ℕ) (v : Option CValue) → EndsIn memory (returns n memory v)
    returns_ends n None = tt
    returns_ends n (Some v) = refl

    end_ends : (n : ℕ) (k : Continuation) → EndsIn memory (at_end r n k memory)
    end_ends n stop = refl
    end_ends n (behind over rest k) = tt
    end_ends n (again test body k) = takes_turn_ends n (tested_again r test body k memory) (λ m. by_test_ends (value (surroundings r memory) test) _ _ tt tt)

    step_ends : (n : ℕ) (c : Code) (k : Continuation) → EndsIn memory (step_at r n c k memory)
    step_ends n finish k = end_ends n k
    step_ends n (nested inner rest) k = tt
    step_ends n (empty rest) k = tt
    step_ends n (assign target v rest) k = goes_on_ends rest k _
    step_ends n (call target function given rest) k = function_ends (callee_of function) n target function (arg_values (surroundings r memory) given) rest k
    step_ends n (jump label rest) k = jumps_ends n (at (jump label rest) k) (find (by_name label) r.body stop)
    step_ends n (branch test body otherwise other rest) k = by_test_ends (value (surroundings r memory) test) _ _ tt tt
    step_ends n (repeat test body rest) k = by_test_ends (value (surroundings r memory) test) _ _ tt tt
    step_ends n (select on body rest) k = switches_ends (value (surroundings r memory) on) body rest k
    step_ends n (leave None rest) k = refl
    step_ends n (leave (Some v) rest) k = returns_ends n (result_value r.result_type (value (surroundings r memory) v))
    step_ends n (case_label number rest) k = tt
    step_ends n (default_label rest) k = tt
    step_ends n (name_label name rest) k = tt

  -- A run that answers comes, step by step, to a statement at which it ends.
  record ComesToEnd (n : ℕ) (s : State) (done : Returned) : Type 0 where
    steps : ℕ
    last : Moment
    comes : after_steps r steps (record { turns = n; state = s }) ≡ Some last
    leaves : done.memory ≡ last.state.memory

  abbrev Ends : ℕ → State → Type 0
  Ends n s = (left : ℕ) (done : Returned) → run (step r) weight n s ≡ Got left done → ComesToEnd n s done

  one_step : (n : ℕ) (s : State) (m : ℕ) (t : State) (done : Returned) → next_moment n (step r n s) ≡ Some (record { turns = m; state = t }) → ComesToEnd m t done → ComesToEnd n s done
  one_step n s m t done e h = record { steps = suc h.steps; last = h.last; comes = ap (option_and_then (after_steps r h.steps)) e ∙ h.comes; leaves = h.leaves }

  next_end : (n : ℕ) (s : State) (next : Next State Returned) → step r n s ≡ next → FallsTo weight n (weight s) next → ((t : State) → weight t < weight s → Ends n t) → ((m : ℕ) (t : State) → m < n → Ends m t)
      → (left : ℕ) (done : Returned) → on_next next (run (step r) weight n) (run (step r) weight) ≡ Got left done → ComesToEnd n s done
  next_end n s (Go t) is f p q left done e = one_step n s n t done (ap (next_moment n) is) (p t f left done e)
  next_end n s (Turn m t) is f p q left done e = one_step n s m t done (ap (next_moment n) is) (q m t f left done e)
  next_end n s (End m other) is f p q left done e =
      let same : other ≡ done = cc e in
      let ended : other.memory ≡ s.memory = subst (EndsIn s.memory) is (step_ends s.memory n s.place.code s.place.continuation) in
      record { steps = 0; last = record { turns = n; state = s }; comes = refl; leaves = ap (λ (d : Returned). d.memory) (sym same) ∙ ended }
  next_end n s Out is f p q left done e = absurd (cc e)
  next_end n s Fail is f p q left done e = absurd (cc e)

  end_within : (n fuel : ℕ) (s : State) → weight s < fuel → ((m : ℕ) (t : State) → m < n → Ends m t) → Ends n s
  end_within n zero s h q left done e = absurd (omega (arith, h))
  end_within n (suc fuel) s h q left done e =
      next_end n s (step r n s) refl ((step_falls r).by n s) (λ t below. end_within n fuel t (omega (arith, h, below)) q) q left done (sym (unfolds (step r) weight (step_falls r) n s) ∙ e)

  end_up_to : (most n : ℕ) (s : State) → n < most → Ends n s
  end_up_to zero n s h = absurd (omega (arith, h))
  end_up_to (suc most) n s h = end_within n (suc (weight s)) s (omega arith) (λ m t below. end_up_to most m t (omega (arith, h, below)))

  comes_to_end : (n : ℕ) (s : State) → Ends n s
  comes_to_end n s = end_up_to (suc n) n s (omega arith)

module _ (p : Program) where
  abbrev Passing : List Function → List ℕ → ℕ → List CValue → Memory → Returned → Type 0
  Passing fs name n given memory done = (now : Memory) × CallPasses p fs name n given memory now × (done.memory ≡ take (length memory) now)

  module _ (f : Function) (fs : List Function) (memory : Memory) (given : List CValue) where
    abbrev r : Running
    r = running p f (expression_call p fs) (call_of p fs) (length memory)

    abbrev In : ℕ → Returned → Type 0
    In n done = (now : Memory) × FunctionPasses p f (expression_call p fs) (call_of p fs) (ExpressionPasses p fs) (CallPasses p fs) n given memory now × (done.memory ≡ take (length memory) now)

    without_end : (o : Outcome Returned) (left : ℕ) (done : Returned) → without_frame (length memory) o ≡ Got left done → (m : ℕ) × (inner : Returned) × (o ≡ Got m inner) × (done.memory ≡ take (length memory) inner.memory)
    without_end (Got m inner) left done e =
        let same : record { memory = take (length memory) inner.memory; value = inner.value } ≡ done = cc e in
        (m, inner, refl, ap (λ (d : Returned). d.memory) (sym same))
    without_end More left done e = absurd (cc e)
    without_end Lost left done e = absurd (cc e)

    started_end : (n turns : ℕ) → Enters f.linkage n turns → (left : ℕ) (done : Returned) → started r f given memory turns ≡ Got left done → In n done
    started_end n turns enter left done e = by_object (frame_object f given) refl e
      where
        by_first : (object : Object) → frame_object f given ≡ Some object → (o : Option Memory) → initialized r (length f.params) f.locals (memory ++ object ∷ []) ≡ o → without_frame (length memory) (body_run r f turns o) ≡ Got left done → In n done
        by_first object is None first e = absurd (cc e)
        by_first object is (Some start) first e =
            let k = without_end (run (step r) weight turns (state f.body stop start)) left done e in
            let h = comes_to_end r turns (state f.body stop start) k.0 k.1 k.2 in
            (h.last.state.memory, record { turns = turns; enters = enter; object = object; is = is; there = goes start h.steps h.last first h.comes (here refl) }, k.3 ∙ ap (take (length memory)) h.leaves)

        by_object : (o : Option Object) → frame_object f given ≡ o → without_frame (length memory) (body_run r f turns (option_and_then (λ fields. initialized r (length f.params) f.locals (memory ++ fields ∷ [])) o)) ≡ Got left done → In n done
        by_object None is e = absurd (cc e)
        by_object (Some object) is e = by_first object is (initialized r (length f.params) f.locals (memory ++ object ∷ [])) refl e

    entered_end : (linkage : Linkage) → f.linkage ≡ linkage → (n left : ℕ) (done : Returned) → entered linkage n (started r f given memory) ≡ Got left done → In n done
    entered_end External is n left done e = started_end n n (subst (λ (l : Linkage). Enters l n n) (sym is) refl) left done e
    entered_end StaticInline is n left done e = started_end n n (subst (λ (l : Linkage). Enters l n n) (sym is) refl) left done e
    entered_end Static is zero left done e = absurd (cc e)
    entered_end Static is (suc n) left done e = started_end (suc n) n (subst (λ (l : Linkage). Enters l (suc n) n) (sym is) refl) left done e

  call_end : (fs : List Function) (name : List ℕ) (n left : ℕ) (given : List CValue) (memory : Memory) (done : Returned) → call_of p fs name n given memory ≡ Got left done → Passing fs name n given memory done
  call_end [] name n left given memory done e = absurd (cc e)
  call_end (f ∷ fs) name n left given memory done e = by (bytes_eq f.name name) e (call_end fs name n left given memory done)
    where
      by : (b : Bool) → (if b then function_meaning p f (expression_call p fs) (call_of p fs) else call_of p fs name) n given memory ≡ Got left done
          → (call_of p fs name n given memory ≡ Got left done → Passing fs name n given memory done)
          → (now : Memory) × OneOrOther b (FunctionPasses p f (expression_call p fs) (call_of p fs) (ExpressionPasses p fs) (CallPasses p fs) n given memory now) (CallPasses p fs name n given memory now) × (done.memory ≡ take (length memory) now)
      by true e more = entered_end f fs memory given f.linkage refl n left done e
      by false e more = more e

pub calls_pass : CallsPassToTheirEnds
calls_pass p name n left given memory done e = call_end p p.functions name n left given memory done e
