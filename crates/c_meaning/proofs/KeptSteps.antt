-- What every store, `memmove` and `memset` keeps, and the object of a call too, is kept by whole calls.
use Rattle.std.proofs.Common.{◌≡◌, ℕ, zero, suc, ◌+◌, ◌<◌, Bool, true, false, List, [], ◌∷◌, ◌++◌, Option, Some, None, refl, sym, subst, arith, length, take}
use Rattle.std.specs.Prelude.{if◌then◌else◌, nat_eq, nat_lt, option_and_then, bytes_eq}
use Rattle.turns.specs.Run.{Next, Go, Turn, End, Out, Fail, Outcome, Got, More, Lost, on_next, onward, holding, run}
use Rattle.turns.specs.Steps.{FallsTo}
use Rattle.turns.proofs.Unfolds.{unfolds}
use Rattle.c_text.specs.declared.kinds.Linkage.{Linkage}
use Rattle.c_text.specs.declared.kinds.Linkage.TheVariants.{External, Static, StaticInline}
use Rattle.c_text.specs.CTree.{ExprTree, Code, finish, nested, empty, assign, call, jump, branch, repeat, select, leave, case_label, default_label, name_label, LocalTree}
use Rattle.c_meaning.specs.CValues.{Pointer, CValue, numeric, address, null_pointer, holds}
use Rattle.c_meaning.specs.CMemory.{Object, Memory, stored, move_bytes, zeroed}
use Rattle.c_meaning.specs.CTypes.{Function}
use Rattle.c_meaning.specs.CExprs.{value, place, pointed_place, arg_values, all_some}
use Rattle.c_meaning.specs.CStep.{Continuation, stop, behind, again, Place, at, place_weight, by_name, by_case, by_default, first_of, find, Returned, Meaning, Running, State, state, weight, surroundings, goes_on, by_test, takes_turn, tested_again, leaps, jumps, enters, switches, one_place, kept, goes_back, calls, Callee, memory_move, memory_set, own, callee_of, as_size, moves, zeroes, move_given, set_given, calls_function, returns, result_value, assigned, at_end, step_at, step}
use Rattle.c_meaning.specs.CCall.{Program, frame_object, ExprMeaning, expression_call, entered, initial_stored, initialized, without_frame, body_run, running, started, function_meaning, call_of}
use Rattle.c_meaning.proofs.Weights.{step_falls}

abbrev pub LeftBy : (Memory → Memory → Type 0) → Memory → Option Memory → Type 0
LeftBy R before None = Unit {0}
LeftBy R before (Some now) = R before now

abbrev pub OutBy : (Memory → Memory → Type 0) → Memory → Outcome Returned → Type 0
OutBy R before (Got left done) = R before done.memory
OutBy R before More = Unit {0}
OutBy R before Lost = Unit {0}

-- R is kept, between memories of which Fit holds.
pub record IsKept (Fit : Memory → Type 0) (R : Memory → Memory → Type 0) : Type 0 where
  pub same : (memory : Memory) → Fit memory → R memory memory
  pub chain : (a b c : Memory) → R a b → R b c → R a c
  pub fit : (a b : Memory) → Fit a → R a b → Fit b
  pub stores : (memory : Memory) → Fit memory → (p : Pointer) (v : CValue) → LeftBy R memory (stored memory p v)
  pub moves : (memory : Memory) → Fit memory → (to from : Pointer) (n : ℕ) → LeftBy R memory (move_bytes memory to from n)
  pub sets : (memory : Memory) → Fit memory → (object : ℕ) → LeftBy R memory (zeroed memory object)
  pub enters : (memory : Memory) → Fit memory → (f : Function) (given : List CValue) (object : Object) → frame_object f given ≡ Some object → Fit (memory ++ object ∷ [])
  pub exits : (memory : Memory) → Fit memory → (object : Object) (now : Memory) → R (memory ++ object ∷ []) now → R memory (take (length memory) now)

module _ (Fit : Memory → Type 0) (R : Memory → Memory → Type 0) (is_kept : IsKept Fit R) where
  pub record MeaningBy (meaning : Meaning) : Type 0 where
    pub by : (n : ℕ) (given : List CValue) (memory : Memory) → Fit memory → OutBy R memory (meaning n given memory)

  abbrev NextBy : Memory → Next State Returned → Type 0
  NextBy before (Go s) = R before s.memory
  NextBy before (Turn left s) = R before s.memory
  NextBy before (End left done) = R before done.memory
  NextBy before Out = Unit {0}
  NextBy before Fail = Unit {0}

  left_then : (a b : Memory) (o : Option Memory) → R a b → LeftBy R b o → LeftBy R a o
  left_then a b None h k = tt
  left_then a b (Some c) h k = is_kept.chain a b c h k

  module _ (r : Running) (callees : (name : List ℕ) → MeaningBy (r.callee name)) where
    module _ (memory : Memory) (ready : Fit memory) where
      same : R memory memory
      same = is_kept.same memory ready

      goes_on_by : (rest : Code) (k : Continuation) (o : Option Memory) → LeftBy R memory o → NextBy memory (goes_on rest k o)
      goes_on_by rest k None h = tt
      goes_on_by rest k (Some now) h = h

      if_by : (b : Bool) (met unmet : Next State Returned) → NextBy memory met → NextBy memory unmet → NextBy memory (if b then met else unmet)
      if_by true met unmet h k = h
      if_by false met unmet h k = k

      by_test_by : (o : Option CValue) (met unmet : Next State Returned) → NextBy memory met → NextBy memory unmet → NextBy memory (by_test o met unmet)
      by_test_by None met unmet h k = tt
      by_test_by (Some v) met unmet h k = if_by (holds v) met unmet h k

      takes_turn_by : (n : ℕ) (f : ℕ → Next State Returned) → ((m : ℕ) → NextBy memory (f m)) → NextBy memory (takes_turn n f)
      takes_turn_by zero f h = tt
      takes_turn_by (suc n) f h = h n

      leaps_by : (b : Bool) (n : ℕ) (target : Place) → NextBy memory (leaps b n target memory)
      leaps_by true n target = same
      leaps_by false n target = takes_turn_by n (λ left. Turn left (record { place = target; memory = memory })) (λ m. same)

      jumps_by : (n : ℕ) (from : Place) (o : Option Place) → NextBy memory (jumps n from o memory)
      jumps_by n from None = tt
      jumps_by n from (Some target) = leaps_by (nat_lt (place_weight target) (place_weight from)) n target

      enters_by : (o : Option Place) (rest : Code) (k : Continuation) → NextBy memory (enters o rest k memory)
      enters_by None rest k = same
      enters_by (Some p) rest k = same

      switches_by : (o : Option CValue) (body rest : Code) (k : Continuation) → NextBy memory (switches o body rest k memory)
      switches_by None body rest k = tt
      switches_by (Some (numeric n)) body rest k = enters_by (first_of (find (by_case n) body (behind finish rest k)) (find by_default body (behind finish rest k))) rest k
      switches_by (Some (address p)) body rest k = tt
      switches_by (Some null_pointer) body rest k = tt

      assigned_by : (p : Option Pointer) (v : Option CValue) → LeftBy R memory (assigned memory p v)
      assigned_by None v = tt
      assigned_by (Some p) None = tt
      assigned_by (Some p) (Some v) = is_kept.stores memory ready p v

      moves_by : (to from : Option Pointer) (n : Option ℕ) → LeftBy R memory (moves memory to from n)
      moves_by None from n = tt
      moves_by (Some to) None n = tt
      moves_by (Some to) (Some from) None = tt
      moves_by (Some to) (Some from) (Some n) = is_kept.moves memory ready to from n

      move_given_by : (given : List (Option CValue)) → LeftBy R memory (move_given memory given)
      move_given_by [] = tt
      move_given_by (a ∷ []) = tt
      move_given_by (a ∷ b ∷ []) = tt
      move_given_by (a ∷ b ∷ c ∷ []) = moves_by (pointed_place a) (pointed_place b) (as_size c)
      move_given_by (a ∷ b ∷ c ∷ d ∷ others) = tt

      zeroes_by : (p : Option Pointer) → LeftBy R memory (zeroes memory p)
      zeroes_by None = tt
      zeroes_by (Some p) = by_index (nat_eq p.index 0)
        where
          by_index : (b : Bool) → LeftBy R memory (if b then zeroed memory p.object else None)
          by_index true = is_kept.sets memory ready p.object
          by_index false = tt

      set_given_by : (given : List (Option CValue)) → LeftBy R memory (set_given memory given)
      set_given_by [] = tt
      set_given_by (a ∷ others) = zeroes_by (pointed_place a)

      kept_by : (target : Option ExprTree) (done : Returned) → R memory done.memory → LeftBy R memory (kept r memory target done)
      kept_by None done h = h
      kept_by (Some target) done h = left_then memory done.memory _ h (by_value done.value)
        where
          by_place : (v : CValue) (p : Option Pointer) → LeftBy R done.memory (option_and_then (λ q. stored done.memory q v) p)
          by_place v None = tt
          by_place v (Some p) = is_kept.stores done.memory (is_kept.fit memory done.memory ready h) p v

          by_value : (v : Option CValue) → LeftBy R done.memory (option_and_then (λ v. option_and_then (λ p. stored done.memory p v) (one_place (place (surroundings r memory) target) (place (surroundings r done.memory) target))) v)
          by_value None = tt
          by_value (Some v) = by_place v (one_place (place (surroundings r memory) target) (place (surroundings r done.memory) target))

      goes_back_by : (n left : ℕ) (rest : Code) (k : Continuation) (o : Option Memory) → LeftBy R memory o → NextBy memory (goes_back n left rest k o)
      unfolding onward
      goes_back_by n left rest k None h = tt
      goes_back_by n left rest k (Some now) h = if_by (nat_lt left n) (Turn left (state rest k now)) (Go (state rest k now)) h h

      holding_by : (o : Outcome Returned) (on : ℕ → Returned → Next State Returned) → OutBy R memory o → ((left : ℕ) (done : Returned) → R memory done.memory → NextBy memory (on left done)) → NextBy memory (holding o on)
      unfolding holding
      holding_by (Got left done) on h f = f left done h
      holding_by More on h f = tt
      holding_by Lost on h f = tt

      calls_by : (n : ℕ) (target : Option ExprTree) (meaning : Meaning) (given : Option (List CValue)) (rest : Code) (k : Continuation) → MeaningBy meaning → NextBy memory (calls r n target meaning given rest k memory)
      calls_by n target meaning None rest k h = tt
      calls_by n target meaning (Some given) rest k h = holding_by (meaning n given memory) _ (h.by n given memory ready) (λ left done a. goes_back_by n left rest k (kept r memory target done) (kept_by target done a))

      calls_function_by : (c : Callee) (n : ℕ) (target : Option ExprTree) (name : List ℕ) (given : List (Option CValue)) (rest : Code) (k : Continuation) → NextBy memory (calls_function c r n target name given rest k memory)
      calls_function_by memory_move n target name given rest k = goes_on_by rest k (move_given memory given) (move_given_by given)
      calls_function_by memory_set n target name given rest k = goes_on_by rest k (set_given memory given) (set_given_by given)
      calls_function_by own n target name given rest k = calls_by n target (r.callee name) (all_some given) rest k (callees name)

      returns_by : (n : ℕ) (v : Option CValue) → NextBy memory (returns n memory v)
      returns_by n None = tt
      returns_by n (Some v) = same

      end_by : (n : ℕ) (k : Continuation) → NextBy memory (at_end r n k memory)
      end_by n stop = same
      end_by n (behind passed rest k) = same
      end_by n (again test body k) = takes_turn_by n (tested_again r test body k memory) (λ m. by_test_by (value (surroundings r memory) test) _ _ same same)

      step_by : (n : ℕ) (c : Code) (k : Continuation) → NextBy memory (step_at r n c k memory)
      step_by n finish k = end_by n k
      step_by n (nested inner rest) k = same
      step_by n (empty rest) k = same
      step_by n (assign target v rest) k = goes_on_by rest k _ (assigned_by (place (surroundings r memory) target) (value (surroundings r memory) v))
      step_by n (call target function given rest) k = calls_function_by (callee_of function) n target function (arg_values (surroundings r memory) given) rest k
      step_by n (jump label rest) k = jumps_by n (at (jump label rest) k) (find (by_name label) r.body stop)
      step_by n (branch test body otherwise other rest) k = by_test_by (value (surroundings r memory) test) _ _ same same
      step_by n (repeat test body rest) k = by_test_by (value (surroundings r memory) test) _ _ same same
      step_by n (select on body rest) k = switches_by (value (surroundings r memory) on) body rest k
      step_by n (leave None rest) k = same
      step_by n (leave (Some v) rest) k = returns_by n (result_value r.result_type (value (surroundings r memory) v))
      step_by n (case_label number rest) k = same
      step_by n (default_label rest) k = same
      step_by n (name_label name rest) k = same

    module _ (before : Memory) (ready : Fit before) where
      next_by : (n : ℕ) (s : State) (next : Next State Returned) → FallsTo weight n (weight s) next → R before s.memory → NextBy s.memory next
          → ((t : State) → weight t < weight s → R before t.memory → OutBy R before (run (step r) weight n t))
          → ((m : ℕ) (t : State) → m < n → R before t.memory → OutBy R before (run (step r) weight m t))
          → OutBy R before (on_next next (run (step r) weight n) (run (step r) weight))
      next_by n s (Go t) f keeps h p q = p t f (is_kept.chain before s.memory t.memory keeps h)
      next_by n s (Turn m t) f keeps h p q = q m t f (is_kept.chain before s.memory t.memory keeps h)
      next_by n s (End m done) f keeps h p q = is_kept.chain before s.memory done.memory keeps h
      next_by n s Out f keeps h p q = tt
      next_by n s Fail f keeps h p q = tt

      run_within : (n fuel : ℕ) (s : State) → weight s < fuel → R before s.memory
          → ((m : ℕ) (t : State) → m < n → R before t.memory → OutBy R before (run (step r) weight m t))
          → OutBy R before (run (step r) weight n s)
      run_within n zero s h keeps q = absurd (omega (arith, h))
      run_within n (suc fuel) s h keeps q =
          subst (OutBy R before) (sym (unfolds (step r) weight (step_falls r) n s))
          (next_by n s (step r n s) ((step_falls r).by n s) keeps (step_by s.memory (is_kept.fit before s.memory ready keeps) n s.place.code s.place.continuation)
          (λ t below kept_. run_within n fuel t (omega (arith, h, below)) kept_ q) q)

      run_up_to : (most n : ℕ) (s : State) → n < most → R before s.memory → OutBy R before (run (step r) weight n s)
      run_up_to zero n s h keeps = absurd (omega (arith, h))
      run_up_to (suc most) n s h keeps = run_within n (suc (weight s)) s (omega arith) keeps (λ m t below kept_. run_up_to most m t (omega (arith, h, below)) kept_)

    initial_by : (memory : Memory) → Fit memory → (field : ℕ) (e : Option ExprTree) → LeftBy R memory (initial_stored r field e memory)
    initial_by memory ready field None = is_kept.same memory ready
    initial_by memory ready field (Some e) = by_value (value (surroundings r memory) e)
      where
        by_value : (v : Option CValue) → LeftBy R memory (option_and_then (stored memory (record { object = r.frame; field = field; index = 0 })) v)
        by_value None = tt
        by_value (Some v) = is_kept.stores memory ready (record { object = r.frame; field = field; index = 0 }) v

    then_by : (before : Memory) → Fit before → (o : Option Memory) (f : Memory → Option Memory) → LeftBy R before o → ((memory : Memory) → Fit memory → LeftBy R memory (f memory)) → LeftBy R before (option_and_then f o)
    then_by before ready None f h g = tt
    then_by before ready (Some now) f h g = left_then before now (f now) h (g now (is_kept.fit before now ready h))

    initialized_by : (ls : List LocalTree) (field : ℕ) (memory : Memory) → Fit memory → LeftBy R memory (initialized r field ls memory)
    initialized_by [] field memory ready = is_kept.same memory ready
    initialized_by (l ∷ ls) field memory ready = then_by memory ready (initial_stored r field l.initial memory) (initialized r (field + 1) ls) (initial_by memory ready field l.initial) (λ now k. initialized_by ls (field + 1) now k)

    body_by : (f : Function) (n : ℕ) (before : Memory) → Fit before → (o : Option Memory) → LeftBy R before o → OutBy R before (body_run r f n o)
    body_by f n before ready None h = tt
    body_by f n before ready (Some now) h = run_up_to before ready (suc n) n (state f.body stop now) (omega arith) h

    without_by : (memory : Memory) → Fit memory → (object : Object) (o : Outcome Returned) → OutBy R (memory ++ object ∷ []) o → OutBy R memory (without_frame (length memory) o)
    without_by memory ready object (Got left done) h = is_kept.exits memory ready object done.memory h
    without_by memory ready object More h = tt
    without_by memory ready object Lost h = tt

    started_by : (f : Function) (given : List CValue) (memory : Memory) → Fit memory → (n : ℕ) → OutBy R memory (started r f given memory n)
    started_by f given memory ready n = by_object (frame_object f given) refl
      where
        by_object : (o : Option Object) → frame_object f given ≡ o → OutBy R memory (without_frame (length memory) (body_run r f n (option_and_then (λ fields. initialized r (length f.params) f.locals (memory ++ fields ∷ [])) o)))
        by_object None e = tt
        by_object (Some object) e =
            let now : Fit (memory ++ object ∷ []) = is_kept.enters memory ready f given object e in
            without_by memory ready object _ (body_by f n (memory ++ object ∷ []) now _ (initialized_by f.locals (length f.params) (memory ++ object ∷ []) now))

  entered_by : (before : Memory) (linkage : Linkage) (n : ℕ) (go : ℕ → Outcome Returned) → ((m : ℕ) → OutBy R before (go m)) → OutBy R before (entered linkage n go)
  entered_by before Static zero go h = tt
  entered_by before Static (suc n) go h = h n
  entered_by before External n go h = h n
  entered_by before StaticInline n go h = h n

  function_by : (p : Program) (f : Function) (in_expressions : List ℕ → ExprMeaning) (callee : List ℕ → Meaning) → ((name : List ℕ) → MeaningBy (callee name)) → MeaningBy (function_meaning p f in_expressions callee)
  function_by p f in_expressions callee h = record { by = λ n given memory ready. entered_by memory f.linkage n _ (started_by (running p f in_expressions callee (length memory)) h f given memory ready) }

  if_meaning : (b : Bool) (one other : Meaning) → MeaningBy one → MeaningBy other → MeaningBy (if b then one else other)
  if_meaning true one other h k = h
  if_meaning false one other h k = k

  pub call_by : (p : Program) (fs : List Function) (name : List ℕ) → MeaningBy (call_of p fs name)
  call_by p [] name = record { by = λ n given memory ready. tt }
  call_by p (f ∷ fs) name = if_meaning (bytes_eq f.name name) _ _ (function_by p f (expression_call p fs) (call_of p fs) (call_by p fs)) (call_by p fs name)
