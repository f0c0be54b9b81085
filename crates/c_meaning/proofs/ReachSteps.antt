-- What a call can't reach stays as it was: steps, runs and calls.
use Rattle.std.proofs.Common.{◌≡◌, ℕ, zero, suc, ◌+◌, ◌<◌, ◌≤◌, Bool, true, false, List, [], ◌∷◌, ◌++◌, map, Option, Some, None, refl, sym, subst, ap, ◌∙◌, arith, length, take, length-append}
use Rattle.std.specs.Prelude.{if◌then◌else◌, nat_eq, nat_lt, slice_get, option_map, option_and_then, bytes_eq}
use Rattle.std.proofs.lemmas.Bool.{ltb-true, ltb-false}
use Rattle.turns.specs.Run.{Next, Go, Turn, End, Out, Fail, Outcome, Got, More, Lost, on_next, onward, holding, run}
use Rattle.turns.specs.Steps.{FallsTo}
use Rattle.turns.proofs.Unfolds.{unfolds}
use Rattle.c_text.specs.declared.kinds.Linkage.{Linkage}
use Rattle.c_text.specs.declared.kinds.Linkage.TheVariants.{External, Static, StaticInline}
use Rattle.c_text.specs.CTree.{TypeTree, ExprTree, Code, finish, nested, empty, assign, call, jump, branch, repeat, select, leave, case_label, default_label, name_label, ParamTree, LocalTree}
use Rattle.c_meaning.specs.CValues.{Pointer, same_pointer, CValue, numeric, address, null_pointer, holds}
use Rattle.c_meaning.specs.CMemory.{Cell, unset, Field, Object, Memory, cell_of, stored, zeroed}
use Rattle.c_meaning.specs.CTypes.{Function, local_name, returned}
use Rattle.c_meaning.specs.CExprs.{Surroundings, cell_type, value, place, pointed_place, arg_values, all_some}
use Rattle.c_meaning.specs.CStep.{Continuation, stop, behind, again, Place, at, place_weight, by_name, by_case, by_default, first_of, find, Returned, Meaning, Running, State, state, weight, surroundings, goes_on, by_test, takes_turn, tested_again, leaps, jumps, enters, switches, one_place, kept, goes_back, calls, Callee, memory_move, memory_set, own, callee_of, as_size, moves, zeroes, move_given, set_given, calls_function, returns, result_value, assigned, at_end, step_at, step}
use Rattle.c_meaning.specs.CCall.{Program, scope_in, field_with, passed, frame_object, ExprMeaning, returned_value, expression_meaning, expression_call, entered, initial_stored, initialized, without_frame, body_run, running, started, function_meaning, call_of, host_call}
use Rattle.c_meaning.specs.Reach.{ObjectIn, FoundIn, ValueIn, ValuesIn, IsReady, Keeps}
use Rattle.c_meaning.proofs.Weights.{step_falls}
use Rattle.c_meaning.proofs.ReachExprs.{PointerIn, OptIn, OptsIn, ListIn, OneIn, cell_of_in, as_type_opt, all_some_in, Around, value_in, place_in, args_in, pointed_in}
use Rattle.c_meaning.proofs.ReachMemory.{LeftIn, keeps_self, keeps_then, stored_in, move_in, zeroed_in}

module _ (inside : ℕ → Bool) where
  abbrev pub OutIn : Memory → Outcome Returned → Type 0
  OutIn before (Got left done) = Keeps inside before done.memory × OptIn inside done.value
  OutIn before More = Unit {0}
  OutIn before Lost = Unit {0}

  pub record MeaningIn (meaning : Meaning) : Type 0 where
    pub by : (n : ℕ) (given : List CValue) (memory : Memory) → IsReady inside memory → ValuesIn inside given → OutIn memory (meaning n given memory)

  pub record ExprIn (meaning : ExprMeaning) : Type 0 where
    pub by : (memory : Memory) (given : List CValue) → IsReady inside memory → ValuesIn inside given → OptIn inside (meaning memory given)

  abbrev NextIn : Memory → Next State Returned → Type 0
  NextIn before (Go s) = Keeps inside before s.memory
  NextIn before (Turn left s) = Keeps inside before s.memory
  NextIn before (End left done) = Keeps inside before done.memory × OptIn inside done.value
  NextIn before Out = Unit {0}
  NextIn before Fail = Unit {0}

  record RunIn (r : Running) : Type 0 where
    frame : inside r.frame ≡ true
    texts : (k : ℕ) → k < length r.scope.texts → inside k ≡ true
    expressions : (memory : Memory) → IsReady inside memory → (name : List ℕ) (given : List CValue) → ValuesIn inside given → OptIn inside (r.in_expressions memory name given)
    callee : (name : List ℕ) → MeaningIn (r.callee name)

  ready_then : (a b : Memory) → IsReady inside a → Keeps inside a b → IsReady inside b
  ready_then a b ready keeps = record { closed = keeps.closed; made = λ k h. ready.made k (omega (arith, h, keeps.size)) }

  left_then : (a b : Memory) (o : Option Memory) → Keeps inside a b → LeftIn inside b o → LeftIn inside a o
  left_then a b None keeps h = tt
  left_then a b (Some c) keeps h = keeps_then inside a b c keeps h

  module _ (r : Running) (rin : RunIn r) where
    around : (memory : Memory) → IsReady inside memory → Around inside (surroundings r memory)
    around memory ready = record { frame = rin.frame; closed = ready.closed; texts = rin.texts; calls = rin.expressions memory ready }

    module _ (memory : Memory) (ready : IsReady inside memory) where
      same : Keeps inside memory memory
      same = keeps_self inside memory ready.closed

      goes_on_in : (rest : Code) (k : Continuation) (o : Option Memory) → LeftIn inside memory o → NextIn memory (goes_on rest k o)
      goes_on_in rest k None h = tt
      goes_on_in rest k (Some now) h = h

      if_in : (b : Bool) (met unmet : Next State Returned) → NextIn memory met → NextIn memory unmet → NextIn memory (if b then met else unmet)
      if_in true met unmet h k = h
      if_in false met unmet h k = k

      by_test_in : (o : Option CValue) (met unmet : Next State Returned) → NextIn memory met → NextIn memory unmet → NextIn memory (by_test o met unmet)
      by_test_in None met unmet h k = tt
      by_test_in (Some v) met unmet h k = if_in (holds v) met unmet h k

      takes_turn_in : (n : ℕ) (f : ℕ → Next State Returned) → ((m : ℕ) → NextIn memory (f m)) → NextIn memory (takes_turn n f)
      takes_turn_in zero f h = tt
      takes_turn_in (suc n) f h = h n

      leaps_in : (b : Bool) (n : ℕ) (target : Place) → NextIn memory (leaps b n target memory)
      leaps_in true n target = same
      leaps_in false n target = takes_turn_in n (λ left. Turn left (record { place = target; memory = memory })) (λ m. same)

      jumps_in : (n : ℕ) (from : Place) (o : Option Place) → NextIn memory (jumps n from o memory)
      jumps_in n from None = tt
      jumps_in n from (Some target) = leaps_in (nat_lt (place_weight target) (place_weight from)) n target

      enters_in : (o : Option Place) (rest : Code) (k : Continuation) → NextIn memory (enters o rest k memory)
      enters_in None rest k = same
      enters_in (Some p) rest k = same

      switches_in : (o : Option CValue) (body rest : Code) (k : Continuation) → NextIn memory (switches o body rest k memory)
      switches_in None body rest k = tt
      switches_in (Some (numeric n)) body rest k = enters_in (first_of (find (by_case n) body (behind finish rest k)) (find by_default body (behind finish rest k))) rest k
      switches_in (Some (address p)) body rest k = tt
      switches_in (Some null_pointer) body rest k = tt

      assigned_in : (p : Option Pointer) (v : Option CValue) → PointerIn inside p → OptIn inside v → LeftIn inside memory (assigned memory p v)
      assigned_in None v h k = tt
      assigned_in (Some p) None h k = tt
      assigned_in (Some p) (Some v) h k = stored_in inside memory ready.closed p v h k

      moves_in : (to from : Option Pointer) (n : Option ℕ) → PointerIn inside to → PointerIn inside from → LeftIn inside memory (moves memory to from n)
      moves_in None from n h k = tt
      moves_in (Some to) None n h k = tt
      moves_in (Some to) (Some from) None h k = tt
      moves_in (Some to) (Some from) (Some n) h k = move_in inside memory ready.closed to from n h k

      move_given_in : (given : List (Option CValue)) → OptsIn inside given → LeftIn inside memory (move_given memory given)
      move_given_in [] h = tt
      move_given_in (a ∷ []) h = tt
      move_given_in (a ∷ b ∷ []) h = tt
      move_given_in (a ∷ b ∷ c ∷ []) h = moves_in (pointed_place a) (pointed_place b) (as_size c) (pointed_in inside a h.0) (pointed_in inside b h.1.0)
      move_given_in (a ∷ b ∷ c ∷ d ∷ others) h = tt

      zeroes_in : (p : Option Pointer) → PointerIn inside p → LeftIn inside memory (zeroes memory p)
      zeroes_in None h = tt
      zeroes_in (Some p) h = by_index (nat_eq p.index 0)
        where
          by_index : (b : Bool) → LeftIn inside memory (if b then zeroed memory p.object else None)
          by_index true = zeroed_in inside memory ready.closed p.object h
          by_index false = tt

      set_given_in : (given : List (Option CValue)) → OptsIn inside given → LeftIn inside memory (set_given memory given)
      set_given_in [] h = tt
      set_given_in (a ∷ others) h = zeroes_in (pointed_place a) (pointed_in inside a h.0)

      one_place_in : (before after : Option Pointer) → PointerIn inside after → PointerIn inside (one_place before after)
      one_place_in None after h = tt
      one_place_in (Some p) None h = tt
      one_place_in (Some p) (Some q) h = by_same (same_pointer p q)
        where
          by_same : (b : Bool) → PointerIn inside (if b then Some q else None)
          by_same true = h
          by_same false = tt

      kept_in : (target : Option ExprTree) (done : Returned) → Keeps inside memory done.memory → OptIn inside done.value → LeftIn inside memory (kept r memory target done)
      kept_in None done h k = h
      kept_in (Some target) done h k = left_then memory done.memory _ h (by_value done.value k)
        where
          by_place : (v : CValue) → ValueIn inside v → (p : Option Pointer) → PointerIn inside p → LeftIn inside done.memory (option_and_then (λ q. stored done.memory q v) p)
          by_place v g None e = tt
          by_place v g (Some p) e = stored_in inside done.memory h.closed p v e g

          by_value : (v : Option CValue) → OptIn inside v → LeftIn inside done.memory (option_and_then (λ v. option_and_then (λ p. stored done.memory p v) (one_place (place (surroundings r memory) target) (place (surroundings r done.memory) target))) v)
          by_value None g = tt
          by_value (Some v) g = by_place v g (one_place (place (surroundings r memory) target) (place (surroundings r done.memory) target))
              (one_place_in (place (surroundings r memory) target) (place (surroundings r done.memory) target) (place_in inside (surroundings r done.memory) (around done.memory (ready_then memory done.memory ready h)) target))

      with_turns_in : (n left : ℕ) (t : State) → Keeps inside memory t.memory → NextIn memory (onward n left t)
      unfolding onward
      with_turns_in n left t h = if_in (nat_lt left n) (Turn left t) (Go t) h h

      goes_back_in : (n left : ℕ) (rest : Code) (k : Continuation) (o : Option Memory) → LeftIn inside memory o → NextIn memory (goes_back n left rest k o)
      goes_back_in n left rest k None h = tt
      goes_back_in n left rest k (Some now) h = with_turns_in n left (state rest k now) h

      holding_in : (o : Outcome Returned) (on : ℕ → Returned → Next State Returned) → OutIn memory o → ((left : ℕ) (done : Returned) → Keeps inside memory done.memory → OptIn inside done.value → NextIn memory (on left done)) → NextIn memory (holding o on)
      unfolding holding
      holding_in (Got left done) on h f = f left done h.0 h.1
      holding_in More on h f = tt
      holding_in Lost on h f = tt

      calls_in : (n : ℕ) (target : Option ExprTree) (meaning : Meaning) (given : Option (List CValue)) (rest : Code) (k : Continuation) → MeaningIn meaning → ListIn inside given → NextIn memory (calls r n target meaning given rest k memory)
      calls_in n target meaning None rest k h g = tt
      calls_in n target meaning (Some given) rest k h g = holding_in (meaning n given memory) _ (h.by n given memory ready g) (λ left done a b. goes_back_in n left rest k (kept r memory target done) (kept_in target done a b))

      calls_function_in : (c : Callee) (n : ℕ) (target : Option ExprTree) (name : List ℕ) (given : List (Option CValue)) (rest : Code) (k : Continuation) → OptsIn inside given → NextIn memory (calls_function c r n target name given rest k memory)
      calls_function_in memory_move n target name given rest k h = goes_on_in rest k (move_given memory given) (move_given_in given h)
      calls_function_in memory_set n target name given rest k h = goes_on_in rest k (set_given memory given) (set_given_in given h)
      calls_function_in own n target name given rest k h = calls_in n target (r.callee name) (all_some given) rest k (rin.callee name) (all_some_in inside given h)

      returns_in : (n : ℕ) (v : Option CValue) → OptIn inside v → NextIn memory (returns n memory v)
      returns_in n None h = tt
      returns_in n (Some v) h = (same, h)

      result_in : (t : Option TypeTree) (v : Option CValue) → OptIn inside v → OptIn inside (result_value t v)
      result_in None v h = tt
      result_in (Some t) v h = as_type_opt inside t v h

      end_in : (n : ℕ) (k : Continuation) → NextIn memory (at_end r n k memory)
      end_in n stop = (same, tt)
      end_in n (behind passed rest k) = same
      end_in n (again test body k) = takes_turn_in n (tested_again r test body k memory) (λ m. by_test_in (value (surroundings r memory) test) _ _ same same)

      step_in : (n : ℕ) (c : Code) (k : Continuation) → NextIn memory (step_at r n c k memory)
      step_in n finish k = end_in n k
      step_in n (nested inner rest) k = same
      step_in n (empty rest) k = same
      step_in n (assign target v rest) k = goes_on_in rest k _ (assigned_in (place (surroundings r memory) target) (value (surroundings r memory) v) (place_in inside (surroundings r memory) (around memory ready) target) (value_in inside (surroundings r memory) (around memory ready) v))
      step_in n (call target function given rest) k = calls_function_in (callee_of function) n target function (arg_values (surroundings r memory) given) rest k (args_in inside (surroundings r memory) (around memory ready) given)
      step_in n (jump label rest) k = jumps_in n (at (jump label rest) k) (find (by_name label) r.body stop)
      step_in n (branch test body otherwise other rest) k = by_test_in (value (surroundings r memory) test) _ _ same same
      step_in n (repeat test body rest) k = by_test_in (value (surroundings r memory) test) _ _ same same
      step_in n (select on body rest) k = switches_in (value (surroundings r memory) on) body rest k
      step_in n (leave None rest) k = (same, tt)
      step_in n (leave (Some v) rest) k = returns_in n _ (result_in r.result_type (value (surroundings r memory) v) (value_in inside (surroundings r memory) (around memory ready) v))
      step_in n (case_label number rest) k = same
      step_in n (default_label rest) k = same
      step_in n (name_label name rest) k = same

    -- A run.
    module _ (before : Memory) (ready : IsReady inside before) where
      next_in : (n : ℕ) (s : State) (next : Next State Returned) → FallsTo weight n (weight s) next → Keeps inside before s.memory → NextIn s.memory next
          → ((t : State) → weight t < weight s → Keeps inside before t.memory → OutIn before (run (step r) weight n t))
          → ((m : ℕ) (t : State) → m < n → Keeps inside before t.memory → OutIn before (run (step r) weight m t))
          → OutIn before (on_next next (run (step r) weight n) (run (step r) weight))
      next_in n s (Go t) f keeps h p q = p t f (keeps_then inside before s.memory t.memory keeps h)
      next_in n s (Turn m t) f keeps h p q = q m t f (keeps_then inside before s.memory t.memory keeps h)
      next_in n s (End m done) f keeps h p q = (keeps_then inside before s.memory done.memory keeps h.0, h.1)
      next_in n s Out f keeps h p q = tt
      next_in n s Fail f keeps h p q = tt

      run_by : (n fuel : ℕ) (s : State) → weight s < fuel → Keeps inside before s.memory
          → ((m : ℕ) (t : State) → m < n → Keeps inside before t.memory → OutIn before (run (step r) weight m t))
          → OutIn before (run (step r) weight n s)
      run_by n zero s h keeps q = absurd (omega (arith, h))
      run_by n (suc fuel) s h keeps q =
          subst (OutIn before) (sym (unfolds (step r) weight (step_falls r) n s))
          (next_in n s (step r n s) ((step_falls r).by n s) keeps (step_in s.memory (ready_then before s.memory ready keeps) n s.place.code s.place.continuation)
          (λ t below kept_. run_by n fuel t (omega (arith, h, below)) kept_ q) q)

      run_up_to : (most n : ℕ) (s : State) → n < most → Keeps inside before s.memory → OutIn before (run (step r) weight n s)
      run_up_to zero n s h keeps = absurd (omega (arith, h))
      run_up_to (suc most) n s h keeps = run_by n (suc (weight s)) s (omega arith) keeps (λ m t below kept_. run_up_to most m t (omega (arith, h, below)) kept_)

      run_in : (n : ℕ) (s : State) → Keeps inside before s.memory → OutIn before (run (step r) weight n s)
      run_in n s keeps = run_up_to (suc n) n s (omega arith) keeps

    initial_in : (memory : Memory) → IsReady inside memory → (field : ℕ) (e : Option ExprTree) → LeftIn inside memory (initial_stored r field e memory)
    initial_in memory ready field None = keeps_self inside memory ready.closed
    initial_in memory ready field (Some e) = by_value (value (surroundings r memory) e) (value_in inside (surroundings r memory) (around memory ready) e)
      where
        by_value : (v : Option CValue) → OptIn inside v → LeftIn inside memory (option_and_then (stored memory (record { object = r.frame; field = field; index = 0 })) v)
        by_value None h = tt
        by_value (Some v) h = stored_in inside memory ready.closed (record { object = r.frame; field = field; index = 0 }) v rin.frame h

    then_in : (before : Memory) → IsReady inside before → (o : Option Memory) (f : Memory → Option Memory) → LeftIn inside before o → ((memory : Memory) → IsReady inside memory → LeftIn inside memory (f memory)) → LeftIn inside before (option_and_then f o)
    then_in before ready None f h g = tt
    then_in before ready (Some now) f h g = left_then before now (f now) h (g now (ready_then before now ready h))

    initialized_in : (ls : List LocalTree) (field : ℕ) (memory : Memory) → IsReady inside memory → LeftIn inside memory (initialized r field ls memory)
    initialized_in [] field memory ready = keeps_self inside memory ready.closed
    initialized_in (l ∷ ls) field memory ready = then_in memory ready (initial_stored r field l.initial memory) (initialized r (field + 1) ls) (initial_in memory ready field l.initial) (λ now k. initialized_in ls (field + 1) now k)

    body_in : (f : Function) (n : ℕ) (before : Memory) → IsReady inside before → (o : Option Memory) → LeftIn inside before o → OutIn before (body_run r f n o)
    body_in f n before ready None h = tt
    body_in f n before ready (Some now) h = run_in before ready n (state f.body stop now) h

  -- The object of a call.
  abbrev ObjIn : Option Object → Type 0
  ObjIn None = Unit {0}
  ObjIn (Some object) = ObjectIn inside object

  passed_cell : (p : ParamTree) (rest : Option (List Field)) (c : Option Cell) → OneIn inside c → ObjIn rest → ObjIn (option_and_then (λ cell. option_map (λ fields. field_with p cell ∷ fields) rest) c)
  passed_cell p rest None h k = tt
  passed_cell p None (Some c) h k = tt
  passed_cell p (Some fields) (Some c) h k = ((h, tt), k)

  passed_in : (ps : List ParamTree) (vs : List CValue) → ValuesIn inside vs → ObjIn (passed ps vs)
  passed_in [] [] h = tt
  passed_in [] (v ∷ vs) h = tt
  passed_in (p ∷ ps) [] h = tt
  passed_in (p ∷ ps) (v ∷ vs) h = passed_cell p (passed ps vs) (cell_of (cell_type p.kind) v) (cell_of_in inside (cell_type p.kind) v h.0) (passed_in ps vs h.1)

  unset_in : (ls : List LocalTree) → ObjectIn inside (map (λ l. field_with (local_name l) unset) ls)
  unset_in [] = tt
  unset_in (l ∷ ls) = ((tt, tt), unset_in ls)

  append_object : (xs ys : Object) → ObjectIn inside xs → ObjectIn inside ys → ObjectIn inside (xs ++ ys)
  append_object [] ys h k = k
  append_object (x ∷ xs) ys h k = (h.0, append_object xs ys h.1 k)

  frame_in : (f : Function) (given : List CValue) → ValuesIn inside given → ObjIn (frame_object f given)
  frame_in f given h = with_locals (passed f.params given) (passed_in f.params given h)
    where
      with_locals : (o : Option Object) → ObjIn o → ObjIn (option_map (λ fields. fields ++ map (λ l. field_with (local_name l) unset) f.locals) o)
      with_locals None k = tt
      with_locals (Some fields) k = append_object fields _ k (unset_in f.locals)

  -- Memory with one object more, and without it again.
  found_append : (memory : Memory) (object : Object) (k : ℕ) → ObjectIn inside object → FoundIn inside (slice_get memory k) → FoundIn inside (slice_get (memory ++ object ∷ []) k)
  found_append [] object zero h g = h
  found_append [] object (suc k) h g = tt
  found_append (x ∷ xs) object zero h g = g
  found_append (x ∷ xs) object (suc k) h g = found_append xs object k h g

  pub longer : (memory : Memory) (object : Object) → length (memory ++ object ∷ []) ≡ length memory + 1
  longer memory object = simp length-append

  pub ready_append : (memory : Memory) (object : Object) → IsReady inside memory → ObjectIn inside object → IsReady inside (memory ++ object ∷ [])
  ready_append memory object ready h = record { closed = record { by = λ k e. found_append memory object k h (ready.closed.by k e) }; made = λ k l. ready.made k (omega (arith, l, longer memory object)) }

  get_append : (memory : Memory) (object : Object) (k : ℕ) → k < length memory → slice_get (memory ++ object ∷ []) k ≡ slice_get memory k
  get_append [] object k h = absurd (omega (arith, h))
  get_append (x ∷ xs) object zero h = refl
  get_append (x ∷ xs) object (suc k) h = get_append xs object k (omega (arith, h))

  pub get_take : (memory : Memory) (n k : ℕ) → k < n → slice_get (take n memory) k ≡ slice_get memory k
  get_take memory zero k h = absurd (omega (arith, h))
  get_take [] (suc n) k h = refl
  get_take (x ∷ xs) (suc n) zero h = refl
  get_take (x ∷ xs) (suc n) (suc k) h = get_take xs n k (omega (arith, h))

  pub found_take : (memory : Memory) (n k : ℕ) → FoundIn inside (slice_get memory k) → FoundIn inside (slice_get (take n memory) k)
  found_take memory zero k h = tt
  found_take [] (suc n) k h = tt
  found_take (x ∷ xs) (suc n) zero h = h
  found_take (x ∷ xs) (suc n) (suc k) h = found_take xs n k h

  pub length_take : (memory : Memory) (n : ℕ) → n ≤ length memory → length (take n memory) ≡ n
  length_take memory zero h = refl
  length_take [] (suc n) h = absurd (omega (arith, h))
  length_take (x ∷ xs) (suc n) h = ap suc (length_take xs n (omega (arith, h)))

  pub below : (memory : Memory) → IsReady inside memory → (k : ℕ) → inside k ≡ false → k < length memory
  below memory ready k e = by_order (nat_lt k (length memory)) refl
    where
      by_order : (b : Bool) → nat_lt k (length memory) ≡ b → k < length memory
      by_order true t = ltb-true _ _ t
      by_order false t = absurd (cc (e, ready.made k (ltb-false _ _ t)))

  frame_gone : (memory : Memory) (object : Object) → IsReady inside memory → (now : Memory) → Keeps inside (memory ++ object ∷ []) now → Keeps inside memory (take (length memory) now)
  frame_gone memory object ready now keeps = record {
    outside = λ k e. let h : k < length memory = below memory ready k e in get_take now (length memory) k h ∙ (keeps.outside k e ∙ get_append memory object k h);
    size = length_take now (length memory) (omega (arith, keeps.size, longer memory object));
    closed = record { by = λ k e. found_take now (length memory) k (keeps.closed.by k e) };
  }

  without_in : (memory : Memory) (object : Object) → IsReady inside memory → (o : Outcome Returned) → OutIn (memory ++ object ∷ []) o → OutIn memory (without_frame (length memory) o)
  without_in memory object ready (Got left done) h = (frame_gone memory object ready done.memory h.0, h.1)
  without_in memory object ready More h = tt
  without_in memory object ready Lost h = tt

  started_in : (r : Running) → RunIn r → (f : Function) (given : List CValue) (memory : Memory) → IsReady inside memory → ValuesIn inside given → (n : ℕ) → OutIn memory (started r f given memory n)
  started_in r rin f given memory ready h n = by_object (frame_object f given) (frame_in f given h)
    where
      by_object : (o : Option Object) → ObjIn o → OutIn memory (without_frame (length memory) (body_run r f n (option_and_then (λ fields. initialized r (length f.params) f.locals (memory ++ fields ∷ [])) o)))
      by_object None k = tt
      by_object (Some object) k =
          let now : IsReady inside (memory ++ object ∷ []) = ready_append memory object ready k in
          without_in memory object ready _ (body_in r rin f n (memory ++ object ∷ []) now _ (initialized_in r rin f.locals (length f.params) (memory ++ object ∷ []) now))

  entered_in : (before : Memory) (linkage : Linkage) (n : ℕ) (go : ℕ → Outcome Returned) → ((m : ℕ) → OutIn before (go m)) → OutIn before (entered linkage n go)
  entered_in before Static zero go h = tt
  entered_in before Static (suc n) go h = h n
  entered_in before External n go h = h n
  entered_in before StaticInline n go h = h n

  module _ (p : Program) (texts : (k : ℕ) → k < length p.texts → inside k ≡ true) where
    result_of : (t : Option TypeTree) (v : Option CValue) → OptIn inside v → OptIn inside (result_value t v)
    result_of None v h = tt
    result_of (Some t) v h = as_type_opt inside t v h

    valued : (s : Surroundings) → Around inside s → (e : Option ExprTree) → OptIn inside (option_and_then (value s) e)
    valued s around_ None = tt
    valued s around_ (Some e) = value_in inside s around_ e

    expression_in : (f : Function) (callee : List ℕ → ExprMeaning) → ((name : List ℕ) → ExprIn (callee name)) → ExprIn (expression_meaning p f callee)
    expression_in f callee h = record { by = λ memory given ready k. by_object memory ready (passed f.params given) (passed_in f.params given k) }
      where
        by_object : (memory : Memory) → IsReady inside memory → (o : Option Object) → ObjIn o → OptIn inside (option_and_then (λ fields. returned_value p f callee (length memory) (memory ++ fields ∷ [])) o)
        by_object memory ready None k = tt
        by_object memory ready (Some object) k =
            let now : IsReady inside (memory ++ object ∷ []) = ready_append memory object ready k in
            result_of f.result_type _ (valued (record { scope = scope_in p f; frame = length memory; memory = memory ++ object ∷ []; called = λ name. callee name (memory ++ object ∷ []) })
            (record { frame = ready.made (length memory) (omega arith); closed = now.closed; texts = texts; calls = λ name given g. (h name).by (memory ++ object ∷ []) given now g }) (returned f.body))

    if_expr : (b : Bool) (one other : ExprMeaning) → ExprIn one → ExprIn other → ExprIn (if b then one else other)
    if_expr true one other h k = h
    if_expr false one other h k = k

    expressions_in : (fs : List Function) (name : List ℕ) → ExprIn (expression_call p fs name)
    expressions_in [] name = record { by = λ memory given ready k. tt }
    expressions_in (f ∷ fs) name = if_expr (bytes_eq f.name name) _ _ (expression_in f (expression_call p fs) (expressions_in fs)) (expressions_in fs name)

    function_in : (f : Function) (in_expressions : List ℕ → ExprMeaning) (callee : List ℕ → Meaning) → ((name : List ℕ) → ExprIn (in_expressions name)) → ((name : List ℕ) → MeaningIn (callee name)) → MeaningIn (function_meaning p f in_expressions callee)
    function_in f in_expressions callee h g = record { by = λ n given memory ready k. entered_in memory f.linkage n _ (started_in (running p f in_expressions callee (length memory)) (runs memory ready) f given memory ready k) }
      where
        runs : (memory : Memory) → IsReady inside memory → RunIn (running p f in_expressions callee (length memory))
        runs memory ready = record { frame = ready.made (length memory) (omega arith); texts = texts; expressions = λ now now_ready name given e. (h name).by now given now_ready e; callee = g }

    if_meaning : (b : Bool) (one other : Meaning) → MeaningIn one → MeaningIn other → MeaningIn (if b then one else other)
    if_meaning true one other h k = h
    if_meaning false one other h k = k

    pub call_in : (fs : List Function) (name : List ℕ) → MeaningIn (call_of p fs name)
    call_in [] name = record { by = λ n given memory ready k. tt }
    call_in (f ∷ fs) name = if_meaning (bytes_eq f.name name) _ _ (function_in f (expression_call p fs) (call_of p fs) (expressions_in fs) (call_in fs)) (call_in fs name)

pub function_keeps : (inside : ℕ → Bool) (p : Program) (name : List ℕ) (n left : ℕ) (given : List CValue) (memory : Memory) (done : Returned)
    → ((k : ℕ) → k < length p.texts → inside k ≡ true) → IsReady inside memory → ValuesIn inside given
    → host_call p name n given memory ≡ Got left done → Keeps inside memory done.memory
function_keeps inside p name n left given memory done texts ready there e =
    let F : Outcome Returned → Type 0 = OutIn inside memory in
    let h : OutIn inside memory (Got left done) = subst F e ((call_in inside p texts p.functions name).by n given memory ready there) in h.0
