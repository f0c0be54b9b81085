-- More turns change no answer: of a step, of a function, and of what a host does.
use Rattle.std.proofs.Common.{◌≡◌, ℕ, zero, suc, ◌+◌, Bool, true, false, List, [], ◌∷◌, Option, Some, None, refl, arith, length, subst}
use Rattle.std.specs.Prelude.{if◌then◌else◌, nat_lt, option_map, option_and_then, bytes_eq, slice_get}
use Rattle.std.proofs.lemmas.Bool.Decides.{nat_tests}
use Rattle.turns.specs.Run.{Next, Go, Turn, Outcome, Got, More, Lost, onward, holding, run}
use Rattle.turns.specs.Steps.{IsRaised, Counts, IsRaisedTo}
use Rattle.turns.proofs.Raises.{same_answer, same_fault}
use Rattle.c_text.specs.declared.kinds.Linkage.{Linkage}
use Rattle.c_text.specs.declared.kinds.Linkage.TheVariants.{External, Static, StaticInline}
use Rattle.c_text.specs.CTree.{ExprTree, Code, finish, nested, empty, assign, call, jump, branch, repeat, select, leave, case_label, default_label, name_label}
use Rattle.wf_base.specs.HostRun.{Host, HostCall, Response, answers, needs_more, not_defined}
use Rattle.wf_base.specs.LawfulActions.{called_method}
use Rattle.c_meaning.specs.CValues.{CValue, numeric, address, null_pointer, holds}
use Rattle.c_meaning.specs.CMemory.{Memory}
use Rattle.c_meaning.specs.CTypes.{Function}
use Rattle.c_meaning.specs.CExprs.{value, place, all_some, arg_values}
use Rattle.c_meaning.specs.CStep.{Continuation, stop, behind, again, Place, at, place_weight, by_name, by_case, by_default, first_of, find, Returned, Meaning, Running, State, state, weight, surroundings, goes_on, by_test, takes_turn, tested_again, leaps, jumps, enters, switches, kept, goes_back, calls, Callee, memory_move, memory_set, own, callee_of, move_given, set_given, calls_function, returns, result_value, assigned, at_end, step_at, step}
use Rattle.c_meaning.specs.CCall.{Program, ExprMeaning, expression_call, entered, without_frame, body_run, running, started, function_meaning, call_of, host_call}
use Rattle.c_meaning.specs.CRun.{Loaded, response, defined, struct_of, init_ended, c_init, c_call, call_ended}
use Rattle.c_meaning.proofs.Weights.{step_falls}

pub record Raises (meaning : Meaning) : Type 0 where
  pub by : (n more : ℕ) (given : List CValue) (memory : Memory) → IsRaisedTo more (meaning n given memory) (meaning (n + more) given memory)

abbrev Up : ℕ → Next State Returned → Next State Returned → Type 0
Up more next other = IsRaised more next other

module _ (more : ℕ) where
  goes_on_up : (rest : Code) (k : Continuation) (o : Option Memory) → Up more (goes_on rest k o) (goes_on rest k o)
  goes_on_up rest k None = refl
  goes_on_up rest k (Some memory) = refl

  if_up : (b : Bool) (met unmet met' unmet' : Next State Returned) → Up more met met' → Up more unmet unmet' → Up more (if b then met else unmet) (if b then met' else unmet')
  if_up true met unmet met' unmet' h k = h
  if_up false met unmet met' unmet' h k = k

  by_test_up : (o : Option CValue) (met unmet met' unmet' : Next State Returned) → Up more met met' → Up more unmet unmet' → Up more (by_test o met unmet) (by_test o met' unmet')
  by_test_up None met unmet met' unmet' h k = refl
  by_test_up (Some v) met unmet met' unmet' h k = if_up (holds v) met unmet met' unmet' h k

  takes_turn_up : (n : ℕ) (f : ℕ → Next State Returned) → ((m : ℕ) → Up more (f m) (f (m + more))) → Up more (takes_turn n f) (takes_turn (n + more) f)
  takes_turn_up zero f h = tt
  takes_turn_up (suc m) f h = let e : suc m + more ≡ suc (m + more) = omega arith in rw e (h m)

  leaps_up : (b : Bool) (n : ℕ) (target : Place) (memory : Memory) → Up more (leaps b n target memory) (leaps b (n + more) target memory)
  leaps_up true n target memory = refl
  leaps_up false n target memory = takes_turn_up n (λ left. Turn left (record { place = target; memory = memory })) (λ m. refl)

  jumps_up : (n : ℕ) (from : Place) (o : Option Place) (memory : Memory) → Up more (jumps n from o memory) (jumps (n + more) from o memory)
  jumps_up n from None memory = refl
  jumps_up n from (Some target) memory = leaps_up (nat_lt (place_weight target) (place_weight from)) n target memory

  enters_up : (o : Option Place) (rest : Code) (k : Continuation) (memory : Memory) → Up more (enters o rest k memory) (enters o rest k memory)
  enters_up None rest k memory = refl
  enters_up (Some p) rest k memory = refl

  switches_up : (o : Option CValue) (body rest : Code) (k : Continuation) (memory : Memory) → Up more (switches o body rest k memory) (switches o body rest k memory)
  switches_up None body rest k memory = refl
  switches_up (Some (address p)) body rest k memory = refl
  switches_up (Some null_pointer) body rest k memory = refl
  switches_up (Some (numeric x)) body rest k memory = enters_up (first_of (find (by_case x) body (behind finish rest k)) (find by_default body (behind finish rest k))) rest k memory

  same_order : (left n : ℕ) → nat_lt (left + more) (n + more) ≡ nat_lt left n
  same_order left n = grind (arith, nat_tests)

  with_turns_up : (n left : ℕ) (t : State) → Up more (onward n left t) (onward (n + more) (left + more) t)
  unfolding onward
  with_turns_up n left t = rw (same_order left n) (by_cases (nat_lt left n))
    where
      by_cases : (b : Bool) → Up more (if b then Turn left t else Go t) (if b then Turn (left + more) t else Go t)
      by_cases true = refl
      by_cases false = refl

  goes_back_up : (n left : ℕ) (rest : Code) (k : Continuation) (o : Option Memory) → Up more (goes_back n left rest k o) (goes_back (n + more) (left + more) rest k o)
  goes_back_up n left rest k None = refl
  goes_back_up n left rest k (Some memory) = with_turns_up n left (state rest k memory)

  holding_up : (o o' : Outcome Returned) (on on' : ℕ → Returned → Next State Returned) → IsRaisedTo more o o' → ((left : ℕ) (done : Returned) → Up more (on left done) (on' (left + more) done)) → Up more (holding o on) (holding o' on')
  unfolding holding
  holding_up (Got left done) o' on on' e h = rw e (h left done)
  holding_up More o' on on' e h = tt
  holding_up Lost o' on on' e h = rw e refl

  calls_up : (r : Running) (n : ℕ) (target : Option ExprTree) (meaning : Meaning) (given : Option (List CValue)) (rest : Code) (k : Continuation) (memory : Memory) → Raises meaning
      → Up more (calls r n target meaning given rest k memory) (calls r (n + more) target meaning given rest k memory)
  calls_up r n target meaning None rest k memory h = refl
  calls_up r n target meaning (Some given) rest k memory h = holding_up (meaning n given memory) (meaning (n + more) given memory) _ _ (h.by n more given memory) (λ left done. goes_back_up n left rest k (kept r memory target done))

  calls_function_up : (c : Callee) (r : Running) (n : ℕ) (target : Option ExprTree) (name : List ℕ) (given : List (Option CValue)) (rest : Code) (k : Continuation) (memory : Memory) → Raises (r.callee name)
      → Up more (calls_function c r n target name given rest k memory) (calls_function c r (n + more) target name given rest k memory)
  calls_function_up memory_move r n target name given rest k memory h = goes_on_up rest k (move_given memory given)
  calls_function_up memory_set r n target name given rest k memory h = goes_on_up rest k (set_given memory given)
  calls_function_up own r n target name given rest k memory h = calls_up r n target (r.callee name) (all_some given) rest k memory h

  returns_up : (n : ℕ) (memory : Memory) (o : Option CValue) → Up more (returns n memory o) (returns (n + more) memory o)
  returns_up n memory None = refl
  returns_up n memory (Some v) = refl

  end_up : (r : Running) (n : ℕ) (k : Continuation) (memory : Memory) → Up more (at_end r n k memory) (at_end r (n + more) k memory)
  end_up r n stop memory = refl
  end_up r n (behind passed rest k) memory = refl
  end_up r n (again test body k) memory = takes_turn_up n (tested_again r test body k memory) (λ m. by_test_up (value (surroundings r memory) test) _ _ _ _ refl refl)

  step_up : (r : Running) → ((name : List ℕ) → Raises (r.callee name)) → (n : ℕ) (c : Code) (k : Continuation) (memory : Memory) → Up more (step_at r n c k memory) (step_at r (n + more) c k memory)
  step_up r h n finish k memory = end_up r n k memory
  step_up r h n (nested inner rest) k memory = refl
  step_up r h n (empty rest) k memory = refl
  step_up r h n (assign target v rest) k memory = goes_on_up rest k (assigned memory (place (surroundings r memory) target) (value (surroundings r memory) v))
  step_up r h n (call target function given rest) k memory = calls_function_up (callee_of function) r n target function (arg_values (surroundings r memory) given) rest k memory (h function)
  step_up r h n (jump label rest) k memory = jumps_up n (at (jump label rest) k) (find (by_name label) r.body stop) memory
  step_up r h n (branch test body otherwise other rest) k memory = by_test_up (value (surroundings r memory) test) _ _ _ _ refl refl
  step_up r h n (repeat test body rest) k memory = by_test_up (value (surroundings r memory) test) _ _ _ _ refl refl
  step_up r h n (select on body rest) k memory = switches_up (value (surroundings r memory) on) body rest k memory
  step_up r h n (leave None rest) k memory = refl
  step_up r h n (leave (Some v) rest) k memory = returns_up n memory (result_value r.result_type (value (surroundings r memory) v))
  step_up r h n (case_label number rest) k memory = refl
  step_up r h n (default_label rest) k memory = refl
  step_up r h n (name_label name rest) k memory = refl

pub step_counts : (r : Running) → ((name : List ℕ) → Raises (r.callee name)) → Counts (step r)
step_counts r h = record { by = λ n more s. step_up more r h n s.place.code s.place.continuation s.memory }

-- A function whose callees count turns counts them too.
run_up : (r : Running) → ((name : List ℕ) → Raises (r.callee name)) → (n more : ℕ) (s : State) → IsRaisedTo more (run (step r) weight n s) (run (step r) weight (n + more) s)
run_up r h n more s = by_cases (run (step r) weight n s) refl
  where
    by_cases : (o : Outcome Returned) → run (step r) weight n s ≡ o → IsRaisedTo more o (run (step r) weight (n + more) s)
    by_cases (Got left a) e = same_answer (step r) weight (step_falls r) (step_counts r h) more n left s a e
    by_cases More e = tt
    by_cases Lost e = same_fault (step r) weight (step_falls r) (step_counts r h) more n s e

body_up : (r : Running) → ((name : List ℕ) → Raises (r.callee name)) → (f : Function) (n more : ℕ) (o : Option Memory) → IsRaisedTo more (body_run r f n o) (body_run r f (n + more) o)
body_up r h f n more None = refl
body_up r h f n more (Some memory) = run_up r h n more (state f.body stop memory)

frame_up : (more objects : ℕ) (o o' : Outcome Returned) → IsRaisedTo more o o' → IsRaisedTo more (without_frame objects o) (without_frame objects o')
frame_up more objects (Got left done) o' e = rw e refl
frame_up more objects More o' e = tt
frame_up more objects Lost o' e = rw e refl

entered_up : (linkage : Linkage) (n more : ℕ) (go : ℕ → Outcome Returned) → ((m : ℕ) → IsRaisedTo more (go m) (go (m + more))) → IsRaisedTo more (entered linkage n go) (entered linkage (n + more) go)
entered_up Static zero more go h = tt
entered_up Static (suc m) more go h = let e : suc m + more ≡ suc (m + more) = omega arith in rw e (h m)
entered_up External n more go h = h n
entered_up StaticInline n more go h = h n

function_up : (p : Program) (f : Function) (in_expressions : List ℕ → ExprMeaning) (callee : List ℕ → Meaning) → ((name : List ℕ) → Raises (callee name)) → Raises (function_meaning p f in_expressions callee)
function_up p f in_expressions callee h = record {
  by = λ n more given memory. entered_up f.linkage n more (started (running p f in_expressions callee (length memory)) f given memory)
      (λ m. frame_up more (length memory) _ _ (body_up (running p f in_expressions callee (length memory)) h f m more _));
}

if_raises : (b : Bool) (one other : Meaning) → Raises one → Raises other → Raises (if b then one else other)
if_raises true one other h k = h
if_raises false one other h k = k

pub call_raises : (p : Program) (fs : List Function) (name : List ℕ) → Raises (call_of p fs name)
call_raises p [] name = record { by = λ n more given memory. refl }
call_raises p (f ∷ fs) name = if_raises (bytes_eq f.name name) _ _ (function_up p f (expression_call p fs) (call_of p fs) (call_raises p fs)) (call_raises p fs name)

-- What a host does: unless the first needs more turns, the second is the same.
abbrev pub Same : {A : Type 0} → Response A → Response A → Type 0
Same (answers a after) other = other ≡ answers a after
Same needs_more other = Unit {0}
Same not_defined other = other ≡ not_defined

same_self : {A : Type 0} (r : Response A) → Same r r
same_self (answers a after) = refl
same_self needs_more = tt
same_self not_defined = refl

response_same : {A : Type 0} (ended : Returned → Response A) (more : ℕ) (o o' : Outcome Returned) → IsRaisedTo more o o' → Same (response ended o) (response ended o')
response_same ended more (Got left done) o' e = rw e (same_self (ended done))
response_same ended more More o' e = tt
response_same ended more Lost o' e = rw e refl

and_then_same : {A B : Type 0} (o : Option A) (f g : A → Option (Response B)) → ((a : A) → Same (defined (f a)) (defined (g a))) → Same (defined (option_and_then f o)) (defined (option_and_then g o))
and_then_same None f g h = refl
and_then_same (Some a) f g h = h a

map_same : {A B : Type 0} (o : Option A) (f g : A → Response B) → ((a : A) → Same (f a) (g a)) → Same (defined (option_map f o)) (defined (option_map g o))
map_same None f g h = refl
map_same (Some a) f g h = h a

pub init_same : (it : Loaded) (memory : Memory) (k n more : ℕ) → Same (c_init it memory k n) (c_init it memory k (n + more))
init_same it memory k n more = and_then_same (struct_of it k) _ _ (λ s. map_same (slice_get it.pointers k) _ _ (λ receiver. response_same (init_ended it (length memory)) more _ _ ((call_raises it.program it.program.functions _).by n more (receiver ∷ []) memory)))

pub call_same : (it : Loaded) (memory : Memory) (called : HostCall) (host : Host) (n more : ℕ) → Same (c_call it memory called host n) (c_call it memory called host (n + more))
call_same it memory called host n more = and_then_same (struct_of it called.receiver) _ _ (λ s. and_then_same (called_method it.surface it.receivers called) _ _ (λ method. map_same (slice_get it.pointers called.receiver) _ _
    (λ receiver. response_same (call_ended it memory method called host _) more _ _ ((call_raises it.program it.program.functions _).by n more _ _))))

pub same_answered : {A : Type 0} (r other : Response A) → Same r other → (a : _) (after : A) → r ≡ answers a after → other ≡ answers a after
same_answered r other h a after e = let P : Response _ → Type 0 = λ x. Same x other in subst P e h

pub same_undefined : {A : Type 0} (r other : Response A) → Same r other → r ≡ not_defined → other ≡ not_defined
same_undefined r other h e = let P : Response _ → Type 0 = λ x. Same x other in subst P e h

pub returned_more : (p : Program) (name : List ℕ) (n more left : ℕ) (given : List CValue) (memory : Memory) (done : Returned)
    → host_call p name n given memory ≡ Got left done → host_call p name (n + more) given memory ≡ Got (left + more) done
returned_more p name n more left given memory done e =
    let P : Outcome Returned → Type 0 = λ o. IsRaisedTo more o (host_call p name (n + more) given memory) in subst P e ((call_raises p p.functions name).by n more given memory)

pub undefined_more : (p : Program) (name : List ℕ) (n more : ℕ) (given : List CValue) (memory : Memory)
    → host_call p name n given memory ≡ Lost → host_call p name (n + more) given memory ≡ Lost
undefined_more p name n more given memory e =
    let P : Outcome Returned → Type 0 = λ o. IsRaisedTo more o (host_call p name (n + more) given memory) in subst P e ((call_raises p p.functions name).by n more given memory)
