-- What a function returns is a value of the type that it declares.
use Rattle.std.proofs.Common.{◌≡◌, ℕ, zero, suc, ◌^◌, ◌<◌, Bool, true, false, List, [], ◌∷◌, length, Option, Some, None, refl, subst, arith, ℤ, pos, negsuc}
use Rattle.std.specs.Prelude.{if◌then◌else◌, nat_lt, option_and_then, bytes_eq}
use Rattle.wf_num.specs.CArithmetic.{modulo}
use Rattle.turns.specs.Run.{Next, Go, Turn, Outcome, Got, More, Lost, onward, holding}
use Rattle.turns.specs.Steps.{NextKeeps, AnswersWith}
use Rattle.turns.proofs.Invariants.{run_keeps}
use Rattle.c_text.specs.declared.kinds.Linkage.{Linkage}
use Rattle.c_text.specs.declared.kinds.Linkage.TheVariants.{External, Static, StaticInline}
use Rattle.c_text.specs.CTree.{TypeTree, ExprTree, Code, finish, nested, empty, assign, call, jump, branch, repeat, select, leave, case_label, default_label, name_label}
use Rattle.c_meaning.specs.declared.values.CValue.{CValue}
use Rattle.c_meaning.specs.declared.values.CValue.TheVariants.{Numeric as numeric, Address as address, NullPointer as null_pointer}
use Rattle.c_meaning.specs.CValues.{whole, holds}
use Rattle.c_meaning.specs.declared.cells.CellType.{CellType}
use Rattle.c_meaning.specs.declared.cells.CellType.TheVariants.{U8 as u8, U16 as u16, U32 as u32, U64 as u64, Flag as flag, Pointer as pointer}
use Rattle.c_meaning.specs.CMemory.{Memory, cell_of, value_of}
use Rattle.c_meaning.specs.CTypes.{Function, function_named}
use Rattle.c_meaning.specs.CExprs.{value, place, cell_type, arg_values, all_some}
use Rattle.c_meaning.specs.CStep.{Continuation, stop, behind, again, Place, at, place_weight, by_name, by_case, by_default, first_of, find as find_label, Returned, Meaning, Running, State, state, weight, surroundings, goes_on, by_test, takes_turn, tested_again, leaps, jumps, enters, switches, kept, goes_back, calls, Callee, memory_move, memory_set, own, callee_of, move_given, set_given, calls_function, returns, result_value, assigned, at_end, step_at, step}
use Rattle.c_meaning.specs.CCall.{Program, running, without_frame, body_run, entered, function_meaning, expression_call, ExprMeaning, call_of, host_call}
use Rattle.c_step_calls.specs.Kinds.{ValueIs, ResultIs}

left_over : (z : ℤ) (m : ℕ) → 0 < m → modulo z m < m
left_over (pos n) m h = omega arith
left_over (negsuc n) m h = omega arith

-- A converted value.
abbrev OptIs : CellType → Option CValue → Type 0
OptIs type None = Unit {0}
OptIs type (Some v) = ValueIs type v

converted_is : (type : CellType) (v : CValue) → OptIs type (option_and_then (value_of type) (cell_of type v))
converted_is u8 (numeric n) = left_over (whole n) (2 ^ 8) (omega arith)
converted_is u16 (numeric n) = left_over (whole n) (2 ^ 16) (omega arith)
converted_is u32 (numeric n) = left_over (whole n) (2 ^ 32) (omega arith)
converted_is u64 (numeric n) = left_over (whole n) (2 ^ 64) (omega arith)
converted_is flag (numeric n) = tt
converted_is pointer (numeric n) = tt
converted_is u8 null_pointer = tt
converted_is u8 (address p) = tt
converted_is u16 null_pointer = tt
converted_is u16 (address p) = tt
converted_is u32 null_pointer = tt
converted_is u32 (address p) = tt
converted_is u64 null_pointer = tt
converted_is u64 (address p) = tt
converted_is flag null_pointer = tt
converted_is flag (address p) = tt
converted_is pointer null_pointer = tt
converted_is pointer (address p) = tt

result_is : (type : Option TypeTree) (v : Option CValue) → ResultIs type (result_value type v)
result_is None v = tt
result_is (Some t) None = tt
result_is (Some t) (Some v) = by (option_and_then (value_of (cell_type t)) (cell_of (cell_type t) v)) (converted_is (cell_type t) v)
  where
    by : (o : Option CValue) → OptIs (cell_type t) o → ResultIs (Some t) o
    by None h = tt
    by (Some w) h = h

none_is : (type : Option TypeTree) → ResultIs type None
none_is None = tt
none_is (Some t) = tt

-- Every step.
module _ (r : Running) where
  abbrev Fine : Next State Returned → Type 0
  Fine next = NextKeeps (λ (s : State). Unit {0}) (λ (done : Returned). ResultIs r.result_type done.value) next

  goes_fine : (rest : Code) (k : Continuation) (o : Option Memory) → Fine (goes_on rest k o)
  goes_fine rest k None = tt
  goes_fine rest k (Some memory) = tt

  test_fine : (o : Option CValue) (met unmet : Next State Returned) → Fine met → Fine unmet → Fine (by_test o met unmet)
  test_fine None met unmet h q = tt
  test_fine (Some v) met unmet h q = by (holds v)
    where
      by : (b : Bool) → Fine (if b then met else unmet)
      by true = h
      by false = q

  turn_fine : (n : ℕ) (next : ℕ → Next State Returned) → ((left : ℕ) → Fine (next left)) → Fine (takes_turn n next)
  turn_fine zero next h = tt
  turn_fine (suc n) next h = h n

  leaps_fine : (b : Bool) (n : ℕ) (target : Place) (memory : Memory) → Fine (leaps b n target memory)
  leaps_fine true n target memory = tt
  leaps_fine false n target memory = turn_fine n (λ left. Turn left (record { place = target; memory = memory })) (λ left. tt)

  jumps_fine : (n : ℕ) (from : Place) (o : Option Place) (memory : Memory) → Fine (jumps n from o memory)
  jumps_fine n from None memory = tt
  jumps_fine n from (Some target) memory = leaps_fine (nat_lt (place_weight target) (place_weight from)) n target memory

  enters_fine : (o : Option Place) (rest : Code) (k : Continuation) (memory : Memory) → Fine (enters o rest k memory)
  enters_fine None rest k memory = tt
  enters_fine (Some p) rest k memory = tt

  switches_fine : (o : Option CValue) (body rest : Code) (k : Continuation) (memory : Memory) → Fine (switches o body rest k memory)
  switches_fine None body rest k memory = tt
  switches_fine (Some (numeric n)) body rest k memory = enters_fine (first_of (find_label (by_case n) body (behind finish rest k)) (find_label by_default body (behind finish rest k))) rest k memory
  switches_fine (Some (address p)) body rest k memory = tt
  switches_fine (Some null_pointer) body rest k memory = tt

  onward_fine : (n left : ℕ) (s : State) → Fine (onward n left s)
  unfolding onward
  onward_fine n left s = by (nat_lt left n)
    where
      by : (b : Bool) → Fine (if b then Turn left s else Go s)
      by true = tt
      by false = tt

  back_fine : (n left : ℕ) (rest : Code) (k : Continuation) (o : Option Memory) → Fine (goes_back n left rest k o)
  back_fine n left rest k None = tt
  back_fine n left rest k (Some memory) = onward_fine n left (state rest k memory)

  holding_fine : (o : Outcome Returned) (on : ℕ → Returned → Next State Returned) → ((left : ℕ) (done : Returned) → Fine (on left done)) → Fine (holding o on)
  unfolding holding
  holding_fine (Got left done) on h = h left done
  holding_fine More on h = tt
  holding_fine Lost on h = tt

  calls_fine : (n : ℕ) (target : Option ExprTree) (meaning : Meaning) (o : Option (List CValue)) (rest : Code) (k : Continuation) (memory : Memory) → Fine (calls r n target meaning o rest k memory)
  calls_fine n target meaning None rest k memory = tt
  calls_fine n target meaning (Some given) rest k memory = holding_fine (meaning n given memory) (λ left done. goes_back n left rest k (kept r memory target done)) (λ left done. back_fine n left rest k (kept r memory target done))

  called_fine : (c : Callee) (n : ℕ) (target : Option ExprTree) (name : List ℕ) (given : List (Option CValue)) (rest : Code) (k : Continuation) (memory : Memory) → Fine (calls_function c r n target name given rest k memory)
  called_fine memory_move n target name given rest k memory = goes_fine rest k (move_given memory given)
  called_fine memory_set n target name given rest k memory = goes_fine rest k (set_given memory given)
  called_fine own n target name given rest k memory = calls_fine n target (r.callee name) (all_some given) rest k memory

  end_fine : (n : ℕ) (k : Continuation) (memory : Memory) → Fine (at_end r n k memory)
  end_fine n stop memory = none_is r.result_type
  end_fine n (behind passed rest k) memory = tt
  end_fine n (again test body k) memory = turn_fine n (tested_again r test body k memory) (λ left. test_fine (value (surroundings r memory) test) (Turn left (state body (again test body k) memory)) (Turn left (state finish k memory)) tt tt)

  returns_fine : (n : ℕ) (memory : Memory) (o : Option CValue) → ResultIs r.result_type o → Fine (returns n memory o)
  returns_fine n memory None h = tt
  returns_fine n memory (Some v) h = h

  step_fine : (n : ℕ) (code : Code) (k : Continuation) (memory : Memory) → Fine (step_at r n code k memory)
  step_fine n finish k memory = end_fine n k memory
  step_fine n (nested inner rest) k memory = tt
  step_fine n (empty rest) k memory = tt
  step_fine n (assign target v rest) k memory = goes_fine rest k (assigned memory (place (surroundings r memory) target) (value (surroundings r memory) v))
  step_fine n (call target function given rest) k memory = called_fine (callee_of function) n target function (arg_values (surroundings r memory) given) rest k memory
  step_fine n (jump label rest) k memory = jumps_fine n (at (jump label rest) k) (find_label (by_name label) r.body stop) memory
  step_fine n (branch test body otherwise other rest) k memory = test_fine (value (surroundings r memory) test) (Go (state body (behind other rest k) memory)) (Go (state other (behind finish rest k) memory)) tt tt
  step_fine n (repeat test body rest) k memory = test_fine (value (surroundings r memory) test) (Go (state body (again test body (behind finish rest k)) memory)) (Go (state rest k memory)) tt tt
  step_fine n (select on body rest) k memory = switches_fine (value (surroundings r memory) on) body rest k memory
  step_fine n (leave None rest) k memory = none_is r.result_type
  step_fine n (leave (Some v) rest) k memory = returns_fine n memory (result_value r.result_type (value (surroundings r memory) v)) (result_is r.result_type (value (surroundings r memory) v))
  step_fine n (case_label number rest) k memory = tt
  step_fine n (default_label rest) k memory = tt
  step_fine n (name_label name rest) k memory = tt

  abbrev pub Ended : Outcome Returned → Type 0
  Ended o = AnswersWith (λ (done : Returned). ResultIs r.result_type done.value) o

  body_fine : (f : Function) (n : ℕ) (o : Option Memory) → Ended (body_run r f n o)
  body_fine f n None = tt
  body_fine f n (Some memory) = run_keeps (step r) weight (λ (s : State). Unit {0}) (λ (done : Returned). ResultIs r.result_type done.value) (λ n s h. step_fine n s.place.code s.place.continuation s.memory) n (state f.body stop memory) tt

  without_fine : (objects : ℕ) (o : Outcome Returned) → Ended o → Ended (without_frame objects o)
  without_fine objects (Got left done) h = h
  without_fine objects More h = tt
  without_fine objects Lost h = tt

-- A function, and the one of a name.
abbrev EndsAs : Option TypeTree → Outcome Returned → Type 0
EndsAs type o = AnswersWith (λ (done : Returned). ResultIs type done.value) o

entered_fine : (type : Option TypeTree) (linkage : Linkage) (n : ℕ) (go : ℕ → Outcome Returned) → ((left : ℕ) → EndsAs type (go left)) → EndsAs type (entered linkage n go)
entered_fine type Static zero go h = tt
entered_fine type Static (suc n) go h = h n
entered_fine type External n go h = h n
entered_fine type StaticInline n go h = h n

function_fine : (p : Program) (f : Function) (e : List ℕ → ExprMeaning) (c : List ℕ → Meaning) (n : ℕ) (given : List CValue) (memory : Memory) → EndsAs f.result_type (function_meaning p f e c n given memory)
function_fine p f e c n given memory =
    entered_fine f.result_type f.linkage n _ (λ left. without_fine (running p f e c (length memory)) (length memory) _ (body_fine (running p f e c (length memory)) f left _))

abbrev FoundAs : List Function → (name : List ℕ) → Option CValue → Type 0
FoundAs fs name v = (f : Function) × (function_named fs name ≡ Some f) × ResultIs f.result_type v

call_fine : (p : Program) (fs : List Function) (name : List ℕ) (n left : ℕ) (given : List CValue) (memory : Memory) (done : Returned) → call_of p fs name n given memory ≡ Got left done → FoundAs fs name done.value
call_fine p [] name n left given memory done e = absurd (cc (e))
call_fine p (f ∷ fs) name n left given memory done e =
    by (bytes_eq f.name name) (λ h. call_fine p fs name n left given memory done h) e
  where
    ends : (o : Outcome Returned) → EndsAs f.result_type o → o ≡ Got left done → ResultIs f.result_type done.value
    ends (Got m d) h q = let s : d ≡ done = cc (q) in subst (λ (x : Returned). ResultIs f.result_type x.value) s h
    ends More h q = absurd (cc (q))
    ends Lost h q = absurd (cc (q))

    by : (b : Bool) → (call_of p fs name n given memory ≡ Got left done → FoundAs fs name done.value)
        → (if b then function_meaning p f (expression_call p fs) (call_of p fs) else call_of p fs name) n given memory ≡ Got left done
        → (g : Function) × ((if b then Some f else function_named fs name) ≡ Some g) × ResultIs g.result_type done.value
    by true later q = (f, refl, ends (function_meaning p f (expression_call p fs) (call_of p fs) n given memory) (function_fine p f (expression_call p fs) (call_of p fs) n given memory) q)
    by false later q = later q

pub value_is : (p : Program) (name : List ℕ) (n left : ℕ) (given : List CValue) (memory : Memory) (done : Returned) → host_call p name n given memory ≡ Got left done → FoundAs p.functions name done.value
value_is p name n left given memory done e = call_fine p p.functions name n left given memory done e
