-- An instruction does what the meaning does from the place that its number stands for.
use Rattle.std.proofs.Common.{◌≡◌, ℕ, zero, suc, ◌+◌, ◌<◌, ◌≤◌, Bool, true, false, List, Option, Some, None, refl, sym, ap, ◌∙◌, subst, arith}
use Rattle.std.specs.Prelude.{if◌then◌else◌, nat_lt, option_map, option_and_then}
use Rattle.std.proofs.lemmas.Bool.{lt-ltb}
use Rattle.std.proofs.lemmas.Bool.Decides.{nat_tests}
use Rattle.turns.specs.Run.{Next, Go, Turn, Outcome, Got, More, Lost, on_next, onward, holding, run}
use Rattle.turns.specs.Steps.{LeavesFewer}
use Rattle.turns.proofs.Unfolds.{unfolds}
use Rattle.c_text.specs.CTree.{TypeTree, ExprTree, Args, no_arg, expr_arg, sizeof_arg, Code, finish, nested, empty, assign, call, jump, branch, repeat, select, leave, case_label, default_label, name_label}
use Rattle.c_meaning.specs.declared.values.Number.{Number}
use Rattle.c_meaning.specs.declared.values.Pointer.{Pointer}
use Rattle.c_meaning.specs.declared.values.CValue.{CValue}
use Rattle.c_meaning.specs.declared.values.CValue.TheVariants.{Numeric as numeric, Address as address, NullPointer as null_pointer}
use Rattle.c_meaning.specs.CValues.{holds}
use Rattle.c_meaning.specs.CMemory.{Memory, stored}
use Rattle.c_meaning.specs.CExprs.{value, place, pointed_place, cell_type, as_type, arg_values, all_some}
use Rattle.c_meaning.specs.CStep.{Continuation, stop, behind, again, Place, at, code_weight, continuation_weight, place_weight, Label, by_name, by_case, by_default, first_of, find, Returned, Meaning, Running, State, state, weight, surroundings, goes_on, by_test, takes_turn, tested_again, leaps, jumps, enters, switches, one_place, kept, goes_back, calls, Callee, memory_move, memory_set, own, callee_of, move_given, set_given, zeroes, calls_function, returns, result_value, assigned, step}
use Rattle.c_meaning.proofs.Weights.{Within, found_within, step_falls}
use Rattle.c_step_exprs.specs.Instrs.{as_cell}
use Rattle.c_step_exprs.specs.Resolving.{function_number, value_code, place_code, args_code}
use Rattle.c_step_text.specs.Flat.{Span, Assign, Call, Move, Zero, Goto, Test, Back, Switch, Return, Finish, Stuck, FlatText, Has, HasOf, code_in, arms_in, arm_of}
use Rattle.c_step_text.specs.Layout.{Names, go, past, past_both, second, first_number, number_or, seek, LaidAssign, LaidMove, LaidZero, IsTarget, LaidOwn, LaidCall, LaidJump, LaidSwitch, LaidReturn, Laid, Follows, Stands}
use Rattle.c_step_text.specs.Labels.{Landing}
use Rattle.c_step_text.specs.Acting.{Activation, names_of, end_of, meaning_by, IsNumbered, IsLaid, Inside, runs, Target, runs_on, seen, evaluated, located, given_by, defined, tested, by_number, with_turn, with_turn_unless, after_call, moved_by, kept_by, Doing}
use Rattle.c_step_text.proofs.Landings.{lands_first, follows_behind, found, same_order}
use Rattle.c_step_text.proofs.Values.{value_evaluated, place_located, args_given, moved_alike}

go_reaches : (i next : ℕ) (c : Code) (end w : ℕ) → end ≤ i + w → end ≤ next + w → end ≤ go i next c + w
go_reaches i next finish end w h k = k
go_reaches i next c end w h k = h

go_after : (n i next : ℕ) (c : Code) → n < i → n < next → n < go i next c
go_after n i next finish h k = k
go_after n i next c h k = h

-- What follows a block stands no earlier than at the block's end.
reaches : (t : FlatText) (names : Names) (end next : ℕ) (k : Continuation) → Follows t names end next k → end ≤ next + continuation_weight k
reaches t names end next stop f = omega (arith, f.0)
reaches t names end next (behind passed rest k) f =
    let h : end ≤ go f.0 f.1 rest + continuation_weight (behind passed rest k) = go_reaches f.0 f.1 rest end (continuation_weight (behind passed rest k)) (omega (arith, f.3)) (omega (arith, reaches t names end f.1 k f.5)) in
    subst (λ (n : ℕ). end ≤ n + continuation_weight (behind passed rest k)) (sym f.2) h
reaches t names end next (again test body k) f = omega (arith, f.3)

later : (t : FlatText) (names : Names) (end n i next : ℕ) (c : Code) (k : Continuation) → n < i → i + code_weight c + continuation_weight k ≡ end → Follows t names end next k → n < go i next c
later t names end n i next c k h e f = let r : end ≤ next + continuation_weight k = reaches t names end next k f in go_after n i next c h (omega (arith, h, e, r))

module _ (r : Running) where
  abbrev on_from : ℕ → Next State Returned → Outcome Returned
  on_from left next = on_next next (run (step r) weight left) (run (step r) weight)

  after_memory : (left : ℕ) (rest : Code) (k : Continuation) (o : Option Memory) → on_from left (goes_on rest k o) ≡ defined o (λ memory. run (step r) weight left (state rest k memory))
  after_memory left rest k None = refl
  after_memory left rest k (Some memory) = refl

  after_if : (left : ℕ) (b : Bool) (met unmet : State) → on_from left (if b then Go met else Go unmet) ≡ (if b then run (step r) weight left met else run (step r) weight left unmet)
  after_if left true met unmet = refl
  after_if left false met unmet = refl

  after_test : (left : ℕ) (o : Option CValue) (met unmet : State) → on_from left (by_test o (Go met) (Go unmet)) ≡ tested o (run (step r) weight left met) (run (step r) weight left unmet)
  after_test left None met unmet = refl
  after_test left (Some v) met unmet = after_if left (holds v) met unmet

  after_turn_if : (left now : ℕ) (b : Bool) (met unmet : State) → on_from left (if b then Turn now met else Turn now unmet) ≡ (if b then run (step r) weight now met else run (step r) weight now unmet)
  after_turn_if left now true met unmet = refl
  after_turn_if left now false met unmet = refl

  after_back : (left : ℕ) (test : ExprTree) (body : Code) (k : Continuation) (memory : Memory)
      → on_from left (takes_turn left (tested_again r test body k memory))
      ≡ with_turn left (λ now. tested (value (surroundings r memory) test) (run (step r) weight now (state body (again test body k) memory)) (run (step r) weight now (state finish k memory)))
  after_back zero test body k memory = refl
  after_back (suc left) test body k memory = by_value (value (surroundings r memory) test)
    where
      by_value : (o : Option CValue) → on_from (suc left) (by_test o (Turn left (state body (again test body k) memory)) (Turn left (state finish k memory))) ≡ tested o (run (step r) weight left (state body (again test body k) memory)) (run (step r) weight left (state finish k memory))
      by_value None = refl
      by_value (Some v) = after_turn_if (suc left) left (holds v) (state body (again test body k) memory) (state finish k memory)

  after_leap : (b : Bool) (left : ℕ) (p : Place) (memory : Memory) → on_from left (leaps b left p memory) ≡ with_turn_unless b left (λ now. run (step r) weight now (record { place = p; memory = memory }))
  after_leap true left p memory = refl
  after_leap false zero p memory = refl
  after_leap false (suc left) p memory = refl

  after_return : (left : ℕ) (memory : Memory) (o : Option CValue) → on_from left (returns left memory o) ≡ defined o (λ v. Got left (record { memory = memory; value = Some v }))
  after_return left memory None = refl
  after_return left memory (Some v) = refl

  same_left : (now left : ℕ) → now ≤ left → nat_lt now left ≡ false → left ≡ now
  same_left now left h e = grind (arith, nat_tests, h, e)

  after_onward : (left now : ℕ) (s : State) → now ≤ left → on_from left (onward left now s) ≡ run (step r) weight now s
  unfolding onward
  after_onward left now s h = by_cases (nat_lt now left) refl
    where
      by_cases : (b : Bool) → nat_lt now left ≡ b → on_from left (if b then Turn now s else Go s) ≡ run (step r) weight now s
      by_cases true e = refl
      by_cases false e = ap (λ (n : ℕ). run (step r) weight n s) (same_left now left h e)

  after_kept : (left now : ℕ) (rest : Code) (k : Continuation) (o : Option Memory) → now ≤ left → on_from left (goes_back left now rest k o) ≡ defined o (λ memory. run (step r) weight now (state rest k memory))
  after_kept left now rest k None h = refl
  after_kept left now rest k (Some memory) h = after_onward left now (state rest k memory) h

  after_holding : (left : ℕ) (o : Outcome Returned) (on : ℕ → Returned → Next State Returned) (on' : ℕ → Returned → Outcome Returned) → LeavesFewer left o
      → ((now : ℕ) (done : Returned) → now ≤ left → on_from left (on now done) ≡ on' now done) → on_from left (holding o on) ≡ after_call o on'
  unfolding holding
  after_holding left (Got now done) on on' f h = h now done f
  after_holding left More on on' f h = refl
  after_holding left Lost on on' f h = refl

  lost_meaning : (left : ℕ) (o : Outcome Returned) (on : ℕ → Returned → Next State Returned) → o ≡ Lost → on_from left (holding o on) ≡ Lost
  unfolding holding
  lost_meaning left (Got now done) on e = absurd (cc (e))
  lost_meaning left More on e = absurd (cc (e))
  lost_meaning left Lost on e = refl

module _ (t : FlatText) (a : Activation) (laid_all : IsLaid t a) (numbered : IsNumbered a) where
  abbrev target : (n : ℕ) (code : Code) (k : Continuation) → Stands t (names_of a) (end_of a) n code k → Target t a n
  target n code k s = record { code = code; continuation = k; inside = record { laid = laid_all; numbered = numbered; stands = s } }

  first : (left : ℕ) (memory : Memory) (code : Code) (k : Continuation) → runs a code k left memory ≡ on_from a.running left (step a.running left (state code k memory))
  first left memory code k = unfolds (step a.running) weight (step_falls a.running) left (state code k memory)

  stands_at : (i next : ℕ) (code : Code) (k : Continuation) → i + code_weight code + continuation_weight k ≡ end_of a → Laid t (names_of a) i next code → Follows t (names_of a) (end_of a) next k → Stands t (names_of a) (end_of a) (go i next code) code k
  stands_at i next code k e l f = record { i = i; next = next; is = refl; tied = e; laid = l; follows = f }

  value_at : (memory : Memory) (span : Span) (e : ExprTree) → code_in t span ≡ value_code a.running.scope e → evaluated (seen a memory) (code_in t span) ≡ value (surroundings a.running memory) e
  value_at memory span e h = ap (λ (code : List _). evaluated (seen a memory) code) h ∙ value_evaluated (surroundings a.running memory) (a.calls memory) (numbered.values memory) e

  place_at : (memory : Memory) (span : Span) (e : ExprTree) → code_in t span ≡ place_code a.running.scope e → located (seen a memory) (code_in t span) ≡ place (surroundings a.running memory) e
  place_at memory span e h = ap (λ (code : List _). located (seen a memory) code) h ∙ place_located (surroundings a.running memory) (a.calls memory) (numbered.values memory) e

  args_at : (memory : Memory) (span : Span) (given : Args) → code_in t span ≡ args_code a.running.scope given → given_by (seen a memory) (code_in t span) ≡ all_some (arg_values (surroundings a.running memory) given)
  args_at memory span given h = ap (λ (code : List _). given_by (seen a memory) code) h ∙ args_given (surroundings a.running memory) (a.calls memory) (numbered.values memory) given

  -- To a later instruction without a turn.
  forward : (n m : ℕ) (code code' : Code) (k k' : Continuation) → Has t n (Goto m) → Stands t (names_of a) (end_of a) m code' k' → n < m
      → ((left : ℕ) (memory : Memory) → runs a code k left memory ≡ runs a code' k' left memory) → Doing t a n code k
  forward n m code code' k k' has s l is = record {
    instr = Goto m;
    has = has;
    h = runs a code' k';
    is = is;
    does = record { target = target m code' k' s; comes = λ left memory. sym (ap (λ (b : Bool). with_turn_unless b left (λ now. runs a code' k' now memory)) (lt-ltb n m l)) };
  }

  stuck : (n : ℕ) (code : Code) (k : Continuation) → Has t n Stuck → ((left : ℕ) (memory : Memory) → runs a code k left memory ≡ Lost) → Doing t a n code k
  stuck n code k has is = record { instr = Stuck; has = has; h = λ left memory. Lost; is = is; does = λ left memory. refl }

  -- An assignment.
  assigning : (i next : ℕ) (e v : ExprTree) (rest : Code) (k : Continuation) → LaidAssign t (names_of a) i next e v → Stands t (names_of a) (end_of a) next rest k → i < next → Doing t a i (assign e v rest) k
  assigning i next e v rest k l s after = record {
    instr = Assign l.place l.of.span next;
    has = l.of.has;
    h = λ left memory. defined (assigned memory (located (seen a memory) (code_in t l.place)) (evaluated (seen a memory) (code_in t l.of.span))) (runs a rest k left);
    is = λ left memory. first left memory (assign e v rest) k
        ∙ (after_memory a.running left rest k (assigned memory (place (surroundings a.running memory) e) (value (surroundings a.running memory) v))
        ∙ sym (ap (λ (o : Option Pointer). defined (assigned memory o (evaluated (seen a memory) (code_in t l.of.span))) (runs a rest k left)) (place_at memory l.place e l.code)
        ∙ ap (λ (o : Option CValue). defined (assigned memory (place (surroundings a.running memory) e) o) (runs a rest k left)) (value_at memory l.of.span v l.of.code)));
    does = record { target = target next rest k s; later = after; comes = λ left memory. refl };
  }

  -- Calls.
  same_kept : (e : Option ExprTree) (span : Option Span) (memory : Memory) (done : Returned) → IsTarget t (names_of a) e span → kept a.running memory e done ≡ kept_by a (option_map (code_in t) span) memory done
  same_kept None None memory done h = refl
  same_kept None (Some span) memory done h = absurd h
  same_kept (Some e) None memory done h = absurd h
  same_kept (Some e) (Some span) memory done h =
      sym (ap (λ (o : Option Pointer). option_and_then (λ (v : CValue). option_and_then (λ p. stored done.memory p v) (one_place o (located (seen a done.memory) (code_in t span)))) done.value) (place_at memory span e h)
      ∙ ap (λ (o : Option Pointer). option_and_then (λ (v : CValue). option_and_then (λ p. stored done.memory p v) (one_place (place (surroundings a.running memory) e) o)) done.value) (place_at done.memory span e h))

  called_lost : (left : ℕ) (e : Option ExprTree) (meaning : Meaning) (given : Option (List CValue)) (rest : Code) (k : Continuation) (memory : Memory) → ((values : List CValue) → meaning left values memory ≡ Lost)
      → on_from a.running left (calls a.running left e meaning given rest k memory) ≡ Lost
  called_lost left e meaning None rest k memory h = refl
  called_lost left e meaning (Some values) rest k memory h = lost_meaning a.running left (meaning left values memory) _ (h values)

  called_by : (left : ℕ) (e : Option ExprTree) (span : Option Span) (meaning : Meaning) (given : Option (List CValue)) (rest : Code) (k : Continuation) (memory : Memory) → IsTarget t (names_of a) e span → ((values : List CValue) → LeavesFewer left (meaning left values memory))
      → on_from a.running left (calls a.running left e meaning given rest k memory)
      ≡ defined given (λ values. after_call (meaning left values memory) (λ now done. defined (kept_by a (option_map (code_in t) span) memory done) (runs a rest k now)))
  called_by left e span meaning None rest k memory is fewer = refl
  called_by left e span meaning (Some values) rest k memory is fewer =
      after_holding a.running left (meaning left values memory) _ (λ now done. defined (kept_by a (option_map (code_in t) span) memory done) (runs a rest k now)) (fewer values)
      (λ now done h. after_kept a.running left now rest k (kept a.running memory e done) h ∙ ap (λ (o : Option Memory). defined o (runs a rest k now)) (same_kept e span memory done is))

  after_meaning : (left : ℕ) (rest : Code) (k : Continuation) (memory : Memory) (span : Option Span) (meaning other : Meaning) → ((values : List CValue) → meaning left values memory ≡ other left values memory) → (given : Option (List CValue))
      → defined given (λ values. after_call (meaning left values memory) (λ now done. defined (kept_by a (option_map (code_in t) span) memory done) (runs a rest k now)))
      ≡ defined given (λ values. after_call (other left values memory) (λ now done. defined (kept_by a (option_map (code_in t) span) memory done) (runs a rest k now)))
  after_meaning left rest k memory span meaning other h None = refl
  after_meaning left rest k memory span meaning other h (Some values) = ap (λ (o : Outcome Returned). after_call o (λ now done. defined (kept_by a (option_map (code_in t) span) memory done) (runs a rest k now))) (h values)

  zeroing : (i next : ℕ) (code rest : Code) (k : Continuation) → Stands t (names_of a) (end_of a) next rest k → i < next → (given : Args) → LaidZero t (names_of a) i next given
      → ((left : ℕ) (memory : Memory) → runs a code k left memory ≡ defined (set_given memory (arg_values (surroundings a.running memory) given)) (runs a rest k left)) → Doing t a i code k
  zeroing i next code rest k s after no_arg l is = stuck i code k l is
  zeroing i next code rest k s after (sizeof_arg name others) l is = stuck i code k l is
  zeroing i next code rest k s after (expr_arg v others) l is = record {
    instr = Zero l.span next;
    has = l.has;
    h = λ left memory. defined (zeroes memory (located (seen a memory) (code_in t l.span))) (runs a rest k left);
    is = λ left memory. is left memory ∙ sym (ap (λ (o : Option CValue). defined (zeroes memory (pointed_place o)) (runs a rest k left)) (value_at memory l.span v l.code));
    does = record { target = target next rest k s; later = after; comes = λ left memory. refl };
  }

  module _ (i next : ℕ) (e : Option ExprTree) (name : List ℕ) (given : Args) (rest : Code) (k : Continuation) (s : Stands t (names_of a) (end_of a) next rest k) (after : i < next) where
    abbrev IsStep : Callee → Type 0
    IsStep c = (left : ℕ) (memory : Memory) → step a.running left (state (call e name given rest) k memory) ≡ calls_function c a.running left e name (arg_values (surroundings a.running memory) given) rest k memory

    steps_so : (c : Callee) → IsStep c → (left : ℕ) (memory : Memory) → runs a (call e name given rest) k left memory ≡ on_from a.running left (calls_function c a.running left e name (arg_values (surroundings a.running memory) given) rest k memory)
    steps_so c is left memory = first left memory (call e name given rest) k ∙ ap (on_from a.running left) (is left memory)

    moving : IsStep memory_move → LaidMove t (names_of a) i next given → Doing t a i (call e name given rest) k
    moving is l = record {
      instr = Move l.span next;
      has = l.has;
      h = λ left memory. defined (moved_by memory (given_by (seen a memory) (code_in t l.span))) (runs a rest k left);
      is = λ left memory. steps_so memory_move is left memory
          ∙ (after_memory a.running left rest k (move_given memory (arg_values (surroundings a.running memory) given))
          ∙ sym (ap (λ (o : Option (List CValue)). defined (moved_by memory o) (runs a rest k left)) (args_at memory l.span given l.code)
          ∙ ap (λ (o : Option Memory). defined o (runs a rest k left)) (moved_alike memory (arg_values (surroundings a.running memory) given))));
      does = record { target = target next rest k s; later = after; comes = λ left memory. refl };
    }

    own_call : IsStep own → (o : Option ℕ) → function_number a.callable name ≡ o → LaidOwn t (names_of a) i next e o given → Doing t a i (call e name given rest) k
    own_call is None q l = stuck i (call e name given rest) k l
        (λ left memory. steps_so own is left memory
        ∙ called_lost left e (a.running.callee name) (all_some (arg_values (surroundings a.running memory) given)) rest k memory
        (λ values. numbered.callees name left values memory ∙ ap (λ (o : Option ℕ). meaning_by a.meanings o left values memory) q))
    own_call is (Some f) q l = record {
      instr = Call l.place f l.span next;
      has = l.has;
      h = λ left memory. defined (given_by (seen a memory) (code_in t l.span)) (λ values. after_call (a.meanings f left values memory) (λ now done. defined (kept_by a (option_map (code_in t) l.place) memory done) (runs a rest k now)));
      is = λ left memory. steps_so own is left memory
          ∙ (called_by left e l.place (a.running.callee name) (all_some (arg_values (surroundings a.running memory) given)) rest k memory l.target_is (λ values. numbered.fewer name left values memory)
          ∙ (after_meaning left rest k memory l.place (a.running.callee name) (a.meanings f) (λ values. numbered.callees name left values memory ∙ ap (λ (o : Option ℕ). meaning_by a.meanings o left values memory) q) (all_some (arg_values (surroundings a.running memory) given))
          ∙ sym (ap (λ (o : Option (List CValue)). defined o (λ values. after_call (a.meanings f left values memory) (λ now done. defined (kept_by a (option_map (code_in t) l.place) memory done) (runs a rest k now)))) (args_at memory l.span given l.code))));
      does = record { target = target next rest k s; later = after; name = name; callable = q; comes = λ left memory. refl };
    }

    calling : (c : Callee) → IsStep c → LaidCall c t (names_of a) i next e name given → Doing t a i (call e name given rest) k
    calling memory_move is l = moving is l
    calling memory_set is l = zeroing i next (call e name given rest) rest k s after given l (λ left memory. steps_so memory_set is left memory ∙ after_memory a.running left rest k (set_given memory (arg_values (surroundings a.running memory) given)))
    calling own is l = own_call is (function_number a.callable name) refl l

  -- Jumps.
  jumping : (i : ℕ) (label : List ℕ) (rest : Code) (k : Continuation) (o : Option ℕ) (p : Option Place) → i + place_weight (at (jump label rest) k) ≡ end_of a → Landing t (names_of a) (end_of a) o p → LaidJump t i o
      → ((left : ℕ) (memory : Memory) → step a.running left (state (jump label rest) k memory) ≡ jumps left (at (jump label rest) k) p memory) → Doing t a i (jump label rest) k
  jumping i label rest k None None e h l is = stuck i (jump label rest) k l (λ left memory. first left memory (jump label rest) k ∙ ap (on_from a.running left) (is left memory))
  jumping i label rest k None (Some p) e h l is = absurd h
  jumping i label rest k (Some m) None e h l is = absurd h
  jumping i label rest k (Some m) (Some p) e h l is = record {
    instr = Goto m;
    has = l;
    h = λ left memory. with_turn_unless (nat_lt i m) left (λ now. runs a p.code p.continuation now memory);
    is = λ left memory. first left memory (jump label rest) k
        ∙ (ap (on_from a.running left) (is left memory)
        ∙ (after_leap a.running (nat_lt (place_weight p) (place_weight (at (jump label rest) k))) left p memory
        ∙ ap (λ (b : Bool). with_turn_unless b left (λ now. runs a p.code p.continuation now memory)) (same_order m i (end_of a) (place_weight p) (place_weight (at (jump label rest) k)) h.tied e)));
    does = record { target = target m p.code p.continuation h.stands; comes = λ left memory. refl };
  }

  -- Conditions.
  testing : (n m u : ℕ) (test : ExprTree) (code met unmet : Code) (k to_met to_unmet : Continuation) → HasOf t a.running.scope n test (λ span. Test span m u)
      → Stands t (names_of a) (end_of a) m met to_met → Stands t (names_of a) (end_of a) u unmet to_unmet → n < m → n < u
      → ((left : ℕ) (memory : Memory) → step a.running left (state code k memory) ≡ by_test (value (surroundings a.running memory) test) (Go (state met to_met memory)) (Go (state unmet to_unmet memory)))
      → Doing t a n code k
  testing n m u test code met unmet k to_met to_unmet l s s' after after' is = record {
    instr = Test l.span m u;
    has = l.has;
    h = λ left memory. tested (evaluated (seen a memory) (code_in t l.span)) (runs a met to_met left memory) (runs a unmet to_unmet left memory);
    is = λ left memory. first left memory code k
        ∙ (ap (on_from a.running left) (is left memory)
        ∙ (after_test a.running left (value (surroundings a.running memory) test) (state met to_met memory) (state unmet to_unmet memory)
        ∙ sym (ap (λ (o : Option CValue). tested o (runs a met to_met left memory) (runs a unmet to_unmet left memory)) (value_at memory l.span test l.code))));
    does = record { to_met = target m met to_met s; to_unmet = target u unmet to_unmet s'; later_met = after; later_unmet = after'; comes = λ left memory. refl };
  }

  -- The end of the block of a `while`.
  testing_again : (n i after : ℕ) (test : ExprTree) (body : Code) (k : Continuation) → HasOf t a.running.scope n test (λ span. Back span (go i n body) after)
      → Stands t (names_of a) (end_of a) (go i n body) body (again test body k) → Stands t (names_of a) (end_of a) after finish k → Doing t a n finish (again test body k)
  testing_again n i after test body k l s s' = record {
    instr = Back l.span (go i n body) after;
    has = l.has;
    h = λ left memory. with_turn left (λ now. tested (evaluated (seen a memory) (code_in t l.span)) (runs a body (again test body k) now memory) (runs a finish k now memory));
    is = λ left memory. first left memory finish (again test body k)
        ∙ (after_back a.running left test body k memory
        ∙ sym (ap (λ (o : Option CValue). with_turn left (λ now. tested o (runs a body (again test body k) now memory) (runs a finish k now memory))) (value_at memory l.span test l.code)));
    does = record { to_met = target (go i n body) body (again test body k) s; to_unmet = target after finish k s'; comes = λ left memory. refl };
  }

  -- `switch`.
  record Enters (i number : ℕ) (p : Option Place) (rest : Code) (k : Continuation) : Type 0 where
    to : Target t a number
    after : i < number
    same : (left : ℕ) (memory : Memory) → on_from a.running left (enters p rest k memory) ≡ runs_on to left memory

  entering : (i next w : ℕ) (rest : Code) (k : Continuation) (o : Option ℕ) (p : Option Place) → Stands t (names_of a) (end_of a) next rest k → i < next → i + w < end_of a
      → Landing t (names_of a) (end_of a) o p → Within w p → Enters i (number_or o next) p rest k
  entering i next w rest k None None s h l landing within = record { to = target next rest k s; after = h; same = λ left memory. refl }
  entering i next w rest k None (Some p) s h l landing within = absurd landing
  entering i next w rest k (Some m) None s h l landing within = absurd landing
  entering i next w rest k (Some m) (Some p) s h l landing within = record { to = target m p.code p.continuation landing.stands; after = omega (arith, landing.tied, l, within); same = λ left memory. refl }

  number_or_first : (x y : Option ℕ) (z : ℕ) → number_or (first_number x y) z ≡ number_or x (number_or y z)
  number_or_first None y z = refl
  number_or_first (Some n) y z = refl

  within_first : (w : ℕ) (p q : Option Place) → Within w p → Within w q → Within w (first_of p q)
  within_first w None q h k = k
  within_first w (Some p) q h k = h

  after_switch : (left : ℕ) (o : Option CValue) (body rest : Code) (k : Continuation) (memory : Memory)
      → on_from a.running left (switches o body rest k memory) ≡ by_number o (λ n. on_from a.running left (enters (first_of (find (by_case n) body (behind finish rest k)) (find by_default body (behind finish rest k))) rest k memory))
  after_switch left None body rest k memory = refl
  after_switch left (Some (numeric n)) body rest k memory = refl
  after_switch left (Some (address p)) body rest k memory = refl
  after_switch left (Some null_pointer) body rest k memory = refl

  same_by_number : (o : Option CValue) (f g : Number → Outcome Returned) → ((n : Number) → f n ≡ g n) → by_number o f ≡ by_number o g
  same_by_number None f g h = refl
  same_by_number (Some (numeric n)) f g h = h n
  same_by_number (Some (address p)) f g h = refl
  same_by_number (Some null_pointer) f g h = refl

  module _ (i next : ℕ) (on : ExprTree) (body rest : Code) (k : Continuation) (tied : i + (code_weight body + code_weight rest + 2) + continuation_weight k ≡ end_of a)
      (l : LaidSwitch t (names_of a) i next on body) (inner : Laid t (names_of a) (i + 1) next body) (s : Stands t (names_of a) (end_of a) next rest k) (follows : Follows t (names_of a) (end_of a) next (behind finish rest k)) (after : i < next) where
    found_in : (label : Label) → Landing t (names_of a) (end_of a) (seek label (i + 1) body) (find label body (behind finish rest k))
    found_in label = found t (names_of a) (end_of a) label (i + 1) next body (behind finish rest k) (omega (arith, tied)) inner follows

    enters_by : (n : Number) → Enters i (number_or (arm_of n (arms_in t l.arms)) (number_or (seek by_default (i + 1) body) next)) (first_of (find (by_case n) body (behind finish rest k)) (find by_default body (behind finish rest k))) rest k
    enters_by n =
        let e : number_or (first_number (seek (by_case n) (i + 1) body) (seek by_default (i + 1) body)) next ≡ number_or (arm_of n (arms_in t l.arms)) (number_or (seek by_default (i + 1) body) next) =
        number_or_first (seek (by_case n) (i + 1) body) (seek by_default (i + 1) body) next ∙ ap (λ (o : Option ℕ). number_or o (number_or (seek by_default (i + 1) body) next)) (sym (l.finds n)) in
        subst (λ (m : ℕ). Enters i m (first_of (find (by_case n) body (behind finish rest k)) (find by_default body (behind finish rest k))) rest k) e
        (entering i next (code_weight body + continuation_weight (behind finish rest k)) rest k _ _ s after (omega (arith, tied))
        (lands_first t (names_of a) (end_of a) (seek (by_case n) (i + 1) body) (seek by_default (i + 1) body) (find (by_case n) body (behind finish rest k)) (find by_default body (behind finish rest k)) (found_in (by_case n)) (found_in by_default))
        (within_first _ _ _ (found_within (by_case n) body (behind finish rest k)) (found_within by_default body (behind finish rest k))))

    switching : Doing t a i (select on body rest) k
    switching = record {
      instr = Switch l.of.span l.arms (number_or (seek by_default (i + 1) body) next);
      has = l.of.has;
      h = λ left memory. by_number (evaluated (seen a memory) (code_in t l.of.span)) (λ n. runs_on ((enters_by n).to) left memory);
      is = λ left memory. first left memory (select on body rest) k
          ∙ (after_switch left (value (surroundings a.running memory) on) body rest k memory
          ∙ (same_by_number (value (surroundings a.running memory) on) _ (λ n. runs_on ((enters_by n).to) left memory) (λ n. (enters_by n).same left memory)
          ∙ sym (ap (λ (o : Option CValue). by_number o (λ n. runs_on ((enters_by n).to) left memory)) (value_at memory l.of.span on l.of.code))));
      does = record { target = λ n. (enters_by n).to; later = λ n. (enters_by n).after; comes = λ left memory. refl };
    }

  -- `return`.
  returning : (i : ℕ) (v : ExprTree) (rest : Code) (k : Continuation) (type : Option TypeTree) → a.running.result_type ≡ type → LaidReturn t (names_of a) i type (Some v) → Doing t a i (leave (Some v) rest) k
  returning i v rest k None q l = stuck i (leave (Some v) rest) k l
      (λ left memory. first left memory (leave (Some v) rest) k ∙ ap (λ (o : Option TypeTree). on_from a.running left (returns left memory (result_value o (value (surroundings a.running memory) v)))) q)
  returning i v rest k (Some type) q l = record {
    instr = Return l.span (cell_type type);
    has = l.has;
    h = λ left memory. defined (option_and_then (as_cell (cell_type type)) (evaluated (seen a memory) (code_in t l.span))) (λ w. Got left (record { memory = memory; value = Some w }));
    is = λ left memory. first left memory (leave (Some v) rest) k
        ∙ (ap (λ (o : Option TypeTree). on_from a.running left (returns left memory (result_value o (value (surroundings a.running memory) v)))) q
        ∙ (after_return a.running left memory (option_and_then (as_type type) (value (surroundings a.running memory) v))
        ∙ sym (ap (λ (o : Option CValue). defined (option_and_then (as_cell (cell_type type)) o) (λ w. Got left (record { memory = memory; value = Some w }))) (value_at memory l.span v l.code))));
    does = λ left memory. refl;
  }

  ends : (n : ℕ) (code : Code) (k : Continuation) → Has t n Finish → ((left : ℕ) (memory : Memory) → runs a code k left memory ≡ Got left (record { memory = memory; value = None })) → Doing t a n code k
  ends n code k has is = record { instr = Finish; has = has; h = λ left memory. Got left (record { memory = memory; value = None }); is = is; does = λ left memory. refl }

  -- Each statement; what ends a block is given.
  module _ (next : ℕ) (k : Continuation) (f : Follows t (names_of a) (end_of a) next k) (ending : Doing t a next finish k) where
    abbrev IsDone : ℕ → Code → Type 0
    IsDone i code = i + code_weight code + continuation_weight k ≡ end_of a → Laid t (names_of a) i next code → Doing t a (go i next code) code k

    -- the rest of a block, and what stands after a block
    rest_at : (i : ℕ) (rest : Code) → i + code_weight rest + continuation_weight k ≡ end_of a → Laid t (names_of a) i next rest → Stands t (names_of a) (end_of a) (go i next rest) rest k
    rest_at i rest e l = stands_at i next rest k e l f

    rest_after : (n i : ℕ) (rest : Code) → n < i → i + code_weight rest + continuation_weight k ≡ end_of a → n < go i next rest
    rest_after n i rest h e = later t (names_of a) (end_of a) n i next rest k h e f

    behind_at : (i : ℕ) (passed rest : Code) → i + code_weight rest + continuation_weight k ≡ end_of a → Laid t (names_of a) i next rest → Follows t (names_of a) (end_of a) (go i next rest) (behind passed rest k)
    behind_at i passed rest e l = follows_behind t (names_of a) (end_of a) i next passed rest k e l f

    block_after : (n i : ℕ) (body passed rest : Code) (after : ℕ) → n < i → i + code_weight body + continuation_weight (behind passed rest k) ≡ end_of a → Follows t (names_of a) (end_of a) after (behind passed rest k) → n < go i after body
    block_after n i body passed rest after h e g = later t (names_of a) (end_of a) n i after body (behind passed rest k) h e g

    label_done : (i : ℕ) (code rest : Code) → Has t i (Goto (go (i + 1) next rest)) → i + 1 + code_weight rest + continuation_weight k ≡ end_of a → Laid t (names_of a) (i + 1) next rest
        → ((left : ℕ) (memory : Memory) → runs a code k left memory ≡ runs a rest k left memory) → Doing t a i code k
    label_done i code rest has e l is = forward i (go (i + 1) next rest) code rest k k has (rest_at (i + 1) rest e l) (rest_after i (i + 1) rest (omega arith) e) is

    doing_first : (i : ℕ) (code : Code) → IsDone i code
    doing_first i finish e l = ending
    doing_first i (nested inner rest) e l =
        let g : Follows t (names_of a) (end_of a) (go (past i inner) next rest) (behind finish rest k) = behind_at (past i inner) finish rest (omega (arith, e)) l.2 in
        forward i (go (i + 1) (go (past i inner) next rest) inner) (nested inner rest) inner k (behind finish rest k) l.0
        (stands_at (i + 1) (go (past i inner) next rest) inner (behind finish rest k) (omega (arith, e)) l.1 g)
        (block_after i (i + 1) inner finish rest (go (past i inner) next rest) (omega arith) (omega (arith, e)) g)
        (λ left memory. first left memory (nested inner rest) k)
    doing_first i (empty rest) e l = label_done i (empty rest) rest l.0 (omega (arith, e)) l.1 (λ left memory. first left memory (empty rest) k)
    doing_first i (assign p v rest) e l = assigning i (go (i + 1) next rest) p v rest k l.0 (rest_at (i + 1) rest (omega (arith, e)) l.1) (rest_after i (i + 1) rest (omega arith) (omega (arith, e)))
    doing_first i (call p function given rest) e l =
        calling i (go (i + 1) next rest) p function given rest k (rest_at (i + 1) rest (omega (arith, e)) l.1) (rest_after i (i + 1) rest (omega arith) (omega (arith, e))) (callee_of function) (λ left memory. refl) l.0
    doing_first i (jump label rest) e l =
        jumping i label rest k (seek (by_name label) a.start a.running.body) (find (by_name label) a.running.body stop) (omega (arith, e))
        (found t (names_of a) (end_of a) (by_name label) a.start (end_of a) a.running.body stop (omega arith) laid_all.body (refl, laid_all.end)) l.0 (λ left memory. refl)
    doing_first i (branch test body otherwise other rest) e l =
        let g : Follows t (names_of a) (end_of a) (go (past_both i body other) next rest) (behind other rest k) = behind_at (past_both i body other) other rest (omega (arith, e)) l.3 in
        let h : Follows t (names_of a) (end_of a) (go (past_both i body other) next rest) (behind finish rest k) = behind_at (past_both i body other) finish rest (omega (arith, e)) l.3 in
        testing i (go (i + 1) (go (past_both i body other) next rest) body) (go (second i body) (go (past_both i body other) next rest) other) test (branch test body otherwise other rest) body other k (behind other rest k) (behind finish rest k) l.0
        (stands_at (i + 1) (go (past_both i body other) next rest) body (behind other rest k) (omega (arith, e)) l.1 g)
        (stands_at (second i body) (go (past_both i body other) next rest) other (behind finish rest k) (omega (arith, e)) l.2 h)
        (block_after i (i + 1) body other rest (go (past_both i body other) next rest) (omega arith) (omega (arith, e)) g)
        (block_after i (second i body) other finish rest (go (past_both i body other) next rest) (omega arith) (omega (arith, e)) h)
        (λ left memory. refl)
    doing_first i (repeat test body rest) e l =
        let g : Follows t (names_of a) (end_of a) (second i body) (again test body (behind finish rest k)) =
        (i + 1, go (past i body) next rest, l.1, omega (arith, e), omega arith, l.2, behind_at (past i body) finish rest (omega (arith, e)) l.3) in
        testing i (go (i + 1) (second i body) body) (go (past i body) next rest) test (repeat test body rest) body rest k (again test body (behind finish rest k)) k l.0
        (stands_at (i + 1) (second i body) body (again test body (behind finish rest k)) (omega (arith, e)) l.2 g)
        (rest_at (past i body) rest (omega (arith, e)) l.3)
        (go_after i (i + 1) (second i body) body (omega arith) (omega arith))
        (rest_after i (past i body) rest (omega arith) (omega (arith, e)))
        (λ left memory. refl)
    doing_first i (select on body rest) e l =
        switching i (go (past i body) next rest) on body rest k e l.0 l.1 (rest_at (past i body) rest (omega (arith, e)) l.2) (behind_at (past i body) finish rest (omega (arith, e)) l.2) (rest_after i (past i body) rest (omega arith) (omega (arith, e)))
    doing_first i (leave None rest) e l = ends i (leave None rest) k l.0 (λ left memory. first left memory (leave None rest) k)
    doing_first i (leave (Some v) rest) e l = returning i v rest k a.running.result_type refl l.0
    doing_first i (case_label n rest) e l = label_done i (case_label n rest) rest l.0 (omega (arith, e)) l.1 (λ left memory. first left memory (case_label n rest) k)
    doing_first i (default_label rest) e l = label_done i (default_label rest) rest l.0 (omega (arith, e)) l.1 (λ left memory. first left memory (default_label rest) k)
    doing_first i (name_label name rest) e l = label_done i (name_label name rest) rest l.0 (omega (arith, e)) l.1 (λ left memory. first left memory (name_label name rest) k)

  also : (n : ℕ) (code code' : Code) (k k' : Continuation) → ((left : ℕ) (memory : Memory) → runs a code' k' left memory ≡ runs a code k left memory) → Doing t a n code k → Doing t a n code' k'
  also n code code' k k' same d = record { instr = d.instr; has = d.has; h = d.h; is = λ left memory. same left memory ∙ d.is left memory; does = d.does }

  doing_end : (next : ℕ) (k : Continuation) → Follows t (names_of a) (end_of a) next k → Doing t a next finish k
  doing_end next stop f = ends next finish stop f.1 (λ left memory. first left memory finish stop)
  doing_end next (behind passed rest k) f =
      also next rest finish k (behind passed rest k) (λ left memory. first left memory finish (behind passed rest k))
      (subst (λ (n : ℕ). Doing t a n rest k) (sym f.2) (doing_first f.1 k f.5 (doing_end f.1 k f.5) f.0 rest f.3 f.4))
  doing_end next (again test body k) f =
      testing_again next f.0 f.1 test body k f.2
      (stands_at f.0 next body (again test body k) (omega (arith, f.3, f.4)) f.5 f)
      (stands_at next f.1 finish k (omega (arith, f.3)) tt f.6)

  doing_at : (n : ℕ) (code : Code) (k : Continuation) → Stands t (names_of a) (end_of a) n code k → Doing t a n code k
  doing_at n code k s = subst (λ (m : ℕ). Doing t a m code k) (sym s.is) (doing_first s.next k s.follows (doing_end s.next k s.follows) s.i code s.tied s.laid)

-- Wherever a number stands for code and what follows it.
pub doing : (t : FlatText) (a : Activation) (n : ℕ) (code : Code) (k : Continuation) → Inside t a n code k → Doing t a n code k
doing t a n code k s = doing_at t a s.laid s.numbered n code k s.stands
