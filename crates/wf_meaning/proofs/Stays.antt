-- The steps of a body, and all bodies, change only what their arguments name.
use Rattle.std.proofs.Common.{◌≡◌, ℕ, zero, suc, Bool, true, false, List, [], ◌∷◌, map, Option, Some, None, ◌⊎◌, inl, inr, refl, sym, ap, ◌∙◌, subst, nat_eq, arith}
use Rattle.std.proofs.lemmas.Bool.Decides.{nat_tests}
use Rattle.std.specs.Prelude.{slice_get, option_map, option_and_then, if◌then◌else◌, unwrap_or, nat_lt}
use Rattle.std.specs.List.{AllByRecursion}
use Rattle.turns.specs.Run.{Go, Turn, End, Out, Fail, Outcome, Got, More, Lost, onward, holding}
use Rattle.turns.specs.Steps.{AnswersWith, NextKeeps}
use Rattle.turns.proofs.Invariants.{run_keeps}
use Rattle.wf_base.specs.HostRun.{Host}
use Rattle.wf_text.specs.declared.categories.Category.TheVariants.{Fault}
use Rattle.wf_base.specs.declared.marks.Mark.{Mark}
use Rattle.wf_base.specs.BaseOps.{Buffer}
use Rattle.wf_base.specs.declared.base_methods.ReadForm.{ReadForm}
use Rattle.wf_base.specs.BaseTable.{read_value}
use Rattle.wf_ast.specs.declared.types.Ty.{Ty}
use Rattle.wf_ast.specs.declared.types.Ty.TheVariants as types
use Rattle.wf_ast.specs.TypedTree.{CondTree, ValueTree, Target, to_number, to_element, to_flag, to_status, to_slice, to_nothing, Awaited, take_number, skip, write, Written, skip_fast, write_fast, copy_to_writer, copy_to_slice, Called, own, sub, Simple, assign, await, perform, invoke, break_from, continue_in, give_back, yield, claim, Site, Head, Block, end, plain, choose, loop}
use Rattle.wf_ast.specs.TypedPackage.{Variable, MethodTree, PackageTree}
use Rattle.wf_ast.specs.WellTyped.{is_coroutine, is_pure, number_of}
use Rattle.wf_ast.specs.Value.{Value, num, truth_value, status_number, span, value, span_of, value_of, only_if}
use Rattle.wf_ast.specs.Value as values
use Rattle.wf_meaning.specs.SourceState.{Life, raw, ready, disabled, Behind, stop, behind_if, again, Done, untouched, has_bytes, to_skip, to_write, has_yielded, Object, Remaining}
use Rattle.wf_meaning.specs.Entry.{Admission, refused, admitted, admission, admission_by, admission_of_args, is_other, Answered, returned, suspended, refusal_of, zero_of, ended, coroutine_ended, has_kind}
use Rattle.wf_meaning.specs.Remaining.{is_point, hands_on, Marker, marker_of}
use Rattle.wf_meaning.specs.World.{World, Body, Vars, updated, put_value, kept_local}
use Rattle.wf_meaning.specs.SourceStep.{At, Ending, gives, suspends, Steps, Call, Callees, state_of, with_some, where_true, either, tested, taking_turn, given_back, suspending, change_buffer, read_on, skip_on, awaited, io_of, io_number, buffer_of, are_bytes, takes_all, elements_of, copied_to_writer, copied_to_slice, with_target, skipped_fast, written_fast, performed, fits_argument, cons_some, values_of, settled, on_admission, entered, through, put_answer, kept_status, plain_answer, handed_on, after_call, invoked, yielded, continued, broken, simple_step, end_step, chosen, block_step, step, weight}
use Rattle.wf_meaning.specs.SourceCall.{fresh_local, set_remaining, taken_up, begins, remaining_of, left_over, body_of, body_run, run_if, bodies}
use Rattle.wf_meaning.specs.Laws.{IsKept, Keeps}
use Rattle.wf_meaning.proofs.Lists2.{all_at, all_weaker, all_map, and_then_made, map_made, only_if_made, some_same, two_made}
use Rattle.wf_meaning.proofs.Lists.{same_or_other}
use Rattle.wf_meaning.proofs.Frame.{KeptAt, same_keeps, ValueOk, LocalOk, WorldOk, VarsOk, kept_ok, keeps_local, object_ok, cells_ok, buffer_ok, span_ok, value_ok, io_ok, put_ok}

-- What the entry table and a body's end leave, has what remained of its methods.
abbrev SameLeft : Object → Object → Type 0
SameLeft o o' = o.remaining ≡ o'.remaining

same_either : (test : Bool) (o a c : Object) → SameLeft o a → SameLeft o c → SameLeft o (if test then a else c)
same_either true o a c h k = h
same_either false o a c h k = k

coroutine_keeps : (p : PackageTree) (number : ℕ) (a : Answered) (o : Object) → SameLeft o (coroutine_ended p number a o)
coroutine_keeps p number (suspended status) o = refl
coroutine_keeps p number (returned None) o = refl
coroutine_keeps p number (returned (Some (num m))) o = refl
coroutine_keeps p number (returned (Some (truth_value t))) o = refl
coroutine_keeps p number (returned (Some (status_number m))) o = same_either (has_kind p Fault m) o _ _ refl refl
coroutine_keeps p number (returned (Some (span s))) o = refl
coroutine_keeps p number (returned (Some (values.buffer k))) o = refl

ended_keeps : (p : PackageTree) (mark : Mark) (number : ℕ) (a : Answered) (o : Object) → SameLeft o (ended p mark number a o)
ended_keeps p mark number a o = same_either (is_coroutine mark) o _ _ (coroutine_keeps p number a o) refl

abbrev AdmissionKeeps : Object → Admission → Type 0
AdmissionKeeps o (refused status left) = SameLeft o left
AdmissionKeeps o admitted = Unit {0}

admission_either : (test : Bool) (o : Object) (a c : Admission) → AdmissionKeeps o a → AdmissionKeeps o c → AdmissionKeeps o (if test then a else c)
admission_either true o a c h k = h
admission_either false o a c h k = k

args_keep : (mark : Mark) (number : ℕ) (fit : Bool) (o : Object) → AdmissionKeeps o (admission_of_args mark number fit o)
args_keep mark number false o = same_either (is_pure mark) o _ _ refl refl
args_keep mark number true o = admission_either (is_coroutine mark) o _ _ (admission_either (is_other number o.active) o _ _ refl tt) tt

life_keeps : (life : Life) (mark : Mark) (number : ℕ) (fit : Bool) (o : Object) → AdmissionKeeps o (admission_by life mark number fit o)
life_keeps raw mark number fit o = refl
life_keeps disabled mark number fit o = admission_either (is_pure mark) o _ _ (args_keep mark number fit o) refl
life_keeps ready mark number fit o = args_keep mark number fit o

admission_keeps : (mark : Mark) (number : ℕ) (fit : Bool) (o : Object) → AdmissionKeeps o (admission mark number fit o)
admission_keeps mark number fit o = life_keeps o.life mark number fit o

module _ (B A : ℕ → Type 0) (h0 : Host) (R : ℕ → Remaining → Type 0) where
  abbrev OptionOk : Option Value → Type 0
  OptionOk None = Unit {0}
  OptionOk (Some v) = ValueOk B A h0 R v

  abbrev AnsweredOk : Answered → Type 0
  AnsweredOk (returned v) = OptionOk v
  AnsweredOk (suspended status) = Unit {0}

  abbrev pub CalledOk : Answered × World → Type 0
  CalledOk a = AnsweredOk a.0 × WorldOk B A h0 R a.1

  pub record CalleesOk (calls : Callees) : Type 0 where
    pub by : (call : Call) (n : ℕ) (w : World) → AllByRecursion (ValueOk B A h0 R) call.args → WorldOk B A h0 R w → AnswersWith CalledOk (calls call n w)

  module _ (p : PackageTree) (calls : Callees) (fine : CalleesOk calls) (n : ℕ) where
    settled_fine : (callee : MethodTree) (call : Call) (o : Outcome (Answered × World)) → AnswersWith CalledOk o → AnswersWith CalledOk (settled p callee call o)
    settled_fine callee call (Got left done) h = (h.0, object_ok B A h0 R call.object _ done.1 (λ o k. same_keeps B A h0 R o _ (ended_keeps p callee.mark call.method done.0 o) k) h.1)
    settled_fine callee call More h = tt
    settled_fine callee call Lost h = tt

    refusal_fine : (callee : MethodTree) (status : ℕ) → AnsweredOk (refusal_of callee status)
    refusal_fine callee status = by_mark (is_coroutine callee.mark)
      where
        by_type : (ty : Option Ty) → OptionOk (zero_of status ty)
        by_type None = tt
        by_type (Some (types.Num width lo hi)) = tt
        by_type (Some types.Flag) = tt
        by_type (Some types.Status) = tt
        by_type (Some types.Reader) = tt
        by_type (Some types.Writer) = tt
        by_type (Some (types.Slice width)) = tt
        by_type (Some (types.Array width lo hi count)) = tt
        by_type (Some (types.Part s)) = tt

        by_mark : (test : Bool) → OptionOk (if test then Some (status_number status) else zero_of status callee.gives)
        by_mark true = tt
        by_mark false = by_type callee.gives

    admitted_fine : (callee : MethodTree) (call : Call) (w : World) → AllByRecursion (ValueOk B A h0 R) call.args → WorldOk B A h0 R w → (o : Object) → Keeps R o → (a : Admission) → AdmissionKeeps o a → AnswersWith CalledOk (on_admission p calls callee call n w a)
    admitted_fine callee call w k h o q (refused status object) j = (refusal_fine callee status, object_ok B A h0 R call.object _ w (λ x y. same_keeps B A h0 R o object j q) h)
    admitted_fine callee call w k h o q admitted j = settled_fine callee call _ (fine.by call n w k h)

    pub entered_fine : (callee : MethodTree) (call : Call) (fit : Bool) (w : World) → AllByRecursion (ValueOk B A h0 R) call.args → WorldOk B A h0 R w → (o : Option Object) → slice_get w.objects call.object ≡ o → AnswersWith CalledOk (entered p calls callee call fit n w o)
    entered_fine callee call fit w k h None e = tt
    entered_fine callee call fit w k h (Some object) e = admitted_fine callee call w k h object (all_at (Keeps R) w.objects call.object object h.objects e) _ (admission_keeps callee.mark call.method fit object)

  -- The places of a method's body that a run may come to: `P` tells them, and is kept as a run goes on.
  pub record Places (method : ℕ) (top : Block) : Type 1 where
    pub P : Block → Behind → Type 0
    pub starts : P top stop
    pub goes_on : (left : Remaining) → R method left → P left.block left.behind
    pub after : (site : Site) (s : Simple) (r : Block) (k : Behind) → P (plain site s r) k → P r k
    pub to_then : (site : Site) (chained : Bool) (c : CondTree) (a d r : Block) (k : Behind) → P (choose site chained c a d r) k → P a (behind_if r k)
    pub to_else : (site : Site) (chained : Bool) (c : CondTree) (a d r : Block) (k : Behind) → P (choose site chained c a d r) k → P d (behind_if r k)
    pub joins : (r : Block) (k : Behind) → P end (behind_if r k) → P r k
    pub into : (site : Site) (head : Head) (body r : Block) (k : Behind) → P (loop site head body r) k → P body (again site head body r k)
    pub past : (site : Site) (head : Head) (body r : Block) (k : Behind) → P (loop site head body r) k → P r k
    pub back_into : (site : Site) (head : Head) (body r : Block) (k : Behind) → P end (again site head body r k) → P body (again site head body r k)
    pub back_past : (site : Site) (head : Head) (body r : Block) (k : Behind) → P end (again site head body r k) → P r k
    pub marked : (w : ℕ) (block : Block) (k : Behind) (m : Marker) → P block k → marker_of w k ≡ Some m → P end (again m.site m.head m.body m.rest m.behind)
    pub kept : (site : Site) (s : Simple) (r : Block) (k : Behind) (done : Done) (locals : List Value) → is_point s ≡ true → P (plain site s r) k
        → R method (record { done = done; block = plain site s r; behind = k; locals = locals })

  module _ (number : ℕ) (b : Body) (places : Places number b.method.body) where
    abbrev EndingOk : Ending → Type 0
    EndingOk (gives v) = OptionOk v
    EndingOk (suspends status left) = KeptAt B A h0 R number left

    abbrev pub EndOk : Ending × World → Type 0
    EndOk a = EndingOk a.0 × WorldOk B A h0 R a.1

    abbrev pub AtOk : At → Type 0
    AtOk x = VarsOk B A h0 R x.vars × places.P x.block x.behind

    record Safe (steps : Steps) : Type 0 where
      fact : NextKeeps AtOk EndOk steps

    safe_some : {X : Type 0} (o : Option X) (go : X → Steps) → ((x : X) → o ≡ Some x → Safe (go x)) → Safe (with_some o go)
    unfolding with_some
    safe_some None go h = record { fact = tt }
    safe_some (Some x) go h = h x refl

    safe_true : (test : Bool) (steps : Steps) → Safe steps → Safe (where_true test steps)
    unfolding where_true
    safe_true true steps h = h
    safe_true false steps h = record { fact = tt }

    safe_either : (test : Bool) (s t : Steps) → (test ≡ true → Safe s) → Safe t → Safe (either test s t)
    unfolding either
    safe_either true s t h k = h refl
    safe_either false s t h k = k

    safe_turn : (n : ℕ) (s : Steps) → Safe s → Safe (taking_turn n s)
    unfolding taking_turn
    safe_turn zero s h = record { fact = tt }
    safe_turn (suc left) (Go x) h = record { fact = h.fact }
    safe_turn (suc left) (Turn m x) h = h
    safe_turn (suc left) (End m a) h = h
    safe_turn (suc left) Out h = h
    safe_turn (suc left) Fail h = h

    safe_onward : (n left : ℕ) (x : At) → AtOk x → Safe (onward n left x)
    unfolding onward
    safe_onward n left x h = by_test (nat_lt left n)
      where
        by_test : (test : Bool) → Safe (if test then Turn left x else Go x)
        by_test true = record { fact = h }
        by_test false = record { fact = h }

    safe_holding : (o : Outcome (Answered × World)) (on : ℕ → Answered × World → Steps) → AnswersWith CalledOk o → ((left : ℕ) (a : Answered × World) → CalledOk a → Safe (on left a)) → Safe (holding o on)
    unfolding holding
    safe_holding (Got left a) on h k = k left a h
    safe_holding More on h k = record { fact = tt }
    safe_holding Lost on h k = record { fact = tt }

    safe_go : (x : At) → AtOk x → Safe (Go x)
    safe_go x h = record { fact = h }

    safe_end : (n : ℕ) (a : Ending × World) → EndOk a → Safe (End n a)
    safe_end n a h = record { fact = h }

    module _ (args : AllByRecursion (ValueOk B A h0 R) b.args) (calls : Callees) (fine : CalleesOk calls) (n : ℕ) where
      safe_tested : (site : Site) (head : Head) (body rest : Block) (behind : Behind) (vars : Vars) (o : Option Bool) → VarsOk B A h0 R vars → places.P body (again site head body rest behind) → places.P rest behind → Safe (tested b site head body rest behind vars o)
      safe_tested site head body rest behind vars None h p q = record { fact = tt }
      safe_tested site head body rest behind vars (Some true) h p q = safe_go _ (h, p)
      safe_tested site head body rest behind vars (Some false) h p q = safe_true _ _ (safe_go _ (h, q))

      safe_stop : (behind : Behind) (vars : Vars) → VarsOk B A h0 R vars → places.P end behind → Safe (end_step b n behind vars)
      safe_stop stop vars h p = safe_end n _ (fact (is_coroutine b.method.mark), h.world)
        where
          fact : (test : Bool) → OptionOk (if test then Some (status_number 0) else None)
          fact true = tt
          fact false = tt
      safe_stop (behind_if rest behind) vars h p = safe_go _ (h, places.joins rest behind p)
      safe_stop (again site head body rest behind) vars h p =
          safe_true _ _ (safe_turn n _ (safe_tested site head body rest behind vars _ h (places.back_into site head body rest behind p) (places.back_past site head body rest behind p)))

      safe_given : (w : World) (v : Value) → WorldOk B A h0 R w → ValueOk B A h0 R v → Safe (given_back b n w v)
      safe_given w (num m) h k = safe_true _ _ (safe_end n _ (tt, h))
      safe_given w (truth_value t) h k = safe_true _ _ (safe_end n _ (tt, h))
      safe_given w (status_number m) h k = safe_either _ _ _ (λ e. safe_end n _ (tt, h)) (safe_true _ _ (safe_end n _ (tt, h)))
      safe_given w (span s) h k = safe_true _ _ (safe_end n _ (k, h))
      safe_given w (values.buffer j) h k = safe_true _ _ (safe_end n _ (k, h))

      buffers_ok : (k : ℕ) (f : Buffer → Buffer) (vars : Vars) → B k → VarsOk B A h0 R vars → VarsOk B A h0 R (change_buffer k f vars)
      buffers_ok k f vars may h = record { locals = h.locals; world = buffer_ok B A h0 R k f vars.world may h.world }

      io_may : (a : ℕ) (vars : Vars) (io : ℕ × Buffer) → VarsOk B A h0 R vars → io_of b a vars ≡ Some io → B io.0
      io_may a vars io h e =
          let m = and_then_made (λ k. option_map (λ it. (k, it)) (buffer_of vars k)) (io_number b a vars) io e in
          let j = map_made (λ it. (m.x, it)) (buffer_of vars m.x) io m.gives in
          subst B (ap (λ (p : ℕ × Buffer). p.0) j.gives) (io_ok B A h0 R b args vars h a m.x m.from)

      put_fine : (target : Target) (v : Value) (vars after : Vars) → VarsOk B A h0 R vars → ValueOk B A h0 R v → put_value b target v vars ≡ Some after → VarsOk B A h0 R after
      put_fine target v vars after h k e = put_ok B A h0 R b args vars h target v after k e

      done_fine : (target : Target) (done : Value × Vars) (after : Vars) → VarsOk B A h0 R done.1 → ValueOk B A h0 R done.0 → with_target b target done ≡ Some after → VarsOk B A h0 R after
      done_fine target done after h k e = put_fine target done.0 done.1 after h k e

      performed_fine : (target : Target) (it : Written) (vars after : Vars) → VarsOk B A h0 R vars → performed b target it vars ≡ Some after → VarsOk B A h0 R after
      performed_fine target (skip_fast a actual worst_case) vars after h e =
          let m = and_then_made (λ io. option_and_then (λ m. option_and_then (λ n. skipped_fast io.0 io.1 m n vars) (value (state_of b vars) worst_case)) (value (state_of b vars) actual)) (io_of b a vars) after e in
          let j = two_made (λ m' n. skipped_fast m.x.0 m.x.1 m' n vars) (λ m'. value (state_of b vars) worst_case) (value (state_of b vars) actual) after m.gives in
          subst (VarsOk B A h0 R) (some_same _ after (only_if_made _ _ after j.gives)) (buffers_ok m.x.0 _ vars (io_may a vars m.x h m.from) h)
      performed_fine target (write_fast a byte) vars after h e =
          let m = two_made (λ io n. written_fast io.0 io.1 n vars) (λ io. value (state_of b vars) byte) (io_of b a vars) after e in
          subst (VarsOk B A h0 R) (some_same _ after (only_if_made _ _ after m.gives)) (buffers_ok m.x.0 _ vars (io_may a vars m.x h m.from) h)
      performed_fine target (copy_to_writer a source) vars after h e =
          let m = two_made (λ io s. only_if (are_bytes (elements_of vars s)) (with_target b target (copied_to_writer io.0 io.1 s vars))) (λ io. span_of (state_of b vars) source) (io_of b a vars) after e in
          done_fine target (copied_to_writer m.x.0 m.x.1 m.y vars) after (buffers_ok m.x.0 _ vars (io_may a vars m.x h m.from) h) tt (only_if_made _ _ after m.gives)
      performed_fine target (copy_to_slice to source) vars after h e =
          let m = two_made (λ t s. only_if (takes_all vars t (elements_of vars s)) (with_target b target (copied_to_slice t s vars))) (λ t. span_of (state_of b vars) source) (span_of (state_of b vars) to) after e in
          done_fine target (copied_to_slice m.x m.y vars) after (record { locals = h.locals; world = cells_ok B A h0 R m.x.store _ vars.world (span_ok B A h0 R b args vars h to m.x m.from) h.world }) tt (only_if_made _ _ after m.gives)

      cons_made : (v : Option Value) (vs : Option (List Value)) (xs : List Value) → cons_some v vs ≡ Some xs → ((x : Value) → v ≡ Some x → ValueOk B A h0 R x) → ((ys : List Value) → vs ≡ Some ys → AllByRecursion (ValueOk B A h0 R) ys) → AllByRecursion (ValueOk B A h0 R) xs
      cons_made None vs xs e f g = absurd (cc (e))
      cons_made (Some x) None xs e f g = absurd (cc (e))
      cons_made (Some x) (Some ys) xs e f g = subst (AllByRecursion (ValueOk B A h0 R)) (some_same (x ∷ ys) xs e) (f x refl, g ys refl)

      args_fine : (vars : Vars) → VarsOk B A h0 R vars → (xs : List Variable) (ts : List ValueTree) (vs : List Value) → values_of (state_of b vars) xs ts ≡ Some vs → AllByRecursion (ValueOk B A h0 R) vs
      args_fine vars h [] [] vs e = subst (AllByRecursion (ValueOk B A h0 R)) (some_same [] vs e) tt
      args_fine vars h [] (t ∷ ts) vs e = absurd (cc (e))
      args_fine vars h (x ∷ xs) [] vs e = absurd (cc (e))
      args_fine vars h (x ∷ xs) (t ∷ ts) vs e =
          cons_made _ (values_of (state_of b vars) xs ts) vs e
          (λ v k. let m = and_then_made (λ u. only_if (fits_argument x.ty u) (Some u)) (value_of (state_of b vars) t) v k in
          subst (ValueOk B A h0 R) (some_same m.x v (only_if_made _ _ v m.gives)) (value_ok B A h0 R b args vars h t m.x m.from))
          (λ ys k. args_fine vars h xs ts ys k)

      module _ (here rest : Block) (behind : Behind) (p : places.P rest behind) where
        abbrev KeepsHere : Type 0
        KeepsHere = (done : Done) (locals : List Value) → R number (record { done = done; block = here; behind = behind; locals = locals })

        suspends_fine : KeepsHere → (left status : ℕ) (done : Done) (vars : Vars) → VarsOk B A h0 R vars → Safe (suspending left status done here behind vars)
        suspends_fine keep left status done vars h = safe_end left _ ((all_map (LocalOk B A h0 R) IsKept kept_local vars.locals (keeps_local B A h0 R) h.locals, keep done _), h.world)

        safe_read : KeepsHere → (target : Target) (form : ReadForm) (bytes : List ℕ) (vars : Vars) → VarsOk B A h0 R vars → Safe (read_on b n target form bytes here rest behind vars)
        safe_read keep target form bytes vars h =
            safe_either _ _ _ (λ q. safe_some _ _ (λ left e. safe_go _ (put_fine target (num (read_value form bytes)) vars left h tt e, p))) (suspends_fine keep n _ _ vars h)

        safe_skip : KeepsHere → (lacking : ℕ) (vars : Vars) → VarsOk B A h0 R vars → Safe (skip_on n lacking here rest behind vars)
        safe_skip keep zero vars h = safe_go _ (h, p)
        safe_skip keep (suc lacking) vars h = suspends_fine keep n _ _ vars h

        safe_awaited : KeepsHere → (target : Target) (k : ℕ) (b1 : Buffer) (it : Awaited) (done : Done) (vars : Vars) → B k → VarsOk B A h0 R vars → Safe (awaited b n target k b1 it done here rest behind vars)
        safe_awaited keep target k b1 (take_number form) done vars may h = safe_read keep target form _ _ (buffers_ok k _ vars may h)
        safe_awaited keep target k b1 (skip count) done vars may h = safe_some _ _ (λ lacking e. safe_skip keep _ _ (buffers_ok k _ vars may h))
        safe_awaited keep target k b1 (write byte) done vars may h = safe_some _ _ (λ it e. safe_either _ _ _ (λ q. safe_go _ (buffers_ok k _ vars may h, p)) (suspends_fine keep n _ _ vars h))

        safe_yielded : KeepsHere → (status : ℕ) (done : Done) (vars : Vars) → VarsOk B A h0 R vars → Safe (yielded n status done here rest behind vars)
        safe_yielded keep status untouched vars h = suspends_fine keep n _ _ vars h
        safe_yielded keep status (has_bytes bytes) vars h = suspends_fine keep n _ _ vars h
        safe_yielded keep status (to_skip count) vars h = suspends_fine keep n _ _ vars h
        safe_yielded keep status (to_write byte) vars h = suspends_fine keep n _ _ vars h
        safe_yielded keep status has_yielded vars h = safe_go _ (h, p)

        safe_handed : KeepsHere → (left : ℕ) (answered : Answered) (vars : Vars) → VarsOk B A h0 R vars → Safe (handed_on b n left answered here rest behind vars)
        safe_handed keep left (suspended status) vars h = suspends_fine keep left _ _ vars h
        safe_handed keep left (returned None) vars h = record { fact = tt }
        safe_handed keep left (returned (Some (num m))) vars h = record { fact = tt }
        safe_handed keep left (returned (Some (truth_value t))) vars h = record { fact = tt }
        safe_handed keep left (returned (Some (status_number zero))) vars h = safe_onward n left _ (h, p)
        safe_handed keep left (returned (Some (status_number (suc status)))) vars h = safe_end left _ (tt, h.world)
        safe_handed keep left (returned (Some (span s))) vars h = record { fact = tt }
        safe_handed keep left (returned (Some (values.buffer k))) vars h = record { fact = tt }

        answer_fine : (target : Target) (v : Option Value) (vars after : Vars) → VarsOk B A h0 R vars → OptionOk v → put_answer b target v vars ≡ Some after → VarsOk B A h0 R after
        answer_fine to_nothing v vars after h k e = subst (VarsOk B A h0 R) (some_same vars after e) h
        answer_fine (to_number at of path) None vars after h k e = absurd (cc (e))
        answer_fine (to_element at of cells index) None vars after h k e = absurd (cc (e))
        answer_fine (to_flag at path) None vars after h k e = absurd (cc (e))
        answer_fine (to_status at path) None vars after h k e = absurd (cc (e))
        answer_fine (to_slice at bits path) None vars after h k e = absurd (cc (e))
        answer_fine (to_number at of path) (Some v) vars after h k e = put_fine (to_number at of path) v vars after h k e
        answer_fine (to_element at of cells index) (Some v) vars after h k e = put_fine (to_element at of cells index) v vars after h k e
        answer_fine (to_flag at path) (Some v) vars after h k e = put_fine (to_flag at path) v vars after h k e
        answer_fine (to_status at path) (Some v) vars after h k e = put_fine (to_status at path) v vars after h k e
        answer_fine (to_slice at bits path) (Some v) vars after h k e = put_fine (to_slice at bits path) v vars after h k e

        kept_answer : (a : Answered) → AnsweredOk a → OptionOk (kept_status a)
        kept_answer (returned v) h = h
        kept_answer (suspended status) h = tt

        plain_fine : (a : Answered) (v : Option Value) → AnsweredOk a → plain_answer a ≡ Some v → OptionOk v
        plain_fine (returned u) v h e = subst OptionOk (some_same u v e) h
        plain_fine (suspended status) v h e = absurd (cc (e))

        safe_after : (keep : Bool) (mark : Mark) → (hands_on keep mark ≡ true → KeepsHere) → (target : Target) (locals : List Value) → AllByRecursion (LocalOk B A h0 R) locals → (left : ℕ) (done : Answered × World) → CalledOk done → Safe (after_call b n keep mark target here rest behind locals left done)
        safe_after keep mark point target locals held left done h =
            let vars : Vars = record { locals = locals; world = done.1 } in
            let fine_vars : VarsOk B A h0 R vars = record { locals = held; world = h.1 } in
            safe_either (hands_on keep mark) _ _ (λ e. safe_handed (point e) left done.0 vars fine_vars)
            (safe_either keep _ _ (λ q. safe_some _ _ (λ after e. safe_onward n left _ (answer_fine target _ vars after fine_vars (kept_answer done.0 h.0) e, p)))
            (safe_some _ _ (λ v e. safe_some _ _ (λ after k. safe_onward n left _ (answer_fine target v vars after fine_vars (plain_fine done.0 v h.0 e) k, p)))))

        through_fine : (callee : MethodTree) (called : Called) (call : Call) (w : World) → AllByRecursion (ValueOk B A h0 R) call.args → WorldOk B A h0 R w → AnswersWith CalledOk (through b.within calls callee called call n w)
        through_fine callee (own m) call w k h = fine.by call n w k h
        through_fine callee (sub x m) call w k h = entered_fine b.within calls fine n callee call true w k h (slice_get w.objects call.object) refl

        safe_invoked : (keep : Bool) (mark : Mark) → (hands_on keep mark ≡ true → KeepsHere) → (target : Target) (called : Called) (ts : List ValueTree) (vars : Vars) → VarsOk B A h0 R vars → Safe (invoked b calls n keep mark target called ts here rest behind vars)
        safe_invoked keep mark point target called ts vars h =
            safe_some _ _ (λ callee e. safe_some _ _ (λ vs k. safe_some _ _ (λ object j.
            safe_holding _ _ (through_fine callee called (record { object = object; method = number_of called; args = vs }) vars.world (args_fine vars h callee.args ts vs k) h.world) (λ left done q. safe_after keep mark point target vars.locals h.locals left done q))))

      safe_continued : (w : ℕ) (block : Block) (behind : Behind) (o : Option Marker) (vars : Vars) → VarsOk B A h0 R vars → places.P block behind → marker_of w behind ≡ o → Safe (continued o vars)
      safe_continued w block behind None vars h p e = record { fact = tt }
      safe_continued w block behind (Some m) vars h p e = safe_go _ (h, places.marked w block behind m p e)

      safe_broken : (w : ℕ) (block : Block) (behind : Behind) (o : Option Marker) (vars : Vars) → VarsOk B A h0 R vars → places.P block behind → marker_of w behind ≡ o → Safe (broken b o vars)
      safe_broken w block behind None vars h p e = record { fact = tt }
      safe_broken w block behind (Some m) vars h p e = safe_true _ _ (safe_go _ (h, places.back_past m.site m.head m.body m.rest m.behind (places.marked w block behind m p e)))

      safe_simple : (done : Done) (site : Site) (s : Simple) (rest : Block) (behind : Behind) (vars : Vars) → VarsOk B A h0 R vars → places.P (plain site s rest) behind → Safe (simple_step b calls n done site s rest behind vars)
      safe_simple done site (assign target op it) rest behind vars h p =
          safe_some _ _ (λ after e. let m = and_then_made (λ v. put_value b target v vars) (value_of (state_of b vars) it) after e in
          safe_go _ (put_fine target m.x vars after h (value_ok B A h0 R b args vars h it m.x m.from) m.gives, places.after site _ rest behind p))
      safe_simple done site (await at target io_arg call) rest behind vars h p =
          safe_some _ _ (λ io e. safe_awaited _ rest behind (places.after site _ rest behind p) (λ d l. places.kept site _ rest behind d l refl p) target io.0 io.1 call done vars (io_may io_arg vars io h e) h)
      safe_simple done site (perform at target call) rest behind vars h p = safe_some _ _ (λ after e. safe_go _ (performed_fine target call vars after h e, places.after site _ rest behind p))
      safe_simple done site (invoke at target keep mark called ts) rest behind vars h p =
          safe_invoked _ rest behind (places.after site _ rest behind p) keep mark (λ q d l. places.kept site _ rest behind d l q p) target called ts vars h
      safe_simple done site (break_from w) rest behind vars h p = safe_broken w _ behind (marker_of w behind) vars h p refl
      safe_simple done site (continue_in w) rest behind vars h p = safe_continued w _ behind (marker_of w behind) vars h p refl
      safe_simple done site (give_back None) rest behind vars h p = safe_true _ _ (safe_end n _ (tt, h.world))
      safe_simple done site (give_back (Some it)) rest behind vars h p = safe_some _ _ (λ v e. safe_given vars.world v h.world (value_ok B A h0 R b args vars h it v e))
      safe_simple done site (yield status) rest behind vars h p = safe_yielded _ rest behind (places.after site _ rest behind p) (λ d l. places.kept site _ rest behind d l refl p) status done vars h
      safe_simple done site (claim goal axiom_used) rest behind vars h p = safe_true _ _ (safe_go _ (h, places.after site _ rest behind p))

      safe_block : (done : Done) (block : Block) (behind : Behind) (vars : Vars) → VarsOk B A h0 R vars → places.P block behind → Safe (block_step b calls n done block behind vars)
      safe_block done end behind vars h p = safe_stop behind vars h p
      safe_block done (plain site s rest) behind vars h p = safe_simple done site s rest behind vars h p
      safe_block done (choose site chained cond a c rest) behind vars h p = safe_some _ _ (λ test e. arm test)
        where
          arm : (test : Bool) → Safe (chosen a c rest behind vars test)
          arm true = safe_go _ (h, places.to_then site chained cond a c rest behind p)
          arm false = safe_go _ (h, places.to_else site chained cond a c rest behind p)
      safe_block done (loop site head body rest) behind vars h p =
          safe_true _ _ (safe_tested site head body rest behind vars _ h (places.into site head body rest behind p) (places.past site head body rest behind p))

      step_keeps : (x : At) → AtOk x → NextKeeps AtOk EndOk (step b calls n x)
      unfolding step
      step_keeps x h = (safe_block x.done x.block x.behind x.vars h.0 h.1).fact

  -- The runs of bodies.
  fresh_fine : (xs : List Variable) → AllByRecursion (LocalOk B A h0 R) (map (λ x. fresh_local x.ty) xs)
  fresh_fine [] = tt
  fresh_fine (x ∷ xs) = (by_type x.ty, fresh_fine xs)
    where
      by_type : (ty : Ty) → LocalOk B A h0 R (fresh_local ty)
      by_type (types.Num width lo hi) = tt
      by_type types.Flag = tt
      by_type types.Status = tt
      by_type types.Reader = tt
      by_type types.Writer = tt
      by_type (types.Slice width) = tt
      by_type (types.Array width lo hi count) = tt
      by_type (types.Part s) = tt

  -- The remaining items of one method are others.
  set_keeps : (method : ℕ) (left : Option Remaining) (o : Object) → ((x : Remaining) → left ≡ Some x → KeptAt B A h0 R method x) → Keeps R o → Keeps R (set_remaining method left o)
  set_keeps method left o f h = record { by = λ m x e. pick method m o.remaining x e (λ k. f x k) (λ k. h.by m x k) }
    where
      pick : (i m : ℕ) (rs : List (Option Remaining)) (x : Remaining) → slice_get (updated (λ _. left) i rs) m ≡ Some (Some x) → (left ≡ Some x → KeptAt B A h0 R i x) → (slice_get rs m ≡ Some (Some x) → KeptAt B A h0 R m x) → KeptAt B A h0 R m x
      pick i m rs x e g k = by_place (same_or_other i m rs e)
        where
          by_place : ((i ≡ m) × (left ≡ Some x)) ⊎ (slice_get rs m ≡ Some (Some x)) → KeptAt B A h0 R m x
          by_place (inl q) = let P : ℕ → Type 0 = λ j. KeptAt B A h0 R j x in subst P q.0 (g q.1)
          by_place (inr q) = k q

  taken_fine : (call : Call) (w : World) → WorldOk B A h0 R w → WorldOk B A h0 R (taken_up call w)
  taken_fine call w h = object_ok B A h0 R call.object _ w (λ o k. set_keeps call.method None o (λ x e. absurd (cc (e))) k) h

  kept_left : (call : Call) (w : World) (left : Option Remaining) → WorldOk B A h0 R w → remaining_of w call ≡ left → (x : Remaining) → left ≡ Some x → KeptAt B A h0 R call.method x
  kept_left call w left h e x k = by_object (slice_get w.objects call.object) refl (e ∙ k)
    where
      by_entry : (o : Object) → Keeps R o → (q : Option (Option Remaining)) → slice_get o.remaining call.method ≡ q → unwrap_or q None ≡ Some x → KeptAt B A h0 R call.method x
      by_entry o j None a c = absurd (cc (c))
      by_entry o j (Some q) a c = j.by call.method x (a ∙ ap Some c)

      by_object : (o : Option Object) → slice_get w.objects call.object ≡ o → option_and_then (λ it. unwrap_or (slice_get it.remaining call.method) None) o ≡ Some x → KeptAt B A h0 R call.method x
      by_object None a c = absurd (cc (c))
      by_object (Some it) a c = by_entry it (all_at (Keeps R) w.objects call.object it h.objects a) (slice_get it.remaining call.method) refl c

  begins_fine : (p : PackageTree) (m : MethodTree) (call : Call) (places : Places call.method m.body) (w : World) (left : Option Remaining) → WorldOk B A h0 R w → ((x : Remaining) → left ≡ Some x → KeptAt B A h0 R call.method x) → AtOk call.method (body_of p m call) places (begins m w left)
  begins_fine p m call places w None h k = (record { locals = fresh_fine m.locals; world = h }, places.starts)
  begins_fine p m call places w (Some left) h k =
      let it = k left refl in
      (record { locals = all_weaker IsKept (LocalOk B A h0 R) left.locals (kept_ok B A h0 R) it.0; world = h }, places.goes_on left it.1)

  left_fine : (p : PackageTree) (m : MethodTree) (call : Call) (places : Places call.method m.body) (o : Outcome (Ending × World)) → AnswersWith (EndOk call.method (body_of p m call) places) o → AnswersWith CalledOk (left_over call o)
  left_fine p m call places (Got left (gives v, w)) h = h
  left_fine p m call places (Got left (suspends status items, w)) h =
      (tt, object_ok B A h0 R call.object _ w (λ o k. set_keeps call.method (Some items) o (λ x e. subst (KeptAt B A h0 R call.method) (some_same items x e) h.0) k) h.1)
  left_fine p m call places More h = tt
  left_fine p m call places Lost h = tt

  body_fine : (p : PackageTree) (calls : Callees) → CalleesOk calls → (m : MethodTree) (call : Call) (places : Places call.method m.body) (n : ℕ) (w : World) → AllByRecursion (ValueOk B A h0 R) call.args → WorldOk B A h0 R w → AnswersWith CalledOk (body_run p calls m call n w)
  body_fine p calls fine m call places zero w k h = tt
  body_fine p calls fine m call places (suc left) w k h =
      let b = body_of p m call in
      left_fine p m call places _ (run_keeps (step b calls) weight (AtOk call.method b places) (EndOk call.method b places) (λ n x j. step_keeps call.method b places k calls fine n x j) left _
      (begins_fine p m call places (taken_up call w) (remaining_of w call) (taken_fine call w h) (kept_left call w (remaining_of w call) h refl)))

  if_fine : (p : PackageTree) (calls : Callees) → CalleesOk calls → (m : Option MethodTree) (call : Call) → ((x : MethodTree) → m ≡ Some x → Places call.method x.body) → (n : ℕ) (w : World) → AllByRecursion (ValueOk B A h0 R) call.args → WorldOk B A h0 R w → AnswersWith CalledOk (run_if p calls m call n w)
  if_fine p calls fine None call places n w k h = tt
  if_fine p calls fine (Some m) call places n w k h = body_fine p calls fine m call (places m refl) n w k h

  test_fine : (test : Bool) (o o' : Outcome (Answered × World)) → (test ≡ true → AnswersWith CalledOk o) → AnswersWith CalledOk o' → AnswersWith CalledOk (if test then o else o')
  test_fine true o o' h k = h refl
  test_fine false o o' h k = k

  pub bodies_fine : (p : PackageTree) → ((m : ℕ) (x : MethodTree) → slice_get p.methods m ≡ Some x → Places m x.body) → (ms : List ℕ) → CalleesOk (bodies p ms)
  unfolding bodies
  bodies_fine p places [] = record { by = λ call n w k h. tt }
  bodies_fine p places (m ∷ ms) =
      let inner = bodies_fine p places ms in
      record { by = λ call n w k h. test_fine (nat_eq m call.method) _ _ (λ same. if_fine p (bodies p ms) inner (slice_get p.methods m) call (λ x e. places call.method x (ap (slice_get p.methods) (sym (known m call.method same)) ∙ e)) n w k h) (inner.by call n w k h) }
    where
      known : (a b : ℕ) → nat_eq a b ≡ true → a ≡ b
      known a b e = grind (arith, nat_tests, e)
