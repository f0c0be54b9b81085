-- The steps of a body, and all bodies, leave statuses of the package alone, and answer with one of them.
use Rattle.std.proofs.Common.{◌≡◌, ℕ, zero, suc, ◌<◌, Bool, true, false, List, [], ◌∷◌, length, map, Option, Some, None, refl, subst, nat_eq, arith}
use Rattle.std.specs.Prelude.{slice_get, option_and_then, if◌then◌else◌, unwrap_or, nat_lt}
use Rattle.std.specs.List.{AllByRecursion}
use Rattle.turns.specs.Run.{Go, Turn, End, Out, Fail, Outcome, Got, More, Lost, onward, holding}
use Rattle.turns.specs.Steps.{AnswersWith, NextKeeps}
use Rattle.turns.proofs.Invariants.{run_keeps}
use Rattle.wf_text.specs.declared.categories.Category.TheVariants.{Fault, Suspension}
use Rattle.wf_base.specs.declared.marks.Mark.{Mark}
use Rattle.wf_base.specs.BaseOps.{Buffer}
use Rattle.wf_base.specs.declared.base_methods.ReadForm.{ReadForm}
use Rattle.wf_base.specs.BaseTable.{read_value}
use Rattle.wf_ast.specs.declared.types.Ty.{Ty}
use Rattle.wf_ast.specs.declared.types.Ty.TheVariants as types
use Rattle.wf_ast.specs.TypedTree.{ValueTree, Target, to_number, to_element, to_flag, to_status, to_slice, to_nothing, Awaited, take_number, skip, write, Written, skip_fast, write_fast, copy_to_writer, copy_to_slice, Called, own, sub, Simple, assign, await, perform, invoke, break_from, continue_in, give_back, yield, claim, Site, Head, Block, end, plain, choose, loop}
use Rattle.wf_ast.specs.TypedPackage.{Variable, MethodTree, PackageTree}
use Rattle.wf_ast.specs.WellTyped.{is_coroutine, is_pure, number_of}
use Rattle.wf_ast.specs.Value.{Value, num, truth_value, status_number, span, value, span_of, value_of, only_if}
use Rattle.wf_ast.specs.Value as values
use Rattle.wf_meaning.specs.SourceState.{Life, raw, ready, disabled, Behind, stop, behind_if, again, Done, untouched, has_bytes, to_skip, to_write, has_yielded, Object, Remaining}
use Rattle.wf_meaning.specs.Entry.{Admission, refused, admitted, admission, admission_by, admission_of_args, is_other, Answered, returned, suspended, refusal_of, zero_of, ended, coroutine_ended, has_kind}
use Rattle.wf_meaning.specs.Remaining.{hands_on, Marker, marker_of}
use Rattle.wf_meaning.specs.World.{World, Body, Vars, put_value, kept_local}
use Rattle.wf_meaning.specs.SourceStep.{At, Ending, gives, suspends, Steps, Call, Callees, state_of, with_some, where_true, either, tested, taking_turn, returned_status, given_back, suspending, change_buffer, read_on, skip_on, awaited, io_of, are_bytes, takes_all, elements_of, copied_to_writer, copied_to_slice, with_target, skipped_fast, written_fast, performed, fits_argument, cons_some, values_of, settled, on_admission, entered, through, put_answer, kept_status, plain_answer, handed_on, after_call, invoked, yielded, continued, broken, simple_step, end_step, chosen, block_step, step, weight}
use Rattle.wf_meaning.specs.SourceCall.{fresh_local, set_remaining, taken_up, begins, remaining_of, left_over, body_of, body_run, run_if, bodies}
use Rattle.wf_meaning.proofs.Lists2.{all_at, all_map, all_updated, and_then_made, only_if_made, some_same, two_made}
use Rattle.wf_mean_laws.proofs.Statuses.{IsStatus, ValueKnown, TreeKnown, SimpleKnown, BlockKnown, BehindKnown, LeftKnown, EntryKnown, ObjectKnown, WorldKnown, VarsKnown, object-known, cells-known, buffer-known, value-known, put-known}

module _ (p : PackageTree) (many : 9 < length p.statuses) where
  pub base-known : (n : ℕ) → n < 10 → IsStatus p n
  base-known n h = omega (arith, h, many)

  abbrev pub OptionKnown : Option Value → Type 0
  OptionKnown None = Unit {0}
  OptionKnown (Some v) = ValueKnown p v

  abbrev pub AnswerKnown : Answered → Type 0
  AnswerKnown (returned v) = OptionKnown v
  AnswerKnown (suspended status) = IsStatus p status

  abbrev pub CalledKnown : Answered × World → Type 0
  CalledKnown a = AnswerKnown a.0 × WorldKnown p a.1

  pub record CalleesKnown (calls : Callees) : Type 0 where
    pub by : (call : Call) (n : ℕ) (w : World) → AllByRecursion (ValueKnown p) call.args → WorldKnown p w → AnswersWith CalledKnown (calls call n w)

  -- The entry table.
  alike : (o : Object) (life : Life) (active : Option ℕ) → ObjectKnown p o → ObjectKnown p (record { life = life; fields = o.fields; active = active; remaining = o.remaining })
  alike o life active h = record { fields = h.fields; remaining = h.remaining }

  object-either : (test : Bool) (a c : Object) → ObjectKnown p a → ObjectKnown p c → ObjectKnown p (if test then a else c)
  object-either true a c h k = h
  object-either false a c h k = k

  coroutine-known : (q : PackageTree) (number : ℕ) (a : Answered) (o : Object) → ObjectKnown p o → ObjectKnown p (coroutine_ended q number a o)
  coroutine-known q number (suspended status) o h = alike o o.life (Some number) h
  coroutine-known q number (returned None) o h = alike o o.life None h
  coroutine-known q number (returned (Some (num m))) o h = alike o o.life None h
  coroutine-known q number (returned (Some (truth_value t))) o h = alike o o.life None h
  coroutine-known q number (returned (Some (status_number m))) o h = object-either (has_kind q Fault m) _ _ (alike o disabled None h) (alike o o.life None h)
  coroutine-known q number (returned (Some (span s))) o h = alike o o.life None h
  coroutine-known q number (returned (Some (values.buffer k))) o h = alike o o.life None h

  ended-known : (q : PackageTree) (mark : Mark) (number : ℕ) (a : Answered) (o : Object) → ObjectKnown p o → ObjectKnown p (ended q mark number a o)
  ended-known q mark number a o h = object-either (is_coroutine mark) _ _ (coroutine-known q number a o h) h

  abbrev AdmissionKnown : Admission → Type 0
  AdmissionKnown (refused status left) = IsStatus p status × ObjectKnown p left
  AdmissionKnown admitted = Unit {0}

  admission-either : (test : Bool) (a c : Admission) → AdmissionKnown a → AdmissionKnown c → AdmissionKnown (if test then a else c)
  admission-either true a c h k = h
  admission-either false a c h k = k

  args-admission : (mark : Mark) (number : ℕ) (fit : Bool) (o : Object) → ObjectKnown p o → AdmissionKnown (admission_of_args mark number fit o)
  args-admission mark number false o h = (base-known 5 (omega arith), object-either (is_pure mark) _ _ h (alike o disabled o.active h))
  args-admission mark number true o h = admission-either (is_coroutine mark) _ _ (admission-either (is_other number o.active) _ _ (base-known 7 (omega arith), alike o disabled o.active h) tt) tt

  life-admission : (life : Life) (mark : Mark) (number : ℕ) (fit : Bool) (o : Object) → ObjectKnown p o → AdmissionKnown (admission_by life mark number fit o)
  life-admission raw mark number fit o h = (base-known 6 (omega arith), h)
  life-admission disabled mark number fit o h = admission-either (is_pure mark) _ _ (args-admission mark number fit o h) (base-known 8 (omega arith), h)
  life-admission ready mark number fit o h = args-admission mark number fit o h

  pub refusal-known : (callee : MethodTree) (status : ℕ) → IsStatus p status → AnswerKnown (refusal_of callee status)
  refusal-known callee status h = by_mark (is_coroutine callee.mark)
    where
      by_type : (ty : Option Ty) → OptionKnown (zero_of status ty)
      by_type None = tt
      by_type (Some (types.Num width lo hi)) = tt
      by_type (Some types.Flag) = tt
      by_type (Some types.Status) = h
      by_type (Some types.Reader) = h
      by_type (Some types.Writer) = h
      by_type (Some (types.Slice width)) = h
      by_type (Some (types.Array width lo hi count)) = h
      by_type (Some (types.Part s)) = h

      by_mark : (test : Bool) → OptionKnown (if test then Some (status_number status) else zero_of status callee.gives)
      by_mark true = h
      by_mark false = by_type callee.gives

  module _ (q : PackageTree) (calls : Callees) (fine : CalleesKnown calls) (n : ℕ) where
    settled-known : (callee : MethodTree) (call : Call) (o : Outcome (Answered × World)) → AnswersWith CalledKnown o → AnswersWith CalledKnown (settled q callee call o)
    settled-known callee call (Got left done) h = (h.0, object-known p call.object (ended q callee.mark call.method done.0) done.1 (λ o k. ended-known q callee.mark call.method done.0 o k) h.1)
    settled-known callee call More h = tt
    settled-known callee call Lost h = tt

    admission-runs : (callee : MethodTree) (call : Call) (w : World) → AllByRecursion (ValueKnown p) call.args → WorldKnown p w → (a : Admission) → AdmissionKnown a → AnswersWith CalledKnown (on_admission q calls callee call n w a)
    admission-runs callee call w k h (refused status object) j = (refusal-known callee status j.0, object-known p call.object (λ _. object) w (λ o _. j.1) h)
    admission-runs callee call w k h admitted j = settled-known callee call (calls call n w) (fine.by call n w k h)

    pub entered-known : (callee : MethodTree) (call : Call) (fit : Bool) (w : World) → AllByRecursion (ValueKnown p) call.args → WorldKnown p w → (o : Option Object) → slice_get w.objects call.object ≡ o → AnswersWith CalledKnown (entered q calls callee call fit n w o)
    entered-known callee call fit w k h None e = tt
    entered-known callee call fit w k h (Some object) e =
        admission-runs callee call w k h (admission callee.mark call.method fit object) (life-admission object.life callee.mark call.method fit object (all_at (ObjectKnown p) w.objects call.object object h.objects e))

  module _ (b : Body) where
    abbrev EndingKnown : Ending → Type 0
    EndingKnown (gives v) = OptionKnown v
    EndingKnown (suspends status left) = IsStatus p status × LeftKnown p left

    abbrev EndKnown : Ending × World → Type 0
    EndKnown a = EndingKnown a.0 × WorldKnown p a.1

    record AtKnown (x : At) : Type 0 where
      vars : VarsKnown p x.vars
      block : BlockKnown p x.block
      behind : BehindKnown p x.behind

    record Safe (steps : Steps) : Type 0 where
      fact : NextKeeps AtKnown EndKnown steps

    safe-some : {X : Type 0} (o : Option X) (go : X → Steps) → ((x : X) → o ≡ Some x → Safe (go x)) → Safe (with_some o go)
    unfolding with_some
    safe-some None go h = record { fact = tt }
    safe-some (Some x) go h = h x refl

    safe-true : (test : Bool) (steps : Steps) → Safe steps → Safe (where_true test steps)
    unfolding where_true
    safe-true true steps h = h
    safe-true false steps h = record { fact = tt }

    safe-either : (test : Bool) (s t : Steps) → Safe s → Safe t → Safe (either test s t)
    unfolding either
    safe-either true s t h k = h
    safe-either false s t h k = k

    safe-turn : (n : ℕ) (s : Steps) → Safe s → Safe (taking_turn n s)
    unfolding taking_turn
    safe-turn zero s h = record { fact = tt }
    safe-turn (suc left) (Go x) h = record { fact = h.fact }
    safe-turn (suc left) (Turn m x) h = h
    safe-turn (suc left) (End m a) h = h
    safe-turn (suc left) Out h = h
    safe-turn (suc left) Fail h = h

    safe-onward : (n left : ℕ) (x : At) → AtKnown x → Safe (onward n left x)
    unfolding onward
    safe-onward n left x h = by_test (nat_lt left n)
      where
        by_test : (test : Bool) → Safe (if test then Turn left x else Go x)
        by_test true = record { fact = h }
        by_test false = record { fact = h }

    safe-holding : (o : Outcome (Answered × World)) (on : ℕ → Answered × World → Steps) → AnswersWith CalledKnown o → ((left : ℕ) (a : Answered × World) → CalledKnown a → Safe (on left a)) → Safe (holding o on)
    unfolding holding
    safe-holding (Got left a) on h k = k left a h
    safe-holding More on h k = record { fact = tt }
    safe-holding Lost on h k = record { fact = tt }

    safe-go : (block : Block) (behind : Behind) (vars : Vars) → VarsKnown p vars → BlockKnown p block → BehindKnown p behind → Safe (Go (record { done = untouched; block = block; behind = behind; vars = vars }))
    safe-go block behind vars h k l = record { fact = record { vars = h; block = k; behind = l } }

    safe-end : (n : ℕ) (a : Ending × World) → EndKnown a → Safe (End n a)
    safe-end n a h = record { fact = h }

    module _ (args : AllByRecursion (ValueKnown p) b.args) (calls : Callees) (fine : CalleesKnown calls) (n : ℕ) where
      safe-tested : (site : Site) (head : Head) (body rest : Block) (behind : Behind) (vars : Vars) (o : Option Bool) → VarsKnown p vars → BlockKnown p body → BlockKnown p rest → BehindKnown p behind → Safe (tested b site head body rest behind vars o)
      safe-tested site head body rest behind vars None h k l m = record { fact = tt }
      safe-tested site head body rest behind vars (Some true) h k l m = safe-go body (again site head body rest behind) vars h k (k, l, m)
      safe-tested site head body rest behind vars (Some false) h k l m = safe-true _ _ (safe-go rest behind vars h l m)

      safe-stop : (behind : Behind) (vars : Vars) → VarsKnown p vars → BehindKnown p behind → Safe (end_step b n behind vars)
      safe-stop stop vars h k = safe-end n _ (fact (is_coroutine b.method.mark), h.world)
        where
          fact : (test : Bool) → OptionKnown (if test then Some (status_number 0) else None)
          fact true = base-known 0 (omega arith)
          fact false = tt
      safe-stop (behind_if rest behind) vars h k = safe-go rest behind vars h k.0 k.1
      safe-stop (again site head body rest behind) vars h k = safe-true _ _ (safe-turn n _ (safe-tested site head body rest behind vars _ h k.0 k.1 k.2))

      status-returned : (m : ℕ) → IsStatus p m → IsStatus p (returned_status b m)
      status-returned m k = by_kind (has_kind b.within Suspension m)
        where
          by_kind : (test : Bool) → IsStatus p (if test then 9 else m)
          by_kind true = base-known 9 (omega arith)
          by_kind false = k

      safe-given : (w : World) (v : Value) → WorldKnown p w → ValueKnown p v → Safe (given_back b n w v)
      safe-given w (num m) h k = safe-true _ _ (safe-end n _ (tt, h))
      safe-given w (truth_value t) h k = safe-true _ _ (safe-end n _ (tt, h))
      safe-given w (status_number m) h k = safe-either _ _ _ (safe-end n _ (status-returned m k, h)) (safe-true _ _ (safe-end n _ (k, h)))
      safe-given w (span s) h k = safe-true _ _ (safe-end n _ (tt, h))
      safe-given w (values.buffer j) h k = safe-true _ _ (safe-end n _ (tt, h))

      buffers-known : (k : ℕ) (f : Buffer → Buffer) (vars : Vars) → VarsKnown p vars → VarsKnown p (change_buffer k f vars)
      buffers-known k f vars h = record { locals = h.locals; world = buffer-known p k f vars.world h.world }

      put-fine : (target : Target) (v : Value) (vars after : Vars) → VarsKnown p vars → ValueKnown p v → put_value b target v vars ≡ Some after → VarsKnown p after
      put-fine target v vars after h k e = put-known p b args vars h target v after k e

      done-fine : (target : Target) (done : Value × Vars) (after : Vars) → VarsKnown p done.1 → ValueKnown p done.0 → with_target b target done ≡ Some after → VarsKnown p after
      done-fine target done after h k e = put-fine target done.0 done.1 after h k e

      performed-fine : (target : Target) (it : Written) (vars after : Vars) → VarsKnown p vars → performed b target it vars ≡ Some after → VarsKnown p after
      performed-fine target (skip_fast a actual worst_case) vars after h e =
          let m = and_then_made (λ io. option_and_then (λ m. option_and_then (λ n. skipped_fast io.0 io.1 m n vars) (value (state_of b vars) worst_case)) (value (state_of b vars) actual)) (io_of b a vars) after e in
          let j = two_made (λ m' n. skipped_fast m.x.0 m.x.1 m' n vars) (λ m'. value (state_of b vars) worst_case) (value (state_of b vars) actual) after m.gives in
          subst (VarsKnown p) (some_same _ after (only_if_made _ _ after j.gives)) (buffers-known m.x.0 _ vars h)
      performed-fine target (write_fast a byte) vars after h e =
          let m = two_made (λ io n. written_fast io.0 io.1 n vars) (λ io. value (state_of b vars) byte) (io_of b a vars) after e in
          subst (VarsKnown p) (some_same _ after (only_if_made _ _ after m.gives)) (buffers-known m.x.0 _ vars h)
      performed-fine target (copy_to_writer a source) vars after h e =
          let m = two_made (λ io s. only_if (are_bytes (elements_of vars s)) (with_target b target (copied_to_writer io.0 io.1 s vars))) (λ io. span_of (state_of b vars) source) (io_of b a vars) after e in
          done-fine target (copied_to_writer m.x.0 m.x.1 m.y vars) after (buffers-known m.x.0 _ vars h) tt (only_if_made _ _ after m.gives)
      performed-fine target (copy_to_slice to source) vars after h e =
          let m = two_made (λ t s. only_if (takes_all vars t (elements_of vars s)) (with_target b target (copied_to_slice t s vars))) (λ t. span_of (state_of b vars) source) (span_of (state_of b vars) to) after e in
          done-fine target (copied_to_slice m.x m.y vars) after (record { locals = h.locals; world = cells-known p m.x.store _ vars.world h.world }) tt (only_if_made _ _ after m.gives)

      cons-made : (v : Option Value) (vs : Option (List Value)) (xs : List Value) → cons_some v vs ≡ Some xs → ((x : Value) → v ≡ Some x → ValueKnown p x) → ((ys : List Value) → vs ≡ Some ys → AllByRecursion (ValueKnown p) ys) → AllByRecursion (ValueKnown p) xs
      cons-made None vs xs e f g = absurd (cc (e))
      cons-made (Some x) None xs e f g = absurd (cc (e))
      cons-made (Some x) (Some ys) xs e f g = subst (AllByRecursion (ValueKnown p)) (some_same (x ∷ ys) xs e) (f x refl, g ys refl)

      args-fine : (vars : Vars) → VarsKnown p vars → (xs : List Variable) (ts : List ValueTree) (vs : List Value) → AllByRecursion (TreeKnown p) ts → values_of (state_of b vars) xs ts ≡ Some vs → AllByRecursion (ValueKnown p) vs
      args-fine vars h [] [] vs t e = subst (AllByRecursion (ValueKnown p)) (some_same [] vs e) tt
      args-fine vars h [] (t ∷ ts) vs k e = absurd (cc (e))
      args-fine vars h (x ∷ xs) [] vs k e = absurd (cc (e))
      args-fine vars h (x ∷ xs) (t ∷ ts) vs k e =
          cons-made _ (values_of (state_of b vars) xs ts) vs e
          (λ v i. let m = and_then_made (λ u. only_if (fits_argument x.ty u) (Some u)) (value_of (state_of b vars) t) v i in
          subst (ValueKnown p) (some_same m.x v (only_if_made _ _ v m.gives)) (value-known p b args vars h t m.x k.0 m.from))
          (λ ys i. args-fine vars h xs ts ys k.1 i)

      keeps-local : (v : Value) → ValueKnown p v → ValueKnown p (kept_local v)
      keeps-local (num m) h = tt
      keeps-local (truth_value t) h = tt
      keeps-local (status_number m) h = h
      keeps-local (span s) h = tt
      keeps-local (values.buffer k) h = tt

      module _ (here rest : Block) (behind : Behind) (here_known : BlockKnown p here) (rest_known : BlockKnown p rest) (behind_known : BehindKnown p behind) where
        safe-on : (vars : Vars) → VarsKnown p vars → Safe (Go (record { done = untouched; block = rest; behind = behind; vars = vars }))
        safe-on vars h = safe-go rest behind vars h rest_known behind_known

        suspends-fine : (left status : ℕ) (done : Done) (vars : Vars) → IsStatus p status → VarsKnown p vars → Safe (suspending left status done here behind vars)
        suspends-fine left status done vars k h =
            safe-end left _ ((k, record { locals = all_map (ValueKnown p) (ValueKnown p) kept_local vars.locals keeps-local h.locals; block = here_known; behind = behind_known }), h.world)

        safe-read : (target : Target) (form : ReadForm) (bytes : List ℕ) (vars : Vars) → VarsKnown p vars → Safe (read_on b n target form bytes here rest behind vars)
        safe-read target form bytes vars h =
            safe-either _ _ _ (safe-some _ _ (λ left e. safe-on left (put-fine target (num (read_value form bytes)) vars left h tt e))) (suspends-fine n 1 _ vars (base-known 1 (omega arith)) h)

        safe-skip : (lacking : ℕ) (vars : Vars) → VarsKnown p vars → Safe (skip_on n lacking here rest behind vars)
        safe-skip zero vars h = safe-on vars h
        safe-skip (suc lacking) vars h = suspends-fine n 1 _ vars (base-known 1 (omega arith)) h

        safe-awaited : (target : Target) (k : ℕ) (b1 : Buffer) (it : Awaited) (done : Done) (vars : Vars) → VarsKnown p vars → Safe (awaited b n target k b1 it done here rest behind vars)
        safe-awaited target k b1 (take_number form) done vars h = safe-read target form _ _ (buffers-known k _ vars h)
        safe-awaited target k b1 (skip count) done vars h = safe-some _ _ (λ lacking e. safe-skip _ _ (buffers-known k _ vars h))
        safe-awaited target k b1 (write byte) done vars h = safe-some _ _ (λ it e. safe-either _ _ _ (safe-on _ (buffers-known k _ vars h)) (suspends-fine n 2 _ vars (base-known 2 (omega arith)) h))

        safe-yielded : (status : ℕ) (done : Done) (vars : Vars) → IsStatus p status → VarsKnown p vars → Safe (yielded n status done here rest behind vars)
        safe-yielded status untouched vars k h = suspends-fine n status _ vars k h
        safe-yielded status (has_bytes bytes) vars k h = suspends-fine n status _ vars k h
        safe-yielded status (to_skip count) vars k h = suspends-fine n status _ vars k h
        safe-yielded status (to_write byte) vars k h = suspends-fine n status _ vars k h
        safe-yielded status has_yielded vars k h = safe-on vars h

        safe-later : (left : ℕ) (vars : Vars) → VarsKnown p vars → Safe (onward n left (record { done = untouched; block = rest; behind = behind; vars = vars }))
        safe-later left vars h = safe-onward n left _ (record { vars = h; block = rest_known; behind = behind_known })

        safe-handed : (left : ℕ) (answered : Answered) (vars : Vars) → AnswerKnown answered → VarsKnown p vars → Safe (handed_on b n left answered here rest behind vars)
        safe-handed left (suspended status) vars k h = suspends-fine left status _ vars k h
        safe-handed left (returned None) vars k h = record { fact = tt }
        safe-handed left (returned (Some (num m))) vars k h = record { fact = tt }
        safe-handed left (returned (Some (truth_value t))) vars k h = record { fact = tt }
        safe-handed left (returned (Some (status_number zero))) vars k h = safe-later left vars h
        safe-handed left (returned (Some (status_number (suc status)))) vars k h = safe-end left _ (k, h.world)
        safe-handed left (returned (Some (span s))) vars k h = record { fact = tt }
        safe-handed left (returned (Some (values.buffer j))) vars k h = record { fact = tt }

        answer-fine : (target : Target) (v : Option Value) (vars after : Vars) → VarsKnown p vars → OptionKnown v → put_answer b target v vars ≡ Some after → VarsKnown p after
        answer-fine to_nothing v vars after h k e = subst (VarsKnown p) (some_same vars after e) h
        answer-fine (to_number at of path) (Some v) vars after h k e = put-fine (to_number at of path) v vars after h k e
        answer-fine (to_element at of cells index) (Some v) vars after h k e = put-fine (to_element at of cells index) v vars after h k e
        answer-fine (to_flag at path) (Some v) vars after h k e = put-fine (to_flag at path) v vars after h k e
        answer-fine (to_status at path) (Some v) vars after h k e = put-fine (to_status at path) v vars after h k e
        answer-fine (to_slice at bits path) (Some v) vars after h k e = put-fine (to_slice at bits path) v vars after h k e
        answer-fine target None vars after h k e = absurd (cc (e))

        kept-answer : (a : Answered) → AnswerKnown a → OptionKnown (kept_status a)
        kept-answer (returned v) h = h
        kept-answer (suspended status) h = h

        plain-fine : (a : Answered) (v : Option Value) → AnswerKnown a → plain_answer a ≡ Some v → OptionKnown v
        plain-fine (returned u) v h e = subst OptionKnown (some_same u v e) h
        plain-fine (suspended status) v h e = absurd (cc (e))

        safe-after : (keep : Bool) (mark : Mark) (target : Target) (locals : List Value) → AllByRecursion (ValueKnown p) locals → (left : ℕ) (done : Answered × World) → CalledKnown done → Safe (after_call b n keep mark target here rest behind locals left done)
        safe-after keep mark target locals held left done h =
            let vars : Vars = record { locals = locals; world = done.1 } in
            let fine_vars : VarsKnown p vars = record { locals = held; world = h.1 } in
            safe-either (hands_on keep mark) _ _ (safe-handed left done.0 vars h.0 fine_vars)
            (safe-either keep _ _ (safe-some _ _ (λ after e. safe-later left after (answer-fine target (kept_status done.0) vars after fine_vars (kept-answer done.0 h.0) e)))
            (safe-some _ _ (λ v e. safe-some _ _ (λ after k. safe-later left after (answer-fine target v vars after fine_vars (plain-fine done.0 v h.0 e) k)))))

        through-fine : (callee : MethodTree) (called : Called) (call : Call) (w : World) → AllByRecursion (ValueKnown p) call.args → WorldKnown p w → AnswersWith CalledKnown (through b.within calls callee called call n w)
        through-fine callee (own m) call w k h = fine.by call n w k h
        through-fine callee (sub x m) call w k h = entered-known b.within calls fine n callee call true w k h (slice_get w.objects call.object) refl

        safe-invoked : (keep : Bool) (mark : Mark) (target : Target) (called : Called) (ts : List ValueTree) (vars : Vars) → AllByRecursion (TreeKnown p) ts → VarsKnown p vars → Safe (invoked b calls n keep mark target called ts here rest behind vars)
        safe-invoked keep mark target called ts vars t h =
            safe-some _ _ (λ callee e. safe-some _ _ (λ vs k. safe-some _ _ (λ object j.
            safe-holding _ _ (through-fine callee called (record { object = object; method = number_of called; args = vs }) vars.world (args-fine vars h callee.args ts vs t k) h.world) (λ left done q. safe-after keep mark target vars.locals h.locals left done q))))

      record MarkerKnown (m : Marker) : Type 0 where
        body : BlockKnown p m.body
        rest : BlockKnown p m.rest
        behind : BehindKnown p m.behind

      marked : (w : ℕ) (k : Behind) (m : Marker) → BehindKnown p k → marker_of w k ≡ Some m → MarkerKnown m
      marked w stop m h e = absurd (cc (e))
      marked w (behind_if rest k) m h e = marked w k m h.1 e
      marked w (again site head body rest k) m h e = by (nat_eq site.number w) (λ e. marked w k m h.2 e) e
        where
          by : (t : Bool) → (marker_of w k ≡ Some m → MarkerKnown m) → (if t then Some (record { site = site; head = head; body = body; rest = rest; behind = k }) else marker_of w k) ≡ Some m → MarkerKnown m
          by true further e = subst MarkerKnown (some_same _ m e) (record { body = h.0; rest = h.1; behind = h.2 })
          by false further e = further e

      safe-continued : (w : ℕ) (behind : Behind) (o : Option Marker) (vars : Vars) → VarsKnown p vars → BehindKnown p behind → marker_of w behind ≡ o → Safe (continued o vars)
      safe-continued w behind None vars h k e = record { fact = tt }
      safe-continued w behind (Some m) vars h k e = let found = marked w behind m k e in safe-go end (again m.site m.head m.body m.rest m.behind) vars h tt (found.body, found.rest, found.behind)

      safe-broken : (w : ℕ) (behind : Behind) (o : Option Marker) (vars : Vars) → VarsKnown p vars → BehindKnown p behind → marker_of w behind ≡ o → Safe (broken b o vars)
      safe-broken w behind None vars h k e = record { fact = tt }
      safe-broken w behind (Some m) vars h k e = let found = marked w behind m k e in safe-true _ _ (safe-go m.rest m.behind vars h found.rest found.behind)

      safe-simple : (done : Done) (site : Site) (s : Simple) (rest : Block) (behind : Behind) (vars : Vars) → VarsKnown p vars → SimpleKnown p s → BlockKnown p rest → BehindKnown p behind → Safe (simple_step b calls n done site s rest behind vars)
      safe-simple done site (assign target op it) rest behind vars h s k l =
          safe-some _ _ (λ after e. let m = and_then_made (λ v. put_value b target v vars) (value_of (state_of b vars) it) after e in
          safe-go rest behind after (put-fine target m.x vars after h (value-known p b args vars h it m.x s m.from) m.gives) k l)
      safe-simple done site (await at target io_arg call) rest behind vars h s k l = safe-some _ _ (λ io e. safe-awaited (plain site (await at target io_arg call) rest) rest behind (s, k) k l target io.0 io.1 call done vars h)
      safe-simple done site (perform at target call) rest behind vars h s k l = safe-some _ _ (λ after e. safe-go rest behind after (performed-fine target call vars after h e) k l)
      safe-simple done site (invoke at target keep mark called ts) rest behind vars h s k l = safe-invoked (plain site (invoke at target keep mark called ts) rest) rest behind (s, k) k l keep mark target called ts vars s h
      safe-simple done site (break_from w) rest behind vars h s k l = safe-broken w behind (marker_of w behind) vars h l refl
      safe-simple done site (continue_in w) rest behind vars h s k l = safe-continued w behind (marker_of w behind) vars h l refl
      safe-simple done site (give_back None) rest behind vars h s k l = safe-true _ _ (safe-end n _ (tt, h.world))
      safe-simple done site (give_back (Some it)) rest behind vars h s k l = safe-some _ _ (λ v e. safe-given vars.world v h.world (value-known p b args vars h it v s e))
      safe-simple done site (yield status) rest behind vars h s k l = safe-yielded (plain site (yield status) rest) rest behind (s, k) k l status done vars s h
      safe-simple done site (claim goal axiom_used) rest behind vars h s k l = safe-true _ _ (safe-go rest behind vars h k l)

      safe-block : (done : Done) (block : Block) (behind : Behind) (vars : Vars) → VarsKnown p vars → BlockKnown p block → BehindKnown p behind → Safe (block_step b calls n done block behind vars)
      safe-block done end behind vars h k l = safe-stop behind vars h l
      safe-block done (plain site s rest) behind vars h k l = safe-simple done site s rest behind vars h k.0 k.1 l
      safe-block done (choose site chained cond a c rest) behind vars h k l = safe-some _ _ (λ test e. arm test)
        where
          arm : (test : Bool) → Safe (chosen a c rest behind vars test)
          arm true = safe-go a (behind_if rest behind) vars h k.0 (k.2, l)
          arm false = safe-go c (behind_if rest behind) vars h k.1 (k.2, l)
      safe-block done (loop site head body rest) behind vars h k l = safe-true _ _ (safe-tested site head body rest behind vars _ h k.0 k.1 l)

      step-keeps : (x : At) → AtKnown x → NextKeeps AtKnown EndKnown (step b calls n x)
      unfolding step
      step-keeps x h = (safe-block x.done x.block x.behind x.vars h.vars h.block h.behind).fact

  -- The runs of bodies.
  fresh-known : (xs : List Variable) → AllByRecursion (ValueKnown p) (map (λ x. fresh_local x.ty) xs)
  fresh-known [] = tt
  fresh-known (x ∷ xs) = (by_type x.ty, fresh-known xs)
    where
      by_type : (ty : Ty) → ValueKnown p (fresh_local ty)
      by_type (types.Num width lo hi) = tt
      by_type types.Flag = tt
      by_type types.Status = base-known 0 (omega arith)
      by_type types.Reader = tt
      by_type types.Writer = tt
      by_type (types.Slice width) = tt
      by_type (types.Array width lo hi count) = tt
      by_type (types.Part s) = tt

  set-left : (method : ℕ) (left : Option Remaining) (o : Object) → EntryKnown p left → ObjectKnown p o → ObjectKnown p (set_remaining method left o)
  set-left method left o k h = record { fields = h.fields; remaining = all_updated (EntryKnown p) (λ _. left) method o.remaining (λ x y. k) h.remaining }

  taken-known : (call : Call) (w : World) → WorldKnown p w → WorldKnown p (taken_up call w)
  taken-known call w h = object-known p call.object (set_remaining call.method None) w (λ o k. set-left call.method None o tt k) h

  remaining-known : (call : Call) (w : World) → WorldKnown p w → EntryKnown p (remaining_of w call)
  remaining-known call w h = by_object (slice_get w.objects call.object) refl
    where
      by_entry : (o : Object) → ObjectKnown p o → (q : Option (Option Remaining)) → slice_get o.remaining call.method ≡ q → EntryKnown p (unwrap_or q None)
      by_entry o j None a = tt
      by_entry o j (Some q) a = all_at (EntryKnown p) o.remaining call.method q j.remaining a

      by_object : (o : Option Object) → slice_get w.objects call.object ≡ o → EntryKnown p (option_and_then (λ it. unwrap_or (slice_get it.remaining call.method) None) o)
      by_object None a = tt
      by_object (Some it) a = by_entry it (all_at (ObjectKnown p) w.objects call.object it h.objects a) (slice_get it.remaining call.method) refl

  begins-known : (m : MethodTree) (call : Call) (w : World) (left : Option Remaining) → BlockKnown p m.body → WorldKnown p w → EntryKnown p left → AtKnown (body_of p m call) (begins m w left)
  begins-known m call w None body h k = record { vars = record { locals = fresh-known m.locals; world = h }; block = body; behind = tt }
  begins-known m call w (Some left) body h k = record { vars = record { locals = k.locals; world = h }; block = k.block; behind = k.behind }

  left-known : (m : MethodTree) (call : Call) (o : Outcome (Ending × World)) → AnswersWith (EndKnown (body_of p m call)) o → AnswersWith CalledKnown (left_over call o)
  left-known m call (Got left (gives v, w)) h = h
  left-known m call (Got left (suspends status items, w)) h = (h.0.0, object-known p call.object (set_remaining call.method (Some items)) w (λ o k. set-left call.method (Some items) o h.0.1 k) h.1)
  left-known m call More h = tt
  left-known m call Lost h = tt

  body-known : (calls : Callees) → CalleesKnown calls → (m : MethodTree) → BlockKnown p m.body → (call : Call) (n : ℕ) (w : World) → AllByRecursion (ValueKnown p) call.args → WorldKnown p w → AnswersWith CalledKnown (body_run p calls m call n w)
  body-known calls fine m body call zero w k h = tt
  body-known calls fine m body call (suc left) w k h =
      let b = body_of p m call in
      left-known m call _ (run_keeps (step b calls) weight (AtKnown b) (EndKnown b) (λ n x j. step-keeps b k calls fine n x j) left (begins m (taken_up call w) (remaining_of w call))
      (begins-known m call (taken_up call w) (remaining_of w call) body (taken-known call w h) (remaining-known call w h)))

  if-known : (calls : Callees) → CalleesKnown calls → (m : Option MethodTree) → ((x : MethodTree) → m ≡ Some x → BlockKnown p x.body) → (call : Call) (n : ℕ) (w : World) → AllByRecursion (ValueKnown p) call.args → WorldKnown p w → AnswersWith CalledKnown (run_if p calls m call n w)
  if-known calls fine None body call n w k h = tt
  if-known calls fine (Some m) body call n w k h = body-known calls fine m (body m refl) call n w k h

  test-known : (test : Bool) (o o' : Outcome (Answered × World)) → AnswersWith CalledKnown o → AnswersWith CalledKnown o' → AnswersWith CalledKnown (if test then o else o')
  test-known true o o' h k = h
  test-known false o o' h k = k

  pub bodies-known : ((m : ℕ) (x : MethodTree) → slice_get p.methods m ≡ Some x → BlockKnown p x.body) → (ms : List ℕ) → CalleesKnown (bodies p ms)
  unfolding bodies
  bodies-known body [] = record { by = λ call n w k h. tt }
  bodies-known body (m ∷ ms) =
      let inner = bodies-known body ms in
      record { by = λ call n w k h. test-known (nat_eq m call.method) _ _ (if-known (bodies p ms) inner (slice_get p.methods m) (λ x e. body m x e) call n w k h) (inner.by call n w k h) }
