-- The run of a called method, through the entry table where it is called through a field.
use Rattle.std.proofs.Common.{◌≡◌, ℕ, inl, inr, Bool, true, false, not, List, Option, Some, None, refl, sym, ap, ◌∙◌, subst, nat_eq, arith}
use Rattle.std.specs.Prelude.{slice_get, option_and_then, option_map, is_some, if◌then◌else◌}
use Rattle.std.proofs.lemmas.Bool.{and_parts}
use Rattle.std.proofs.lemmas.Bool.Decides.{nat_tests}
use Rattle.turns.specs.Run.{Outcome, Got, More, Lost}
use Rattle.wf_text.specs.declared.categories.Category.TheVariants.{Fault}
use Rattle.wf_base.specs.declared.marks.Mark.{Mark}
use Rattle.wf_base.specs.declared.marks.Mark.TheVariants.{Pure, Impure, Coroutine}
use Rattle.wf_base.specs.BaseTable.{bits_of}
use Rattle.wf_ast.specs.declared.types.Ty.{Ty}
use Rattle.wf_ast.specs.declared.types.Ty.TheVariants as types
use Rattle.wf_ast.specs.TypedTree.{Called, own, sub}
use Rattle.wf_ast.specs.TypedPackage.{MethodTree, PackageTree}
use Rattle.wf_ast.specs.Value.{Value, num, truth_value, status_number, span, buffer}
use Rattle.wf_ast.specs.WellTyped.{field_at, is_pure, is_coroutine, is_range, may_be_result, calls_method, struct_of_field}
use Rattle.wf_meaning.specs.SourceState.{Life, raw, ready, disabled, Held, held_part, Object, Remaining}
use Rattle.wf_meaning.specs.Entry.{Admission, refused, admitted, admission, admission_by, admission_of_args, is_other, was_disabled, Answered, returned, suspended, refusal_of, zero_of, ended, coroutine_ended, has_kind}
use Rattle.wf_meaning.specs.World.{World, Body, Vars, updated, with_object, held_at}
use Rattle.wf_meaning.specs.SourceStep.{Call, Callees, part_in, receiver_of, settled, on_admission, entered, through}
use Rattle.wf_meaning.proofs.Lists.{updated-other}
use Rattle.wf_sound.specs.Worlds.{Shape, IsHeldAs, IsLawfulWorld, context_of, IsLawfulBody}
use Rattle.wf_sound.specs.Callees.{IsAnswer, KeepsTo, RunsWell}
use Rattle.wf_sound.proofs.FieldWrites.{same_or_not, item-changed, still-there, Was, was}
use Rattle.wf_sound.proofs.Views.{FieldHas, field-has}

-- What the entry table and a body's end leave has the fields, and what remained of the methods.
pub record SameWithin (o o' : Object) : Type 0 where
  pub fields : o.fields ≡ o'.fields
  pub left : o.remaining ≡ o'.remaining

same : (o : Object) → SameWithin o o
same o = record { fields = refl; left = refl }

same_either : (test : Bool) (o a c : Object) → SameWithin o a → SameWithin o c → SameWithin o (if test then a else c)
same_either true o a c h k = h
same_either false o a c h k = k

alike : (o : Object) (life : Life) (active : Option ℕ) → SameWithin o (record { life = life; fields = o.fields; active = active; remaining = o.remaining })
alike o life active = record { fields = refl; left = refl }

coroutine_same : (p : PackageTree) (number : ℕ) (a : Answered) (o : Object) → SameWithin o (coroutine_ended p number a o)
coroutine_same p number (suspended status) o = alike o o.life (Some number)
coroutine_same p number (returned None) o = alike o o.life None
coroutine_same p number (returned (Some (num m))) o = alike o o.life None
coroutine_same p number (returned (Some (truth_value t))) o = alike o o.life None
coroutine_same p number (returned (Some (status_number m))) o = same_either (has_kind p Fault m) o _ _ (alike o disabled None) (alike o o.life None)
coroutine_same p number (returned (Some (span s))) o = alike o o.life None
coroutine_same p number (returned (Some (buffer k))) o = alike o o.life None

ended_same : (p : PackageTree) (mark : Mark) (number : ℕ) (a : Answered) (o : Object) → SameWithin o (ended p mark number a o)
ended_same p mark number a o = same_either (is_coroutine mark) o _ _ (coroutine_same p number a o) (same o)

abbrev AdmissionSame : Object → Admission → Type 0
AdmissionSame o (refused status left) = SameWithin o left
AdmissionSame o admitted = Unit {0}

admission_either : (test : Bool) (o : Object) (a c : Admission) → AdmissionSame o a → AdmissionSame o c → AdmissionSame o (if test then a else c)
admission_either true o a c h k = h
admission_either false o a c h k = k

args_same : (mark : Mark) (number : ℕ) (fit : Bool) (o : Object) → AdmissionSame o (admission_of_args mark number fit o)
args_same mark number false o = same_either (is_pure mark) o _ _ (same o) (alike o disabled o.active)
args_same mark number true o = admission_either (is_coroutine mark) o _ _ (admission_either (is_other number o.active) o _ _ (alike o disabled o.active) tt) tt

life_same : (life : Life) (mark : Mark) (number : ℕ) (fit : Bool) (o : Object) → AdmissionSame o (admission_by life mark number fit o)
life_same raw mark number fit o = same o
life_same disabled mark number fit o = admission_either (is_pure mark) o _ _ (args_same mark number fit o) (same o)
life_same ready mark number fit o = args_same mark number fit o

module _ (p : PackageTree) (R : (method : ℕ) → Remaining → Type 0) (shape : Shape) where
  -- A struct state is replaced by one with the same fields.
  module _ (k : ℕ) (change : Object → Object) (w : World) (keeps : (o : Object) → slice_get w.objects k ≡ Some o → SameWithin o (change o)) where
    fields-same : (object n : ℕ) → held_at w object n ≡ held_at (with_object k change w) object n
    fields-same object n = elim (same_or_not object k) [
      | inl is ↦ here is
      | inr not ↦ ap (option_and_then (λ (o : Object). slice_get o.fields n)) (sym (updated-other change k object w.objects not))
    ]
      where
        at : (o : Option Object) → slice_get w.objects k ≡ o → option_and_then (λ (o : Object). slice_get o.fields n) o ≡ option_and_then (λ (o : Object). slice_get o.fields n) (option_map change o)
        at None e = refl
        at (Some o) e = ap (λ fs. slice_get fs n) (keeps o e).fields

        here : object ≡ k → held_at w object n ≡ held_at (with_object k change w) object n
        here is =
            let P : ℕ → Type 0 = λ object. held_at w object n ≡ held_at (with_object k change w) object n in
            subst P (sym is) (rw (item-changed change k w.objects) (at (slice_get w.objects k) refl))

    pub object-lawful : IsLawfulWorld p R shape w → IsLawfulWorld p R shape (with_object k change w)
    object-lawful h = record {
      objects = λ o s e. still-there change k o w.objects (h.objects o s e);
      fields = λ object n ty e. let found = h.fields object n ty e in (found.0, sym (fields-same object n) ∙ found.1, found.2);
      remaining = remaining;
      arrays = h.arrays;
      buffers = h.buffers;
    }
      where
        remaining : (o m : ℕ) (x : Object) (left : Remaining) → slice_get (updated change k w.objects) o ≡ Some x → slice_get x.remaining m ≡ Some (Some left) → R m left
        remaining o m x left e i =
            let v : Was change k o w.objects x = was change k o w.objects x e in
            let P : List (Option Remaining) → Type 0 = λ xs. slice_get xs m ≡ Some (Some left) in
            h.remaining o m v.x left v.is (subst P (by v) i)
          where
            by : (v : Was change k o w.objects x) → x.remaining ≡ v.x.remaining
            by v = elim v.from [
              | inl j ↦ ap (λ (o : Object). o.remaining) j
              | inr j ↦ ap (λ (o : Object). o.remaining) j.1 ∙ sym (keeps v.x (ap (λ o. slice_get w.objects o) j.0 ∙ v.is)).left
            ]

    pub object-keeps : (mark : Mark) (args : List Value) (before : World) → KeepsTo mark args before w → KeepsTo mark args before (with_object k change w)
    object-keeps Pure args before h = record { fields = λ object n. h.fields object n ∙ fields-same object n; host = h.host }
    object-keeps Impure args before h = record { buffers = h.buffers }
    object-keeps Coroutine args before h = record { buffers = h.buffers }

  keeps-itself : (mark : Mark) (args : List Value) (w : World) → KeepsTo mark args w w
  keeps-itself Pure args w = record { fields = λ object n. refl; host = refl }
  keeps-itself Impure args w = record { buffers = λ k h. refl }
  keeps-itself Coroutine args w = record { buffers = λ k h. refl }

  -- A refusal answers as the method may.
  refusal-answers : (m : MethodTree) (status : ℕ) → may_be_result m.mark m.gives ≡ true → IsAnswer m.mark m.gives (refusal_of m status)
  refusal-answers m status h = by m.mark m.gives h
    where
      none : (mark : Mark) (ty : Ty) → is_coroutine mark ≡ false → may_be_result mark (Some ty) ≡ true → IsAnswer mark (Some ty) (returned (zero_of status (Some ty)))
      none Pure (types.Num width lo hi) e k = let q = (and_parts (is_range (record { bits = bits_of width; low = lo; high = hi })) _ k).1 in grind (arith, nat_tests, q)
      none Impure (types.Num width lo hi) e k = let q = (and_parts (is_range (record { bits = bits_of width; low = lo; high = hi })) _ k).1 in grind (arith, nat_tests, q)
      none Pure types.Flag e k = refl
      none Impure types.Flag e k = refl
      none Pure types.Status e k = refl
      none Impure types.Status e k = refl
      none Pure ty e k = absurd (cc (k))
      none Impure ty e k = absurd (cc (k))
      none Coroutine ty e k = absurd (cc (e))

      by : (mark : Mark) (result : Option Ty) → may_be_result mark result ≡ true → IsAnswer mark result (returned (if is_coroutine mark then Some (status_number status) else zero_of status result))
      by Coroutine result k = tt
      by Pure None k = tt
      by Impure None k = tt
      by Pure (Some ty) k = none Pure ty refl k
      by Impure (Some ty) k = none Impure ty refl k

  module _ (calls : Callees) (m : MethodTree) (object method : ℕ) (args : List Value) (n : ℕ) (w : World) (lawful : IsLawfulWorld p R shape w) (result : may_be_result m.mark m.gives ≡ true) where
    abbrev call : Call
    call = record { object = object; method = method; args = args }

    settles : (o : Outcome (Answered × World)) → RunsWell p R shape m args w o → RunsWell p R shape m args w (settled p m call o)
    settles (Got left done) h = record {
      world = object-lawful object (ended p m.mark method done.0) done.1 (λ o e. ended_same p m.mark method done.0 o) h.world;
      answer = h.answer;
      keeps = object-keeps object (ended p m.mark method done.0) done.1 (λ o e. ended_same p m.mark method done.0 o) m.mark args w h.keeps;
    }
    settles More h = tt
    settles Lost h = h

    admits : (o : Object) → slice_get w.objects object ≡ Some o → (a : Admission) → AdmissionSame o a → (a ≡ admitted → RunsWell p R shape m args w (calls call n w)) → RunsWell p R shape m args w (on_admission p calls m call n w a)
    admits o e (refused status left) k h =
        let keeps : (x : Object) → slice_get w.objects object ≡ Some x → SameWithin x left = λ x i. by x (cc (e, i)) in
        record {
          world = object-lawful object (λ _. left) w keeps lawful;
          answer = refusal-answers m status result;
          keeps = object-keeps object (λ _. left) w keeps m.mark args w (keeps-itself m.mark args w);
        }
      where
        by : (x : Object) → o ≡ x → SameWithin x left
        by x i = let P : Object → Type 0 = λ x. SameWithin x left in subst P i k
    admits o e admitted k h = settles (calls call n w) (h refl)

    pub through-runs : (called : Called) → is_some (slice_get w.objects object) ≡ true → RunsWell p R shape m args w (calls call n w) → RunsWell p R shape m args w (through p calls m called call n w)
    through-runs (own k) there h = h
    through-runs (sub x k) there h = by (slice_get w.objects object) refl there
      where
        by : (o : Option Object) → slice_get w.objects object ≡ o → is_some o ≡ true → RunsWell p R shape m args w (entered p calls m call true n w o)
        by None e i = absurd (cc (i))
        by (Some o) e i = admits o e (admission m.mark method true o) (life_same o.life m.mark method true o) (λ _. h)

    -- The same whether or not the arguments fit.
    pub entered-runs : (fit : Bool) → is_some (slice_get w.objects object) ≡ true → (fit ≡ true → RunsWell p R shape m args w (calls call n w)) → RunsWell p R shape m args w (entered p calls m call fit n w (slice_get w.objects object))
    entered-runs fit there h = by (slice_get w.objects object) refl there
      where
        fits : (t : Bool) → (life : Life) (o : Object) → admission_by life m.mark method t o ≡ admitted → t ≡ true
        fits true life o i = refl
        fits false raw o i = absurd (cc (i))
        fits false ready o i = absurd (cc (i))
        fits false disabled o i = absurd (never (is_pure m.mark) i)
          where
            never : (t : Bool) → (if t then admission_of_args m.mark method false o else refused was_disabled o) ≡ admitted → ⊥
            never true i = cc (i)
            never false i = cc (i)

        by : (o : Option Object) → slice_get w.objects object ≡ o → is_some o ≡ true → RunsWell p R shape m args w (entered p calls m call fit n w o)
        by None e i = absurd (cc (i))
        by (Some o) e i = admits o e (admission m.mark method fit o) (life_same o.life m.mark method fit o) (λ i. h (fits fit o.life o i))

-- The struct state that a call means is of the method's struct.
module _ (R : (method : ℕ) → Remaining → Type 0) (shape : Shape) (b : Body) (vars : Vars) (lawful : IsLawfulBody R shape b vars) where
  pub record ReceiverOf (called : Called) (m : MethodTree) : Type 0 where
    pub object : ℕ
    pub is : receiver_of b called vars ≡ Some object
    pub of : slice_get shape.structs object ≡ Some m.of

  part-of : (x s of : ℕ) (ty : Ty) (held : Held) → struct_of_field (Some ty) ≡ Some s → nat_eq s of ≡ true → held_at vars.world b.object x ≡ Some held → IsHeldAs shape ty held → (object : ℕ) × (option_and_then part_in (held_at vars.world b.object x) ≡ Some object) × (slice_get shape.structs object ≡ Some of)
  part-of x s of (types.Part t) (held_part object) h k e lies =
      let i : t.0 ≡ s = cc (h) in
      let j : s ≡ of = grind (arith, nat_tests, k) in
      (object, ap (option_and_then part_in) e, lies ∙ ap (λ n. Some n) (i ∙ j))
  part-of x s of (types.Part t) held h k e lies = absurd lies
  part-of x s of ty held h k e lies = absurd (cc (h))

  pub receiver-is : (called : Called) (m : MethodTree) → calls_method (context_of b) called m ≡ true → ReceiverOf called m
  receiver-is (own k) m h =
      let same : m.of ≡ b.method.of = grind (arith, nat_tests, h) in
      record { object = b.object; is = refl; of = lawful.receiver ∙ ap (λ n. Some n) (sym same) }
  receiver-is (sub x k) m h =
      let p = and_parts m.public _ h in
      by (field_at b.within b.method.of x) refl p.1
    where
      matches : (o : Option ℕ) → is_some (option_and_then (λ s. if nat_eq s m.of then Some s else None) o) ≡ true → (s : ℕ) × (o ≡ Some s) × (nat_eq s m.of ≡ true)
      matches None e = absurd (cc (e))
      matches (Some s) e = (s, refl, test (nat_eq s m.of) e)
        where
          test : (t : Bool) → is_some (if t then Some s else None) ≡ true → t ≡ true
          test true i = refl
          test false i = absurd (cc (i))

      by : (o : Option Ty) → field_at b.within b.method.of x ≡ o → is_some (option_and_then (λ s. if nat_eq s m.of then Some s else None) (struct_of_field o)) ≡ true → ReceiverOf (sub x k) m
      by None e i = absurd (cc (i))
      by (Some ty) e i =
          let s = matches (struct_of_field (Some ty)) i in
          let old : FieldHas R shape b vars.world x ty = field-has R shape b vars.world x ty lawful.world lawful.receiver e in
          let r = part-of x s.0 m.of ty old.held s.1 s.2 old.is old.lies in
          record { object = r.0; is = r.1; of = r.2 }
