-- The runs of bodies: none is stuck, values lie in their types again, and each method keeps to its mark.
use Rattle.std.proofs.Common.{◌≡◌, inl, inr, ℕ, zero, suc, ◌+◌, Bool, true, false, not, ◌&&◌, List, [], ◌∷◌, map, Option, Some, None, refl, sym, ap, ◌∙◌, subst, arith}
use Rattle.std.specs.Prelude.{slice_get, option_map, option_and_then, unwrap_or, Ok}
use Rattle.std.specs.List.{list_all}
use Rattle.std.proofs.lemmas.Bool.{and_parts}
use Rattle.turns.specs.Run.{Go, Turn, End, Out, Fail, Outcome, Got, More, Lost, run}
use Rattle.turns.specs.Steps.{NextKeeps}
use Rattle.wf_text.specs.declared.place.Place.{Place}
use Rattle.wf_base.specs.declared.marks.Mark.{Mark}
use Rattle.wf_base.specs.declared.marks.Mark.TheVariants.{Pure, Impure, Coroutine}
use Rattle.wf_ast.specs.declared.types.Ty.{Ty}
use Rattle.wf_ast.specs.TypedTree.{assign, await, perform, invoke, break_from, continue_in, give_back, yield, claim, Block, end, plain, choose, loop}
use Rattle.wf_ast.specs.TypedPackage.{Variable, MethodTree, PackageTree}
use Rattle.wf_ast.specs.Value.{Value}
use Rattle.wf_ast.specs.WellTyped.{Context, variable_at, may_be_arg, may_be_local, may_be_result, answers_always, well_block, well_method, well_typed, number_of, calls_only}
use Rattle.wf_meaning.specs.SourceState.{stop, Remaining, Object}
use Rattle.wf_meaning.specs.World.{World, Body, updated, with_object, held_at}
use Rattle.wf_meaning.specs.SourceStep.{At, Ending, gives, suspends, Steps, Call, Callees, at_block, step, weight}
use Rattle.wf_meaning.specs.SourceCall.{fresh_local, set_remaining, begins, remaining_of, taken_up, left_over, body_run}
use Rattle.wf_meaning.proofs.Weights.{IsThrifty, step_falls}
use Rattle.wf_meaning.proofs.Lists.{updated-other, same_or_other}
use Rattle.wf_bounds_stmts.specs.FactRules.{Known}
use Rattle.wf_bounds_stmts.specs.MethodRules.{zero_facts, through_method}
use Rattle.wf_sound.specs.Worlds.{Shape, HaveTypes, IsLawfulWorld, AreApart}
use Rattle.wf_sound.specs.Callees.{KeepsTo, RunsWell, MethodRuns}
use Rattle.wf_sound.specs.OneStep.{ComesTo, IsWellTyped, resumed}
use Rattle.wf_sound.proofs.FieldWrites.{same_or_not, item-changed, still-there, Was, was}
use Rattle.wf_sound.proofs.StatementLaw.{Declared, declared}
use Rattle.wf_sound_runs.specs.Chains.{well_made, body_calls}
use Rattle.wf_sound_runs.proofs.Accepts.{Accepts, accepts-less, accepted-block}
use Rattle.wf_sound_runs.proofs.Placed.{calls-itself}
use Rattle.wf_sound_runs.proofs.Running.{Ended, Resumable, IsResumable, Stands, EndsSo, NextCalls, step-keeps, stands-first}
use Rattle.wf_sound_runs.proofs.RunsSound.{NextSound, Sound, run-sound}
use Rattle.wf_sound_runs.proofs.Effects.{keeps-on}
use Rattle.wf_sound_runs.proofs.StepEffects.{step-eff}
use Rattle.wf_sound_runs.proofs.Begins.{never-ends, fresh-typed, zeros-true, zero-facts}

-- A method of a package that the rules accept.
pub record MethodAccepted (p : PackageTree) (m : MethodTree) : Type 0 where
  pub well : well_method p m ≡ true
  pub made : well_made m.body ≡ true
  pub local_at : ℕ → Place
  pub known : Known
  pub through : through_method local_at p m ≡ Ok known

both : (p q : Bool) → p ≡ true → q ≡ true → (p && q) ≡ true
both true q h k = k
both false q h k = absurd (cc (h))

module _ (p : PackageTree) (shape : Shape) where
  abbrev R : (method : ℕ) → Remaining → Type 0
  R = IsResumable p

  abbrev body : MethodTree → (object : ℕ) → List Value → Body
  body m object args = record { within = p; object = object; method = m; args = args }

  module _ (m : MethodTree) (accepted : MethodAccepted p m) (typed : well_typed p ≡ true) (object : ℕ) (args : List Value) (sole : AreApart args) where
    abbrev typed_body : IsWellTyped (body m object args)
    typed_body = record { whole = typed; method = accepted.well }

    abbrev c : Context
    c = record { within = p; method = m }

    keeps-rules : Declared m
    keeps-rules = declared p m accepted.well

    -- The block of a method, and that it never ends where the method has a result.
    pub record MethodParts : Type 0 where
      pub block_well : well_block c [] m.body ≡ true
      pub always : answers_always m.mark m.gives m.body ≡ true

    method-parts : MethodParts
    method-parts =
        let a = and_parts _ _ accepted.well in
        let d = and_parts (list_all (λ x. may_be_arg x.ty) m.args) _ a.1 in
        let e = and_parts (list_all (λ x. may_be_local x.ty) m.locals) _ d.1 in
        let f = and_parts (may_be_result m.mark m.gives) _ e.1 in
        let g = and_parts (answers_always m.mark m.gives m.body) _ f.1 in
        record { block_well = g.1; always = g.0 }

    first-accepts : Accepts c [] m.body (zero_facts accepted.local_at 0 m.locals) (Ended p m stop)
    first-accepts =
        let a = accepted-block c [] m.body (zero_facts accepted.local_at 0 m.locals) accepted.known method-parts.block_well accepted.made (zero-facts c accepted.local_at 0 m.locals keeps-rules.locals (λ i ty e. let z : 0 + i ≡ i = omega arith in from_zero i ty z e)) accepted.through in
        by m.gives refl method-parts.always a
      where
        from_zero : (i : ℕ) (ty : Ty) → 0 + i ≡ i → variable_at m.locals i ≡ Some ty → variable_at m.locals (0 + i) ≡ Some ty
        from_zero i ty z e = let P : ℕ → Type 0 = λ k. variable_at m.locals k ≡ Some ty in subst P (sym z) e

        by : (g : Option Ty) → m.gives ≡ g → answers_always m.mark g m.body ≡ true → Accepts c [] m.body (zero_facts accepted.local_at 0 m.locals) (λ es. accepted.known ≡ Some es) → Accepts c [] m.body (zero_facts accepted.local_at 0 m.locals) (Ended p m stop)
        by None i k a = accepts-less c [] m.body (zero_facts accepted.local_at 0 m.locals) (λ es. accepted.known ≡ Some es) (Ended p m stop) (λ es e. i) a
        by (Some ty) i k a =
            accepts-less c [] m.body (zero_facts accepted.local_at 0 m.locals) (λ es. ⊥) (Ended p m stop) (λ es e. absurd e)
            (never-ends c [] m.body (zero_facts accepted.local_at 0 m.locals) (λ es. accepted.known ≡ Some es) k a)

    module _ (receiver : slice_get shape.structs object ≡ Some m.of) (lie : HaveTypes p shape m.args args) where
      begins-first : (w : World) → IsLawfulWorld p R shape w → Stands R shape (body m object args) typed_body sole (at_block m.body stop (record { locals = map (λ x. fresh_local x.ty) m.locals; world = w }))
      begins-first w lawful =
          stands-first R shape (body m object args) typed_body sole m.body stop (record { locals = map (λ x. fresh_local x.ty) m.locals; world = w }) (zero_facts accepted.local_at 0 m.locals)
          (record { world = lawful; receiver = receiver; args = lie; locals = fresh-typed p shape m.locals keeps-rules.locals })
          (record { well = both _ _ (both (well_block c [] m.body) _ method-parts.block_well refl) refl; made = accepted.made; others = refl; calls = calls-itself m.body; calls_others = refl })
          tt (zero-facts c accepted.local_at 0 m.locals keeps-rules.locals (λ i ty e. let z : 0 + i ≡ i = omega arith in from_zero i ty z e)) first-accepts
          (zeros-true (body m object args) w (map (λ x. fresh_local x.ty) m.locals) accepted.local_at 0 m.locals (λ i ty e. fresh-at m.locals i ty e))
        where
          from_zero : (i : ℕ) (ty : Ty) → 0 + i ≡ i → variable_at m.locals i ≡ Some ty → variable_at m.locals (0 + i) ≡ Some ty
          from_zero i ty z e = let P : ℕ → Type 0 = λ k. variable_at m.locals k ≡ Some ty in subst P (sym z) e

          at : (xs : List Variable) (i : ℕ) (ty : Ty) → variable_at xs i ≡ Some ty → slice_get (map (λ x. fresh_local x.ty) xs) i ≡ Some (fresh_local ty)
          at [] i ty e = absurd (cc (e))
          at (x ∷ xs) zero ty e = let same : x.ty ≡ ty = cc (e) in ap (λ ty. Some (fresh_local ty)) same
          at (x ∷ xs) (suc i) ty e = at xs i ty e

          fresh-at : (xs : List Variable) (i : ℕ) (ty : Ty) → variable_at xs i ≡ Some ty → slice_get (map (λ x. fresh_local x.ty) xs) (0 + i) ≡ Some (fresh_local ty)
          fresh-at xs i ty e =
              let z : 0 + i ≡ i = omega arith in
              let P : ℕ → Type 0 = λ k. slice_get (map (λ x. fresh_local x.ty) xs) k ≡ Some (fresh_local ty) in
              subst P (sym z) (at xs i ty e)

      begins-left : (left : Remaining) (w : World) → IsLawfulWorld p R shape w → Resumable p m left → Stands R shape (body m object args) typed_body sole (record { done = left.done; block = left.block; behind = left.behind; vars = record { locals = left.locals; world = w } })
      begins-left left w lawful r =
          let P : Block → Type 0 = λ blk. Stands R shape (body m object args) typed_body sole (record { done = left.done; block = blk; behind = left.behind; vars = record { locals = left.locals; world = w } }) in
          let there : P (plain r.site r.statement r.rest) = record {
            lawful = record { world = lawful; receiver = receiver; args = lie; locals = r.locals shape };
            placed = r.placed;
            loops = r.loops;
            list = r.list;
            facts = r.facts;
            accepts = r.accepts;
            reached = resumed r.started (r.known object args w);
          } in
          subst P (sym r.first) there

  -- What remains of a method is set: fields, buffers and byte arrays stay.
  module _ (k method : ℕ) (left : Option Remaining) (w : World) where
    fields-stay : (object n : ℕ) → held_at w object n ≡ held_at (with_object k (set_remaining method left) w) object n
    fields-stay object n = elim (same_or_not object k) [
      | inl is ↦ here is
      | inr not ↦ ap (option_and_then (λ (o : Object). slice_get o.fields n)) (sym (updated-other (set_remaining method left) k object w.objects not))
    ]
      where
        at : (o : Option Object) → option_and_then (λ (o : Object). slice_get o.fields n) o ≡ option_and_then (λ (o : Object). slice_get o.fields n) (option_map (set_remaining method left) o)
        at None = refl
        at (Some o) = refl

        here : object ≡ k → held_at w object n ≡ held_at (with_object k (set_remaining method left) w) object n
        here is =
            let P : ℕ → Type 0 = λ object. held_at w object n ≡ held_at (with_object k (set_remaining method left) w) object n in
            subst P (sym is) (rw (item-changed (set_remaining method left) k w.objects) (at (slice_get w.objects k)))

    remaining-lawful : IsLawfulWorld p R shape w → ((x : Remaining) → left ≡ Some x → R method x) → IsLawfulWorld p R shape (with_object k (set_remaining method left) w)
    remaining-lawful h f = record {
      objects = λ o s e. still-there (set_remaining method left) k o w.objects (h.objects o s e);
      fields = λ object n ty e. let found = h.fields object n ty e in (found.0, sym (fields-stay object n) ∙ found.1, found.2);
      remaining = remaining;
      arrays = h.arrays;
      buffers = h.buffers;
    }
      where
        old : (o mt : ℕ) (x y : Object) (it : Remaining) → slice_get w.objects o ≡ Some x → y ≡ x → slice_get y.remaining mt ≡ Some (Some it) → R mt it
        old o mt x y it e same i = let P : Object → Type 0 = λ y. slice_get y.remaining mt ≡ Some (Some it) in h.remaining o mt x it e (subst P same i)

        new : (o mt : ℕ) (x y : Object) (it : Remaining) → slice_get w.objects o ≡ Some x → y ≡ set_remaining method left x → slice_get y.remaining mt ≡ Some (Some it) → R mt it
        new o mt x y it e same i =
            let P : Object → Type 0 = λ y. slice_get y.remaining mt ≡ Some (Some it) in
            elim (same_or_other method mt x.remaining (subst P same i)) [
              | inl q ↦ let Q : ℕ → Type 0 = λ n. R n it in subst Q q.0 (f it q.1)
              | inr q ↦ h.remaining o mt x it e q
            ]

        remaining : (o mt : ℕ) (y : Object) (it : Remaining) → slice_get (updated (set_remaining method left) k w.objects) o ≡ Some y → slice_get y.remaining mt ≡ Some (Some it) → R mt it
        remaining o mt y it e i =
            let v : Was (set_remaining method left) k o w.objects y = was (set_remaining method left) k o w.objects y e in
            elim v.from [
              | inl q ↦ old o mt v.x y it v.is q i
              | inr q ↦ new o mt v.x y it v.is q.1 i
            ]

    remaining-keeps : (mark : Mark) (args : List Value) → KeepsTo mark args w (with_object k (set_remaining method left) w)
    remaining-keeps Pure args = record { fields = fields-stay; host = refl }
    remaining-keeps Impure args = record { buffers = λ i f. refl }
    remaining-keeps Coroutine args = record { buffers = λ i f. refl }

  -- A step that is sound, and keeps to its mark.
  joined : (mark : Mark) (args : List Value) (w0 v : World) (N : At → Type 0) (E : Ending × World → Type 0) (x : Steps) → KeepsTo mark args w0 v → ComesTo N E x
      → NextKeeps (λ (y : At). KeepsTo mark args v y.vars.world) (λ (e : Ending × World). KeepsTo mark args v e.1) x
      → NextSound (λ (y : At). N y × KeepsTo mark args w0 y.vars.world) (λ (e : Ending × World). E e × KeepsTo mark args w0 e.1) x
  joined mark args w0 v N E (Go y) k h g = (h, keeps-on mark args w0 v y.vars.world k g)
  joined mark args w0 v N E (Turn left y) k h g = (h, keeps-on mark args w0 v y.vars.world k g)
  joined mark args w0 v N E (End left e) k h g = (h, keeps-on mark args w0 v e.1 k g)
  joined mark args w0 v N E Out k h g = tt
  joined mark args w0 v N E Fail k h g = h

  -- The run of a body.
  module _ (m : MethodTree) (accepted : MethodAccepted p m) (typed : well_typed p ≡ true) (number : ℕ) (numbered : slice_get p.methods number ≡ Some m) (object : ℕ) (args : List Value) (sole : AreApart args) (receiver : slice_get shape.structs object ≡ Some m.of)
      (lie : HaveTypes p shape m.args args) (calls : Callees) (thrifty : IsThrifty calls) (inner : (k : ℕ) → body_calls m.body k ≡ true → (turns : ℕ) (w : World) → IsLawfulWorld p R shape w → MethodRuns calls p R shape k turns w) where
    abbrev b : Body
    b = body m object args

    abbrev tb : IsWellTyped (body m object args)
    tb = record { whole = typed; method = accepted.well }

    abbrev call : Call
    call = record { object = object; method = number; args = args }

    -- What each statement calls runs well.
    next-calls : (turns : ℕ) (x : At) → Stands R shape b tb sole x → NextCalls R shape b tb sole calls turns x.block x.vars.world
    next-calls turns x h = by x.block h.placed.calls
      where
        by : (blk : Block) → calls_only (body_calls m.body) blk ≡ true → NextCalls R shape b tb sole calls turns blk x.vars.world
        by end k = tt
        by (choose site chained t a d rest) k = tt
        by (loop site head bd rest) k = tt
        by (plain site (invoke at target keep mark called vs) rest) k = inner (number_of called) (and_parts (body_calls m.body (number_of called)) _ k).0 turns x.vars.world h.lawful.world
        by (plain site (assign target op v) rest) k = tt
        by (plain site (await at target a cl) rest) k = tt
        by (plain site (perform at target cl) rest) k = tt
        by (plain site (break_from v) rest) k = tt
        by (plain site (continue_in v) rest) k = tt
        by (plain site (give_back v) rest) k = tt
        by (plain site (yield v) rest) k = tt
        by (plain site (claim goal byy) rest) k = tt

    module _ (w0 : World) where
      abbrev I : At → Type 0
      I x = Stands R shape b tb sole x × KeepsTo m.mark args w0 x.vars.world

      abbrev Q : Ending × World → Type 0
      Q e = EndsSo R shape b tb sole e × KeepsTo m.mark args w0 e.1

      steps-sound : (turns : ℕ) (x : At) → I x → NextSound I Q (step b calls turns x)
      steps-sound turns x h =
          let runs = next-calls turns x h.0 in
          joined m.mark args w0 x.vars.world (Stands R shape b tb sole) (EndsSo R shape b tb sole) (step b calls turns x) h.1 (step-keeps R shape b tb sole calls turns x h.0 runs) (step-eff R shape b tb sole calls turns x h.0 runs)

      run-of : (turns : ℕ) (x : At) → I x → Sound Q (run (step b calls) weight turns x)
      run-of turns x h = run-sound (step b calls) weight (step_falls b calls thrifty) I Q steps-sound turns x h

      -- What it leaves over.
      leaves : (o : Outcome (Ending × World)) → Sound Q o → RunsWell p R shape m args w0 (left_over call o)
      leaves (Got left (gives v, w)) h = record { world = h.0.0; answer = h.0.1; keeps = h.1 }
      leaves (Got left (suspends status items, w)) h = record {
        world = remaining-lawful object number (Some items) w h.0.0 (λ x e. resumable x e);
        answer = h.0.1.0;
        keeps = keeps-on m.mark args w0 w (with_object object (set_remaining number (Some items)) w) h.1 (remaining-keeps object number (Some items) w m.mark args);
      }
        where
          resumable : (x : Remaining) → Some items ≡ Some x → R number x
          resumable x e =
              let same : items ≡ x = cc (e) in
              let P : Remaining → Type 0 = λ x. R number x in
              subst P same (record { method = m; numbered = numbered; resumes = h.0.1.1 })
      leaves More h = tt
      leaves Lost h = h

    -- Where it begins.
    remains : (w : World) → IsLawfulWorld p R shape w → (o : Option Remaining) → remaining_of w call ≡ o → (left : Remaining) → o ≡ Some left → Resumable p m left
    remains w lawful o e left i = by_object (slice_get w.objects object) refl (e ∙ i)
      where
        mine : IsResumable p number left → Resumable p m left
        mine r =
            let same1 : Some r.method ≡ Some m = sym r.numbered ∙ numbered in
            let same : r.method ≡ m = cc (same1) in
            let P : MethodTree → Type 0 = λ m. Resumable p m left in
            subst P same r.resumes

        by_entry : (x : Object) → slice_get w.objects object ≡ Some x → (q : Option (Option Remaining)) → slice_get x.remaining number ≡ q → unwrap_or q None ≡ Some left → Resumable p m left
        by_entry x j None a k = absurd (cc (k))
        by_entry x j (Some q) a k = mine (lawful.remaining object number x left j (a ∙ ap (λ q. Some q) k))

        by_object : (o : Option Object) → slice_get w.objects object ≡ o → option_and_then (λ it. unwrap_or (slice_get it.remaining number) None) o ≡ Some left → Resumable p m left
        by_object None a k = absurd (cc (k))
        by_object (Some x) a k = by_entry x a (slice_get x.remaining number) refl k

    begins-so : (w v : World) → IsLawfulWorld p R shape w → IsLawfulWorld p R shape v → (o : Option Remaining) → remaining_of w call ≡ o → Stands R shape b tb sole (begins m v o)
    begins-so w v h k None e = begins-first m accepted typed object args sole receiver lie v k
    begins-so w v h k (Some left) e = begins-left m accepted typed object args sole receiver lie left v k (remains w h (Some left) e left refl)

    pub body-runs : (turns : ℕ) (w : World) → IsLawfulWorld p R shape w → RunsWell p R shape m args w (body_run p calls m call turns w)
    body-runs zero w h = tt
    body-runs (suc turns) w h =
        let v : World = taken_up call w in
        let k = remaining-lawful object number None w h (λ x e. absurd (cc (e))) in
        leaves w (run (step b calls) weight turns (begins m v (remaining_of w call))) (run-of w turns (begins m v (remaining_of w call)) (begins-so w v h k (remaining_of w call) refl, begun (remaining_of w call)))
      where
        begun : (o : Option Remaining) → KeepsTo m.mark args w (begins m (taken_up call w) o).vars.world
        begun None = remaining-keeps object number None w m.mark args
        begun (Some left) = remaining-keeps object number None w m.mark args
