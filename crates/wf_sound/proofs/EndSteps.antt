-- The steps at which a method is left: by `return`, at its end, and to be resumed.
use Rattle.std.proofs.Common.{◌≡◌, ℕ, zero, suc, ◌≤◌, Bool, true, false, not, List, [], ◌∷◌, Option, Some, None, refl, sym, ap, ◌∙◌, subst, arith}
use Rattle.std.specs.Prelude.{slice_get, option_map, if◌then◌else◌}
use Rattle.std.specs.List.{list_all}
use Rattle.std.proofs.lemmas.Bool.{and_parts}
use Rattle.std.proofs.lemmas.Bool.Decides.{nat_tests}
use Rattle.std.proofs.lemmas.Option.{slice_get-map}
use Rattle.turns.specs.Run.{End}
use Rattle.wf_text.specs.declared.rules.Rule.TheVariants.{B1}
use Rattle.wf_base.specs.declared.marks.Mark.{Mark}
use Rattle.wf_base.specs.declared.marks.Mark.TheVariants.{Pure, Impure, Coroutine}
use Rattle.wf_ast.specs.declared.types.Ty.{Ty}
use Rattle.wf_ast.specs.declared.types.Ty.TheVariants as types
use Rattle.wf_ast.specs.TypedTree.{ValueTree, numeric, logical, state, elements, io, lost, Simple, yield, Site, Block, plain}
use Rattle.wf_ast.specs.TypedPackage.{Variable, PackageTree}
use Rattle.wf_ast.specs.Value.{State, Value, num, truth_value, status_number, span, buffer, value_of}
use Rattle.wf_ast.specs.WellTyped.{Context, is_coroutine, fits_type, may_be_local, may_be_result, variable_at, well_returned}
use Rattle.wf_facts_exprs.specs.Claims.{Claim, AllTrue}
use Rattle.wf_facts_exprs.specs.Demands.{value_refusal}
use Rattle.wf_facts_exprs.specs.LawfulState.{well_claims}
use Rattle.wf_facts_exprs.proofs.Soundness.{SoundStatus, status-sound}
use Rattle.wf_meaning.specs.SourceState.{Behind, Remaining, Done, untouched, has_bytes, to_skip, to_write, has_yielded}
use Rattle.wf_meaning.specs.Entry.{ok, returned, suspended}
use Rattle.wf_meaning.specs.World.{World, Body, Vars, view, kept_local, kept_locals}
use Rattle.wf_meaning.specs.SourceStep.{At, gives, suspends, Steps, state_of, with_some, where_true, either, is_result, returned_status, given_back, body_end, yielded}
use Rattle.wf_bounds_stmts.specs.Calls.{interrupted}
use Rattle.wf_bounds_stmts.specs.FactRules.{return_refusal}
use Rattle.wf_sound.specs.Worlds.{Shape, IsOfType, HaveTypes, IsLawfulWorld, context_of, IsLawfulBody}
use Rattle.wf_sound.specs.Positions.{is_slice_value}
use Rattle.wf_sound.specs.Callees.{IsAnswer}
use Rattle.wf_sound.specs.OneStep.{IsStarted, IsReached, afresh, resumed, ComesTo, StandsBefore, IsLeftAt, Ends}
use Rattle.wf_sound.proofs.Views.{lawful-view}
use Rattle.wf_sound.proofs.Drops.{interrupted-here, still-true}
use Rattle.wf_sound.proofs.Agreements.{kept-agree}
use Rattle.wf_sound.proofs.HandedValues.{neither, TypedValue, value-typed}
use Rattle.wf_sound.proofs.AssignSteps.{goes-with}
use Rattle.wf_sound.proofs.ClaimSteps.{goes-where}

-- One step or another.
pub goes-first : (P : Steps → Type 0) (test : Bool) (steps other : Steps) → test ≡ true → P steps → P (either test steps other)
unfolding either
goes-first P test steps other e h = let Q : Bool → Type 0 = λ t. P (if t then steps else other) in subst Q (sym e) h

pub goes-second : (P : Steps → Type 0) (test : Bool) (steps other : Steps) → test ≡ false → P other → P (either test steps other)
unfolding either
goes-second P test steps other e h = let Q : Bool → Type 0 = λ t. P (if t then steps else other) in subst Q (sym e) h

-- What is kept of locals lies in their types in every world.
pub kept-typed : (p : PackageTree) (shape later : Shape) (declared : List Variable) (values : List Value) → list_all (λ x. may_be_local x.ty) declared ≡ true → HaveTypes p shape declared values → HaveTypes p later declared (kept_locals values)
kept-typed p shape later declared values may h = record { each = each }
  where
    one : (ty : Ty) (v : Value) → may_be_local ty ≡ true → IsOfType p shape ty v → IsOfType p later ty (kept_local v)
    one (types.Num width lo hi) (num n) m k = k
    one (types.Num width lo hi) v m k = absurd k
    one types.Flag (truth_value t) m k = tt
    one types.Flag v m k = absurd k
    one types.Status (status_number n) m k = tt
    one types.Status v m k = absurd k
    one (types.Slice width) (span s) m k = record { few = omega arith; inside = omega arith; takes = refl }
    one (types.Slice width) v m k = absurd k
    one ty v m k = absurd (cc (m))

    is_local : (xs : List Variable) (n : ℕ) (ty : Ty) → list_all (λ x. may_be_local x.ty) xs ≡ true → variable_at xs n ≡ Some ty → may_be_local ty ≡ true
    is_local [] n ty m e = absurd (cc (e))
    is_local (x ∷ xs) zero ty m e =
        let same : x.ty ≡ ty = cc (e) in
        let P : Ty → Type 0 = λ ty. may_be_local ty ≡ true in
        subst P same (and_parts (may_be_local x.ty) _ m).0
    is_local (x ∷ xs) (suc n) ty m e = is_local xs n ty (and_parts (may_be_local x.ty) _ m).1 e

    each : (n : ℕ) (ty : Ty) → variable_at declared n ≡ Some ty → (v : Value) × (slice_get (kept_locals values) n ≡ Some v) × IsOfType p later ty v
    each n ty e =
        let found = h.each n ty e in
        (kept_local found.0, slice_get-map kept_local values n ∙ ap (option_map kept_local) found.1, one ty found.0 (is_local declared n ty may e) found.2)

module _ (R : (method : ℕ) → Remaining → Type 0) (shape : Shape) (b : Body) (vars : Vars) (lawful : IsLawfulBody R shape b vars) where
  abbrev c : Context
  c = context_of b

  abbrev s : State
  s = state_of b vars

  -- A coroutine is left at a statement.
  answers-suspended : (mark : Mark) (result : Option Ty) (status : ℕ) → is_coroutine mark ≡ true → IsAnswer mark result (suspended status)
  answers-suspended Coroutine result status h = tt
  answers-suspended mark result status h = absurd (cc (h))

  pub left-at : (site : Site) (st : Simple) (rest : Block) (behind : Behind) (fs : List Claim) (done : Done) (status : ℕ) (w : World) → is_coroutine b.method.mark ≡ true → list_all (λ x. may_be_local x.ty) b.method.locals ≡ true
      → IsStarted st done → AllTrue s (interrupted fs) → IsLawfulWorld b.within R shape w
      → Ends R shape b (IsLeftAt R shape b site st rest behind fs) (suspends status (record { done = done; block = plain site st rest; behind = behind; locals = kept_locals vars.locals }), w)
  left-at site st rest behind fs done status w co may started known world = (
    world,
    (
      answers-suspended b.method.mark b.method.gives status co,
      record {
        first = refl;
        after = refl;
        started = started;
        locals = λ later. kept-typed b.within shape later b.method.locals vars.locals may lawful.locals;
        facts = λ object args later. still-true s (view (record b { object = object; args = args }) (kept_locals vars.locals) later) fs (kept-agree b object args vars.locals vars.world later) known;
      },
    ),
  )

  -- What is known after the drops of a statement is true however it is reached.
  pub reached : (fs : List Claim) (st : Simple) (done : Done) → IsReached b vars fs st done → AllTrue s (interrupted fs)
  reached fs st done (afresh e h) = interrupted-here s fs h
  reached fs st done (resumed e h) = h

  -- `yield?`.
  pub yield-step : (n status : ℕ) (site : Site) (rest : Block) (behind : Behind) (fs : List Claim) (done : Done) → is_coroutine b.method.mark ≡ true → list_all (λ x. may_be_local x.ty) b.method.locals ≡ true
      → IsReached b vars fs (yield status) done
      → ComesTo (StandsBefore R shape b rest behind (interrupted fs)) (Ends R shape b (IsLeftAt R shape b site (yield status) rest behind fs)) (yielded n status done (plain site (yield status) rest) rest behind vars)
  yield-step n status site rest behind fs done co may (afresh e h) =
      let P : Done → Type 0 = λ done. ComesTo (StandsBefore R shape b rest behind (interrupted fs)) (Ends R shape b (IsLeftAt R shape b site (yield status) rest behind fs)) (yielded n status done (plain site (yield status) rest) rest behind vars) in
      subst P (sym e) (left-at site (yield status) rest behind fs has_yielded status vars.world co may tt (interrupted-here s fs h) lawful.world)
  yield-step n status site rest behind fs has_yielded co may (resumed e h) = record { fresh = refl; first = refl; after = refl; lawful = lawful; facts = h }
  yield-step n status site rest behind fs untouched co may (resumed e h) = absurd e
  yield-step n status site rest behind fs (has_bytes bytes) co may (resumed e h) = absurd e
  yield-step n status site rest behind fs (to_skip left) co may (resumed e h) = absurd e
  yield-step n status site rest behind fs (to_write it) co may (resumed e h) = absurd e

  -- `return`.
  nothing-returned : (mark : Mark) (result : Option Ty) → well_returned c mark result None ≡ true → (not (is_coroutine mark) ≡ true) × IsAnswer mark result (returned None)
  nothing-returned Pure None h = (refl, tt)
  nothing-returned Impure None h = (refl, tt)
  nothing-returned Coroutine result h = absurd (cc (h))
  nothing-returned mark (Some ty) h = absurd (cc (h))

  module _ (fs : List Claim) (well : well_claims c fs ≡ true) (known : AllTrue s fs) (N : At → Type 0) (leaves : Remaining → Type 0) where
    answer-returned : (mark : Mark) (result : Option Ty) (ty : Ty) (u : Value) → is_coroutine mark ≡ false → result ≡ Some ty → is_result result u ≡ true → IsAnswer mark result (returned (Some u))
    answer-returned Pure (Some t) ty u h e k = k
    answer-returned Impure (Some t) ty u h e k = k
    answer-returned Coroutine result ty u h e k = absurd (cc (h))
    answer-returned mark None ty u h e k = absurd (cc (e))

    given-result : (n : ℕ) (ty : Ty) (u : Value) → is_coroutine b.method.mark ≡ false → b.method.gives ≡ Some ty → is_result (Some ty) u ≡ true → ComesTo N (Ends R shape b leaves) (given_back b n vars.world u)
    given-result n ty u co is h = by u (answer-returned b.method.mark b.method.gives ty u co is (ap (λ o. is_result o u) is ∙ h)) (ap (λ o. is_result o u) is ∙ h)
      where
        by : (u : Value) → IsAnswer b.method.mark b.method.gives (returned (Some u)) → is_result b.method.gives u ≡ true → ComesTo N (Ends R shape b leaves) (given_back b n vars.world u)
        by (status_number m) a r = goes-second (ComesTo N (Ends R shape b leaves)) (is_coroutine b.method.mark) _ _ co (goes-where (ComesTo N (Ends R shape b leaves)) (is_result b.method.gives (status_number m)) _ r (lawful.world, a))
        by (num m) a r = goes-where (ComesTo N (Ends R shape b leaves)) (is_result b.method.gives (num m)) _ r (lawful.world, a)
        by (truth_value m) a r = goes-where (ComesTo N (Ends R shape b leaves)) (is_result b.method.gives (truth_value m)) _ r (lawful.world, a)
        by (span m) a r = goes-where (ComesTo N (Ends R shape b leaves)) (is_result b.method.gives (span m)) _ r (lawful.world, a)
        by (buffer m) a r = goes-where (ComesTo N (Ends R shape b leaves)) (is_result b.method.gives (buffer m)) _ r (lawful.world, a)

    is-result : (ty : Ty) (u : Value) → (mark : Mark) → is_coroutine mark ≡ false → may_be_result mark (Some ty) ≡ true → IsOfType b.within shape ty u → is_result (Some ty) u ≡ true
    is-result (types.Num width lo hi) (num n) mark co m h = let p : lo ≤ n = h.above in let q : n ≤ hi = h.below in grind (arith, nat_tests, p, q)
    is-result (types.Num width lo hi) v mark co m h = absurd h
    is-result types.Flag (truth_value t) mark co m h = refl
    is-result types.Flag v mark co m h = absurd h
    is-result types.Status (status_number t) mark co m h = refl
    is-result types.Status v mark co m h = absurd h
    is-result (types.Slice width) v mark co m h = absurd (none mark co m)
      where
        none : (mark : Mark) → is_coroutine mark ≡ false → may_be_result mark (Some (types.Slice width)) ≡ true → ⊥
        none Pure co m = cc (m)
        none Impure co m = cc (m)
        none Coroutine co m = cc (m)
    is-result types.Reader v mark co m h = absurd (none mark co m)
      where
        none : (mark : Mark) → is_coroutine mark ≡ false → may_be_result mark (Some types.Reader) ≡ true → ⊥
        none Pure co m = cc (m)
        none Impure co m = cc (m)
        none Coroutine co m = cc (m)
    is-result types.Writer v mark co m h = absurd (none mark co m)
      where
        none : (mark : Mark) → is_coroutine mark ≡ false → may_be_result mark (Some types.Writer) ≡ true → ⊥
        none Pure co m = cc (m)
        none Impure co m = cc (m)
        none Coroutine co m = cc (m)
    is-result ty v mark co m h = absurd h

    slice-result : (mark : Mark) (ty : Ty) (v : ValueTree) → is_coroutine mark ≡ false → may_be_result mark (Some ty) ≡ true → fits_type c ty v ≡ true → is_slice_value v ≡ true
    slice-result mark ty (elements t) co m f = absurd (none mark ty co m f)
      where
        none : (mark : Mark) (ty : Ty) → is_coroutine mark ≡ false → may_be_result mark (Some ty) ≡ true → fits_type c ty (elements t) ≡ true → ⊥
        none Pure (types.Slice width) co m f = cc (m)
        none Impure (types.Slice width) co m f = cc (m)
        none Coroutine (types.Slice width) co m f = cc (m)
        none mark ty co m f = cc (f)
    slice-result mark ty v co m f = refl

    result-returned : (n : ℕ) (ty : Ty) (v : ValueTree) → is_coroutine b.method.mark ≡ false → b.method.gives ≡ Some ty → may_be_result b.method.mark (Some ty) ≡ true → fits_type c ty v ≡ true
        → return_refusal fs (Some ty) (Some v) ≡ None → ComesTo N (Ends R shape b leaves) (with_some (value_of s v) (given_back b n vars.world))
    result-returned n ty v co is_type may fits e =
        let p = neither (value_refusal fs v) _ e in
        let x : TypedValue R shape b vars lawful fs well known ty v = value-typed R shape b vars lawful fs well known ty v B1 fits (slice-result b.method.mark ty v co may fits) p.0 p.1 in
        goes-with (ComesTo N (Ends R shape b leaves)) (value_of s v) x.v (given_back b n vars.world) x.is (given-result n ty x.v co is_type (is-result ty x.v b.method.mark co may x.lies))

    status-returned : (n : ℕ) (v : ValueTree) (result : Option Ty) → is_coroutine b.method.mark ≡ true → well_returned c Coroutine result (Some v) ≡ true → ComesTo N (Ends R shape b leaves) (with_some (value_of s v) (given_back b n vars.world))
    status-returned n (state t) result co h =
        let x : SoundStatus c s (lawful-view R shape b vars lawful) fs well known t = status-sound c s (lawful-view R shape b vars lawful) fs well known t h in
        goes-with (ComesTo N (Ends R shape b leaves)) (value_of s (state t)) (status_number x.number) (given_back b n vars.world) (ap (option_map status_number) x.is)
        (goes-first (ComesTo N (Ends R shape b leaves)) (is_coroutine b.method.mark) _ _ co (lawful.world, answer b.method.mark co (returned_status b x.number)))
      where
        answer : (mark : Mark) → is_coroutine mark ≡ true → (m : ℕ) → IsAnswer mark b.method.gives (returned (Some (status_number m)))
        answer Coroutine co m = tt
        answer mark co m = absurd (cc (co))
    status-returned n (numeric t) result co h = absurd (cc (h))
    status-returned n (logical t) result co h = absurd (cc (h))
    status-returned n (elements t) result co h = absurd (cc (h))
    status-returned n (io at a) result co h = absurd (cc (h))
    status-returned n lost result co h = absurd (cc (h))

    -- What a `return` does.
    abbrev pub returning : ℕ → Option ValueTree → Steps
    returning n None = where_true (not (is_coroutine b.method.mark)) (End n (gives None, vars.world))
    returning n (Some v) = with_some (value_of s v) (given_back b n vars.world)

    pub return-step : (n : ℕ) (v : Option ValueTree) → well_returned c b.method.mark b.method.gives v ≡ true → may_be_result b.method.mark b.method.gives ≡ true → return_refusal fs b.method.gives v ≡ None
        → ComesTo N (Ends R shape b leaves) (returning n v)
    return-step n None h may e =
        let p = nothing-returned b.method.mark b.method.gives h in
        goes-where (ComesTo N (Ends R shape b leaves)) (not (is_coroutine b.method.mark)) (End n (gives None, vars.world)) p.0 (lawful.world, p.1)
    return-step n (Some v) h may e = by b.method.mark b.method.gives refl refl h may e
      where
        some : (mark : Mark) (ty : Ty) → b.method.mark ≡ mark → b.method.gives ≡ Some ty → is_coroutine mark ≡ false → fits_type c ty v ≡ true → may_be_result mark (Some ty) ≡ true → return_refusal fs (Some ty) (Some v) ≡ None
            → ComesTo N (Ends R shape b leaves) (with_some (value_of s v) (given_back b n vars.world))
        some mark ty is_mark is_type co fits may e =
            let P : Mark → Type 0 = λ mark. may_be_result mark (Some ty) ≡ true in
            result-returned n ty v (ap is_coroutine is_mark ∙ co) is_type (subst P (sym is_mark) may) fits e

        by : (mark : Mark) (result : Option Ty) → b.method.mark ≡ mark → b.method.gives ≡ result → well_returned c mark result (Some v) ≡ true → may_be_result mark result ≡ true → return_refusal fs result (Some v) ≡ None
            → ComesTo N (Ends R shape b leaves) (with_some (value_of s v) (given_back b n vars.world))
        by Coroutine result is_mark is_type h may e = status-returned n v result (ap is_coroutine is_mark) h
        by Pure None is_mark is_type h may e = absurd (cc (h))
        by Impure None is_mark is_type h may e = absurd (cc (h))
        by Pure (Some ty) is_mark is_type h may e = some Pure ty is_mark is_type refl h may e
        by Impure (Some ty) is_mark is_type h may e = some Impure ty is_mark is_type refl h may e

-- A body's end.
pub end-step : (R : (method : ℕ) → Remaining → Type 0) (shape : Shape) (b : Body) (vars : Vars) (N : At → Type 0) (leaves : Remaining → Type 0) (n : ℕ) → IsLawfulBody R shape b vars → b.method.gives ≡ None
    → ComesTo N (Ends R shape b leaves) (body_end b n vars.world)
end-step R shape b vars N leaves n lawful h = (lawful.world, by b.method.mark b.method.gives h)
  where
    by : (mark : Mark) (result : Option Ty) → result ≡ None → IsAnswer mark result (returned (if is_coroutine mark then Some (status_number ok) else None))
    by Coroutine result e = tt
    by Pure None e = tt
    by Impure None e = tt
    by Pure (Some ty) e = absurd (cc (e))
    by Impure (Some ty) e = absurd (cc (e))
