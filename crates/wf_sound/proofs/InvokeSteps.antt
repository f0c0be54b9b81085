-- The steps of calls of methods.
use Rattle.std.proofs.Common.{◌≡◌, ℕ, zero, suc, ◌≤◌, Bool, true, false, not, ◌&&◌, ◌||◌, List, [], ◌∷◌, Option, Some, None, refl, sym, ap, ◌∙◌, subst, nat_eq, arith}
use Rattle.std.specs.Prelude.{slice_get, option_and_then, nat_lt, nat_le, if◌then◌else◌}
use Rattle.std.specs.List.{list_all}
use Rattle.std.proofs.lemmas.Bool.{and_parts}
use Rattle.std.proofs.lemmas.Bool.Decides.{nat_tests}
use Rattle.turns.specs.Run.{Go, Turn, Out, Outcome, Got, More, Lost, onward, holding}
use Rattle.wf_text.specs.declared.place.Place.{Place}
use Rattle.wf_text.specs.declared.rules.Rule.TheVariants.{B1, B8}
use Rattle.wf_base.specs.declared.marks.Mark.{Mark}
use Rattle.wf_base.specs.declared.marks.Mark.TheVariants.{Pure, Impure, Coroutine}
use Rattle.wf_base.specs.Effects.{allows}
use Rattle.wf_ast.specs.declared.things.Thing.{Thing}
use Rattle.wf_ast.specs.declared.things.Thing.TheVariants as things
use Rattle.wf_ast.specs.declared.types.Ty.{Ty}
use Rattle.wf_ast.specs.declared.types.Ty.TheVariants as types
use Rattle.wf_ast.specs.TypedTree.{arg, ValueTree, Target, to_number, to_element, to_flag, to_status, to_slice, to_nothing, Called, invoke, Site, Block, plain}
use Rattle.wf_ast.specs.TypedPackage.{MethodTree, PackageTree}
use Rattle.wf_ast.specs.Value.{Value, num, truth_value, status_number, span, buffer, State}
use Rattle.wf_ast.specs.WellTyped.{Context, is_pure, is_coroutine, may_be_local, may_be_result, same_mark, calls_method, fit_types, has_none, is_status_target, takes, takes_answer, number_of, well_invoked, may_write}
use Rattle.wf_base.specs.BaseTable.{bits_of}
use Rattle.wf_facts_exprs.specs.Claims.{Claim, AllTrue, claim_mentions}
use Rattle.wf_facts_exprs.specs.Demands.{or_else}
use Rattle.wf_facts_exprs.specs.LawfulState.{well_claims}
use Rattle.wf_facts.specs.FactLists.{without}
use Rattle.wf_meaning.specs.SourceState.{Behind, Remaining, Done, untouched, has_bytes, to_skip, to_write, has_yielded}
use Rattle.wf_meaning.specs.Entry.{Answered, returned, suspended}
use Rattle.wf_meaning.specs.World.{World, Body, Vars, put_value}
use Rattle.wf_meaning.specs.SourceStep.{At, Ending, gives, Steps, Callees, state_of, at_block, with_some, is_result, values_of, receiver_of, through, put_answer, kept_status, plain_answer, handed_on, after_call}
use Rattle.wf_meaning.specs.SourceStep as steps
use Rattle.wf_meaning.specs.Remaining.{hands_on}
use Rattle.wf_bounds_stmts.specs.Requirements.{number_type, all_handed}
use Rattle.wf_bounds_stmts.specs.Targets.{taken_by, target_refusal, written_by, without_some, unwritten, holds_all, answer_refusal}
use Rattle.wf_bounds_stmts.specs.Calls.{interrupted, handed_thing, handed_to_method, answered_by, known_to_call, without_handed, left_by_call, invoke_refusal, invoked}
use Rattle.wf_sound.specs.Worlds.{Shape, context_of, IsLawfulBody, AreApart}
use Rattle.wf_sound.specs.Positions.{is_slice_value}
use Rattle.wf_sound.specs.Callees.{IsAnswer, LooksTheSame, LeavesOthers, KeepsTo, EndsWell, RunsWell, MethodRuns}
use Rattle.wf_sound.specs.OneStep.{IsStarted, IsReached, afresh, resumed, ComesTo, StandsBefore, IsLeftAt, Ends}
use Rattle.wf_sound.proofs.Drops.{any_path, without_all, drops-true, still-true}
use Rattle.wf_sound.proofs.Agreements.{staying-agree, same-view, called-agree, with_thing, handed_things, handed-covers}
use Rattle.wf_sound.proofs.HandedValues.{demanded, neither, all-accepted, ValuesOf, values-typed, HandedOn, handed-on, values-apart}
use Rattle.wf_sound.proofs.Puts.{IsFor, well_target, PutIn, put, without_some-true}
use Rattle.wf_sound.proofs.AssignSteps.{goes-with}
use Rattle.wf_sound.proofs.EndSteps.{goes-first, goes-second, left-at, reached}
use Rattle.wf_sound.proofs.BranchEnds.{kept-well}
use Rattle.wf_sound.proofs.PerformSteps.{none-is-nothing}
use Rattle.wf_sound.proofs.CallRuns.{through-runs, ReceiverOf, receiver-is}

pub mark-same : (m k : Mark) → same_mark m k ≡ true → m ≡ k
mark-same Pure Pure h = refl
mark-same Impure Impure h = refl
mark-same Coroutine Coroutine h = refl
mark-same Pure Impure h = absurd (cc (h))
mark-same Pure Coroutine h = absurd (cc (h))
mark-same Impure Pure h = absurd (cc (h))
mark-same Impure Coroutine h = absurd (cc (h))
mark-same Coroutine Pure h = absurd (cc (h))
mark-same Coroutine Impure h = absurd (cc (h))

-- A step goes on with turns left.
goes-onward : (N : At → Type 0) (E : Ending × World → Type 0) (n left : ℕ) (x : At) → N x → ComesTo N E (onward n left x)
unfolding onward
goes-onward N E n left x h = by (nat_lt left n)
  where
    by : (t : Bool) → ComesTo N E (if t then Turn left x else Go x)
    by true = h
    by false = h

-- A step that holds a run goes on with the run's answer.
goes-held : {B : Type 0} (P : Steps → Type 0) (out : Outcome B) (on : ℕ → B → Steps) → ((turns : ℕ) (x : B) → out ≡ Got turns x → P (on turns x)) → P Out → (out ≡ Lost → ⊥) → P (holding out on)
unfolding holding
goes-held P (Got turns x) on h more lost = h turns x refl
goes-held P More on h more lost = more
goes-held P Lost on h more lost = absurd (lost refl)

-- What is handed over is dropped one by one.
handed-drops : (vs : List ValueTree) (fs : List Claim) → without_handed vs fs ≡ without_all (handed_things vs) fs
handed-drops [] fs = refl
handed-drops (v ∷ vs) fs = by (handed_thing v) (λ gs. handed-drops vs gs)
  where
    by : (o : Option Thing) → ((gs : List Claim) → without_handed vs gs ≡ without_all (handed_things vs) gs) → without_handed vs (without_some o fs) ≡ without_all (with_thing o (handed_things vs)) fs
    by None h = h fs
    by (Some x) h = h (without x fs)

pure-keeps : (mark : Mark) (args : List Value) (w w' : World) → is_pure mark ≡ true → KeepsTo mark args w w' → LooksTheSame w w'
pure-keeps Pure args w w' h k = k
pure-keeps Impure args w w' h k = absurd (cc (h))
pure-keeps Coroutine args w w' h k = absurd (cc (h))

other-keeps : (mark : Mark) (args : List Value) (w w' : World) → is_pure mark ≡ false → KeepsTo mark args w w' → LeavesOthers args w w'
other-keeps Pure args w w' h k = absurd (cc (h))
other-keeps Impure args w w' h k = k
other-keeps Coroutine args w w' h k = k

put-answer-is : (b : Body) (target : Target) (u : Value) (vars : Vars) → put_answer b target (Some u) vars ≡ put_value b target u vars
put-answer-is b (to_number at of path) u vars = refl
put-answer-is b (to_element at of cells index) u vars = refl
put-answer-is b (to_flag at path) u vars = refl
put-answer-is b (to_status at path) u vars = refl
put-answer-is b (to_slice at bits path) u vars = refl
put-answer-is b to_nothing u vars = refl

-- The answer of a coroutine as a status, and that of any other method.
status-answer : (mark : Mark) (result : Option Ty) (a : Answered) → is_coroutine mark ≡ true → IsAnswer mark result a → (n : ℕ) × (kept_status a ≡ Some (status_number n))
status-answer Coroutine result (suspended status) h k = (status, refl)
status-answer Coroutine result (returned (Some (status_number status))) h k = (status, refl)
status-answer Coroutine result (returned None) h k = absurd k
status-answer Coroutine result (returned (Some (num n))) h k = absurd k
status-answer Coroutine result (returned (Some (truth_value n))) h k = absurd k
status-answer Coroutine result (returned (Some (span n))) h k = absurd k
status-answer Coroutine result (returned (Some (buffer n))) h k = absurd k
status-answer Pure result a h k = absurd (cc (h))
status-answer Impure result a h k = absurd (cc (h))

nothing-answer : (mark : Mark) (a : Answered) → is_coroutine mark ≡ false → IsAnswer mark None a → plain_answer a ≡ Some None
nothing-answer Pure (returned None) h k = refl
nothing-answer Impure (returned None) h k = refl
nothing-answer Pure (returned (Some v)) h k = absurd k
nothing-answer Impure (returned (Some v)) h k = absurd k
nothing-answer Pure (suspended status) h k = absurd k
nothing-answer Impure (suspended status) h k = absurd k
nothing-answer Coroutine a h k = absurd (cc (h))

value-answer : (mark : Mark) (ty : Ty) (a : Answered) → is_coroutine mark ≡ false → IsAnswer mark (Some ty) a → (u : Value) × (plain_answer a ≡ Some (Some u)) × (is_result (Some ty) u ≡ true)
value-answer Pure ty (returned (Some u)) h k = (u, refl, k)
value-answer Impure ty (returned (Some u)) h k = (u, refl, k)
value-answer Pure ty (returned None) h k = absurd k
value-answer Impure ty (returned None) h k = absurd k
value-answer Pure ty (suspended status) h k = absurd k
value-answer Impure ty (suspended status) h k = absurd k
value-answer Coroutine ty a h k = absurd (cc (h))

both : (p q : Bool) → p ≡ true → q ≡ true → (p && q) ≡ true
both true q h k = k
both false q h k = absurd (cc (h))

-- A result goes to a target that takes its type.
result-for : (p : PackageTree) (shape : Shape) (c : Context) (target : Target) (ty : Ty) (u : Value) → takes c target ty ≡ true → holds_all (taken_by target) (number_type ty) ≡ true → is_result (Some ty) u ≡ true
    → IsFor p shape target u × (well_target c target ≡ true)
result-for p shape c (to_number at of path) (types.Num width lo hi) (num n) h k r =
    let q = and_parts (may_write c.method.mark path) _ h in
    let q2 = and_parts (nat_eq of.bits (bits_of width)) _ q.1 in
    let t = and_parts (nat_le of.low lo) _ k in
    let low : of.low ≤ lo = grind (arith, nat_tests, t.0) in
    let high : hi ≤ of.high = grind (arith, nat_tests, t.1) in
    let v = and_parts (nat_le lo n) _ r in
    let i : lo ≤ n = grind (arith, nat_tests, v.0) in
    let j : n ≤ hi = grind (arith, nat_tests, v.1) in
    (record { above = omega (arith, low, i); below = omega (arith, high, j) }, both (may_write c.method.mark path) _ q.0 q2.1)
result-for p shape c (to_number at of path) (types.Num width lo hi) v h k r = absurd (cc (r))
result-for p shape c (to_number at of path) ty v h k r = absurd (cc (h))
result-for p shape c (to_element at of cells index) (types.Num width lo hi) (num n) h k r =
    let q = and_parts (not (is_pure c.method.mark)) _ h in
    let q2 = and_parts (nat_eq of.bits (bits_of width)) _ q.1 in
    let t = and_parts (nat_le of.low lo) _ k in
    let low : of.low ≤ lo = grind (arith, nat_tests, t.0) in
    let high : hi ≤ of.high = grind (arith, nat_tests, t.1) in
    let v = and_parts (nat_le lo n) _ r in
    let i : lo ≤ n = grind (arith, nat_tests, v.0) in
    let j : n ≤ hi = grind (arith, nat_tests, v.1) in
    (record { above = omega (arith, low, i); below = omega (arith, high, j) }, q2.1)
result-for p shape c (to_element at of cells index) (types.Num width lo hi) v h k r = absurd (cc (r))
result-for p shape c (to_element at of cells index) ty v h k r = absurd (cc (h))
result-for p shape c (to_flag at path) types.Flag (truth_value t) h k r = (tt, h)
result-for p shape c (to_flag at path) types.Flag v h k r = absurd (cc (r))
result-for p shape c (to_flag at path) ty v h k r = absurd (cc (h))
result-for p shape c (to_status at path) types.Status (status_number t) h k r = (tt, h)
result-for p shape c (to_status at path) types.Status v h k r = absurd (cc (r))
result-for p shape c (to_status at path) ty v h k r = absurd (cc (h))
result-for p shape c (to_slice at bits path) (types.Slice width) v h k r = absurd (cc (r))
result-for p shape c (to_slice at bits path) ty v h k r = absurd (cc (h))
result-for p shape c to_nothing ty v h k r = (tt, refl)

status-target : (p : PackageTree) (shape : Shape) (c : Context) (target : Target) (n : ℕ) → (is_status_target target && takes c target types.Status) ≡ true → IsFor p shape target (status_number n) × (well_target c target ≡ true)
status-target p shape c (to_status at path) n h = (tt, h)
status-target p shape c target n h = absurd (cc (h))

module _ (R : (method : ℕ) → Remaining → Type 0) (shape : Shape) (b : Body) (vars : Vars) (lawful : IsLawfulBody R shape b vars) (apart : AreApart b.args) (fs : List Claim) (well : well_claims (context_of b) fs ≡ true)
    (may : list_all (λ x. may_be_local x.ty) b.method.locals ≡ true) (results : (k : ℕ) (m : MethodTree) → slice_get b.within.methods k ≡ Some m → may_be_result m.mark m.gives ≡ true)
    (calls : Callees) (n : ℕ) (at : Place) (site : Site) (rest : Block) (behind : Behind) (target : Target) (keep : Bool) (mark : Mark) (called : Called) (vs : List ValueTree) (done : Done)
    (ready : IsReached b vars fs (invoke at target keep mark called vs) done) where
  abbrev c : Context
  c = context_of b

  abbrev s : State
  s = state_of b vars

  abbrev Comes : Steps → Type 0
  Comes = ComesTo (StandsBefore R shape b rest behind (invoked fs target keep mark vs)) (Ends R shape b (IsLeftAt R shape b site (invoke at target keep mark called vs) rest behind fs))

  less-well : (x : Thing) (gs : List Claim) → well_claims c gs ≡ true → well_claims c (without x gs) ≡ true
  less-well x gs h = kept-well c s (λ f. not (claim_mentions x f)) gs h

  interrupted-well : well_claims c (interrupted fs) ≡ true
  interrupted-well =
      less-well things.SliceLocals (without things.Element (without things.Args (without things.This fs)))
      (less-well things.Element (without things.Args (without things.This fs)) (less-well things.Args (without things.This fs) (less-well things.This fs well)))

  pub known-well : well_claims c (known_to_call keep mark fs) ≡ true
  known-well = by (hands_on keep mark)
    where
      by : (t : Bool) → well_claims c (if t then interrupted fs else fs) ≡ true
      by true = interrupted-well
      by false = well

  handed-well : (ws : List ValueTree) (gs : List Claim) → well_claims c gs ≡ true → well_claims c (without_handed ws gs) ≡ true
  handed-well [] gs h = h
  handed-well (w ∷ ws) gs h = handed-well ws (without_some (handed_thing w) gs) (by (handed_thing w))
    where
      by : (o : Option Thing) → well_claims c (without_some o gs) ≡ true
      by None = h
      by (Some x) = less-well x gs h

  left-well : well_claims c (left_by_call keep mark vs fs) ≡ true
  left-well = by (hands_on keep mark || is_pure mark)
    where
      by : (t : Bool) → well_claims c (if t then known_to_call keep mark fs else without_handed vs (without things.Element (without things.This (known_to_call keep mark fs)))) ≡ true
      by true = known-well
      by false = handed-well vs (without things.Element (without things.This (known_to_call keep mark fs))) (less-well things.Element (without things.This (known_to_call keep mark fs)) (less-well things.This (known_to_call keep mark fs) known-well))

  -- What is known where the arguments are looked at.
  afresh-known : hands_on keep mark ≡ false → AllTrue s fs
  afresh-known h = by ready
    where
      started : (done : Done) → IsStarted (invoke at target keep mark called vs) done → ⊥
      started untouched k = let q : true ≡ false = sym k ∙ h in cc (q)
      started (has_bytes bytes) k = k
      started (to_skip left) k = k
      started (to_write it) k = k
      started has_yielded k = k

      by : IsReached b vars fs (invoke at target keep mark called vs) done → AllTrue s fs
      by (afresh e k) = k
      by (resumed e k) = absurd (started done e)

  pub call-known : AllTrue s (known_to_call keep mark fs)
  call-known = by (hands_on keep mark) refl
    where
      by : (t : Bool) → hands_on keep mark ≡ t → AllTrue s (if t then interrupted fs else fs)
      by true e = reached R shape b vars lawful fs (invoke at target keep mark called vs) done ready
      by false e = afresh-known e

  module _ (m : MethodTree) (is : slice_get b.within.methods (number_of called) ≡ Some m) (same : mark ≡ m.mark) (values : List Value) (values_are : values_of s m.args vs ≡ Some values) (after : World) (answer : Answered)
      (ends : EndsWell b.within R shape m values vars.world after answer) where
    abbrev left : Vars
    left = record { locals = vars.locals; world = after }

    left-lawful : IsLawfulBody R shape b left
    left-lawful = record { world = ends.world; receiver = lawful.receiver; args = lawful.args; locals = lawful.locals }

    keeps : KeepsTo mark values vars.world after
    keeps = let P : Mark → Type 0 = λ k. KeepsTo k values vars.world after in subst P (sym same) ends.keeps

    others-kept : is_pure mark ≡ false → (a k : ℕ) → slice_get b.args a ≡ Some (buffer k) → any_path (handed_things vs) (arg a) ≡ false → slice_get vars.world.host.buffers k ≡ slice_get after.host.buffers k
    others-kept p a k e h =
        let o = other-keeps mark values vars.world after p keeps in
        o.buffers k (λ i j. contradiction i (handed-on R shape b vars lawful (known_to_call keep mark fs) known-well call-known m.args vs values i k values_are j))
      where
        contradiction : (i : ℕ) → HandedOn R shape b vars lawful (known_to_call keep mark fs) known-well call-known vs i k → ⊥
        contradiction i x =
            let covered : any_path (handed_things vs) (arg x.a) ≡ true = handed-covers vs i x.a x.t x.there x.is in
            let one : x.a ≡ a = apart.buffers x.a a k x.buffer_is e in
            let P : ℕ → Type 0 = λ a. any_path (handed_things vs) (arg a) ≡ true in
            let q : true ≡ false = sym (subst P one covered) ∙ h in
            cc (q)

    left-known : AllTrue (state_of b left) (left_by_call keep mark vs fs)
    left-known = by (hands_on keep mark) (is_pure mark) refl refl
      where
        by : (h p : Bool) → hands_on keep mark ≡ h → is_pure mark ≡ p
            → AllTrue (state_of b left) (if h || p then (if h then interrupted fs else fs) else without_handed vs (without things.Element (without things.This (if h then interrupted fs else fs))))
        by true p i j = still-true s (state_of b left) fs (staying-agree b vars.locals vars.world after) (reached R shape b vars lawful fs (invoke at target keep mark called vs) done ready)
        by false true i j =
            let look = same-view b vars.locals vars.world after (pure-keeps mark values vars.world after j keeps) in
            let P : State → Type 0 = λ s. AllTrue s fs in
            subst P look (afresh-known i)
        by false false i j =
            let P : List Claim → Type 0 = λ gs. AllTrue (state_of b left) gs in
            subst P (sym (handed-drops vs (without things.Element (without things.This fs))))
            (drops-true things.This (things.Element ∷ handed_things vs) s (state_of b left) fs (called-agree b vs vars.locals vars.world after (others-kept j)) (afresh-known i))

    -- What is answered goes to its target.
    onwards : (n : ℕ) (turns : ℕ) (u : Value) → IsFor b.within shape target u × (well_target c target ≡ true) → target_refusal (left_by_call keep mark vs fs) target ≡ None
        → Comes (with_some (put_answer b target (Some u) left) (λ next. onward n turns (at_block rest behind next)))
    onwards n turns u f e =
        let x : PutIn R shape b target u left = put R shape b left left-lawful (left_by_call keep mark vs fs) left-well left-known target u f.1 f.0 e in
        goes-with Comes (put_answer b target (Some u) left) x.after (λ next. onward n turns (at_block rest behind next)) (put-answer-is b target u left ∙ x.is)
        (goes-onward (StandsBefore R shape b rest behind (invoked fs target keep mark vs)) (Ends R shape b (IsLeftAt R shape b site (invoke at target keep mark called vs) rest behind fs)) n turns (at_block rest behind x.after)
        (record { fresh = refl; first = refl; after = refl; lawful = x.lawful; facts = without_some-true (written_by target) (state_of b left) (state_of b x.after) (left_by_call keep mark vs fs) x.agree left-known }))

    nothing-onwards : (n turns : ℕ) → target ≡ to_nothing → Comes (onward n turns (at_block rest behind left))
    nothing-onwards n turns e =
        let P : Target → Type 0 = λ t. AllTrue (state_of b left) (unwritten t (left_by_call keep mark vs fs)) in
        goes-onward (StandsBefore R shape b rest behind (invoked fs target keep mark vs)) (Ends R shape b (IsLeftAt R shape b site (invoke at target keep mark called vs) rest behind fs)) n turns (at_block rest behind left)
        (record { fresh = refl; first = refl; after = refl; lawful = left-lawful; facts = subst P (sym e) left-known })

    put-nothing : (n turns : ℕ) → target ≡ to_nothing → Comes (with_some (put_answer b target None left) (λ next. onward n turns (at_block rest behind next)))
    put-nothing n turns e =
        let P : Target → Type 0 = λ t. put_answer b t None left ≡ Some left in
        let is : P to_nothing = refl in
        goes-with Comes (put_answer b target None left) left (λ next. onward n turns (at_block rest behind next)) (subst P (sym e) is) (nothing-onwards n turns e)

    -- `f?()` hands a status on.
    hands : (n turns : ℕ) → hands_on keep mark ≡ true → is_coroutine mark ≡ true → is_coroutine b.method.mark ≡ true → target ≡ to_nothing
        → Comes (handed_on b n turns answer (plain site (invoke at target keep mark called vs) rest) rest behind left)
    hands n turns h co self nothing = by mark co m.mark same answer ends.answer
      where
        own-answer : (mk : Mark) (status : ℕ) → is_coroutine mk ≡ true → IsAnswer mk b.method.gives (returned (Some (status_number status)))
        own-answer Coroutine status h = tt
        own-answer mk status h = absurd (cc (h))

        gone : (answer : Answered) → IsAnswer Coroutine m.gives answer → Comes (handed_on b n turns answer (plain site (invoke at target keep mark called vs) rest) rest behind left)
        gone (suspended status) k = left-at R shape b vars lawful site (invoke at target keep mark called vs) rest behind fs untouched status after self may h (reached R shape b vars lawful fs (invoke at target keep mark called vs) done ready) ends.world
        gone (returned (Some (status_number zero))) k = nothing-onwards n turns nothing
        gone (returned (Some (status_number (suc status)))) k = (ends.world, own-answer b.method.mark (suc status) self)
        gone (returned None) k = absurd k
        gone (returned (Some (num v))) k = absurd k
        gone (returned (Some (truth_value v))) k = absurd k
        gone (returned (Some (span v))) k = absurd k
        gone (returned (Some (buffer v))) k = absurd k

        by : (mk : Mark) → is_coroutine mk ≡ true → (of : Mark) → mk ≡ of → (answer : Answered) → IsAnswer of m.gives answer → Comes (handed_on b n turns answer (plain site (invoke at target keep mark called vs) rest) rest behind left)
        by Coroutine h of e a k = let P : Mark → Type 0 = λ of. IsAnswer of m.gives a in gone a (subst P (sym e) k)
        by Pure h of e a k = absurd (cc (h))
        by Impure h of e a k = absurd (cc (h))

    -- What follows the call.
    refused-none : answer_refusal (left_by_call keep mark vs fs) at target (answered_by (Some m)) ≡ None → (target_refusal (left_by_call keep mark vs fs) target ≡ None) × (holds_all (taken_by target) (answered_by (Some m)) ≡ true)
    refused-none e =
        let p = neither (target_refusal (left_by_call keep mark vs fs) target) _ e in
        (p.0, demanded (holds_all (taken_by target) (answered_by (Some m))) B1 at p.1)

    abbrev takes_plain : Option Ty → Bool
    takes_plain None = has_none target
    takes_plain (Some ty) = takes c target ty

    plain-follows : (n turns : ℕ) → keep ≡ false → is_coroutine mark ≡ false → takes_plain m.gives ≡ true → answer_refusal (left_by_call keep mark vs fs) at target (answered_by (Some m)) ≡ None
        → Comes (after_call b n keep mark target (plain site (invoke at target keep mark called vs) rest) rest behind vars.locals turns (answer, after))
    plain-follows n turns k_is co t e =
        let h : hands_on keep mark ≡ false = both-false (not keep) (is_coroutine mark) co in
        goes-second Comes (hands_on keep mark) _ _ h (goes-second Comes keep _ _ k_is (by m.gives refl t ends.answer))
      where
        both-false : (p q : Bool) → q ≡ false → (p && q) ≡ false
        both-false true q h = h
        both-false false q h = refl

        no_co : is_coroutine m.mark ≡ false
        no_co = ap is_coroutine (sym same) ∙ co

        by : (g : Option Ty) → m.gives ≡ g → takes_plain g ≡ true → IsAnswer m.mark m.gives answer → Comes (with_some (plain_answer answer) (λ v. with_some (put_answer b target v left) (λ next. onward n turns (at_block rest behind next))))
        by None i t k =
            let P : Option Ty → Type 0 = λ g. IsAnswer m.mark g answer in
            goes-with Comes (plain_answer answer) None (λ v. with_some (put_answer b target v left) (λ next. onward n turns (at_block rest behind next))) (nothing-answer m.mark answer no_co (subst P i k)) (put-nothing n turns (none-is-nothing target t))
        by (Some ty) i t k =
            let P : Option Ty → Type 0 = λ g. IsAnswer m.mark g answer in
            let a = value-answer m.mark ty answer no_co (subst P i k) in
            let r = refused-none e in
            let Q : Option Ty → Type 0 = λ g. holds_all (taken_by target) (option_and_then number_type g) ≡ true in
            goes-with Comes (plain_answer answer) (Some a.0) (λ v. with_some (put_answer b target v left) (λ next. onward n turns (at_block rest behind next))) a.1
            (onwards n turns a.0 (result-for b.within shape c target ty a.0 t (subst Q i r.1) a.2) r.0)

    follows : (n turns : ℕ) → (kp : Bool) (mk : Mark) → keep ≡ kp → mark ≡ mk → takes_answer c target kp mk m.gives ≡ true → allows b.method.mark mk ≡ true
        → answer_refusal (left_by_call keep mark vs fs) at target (answered_by (Some m)) ≡ None
        → Comes (after_call b n keep mark target (plain site (invoke at target keep mark called vs) rest) rest behind vars.locals turns (answer, after))
    follows n turns true Coroutine k_is m_is t al e =
        let co : is_coroutine mark ≡ true = ap is_coroutine m_is in
        let h : hands_on keep mark ≡ false = ap (λ k. not k && is_coroutine mark) k_is in
        let a = status-answer m.mark m.gives answer (ap is_coroutine (sym same) ∙ co) ends.answer in
        let r = refused-none e in
        let P : Option Value → Type 0 = λ o. Comes (with_some (put_answer b target o left) (λ next. onward n turns (at_block rest behind next))) in
        goes-second Comes (hands_on keep mark) _ _ h (goes-first Comes keep _ _ k_is
        (subst P (sym a.1) (onwards n turns (status_number a.0) (status-target b.within shape c target a.0 t) r.0)))
    follows n turns true Pure k_is m_is t al e = absurd (cc (t))
    follows n turns true Impure k_is m_is t al e = absurd (cc (t))
    follows n turns false Coroutine k_is m_is t al e =
        let co : is_coroutine mark ≡ true = ap is_coroutine m_is in
        let h : hands_on keep mark ≡ true = ap (λ k. not k && is_coroutine mark) k_is ∙ co in
        goes-first Comes (hands_on keep mark) _ _ h (hands n turns h co (may-call b.method.mark al) (none-is-nothing target t))
      where
        may-call : (mk : Mark) → allows mk Coroutine ≡ true → is_coroutine mk ≡ true
        may-call Coroutine h = refl
        may-call Pure h = absurd (cc (h))
        may-call Impure h = absurd (cc (h))
    follows n turns false Pure k_is m_is t al e = plain-follows n turns k_is (ap is_coroutine m_is) (by m.gives t) e
      where
        by : (g : Option Ty) → takes_answer c target false Pure g ≡ true → takes_plain g ≡ true
        by None t = t
        by (Some ty) t = t
    follows n turns false Impure k_is m_is t al e = plain-follows n turns k_is (ap is_coroutine m_is) (by m.gives t) e
      where
        by : (g : Option Ty) → takes_answer c target false Impure g ≡ true → takes_plain g ≡ true
        by None t = t
        by (Some ty) t = t

  -- The whole step.
  pub invoke-step : well_invoked c target keep mark called vs (slice_get b.within.methods (number_of called)) ≡ true → list_all is_slice_value vs ≡ true → invoke_refusal c fs at target keep mark called vs ≡ None
      → MethodRuns calls b.within R shape (number_of called) n vars.world
      → Comes (steps.invoked b calls n keep mark target called vs (plain site (invoke at target keep mark called vs) rest) rest behind vars)
  invoke-step w whole e runs = found (slice_get b.within.methods (number_of called)) refl w
    where
      with_callee : (m : MethodTree) → slice_get b.within.methods (number_of called) ≡ Some m → well_invoked c target keep mark called vs (Some m) ≡ true
          → Comes (steps.invoked b calls n keep mark target called vs (plain site (invoke at target keep mark called vs) rest) rest behind vars)
      with_callee m is w =
          let w1 = and_parts (same_mark mark m.mark) _ w in
          let w2 = and_parts (allows b.method.mark mark) _ w1.1 in
          let w3 = and_parts (calls_method c called m) _ w2.1 in
          let w4 = and_parts (fit_types c m.args vs) _ w3.1 in
          let w5 = and_parts (takes_answer c target keep mark m.gives) _ w4.1 in
          let same = mark-same mark m.mark w1.0 in
          let P : Option MethodTree → Type 0 = λ o. or_else (all_handed B8 (known_to_call keep mark fs) (handed_to_method o vs)) (answer_refusal (left_by_call keep mark vs fs) at target (answered_by o)) ≡ None in
          let r = neither (all_handed B8 (known_to_call keep mark fs) (handed_to_method (Some m) vs)) _ (subst P is e) in
          let accepted = all-accepted R shape b vars lawful (known_to_call keep mark fs) known-well call-known B8 (handed_to_method (Some m) vs) r.0 in
          let x : ValuesOf R shape b vars lawful (known_to_call keep mark fs) known-well call-known m.args vs = values-typed R shape b vars lawful (known_to_call keep mark fs) known-well call-known B8 m.args vs w4.0 whole accepted in
          let o : ReceiverOf R shape b vars lawful called m = receiver-is R shape b vars lawful called m w3.0 in
          let sole : AreApart x.values = values-apart R shape b vars lawful (known_to_call keep mark fs) known-well call-known m.args vs x.values apart w5.1 x.is in
          let ran = through-runs b.within R shape calls m o.object (number_of called) x.values n vars.world lawful.world (results (number_of called) m is) called (lawful.world.objects o.object m.of o.of) (runs.runs m o.object x.values is o.of x.lie sole) in
          goes-with Comes (slice_get b.within.methods (number_of called)) m _ is
          (goes-with Comes (values_of s m.args vs) x.values _ x.is
          (goes-with Comes (receiver_of b called vars) o.object _ o.is
          (held (through b.within calls m called (record { object = o.object; method = number_of called; args = x.values }) n vars.world) x.values x.is ran w5.0 w2.0 same r.1)))
        where
          held : (out : Outcome (Answered × World)) (values : List Value) → values_of s m.args vs ≡ Some values → RunsWell b.within R shape m values vars.world out → takes_answer c target keep mark m.gives ≡ true → allows b.method.mark mark ≡ true → mark ≡ m.mark
              → answer_refusal (left_by_call keep mark vs fs) at target (answered_by (Some m)) ≡ None
              → Comes (holding out (after_call b n keep mark target (plain site (invoke at target keep mark called vs) rest) rest behind vars.locals))
          held out values are ran t al same e = goes-held Comes out _
              (λ turns finished i. let P : Outcome (Answered × World) → Type 0 = λ o. RunsWell b.within R shape m values vars.world o in
              follows m is same values are finished.1 finished.0 (subst P i ran) n turns keep mark refl refl t al e) tt
              (λ i. let P : Outcome (Answered × World) → Type 0 = λ o. RunsWell b.within R shape m values vars.world o in subst P i ran)

      found : (o : Option MethodTree) → slice_get b.within.methods (number_of called) ≡ o → well_invoked c target keep mark called vs o ≡ true
          → Comes (steps.invoked b calls n keep mark target called vs (plain site (invoke at target keep mark called vs) rest) rest behind vars)
      found None is w = absurd (cc (w))
      found (Some m) is w = with_callee m is w
