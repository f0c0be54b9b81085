-- What the calls and inits of an engine give.
use Rattle.std.proofs.Common.{◌≡◌, ℕ, ◌^◌, ◌<◌, Bool, true, false, List, length, Option, Some, None, refl, ap, subst, arith}
use Rattle.std.specs.Prelude.{slice_get, nat_lt, if◌then◌else◌}
use Rattle.std.proofs.lemmas.Bool.Decides.{nat_tests}
use Rattle.turns.specs.Run.{Outcome as Ran, Got, More, Lost}
use Rattle.wf_text.specs.Surface.{AnswerKind, status, numeric, truth, nothing}
use Rattle.wf_base.specs.HostRun.{Host, HostCall}
use Rattle.wf_ast.specs.TypedPackage.{MethodTree, PackageTree, surface_of}
use Rattle.wf_ast.specs.Value.{Value, num, truth_value, status_number}
use Rattle.wf_bufs.specs.declared.outcomes.Outcome.{Outcome}
use Rattle.wf_bufs.specs.declared.outcomes.Outcome.TheVariants as outcomes
use Rattle.wf_bufs.specs.EngineLaw.{Gives, done, turns, undefined, FitsAnswer, SameSizes}
use Rattle.wf_meaning.specs.SourceState.{Object}
use Rattle.wf_meaning.specs.Entry.{Answered, returned, suspended, bad_receiver, refusal_of}
use Rattle.wf_meaning.specs.World.{World}
use Rattle.wf_meaning.specs.SourceCall.{entry_of, host_values}
use Rattle.wf_meaning_sizes.proofs.SizeSteps.{entry-same}
use Rattle.wf_mean.specs.SourceEngines.{EngineState, call_gives, entry_gives, given, given_if, kind_told, method_gives, outcome_of, outcome_of_value, receiver_gives, with_receiver}

-- What a given end comes to.
abbrev EndsIn : {A : Type 0} → (Outcome → A → Type 0) → Gives A → Type 0
EndsIn P (done outcome after) = P outcome after
EndsIn P turns = Unit {0}
EndsIn P undefined = Unit {0}

if-ends : {A : Type 0} (P : Outcome → A → Type 0) (o : Option Outcome) (after : A) → ((outcome : Outcome) → o ≡ Some outcome → P outcome after) → EndsIn P (given_if o after)
if-ends P None after h = tt
if-ends P (Some outcome) after h = h outcome refl

-- By what the entry of a body comes to, and by what a refused call answers.
module _ (e : EngineState) (called : HostCall) (host : Host) (n : ℕ) (P : Outcome → EngineState × Host → Type 0) where
  entry-ends : (m : MethodTree) (objects : List Object)
      → ((left : ℕ) (it : Answered × World) (outcome : Outcome) → entry_of e.package_tree m called.method (host_values host.arrays m.args called.args) n (record { objects = objects; host = host }) ≡ Got left it
      → outcome_of e.package_tree (kind_told m) it.0 ≡ Some outcome → P outcome (with_receiver called.receiver it.1.objects e, it.1.host))
      → EndsIn P (entry_gives e m called host n objects)
  entry-ends m objects h = by (entry_of e.package_tree m called.method (host_values host.arrays m.args called.args) n (record { objects = objects; host = host })) refl
    where
      by : (o : Ran (Answered × World)) → entry_of e.package_tree m called.method (host_values host.arrays m.args called.args) n (record { objects = objects; host = host }) ≡ o → EndsIn P (given e (kind_told m) called.receiver o)
      by (Got left it) k = if-ends P (outcome_of e.package_tree (kind_told m) it.0) _ (λ outcome j. h left it outcome k j)
      by More k = tt
      by Lost k = tt

  receiver-ends : (m : MethodTree) (o : Option (List Object))
      → ((outcome : Outcome) → outcome_of e.package_tree (kind_told m) (refusal_of m bad_receiver) ≡ Some outcome → P outcome (e, host))
      → ((objects : List Object) (left : ℕ) (it : Answered × World) (outcome : Outcome) → entry_of e.package_tree m called.method (host_values host.arrays m.args called.args) n (record { objects = objects; host = host }) ≡ Got left it
      → outcome_of e.package_tree (kind_told m) it.0 ≡ Some outcome → P outcome (with_receiver called.receiver it.1.objects e, it.1.host))
      → EndsIn P (receiver_gives e m called host n o)
  receiver-ends m None h k = if-ends P (outcome_of e.package_tree (kind_told m) (refusal_of m bad_receiver)) _ h
  receiver-ends m (Some objects) h k = entry-ends m objects (k objects)

  pub call-ends : ((m : MethodTree) (outcome : Outcome) → slice_get e.package_tree.methods called.method ≡ Some m → outcome_of e.package_tree (kind_told m) (refusal_of m bad_receiver) ≡ Some outcome → P outcome (e, host))
      → ((m : MethodTree) (objects : List Object) (left : ℕ) (it : Answered × World) (outcome : Outcome) → slice_get e.package_tree.methods called.method ≡ Some m
      → entry_of e.package_tree m called.method (host_values host.arrays m.args called.args) n (record { objects = objects; host = host }) ≡ Got left it
      → outcome_of e.package_tree (kind_told m) it.0 ≡ Some outcome → P outcome (with_receiver called.receiver it.1.objects e, it.1.host))
      → EndsIn P (call_gives e called host n)
  unfolding call_gives
  call-ends h k = by (slice_get e.package_tree.methods called.method) refl (slice_get e.objects called.receiver)
    where
      by : (m : Option MethodTree) → slice_get e.package_tree.methods called.method ≡ m → (o : Option (Option (List Object))) → EndsIn P (method_gives e called host n m o)
      by None i None = tt
      by None i (Some o) = tt
      by (Some m) i None = tt
      by (Some m) i (Some o) = receiver-ends m o (λ outcome j. h m outcome i j) (λ objects left it outcome g j. k m objects left it outcome i g j)

-- The buffers and byte arrays keep their sizes.
pub call-keeps : (e : EngineState) (called : HostCall) (host : Host) (n : ℕ) (outcome : Outcome) (after : EngineState × Host) → call_gives e called host n ≡ done outcome after → SameSizes host after.1
call-keeps e called host n outcome after g =
    let P : Gives (EngineState × Host) → Type 0 = λ g. EndsIn (λ outcome after. SameSizes host after.1) g in
    subst P g (call-ends e called host n (λ outcome after. SameSizes host after.1) (λ m outcome i j. (refl, refl))
    (λ m objects left it outcome i k j. let s = entry-same e.package_tree m called.method (host_values host.arrays m.args called.args) n left (record { objects = objects; host = host }) it k in
    (ap (λ (x : List ℕ × List ℕ). x.0) s, ap (λ (x : List ℕ × List ℕ). x.1) s)))

-- An outcome is of its kind.
value-fits : (p : PackageTree) (kind : AnswerKind) (v : Option Value) (outcome : Outcome) → 0 < length p.statuses → outcome_of_value p kind v ≡ Some outcome → FitsAnswer (surface_of p) kind outcome
unfolding surface_of
value-fits p status (Some (status_number n)) outcome some e =
    let P : Outcome → Type 0 = λ o. FitsAnswer (surface_of p) status o in
    let Q : Option Outcome → Type 0 = λ o. fits_if o in
    subst Q e (by (nat_lt n (length p.statuses)) refl)
  where
    fits_if : Option Outcome → Type 0
    fits_if None = Unit {0}
    fits_if (Some o) = FitsAnswer (surface_of p) status o

    by : (t : Bool) → nat_lt n (length p.statuses) ≡ t → (if t then n else 0) < length p.statuses
    by true k = grind (arith, nat_tests, k)
    by false k = some
value-fits p (numeric bits) (Some (num n)) outcome some e = by (nat_lt n (2 ^ bits)) refl e
  where
    by : (t : Bool) → nat_lt n (2 ^ bits) ≡ t → (if t then Some (outcomes.Num n) else None) ≡ Some outcome → FitsAnswer (surface_of p) (numeric bits) outcome
    by true k i = let P : Outcome → Type 0 = λ o. FitsAnswer (surface_of p) (numeric bits) o in
        let same : outcomes.Num n ≡ outcome = cc (i) in
        subst P same (grind (arith, nat_tests, k))
    by false k i = absurd (cc (i))
value-fits p truth (Some (truth_value b)) outcome some e =
    let P : Outcome → Type 0 = λ o. FitsAnswer (surface_of p) truth o in
    let same : outcomes.Flag b ≡ outcome = cc (e) in
    subst P same tt
value-fits p nothing None outcome some e =
    let P : Outcome → Type 0 = λ o. FitsAnswer (surface_of p) nothing o in
    let same : outcomes.Nothing ≡ outcome = cc (e) in
    subst P same tt
value-fits p kind v outcome some e = absurd (cc (e))

answer-fits : (p : PackageTree) (kind : AnswerKind) (a : Answered) (outcome : Outcome) → 0 < length p.statuses → outcome_of p kind a ≡ Some outcome → FitsAnswer (surface_of p) kind outcome
answer-fits p kind (returned v) outcome some e = value-fits p kind v outcome some e
answer-fits p kind (suspended n) outcome some e = value-fits p kind (Some (status_number n)) outcome some e

pub call-fits : (e : EngineState) (called : HostCall) (host : Host) (n : ℕ) (outcome : Outcome) (after : EngineState × Host) (m : MethodTree) → slice_get e.package_tree.methods called.method ≡ Some m → 0 < length e.package_tree.statuses
    → call_gives e called host n ≡ done outcome after → FitsAnswer (surface_of e.package_tree) (kind_told m) outcome
call-fits e called host n outcome after m at some g =
    let P : Gives (EngineState × Host) → Type 0 = λ g. EndsIn (λ outcome after. FitsAnswer (surface_of e.package_tree) (kind_told m) outcome) g in
    subst P g (call-ends e called host n (λ outcome after. FitsAnswer (surface_of e.package_tree) (kind_told m) outcome)
    (λ x outcome i j. by x i outcome (answer-fits e.package_tree (kind_told x) (refusal_of x bad_receiver) outcome some j)) (λ x objects left it outcome i k j. by x i outcome (answer-fits e.package_tree (kind_told x) it.0 outcome some j)))
  where
    by : (x : MethodTree) → slice_get e.package_tree.methods called.method ≡ Some x → (outcome : Outcome) → FitsAnswer (surface_of e.package_tree) (kind_told x) outcome → FitsAnswer (surface_of e.package_tree) (kind_told m) outcome
    by x i outcome h =
        let same : x ≡ m = cc (i, at) in
        let P : MethodTree → Type 0 = λ x. FitsAnswer (surface_of e.package_tree) (kind_told x) outcome in
        subst P same h
