-- The bodies of an accepted package are never stuck.
use Rattle.std.proofs.Common.{◌≡◌, inl, inr, ℕ, Bool, true, false, List, [], ◌∷◌, Option, Some, refl, sym, ap, ◌∙◌, subst, nat_eq, arith}
use Rattle.std.specs.Prelude.{slice_get, if◌then◌else◌}
use Rattle.std.proofs.lemmas.Bool.{or_cases}
use Rattle.std.proofs.lemmas.Bool.Decides.{nat_tests}
use Rattle.wf_ast.specs.TypedPackage.{MethodTree, PackageTree}
use Rattle.wf_ast.specs.Value.{Value}
use Rattle.wf_ast.specs.WellTyped.{well_typed, is_among, calls_known, calls_only}
use Rattle.wf_meaning.specs.World.{World}
use Rattle.wf_meaning.specs.SourceCall.{run_if, bodies}
use Rattle.wf_meaning.proofs.Bodies.{bodies_thrifty}
use Rattle.wf_sound.specs.Worlds.{Shape, HaveTypes, IsLawfulWorld, AreApart}
use Rattle.wf_sound.specs.Callees.{RunsWell, MethodRuns}
use Rattle.wf_sound_runs.proofs.Placed.{called-known}
use Rattle.wf_sound_runs.proofs.Running.{IsResumable}
use Rattle.wf_sound_runs.proofs.BodyRuns.{MethodAccepted, body-runs}
use Rattle.wf_sound_runs.proofs.CallOrder.{CallsOn}

module _ (p : PackageTree) (shape : Shape) (typed : well_typed p ≡ true) (accepted : (k : ℕ) (m : MethodTree) → slice_get p.methods k ≡ Some m → MethodAccepted p m) where
  among-rest : (k m : ℕ) (ms : List ℕ) → nat_eq m k ≡ false → is_among (m ∷ ms) k ≡ true → is_among ms k ≡ true
  among-rest k m ms e h = elim (or_cases (nat_eq k m) _ h) [
    | inl i ↦ absurd (grind (arith, nat_tests, e, i))
    | inr i ↦ i
  ]

  known-calls : (known : ℕ → Bool) (o : Option MethodTree) (m : MethodTree) → o ≡ Some m → calls_known known o ≡ true → calls_only known m.body ≡ true
  known-calls known o m e h = let P : Option MethodTree → Type 0 = λ o. calls_known known o ≡ true in subst P e h

  -- A list of methods that begins with one.
  one-more : (m : ℕ) (ms : List ℕ) (k : ℕ) (mt : MethodTree) (object : ℕ) (args : List Value) (turns : ℕ) (w : World)
      → (nat_eq m k ≡ true → RunsWell p (IsResumable p) shape mt args w (run_if p (bodies p ms) (slice_get p.methods m) (record { object = object; method = k; args = args }) turns w))
      → (nat_eq m k ≡ false → RunsWell p (IsResumable p) shape mt args w (bodies p ms (record { object = object; method = k; args = args }) turns w))
      → RunsWell p (IsResumable p) shape mt args w (bodies p (m ∷ ms) (record { object = object; method = k; args = args }) turns w)
  unfolding bodies
  one-more m ms k mt object args turns w f g = by (nat_eq m k) f g
    where
      by : (t : Bool) → (t ≡ true → RunsWell p (IsResumable p) shape mt args w (run_if p (bodies p ms) (slice_get p.methods m) (record { object = object; method = k; args = args }) turns w))
          → (t ≡ false → RunsWell p (IsResumable p) shape mt args w (bodies p ms (record { object = object; method = k; args = args }) turns w))
          → RunsWell p (IsResumable p) shape mt args w (if t then run_if p (bodies p ms) (slice_get p.methods m) (record { object = object; method = k; args = args }) turns w else bodies p ms (record { object = object; method = k; args = args }) turns w)
      by true f g = f refl
      by false f g = g refl

  pub bodies-run : (ms : List ℕ) → CallsOn p ms → (k : ℕ) → is_among ms k ≡ true → (turns : ℕ) (w : World) → IsLawfulWorld p (IsResumable p) shape w → MethodRuns (bodies p ms) p (IsResumable p) shape k turns w
  bodies-run [] c k h turns w lawful = absurd (cc (h))
  bodies-run (m ∷ ms) c k h turns w lawful = record { runs = λ mt object args numbered of lie sole. runs mt object args numbered of lie sole (λ j i t v l. bodies-run ms c.1 j i t v l) }
    where
      mine : (mt : MethodTree) (object : ℕ) (args : List Value) → slice_get p.methods k ≡ Some mt → slice_get shape.structs object ≡ Some mt.of → HaveTypes p shape mt.args args → AreApart args
          → ((j : ℕ) → is_among ms j ≡ true → (turns : ℕ) (v : World) → IsLawfulWorld p (IsResumable p) shape v → MethodRuns (bodies p ms) p (IsResumable p) shape j turns v)
          → nat_eq m k ≡ true → RunsWell p (IsResumable p) shape mt args w (run_if p (bodies p ms) (slice_get p.methods m) (record { object = object; method = k; args = args }) turns w)
      mine mt object args numbered of lie sole further e =
          let same : m ≡ k = grind (arith, nat_tests, e) in
          let there : slice_get p.methods m ≡ Some mt = ap (slice_get p.methods) same ∙ numbered in
          let only = known-calls (is_among ms) (slice_get p.methods m) mt there c.0 in
          let P : Option MethodTree → Type 0 = λ o. RunsWell p (IsResumable p) shape mt args w (run_if p (bodies p ms) o (record { object = object; method = k; args = args }) turns w) in
          let run : P (Some mt) =
          body-runs p shape mt (accepted k mt numbered) typed k numbered object args sole of lie (bodies p ms) (bodies_thrifty p ms) (λ j i t v l. further j (called-known (is_among ms) mt.body j only i) t v l) turns w lawful in
          subst P (sym there) run

      runs : (mt : MethodTree) (object : ℕ) (args : List Value) → slice_get p.methods k ≡ Some mt → slice_get shape.structs object ≡ Some mt.of → HaveTypes p shape mt.args args → AreApart args
          → ((j : ℕ) → is_among ms j ≡ true → (turns : ℕ) (v : World) → IsLawfulWorld p (IsResumable p) shape v → MethodRuns (bodies p ms) p (IsResumable p) shape j turns v)
          → RunsWell p (IsResumable p) shape mt args w (bodies p (m ∷ ms) (record { object = object; method = k; args = args }) turns w)
      runs mt object args numbered of lie sole further =
          one-more m ms k mt object args turns w (mine mt object args numbered of lie sole further)
          (λ e. (further k (among-rest k m ms e h) turns w lawful).runs mt object args numbered of lie sole)
