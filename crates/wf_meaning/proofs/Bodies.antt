-- The runs of all bodies leave no more turns than they were given, and only count them.
use Rattle.std.proofs.Common.{◌≡◌, ℕ, zero, suc, ◌+◌, Bool, true, false, List, [], ◌∷◌, Option, Some, None, refl, sym, subst, arith}
use Rattle.std.specs.Prelude.{nat_eq, if◌then◌else◌, slice_get}
use Rattle.turns.specs.Run.{Outcome, Got, More, Lost}
use Rattle.turns.specs.Steps.{LeavesFewer, IsRaisedTo}
use Rattle.turns.proofs.Raises.{fewer, raised}
use Rattle.wf_ast.specs.TypedPackage.{MethodTree, PackageTree}
use Rattle.wf_meaning.specs.Entry.{Answered}
use Rattle.wf_meaning.specs.World.{World}
use Rattle.wf_meaning.specs.SourceStep.{Ending, gives, suspends, Call, Callees, step, weight}
use Rattle.wf_meaning.specs.SourceCall.{body_of, begins, taken_up, remaining_of, left_over, body_run, run_if, bodies}
use Rattle.wf_meaning.proofs.Weights.{IsThrifty, step_falls}
use Rattle.wf_meaning.proofs.Counting.{IsCounting, step_counts}

fewer_left : (call : Call) (n : ℕ) (o : Outcome (Ending × World)) → LeavesFewer n o → LeavesFewer (suc n) (left_over call o)
fewer_left call n (Got left (gives v, w)) h = omega (arith, h)
fewer_left call n (Got left (suspends status items, w)) h = omega (arith, h)
fewer_left call n More h = tt
fewer_left call n Lost h = tt

raised_left : (call : Call) (more : ℕ) (o o' : Outcome (Ending × World)) → IsRaisedTo more o o' → IsRaisedTo more (left_over call o) (left_over call o')
raised_left call more (Got left (gives v, w)) o' h = rw h refl
raised_left call more (Got left (suspends status items, w)) o' h = rw h refl
raised_left call more More o' h = tt
raised_left call more Lost o' h = rw h refl

fewer_body : (p : PackageTree) (calls : Callees) → IsThrifty calls → (m : MethodTree) (call : Call) (n : ℕ) (w : World) → LeavesFewer n (body_run p calls m call n w)
fewer_body p calls thrifty m call zero w = tt
fewer_body p calls thrifty m call (suc left) w =
    fewer_left call left _ (fewer (step (body_of p m call) calls) weight (step_falls (body_of p m call) calls thrifty) left _)

raised_body : (p : PackageTree) (calls : Callees) → IsThrifty calls → IsCounting calls → (m : MethodTree) (call : Call) (n more : ℕ) (w : World) → IsRaisedTo more (body_run p calls m call n w) (body_run p calls m call (n + more) w)
raised_body p calls thrifty counting m call zero more w = tt
raised_body p calls thrifty counting m call (suc left) more w =
    let e : suc left + more ≡ suc (left + more) = omega arith in
    let P : ℕ → Type 0 = λ k. IsRaisedTo more (body_run p calls m call (suc left) w) (body_run p calls m call k w) in
    let b = body_of p m call in
    subst P (sym e) (raised_left call more _ _ (raised (step b calls) weight (step_falls b calls thrifty) (step_counts b calls counting) more left (begins m (taken_up call w) (remaining_of w call))))

fewer_if : (p : PackageTree) (calls : Callees) → IsThrifty calls → (m : Option MethodTree) (call : Call) (n : ℕ) (w : World) → LeavesFewer n (run_if p calls m call n w)
fewer_if p calls thrifty None call n w = tt
fewer_if p calls thrifty (Some m) call n w = fewer_body p calls thrifty m call n w

raised_if : (p : PackageTree) (calls : Callees) → IsThrifty calls → IsCounting calls → (m : Option MethodTree) (call : Call) (n more : ℕ) (w : World) → IsRaisedTo more (run_if p calls m call n w) (run_if p calls m call (n + more) w)
raised_if p calls thrifty counting None call n more w = refl
raised_if p calls thrifty counting (Some m) call n more w = raised_body p calls thrifty counting m call n more w

fewer_test : (n : ℕ) (test : Bool) (o o' : Outcome (Answered × World)) → LeavesFewer n o → LeavesFewer n o' → LeavesFewer n (if test then o else o')
fewer_test n true o o' h k = h
fewer_test n false o o' h k = k

raised_test : (more : ℕ) (test : Bool) (o o' u u' : Outcome (Answered × World)) → IsRaisedTo more o u → IsRaisedTo more o' u' → IsRaisedTo more (if test then o else o') (if test then u else u')
raised_test more true o o' u u' h k = h
raised_test more false o o' u u' h k = k

pub bodies_thrifty : (p : PackageTree) (ms : List ℕ) → IsThrifty (bodies p ms)
unfolding bodies
bodies_thrifty p [] = record { by = λ call n w. tt }
bodies_thrifty p (m ∷ ms) =
    let inner = bodies_thrifty p ms in
    record { by = λ call n w. fewer_test n (nat_eq m call.method) _ _ (fewer_if p (bodies p ms) inner (slice_get p.methods m) call n w) (inner.by call n w) }

pub bodies_counting : (p : PackageTree) (ms : List ℕ) → IsCounting (bodies p ms)
unfolding bodies
bodies_counting p [] = record { by = λ call n more w. refl }
bodies_counting p (m ∷ ms) =
    let inner = bodies_counting p ms in
    let thrifty = bodies_thrifty p ms in
    record { by = λ call n more w. raised_test more (nat_eq m call.method) _ _ _ _ (raised_if p (bodies p ms) thrifty inner (slice_get p.methods m) call n more w) (inner.by call n more w) }
