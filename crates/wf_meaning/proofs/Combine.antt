-- How the weight and the turns of a step follow from those of its parts.
use Rattle.std.proofs.Common.{◌≡◌, ℕ, zero, suc, ◌+◌, ◌<◌, ◌≤◌, Bool, true, false, Option, Some, None, refl, sym, ◌∙◌, arith}
use Rattle.std.specs.Prelude.{nat_lt, if◌then◌else◌}
use Rattle.std.proofs.lemmas.Bool.Decides.{nat_tests}
use Rattle.turns.specs.Run.{Go, Turn, End, Out, Fail, Outcome, Got, More, Lost, onward, holding}
use Rattle.turns.specs.Steps.{FallsTo, LeavesFewer, IsRaised, IsRaisedTo}
use Rattle.wf_meaning.specs.World.{World}
use Rattle.wf_meaning.specs.SourceStep.{At, Ending, Steps, with_some, where_true, either, taking_turn, weight}

-- A step to a next state, or a stuck one, doesn't look at the turns.
abbrev pub LooksAtNone : Steps → Type 0
LooksAtNone (Go x) = Unit {0}
LooksAtNone (Turn left x) = ⊥
LooksAtNone (End left a) = ⊥
LooksAtNone Out = ⊥
LooksAtNone Fail = Unit {0}

pub record IsTurnless (steps : Steps) : Type 0 where
  pub fact : LooksAtNone steps

pub turnless_some : {X : Type 0} (o : Option X) (go : X → Steps) → ((x : X) → IsTurnless (go x)) → IsTurnless (with_some o go)
unfolding with_some
turnless_some None go h = record { fact = tt }
turnless_some (Some x) go h = h x

pub turnless_true : (test : Bool) (s : Steps) → IsTurnless s → IsTurnless (where_true test s)
unfolding where_true
turnless_true true s h = h
turnless_true false s h = record { fact = tt }

-- A step falls below a weight, and leaves no more turns than there were.
pub record Below (n top : ℕ) (steps : Steps) : Type 0 where
  pub fact : FallsTo weight n top steps

abbrev turn_or_go : Bool → ℕ → At → Steps
turn_or_go test left x = if test then Turn left x else Go x

module _ {n top : ℕ} where
  pub below_some : {X : Type 0} (o : Option X) (go : X → Steps) → ((x : X) → o ≡ Some x → Below n top (go x)) → Below n top (with_some o go)
  unfolding with_some
  below_some None go h = record { fact = tt }
  below_some (Some x) go h = h x refl

  pub below_true : (test : Bool) (steps : Steps) → Below n top steps → Below n top (where_true test steps)
  unfolding where_true
  below_true true steps h = h
  below_true false steps h = record { fact = tt }

  pub below_either : (test : Bool) (s t : Steps) → Below n top s → Below n top t → Below n top (either test s t)
  unfolding either
  below_either true s t h k = h
  below_either false s t h k = k

  pub below_onward : (left : ℕ) (x : At) → weight x < top → Below n top (onward n left x)
  unfolding onward
  below_onward left x h = record { fact = by_test (nat_lt left n) refl }
    where
      by_test : (test : Bool) → nat_lt left n ≡ test → FallsTo weight n top (turn_or_go test left x)
      by_test true e = grind (arith, nat_tests, e)
      by_test false e = h

  pub below_holding : {B : Type 0} (o : Outcome B) (on : ℕ → B → Steps) → LeavesFewer n o → ((left : ℕ) (b : B) → left ≤ n → Below n top (on left b)) → Below n top (holding o on)
  unfolding holding
  below_holding (Got left b) on h k = k left b h
  below_holding More on h k = record { fact = tt }
  below_holding Lost on h k = record { fact = tt }

  pub below_ending : (left : ℕ) (a : Ending × World) → left ≤ n → Below n top (End left a)
  below_ending left a h = record { fact = h }

pub below_turn : (n top : ℕ) (s : Steps) → IsTurnless s → Below n top (taking_turn n s)
unfolding taking_turn
below_turn zero top s h = record { fact = tt }
below_turn (suc left) top (Go x) h = record { fact = omega arith }
below_turn (suc left) top (Turn m x) h = absurd h.fact
below_turn (suc left) top (End m a) h = absurd h.fact
below_turn (suc left) top Out h = absurd h.fact
below_turn (suc left) top Fail h = record { fact = tt }

-- A step is what another one is with so many more turns.
pub record Lifts (more : ℕ) (s t : Steps) : Type 0 where
  pub fact : IsRaised more s t

module _ {more : ℕ} where
  pub lifts_some : {X : Type 0} (o : Option X) (go go' : X → Steps) → ((x : X) → Lifts more (go x) (go' x)) → Lifts more (with_some o go) (with_some o go')
  unfolding with_some
  lifts_some None go go' h = record { fact = refl }
  lifts_some (Some x) go go' h = h x

  pub lifts_true : (test : Bool) (s t : Steps) → Lifts more s t → Lifts more (where_true test s) (where_true test t)
  unfolding where_true
  lifts_true true s t h = h
  lifts_true false s t h = record { fact = refl }

  pub lifts_either : (test : Bool) (s s' t t' : Steps) → Lifts more s s' → Lifts more t t' → Lifts more (either test s t) (either test s' t')
  unfolding either
  lifts_either true s s' t t' h k = h
  lifts_either false s s' t t' h k = k

  pub lifts_turnless : (s : Steps) → IsTurnless s → Lifts more s s
  lifts_turnless (Go x) h = record { fact = refl }
  lifts_turnless (Turn left x) h = absurd h.fact
  lifts_turnless (End left a) h = absurd h.fact
  lifts_turnless Out h = absurd h.fact
  lifts_turnless Fail h = record { fact = refl }

  pub lifts_go : (x : At) → Lifts more (Go x) (Go x)
  lifts_go x = record { fact = refl }

  pub lifts_end : (n : ℕ) (a : Ending × World) → Lifts more (End n a) (End (n + more) a)
  lifts_end n a = record { fact = refl }

  pub lifts_turn : (n : ℕ) (s : Steps) → IsTurnless s → Lifts more (taking_turn n s) (taking_turn (n + more) s)
  unfolding taking_turn
  lifts_turn zero s h = record { fact = tt }
  lifts_turn (suc left) s h = let e : suc left + more ≡ suc (left + more) = omega arith in rw e (by_step s h)
    where
      by_step : (s : Steps) → IsTurnless s → Lifts more (taking_turn (suc left) s) (taking_turn (suc (left + more)) s)
      by_step (Go x) h = record { fact = refl }
      by_step (Turn m x) h = absurd h.fact
      by_step (End m a) h = absurd h.fact
      by_step Out h = absurd h.fact
      by_step Fail h = record { fact = refl }

  pub lifts_onward : (n left : ℕ) (x : At) → Lifts more (onward n left x) (onward (n + more) (left + more) x)
  unfolding onward
  lifts_onward n left x = by_test (nat_lt left n) refl
    where
      lifted : (test other : Bool) → other ≡ test → Lifts more (turn_or_go test left x) (turn_or_go other (left + more) x)
      lifted true true e = record { fact = refl }
      lifted false false e = record { fact = refl }
      lifted true false e = absurd (cc (e))
      lifted false true e = absurd (cc (e))

      by_test : (test : Bool) → nat_lt left n ≡ test → Lifts more (turn_or_go (nat_lt left n) left x) (turn_or_go (nat_lt (left + more) (n + more)) (left + more) x)
      by_test true e = let k : nat_lt (left + more) (n + more) ≡ true = grind (arith, nat_tests, e) in lifted (nat_lt left n) (nat_lt (left + more) (n + more)) (k ∙ sym e)
      by_test false e = let k : nat_lt (left + more) (n + more) ≡ false = grind (arith, nat_tests, e) in lifted (nat_lt left n) (nat_lt (left + more) (n + more)) (k ∙ sym e)

  pub lifts_holding : {B : Type 0} (o o' : Outcome B) (on on' : ℕ → B → Steps) → IsRaisedTo more o o'
      → ((left : ℕ) (b : B) → Lifts more (on left b) (on' (left + more) b)) → Lifts more (holding o on) (holding o' on')
  unfolding holding
  lifts_holding (Got left b) o' on on' h k = rw h (k left b)
  lifts_holding More o' on on' h k = record { fact = tt }
  lifts_holding Lost o' on on' h k = rw h (record { fact = refl })
