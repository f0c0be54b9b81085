-- Where the parts of a step lead: the world that each of them comes to stands in a relation to one that is given.
use Rattle.std.proofs.Common.{◌≡◌, ℕ, zero, suc, Bool, true, false, Option, Some, None, nat_lt, refl, if◌then◌else◌}
use Rattle.turns.specs.Run.{Go, Turn, End, Out, Fail, Outcome, Got, More, Lost, onward, holding}
use Rattle.turns.specs.Steps.{NextKeeps}
use Rattle.wf_meaning.specs.World.{World}
use Rattle.wf_meaning.specs.SourceStep.{At, Ending, Steps, with_some, where_true, either, taking_turn}

module _ (Leads : World → World → Type 0) where
  pub record Kept (w : World) (x : Steps) : Type 0 where
    pub fact : NextKeeps (λ (y : At). Leads w y.vars.world) (λ (e : Ending × World). Leads w e.1) x

  pub kept-some : {X : Type 0} (w : World) (o : Option X) (go : X → Steps) → ((x : X) → o ≡ Some x → Kept w (go x)) → Kept w (with_some o go)
  unfolding with_some
  kept-some w None go h = record { fact = tt }
  kept-some w (Some x) go h = h x refl

  pub kept-true : (w : World) (test : Bool) (x : Steps) → Kept w x → Kept w (where_true test x)
  unfolding where_true
  kept-true w true x h = h
  kept-true w false x h = record { fact = tt }

  pub kept-either : (w : World) (test : Bool) (x y : Steps) → (test ≡ true → Kept w x) → (test ≡ false → Kept w y) → Kept w (either test x y)
  unfolding either
  kept-either w true x y h k = h refl
  kept-either w false x y h k = k refl

  pub kept-turn : (w : World) (n : ℕ) (x : Steps) → Kept w x → Kept w (taking_turn n x)
  unfolding taking_turn
  kept-turn w zero x h = record { fact = tt }
  kept-turn w (suc left) (Go x) h = record { fact = h.fact }
  kept-turn w (suc left) (Turn m x) h = h
  kept-turn w (suc left) (End m a) h = h
  kept-turn w (suc left) Out h = h
  kept-turn w (suc left) Fail h = h

  pub kept-onward : (w : World) (n left : ℕ) (x : At) → Leads w x.vars.world → Kept w (onward n left x)
  unfolding onward
  kept-onward w n left x h = by (nat_lt left n)
    where
      by : (t : Bool) → Kept w (if t then Turn left x else Go x)
      by true = record { fact = h }
      by false = record { fact = h }

  pub kept-holding : {B : Type 0} (w : World) (o : Outcome B) (on : ℕ → B → Steps) → ((left : ℕ) (a : B) → o ≡ Got left a → Kept w (on left a)) → Kept w (holding o on)
  unfolding holding
  kept-holding w (Got left a) on k = k left a refl
  kept-holding w More on k = record { fact = tt }
  kept-holding w Lost on k = record { fact = tt }

  pub go : (w : World) (x : At) → Leads w x.vars.world → Kept w (Go x)
  go w x h = record { fact = h }

  pub ends-in : (w : World) (n : ℕ) (e : Ending) (u : World) → Leads w u → Kept w (End n (e, u))
  ends-in w n e u h = record { fact = h }
