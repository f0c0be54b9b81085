-- What is answered of requirements.
use Rattle.std.proofs.Common.{◌≡◌, ◌<◌, ◌≤◌, true, false, List, length, Option, Some, None, Result, Ok, Err, refl, ap, ◌∙◌, nat_le, arith}
use Rattle.std.proofs.lemmas.Bool.Decides.{nat_tests}
use Rattle.wf_text.specs.declared.place.Place.{Place}
use Rattle.wf_text.specs.declared.rules.Refusal.{Refusal}
use Rattle.wf_text.specs.declared.rules.Rule.TheVariants.{L8}
use Rattle.wf_facts_exprs.specs.Claims.{Claim}
use Rattle.wf_facts_exprs.specs.Demands.{demand, or_else, unless_refused}
use Rattle.wf_loops.specs.LoopRules.{limit}

pub is-refused : (p : Option Refusal) (r : Refusal) → unless_refused {X = Unit {0}} p (tt {0}) ≡ Err r → p ≡ Some r
is-refused None r h = absurd (cc (h))
is-refused (Some q) r h = cc (h)

pub is-fine : (p : Option Refusal) → unless_refused {X = Unit {0}} p (tt {0}) ≡ Ok (tt {0}) → p ≡ None
is-fine None h = refl
is-fine (Some q) h = absurd (cc (h))

pub third-of : (p q r asked : Option Refusal) (answer : Result (Unit {0}) Refusal) → answer ≡ unless_refused asked (tt {0}) → asked ≡ r
    → unless_refused {X = Unit {0}} p (tt {0}) ≡ Ok (tt {0}) → unless_refused {X = Unit {0}} q (tt {0}) ≡ Ok (tt {0}) → answer ≡ unless_refused (or_else p (or_else q r)) (tt {0})
third-of None None r asked answer h k a b = h ∙ ap (λ s. unless_refused s (tt {0})) k
third-of None (Some q) r asked answer h k a b = absurd (cc (b))
third-of (Some p) q r asked answer h k a b = absurd (cc (a))

pub or-again : (p q r : Option Refusal) → or_else p (or_else q r) ≡ or_else (or_else p q) r
or-again None q r = refl
or-again (Some x) q r = refl

pub limit-kept : (at : Place) (fs : List Claim) → length fs ≤ 512 → limit at fs ≡ None
limit-kept at fs h =
    let e : nat_le (length fs) 512 ≡ true = grind (arith, nat_tests) in ap (λ b. demand b L8 at) e

pub limit-passed : (at : Place) (fs : List Claim) → 512 < length fs → limit at fs ≡ Some (record { rule = L8; at = at })
limit-passed at fs h =
    let e : nat_le (length fs) 512 ≡ false = grind (arith, nat_tests) in ap (λ b. demand b L8 at) e
