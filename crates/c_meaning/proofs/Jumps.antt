-- Jumps, by where the label stands.
use Rattle.std.proofs.Common.{◌≡◌, ℕ, ◌<◌, Bool, false, List, Option, Some, ap, ◌∙◌, subst, arith}
use Rattle.std.specs.Prelude.{nat_lt}
use Rattle.std.proofs.lemmas.Bool.{lt-ltb}
use Rattle.std.proofs.lemmas.Bool.Decides.{nat_tests}
use Rattle.turns.specs.Run.{Turn, run}
use Rattle.turns.proofs.Unfolds.{goes}
use Rattle.c_text.specs.CTree.{Code, jump}
use Rattle.c_meaning.specs.CMemory.{Memory}
use Rattle.c_meaning.specs.CStep.{Continuation, stop, Place, at, place_weight, Label, by_name, find, Running, state, weight, takes_turn, leaps, jumps, step}
use Rattle.c_meaning.specs.TextOrder.{statements, StandsAt}
use Rattle.c_meaning.proofs.Weights.{step_falls}
use Rattle.c_meaning.proofs.Text.{text_falls, IsOneOf, found_stands}

module _ (r : Running) (n i j : ℕ) (label : List ℕ) (rest : Code) (k : Continuation) (target : Place) (memory : Memory)
    (from : StandsAt r.body i (at (jump label rest) k)) (found : find (by_name label) r.body stop ≡ Some target) (to : StandsAt r.body j target) where
  jump_step : step r n (state (jump label rest) k memory) ≡ leaps (nat_lt (place_weight target) (place_weight (at (jump label rest) k))) n target memory
  jump_step = ap (λ (o : Option Place). jumps n (at (jump label rest) k) o memory) found

  pub jump_behind : i < j → run (step r) weight n (state (jump label rest) k memory) ≡ run (step r) weight n (record { place = target; memory = memory })
  jump_behind h =
      let l : place_weight target < place_weight (at (jump label rest) k) = text_falls r.body stop i j _ _ from to h in
      goes (step r) weight (step_falls r) (jump_step ∙ ap (λ (b : Bool). leaps b n target memory) (lt-ltb _ _ l))

  not_less : (a b : ℕ) → a < b → nat_lt b a ≡ false
  not_less a b h = grind (arith, nat_tests)

  pub jump_in_front : j < i → step r n (state (jump label rest) k memory) ≡ takes_turn n (λ left. Turn left (record { place = target; memory = memory }))
  jump_in_front h =
      let l : place_weight (at (jump label rest) k) < place_weight target = text_falls r.body stop j i _ _ to from h in
      jump_step ∙ ap (λ (b : Bool). leaps b n target memory) (not_less _ _ l)

pub label_stands : (body : Code) (label : Label) (target : Place) → find label body stop ≡ Some target → (j : ℕ) × StandsAt body j target
label_stands body label target e = let P : Option Place → Type 0 = IsOneOf (statements body stop) in subst P e (found_stands label body stop)
