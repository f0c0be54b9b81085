-- What is done for the items of a list from one on is done for that one, and then for the rest.
use Rattle.std.proofs.Common.{◌≡◌, ℕ, zero, suc, ◌<◌, ◌≤◌, Bool, List, [], ◌∷◌, drop, take, length, refl, sym, ap, ◌∙◌, subst, arith}
use Rattle.wf_ast.specs.TypedPackage.{Variable}
use Rattle.c_text.specs.CNodes.{Nodes, code_of}
use Rattle.c_text.specs.CTree.{Code}
use Rattle.wf_exprs.specs.Names.{Names}
use Rattle.wf_exprs.specs.Grown.{HasCode}
use Rattle.wf_lower_stmts.specs.declared.places.Way.{Way}
use Rattle.wf_lower_stmts.specs.declared.places.Way.TheVariants as ways
use Rattle.wf_lower_stmts.specs.BodyNodes.{places_code}

module _ (names : Names) (picks : ℕ → Bool) (rest : Code) where
  pub places_front : (way : Way) (m k : ℕ) (xs : List Variable) → k < length xs
      → places_code way names picks m (drop k xs) rest ≡ places_code way names picks m (take 1 (drop k xs)) (places_code way names picks (suc m) (drop (suc k) xs) rest)
  places_front way m k [] h = absurd (omega (arith, h))
  places_front ways.Put m zero (x ∷ xs) h = refl
  places_front ways.Get m zero (x ∷ xs) h = refl
  places_front way m (suc k) (x ∷ xs) h = places_front way m k xs (omega (arith, h))

-- One argument more is done.
module _ (names : Names) (picks : ℕ → Bool) (rest : Code) where
  pub places_step : {a b : Nodes} {code it : ℕ} (way : Way) (xs : List Variable) (left i : ℕ) → suc i ≡ left → left ≤ length xs → HasCode a code (places_code way names picks left (drop left xs) rest)
      → HasCode b it (places_code way names picks i (take 1 (drop i xs)) (code_of a code)) → HasCode b it (places_code way names picks i (drop i xs) rest)
  places_step {a = a} {code = code} way xs left i e h so one =
      let P : ℕ → Type 0 = λ n. HasCode a code (places_code way names picks n (drop n xs) rest) in
      let next = subst P (sym e) so in
      record { there = one.there; is = one.is ∙ ap (places_code way names picks i (take 1 (drop i xs))) next.is ∙ sym (places_front names picks rest way i i xs (omega (arith, e, h))) }
