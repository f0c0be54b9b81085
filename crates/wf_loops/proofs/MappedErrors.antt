-- What an answer was before its error was told in other words.
use Rattle.std.proofs.Common.{◌≡◌, Result, Ok, Err, IsErrAnd, MatchResult, OnOk, OnErr, is_ok, refl, ap, subst}

module _ {T E D : Type 0} where
  pub before_ok : (Q : E → Type 0) (r : Result T E) (m : Result T D) (x : T) → is_ok m ≡ is_ok r → MatchResult r (λ y. m ≡ Ok y) Q → m ≡ Ok x → r ≡ Ok x
  before_ok Q (Ok y) m x same h e = let i : y ≡ x = cc (h, e) in ap (λ z. Ok z) i
  before_ok Q (Err y) m x same h e = absurd (cc (same, e))

  pub before_err : (Q : E → D → Type 0) (r : Result T E) (m : Result T D) (d : D) → MatchResult r (λ y. m ≡ Ok y) (λ e. IsErrAnd m (Q e)) → m ≡ Err d → (e : E) × (r ≡ Err e) × Q e d
  before_err Q (Ok y) m d h e = absurd (cc (h, e))
  before_err Q (Err y) m d h e = (y, refl, subst (λ q. IsErrAnd q (Q y)) e h)

  pub held_ok : (P : Type 0) (r : Result T E) (m : Result T D) (x : T) → is_ok m ≡ is_ok r → m ≡ Ok x → OnOk r P → P
  held_ok P (Ok y) m x same e p = p
  held_ok P (Err y) m x same e p = absurd (cc (same, e))

  pub kept_on_ok : (P : Type 0) (r : Result T E) (m : Result T D) → is_ok m ≡ is_ok r → OnOk r P → OnOk m P
  kept_on_ok P (Ok y) (Ok x) same p = p
  kept_on_ok P (Ok y) (Err d) same p = tt
  kept_on_ok P (Err y) (Ok x) same p = absurd cc
  kept_on_ok P (Err y) (Err d) same p = tt

  pub held_err : (P : Type 0) (r : Result T E) (m : Result T D) (d : D) → is_ok m ≡ is_ok r → m ≡ Err d → OnErr r P → P
  held_err P (Ok y) m d same e p = absurd (cc (same, e))
  held_err P (Err y) m d same e p = p
