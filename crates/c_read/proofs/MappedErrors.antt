-- What held of an answer before its error was told in other words.
use Rattle.std.proofs.Common.{◌≡◌, Result, Ok, Err, MatchResult, IfOk, is_ok, subst}

pub held_ok : {T E D : Type 0} (P : T → Type 0) (Q : E → Type 0) (r : Result T E) (m : Result T D) (x : T) → is_ok m ≡ is_ok r → MatchResult r (λ y. m ≡ Ok y) Q → m ≡ Ok x → IfOk r P → P x
held_ok P Q (Ok y) m x same h e p = let i : y ≡ x = cc (h, e) in subst P i p
held_ok P Q (Err y) m x same h e p = absurd (cc (same, e))
