-- Bytes have a token at the front, or none.
use Rattle.std.proofs.Common.{◌≡◌, ◌⊎◌, inl, inr, ℕ, Bool, true, false, ◌&&◌, Option, None, Some, List, [], ◌∷◌, ◌++◌, refl, sym, ◌∙◌, ap, subst}
use Rattle.std.specs.List.{list_all}
use Rattle.std.proofs.lemmas.Bool.{eqb-true}
use Rattle.c_text.specs.CSpelling.{CToken, is_word_byte, is_string_byte}
use Rattle.c_read_grammar.specs.FirstToken.{Stands, begins, run_token, string_token, symbol_token}
use Rattle.c_read_grammar.proofs.Stands.{is_quote, run-some, run-none, string-some, string-none, symbol-some, symbol-none}

-- The longest front of a class, and what is after it.
pub record Cut (test : ℕ → Bool) (bytes : List ℕ) : Type 0 where
  pub front : List ℕ
  pub back : List ℕ
  pub cut : bytes ≡ front ++ back
  pub run : list_all test front ≡ true
  pub stops : begins test back ≡ false

pub cut-front : (test : ℕ → Bool) (bytes : List ℕ) → Cut test bytes
cut-front test [] = record { front = []; back = []; cut = refl; run = refl; stops = refl }
cut-front test (byte ∷ bytes) = by_test (cut-front test bytes) (test byte) refl
  where
    by_test : Cut test bytes → (b : Bool) → test byte ≡ b → Cut test (byte ∷ bytes)
    by_test c true e = record { front = byte ∷ c.front; back = c.back; cut = ap (λ x. byte ∷ x) c.cut; run = ap (λ x. x && list_all test c.front) e ∙ c.run; stops = c.stops }
    by_test c false e = record { front = []; back = byte ∷ bytes; cut = refl; run = refl; stops = e }

-- A token at the front, or none.
abbrev pub HasToken : List ℕ → Type 0
HasToken bytes = (t : CToken) × (tail : List ℕ) × Stands t bytes tail

abbrev pub NoToken : List ℕ → Type 0
NoToken bytes = (t : CToken) (tail : List ℕ) → Stands t bytes tail → ⊥

begins-front : (test : ℕ → Bool) (bytes front back : List ℕ) → bytes ≡ front ++ back → begins test bytes ≡ true → begins test back ≡ false → begins test front ≡ true
begins-front test bytes [] back cut h w = let k : begins test back ≡ true = ap (begins test) (sym cut) ∙ h in absurd (cc (k, w))
begins-front test bytes (byte ∷ front) back cut h w = ap (begins test) (sym cut) ∙ h

-- A word, a name or a literal.
run-decided : (bytes : List ℕ) → begins is_word_byte bytes ≡ true → HasToken bytes ⊎ NoToken bytes
run-decided bytes h = by_cut (cut-front is_word_byte bytes)
  where
    by_token : (c : Cut is_word_byte bytes) → begins is_word_byte c.front ≡ true → (o : Option CToken) → run_token c.front ≡ o → HasToken bytes ⊎ NoToken bytes
    by_token c first (Some t) e = inl (t, c.back, subst (λ (x : List ℕ). Stands t x c.back) (sym c.cut) (run-some c.front c.back t first c.run c.stops e))
    by_token c first None e = inr (λ t tail s. run-none c.front c.back first c.run c.stops e t tail (subst (λ (x : List ℕ). Stands t x tail) c.cut s))

    by_cut : Cut is_word_byte bytes → HasToken bytes ⊎ NoToken bytes
    by_cut c = by_token c (begins-front is_word_byte bytes c.front c.back c.cut h c.stops) (run_token c.front) refl

-- A string.
quote-closes : (inner : List ℕ) (closed : Bool) (t : CToken) → string_token inner closed ≡ Some t → closed ≡ true
quote-closes inner true t e = refl
quote-closes inner false t e = absurd (cc e)

quote-first : (bytes : List ℕ) → begins is_quote bytes ≡ true → (tail : List ℕ) × (bytes ≡ 34 ∷ tail)
quote-first [] h = absurd (cc h)
quote-first (byte ∷ tail) h = (tail, ap (λ x. x ∷ tail) (eqb-true byte 34 h))

string-decided : (bytes : List ℕ) → HasToken (34 ∷ bytes) ⊎ NoToken (34 ∷ bytes)
string-decided bytes = by_cut (cut-front is_string_byte bytes)
  where
    there : (c : Cut is_string_byte bytes) (t : CToken) → string_token c.front (begins is_quote c.back) ≡ Some t → HasToken (34 ∷ bytes)
    there c t e =
        let closed = quote-closes c.front (begins is_quote c.back) t e in
        let q = quote-first c.back closed in
        let made : string_token c.front true ≡ Some t = ap (string_token c.front) (sym closed) ∙ e in
        let is : 34 ∷ (c.front ++ 34 ∷ q.0) ≡ 34 ∷ bytes = ap (λ x. 34 ∷ x) (ap (λ x. c.front ++ x) (sym q.1) ∙ sym c.cut) in
        (t, q.0, subst (λ (x : List ℕ). Stands t x q.0) is (string-some c.front q.0 t c.run made))

    by_token : (c : Cut is_string_byte bytes) (o : Option CToken) → string_token c.front (begins is_quote c.back) ≡ o → HasToken (34 ∷ bytes) ⊎ NoToken (34 ∷ bytes)
    by_token c (Some t) e = inl (there c t e)
    by_token c None e = inr (λ t tail s. string-none c.front c.back c.run c.stops e t tail (subst (λ (x : List ℕ). Stands t (34 ∷ x) tail) c.cut s))

    by_cut : Cut is_string_byte bytes → HasToken (34 ∷ bytes) ⊎ NoToken (34 ∷ bytes)
    by_cut c = by_token c (string_token c.front (begins is_quote c.back)) refl

-- A symbol.
symbol-decided : (byte : ℕ) (bytes : List ℕ) → is_word_byte byte ≡ false → is_quote byte ≡ false → HasToken (byte ∷ bytes) ⊎ NoToken (byte ∷ bytes)
symbol-decided byte bytes w q = by_token (symbol_token byte bytes) refl
  where
    by_token : (o : Option CToken) → symbol_token byte bytes ≡ o → HasToken (byte ∷ bytes) ⊎ NoToken (byte ∷ bytes)
    by_token (Some t) e = let s = symbol-some byte bytes t e in inl (t, s.0, s.1)
    by_token None e = inr (symbol-none byte bytes w q e)

-- All bytes.
pub token-or-none : (byte : ℕ) (bytes : List ℕ) → HasToken (byte ∷ bytes) ⊎ NoToken (byte ∷ bytes)
token-or-none byte bytes = by_tests (is_word_byte byte) (is_quote byte) refl refl
  where
    by_tests : (a b : Bool) → is_word_byte byte ≡ a → is_quote byte ≡ b → HasToken (byte ∷ bytes) ⊎ NoToken (byte ∷ bytes)
    by_tests true b w q = run-decided (byte ∷ bytes) w
    by_tests false true w q = subst (λ (x : ℕ). HasToken (x ∷ bytes) ⊎ NoToken (x ∷ bytes)) (sym (eqb-true byte 34 q)) (string-decided bytes)
    by_tests false false w q = symbol-decided byte bytes w q
