-- Texts that are cut from one list of bytes.
use Rattle.std.proofs.Common.{◌≡◌, ◌∙◌, ℕ, ◌+◌, ◌-◌, ◌≤◌, Result, Ok, Err, List, [], ◌∷◌, ◌++◌, length, map, take, drop, refl, sym, ap, arith}
use Rattle.std.specs.List.{All, between}
use Rattle.std.specs.Result.{OnErr}
use Rattle.std.proofs.lemmas.List.{take-append-le, take_all, drop_at, map-append}
use Rattle.std.proofs.lemmas.List.Elements.{All-head, All-tail}
use Rattle.std.proofs.lemmas.Slice.{between_is}

cut_kept : (bytes more : List ℕ) (start end : ℕ) → end ≤ length bytes → between start end (bytes ++ more) ≡ between start end bytes
cut_kept bytes more start end h = between_is (bytes ++ more) start end ∙ ap (drop start) (take-append-le end bytes more h) ∙ sym (between_is bytes start end)

cut_last : (bytes text : List ℕ) → between (length bytes) (length bytes + length text) (bytes ++ text) ≡ text
cut_last bytes text = ap (take (length bytes + length text - length bytes)) (drop_at bytes text (length bytes) refl) ∙ take_all (length bytes + length text - length bytes) text (omega arith)

module _ {S : Type 0} (start end : S → ℕ) where
  -- The texts of some spans stay when bytes are added at the end.
  pub texts_kept : (bytes more : List ℕ) (spans : List S) → All (λ span. (start span ≤ end span) × (end span ≤ length bytes)) spans
      → map (λ span. between (start span) (end span) (bytes ++ more)) spans ≡ map (λ span. between (start span) (end span) bytes) spans
  texts_kept bytes more [] h = refl
  texts_kept bytes more (span ∷ spans) h =
      let first = All-head (λ span. (start span ≤ end span) × (end span ≤ length bytes)) span spans h in
      let rest = texts_kept bytes more spans (All-tail (λ span. (start span ≤ end span) × (end span ≤ length bytes)) span spans h) in
      ap (λ text. text ∷ map (λ span. between (start span) (end span) (bytes ++ more)) spans) (cut_kept bytes more (start span) (end span) first.1)
      ∙ ap (λ texts. between (start span) (end span) bytes ∷ texts) rest

  -- One span more, at the end.
  pub texts_joined : (bytes text : List ℕ) (spans : List S) (span : S) → All (λ span. (start span ≤ end span) × (end span ≤ length bytes)) spans
      → start span ≡ length bytes → end span ≡ length bytes + length text
      → map (λ span. between (start span) (end span) (bytes ++ text)) (spans ++ span ∷ []) ≡ map (λ span. between (start span) (end span) bytes) spans ++ text ∷ []
  texts_joined bytes text spans span h s e =
      map-append (λ span. between (start span) (end span) (bytes ++ text)) spans (span ∷ [])
      ∙ ap (λ texts. texts ++ between (start span) (end span) (bytes ++ text) ∷ []) (texts_kept bytes text spans h)
      ∙ ap (λ cut. map (λ span. between (start span) (end span) bytes) spans ++ cut ∷ []) (ap (λ from. between from (end span) (bytes ++ text)) s ∙ ap (λ to. between (length bytes) to (bytes ++ text)) e ∙ cut_last bytes text)

-- A fact that holds whatever the answer is.
pub even_on_err : {T E P : Type 0} (r : Result T E) → P → OnErr r P
even_on_err (Ok x) p = tt
even_on_err (Err fault) p = p
