-- Shapes are looked at one after the other.
use Rattle.std.proofs.Common.{◌≡◌, ◌+◌, ℕ, zero, suc, Bool, true, false, ◌&&◌, None, Some, List, [], ◌∷◌, drop, refl, sym, ◌∙◌, arith, ◌≤◌, length}
use Rattle.std.proofs.Math.Seq.{drop-nil}
use Rattle.std.proofs.lemmas.Option.{slice_get_within}
use Rattle.std.specs.List.{slice_get}
use Rattle.stacks.specs.Shapes.{fits_at, all_fit}

pub fits-next : {S V : Type 0} (is : S → V → Bool) (shapes : List S) (vs : List V) (i : ℕ) (s : S) → slice_get shapes i ≡ Some s
    → all_fit is (drop i shapes) (drop i vs) ≡ (fits_at is s (slice_get vs i) && all_fit is (drop (suc i) shapes) (drop (suc i) vs))
fits-next is [] vs i s e = absurd (cc e)
fits-next is (x ∷ shapes) [] zero s e = refl
fits-next is (x ∷ shapes) (v ∷ vs) zero s e = let same : x ≡ s = cc e in cc
fits-next {V = V} is (x ∷ shapes) [] (suc i) s e = let h = fits-next is shapes [] i s e in rw (drop-nil {A = V} i) at h
fits-next is (x ∷ shapes) (v ∷ vs) (suc i) s e = fits-next is shapes vs i s e

pub fits-end : {S V : Type 0} (is : S → V → Bool) (shapes : List S) (vs : List V) (i : ℕ) → slice_get shapes i ≡ None → all_fit is (drop i shapes) (drop i vs) ≡ true
fits-end is [] vs zero e = refl
fits-end is [] vs (suc i) e = refl
fits-end is (x ∷ shapes) vs zero e = absurd (cc e)
fits-end {V = V} is (x ∷ shapes) [] (suc i) e = let h = fits-end is shapes [] i e in rw (drop-nil {A = V} i) at h
fits-end is (x ∷ shapes) (v ∷ vs) (suc i) e = fits-end is shapes vs i e

pub fits-fails : {S V : Type 0} (is : S → V → Bool) (shapes : List S) (vs : List V) (i : ℕ) (s : S) (b : Bool) (whole : Bool) → slice_get shapes i ≡ Some s → b ≡ fits_at is s (slice_get vs i) → b ≡ false
    → all_fit is (drop i shapes) (drop i vs) ≡ whole → false ≡ whole
fits-fails is shapes vs i s b whole e f g h =
    let next = fits-next is shapes vs i s e in
    let here : fits_at is s (slice_get vs i) ≡ false = sym f ∙ g in
    sym (sym h ∙ next ∙ (rw here refl))

pub fits-goes_on : {S V : Type 0} (is : S → V → Bool) (shapes : List S) (vs : List V) (i : ℕ) (s : S) (b : Bool) (whole : Bool) → slice_get shapes i ≡ Some s → b ≡ fits_at is s (slice_get vs i) → b ≡ true
    → all_fit is (drop i shapes) (drop i vs) ≡ whole → all_fit is (drop (i + 1) shapes) (drop (i + 1) vs) ≡ whole
fits-goes_on is shapes vs i s b whole e f g h =
    let next = fits-next is shapes vs i s e in
    let here : fits_at is s (slice_get vs i) ≡ true = sym f ∙ g in
    let more : i + 1 ≡ suc i = omega arith in
    rw more (sym (rw here at next) ∙ h)

pub fits-within : {S : Type 0} (shapes : List S) (i : ℕ) (s : S) → slice_get shapes i ≡ Some s → i + 1 ≤ length shapes
fits-within shapes i s e = let h = slice_get_within shapes i s e in omega (arith, h)
