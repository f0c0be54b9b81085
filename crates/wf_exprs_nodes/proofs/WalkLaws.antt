-- Flags of names as the walks in which these were read last.
use Rattle.std.proofs.Common.{◌≡◌, ◌∙◌, ap, sym, subst, arith, refl, ℕ, zero, suc, ◌+◌, ◌-◌, ◌<◌, Bool, true, false, List, [], ◌∷◌, ◌++◌, length, nat_eq, replicate, take, inl, inr}
use Rattle.std.specs.List.{slice_set}
use Rattle.std.proofs.lemmas.Bool.{cases_Bool, eq-eqb, eqb-true}
use Rattle.std.proofs.lemmas.List.{map-set}
use Rattle.wf_exprs_nodes.specs.Marks.{NoneAfter, UpTo, flags_of}

-- A name that is read in the last walk.
pub set_flag : (last i : ℕ) (walks : List ℕ) → flags_of last (slice_set walks i last) ≡ slice_set (flags_of last walks) i true
set_flag last i walks = map-set (λ walk. nat_eq walk last) walks i last ∙ ap (slice_set (flags_of last walks) i) (eq-eqb last last refl)

none_after_set : (last i : ℕ) (walks : List ℕ) → NoneAfter last walks → NoneAfter last (slice_set walks i last)
none_after_set last i [] h = h
none_after_set last zero (walk ∷ walks) h = (omega arith, h.1)
none_after_set last (suc i) (walk ∷ walks) h = (h.0, none_after_set last i walks h.1)

pub up_to_set : (last i : ℕ) (walks : List ℕ) → UpTo last walks → UpTo last (slice_set walks i last)
up_to_set last i walks h = record { some = h.some; none_after = none_after_set last i walks h.none_after }

-- The next walk has read nothing yet.
differs : (walk last : ℕ) → walk < last → nat_eq walk last ≡ false
differs walk last less = elim (cases_Bool (nat_eq walk last)) [ inl e ↦ let same = eqb-true walk last e in absurd (omega (arith, same, less)) | inr e ↦ e ]

none_set : (last next : ℕ) (walks : List ℕ) → last < next → NoneAfter last walks → flags_of next walks ≡ replicate (length (flags_of next walks)) false
none_set last next [] less h = refl
none_set last next (walk ∷ walks) less h =
    let own = h.0 in
    ap (λ b. b ∷ flags_of next walks) (differs walk next (omega (arith, own, less))) ∙ ap (λ flags. false ∷ flags) (none_set last next walks less h.1)

none_after_next : (last next : ℕ) (walks : List ℕ) → last < next → NoneAfter last walks → NoneAfter next walks
none_after_next last next [] less h = h
none_after_next last next (walk ∷ walks) less h = let own = h.0 in (omega (arith, own, less), none_after_next last next walks less h.1)

pub none_set_next : (last next : ℕ) (walks : List ℕ) → next ≡ last + 1 → UpTo last walks → flags_of next walks ≡ replicate (length (flags_of next walks)) false
none_set_next last next walks e h = none_set last next walks (omega (arith, e)) h.none_after

pub up_to_next : (last next : ℕ) (walks : List ℕ) → next ≡ last + 1 → UpTo last walks → UpTo next walks
up_to_next last next walks e h = record { some = omega (arith, e); none_after = none_after_next last next walks (omega (arith, e)) h.none_after }

-- More flags, or fewer.
new_flags : (last k : ℕ) → 0 < last → flags_of last (replicate k 0) ≡ replicate k false
new_flags last zero some = refl
new_flags last (suc k) some = ap (λ b. b ∷ flags_of last (replicate k 0)) (differs 0 last some) ∙ ap (λ flags. false ∷ flags) (new_flags last k some)

none_after_new : (last k : ℕ) → NoneAfter last (replicate k 0)
none_after_new last zero = tt
none_after_new last (suc k) = (omega arith, none_after_new last k)

tail_of : {a : Bool} (b : Bool) {xs : List Bool} (ys : List Bool) → a ∷ xs ≡ b ∷ ys → (a ≡ b) × (xs ≡ ys)
tail_of b ys e = (cc e, cc e)

fit_flags : (last n : ℕ) (walks : List ℕ) → 0 < last → flags_of last walks ≡ replicate (length (flags_of last walks)) false → flags_of last (take n walks ++ replicate (n - length walks) 0) ≡ replicate n false
fit_flags last zero [] some none = refl
fit_flags last zero (walk ∷ walks) some none = let no_more : 0 - suc (length walks) ≡ 0 = omega arith in rw no_more refl
fit_flags last (suc n) [] some none = let all_new : suc n - 0 ≡ suc n = omega arith in rw all_new (new_flags last (suc n) some)
fit_flags last (suc n) (walk ∷ walks) some none =
    let parts = tail_of false (replicate (length (flags_of last walks)) false) none in
    let as_many : suc n - suc (length walks) ≡ n - length walks = omega arith in
    rw as_many (ap (λ b. b ∷ flags_of last (take n walks ++ replicate (n - length walks) 0)) parts.0 ∙ ap (λ flags. false ∷ flags) (fit_flags last n walks some parts.1))

none_after_fit : (last n : ℕ) (walks : List ℕ) → NoneAfter last walks → NoneAfter last (take n walks ++ replicate (n - length walks) 0)
none_after_fit last zero [] h = tt
none_after_fit last zero (walk ∷ walks) h = let no_more : 0 - suc (length walks) ≡ 0 = omega arith in rw no_more tt
none_after_fit last (suc n) [] h = let all_new : suc n - 0 ≡ suc n = omega arith in rw all_new (none_after_new last (suc n))
none_after_fit last (suc n) (walk ∷ walks) h = let as_many : suc n - suc (length walks) ≡ n - length walks = omega arith in rw as_many (h.0, none_after_fit last n walks h.1)

pub fitted : (last n : ℕ) (walks after : List ℕ) → UpTo last walks → flags_of last walks ≡ replicate (length (flags_of last walks)) false → after ≡ take n walks ++ replicate (n - length walks) 0 → flags_of last after ≡ replicate n false
fitted last n walks after h none e = ap (flags_of last) e ∙ fit_flags last n walks h.some none

pub up_to_fit : (last n : ℕ) (walks after : List ℕ) → UpTo last walks → after ≡ take n walks ++ replicate (n - length walks) 0 → UpTo last after
up_to_fit last n walks after h e = record { some = h.some; none_after = subst (NoneAfter last) (sym e) (none_after_fit last n walks h.none_after) }
