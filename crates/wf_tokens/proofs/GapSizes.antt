-- The gap before bytes is determined: its size is a function of the bytes.
use Rattle.std.proofs.Common.{◌≡◌, ℕ, ◌+◌, ◌-◌, ◌<◌, Bool, false, Option, Some, None, List, [], ◌∷◌, ◌++◌, length, take, drop, refl, suc, ap, subst, sym, ◌∙◌, arith, IsSomeAnd, length-drop}
use Rattle.std.proofs.lemmas.List.{take_all, take-append-drop, drop-drop}
use Rattle.std.proofs.Math.Seq.{take-append_seam, drop-append_seam}
use Rattle.wf_tokens.specs.Gaps.{gap_goes_on, IsGapFrom}

-- How many bytes the gap has.
abbrev pub size_then : Option Bool → (Bool → ℕ) → ℕ
size_then None more = 0
size_then (Some inside) more = suc (more inside)

abbrev pub gap_size : (due inside : Bool) → List ℕ → ℕ
gap_size due inside [] = 0
gap_size due inside (byte ∷ rest) = size_then (gap_goes_on due inside (byte ∷ rest)) (λ inside'. gap_size due inside' rest)

-- Where the gap goes on there is a byte.
pub goes_on-some : (due inside goes : Bool) (bytes : List ℕ) → gap_goes_on due inside bytes ≡ Some goes → 0 < length bytes
goes_on-some due inside goes [] h = absurd cc
goes_on-some due inside goes (byte ∷ rest) h = omega arith

pub gap_size-goes_on : (due inside goes : Bool) (bytes : List ℕ) → gap_goes_on due inside bytes ≡ Some goes → gap_size due inside bytes ≡ suc (gap_size due goes (drop 1 bytes))
gap_size-goes_on due inside goes [] h = absurd cc
gap_size-goes_on due inside goes (byte ∷ rest) h = ap (λ o. size_then o (λ inside'. gap_size due inside' rest)) h

pub gap_size-ends : (due inside : Bool) (bytes : List ℕ) → gap_goes_on due inside bytes ≡ None → gap_size due inside bytes ≡ 0
gap_size-ends due inside [] h = refl
gap_size-ends due inside (byte ∷ rest) h = ap (λ o. size_then o (λ inside'. gap_size due inside' rest)) h

-- The rest of bytes, as a range of them.
pub range_rest : (bytes : List ℕ) (n : ℕ) → take (length bytes - n) (drop n bytes) ≡ drop n bytes
range_rest bytes n = take_all (length bytes - n) (drop n bytes) (omega (arith, length-drop n bytes))

-- One byte more of the gap.
pub record Next (due inside goes : Bool) (bytes : List ℕ) (n : ℕ) : Type 0 where
  pub more : n < length bytes
  pub size : gap_size due inside (drop n bytes) ≡ suc (gap_size due goes (drop (n + 1) bytes))

pub next_byte : (due inside goes : Bool) (bytes : List ℕ) (n : ℕ) → Some goes ≡ gap_goes_on due inside (take (length bytes - n) (drop n bytes)) → Next due inside goes bytes n
next_byte due inside goes bytes n h =
    let e : gap_goes_on due inside (drop n bytes) ≡ Some goes = sym (h ∙ ap (gap_goes_on due inside) (range_rest bytes n)) in
    record {
      more = omega (arith, length-drop n bytes, goes_on-some due inside goes (drop n bytes) e);
      size = gap_size-goes_on due inside goes (drop n bytes) e ∙ ap (λ rest. suc (gap_size due goes rest)) (drop-drop 1 n bytes);
    }

-- So many bytes at the front are the gap.
pub gap_size-is : (due inside : Bool) (bytes : List ℕ) → IsGapFrom due inside (take (gap_size due inside bytes) bytes) (drop (gap_size due inside bytes) bytes)
gap_size-is due inside [] = refl
gap_size-is due inside (byte ∷ rest) = by_answer (λ goes. gap_size-is due goes rest) (gap_goes_on due inside (byte ∷ rest)) refl
  where
    by_answer : ((goes : Bool) → IsGapFrom due goes (take (gap_size due goes rest) rest) (drop (gap_size due goes rest) rest)) → (o : Option Bool) → gap_goes_on due inside (byte ∷ rest) ≡ o → IsGapFrom due inside (take (size_then o (λ inside'. gap_size due inside' rest)) (byte ∷ rest)) (drop (size_then o (λ inside'. gap_size due inside' rest)) (byte ∷ rest))
    by_answer behind None e = e
    by_answer behind (Some goes) e =
        let P : List ℕ → Type 0 = λ after. IsSomeAnd (gap_goes_on due inside (byte ∷ after)) (λ inside'. IsGapFrom due inside' (take (gap_size due goes rest) rest) (drop (gap_size due goes rest) rest)) in
        let Q : Option Bool → Type 0 = λ o. IsSomeAnd o (λ inside'. IsGapFrom due inside' (take (gap_size due goes rest) rest) (drop (gap_size due goes rest) rest)) in
        subst P (sym (take-append-drop (gap_size due goes rest) rest)) (subst Q (sym e) (behind goes))

-- The first bytes up to where the gap ends are the gap.
pub gap_ends : (due inside : Bool) (bytes : List ℕ) (n : ℕ) → n + gap_size due inside (drop n bytes) ≡ gap_size due false bytes → None ≡ gap_goes_on due inside (take (length bytes - n) (drop n bytes)) → IsGapFrom due false (take n bytes) (drop n bytes)
gap_ends due inside bytes n size h =
    let e : gap_size due inside (drop n bytes) ≡ 0 = gap_size-ends due inside (drop n bytes) (sym (h ∙ ap (gap_goes_on due inside) (range_rest bytes n))) in
    let whole : gap_size due false bytes ≡ n = omega (arith, size, e) in
    let P : ℕ → Type 0 = λ k. IsGapFrom due false (take k bytes) (drop k bytes) in
    subst P whole (gap_size-is due false bytes)

-- A gap has the size that its bytes tell.
pub gap_size-whole : (due inside : Bool) (gap behind : List ℕ) → IsGapFrom due inside gap behind → gap_size due inside (gap ++ behind) ≡ length gap
gap_size-whole due inside [] behind h = gap_size-ends due inside behind h
gap_size-whole due inside (byte ∷ gap) behind h = by_answer (λ goes. gap_size-whole due goes gap behind) (gap_goes_on due inside (byte ∷ (gap ++ behind))) refl h
  where
    by_answer : ((goes : Bool) → IsGapFrom due goes gap behind → gap_size due goes (gap ++ behind) ≡ length gap) → (o : Option Bool) → gap_goes_on due inside (byte ∷ (gap ++ behind)) ≡ o → IsSomeAnd o (λ inside'. IsGapFrom due inside' gap behind) → size_then o (λ inside'. gap_size due inside' (gap ++ behind)) ≡ suc (length gap)
    by_answer sized None e g = absurd g
    by_answer sized (Some goes) e g = ap suc (sized goes g)

-- Two cuts of the same bytes into a gap and what is after it are one.
pub record SameCut (gap behind other rest : List ℕ) : Type 0 where
  pub front : gap ≡ other
  pub back : behind ≡ rest

pub same_gap : (due : Bool) (gap behind other rest : List ℕ) → gap ++ behind ≡ other ++ rest → IsGapFrom due false gap behind → IsGapFrom due false other rest → SameCut gap behind other rest
same_gap due gap behind other rest cut g h =
    let sizes : length gap ≡ length other = sym (gap_size-whole due false gap behind g) ∙ ap (gap_size due false) cut ∙ gap_size-whole due false other rest h in
    record {
      front = sym (take-append_seam gap behind) ∙ ap (take (length gap)) cut ∙ ap (λ n. take n (other ++ rest)) sizes ∙ take-append_seam other rest;
      back = sym (drop-append_seam gap behind) ∙ ap (drop (length gap)) cut ∙ ap (λ n. drop n (other ++ rest)) sizes ∙ drop-append_seam other rest;
    }
