-- Writing the parts of a list one after the other.
use Rattle.std.proofs.Common.{◌≡◌, ℕ, ◌+◌, ◌<◌, ◌++◌, List, [], ◌∷◌, length, drop, refl, sym, ◌∙◌, ap, subst, append_assoc, add-one, get_or, drop-cons}

pub append_nil : (xs : List ℕ) → xs ++ [] ≡ xs
append_nil [] = refl
append_nil (x ∷ xs) = ap (λ ys. x ∷ ys) (append_nil xs)

-- What is written, by `text`, of the first `i` parts; the text of the others is left.
pub record Progress {S A : Type 0} (Writes : S → S → List ℕ → Type 0) (text : List A → List ℕ) (parts : List A) (start now : S) (i : ℕ) : Type 0 where
  pub front : List ℕ
  pub wrote : Writes start now front
  pub rest : text parts ≡ front ++ text (drop i parts)

pub begins : {S A : Type 0} (Writes : S → S → List ℕ → Type 0) (text : List A → List ℕ) (parts : List A) (start : S) → Writes start start [] → Progress Writes text parts start start 0
begins Writes text parts start nothing = record { front = []; wrote = nothing; rest = refl }

pub goes_on : {S A : Type 0} (Writes : S → S → List ℕ → Type 0) (text : List A → List ℕ) (parts : List A) (start now next : S) (i : ℕ) (one : List ℕ) → ((x y : List ℕ) → Writes start now x → Writes now next y → Writes start next (x ++ y)) → Progress Writes text parts start now i → text (drop i parts) ≡ one ++ text (drop (i + 1) parts) → Writes now next one → Progress Writes text parts start next (i + 1)
goes_on Writes text parts start now next i one joined so_far part writes = record {
  front = so_far.front ++ one;
  wrote = joined so_far.front one so_far.wrote writes;
  rest = so_far.rest ∙ (ap (λ zs. so_far.front ++ zs) part ∙ sym (append_assoc so_far.front one (text (drop (i + 1) parts))));
}

pub done : {S A : Type 0} (Writes : S → S → List ℕ → Type 0) (text : List A → List ℕ) (parts : List A) (start now : S) (i : ℕ) → Progress Writes text parts start now i → text (drop i parts) ≡ [] → Writes start now (text parts)
done Writes text parts start now i so_far over =
    let all : text parts ≡ so_far.front = so_far.rest ∙ (ap (λ zs. so_far.front ++ zs) over ∙ append_nil so_far.front) in
    subst (λ (zs : List ℕ). Writes start now zs) (sym all) so_far.wrote

-- the part at a place, and the parts after it
pub unroll : {A : Type 0} (xs : List A) (i : ℕ) (d : A) → i < length xs → drop i xs ≡ get_or xs i d ∷ drop (i + 1) xs
unroll xs i d within = drop-cons xs i d within ∙ ap (λ n. get_or xs i d ∷ drop n xs) (sym (add-one i))

-- What is written of `whole`; `left` of it is to be written.
pub record Shifted {S : Type 0} (Writes : S → S → List ℕ → Type 0) (start now : S) (whole left : List ℕ) : Type 0 where
  pub front : List ℕ
  pub wrote : Writes start now front
  pub is : whole ≡ front ++ left

pub shift_on : {S : Type 0} (Writes : S → S → List ℕ → Type 0) (start now next : S) (whole left one after : List ℕ) → ((x y : List ℕ) → Writes start now x → Writes now next y → Writes start next (x ++ y)) → Shifted Writes start now whole left → left ≡ one ++ after → Writes now next one → Shifted Writes start next whole after
shift_on Writes start now next whole left one after joined so_far part writes = record {
  front = so_far.front ++ one;
  wrote = joined so_far.front one so_far.wrote writes;
  is = so_far.is ∙ (ap (λ zs. so_far.front ++ zs) part ∙ sym (append_assoc so_far.front one after));
}

pub shift_done : {S : Type 0} (Writes : S → S → List ℕ → Type 0) (start now next : S) (whole left : List ℕ) → ((x y : List ℕ) → Writes start now x → Writes now next y → Writes start next (x ++ y)) → Shifted Writes start now whole left → Writes now next left → Writes start next whole
shift_done Writes start now next whole left joined so_far writes = subst (λ (zs : List ℕ). Writes start next zs) (sym so_far.is) (joined so_far.front left so_far.wrote writes)

pub shift_over : {S : Type 0} (Writes : S → S → List ℕ → Type 0) (start now : S) (whole left : List ℕ) → Shifted Writes start now whole left → left ≡ [] → Writes start now whole
shift_over Writes start now whole left so_far over = subst (λ (zs : List ℕ). Writes start now zs) (sym (so_far.is ∙ (ap (λ zs. so_far.front ++ zs) over ∙ append_nil so_far.front))) so_far.wrote
