-- The greatest of the numbers that names have, and parts of lists.
use Rattle.std.proofs.Common.{◌≡◌, ◌⊎◌, inl, inr, ◌≤◌, ℕ, zero, suc, ◌+◌, ◌-◌, List, [], ◌∷◌, ◌++◌, length, max, refl, sym, ap, ◌∙◌, arith, take, drop, Some, None}
use Rattle.std.specs.Prelude.{slice_get, slice_range}
use Rattle.std.proofs.lemmas.List.{append_assoc, length-append, take_at, drop_at}
use Rattle.c_step_text.specs.Emitted.{StandAt}
use Rattle.c_step_laws.specs.Callees.{IsIn}

pub either : (a b : ℕ) → (max a b ≡ a) ⊎ (max a b ≡ b)
either zero b = inr (omega arith)
either (suc a) zero = inl (omega arith)
either (suc a) (suc b) = by (either a b)
  where
    by : (max a b ≡ a) ⊎ (max a b ≡ b) → (max (suc a) (suc b) ≡ suc a) ⊎ (max (suc a) (suc b) ≡ suc b)
    by (inl h) = inl (omega (arith, h))
    by (inr h) = inr (omega (arith, h))

-- The greatest number of a name in a list; 0 where there is none.
module _ (of : List ℕ → ℕ) where
  abbrev pub greatest : List (List ℕ) → ℕ
  greatest [] = 0
  greatest (x ∷ xs) = max (of x) (greatest xs)

  pub greatest_append : (xs ys : List (List ℕ)) → greatest (xs ++ ys) ≡ max (greatest xs) (greatest ys)
  greatest_append [] ys = omega arith
  greatest_append (x ∷ xs) ys = omega (arith, greatest_append xs ys)

  pub at_most_greatest : (name : List ℕ) (xs : List (List ℕ)) → IsIn name xs → of name ≤ greatest xs
  at_most_greatest name [] h = absurd h
  at_most_greatest name (x ∷ xs) (inl e) = omega (arith, ap of e)
  at_most_greatest name (x ∷ xs) (inr h) = omega (arith, at_most_greatest name xs h)

  -- It is that of a name, unless it is 0.
  pub data IsGreatest (xs : List (List ℕ)) : Type 0 where
    none : greatest xs ≡ 0 → IsGreatest xs
    one : (name : List ℕ) → IsIn name xs → greatest xs ≡ of name → IsGreatest xs

  pub is_greatest : (xs : List (List ℕ)) → IsGreatest xs
  is_greatest [] = none refl
  is_greatest (x ∷ xs) = by (is_greatest xs) (either (of x) (greatest xs))
    where
      by : IsGreatest xs → (max (of x) (greatest xs) ≡ of x) ⊎ (max (of x) (greatest xs) ≡ greatest xs) → IsGreatest (x ∷ xs)
      by more (inl e) = one x (inl refl) e
      by (none z) (inr e) = none (e ∙ z)
      by (one name h z) (inr e) = one name (inr h) (e ∙ z)

-- Parts of a list.
module _ {A : Type 0} (all : List A) where
  pub at_left : (n : ℕ) (xs ys : List A) → StandAt all n (xs ++ ys) → StandAt all n xs
  at_left n xs ys h = record { front = h.front; rest = ys ++ h.rest; is = h.is ∙ ap (λ (zs : List A). h.front ++ zs) (append_assoc xs ys h.rest); size = h.size }

  pub at_right : (n : ℕ) (xs ys : List A) → StandAt all n (xs ++ ys) → StandAt all (n + length xs) ys
  at_right n xs ys h = record {
    front = h.front ++ xs;
    rest = h.rest;
    is = h.is ∙ (ap (λ (zs : List A). h.front ++ zs) (append_assoc xs ys h.rest) ∙ sym (append_assoc h.front xs (ys ++ h.rest)));
    size = length-append h.front xs ∙ ap (λ (s : ℕ). s + length xs) h.size;
  }

  as_many : (n l : ℕ) → l ≡ n + l - n
  as_many n l = omega arith

  pub at_range : (n : ℕ) (xs : List A) → StandAt all n xs → slice_range all n (n + length xs) ≡ xs
  at_range n xs h =
      ap (λ (zs : List A). take (n + length xs - n) (drop n zs)) h.is
      ∙ (ap (λ (zs : List A). take (n + length xs - n) zs) (drop_at h.front (xs ++ h.rest) n h.size) ∙ take_at xs h.rest (n + length xs - n) (as_many n (length xs)))

pub get_at : {A : Type 0} (front : List A) (x : A) (rest : List A) → slice_get (front ++ x ∷ rest) (length front) ≡ Some x
get_at [] x rest = refl
get_at (y ∷ ys) x rest = get_at ys x rest

pub get_end : {A : Type 0} (xs : List A) → slice_get xs (length xs) ≡ None
get_end [] = refl
get_end (x ∷ xs) = get_end xs
