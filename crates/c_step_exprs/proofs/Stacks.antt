-- A stack is a list with its top last.
use Rattle.std.proofs.Common.{◌≡◌, ℕ, ◌-◌, List, [], ◌∷◌, ◌++◌, length, refl, sym, ap, ◌∙◌, arith, take, drop, length-drop}
use Rattle.std.specs.Prelude.{reverse}
use Rattle.std.proofs.lemmas.List.{reverse-append, length-reverse, take-append-drop}

pub put_on_top : {A : Type 0} (xs : List A) (x : A) → reverse (xs ++ x ∷ []) ≡ x ∷ reverse xs
put_on_top xs x = reverse-append xs (x ∷ [])

pub stack_length : {A : Type 0} (xs : List A) → length (reverse xs) ≡ length xs
stack_length xs = length-reverse xs

-- The lowest values.
past_front : {A : Type 0} (front back : List A) → drop (length front) (front ++ back) ≡ back
past_front [] back = refl
past_front (x ∷ front) back = past_front front back

pub lowest : {A : Type 0} (xs : List A) (n : ℕ) → reverse (take n xs) ≡ drop (length (reverse xs) - n) (reverse xs)
lowest xs n =
    let e : reverse xs ≡ reverse (drop n xs) ++ reverse (take n xs) = ap reverse (sym (take-append-drop n xs)) ∙ reverse-append (take n xs) (drop n xs) in
    let k : length (reverse xs) - n ≡ length (reverse (drop n xs)) = omega (arith, length-reverse xs, length-reverse (drop n xs), length-drop n xs) in
    sym (ap (λ (i : ℕ). drop i (reverse xs)) k ∙ (ap (drop (length (reverse (drop n xs)))) e ∙ past_front (reverse (drop n xs)) (reverse (take n xs))))
