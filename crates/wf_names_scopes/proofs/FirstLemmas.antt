-- Lists of which the first of a name is meant, with one more item at their end.
use Rattle.std.proofs.Common.{◌≡◌, ℕ, suc, ◌+◌, Bool, true, false, cond, ◌||◌, List, [], ◌∷◌, ◌++◌, map, length, Option, Some, None, is_some, option_map, refl, ap, ◌∙◌, arith}
use Rattle.std.specs.Option.{option_or}
use Rattle.std.specs.List.{find, position_from, list_any}

pub or_none : {X : Type 0} (o : Option X) → o ≡ option_or o None
or_none (Some y) = refl
or_none None = refl

pub mapped : {X Y : Type 0} (f : X → Y) (o : Option X) (b : Bool) (x : X) → option_map f (option_or o (cond b (Some x) None)) ≡ option_or (option_map f o) (cond b (Some (f x)) None)
mapped f (Some y) b x = refl
mapped f None true x = refl
mapped f None false x = refl

module _ {X : Type 0} (p : X → Bool) where
  pub position_pushed : (i : ℕ) (xs : List X) (x : X) → position_from p i (xs ++ x ∷ []) ≡ option_or (position_from p i xs) (cond (p x) (Some (i + length xs)) None)
  position_pushed i [] x = let e : i ≡ i + 0 = omega arith in ap (λ n. cond (p x) (Some n) None) e
  position_pushed i (y ∷ ys) x = by (p y) (position_pushed (i + 1) ys x)
    where
      by : (b : Bool) → position_from p (i + 1) (ys ++ x ∷ []) ≡ option_or (position_from p (i + 1) ys) (cond (p x) (Some ((i + 1) + length ys)) None)
          → cond b (Some i) (position_from p (i + 1) (ys ++ x ∷ [])) ≡ option_or (cond b (Some i) (position_from p (i + 1) ys)) (cond (p x) (Some (i + length (y ∷ ys))) None)
      by true r = refl
      by false r =
          let e : (i + 1) + length ys ≡ i + length (y ∷ ys) = omega arith in
          r ∙ ap (λ n. option_or (position_from p (i + 1) ys) (cond (p x) (Some n) None)) e

  pub position_any : (i : ℕ) (xs : List X) → is_some (position_from p i xs) ≡ list_any p xs
  position_any i [] = refl
  position_any i (x ∷ xs) = by (p x) (position_any (i + 1) xs)
    where
      by : (b : Bool) → is_some (position_from p (i + 1) xs) ≡ list_any p xs → is_some (cond b (Some i) (position_from p (i + 1) xs)) ≡ (b || list_any p xs)
      by true r = refl
      by false r = r

  pub find_any : (xs : List X) → is_some (find p xs) ≡ list_any p xs
  find_any [] = refl
  find_any (x ∷ xs) = by (p x) (find_any xs)
    where
      by : (b : Bool) → is_some (find p xs) ≡ list_any p xs → is_some (cond b (Some x) (find p xs)) ≡ (b || list_any p xs)
      by true r = refl
      by false r = r

  pub find_pushed : (xs : List X) (x : X) → find p (xs ++ x ∷ []) ≡ option_or (find p xs) (cond (p x) (Some x) None)
  find_pushed [] x = refl
  find_pushed (y ∷ ys) x = by (p y) (find_pushed ys x)
    where
      by : (b : Bool) → find p (ys ++ x ∷ []) ≡ option_or (find p ys) (cond (p x) (Some x) None)
          → cond b (Some y) (find p (ys ++ x ∷ [])) ≡ option_or (cond b (Some y) (find p ys)) (cond (p x) (Some x) None)
      by true r = refl
      by false r = r

  pub any_pushed : (xs : List X) (x : X) → list_any p (xs ++ x ∷ []) ≡ (list_any p xs || p x)
  any_pushed [] x = or_false (p x)
    where
      or_false : (b : Bool) → (b || false) ≡ b
      or_false true = refl
      or_false false = refl
  any_pushed (y ∷ ys) x = by (p y) (any_pushed ys x)
    where
      by : (b : Bool) → list_any p (ys ++ x ∷ []) ≡ (list_any p ys || p x) → (b || list_any p (ys ++ x ∷ [])) ≡ ((b || list_any p ys) || p x)
      by true r = refl
      by false r = r

pub map_pushed : {X Y : Type 0} (f : X → Y) (xs : List X) (x : X) → map f (xs ++ x ∷ []) ≡ map f xs ++ f x ∷ []
map_pushed f [] x = refl
map_pushed f (y ∷ ys) x = ap (λ r. f y ∷ r) (map_pushed f ys x)

pub map_length : {X Y : Type 0} (f : X → Y) (xs : List X) → length (map f xs) ≡ length xs
map_length f [] = refl
map_length f (x ∷ xs) = ap suc (map_length f xs)
