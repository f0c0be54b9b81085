-- What holds of all items of a list, and what an option is made of.
use Rattle.std.proofs.Common.{◌≡◌, ℕ, zero, suc, Bool, true, false, List, [], ◌∷◌, map, replicate, Option, Some, None, refl, subst}
use Rattle.std.specs.Prelude.{slice_get, option_map, option_and_then}
use Rattle.std.specs.List.{AllByRecursion}
use Rattle.wf_ast.specs.Value.{only_if}
use Rattle.wf_meaning.specs.World.{updated}

pub all_at : {X : Type 0} (P : X → Type 0) (xs : List X) (i : ℕ) (x : X) → AllByRecursion P xs → slice_get xs i ≡ Some x → P x
all_at P [] i x h e = absurd (cc (e))
all_at P (y ∷ ys) zero x h e = let k : y ≡ x = cc in subst P k h.0
all_at P (y ∷ ys) (suc i) x h e = all_at P ys i x h.1 e

pub all_updated : {X : Type 0} (P : X → Type 0) (f : X → X) (i : ℕ) (xs : List X) → ((x : X) → P x → P (f x)) → AllByRecursion P xs → AllByRecursion P (updated f i xs)
all_updated P f i [] k h = tt
all_updated P f zero (x ∷ xs) k h = (k x h.0, h.1)
all_updated P f (suc i) (x ∷ xs) k h = (h.0, all_updated P f i xs k h.1)

pub all_map : {X Y : Type 0} (P : X → Type 0) (Q : Y → Type 0) (f : X → Y) (xs : List X) → ((x : X) → P x → Q (f x)) → AllByRecursion P xs → AllByRecursion Q (map f xs)
all_map P Q f [] k h = tt
all_map P Q f (x ∷ xs) k h = (k x h.0, all_map P Q f xs k h.1)

pub all_weaker : {X : Type 0} (P Q : X → Type 0) (xs : List X) → ((x : X) → P x → Q x) → AllByRecursion P xs → AllByRecursion Q xs
all_weaker P Q [] k h = tt
all_weaker P Q (x ∷ xs) k h = (k x h.0, all_weaker P Q xs k h.1)

pub all_replicate : {X : Type 0} (P : X → Type 0) (x : X) (n : ℕ) → P x → AllByRecursion P (replicate n x)
all_replicate P x zero h = tt
all_replicate P x (suc n) h = (h, all_replicate P x n h)

-- An option that goes on has something to go on with.
pub record Made {X Y : Type 0} (f : X → Option Y) (o : Option X) (y : Y) : Type 0 where
  pub x : X
  pub from : o ≡ Some x
  pub gives : f x ≡ Some y

pub and_then_made : {X Y : Type 0} (f : X → Option Y) (o : Option X) (y : Y) → option_and_then f o ≡ Some y → Made f o y
and_then_made f None y h = absurd (cc (h))
and_then_made f (Some x) y h = record { x = x; from = refl; gives = h }

pub record Mapped {X Y : Type 0} (f : X → Y) (o : Option X) (y : Y) : Type 0 where
  pub x : X
  pub from : o ≡ Some x
  pub gives : f x ≡ y

pub map_made : {X Y : Type 0} (f : X → Y) (o : Option X) (y : Y) → option_map f o ≡ Some y → Mapped f o y
map_made f None y h = absurd (cc (h))
map_made f (Some x) y h = record { x = x; from = refl; gives = cc }

pub only_if_made : {X : Type 0} (test : Bool) (o : Option X) (x : X) → only_if test o ≡ Some x → o ≡ Some x
only_if_made true o x h = h
only_if_made false o x h = absurd (cc (h))

pub some_same : {X : Type 0} (x y : X) → Some x ≡ Some y → x ≡ y
some_same x y h = cc

-- Two options in a row.
pub record MadeOfTwo {X Y Z : Type 0} (f : X → Y → Option Z) (o : Option X) (z : Z) : Type 0 where
  pub x : X
  pub y : Y
  pub from : o ≡ Some x
  pub gives : f x y ≡ Some z

pub two_made : {X Y Z : Type 0} (f : X → Y → Option Z) (second : X → Option Y) (o : Option X) (z : Z)
    → option_and_then (λ x. option_and_then (f x) (second x)) o ≡ Some z → MadeOfTwo f o z
two_made f second None z h = absurd (cc (h))
two_made {X} {Y} {Z} f second (Some x) z h = by_second (second x) h
  where
    by_second : (q : Option Y) → option_and_then (f x) q ≡ Some z → MadeOfTwo f (Some x) z
    by_second None k = absurd (cc (k))
    by_second (Some y) k = record { x = x; y = y; from = refl; gives = k }
