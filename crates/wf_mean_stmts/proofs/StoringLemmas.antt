-- A value goes to a place in a list.
use Rattle.std.proofs.Common.{◌≡◌, ℕ, zero, suc, ◌<◌, ◌≤◌, Bool, true, false, nat_lt, MatchBool, List, [], ◌∷◌, length, map, set, get_or, Some, refl, sym, ap, ◌∙◌, arith}
use Rattle.std.specs.Prelude.{slice_get}
use Rattle.std.proofs.lemmas.List.{set_past}
use Rattle.std.proofs.lemmas.Bool.Decides.{nat_tests}
use Rattle.wf_ast.specs.TypedPackage.{PackageTree}
use Rattle.wf_meaning.specs.SourceState.{Held}
use Rattle.wf_meaning.specs.World.{updated}
use Rattle.wf_mean_exprs.specs.declared.objects.ObjectState.{ObjectState}
use Rattle.wf_mean_exprs.specs.MachineState.{object_seen}
use Rattle.wf_mean_stmts.specs.Stages.{ChangesField, with_field_changed, kept_lengths}

-- Seen through `f`, the item that was set is the changed one.
pub set_updated : {X Y : Type 0} (f : X → Y) (change : Y → Y) (xs : List X) (i : ℕ) (v d : X) → i < length xs → f v ≡ change (f (get_or xs i d)) → map f (set xs i v) ≡ updated change i (map f xs)
set_updated f change [] i v d h e = refl
set_updated f change (x ∷ xs) zero v d h e = ap (λ y. y ∷ map f xs) e
set_updated f change (x ∷ xs) (suc i) v d h e = ap (λ ys. f x ∷ ys) (set_updated f change xs i v d (omega (arith, h)) e)

-- There is no such item.
pub past_updated : {X Y : Type 0} (f : X → Y) (change : Y → Y) (xs : List X) (i : ℕ) → length xs ≤ i → map f xs ≡ updated change i (map f xs)
past_updated f change [] i h = refl
past_updated f change (x ∷ xs) zero h = absurd (omega (arith, h))
past_updated f change (x ∷ xs) (suc i) h = ap (λ ys. f x ∷ ys) (past_updated f change xs i (omega (arith, h)))

-- What isn't seen to change stays.
pub set_same : {X Y : Type 0} (f : X → Y) (xs : List X) (i : ℕ) (v d : X) → i < length xs → f v ≡ f (get_or xs i d) → map f (set xs i v) ≡ map f xs
set_same f [] i v d h e = refl
set_same f (x ∷ xs) zero v d h e = ap (λ y. y ∷ map f xs) e
set_same f (x ∷ xs) (suc i) v d h e = ap (λ ys. f x ∷ ys) (set_same f xs i v d (omega (arith, h)) e)

-- One item is set.
pub set_to : {X Y : Type 0} (f : X → Y) (xs : List X) (i : ℕ) (v : X) → map f (set xs i v) ≡ updated (λ _. f v) i (map f xs)
set_to f [] i v = refl
set_to f (x ∷ xs) zero v = refl
set_to f (x ∷ xs) (suc i) v = ap (λ ys. f x ∷ ys) (set_to f xs i v)

-- One item is changed, without being seen through anything.
pub set_change : {X : Type 0} (change : X → X) (xs : List X) (i : ℕ) (v x : X) → slice_get xs i ≡ Some x → v ≡ change x → set xs i v ≡ updated change i xs
set_change change [] i v x h e = refl
set_change change (y ∷ ys) zero v x h e = let q : y ≡ x = cc in ap (λ z. z ∷ ys) (e ∙ ap change (sym q))
set_change change (y ∷ ys) (suc i) v x h e = ap (λ zs. y ∷ zs) (set_change change ys i v x h e)

pub past_change : {X : Type 0} (change : X → X) (xs : List X) (i : ℕ) → length xs ≤ i → xs ≡ updated change i xs
past_change change [] i h = refl
past_change change (x ∷ xs) zero h = absurd (omega (arith, h))
past_change change (x ∷ xs) (suc i) h = ap (λ ys. x ∷ ys) (past_change change xs i (omega (arith, h)))

-- A field of one struct state is changed.
module _ (n : ℕ) (change : Held → Held) (xs : List ObjectState) (i : ℕ) (d new : ObjectState) (within : i < length xs) (changes : ChangesField n change (get_or xs i d) new) where
  object_changed : (p : PackageTree) → object_seen p new ≡ with_field_changed n change (object_seen p (get_or xs i d))
  object_changed p = rw (changes.life, changes.fields, changes.active, changes.kept) refl

  pub objects_changed : (p : PackageTree) → map (object_seen p) (set xs i new) ≡ updated (with_field_changed n change) i (map (object_seen p) xs)
  objects_changed p = set_updated (object_seen p) (with_field_changed n change) xs i new d within (object_changed p)

  pub kept_stays : map kept_lengths (set xs i new) ≡ map kept_lengths xs
  kept_stays = set_same kept_lengths xs i new d within (rw changes.kept refl)

-- A byte is set, where there is one with the number.
pub byte_set : (r : Bool) (old new : List ℕ) (k b : ℕ) → r ≡ nat_lt k (length old) → MatchBool r (new ≡ set old k b) (new ≡ old) → new ≡ set old k b
byte_set true old new k b w m = m
byte_set false old new k b w m = m ∙ sym (set_past old k b (past k (length old) w))
  where
    past : (k n : ℕ) → false ≡ nat_lt k n → n ≤ k
    past k n h = grind (arith, nat_tests, h)

-- The item that stands there is set.
pub set_itself : {X : Type 0} (xs : List X) (i : ℕ) (x : X) → slice_get xs i ≡ Some x → set xs i x ≡ xs
set_itself [] i x h = refl
set_itself (y ∷ ys) zero x h = let q : y ≡ x = cc in ap (λ z. z ∷ ys) (sym q)
set_itself (y ∷ ys) (suc i) x h = ap (λ zs. y ∷ zs) (set_itself ys i x h)

pub set_if : {X : Type 0} (change : X → X) (r : Bool) (xs : List X) (i : ℕ) (new old : X) → slice_get xs i ≡ Some old → MatchBool r (new ≡ change old) (new ≡ old)
    → MatchBool r (set xs i new ≡ updated change i xs) (set xs i new ≡ xs)
set_if change true xs i new old h m = set_change change xs i new old h m
set_if change false xs i new old h m = ap (λ x. set xs i x) m ∙ set_itself xs i old h

pub item_there : {X : Type 0} (xs : List X) (i : ℕ) → i < length xs → (x : X) × (slice_get xs i ≡ Some x)
item_there [] i h = absurd (omega (arith, h))
item_there (x ∷ xs) zero h = (x, refl)
item_there (x ∷ xs) (suc i) h = item_there xs i (omega (arith, h))
