-- What a body's run keeps of the struct states: those before its own, what is active in its own, and that all after its own
-- are steady.
use Rattle.std.proofs.Common.{◌≡◌, ℕ, zero, suc, ◌<◌, ◌≤◌, Bool, true, false, List, [], ◌∷◌, length, Option, Some, ◌⊎◌, inl, inr, refl, sym, ap, ◌∙◌, subst, arith}
use Rattle.std.specs.Prelude.{slice_get, nat_lt}
use Rattle.std.proofs.lemmas.Bool.Decides.{nat_tests}
use Rattle.wf_base.specs.declared.marks.Mark.{Mark}
use Rattle.wf_ast.specs.TypedPackage.{PackageTree}
use Rattle.wf_ast.specs.WellTyped.{is_coroutine}
use Rattle.wf_meaning.specs.SourceState.{Remaining, Object}
use Rattle.wf_meaning.specs.World.{World, updated}
use Rattle.wf_meaning.proofs.Lists2.{some_same}
use Rattle.wf_meaning_laws.specs.Active.{IsCoroutine, ActiveRemains, IsFormed}
use Rattle.wf_meaning_laws.proofs.Cores.{Kin, Pairs, Same}

-- An item of a list of which one item was changed.
pub record Changed {X : Type 0} (f : X → X) (i : ℕ) (xs : List X) (j : ℕ) (y : X) : Type 0 where
  pub x : X
  pub there : slice_get xs j ≡ Some x
  pub is : ((j ≡ i) × (f x ≡ y)) ⊎ ((j ≡ i → ⊥) × (x ≡ y))

pub changed : {X : Type 0} (f : X → X) (i : ℕ) (xs : List X) (j : ℕ) (y : X) → slice_get (updated f i xs) j ≡ Some y → Changed f i xs j y
changed f i [] j y e = absurd (cc (e))
changed f zero (x ∷ xs) zero y e = record { x = x; there = refl; is = inl (refl, some_same (f x) y e) }
changed f zero (x ∷ xs) (suc j) y e = record { x = y; there = e; is = inr ((λ q. absurd (omega (arith, q))), refl) }
changed f (suc i) (x ∷ xs) zero y e = record { x = x; there = refl; is = inr ((λ q. absurd (omega (arith, q))), some_same x y e) }
changed {X} f (suc i) (x ∷ xs) (suc j) y e =
    let h = changed f i xs j y e in
    record { x = h.x; there = h.there; is = further h.x h.is }
  where
    further : (z : X) → ((j ≡ i) × (f z ≡ y)) ⊎ ((j ≡ i → ⊥) × (z ≡ y)) → ((suc j ≡ suc i) × (f z ≡ y)) ⊎ ((suc j ≡ suc i → ⊥) × (z ≡ y))
    further z (inl q) = inl (ap suc q.0, q.1)
    further z (inr q) = inr ((λ k. q.0 (omega (arith, k))), q.1)

pub length-updated : {X : Type 0} (f : X → X) (i : ℕ) (xs : List X) → length (updated f i xs) ≡ length xs
length-updated f i [] = refl
length-updated f zero (x ∷ xs) = refl
length-updated f (suc i) (x ∷ xs) = ap suc (length-updated f i xs)

pub there-too : {X Y : Type 0} (xs : List X) (ys : List Y) (k : ℕ) (y : Y) → length xs ≡ length ys → slice_get ys k ≡ Some y → (x : X) × (slice_get xs k ≡ Some x)
there-too xs [] k y e h = absurd (cc (h))
there-too [] (z ∷ ys) k y e h = absurd (cc (e))
there-too (x ∷ xs) (z ∷ ys) zero y e h = (x, refl)
there-too (x ∷ xs) (z ∷ ys) (suc k) y e h = there-too xs ys k y (omega (arith, e)) h

pub record Paired (xs : List Object) (j : ℕ) (o' : Object) : Type 0 where
  pub o : Object
  pub there : slice_get xs j ≡ Some o
  pub kin : Kin o o'

pub paired : (xs ys : List Object) (j : ℕ) (o' : Object) → Pairs Kin xs ys → slice_get ys j ≡ Some o' → Paired xs j o'
paired [] [] j o' h e = absurd (cc (e))
paired (x ∷ xs) (y ∷ ys) zero o' h e = record { o = x; there = refl; kin = subst (Kin x) (some_same y o' e) h.0 }
paired (x ∷ xs) (y ∷ ys) (suc j) o' h e = let it = paired xs ys j o' h.1 e in record { o = it.o; there = it.there; kin = it.kin }
paired [] (y ∷ ys) j o' h e = absurd h
paired (x ∷ xs) [] j o' h e = absurd h

pub less-or : {Q : Type 0} (a b : ℕ) → (a < b → Q) → (b ≤ a → Q) → Q
less-or {Q} a b f g = by (nat_lt a b) refl
  where
    by : (test : Bool) → nat_lt a b ≡ test → Q
    by true e = f (grind (arith, nat_tests, e))
    by false e = g (grind (arith, nat_tests, e))

module _ (p : PackageTree) where
  -- All struct states are formed, and those from this number on are steady.
  pub record Fine (from : ℕ) (xs : List Object) : Type 0 where
    pub formed : (j : ℕ) (o : Object) → slice_get xs j ≡ Some o → IsFormed p j o
    pub active : (j : ℕ) (o : Object) → from ≤ j → slice_get xs j ≡ Some o → ActiveRemains p o

  pub fine-later : (a b : ℕ) (xs : List Object) → a ≤ b → Fine a xs → Fine b xs
  fine-later a b xs h k = record { formed = k.formed; active = λ j o q e. k.active j o (omega (arith, h, q)) e }

  -- A struct state in which the same is active and remains as in one before.
  pub record From (xs : List Object) (j : ℕ) (o' : Object) : Type 0 where
    pub o : Object
    pub there : slice_get xs j ≡ Some o
    pub active : o'.active ≡ o.active
    pub remaining : o'.remaining ≡ o.remaining

  -- The struct state of the body itself: of coroutines remains what did, unless the method is one.
  pub record FromHere (mark : Mark) (xs : List Object) (i : ℕ) (o' : Object) : Type 0 where
    pub o : Object
    pub there : slice_get xs i ≡ Some o
    pub active : o'.active ≡ o.active
    pub coroutines : is_coroutine mark ≡ false → (k : ℕ) → IsCoroutine p k → slice_get o'.remaining k ≡ slice_get o.remaining k

  pub record Below (i : ℕ) (xs ys : List Object) : Type 0 where
    pub by : (j : ℕ) (o' : Object) → j < i → slice_get ys j ≡ Some o' → From xs j o'

  pub record Here (i : ℕ) (mark : Mark) (xs ys : List Object) : Type 0 where
    pub by : (o' : Object) → slice_get ys i ≡ Some o' → FromHere mark xs i o'

  pub record Moved (i : ℕ) (mark : Mark) (xs ys : List Object) : Type 0 where
    pub fine : Fine (suc i) ys
    pub below : Below i xs ys
    pub here : Here i mark xs ys

  abbrev pub Rel : ℕ → Mark → World → World → Type 0
  Rel i mark v w = Fine (suc i) v.objects → Moved i mark v.objects w.objects

  -- A call by the entry table.
  pub record EnteredTo (i : ℕ) (xs ys : List Object) : Type 0 where
    pub fine : Fine i ys
    pub below : Below i xs ys

  abbrev pub Entered : ℕ → World → World → Type 0
  Entered i v w = Fine i v.objects → EnteredTo i v.objects w.objects

  from-on : (us vs : List Object) (i j : ℕ) (o' : Object) → Below i us vs → j < i → From vs j o' → From us j o'
  from-on us vs i j o' h q k =
      let it = h.by j k.o q k.there in
      record { o = it.o; there = it.there; active = k.active ∙ it.active; remaining = k.remaining ∙ it.remaining }

  below-on : (i : ℕ) (us vs ws : List Object) → Below i us vs → Below i vs ws → Below i us ws
  below-on i us vs ws h k = record { by = λ j o' q e. from-on us vs i j o' h q (k.by j o' q e) }

  here-on : (i : ℕ) (mark : Mark) (us vs ws : List Object) → Here i mark us vs → Here i mark vs ws → Here i mark us ws
  here-on i mark us vs ws h k =
      record { by = λ o' e. let a = k.by o' e in let c = h.by a.o a.there in record { o = c.o; there = c.there; active = a.active ∙ c.active; coroutines = λ t n is. a.coroutines t n is ∙ c.coroutines t n is } }

  pub rel-self : (i : ℕ) (mark : Mark) (w : World) → Rel i mark w w
  rel-self i mark w h =
      record { fine = h; below = record { by = λ j o' q e. record { o = o'; there = e; active = refl; remaining = refl } }; here = record { by = λ o' e. record { o = o'; there = e; active = refl; coroutines = λ t n is. refl } } }

  pub rel-on : (i : ℕ) (mark : Mark) (u v w : World) → Rel i mark u v → Rel i mark v w → Rel i mark u w
  rel-on i mark u v w h k q =
      let a = h q in
      let c = k a.fine in
      record { fine = c.fine; below = below-on i u.objects v.objects w.objects a.below c.below; here = here-on i mark u.objects v.objects w.objects a.here c.here }

  -- Of kin.
  kin-formed : (j : ℕ) (o o' : Object) → Kin o o' → IsFormed p j o → IsFormed p j o'
  kin-formed j o o' k h =
      record { room = ap (λ (rs : List (Option Remaining)). length rs) k.remaining ∙ h.room; inside = λ x n e. h.inside x n (k.parts x n e); code = λ m left e. h.code m left (ap (λ rs. slice_get rs m) (sym k.remaining) ∙ e) }

  moved-active : (o o' : Object) → o'.active ≡ o.active → o'.remaining ≡ o.remaining → ActiveRemains p o → ActiveRemains p o'
  moved-active o o' a r h k e = let it = h k (sym a ∙ e) in (it.0, (it.1.0, ap (λ rs. slice_get rs k) r ∙ it.1.1))

  pub kin-active : (o o' : Object) → Kin o o' → ActiveRemains p o → ActiveRemains p o'
  kin-active o o' k h = moved-active o o' k.active k.remaining h

  pub kin-formed-at : (j : ℕ) (o o' : Object) → Kin o o' → IsFormed p j o → IsFormed p j o'
  kin-formed-at j o o' k h = kin-formed j o o' k h

  pub rel-same : (i : ℕ) (mark : Mark) (v w : World) → Same v w → Rel i mark v w
  rel-same i mark v w s h =
      record {
        fine = record {
          formed = λ j o' e. let it = paired v.objects w.objects j o' s e in kin-formed j it.o o' it.kin (h.formed j it.o it.there);
          active = λ j o' q e. let it = paired v.objects w.objects j o' s e in kin-active it.o o' it.kin (h.active j it.o q it.there);
        };
        below = record { by = λ j o' q e. let it = paired v.objects w.objects j o' s e in record { o = it.o; there = it.there; active = it.kin.active; remaining = it.kin.remaining } };
        here = record { by = λ o' e. let it = paired v.objects w.objects i o' s e in record { o = it.o; there = it.there; active = it.kin.active; coroutines = λ t n is. ap (λ rs. slice_get rs n) it.kin.remaining } };
      }

  -- A call of an own method, which may be a coroutine only where the caller is.
  pub rel-own : (i : ℕ) (mark inner : Mark) (v w : World) → (is_coroutine mark ≡ false → is_coroutine inner ≡ false) → Rel i inner v w → Rel i mark v w
  rel-own i mark inner v w t h q =
      let a = h q in
      record { fine = a.fine; below = a.below; here = record { by = λ o' e. let it = a.here.by o' e in record { o = it.o; there = it.there; active = it.active; coroutines = λ z n is. it.coroutines (t z) n is } } }

  -- A call through a field.
  pub rel-sub : (i inner : ℕ) (mark : Mark) (v w : World) → (Fine (suc i) v.objects → i < inner) → Entered inner v w → Rel i mark v w
  rel-sub i inner mark v w t h q =
      let after = t q in
      let a = h (fine-later (suc i) inner v.objects (omega (arith, after)) q) in
      record {
        fine = record {
          formed = a.fine.formed;
          active = λ j o' from e. less-or j inner
              (λ lower. let it = a.below.by j o' lower e in moved-active it.o o' it.active it.remaining (q.active j it.o from it.there))
              (λ upper. a.fine.active j o' upper e);
        };
        below = record { by = λ j o' lower e. a.below.by j o' (omega (arith, lower, after)) e };
        here = record { by = λ o' e. let it = a.below.by i o' after e in record { o = it.o; there = it.there; active = it.active; coroutines = λ z n is. ap (λ rs. slice_get rs n) it.remaining } };
      }

  -- The body's own struct state is changed.
  pub rel-changed : (i : ℕ) (mark : Mark) (f : Object → Object) (w : World) → ((o : Object) → IsFormed p i o → IsFormed p i (f o)) → ((o : Object) → (f o).active ≡ o.active)
      → ((o : Object) → is_coroutine mark ≡ false → (k : ℕ) → IsCoroutine p k → slice_get (f o).remaining k ≡ slice_get o.remaining k)
      → Fine (suc i) w.objects → Moved i mark w.objects (updated f i w.objects)
  rel-changed i mark f w a b c h =
      record {
        fine = record {
          formed = λ j o' e. formed j o' (changed f i w.objects j o' e);
          active = λ j o' from e. active j o' from (changed f i w.objects j o' e);
        };
        below = record { by = λ j o' lower e. below j o' lower (changed f i w.objects j o' e) };
        here = record { by = λ o' e. here o' (changed f i w.objects i o' e) };
      }
    where
      formed : (j : ℕ) (o' : Object) → Changed f i w.objects j o' → IsFormed p j o'
      formed j o' it = by it.is
        where
          by : ((j ≡ i) × (f it.x ≡ o')) ⊎ ((j ≡ i → ⊥) × (it.x ≡ o')) → IsFormed p j o'
          by (inl q) =
              let P : ℕ → Type 0 = λ n. IsFormed p n it.x in
              let there : IsFormed p i it.x = subst P q.0 (h.formed j it.x it.there) in
              let Q : ℕ → Type 0 = λ n. IsFormed p n (f it.x) in
              subst (IsFormed p j) q.1 (subst Q (sym q.0) (a it.x there))
          by (inr q) = subst (IsFormed p j) q.1 (h.formed j it.x it.there)

      active : (j : ℕ) (o' : Object) → suc i ≤ j → Changed f i w.objects j o' → ActiveRemains p o'
      active j o' from it = by it.is
        where
          by : ((j ≡ i) × (f it.x ≡ o')) ⊎ ((j ≡ i → ⊥) × (it.x ≡ o')) → ActiveRemains p o'
          by (inl q) = absurd (omega (arith, q.0, from))
          by (inr q) = subst (ActiveRemains p) q.1 (h.active j it.x from it.there)

      below : (j : ℕ) (o' : Object) → j < i → Changed f i w.objects j o' → From w.objects j o'
      below j o' lower it = by it.is
        where
          by : ((j ≡ i) × (f it.x ≡ o')) ⊎ ((j ≡ i → ⊥) × (it.x ≡ o')) → From w.objects j o'
          by (inl q) = absurd (omega (arith, q.0, lower))
          by (inr q) = record { o = o'; there = it.there ∙ ap Some q.1; active = refl; remaining = refl }

      here : (o' : Object) → Changed f i w.objects i o' → FromHere mark w.objects i o'
      here o' it = by it.is
        where
          by : ((i ≡ i) × (f it.x ≡ o')) ⊎ ((i ≡ i → ⊥) × (it.x ≡ o')) → FromHere mark w.objects i o'
          by (inl q) = record { o = it.x; there = it.there; active = ap (λ (o : Object). o.active) (sym q.1) ∙ b it.x; coroutines = λ t k is. ap (λ (o : Object). slice_get o.remaining k) (sym q.1) ∙ c it.x t k is }
          by (inr q) = absurd (q.0 refl)

  -- A body that came by the entry table ends, and its struct state is changed.
  pub entered-changed : (i : ℕ) (g : Object → Object) (xs ys : List Object) → Fine (suc i) ys → Below i xs ys
      → ((o : Object) → slice_get ys i ≡ Some o → IsFormed p i (g o) × ActiveRemains p (g o)) → EnteredTo i xs (updated g i ys)
  entered-changed i g xs ys h k a =
      record {
        fine = record { formed = λ j o' e. formed j o' (changed g i ys j o' e); active = λ j o' from e. active j o' from (changed g i ys j o' e) };
        below = record { by = λ j o' lower e. below j o' lower (changed g i ys j o' e) };
      }
    where
      at : (j : ℕ) (it : Object) → j ≡ i → slice_get ys j ≡ Some it → slice_get ys i ≡ Some it
      at j it q e = ap (slice_get ys) (sym q) ∙ e

      formed : (j : ℕ) (o' : Object) → Changed g i ys j o' → IsFormed p j o'
      formed j o' it = by it.is
        where
          by : ((j ≡ i) × (g it.x ≡ o')) ⊎ ((j ≡ i → ⊥) × (it.x ≡ o')) → IsFormed p j o'
          by (inl q) =
              let Q : ℕ → Type 0 = λ n. IsFormed p n (g it.x) in
              subst (IsFormed p j) q.1 (subst Q (sym q.0) (a it.x (at j it.x q.0 it.there)).0)
          by (inr q) = subst (IsFormed p j) q.1 (h.formed j it.x it.there)

      active : (j : ℕ) (o' : Object) → i ≤ j → Changed g i ys j o' → ActiveRemains p o'
      active j o' from it = by it.is
        where
          by : ((j ≡ i) × (g it.x ≡ o')) ⊎ ((j ≡ i → ⊥) × (it.x ≡ o')) → ActiveRemains p o'
          by (inl q) = subst (ActiveRemains p) q.1 (a it.x (at j it.x q.0 it.there)).1
          by (inr q) = less-or i j (λ later. subst (ActiveRemains p) q.1 (h.active j it.x (omega (arith, later)) it.there)) (λ same. absurd (q.0 (omega (arith, same, from))))

      below : (j : ℕ) (o' : Object) → j < i → Changed g i ys j o' → From xs j o'
      below j o' lower it = by it.is
        where
          by : ((j ≡ i) × (g it.x ≡ o')) ⊎ ((j ≡ i → ⊥) × (it.x ≡ o')) → From xs j o'
          by (inl q) = absurd (omega (arith, q.0, lower))
          by (inr q) = k.by j o' lower (it.there ∙ ap Some q.1)
