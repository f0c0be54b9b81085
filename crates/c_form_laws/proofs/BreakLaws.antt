-- The number that is told is that of the first item that breaks a rule, and none is told where the unit form is kept.
use Rattle.std.proofs.Common.{◌≡◌, inl, inr, ◌<◌, ◌+◌, ℕ, zero, suc, Bool, true, false, List, [], ◌∷◌, ◌++◌, map, take, length, Option, Some, None, refl, sym, ap, ◌∙◌, subst, arith, append_assoc}
use Rattle.std.specs.Prelude.{slice_get, if◌then◌else◌}
use Rattle.std.specs.Bool.{Decides}
use Rattle.std.specs.List.{list_all}
use Rattle.std.proofs.lemmas.Bool.Decides.{Decides-like}
use Rattle.std.proofs.lemmas.Option.{slice_get_within}
use Rattle.wf_text.specs.Surface.{Surface}
use Rattle.c_text.specs.CTree.{ItemTree}
use Rattle.c_meaning.specs.UnitForm.{is_among, item_name, Signature, signatures, formed_item, is_complete, break_from, first_break}
use Rattle.c_form_stmts.proofs.FlatLaws.{Order, below, same, above, order}
use Rattle.c_form_laws.specs.Places.{At, Has, Each}
use Rattle.c_form_laws.specs.UnitRules.{IsFunction, KeepsItem, KeepsItemAt, IsWhole, KeepsUnitForm, BreaksAt}
use Rattle.c_form_laws.specs.FormLaw.{UnitFormIsKept, BreaksAreTold}
use Rattle.c_form_laws.proofs.Places.{each-decides, among-decides}
use Rattle.c_form_laws.proofs.UnitLaws.{append_none, item-decides}

-- Lists.
seam_at : {A : Type 0} (xs : List A) (x : A) (ys : List A) → slice_get (xs ++ x ∷ ys) (length xs) ≡ Some x
seam_at [] x ys = refl
seam_at (z ∷ xs) x ys = seam_at xs x ys

seam_take : {A : Type 0} (xs ys : List A) → take (length xs) (xs ++ ys) ≡ xs
seam_take [] ys = refl
seam_take (x ∷ xs) ys = ap (λ zs. x ∷ zs) (seam_take xs ys)

seam_length : {A : Type 0} (xs : List A) (x : A) → length (xs ++ x ∷ []) ≡ length xs + 1
seam_length [] x = refl
seam_length (z ∷ xs) x = let e = seam_length xs x in omega (arith, e)

name_at : (items : List ItemTree) (i : ℕ) (name : List ℕ) → At (map item_name items) i name → (item : ItemTree) × At items i item × (item_name item ≡ name)
name_at [] i name e = absurd (cc e)
name_at (x ∷ items) zero name e = (x, refl, cc e)
name_at (x ∷ items) (suc i) name e = name_at items i name e

at_name : (items : List ItemTree) (i : ℕ) (item : ItemTree) → At items i item → At (map item_name items) i (item_name item)
at_name [] i item e = absurd (cc e)
at_name (x ∷ items) zero item e = let it : x ≡ item = cc e in ap (λ (y : ItemTree). Some (item_name y)) it
at_name (x ∷ items) (suc i) item e = at_name items i item e

module _ (p : Surface) where
  -- A text whose items all keep their rules is complete exactly where it is whole.
  there-decides : (items : List ItemTree) → Decides (list_all (λ s. is_among (map item_name items) s.name) (signatures p)) (Each (λ i s. Has (map item_name items) s.name) (signatures p))
  there-decides items = each-decides (λ s. is_among (map item_name items) s.name) (λ i s. Has (map item_name items) s.name) (λ i s. among-decides (map item_name items) s.name) (signatures p)

  function_there : (items : List ItemTree) → Each (KeepsItemAt p items) items → (s : Signature) → Has (signatures p) s → Has (map item_name items) s.name → (item : ItemTree) × Has items item × IsFunction s item
  function_there items each s asked named =
      let it = name_at items named.0 s.name named.1 in
      (it.0, (named.0, it.1), (each named.0 it.0 it.1).meets.functions s asked it.2)

  name_there : (items : List ItemTree) (s : Signature) → (item : ItemTree) × Has items item × IsFunction s item → Has (map item_name items) s.name
  name_there items s h =
      let called : item_name h.0 ≡ s.name = ap item_name h.2.2 in
      (h.1.0, at_name items h.1.0 h.0 h.1.1 ∙ ap Some called)

  complete-decides : (items : List ItemTree) → Each (KeepsItemAt p items) items → Decides (is_complete p items) (IsWhole p items)
  complete-decides [] each = (λ h. absurd (cc h), λ h. absurd (let e = h.begins.1 in cc e))
  complete-decides (x ∷ items) each =
      Decides-like (list_all (λ s. is_among (map item_name (x ∷ items)) s.name) (signatures p))
      (λ h. record { begins = (x, refl); functions = (λ s asked. function_there (x ∷ items) each s asked (h asked.0 s asked.1)) })
      (λ h i s asked. name_there (x ∷ items) s (h.functions s (i, asked)))
      (there-decides (x ∷ items))

  module _ (items : List ItemTree) where
    -- The items below this number keep their rules.
    abbrev KeptBelow : ℕ → Type 0
    KeptBelow n = (i : ℕ) (item : ItemTree) → i < n → At items i item → KeepsItemAt p items i item

    abbrev Told : Option ℕ → Type 0
    Told None = KeepsUnitForm p items
    Told (Some n) = BreaksAt p items n

    kept_more : (n : ℕ) (item : ItemTree) → At items n item → KeepsItemAt p items n item → KeptBelow n → KeptBelow (n + 1)
    kept_more n item there kept so_far i other l e = by (order i n)
      where
        by : Order i n → KeepsItemAt p items i other
        by (below _ _ h) = so_far i other h e
        by (same _ _ h) =
            let it : item ≡ other = (let f : slice_get items n ≡ Some other = ap (slice_get items) (sym h) ∙ e in cc (f, there)) in
            subst (λ (k : ℕ). KeepsItemAt p items k other) (sym h) (subst (λ (y : ItemTree). KeepsItemAt p items n y) it kept)
        by (above _ _ h) = absurd (omega (arith, h, l))

    at_end : (n : ℕ) → n ≡ length items → KeptBelow n → Told (if is_complete p items then None else Some n)
    at_end n counts kept = by (is_complete p items) refl
      where
        each : Each (KeepsItemAt p items) items
        each i item e = kept i item (let l : i < length items = slice_get_within items i item e in omega (arith, l, counts)) e

        by : (b : Bool) → is_complete p items ≡ b → Told (if b then None else Some n)
        by true h = record { each = each; whole = (complete-decides items each).0 h }
        by false h = inr (record { counts = counts; each = each; lacks = (λ whole. let t : is_complete p items ≡ true = (complete-decides items each).1 whole in cc (h, t)) })

    told : (before rest : List ItemTree) → before ++ rest ≡ items → KeptBelow (length before) → Told (break_from p before items rest)
    told before [] e kept = at_end (length before) (ap length (sym (append_none before) ∙ e)) kept
    told before (item ∷ rest) e kept = by (formed_item p before (map item_name items) item) refl (told (before ++ item ∷ []) rest)
      where
        there : At items (length before) item
        there = ap (λ (xs : List ItemTree). slice_get xs (length before)) (sym e) ∙ seam_at before item rest

        front : take (length before) items ≡ before
        front = ap (λ (xs : List ItemTree). take (length before) xs) (sym e) ∙ seam_take before (item ∷ rest)

        joined : (before ++ item ∷ []) ++ rest ≡ items
        joined = append_assoc before (item ∷ []) rest ∙ e

        by : (b : Bool) → formed_item p before (map item_name items) item ≡ b → ((before ++ item ∷ []) ++ rest ≡ items → KeptBelow (length (before ++ item ∷ [])) → Told (break_from p (before ++ item ∷ []) items rest))
            → Told (if b then break_from p (before ++ item ∷ []) items rest else Some (length before))
        by true h more =
            let now : KeepsItem p before (map item_name items) item = (item-decides p before (map item_name items) item).0 h in
            let here : KeepsItemAt p items (length before) item = subst (λ (xs : List ItemTree). KeepsItem p xs (map item_name items) item) (sym front) now in
            more joined (subst KeptBelow (sym (seam_length before item)) (kept_more (length before) item there here kept))
        by false h more = inl (record {
          item = item;
          there = there;
          before = kept;
          breaks = (λ here.
              let now : KeepsItem p before (map item_name items) item = subst (λ (xs : List ItemTree). KeepsItem p xs (map item_name items) item) front here in
              let t : formed_item p before (map item_name items) item ≡ true = (item-decides p before (map item_name items) item).1 now in
              cc (h, t));
        })

    first_told : Told (first_break p items)
    first_told = told [] items refl (λ i item l e. absurd (omega (arith, l)))

    -- What is kept isn't broken, and is broken at one number.
    kept_or_broken : (n : ℕ) → KeepsUnitForm p items → BreaksAt p items n → ⊥
    kept_or_broken n kept (inl h) = h.breaks (kept.each n h.item h.there)
    kept_or_broken n kept (inr h) = h.lacks kept.whole

    one_break : (n m : ℕ) → BreaksAt p items n → BreaksAt p items m → n ≡ m
    one_break n m (inl h) (inl k) = by (order n m)
      where
        by : Order n m → n ≡ m
        by (below _ _ l) = absurd (h.breaks (k.before n h.item l h.there))
        by (same _ _ e) = e
        by (above _ _ l) = absurd (k.breaks (h.before m k.item l k.there))
    one_break n m (inl h) (inr k) = absurd (h.breaks (k.each n h.item h.there))
    one_break n m (inr h) (inl k) = absurd (k.breaks (h.each m k.item k.there))
    one_break n m (inr h) (inr k) = h.counts ∙ sym k.counts

    kept_is : (o : Option ℕ) → Told o → KeepsUnitForm p items → o ≡ None
    kept_is None h kept = refl
    kept_is (Some n) h kept = absurd (kept_or_broken n kept h)

    kept_by : (o : Option ℕ) → Told o → o ≡ None → KeepsUnitForm p items
    kept_by None h e = h
    kept_by (Some n) h e = absurd (cc e)

    broken_is : (n : ℕ) (o : Option ℕ) → Told o → BreaksAt p items n → o ≡ Some n
    broken_is n None h broken = absurd (kept_or_broken n h broken)
    broken_is n (Some m) h broken = ap Some (one_break m n h broken)

    broken_by : (n : ℕ) (o : Option ℕ) → Told o → o ≡ Some n → BreaksAt p items n
    broken_by n None h e = absurd (cc e)
    broken_by n (Some m) h e = let it : m ≡ n = cc e in subst (λ (k : ℕ). BreaksAt p items k) it h

pub form_is_kept : UnitFormIsKept
form_is_kept p items = (kept_is p items (first_break p items) (first_told p items), kept_by p items (first_break p items) (first_told p items))

pub breaks_told : BreaksAreTold
breaks_told p items n = (broken_is p items n (first_break p items) (first_told p items), broken_by p items n (first_break p items) (first_told p items))
