-- Ordered maps by texts: a change at one text, and what the map of other texts has then.
use Rattle.std.proofs.Common.{◌≡◌, ◌∙◌, ℕ, Bool, true, false, Option, Some, List, inl, inr, refl, sym, ap, subst}
use Rattle.std.specs.Str.{bytes_eq}
use Rattle.std.specs.Ordering.{is_eq, nat_cmp}
use Rattle.std.specs.Cmp.Lexicographic.{slice_cmp, nat_list_cmp_total, texts_ties}
use Rattle.std.specs.BTreeMap.{BTreeMap, get_by, UpdatesBy}
use Rattle.std.specs.Map.{lookup, IsKeyTest, AreApart, KeepsOthers}
use Rattle.std.proofs.lemmas.Bool.{cases_Bool}
use Rattle.std.proofs.lemmas.Cmp.{eq_by_cmp_equiv}
use Rattle.std.proofs.lemmas.Slice.Eq.{bytes_eq-Decides}
use Rattle.interner.specs.Interning.{digest, AreTaken, JoinsOthers}

-- The other queries after a change of a map at one key.
other_entries : {K X : Type 0} (eq : K → K → Bool) (test : K → Bool) (old new : List (K × X)) → KeepsOthers eq test old new
    → (other : K → Bool) → IsKeyTest eq other → AreApart test other → lookup other new ≡ lookup other old
unfolding KeepsOthers
other_entries eq test old new h = h

apart : (bs cs ks : List ℕ) → bytes_eq bs cs ≡ false → is_eq (slice_cmp nat_cmp bs ks) ≡ true → is_eq (slice_cmp nat_cmp cs ks) ≡ false
apart bs cs ks n y = elim (cases_Bool (is_eq (slice_cmp nat_cmp cs ks))) [
  | inl t ↦ (let p : bytes_eq cs ks ≡ true = texts_ties cs ks ∙ t in
      let q : bytes_eq bs ks ≡ true = texts_ties bs ks ∙ y in
      let e : bs ≡ cs = (bytes_eq-Decides bs ks).0 q ∙ sym ((bytes_eq-Decides cs ks).0 p) in
      let same : bytes_eq bs cs ≡ true = (bytes_eq-Decides bs cs).1 e in
      absurd (cc (n, same)))
  | inr f ↦ f
]

-- A change of a map at a text changes what is found for no other text.
pub other_texts : {K X : Type 0} (items : K → List ℕ) (text : List ℕ) (old new : BTreeMap K X) (w : Option X)
    → UpdatesBy (λ x y. slice_cmp nat_cmp (items x) (items y)) (λ k. slice_cmp nat_cmp text (items k)) old new w
    → (other : List ℕ) → bytes_eq text other ≡ false → get_by (λ k. slice_cmp nat_cmp other (items k)) new ≡ get_by (λ k. slice_cmp nat_cmp other (items k)) old
other_texts items text old new w h other e = other_entries _ _ _ _ h.3 _ (λ x y. (eq_by_cmp_equiv nat_list_cmp_total).congr other (items x) (items y)) (λ k. apart text other (items k) e)

-- A text joins the map of others.
pub joins_others : {K : Type 0} (items : K → List ℕ) (text key : List ℕ) (old new : BTreeMap K ℕ) (number : ℕ) (slots : List ℕ) → key ≡ text → AreTaken slots (digest text)
    → UpdatesBy (λ x y. slice_cmp nat_cmp (items x) (items y)) (λ k. slice_cmp nat_cmp key (items k)) old new (Some number)
    → JoinsOthers slots slots (λ q. get_by (λ k. slice_cmp nat_cmp q (items k)) old) (λ q. get_by (λ k. slice_cmp nat_cmp q (items k)) new) text number
joins_others items text key old new number slots same taken h = record {
  slots = refl;
  taken = taken;
  has = ap (λ (q : List ℕ). get_by (λ k. slice_cmp nat_cmp q (items k)) new) (sym same) ∙ h.1;
  others = λ q d. elim (cases_Bool (bytes_eq text q)) [
    | inl y ↦ absurd (d (sym ((bytes_eq-Decides text q).0 y)))
    | inr f ↦ other_texts items text old new (Some number)
        (subst (λ (t : List ℕ). UpdatesBy (λ x y. slice_cmp nat_cmp (items x) (items y)) (λ k. slice_cmp nat_cmp t (items k)) old new (Some number)) same h) q f
  ];
}
