-- Names are kept once each: two numbers of names are equal exactly where the names are.
use Rattle.std.proofs.Common.{◌≡◌, ℕ, ◌<◌, true, false, nat_eq, List, [], ◌∷◌, length, Some, refl, sym, ◌∙◌, ap, subst, unwrap_or, IsTrue, inl, inr}
use Rattle.std.specs.List.{slice_get}
use Rattle.std.specs.Str.{bytes_eq}
use Rattle.std.proofs.lemmas.Bool.{cases_Bool, eqb-true, eq-eqb}
use Rattle.std.proofs.lemmas.Option.{slice_get_within}
use Rattle.std.proofs.lemmas.Slice.Eq.{bytes_eq-Decides}
use Rattle.interner.specs.Interning.{AreDistinct, Interns}
use Rattle.c_text.specs.CNodes.{Nodes, bytes_at}
use Rattle.c_text.specs.CSpelling.{is_name}
use Rattle.c_text.specs.CUnit.{AddsName, IsSound}
use Rattle.c_text.proofs.Arena.{slice_get-some}
use Rattle.c_text.proofs.Growth.{sound_name}
use Rattle.c_text.proofs.Trees.{append_nil}

pub bytes_eq-true : (xs ys : List ℕ) → bytes_eq xs ys ≡ true → xs ≡ ys
bytes_eq-true xs ys h = (bytes_eq-Decides xs ys).0 h

pub bytes_eq-refl : (xs : List ℕ) → bytes_eq xs xs ≡ true
bytes_eq-refl xs = (bytes_eq-Decides xs xs).1 refl

pub bytes_at-is : (names : List (List ℕ)) (n : ℕ) (name : List ℕ) → slice_get names n ≡ Some name → bytes_at names n ≡ name
bytes_at-is names n name is = ap (λ o. unwrap_or o []) is

differ : (i j : ℕ) → (i ≡ j → ⊥) → nat_eq i j ≡ false
differ i j apart = elim (cases_Bool (nat_eq i j)) [ inl e ↦ absurd (apart (eqb-true i j e)) | inr e ↦ e ]

pub same_names : (names : List (List ℕ)) → AreDistinct names → (i j : ℕ) → i < length names → j < length names → nat_eq i j ≡ bytes_eq (bytes_at names i) (bytes_at names j)
same_names names distinct i j within_i within_j =
    let a = slice_get-some names i within_i in
    let b = slice_get-some names j within_j in
    let here : bytes_at names i ≡ a.0 = bytes_at-is names i a.0 a.1 in
    let there : bytes_at names j ≡ b.0 = bytes_at-is names j b.0 b.1 in
    rw (here, there) (elim (cases_Bool (bytes_eq a.0 b.0)) [
      | inl y ↦ eq-eqb i j (distinct i j a.0 a.1 (b.1 ∙ ap Some (sym (bytes_eq-true a.0 b.0 y)))) ∙ sym y
      | inr f ↦ differ i j (λ e. let same : Some a.0 ≡ Some b.0 = sym a.1 ∙ ap (slice_get names) e ∙ b.1 in
          let is : a.0 ≡ b.0 = cc same in
          let yes : bytes_eq a.0 b.0 ≡ true = (bytes_eq-Decides a.0 b.0).1 is in
          absurd (cc (f, yes))) ∙ sym f
    ])

-- What the table of names did, in the unit.
pub adds_name : (old : Nodes) (after : List (List ℕ)) (name : List ℕ) (n : ℕ) → Interns old.names after name n → AddsName old (record old { names = after }) name n
adds_name old after name n interns =
    let known : n < length after = slice_get_within after n name interns.stands in
    let spelt : bytes_at after n ≡ name = bytes_at-is after n name interns.stands in
    elim interns.joins [
      | inl same ↦ record {
        added = [];
        grown = ap (λ (names : List (List ℕ)). record old { names = names }) (same ∙ sym (append_nil old.names));
        known = known;
        spelt = spelt;
      }
      | inr joined ↦ record {
        added = name ∷ [];
        grown = ap (λ (names : List (List ℕ)). record old { names = names }) joined;
        known = known;
        spelt = spelt;
      }
    ]

pub sound_names : (old : Nodes) (after : List (List ℕ)) (name : List ℕ) (n : ℕ) → Interns old.names after name n → IsSound old → IsTrue (is_name name) → IsSound (record old { names = after })
sound_names old after name n interns sound fits = elim interns.joins [
  | inl same ↦ subst (λ (names : List (List ℕ)). IsSound (record old { names = names })) (sym same) sound
  | inr joined ↦ subst (λ (names : List (List ℕ)). IsSound (record old { names = names })) (sym joined) (sound_name old name sound fits)
]

-- A name that the unit has keeps its number.
pub known_name : (old : Nodes) (name : List ℕ) (n : ℕ) → slice_get old.names n ≡ Some name → AddsName old old name n
known_name old name n stands = adds_name old old.names name n (record { joins = inl refl; stands = stands })
