-- The texts of a package by first appearance: they grow at their end, stay distinct, and are found where they stand.
use Rattle.std.proofs.Common.{◌≡◌, ◌⊎◌, inl, inr, ℕ, zero, suc, Bool, true, false, ◌||◌, if◌then◌else◌, Option, None, Some, List, [], ◌∷◌, ◌++◌, length, refl, sym, ◌∙◌, ap, subst, arith, append-nil}
use Rattle.std.specs.List.{slice_get}
use Rattle.std.specs.Str.{bytes_eq}
use Rattle.std.proofs.lemmas.Option.{slice_get_within}
use Rattle.std.proofs.lemmas.Slice.Eq.{bytes_eq-Decides}
use Rattle.wf_ast.specs.ParsedParts.{AreDistinct, JoinsText}
use Rattle.wf_ast.proofs.TreeLemmas.{slice_get-front, slice_get-seam}
use Rattle.wf_tokens.specs.Spelling.{Item}
use Rattle.wf_parse.specs.Texts.{text_of, is_among, with_text, texts_behind}

-- A text is among those of which one is it.
among_at : (known : List (List ℕ)) (text : List ℕ) → is_among known text ≡ true → (i : ℕ) × (slice_get known i ≡ Some text)
among_at [] text e = absurd (cc e)
among_at (first ∷ others) text e = by_case (bytes_eq first text) refl (among_at others text)
  where
    by_case : (b : Bool) → bytes_eq first text ≡ b → (is_among others text ≡ true → (i : ℕ) × (slice_get others i ≡ Some text)) → (i : ℕ) × (slice_get (first ∷ others) i ≡ Some text)
    by_case true h behind = (0, ap Some ((bytes_eq-Decides first text).0 h))
    by_case false h behind =
        let rest : is_among others text ≡ true = sym (ap (λ b. b || is_among others text) h) ∙ e in
        let there = behind rest in
        (suc there.0, there.1)

at_among : (known : List (List ℕ)) (text : List ℕ) (i : ℕ) → slice_get known i ≡ Some text → is_among known text ≡ true
at_among [] text i e = absurd (cc e)
at_among (first ∷ others) text zero e =
    let same : first ≡ text = cc e in
    let h : bytes_eq first text ≡ true = (bytes_eq-Decides first text).1 same in
    ap (λ b. b || is_among others text) h
at_among (first ∷ others) text (suc i) e = or_true (bytes_eq first text) (at_among others text i e)
  where
    or_true : (b : Bool) → is_among others text ≡ true → (b || is_among others text) ≡ true
    or_true true h = refl
    or_true false h = h

true_or_false : {A : Type 0} (b : Bool) → b ≡ true → b ≡ false → A
true_or_false true h g = absurd (cc g)
true_or_false false h g = absurd (cc h)

-- Texts in which equal ones have equal numbers, and that a text has joined, are those after it.
pub joined : (old new : List (List ℕ)) (text : List ℕ) (i : ℕ) → JoinsText old new text → slice_get new i ≡ Some text → AreDistinct new → new ≡ with_text old (Some text)
joined old new text i joins found distinct = by_case (is_among old text) refl joins
  where
    by_case : (b : Bool) → is_among old text ≡ b → JoinsText old new text → new ≡ with_text old (Some text)
    by_case true h (inl e) = rw h e
    by_case true h (inr e) =
        let there = among_at old text h in
        let within = slice_get_within old there.0 text there.1 in
        let P : List (List ℕ) → Type 0 = AreDistinct in
        let one = subst P e distinct in
        let same : there.0 ≡ length old = one there.0 (length old) text (slice_get-front old (text ∷ []) there.0 within ∙ there.1) (slice_get-seam old text []) in
        absurd (omega (arith, within, same))
    by_case false h (inl e) = true_or_false (is_among old text) (at_among old text i (ap (λ xs. slice_get xs i) (sym e) ∙ found)) h
    by_case false h (inr e) = rw h e

-- A text that is known joins nothing.
pub known_joins : (known : List (List ℕ)) (text : List ℕ) (i : ℕ) → slice_get known i ≡ Some text → known ≡ with_text known (Some text)
known_joins known text i e = sym (ap (λ b. if b then known else known ++ text ∷ []) (at_among known text i e))

-- Texts grow at their end.
pub with_text-grows : (known : List (List ℕ)) (text : Option (List ℕ)) → (more : List (List ℕ)) × (with_text known text ≡ known ++ more)
with_text-grows known None = ([], sym (append-nil known))
with_text-grows known (Some text) = by_case (is_among known text)
  where
    by_case : (b : Bool) → (more : List (List ℕ)) × ((if b then known else known ++ text ∷ []) ≡ known ++ more)
    by_case true = ([], sym (append-nil known))
    by_case false = (text ∷ [], refl)

pub texts_behind-more : (known : List (List ℕ)) (items : List Item) (item : Item) → texts_behind known (items ++ item ∷ []) ≡ with_text (texts_behind known items) (text_of item.kind item.text)
texts_behind-more known [] item = refl
texts_behind-more known (first ∷ items) item = texts_behind-more (with_text known (text_of first.kind first.text)) items item

-- They stay distinct.
pub no_texts-distinct : AreDistinct []
no_texts-distinct i j text g h = absurd (cc g)

joined_distinct : (known : List (List ℕ)) (text : List ℕ) → AreDistinct known → is_among known text ≡ false → AreDistinct (known ++ text ∷ [])
joined_distinct known text distinct new i j other g h = by_case (place i other g) (place j other h)
  where
    place : (n : ℕ) (x : List ℕ) → slice_get (known ++ text ∷ []) n ≡ Some x → (slice_get known n ≡ Some x) ⊎ ((n ≡ length known) × (x ≡ text))
    place n x e = found known n e
      where
        found : (xs : List (List ℕ)) (m : ℕ) → slice_get (xs ++ text ∷ []) m ≡ Some x → (slice_get xs m ≡ Some x) ⊎ ((m ≡ length xs) × (x ≡ text))
        found [] zero f = let same : text ≡ x = cc f in inr (refl, sym same)
        found [] (suc m) f = absurd (cc f)
        found (y ∷ ys) zero f = inl f
        found (y ∷ ys) (suc m) f = longer (found ys m f)
          where
            longer : (slice_get ys m ≡ Some x) ⊎ ((m ≡ length ys) × (x ≡ text)) → (slice_get (y ∷ ys) (suc m) ≡ Some x) ⊎ ((suc m ≡ length (y ∷ ys)) × (x ≡ text))
            longer (inl l) = inl l
            longer (inr r) = inr (ap suc r.0, r.1)

    by_case : (slice_get known i ≡ Some other) ⊎ ((i ≡ length known) × (other ≡ text)) → (slice_get known j ≡ Some other) ⊎ ((j ≡ length known) × (other ≡ text)) → i ≡ j
    by_case (inl a) (inl b) = distinct i j other a b
    by_case (inl a) (inr b) = true_or_false (is_among known text) (at_among known text i (a ∙ ap Some b.1)) new
    by_case (inr a) (inl b) = true_or_false (is_among known text) (at_among known text j (b ∙ ap Some a.1)) new
    by_case (inr a) (inr b) = a.0 ∙ sym b.0

with_text-distinct : (known : List (List ℕ)) (text : Option (List ℕ)) → AreDistinct known → AreDistinct (with_text known text)
with_text-distinct known None distinct = distinct
with_text-distinct known (Some text) distinct = by_case (is_among known text) refl
  where
    by_case : (b : Bool) → is_among known text ≡ b → AreDistinct (with_text known (Some text))
    by_case true h =
        let P : Bool → Type 0 = λ b. AreDistinct (if b then known else known ++ text ∷ []) in
        subst P (sym h) distinct
    by_case false h =
        let P : Bool → Type 0 = λ b. AreDistinct (if b then known else known ++ text ∷ []) in
        subst P (sym h) (joined_distinct known text distinct h)

pub texts_behind-distinct : (known : List (List ℕ)) (items : List Item) → AreDistinct known → AreDistinct (texts_behind known items)
texts_behind-distinct known [] distinct = distinct
texts_behind-distinct known (item ∷ items) distinct = texts_behind-distinct (with_text known (text_of item.kind item.text)) items (with_text-distinct known (text_of item.kind item.text) distinct)
