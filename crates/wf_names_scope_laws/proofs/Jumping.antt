-- What jumps mean.
use Rattle.std.proofs.Common.{◌≡◌, ◌⊎◌, inl, inr, ℕ, zero, suc, ◌+◌, Bool, true, false, ◌||◌, if◌then◌else◌, List, [], ◌∷◌, ◌++◌, length, Option, Some, None, slice_get, nat_eq, refl, sym, ap, ◌∙◌, subst, arith}
use Rattle.std.specs.Prelude.{⊤}
use Rattle.std.specs.List.{AllByRecursion}
use Rattle.wf_text.specs.declared.place.Place.{Place}
use Rattle.wf_text.specs.Precedence.{Decides}
use Rattle.wf_ast.specs.declared.parsed.Name.{Name}
use Rattle.wf_names_rules.specs.Declarations.{Declared, Method, is_spelt}
use Rattle.wf_names_rules.specs.Jumps.{Jump, labelled, to_label, to_innermost, jump, label_jumps, block_jumps, is_labelled, has_label}
use Rattle.wf_names_rules.specs.NameRules.{Breaks, by_label, label_twice, twice, IsMethod}
use Rattle.graphs.proofs.NumberLemmas.{same_number, number_self}
use Rattle.wf_names_resolve.specs.Resolved.{is_label, loops_behind, outwards}
use Rattle.wf_names_laws.specs.Kept.{HasLoop}
use Rattle.wf_names_laws.proofs.ListLemmas.{all-from}
use Rattle.wf_names_scope_laws.specs.Jumping.{HasLabel, LabelMeans, JumpMeans}
use Rattle.wf_names_scope_laws.proofs.Apart.{AreOnce}

labels-same : (text : ℕ) (loop : Option Name) → is_labelled text loop ≡ is_label text loop
labels-same text None = refl
labels-same text (Some label) = refl

label-so : (text : ℕ) (loop : Option Name) → is_label text loop ≡ true → HasLabel text loop
label-so text None h = absurd (cc h)
label-so text (Some label) h = same_number label.text.0 text h

-- The last loop of the label, with how many stand after it.
record LastAt (text : ℕ) (loops : List (Option Name)) (behind : ℕ) : Type 0 where
  n : ℕ
  loop : Option Name
  there : slice_get loops n ≡ Some loop
  fits : HasLabel text loop
  between : n + 1 + behind ≡ length loops

record Nowhere (text count : ℕ) (loops : List (Option Name)) : Type 0 where
  none : has_label loops text ≡ false
  all : loops_behind text count loops ≡ count + length loops

last-or-none : (text count : ℕ) (loops : List (Option Name)) → Nowhere text count loops ⊎ LastAt text loops (loops_behind text count loops)
last-or-none text count [] = inl (record { none = refl; all = omega arith })
last-or-none text count (loop ∷ loops) = by_test (is_label text loop) refl (last-or-none text 0 loops) (last-or-none text (count + 1) loops)
  where
    later : (behind : ℕ) → LastAt text loops behind → LastAt text (loop ∷ loops) behind
    later behind r = record { n = suc r.n; loop = r.loop; there = r.there; fits = r.fits; between = omega (arith, r.between) }

    Here : Bool → Type 0
    Here t = Nowhere text count (loop ∷ loops) ⊎ LastAt text (loop ∷ loops) (loops_behind text (if t then 0 else count + 1) loops)

    here : is_label text loop ≡ true → Nowhere text 0 loops → LastAt text (loop ∷ loops) (loops_behind text 0 loops)
    here h r = record { n = 0; loop = loop; there = refl; fits = label-so text loop h; between = omega (arith, r.all) }

    nowhere : is_label text loop ≡ false → Nowhere text (count + 1) loops → Nowhere text count (loop ∷ loops)
    nowhere h r = record {
      none = ap (λ t. t || has_label loops text) (labels-same text loop ∙ h) ∙ r.none;
      all = ap (λ t. loops_behind text (if t then 0 else count + 1) loops) h ∙ r.all ∙ (let e : count + 1 + length loops ≡ count + suc (length loops) = omega arith in e);
    }

    by_test : (t : Bool) → is_label text loop ≡ t → Nowhere text 0 loops ⊎ LastAt text loops (loops_behind text 0 loops) → Nowhere text (count + 1) loops ⊎ LastAt text loops (loops_behind text (count + 1) loops)
        → Nowhere text count (loop ∷ loops) ⊎ LastAt text (loop ∷ loops) (loops_behind text (if t then 0 else count + 1) loops)
    by_test true h (inl r) other = inr (here h r)
    by_test true h (inr r) other = inr (later (loops_behind text 0 loops) r)
    by_test false h other (inl r) = inl (nowhere h r)
    by_test false h other (inr r) = inr (later (loops_behind text (count + 1) loops) r)

-- No two of the loops have one label.
abbrev pub AreLabelledOnce : List (Option Name) → Type 0
AreLabelledOnce loops = (text : ℕ) → AreOnce (HasLabel text) loops

pub none-labelled : AreLabelledOnce []
none-labelled text i j x y e f p q = absurd (cc e)

pub label-means : (loops : List (Option Name)) (text : ℕ) → AreLabelledOnce loops → has_label loops text ≡ true → LabelMeans loops text (loops_behind text 0 loops)
label-means loops text once h = elim (last-or-none text 0 loops) [
  | inl r ↦ absurd (cc (sym h ∙ r.none))
  | inr r ↦ record {
    n = r.n;
    loop = r.loop;
    means = record { there = r.there; fits = r.fits; only = λ i y e p. once text i r.n y r.loop e r.there p r.fits };
    between = r.between;
  }
]

pub jump-means : (loops : List (Option Name)) (label : Option Name) (at : Place) → AreLabelledOnce loops → HasLoop (jump loops label at) → JumpMeans loops label (outwards loops label)
jump-means [] None at once h = absurd h
jump-means (loop ∷ loops) None at once h = (refl, omega arith)
jump-means loops (Some label) at once h = label-means loops label.text.0 once h

-- One loop more, whose label none of the others has.
label-of : (text : ℕ) (loops : List (Option Name)) (i : ℕ) (x : Option Name) → slice_get loops i ≡ Some x → HasLabel text x → has_label loops text ≡ true
label-of text [] i x e p = absurd (cc e)
label-of text (loop ∷ loops) zero None e p = absurd p
label-of text (loop ∷ loops) zero (Some label) e p =
    let same : loop ≡ Some label = cc e in
    let spelt : is_spelt text label ≡ true = subst (λ n. nat_eq label.text.0 n ≡ true) p (number_self label.text.0) in
    by_test (is_labelled text loop) (ap (is_labelled text) same ∙ spelt)
  where
    by_test : (t : Bool) → t ≡ true → (t || has_label loops text) ≡ true
    by_test true k = refl
    by_test false k = absurd (cc k)
label-of text (loop ∷ loops) (suc i) x e p = by_test (is_labelled text loop) (label-of text loops i x e p)
  where
    by_test : (t : Bool) → has_label loops text ≡ true → (t || has_label loops text) ≡ true
    by_test true k = refl
    by_test false k = k

record InFront {X : Type 0} (xs : List X) (last : X) (i : ℕ) (x : X) : Type 0 where
  there : slice_get xs i ≡ Some x

record AtEnd {X : Type 0} (xs : List X) (last : X) (i : ℕ) (x : X) : Type 0 where
  number : i ≡ length xs
  same : x ≡ last

at-join : {X : Type 0} (xs : List X) (last : X) (i : ℕ) (x : X) → slice_get (xs ++ last ∷ []) i ≡ Some x → InFront xs last i x ⊎ AtEnd xs last i x
at-join [] last zero x e = inr (record { number = refl; same = cc e })
at-join [] last (suc i) x e = absurd (cc e)
at-join (y ∷ xs) last zero x e = inl (record { there = e })
at-join (y ∷ xs) last (suc i) x e = elim (at-join xs last i x e) [
  | inl r ↦ inl (record { there = r.there })
  | inr r ↦ inr (record { number = ap suc r.number; same = r.same })
]

-- A new loop's label is none of those round it.
abbrev pub IsFresh : List (Option Name) → Option Name → Type 0
IsFresh loops label = (text : ℕ) → HasLabel text label → has_label loops text ≡ false

pub labelled-longer : (loops : List (Option Name)) (label : Option Name) → AreLabelledOnce loops → IsFresh loops label → AreLabelledOnce (loops ++ label ∷ [])
labelled-longer loops label once fresh text i j x y e f p q = by (at-join loops label i x e) (at-join loops label j y f)
  where
    clash : (k : ℕ) (z w : Option Name) → slice_get loops k ≡ Some z → HasLabel text z → w ≡ label → HasLabel text w → ⊥
    clash k z w g r same s = absurd (cc (sym (label-of text loops k z g r) ∙ fresh text (subst (HasLabel text) same s)))

    by : InFront loops label i x ⊎ AtEnd loops label i x → InFront loops label j y ⊎ AtEnd loops label j y → i ≡ j
    by (inl a) (inl b) = once text i j x y a.there b.there p q
    by (inl a) (inr b) = absurd (clash i x y a.there p b.same q)
    by (inr a) (inl b) = absurd (clash j y x b.there q a.same p)
    by (inr a) (inr b) = a.number ∙ sym b.number

-- The labels of a body's loops are none of those round them.
abbrev pub HasFreshLabel : Jump → Type 0
HasFreshLabel (labelled loops label) = has_label loops label.text.0 ≡ false
HasFreshLabel (to_label loops label) = ⊤
HasFreshLabel (to_innermost loops at) = ⊤

abbrev pub HaveFreshLabels : List Jump → Type 0
HaveFreshLabels jumps = AllByRecursion HasFreshLabel jumps

pub fresh-label : (loops : List (Option Name)) (label : Option Name) → HaveFreshLabels (label_jumps loops label) → IsFresh loops label
fresh-label loops None a text p = absurd p
fresh-label loops (Some label) a text p = ap (has_label loops) (sym p) ∙ a.0

not-so : (t : Bool) → (t ≡ true → ⊥) → t ≡ false
not-so true h = absurd (h refl)
not-so false h = refl

pub labels-fresh : (d : Declared) → Decides (Breaks d) None → (m : Method) → IsMethod d m → HaveFreshLabels (block_jumps [] m.body)
labels-fresh d h m is = all-from HasFreshLabel (block_jumps [] m.body) (λ i j e. at j i e)
  where
    at : (j : Jump) (i : ℕ) → slice_get (block_jumps [] m.body) i ≡ Some j → HasFreshLabel j
    at (labelled loops label) i e = not-so (has_label loops label.text.0) (λ so. h (twice label) (by_label (twice label) (label_twice loops label (m, i, (is, e)) so)))
    at (to_label loops label) i e = tt
    at (to_innermost loops place) i e = tt
