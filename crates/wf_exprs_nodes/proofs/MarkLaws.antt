-- Names that are read, added to those that were there.
use Rattle.std.proofs.Common.{◌≡◌, ◌∙◌, ◌+◌, ◌<◌, ◌≤◌, ap, sym, arith, unwrap_or, ℕ, zero, suc, Bool, true, false, ◌&&◌, ◌||◌, nat_eq, List, [], ◌∷◌, length, replicate, refl, bytes_eq, inl, inr}
use Rattle.std.specs.List.{slice_get, slice_set}
use Rattle.std.proofs.lemmas.Bool.{cases_Bool, eqb-true}
use Rattle.c_text.specs.CUnit.{AreDistinct}
use Rattle.c_text.specs.CNodes.{Nodes, bytes_at, code_of}
use Rattle.c_text.proofs.Names.{bytes_eq-refl, same_names}
use Rattle.wf_exprs.specs.Reads.{code_reads}
use Rattle.wf_exprs_nodes.specs.Marks.{AreThose, Marks, is_marked, is_marked_from}
use Rattle.wf_exprs_nodes.specs.Readers.{own_reads, next_of}
use Rattle.wf_exprs_nodes.proofs.ReadLaws.{reads_first}

or_assoc : (a b c : Bool) → ((a || b) || c) ≡ (a || (b || c))
or_assoc true b c = refl
or_assoc false b c = refl

or_false : (a : Bool) → (a || false) ≡ a
or_false true = refl
or_false false = refl

-- A flag that is set adds its name, whether it was set before or not.
set_first : (flag is rest : Bool) → ((true && is) || rest) ≡ (((flag && is) || rest) || is)
set_first true true rest = refl
set_first true false rest = sym (or_false rest)
set_first false true true = refl
set_first false true false = refl
set_first false false rest = sym (or_false rest)

to_suc : (n i : ℕ) → suc n + i ≡ n + suc i
to_suc n i = omega arith

from_zero : (i : ℕ) → 0 + i ≡ i
from_zero i = omega arith

set_marks : (names : List (List ℕ)) (n i : ℕ) (flags : List Bool) (name : List ℕ) → i < length flags → is_marked_from names n (slice_set flags i true) name ≡ (is_marked_from names n flags name || bytes_eq name (bytes_at names (n + i)))
set_marks names n i [] name h = absurd (omega (arith, h))
set_marks names n zero (flag ∷ flags) name h =
    let at : n ≡ n + 0 = omega arith in
    set_first flag (bytes_eq name (bytes_at names n)) (is_marked_from names (suc n) flags name)
    ∙ ap (λ k. is_marked_from names n (flag ∷ flags) name || bytes_eq name (bytes_at names k)) at
set_marks names n (suc i) (flag ∷ flags) name h =
    let own = flag && bytes_eq name (bytes_at names n) in
    let rest = is_marked_from names (suc n) flags name in
    ap (λ b. own || b) (set_marks names (suc n) i flags name (omega (arith, h)) ∙ ap (λ k. rest || bytes_eq name (bytes_at names k)) (to_suc n i))
    ∙ sym (or_assoc own rest (bytes_eq name (bytes_at names (n + suc i))))

pub marks_one : (names : List (List ℕ)) (i : ℕ) (old new : List Bool) → i < length old → new ≡ slice_set old i true → Marks (λ name. bytes_eq name (bytes_at names i)) names old new
marks_one names i old new h e = λ name. ap (λ flags. is_marked names flags name) e ∙ set_marks names 0 i old name h ∙ ap (λ k. is_marked names old name || bytes_eq name (bytes_at names k)) (from_zero i)

-- Three that are marked one after the other.
pub marks_three : (names : List (List ℕ)) (a b c d : List Bool) (p q r : List ℕ → Bool) → Marks p names a b → Marks q names b c → Marks r names c d → Marks (λ name. p name || (q name || r name)) names a d
marks_three names a b c d p q r first second third = λ name.
    third name
    ∙ ap (λ x. x || r name) (second name ∙ ap (λ x. x || q name) (first name) ∙ or_assoc (is_marked names a name) (p name) (q name))
    ∙ or_assoc (is_marked names a name) (p name || q name) (r name)
    ∙ ap (λ x. is_marked names a name || x) (or_assoc (p name) (q name) (r name))

-- No name has a flag at first.
pub none_marked : (names : List (List ℕ)) (n k : ℕ) (name : List ℕ) → is_marked_from names n (replicate k false) name ≡ false
none_marked names n zero name = refl
none_marked names n (suc k) name = none_marked names (suc n) k name

pub length-none : (k : ℕ) → length (replicate k false) ≡ k
length-none zero = refl
length-none (suc k) = ap suc (length-none k)

-- What was read with nothing there before.
pub those_marked : (reads : List ℕ → Bool) (names : List (List ℕ)) (old new : List Bool) → old ≡ replicate (length names) false → length new ≡ length old → Marks reads names old new → AreThose reads names new
those_marked reads names old new none same marks = record {
  within = let l : length old ≡ length names = ap length none ∙ length-none (length names) in omega (arith, l, same);
  are = λ name. marks name ∙ ap (λ b. b || reads name) (ap (λ flags. is_marked names flags name) none ∙ none_marked names 0 (length names) name);
}

-- Other names of a unit are spelt otherwise.
apart : (names : List (List ℕ)) → AreDistinct names → (i j : ℕ) → i < j → j < length names → bytes_eq (bytes_at names j) (bytes_at names i) ≡ false
apart names distinct i j less within =
    let differ : nat_eq j i ≡ false = elim (cases_Bool (nat_eq j i)) [ inl e ↦ let same = eqb-true j i e in absurd (omega (arith, same, less)) | inr e ↦ e ] in
    sym (same_names names distinct j i within (omega (arith, less, within))) ∙ differ

apart_back : (names : List (List ℕ)) → AreDistinct names → (i j : ℕ) → i < j → j < length names → bytes_eq (bytes_at names i) (bytes_at names j) ≡ false
apart_back names distinct i j less within =
    let differ : nat_eq i j ≡ false = elim (cases_Bool (nat_eq i j)) [ inl e ↦ let same = eqb-true i j e in absurd (omega (arith, same, less)) | inr e ↦ e ] in
    sym (same_names names distinct i j (omega (arith, less, within)) within) ∙ differ

and_false : (a : Bool) → (a && false) ≡ false
and_false true = refl
and_false false = refl

and_true : (a : Bool) → (a && true) ≡ a
and_true true = refl
and_true false = refl

-- The flags of later names tell nothing of a name.
not_later : (names : List (List ℕ)) → AreDistinct names → (n k : ℕ) (flags : List Bool) → k < n → n + length flags ≤ length names → is_marked_from names n flags (bytes_at names k) ≡ false
not_later names distinct n k [] less within = refl
not_later names distinct n k (flag ∷ flags) less within =
    let name = bytes_at names k in
    ap (λ b. (flag && b) || is_marked_from names (suc n) flags name) (apart_back names distinct k n less (omega (arith, within)))
    ∙ ap (λ b. b || is_marked_from names (suc n) flags name) (and_false flag)
    ∙ not_later names distinct (suc n) k flags (omega (arith, less)) (omega (arith, within))

-- A name is one of those where its flag is set.
flag_tells : (names : List (List ℕ)) → AreDistinct names → (n i : ℕ) (flags : List Bool) → n + length flags ≤ length names → n + i < length names → is_marked_from names n flags (bytes_at names (n + i)) ≡ unwrap_or (slice_get flags i) false
flag_tells names distinct n i [] within there = refl
flag_tells names distinct n zero (flag ∷ flags) within there =
    let at : n + 0 ≡ n = omega arith in
    let name = bytes_at names n in
    ap (λ k. is_marked_from names n (flag ∷ flags) (bytes_at names k)) at
    ∙ ap (λ b. (flag && b) || is_marked_from names (suc n) flags name) (bytes_eq-refl name)
    ∙ ap (λ b. b || is_marked_from names (suc n) flags name) (and_true flag)
    ∙ ap (λ b. flag || b) (not_later names distinct (suc n) n flags (omega arith) (omega (arith, within)))
    ∙ or_false flag
flag_tells names distinct n (suc i) (flag ∷ flags) within there =
    let name = bytes_at names (n + suc i) in
    let at = to_suc n i in
    ap (λ b. (flag && b) || is_marked_from names (suc n) flags name) (apart names distinct n (n + suc i) (omega arith) there)
    ∙ ap (λ b. b || is_marked_from names (suc n) flags name) (and_false flag)
    ∙ ap (λ k. is_marked_from names (suc n) flags (bytes_at names k)) (sym at)
    ∙ flag_tells names distinct (suc n) i flags (omega (arith, within)) (omega (arith, there))

pub flag_of : (names : List (List ℕ)) → AreDistinct names → (i : ℕ) (flags : List Bool) → i < length names → (reads : List ℕ → Bool) → AreThose reads names flags → unwrap_or (slice_get flags i) false ≡ reads (bytes_at names i)
flag_of names distinct i flags there reads those =
    let within = those.within in
    sym (flag_tells names distinct 0 i flags (omega (arith, within)) (omega (arith, there)))
    ∙ ap (λ k. is_marked names flags (bytes_at names k)) (from_zero i)
    ∙ those.are (bytes_at names i)

-- The flags tell the same while the unit gets further names.
marked_same : (old new : List (List ℕ)) (n : ℕ) (flags : List Bool) → n + length flags ≤ length old → ((k : ℕ) → k < length old → bytes_at new k ≡ bytes_at old k) → (name : List ℕ) → is_marked_from new n flags name ≡ is_marked_from old n flags name
marked_same old new n [] within same name = refl
marked_same old new n (flag ∷ flags) within same name =
    ap (λ b. (flag && bytes_eq name b) || is_marked_from new (suc n) flags name) (same n (omega (arith, within)))
    ∙ ap (λ b. (flag && bytes_eq name (bytes_at old n)) || b) (marked_same old new (suc n) flags (omega (arith, within)) same name)

still_within : (k m l : ℕ) → k ≤ m → ((n : ℕ) → n < m → n < l) → k ≤ l
still_within zero m l h more = omega arith
still_within (suc k) m l h more = let one = more k (omega (arith, h)) in omega (arith, one)

pub those_still : (reads : List ℕ → Bool) (old new : List (List ℕ)) (flags : List Bool) → ((n : ℕ) → n < length old → n < length new) → ((n : ℕ) → n < length old → bytes_at new n ≡ bytes_at old n) → AreThose reads old flags → AreThose reads new flags
those_still reads old new flags more same those = record {
  within = still_within (length flags) (length old) (length new) those.within more;
  are = λ name. let within = those.within in marked_same old new 0 flags (omega (arith, within)) same name ∙ those.are name;
}

-- Statements, one after the other: what all read with what was there stays `total`.
pub code_on : (u : Nodes) (a b : List Bool) (total : List ℕ → Bool) (at next : ℕ) → Marks (λ name. own_reads name (code_of u at)) u.names a b → code_of u next ≡ next_of (code_of u at)
    → ((name : List ℕ) → (is_marked u.names a name || code_reads name (code_of u at)) ≡ total name) → (name : List ℕ) → (is_marked u.names b name || code_reads name (code_of u next)) ≡ total name
code_on u a b total at next marks is left = λ name.
    ap (λ c. is_marked u.names b name || code_reads name c) is
    ∙ ap (λ x. x || code_reads name (next_of (code_of u at))) (marks name)
    ∙ or_assoc (is_marked u.names a name) (own_reads name (code_of u at)) (code_reads name (next_of (code_of u at)))
    ∙ ap (λ x. is_marked u.names a name || x) (sym (reads_first name (code_of u at)))
    ∙ left name
