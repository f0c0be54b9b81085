-- A jump that has its loop goes out of fewer loops than stand round it.
use Rattle.std.proofs.Common.{◌≡◌, ℕ, suc, ◌+◌, ◌<◌, ◌≤◌, Bool, true, false, ◌||◌, if◌then◌else◌, List, [], ◌∷◌, length, Option, Some, None, refl, sym, ap, ◌∙◌, arith}
use Rattle.wf_text.specs.declared.place.Place.{Place}
use Rattle.wf_ast.specs.declared.parsed.Name.{Name}
use Rattle.wf_names_rules.specs.Jumps.{jump, is_labelled, has_label}
use Rattle.wf_names_resolve.specs.Resolved.{is_label, loops_behind, outwards}
use Rattle.wf_names_laws.specs.Kept.{HasLoop}

labels-same : (text : ℕ) (loop : Option Name) → is_labelled text loop ≡ is_label text loop
labels-same text None = refl
labels-same text (Some label) = refl

-- Loops that stand after the last of the label.
behind-few : (text count : ℕ) (loops : List (Option Name)) → loops_behind text count loops ≤ count + length loops
behind-few text count [] = omega arith
behind-few text count (loop ∷ loops) = by_test (is_label text loop) (behind-few text 0 loops) (behind-few text (count + 1) loops)
  where
    by_test : (t : Bool) → loops_behind text 0 loops ≤ 0 + length loops → loops_behind text (count + 1) loops ≤ count + 1 + length loops
        → loops_behind text (if t then 0 else count + 1) loops ≤ count + suc (length loops)
    by_test true a b = omega (arith, a)
    by_test false a b = omega (arith, b)

behind-fewer : (text count : ℕ) (loops : List (Option Name)) → has_label loops text ≡ true → loops_behind text count loops < length loops
behind-fewer text count [] h = absurd (cc h)
behind-fewer text count (loop ∷ loops) h =
    by_test (is_label text loop) (λ k. behind-fewer text (count + 1) loops k) (sym (ap (λ t. t || has_label loops text) (labels-same text loop)) ∙ h)
  where
    by_test : (t : Bool) → (has_label loops text ≡ true → loops_behind text (count + 1) loops < length loops) → (t || has_label loops text) ≡ true
        → loops_behind text (if t then 0 else count + 1) loops < suc (length loops)
    by_test true more k = let b = behind-few text 0 loops in omega (arith, b)
    by_test false more k = let b = more k in omega (arith, b)

pub outwards-below : (loops : List (Option Name)) (label : Option Name) (at : Place) → HasLoop (jump loops label at) → outwards loops label < length loops
outwards-below [] None at h = absurd h
outwards-below (loop ∷ loops) None at h = omega arith
outwards-below loops (Some label) at h = behind-fewer label.text.0 0 loops h
