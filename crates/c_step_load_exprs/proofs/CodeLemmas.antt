-- Instructions at the end of a list, and in the place of others.
use Rattle.std.proofs.Common.{◌≡◌, ◌+◌, ◌-◌, ℕ, suc, List, [], ◌∷◌, ◌++◌, length, Result, Ok, Err, OnOk, sym, ap, ◌∙◌, arith}
use Rattle.std.specs.List.{slice_set}
use Rattle.wf_text.specs.declared.faults.NoMemory.{NoMemory}
use Rattle.std.proofs.lemmas.List.{append_assoc, length-append}
use Rattle.std.proofs.Math.Seq.{set-append_seam}
use Rattle.c_step_exprs.specs.declared.instrs.Instr.{Instr}
use Rattle.c_step_exprs.specs.declared.instrs.Instr.TheVariants as does
use Rattle.c_step_exprs.specs.declared.instrs.Test.{Test}
use Rattle.c_step_exprs.specs.declared.instrs.Test.TheVariants as tests
use Rattle.c_step_exprs.specs.Resolving.{arms_code}
use Rattle.c_step_load_exprs.specs.Codes.{open_arms}

pub set_at : (xs front behind : List Instr) (old it : Instr) (at : ℕ) → xs ≡ front ++ old ∷ behind → at ≡ length front → slice_set xs at it ≡ front ++ it ∷ behind
set_at xs front behind old it at is n = ap (λ (ys : List Instr). slice_set ys at it) is ∙ (ap (λ (k : ℕ). slice_set (front ++ old ∷ behind) k it) n ∙ set-append_seam front old behind it)

-- Two after another, and three.
pub both : (xs ys zs a b : List Instr) → ys ≡ xs ++ a → zs ≡ ys ++ b → zs ≡ xs ++ (a ++ b)
both xs ys zs a b e f = f ∙ (ap (λ (us : List Instr). us ++ b) e ∙ append_assoc xs a b)

pub all_three : (ws xs ys zs a b c : List Instr) → xs ≡ ws ++ a → ys ≡ xs ++ b → zs ≡ ys ++ c → zs ≡ ws ++ (a ++ (b ++ c))
all_three ws xs ys zs a b c e f g = both ws xs zs a (b ++ c) e (both xs ys zs b c f g)

-- Both arms of `?:`, once their common type is told.
pub arms_closed : (first second third fourth fifth front met unmet : List Instr) (x : Instr) (from middle end : ℕ)
    → first ≡ front ++ open_arms met unmet → from ≡ length front → middle ≡ length front + 1 + length met → end ≡ length first
    → ((f b : List Instr) (o : Instr) → first ≡ f ++ o ∷ b → from ≡ length f → second ≡ f ++ does.Test tests.Unless (middle + 1 - from) ∷ b)
    → ((f b : List Instr) (o : Instr) → second ≡ f ++ o ∷ b → middle ≡ length f → third ≡ f ++ x ∷ b)
    → ((f b : List Instr) (o : Instr) → third ≡ f ++ o ∷ b → middle + 1 ≡ length f → fourth ≡ f ++ does.Skip (end - middle - 1) ∷ b)
    → fifth ≡ fourth ++ x ∷ []
    → fifth ≡ front ++ arms_code (met ++ x ∷ []) (unmet ++ x ∷ [])
arms_closed first second third fourth fifth front met unmet x from middle end e at_from at_middle at_end one two three four =
    let test : Instr = does.Test tests.Unless (middle + 1 - from) in
    let skip : Instr = does.Skip (end - middle - 1) in
    let s1 : second ≡ front ++ does.Test tests.Unless (middle + 1 - from) ∷ (met ++ does.Stuck ∷ does.Stuck ∷ unmet) = one front (met ++ does.Stuck ∷ does.Stuck ∷ unmet) does.Stuck e at_from in
    let s2 : second ≡ (front ++ does.Test tests.Unless (middle + 1 - from) ∷ met) ++ does.Stuck ∷ does.Stuck ∷ unmet = s1 ∙ sym (append_assoc front (does.Test tests.Unless (middle + 1 - from) ∷ met) (does.Stuck ∷ does.Stuck ∷ unmet)) in
    let l2 : length (front ++ does.Test tests.Unless (middle + 1 - from) ∷ met) ≡ length front + suc (length met) = length-append front (does.Test tests.Unless (middle + 1 - from) ∷ met) in
    let s3 : third ≡ (front ++ does.Test tests.Unless (middle + 1 - from) ∷ met) ++ x ∷ does.Stuck ∷ unmet = two (front ++ does.Test tests.Unless (middle + 1 - from) ∷ met) (does.Stuck ∷ unmet) does.Stuck s2 (omega (arith, at_middle, l2)) in
    let s4 : third ≡ ((front ++ does.Test tests.Unless (middle + 1 - from) ∷ met) ++ x ∷ []) ++ does.Stuck ∷ unmet = s3 ∙ sym (append_assoc (front ++ does.Test tests.Unless (middle + 1 - from) ∷ met) (x ∷ []) (does.Stuck ∷ unmet)) in
    let l4 : length ((front ++ does.Test tests.Unless (middle + 1 - from) ∷ met) ++ x ∷ []) ≡ length (front ++ does.Test tests.Unless (middle + 1 - from) ∷ met) + 1 = length-append (front ++ does.Test tests.Unless (middle + 1 - from) ∷ met) (x ∷ []) in
    let s5 : fourth ≡ ((front ++ does.Test tests.Unless (middle + 1 - from) ∷ met) ++ x ∷ []) ++ does.Skip (end - middle - 1) ∷ unmet = three ((front ++ does.Test tests.Unless (middle + 1 - from) ∷ met) ++ x ∷ []) unmet does.Stuck s4 (omega (arith, at_middle, l2, l4)) in
    let whole : ((front ++ does.Test tests.Unless (middle + 1 - from) ∷ met) ++ x ∷ []) ++ (does.Skip (end - middle - 1) ∷ (unmet ++ x ∷ [])) ≡ front ++ (does.Test tests.Unless (middle + 1 - from) ∷ ((met ++ x ∷ []) ++ does.Skip (end - middle - 1) ∷ (unmet ++ x ∷ []))) =
    ap (λ (us : List Instr). us ++ (does.Skip (end - middle - 1) ∷ (unmet ++ x ∷ []))) (append_assoc front (does.Test tests.Unless (middle + 1 - from) ∷ met) (x ∷ [])) ∙ append_assoc front (does.Test tests.Unless (middle + 1 - from) ∷ (met ++ x ∷ [])) (does.Skip (end - middle - 1) ∷ (unmet ++ x ∷ [])) in
    let lm : length (met ++ x ∷ []) ≡ length met + 1 = length-append met (x ∷ []) in
    let lu : length (unmet ++ x ∷ []) ≡ length unmet + 1 = length-append unmet (x ∷ []) in
    let le : length first ≡ length front + suc (length met + suc (suc (length unmet))) = ap length e ∙ (length-append front (open_arms met unmet) ∙ ap (λ (n : ℕ). length front + suc n) (length-append met (does.Stuck ∷ does.Stuck ∷ unmet))) in
    let n : middle + 1 - from ≡ suc (length (met ++ x ∷ [])) = omega (arith, at_from, at_middle, lm) in
    let m : end - middle - 1 ≡ length (unmet ++ x ∷ []) = omega (arith, at_middle, at_end, le, lu) in
    four ∙ (ap (λ (us : List Instr). us ++ x ∷ []) s5 ∙ (append_assoc ((front ++ does.Test tests.Unless (middle + 1 - from) ∷ met) ++ x ∷ []) (does.Skip (end - middle - 1) ∷ unmet) (x ∷ []) ∙ (whole
    ∙ (ap (λ (j : ℕ). front ++ (does.Test tests.Unless j ∷ ((met ++ x ∷ []) ++ does.Skip (end - middle - 1) ∷ (unmet ++ x ∷ [])))) n
    ∙ ap (λ (j : ℕ). front ++ (does.Test tests.Unless (suc (length (met ++ x ∷ []))) ∷ ((met ++ x ∷ []) ++ does.Skip j ∷ (unmet ++ x ∷ [])))) m))))

-- What holds after a step that was made holds of what follows from it.
pub on_ok : {A : Type 0} (r : Result A NoMemory) (P Q : Type 0) → (P → Q) → OnOk r P → OnOk r Q
on_ok (Ok x) P Q f h = f h
on_ok (Err fault) P Q f h = h

pub behind_one : (old first second m : List Instr) (x : Instr) → first ≡ old ++ x ∷ [] → second ≡ first ++ m → length second ≡ length old + 1 + length m
behind_one old first second m x e f =
    let l : length second ≡ length old + suc (length m) = ap length (both old first second (x ∷ []) m e f) ∙ length-append old (x ∷ m) in
    omega (arith, l)
