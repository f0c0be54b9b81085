-- Instructions that are passed over.
use Rattle.std.proofs.Common.{◌≡◌, ℕ, zero, suc, ◌+◌, ◌<◌, ◌≤◌, List, [], ◌∷◌, length, Some, refl, ap, ◌∙◌, arith, drop}
use Rattle.std.specs.Prelude.{option_and_then, slice_index_or}
use Rattle.std.proofs.lemmas.List.{drop-drop, drop_more, length-drop}
use Rattle.c_meaning.specs.declared.values.CValue.{CValue}
use Rattle.c_step_exprs.specs.declared.instrs.Instr.{Instr}
use Rattle.c_step_exprs.specs.Instrs.{Around, step, exec}
use Rattle.c_step_exprs.specs.Running.{run_from}

skips : (a : Around) (skip : ℕ) (code : List Instr) (stack : List CValue) → exec a skip code stack ≡ exec a 0 (drop skip code) stack
skips a zero code stack = refl
skips a (suc skip) [] stack = refl
skips a (suc skip) (i ∷ is) stack = skips a skip is stack

past : (a : Around) (skip : ℕ) (code : List Instr) (stack : List CValue) → length code ≤ skip → exec a skip code stack ≡ Some stack
past a skip [] stack h = refl
past a zero (i ∷ is) stack h = absurd (omega (arith, h))
past a (suc skip) (i ∷ is) stack h = past a skip is stack (omega (arith, h))

-- The run from an instruction is what it does, and then the run after what it passes over.
first_step : (a : Around) (code : List Instr) (at : ℕ) (d : Instr) (stack : List CValue) → at < length code
    → run_from a code at stack ≡ option_and_then (λ (next : ℕ × List CValue). exec a next.0 (drop (at + 1) code) next.1) (step a (slice_index_or code at d) stack)
first_step a code at d stack h = ap (λ (is : List Instr). exec a 0 is stack) (drop_more code at d h)

pub ends_there : (a : Around) (code : List Instr) (at skip : ℕ) (d : Instr) (stack now : List CValue) → at < length code
    → step a (slice_index_or code at d) stack ≡ Some (skip, now) → length code ≤ skip + at + 1 → run_from a code at stack ≡ Some now
ends_there a code at skip d stack now h s l =
    first_step a code at d stack h ∙ (ap (option_and_then (λ (next : ℕ × List CValue). exec a next.0 (drop (at + 1) code) next.1)) s
    ∙ past a skip (drop (at + 1) code) now (omega (arith, l, length-drop (at + 1) code)))

pub goes_there : (a : Around) (code : List Instr) (at skip : ℕ) (d : Instr) (stack now : List CValue) → at < length code
    → step a (slice_index_or code at d) stack ≡ Some (skip, now) → run_from a code at stack ≡ run_from a code (at + (skip + 1)) now
goes_there a code at skip d stack now h s =
    let n : (at + 1) + skip ≡ at + (skip + 1) = omega arith in
    first_step a code at d stack h ∙ (ap (option_and_then (λ (next : ℕ × List CValue). exec a next.0 (drop (at + 1) code) next.1)) s
    ∙ (skips a skip (drop (at + 1) code) now ∙ (ap (λ (is : List Instr). exec a 0 is now) (drop-drop skip (at + 1) code) ∙ ap (λ (m : ℕ). run_from a code m now) n)))
