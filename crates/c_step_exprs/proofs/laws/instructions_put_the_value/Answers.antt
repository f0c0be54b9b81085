use Rattle.std.proofs.Common.{◌≡◌, List, [], ◌∷◌, ◌++◌, Option, Some, None, refl, sym, ap, ◌∙◌}
use Rattle.std.specs.Prelude.{option_map, option_and_then, reverse}
use Rattle.std.proofs.lemmas.List.{append-nil}
use Rattle.c_meaning.specs.declared.values.Pointer.{Pointer}
use Rattle.c_meaning.specs.declared.values.CValue.{CValue}
use Rattle.c_meaning.specs.declared.values.CValue.TheVariants.{Address as address}
use Rattle.c_meaning.specs.CExprs.{value, place, arg_values, all_some}
use Rattle.c_step_exprs.specs.declared.instrs.Instr.{Instr}
use Rattle.c_step_exprs.specs.Instrs.{exec}
use Rattle.c_step_exprs.specs.Resolving.{value_code, place_code, args_code}
use Rattle.c_step_exprs.specs.Values.{around}
use Rattle.c_step_exprs.proofs.ValueRuns.{value_runs, place_runs, args_run}
use Rattle.c_step_exprs.proofs.laws.instructions_put_the_value.Goals as goal

one : (stack : List CValue) (o : Option CValue) → option_and_then (λ v. Some (v ∷ stack)) o ≡ option_map (λ v. v ∷ stack) o
one stack None = refl
one stack (Some v) = refl

one_place : (stack : List CValue) (o : Option Pointer) → option_and_then (λ v. Some (v ∷ stack)) (option_map address o) ≡ option_map (λ p. address p ∷ stack) o
one_place stack None = refl
one_place stack (Some p) = refl

pub returns-clause-value : goal.returns-clause-value
returns-clause-value c = λ s calls e stack known.
    ap (λ (is : List Instr). exec (around s calls) 0 is stack) (sym (append-nil (value_code s.scope e))) ∙ ((value_runs s calls known e).by [] stack ∙ one stack (value s e))

pub returns-clause-place : goal.returns-clause-place
returns-clause-place c = λ s calls e stack known.
    ap (λ (is : List Instr). exec (around s calls) 0 is stack) (sym (append-nil (place_code s.scope e))) ∙ ((place_runs s calls known e).by [] stack ∙ one_place stack (place s e))

many : (stack : List CValue) (o : Option (List CValue)) → option_and_then (λ vs. Some (reverse vs ++ stack)) o ≡ option_map (λ vs. reverse vs ++ stack) o
many stack None = refl
many stack (Some vs) = refl

pub returns-clause-args : goal.returns-clause-args
returns-clause-args c = λ s calls given stack known.
    ap (λ (is : List Instr). exec (around s calls) 0 is stack) (sym (append-nil (args_code s.scope given))) ∙ ((args_run s calls known given).by [] stack ∙ many stack (all_some (arg_values s given)))
