-- The instructions of expressions give what the meaning gives.
use Rattle.std.proofs.Common.{◌≡◌, ℕ, List, [], ◌∷◌, ◌++◌, Option, Some, None, refl, sym, ap, ◌∙◌}
use Rattle.std.specs.Prelude.{option_map, option_and_then, reverse, slice_get}
use Rattle.std.proofs.lemmas.List.{append-nil, reverse-reverse}
use Rattle.c_text.specs.CTree.{ExprTree, Args}
use Rattle.c_meaning.specs.declared.values.Pointer.{Pointer}
use Rattle.c_meaning.specs.declared.values.CValue.{CValue}
use Rattle.c_meaning.specs.declared.values.CValue.TheVariants.{Address as address}
use Rattle.c_meaning.specs.CMemory.{Memory}
use Rattle.c_meaning.specs.CExprs.{Surroundings, pointed_place, value, place, arg_values, all_some}
use Rattle.c_meaning.specs.CStep.{as_size, moves, move_given}
use Rattle.c_step_exprs.specs.declared.instrs.Instr.{Instr}
use Rattle.c_step_exprs.specs.Instrs.{exec}
use Rattle.c_step_exprs.specs.Resolving.{value_code, place_code, args_code}
use Rattle.c_step_exprs.specs.Values.{around, AreCalled}
use Rattle.c_step_exprs.proofs.ValueRuns.{value_runs, place_runs, args_run}
use Rattle.c_step_text.specs.Acting.{evaluated, located, given_by, moved_by}

top_value : (o : Option CValue) → option_and_then (λ (stack : List CValue). slice_get stack 0) (option_and_then (λ v. Some (v ∷ [])) o) ≡ o
top_value None = refl
top_value (Some v) = refl

place_in : (o : Option Pointer) → pointed_place (option_map address o) ≡ o
place_in None = refl
place_in (Some p) = refl

in_order : (o : Option (List CValue)) → option_map reverse (option_and_then (λ vs. Some (reverse vs ++ [])) o) ≡ o
in_order None = refl
in_order (Some vs) = ap Some (ap reverse (append-nil (reverse vs)) ∙ reverse-reverse vs)

module _ (s : Surroundings) (calls : ℕ → List CValue → Option CValue) (known : AreCalled s calls) where
  without_rest : (code : List Instr) → exec (around s calls) 0 code [] ≡ exec (around s calls) 0 (code ++ []) []
  without_rest code = ap (λ (is : List Instr). exec (around s calls) 0 is []) (sym (append-nil code))

  pub value_evaluated : (e : ExprTree) → evaluated (around s calls) (value_code s.scope e) ≡ value s e
  value_evaluated e =
      ap (λ (o : Option (List CValue)). option_and_then (λ (stack : List CValue). slice_get stack 0) o) (without_rest (value_code s.scope e) ∙ (value_runs s calls known e).by [] []) ∙ top_value (value s e)

  pub place_located : (e : ExprTree) → located (around s calls) (place_code s.scope e) ≡ place s e
  place_located e =
      ap (λ (o : Option (List CValue)). pointed_place (option_and_then (λ (stack : List CValue). slice_get stack 0) o)) (without_rest (place_code s.scope e) ∙ (place_runs s calls known e).by [] [])
      ∙ (ap pointed_place (top_value (option_map address (place s e))) ∙ place_in (place s e))

  pub args_given : (given : Args) → given_by (around s calls) (args_code s.scope given) ≡ all_some (arg_values s given)
  args_given given =
      ap (λ (o : Option (List CValue)). option_map reverse o) (without_rest (args_code s.scope given) ∙ (args_run s calls known given).by [] []) ∙ in_order (all_some (arg_values s given))

-- `memmove` of values that are all there.
module _ (memory : Memory) where
  abbrev moving : Option (List CValue) → Option Memory
  moving given = moved_by memory given

  no_second : (to : Option Pointer) (n : Option ℕ) → None ≡ moves memory to None n
  no_second None n = refl
  no_second (Some p) n = refl

  no_third : (to from : Option Pointer) → None ≡ moves memory to from None
  no_third None from = refl
  no_third (Some p) None = refl
  no_third (Some p) (Some q) = refl

  too_many : (a b c d : CValue) (o : Option (List CValue)) → moving (option_map (λ vs. a ∷ vs) (option_map (λ vs. b ∷ vs) (option_map (λ vs. c ∷ vs) (option_map (λ vs. d ∷ vs) o)))) ≡ None
  too_many a b c d None = refl
  too_many a b c d (Some vs) = refl

  pub moved_alike : (given : List (Option CValue)) → moving (all_some given) ≡ move_given memory given
  moved_alike [] = refl
  moved_alike (None ∷ []) = refl
  moved_alike (Some a ∷ []) = refl
  moved_alike (None ∷ b ∷ []) = refl
  moved_alike (Some a ∷ None ∷ []) = refl
  moved_alike (Some a ∷ Some b ∷ []) = refl
  moved_alike (None ∷ b ∷ c ∷ []) = refl
  moved_alike (Some a ∷ None ∷ c ∷ []) = no_second (pointed_place (Some a)) (as_size c)
  moved_alike (Some a ∷ Some b ∷ None ∷ []) = no_third (pointed_place (Some a)) (pointed_place (Some b))
  moved_alike (Some a ∷ Some b ∷ Some c ∷ []) = refl
  moved_alike (None ∷ b ∷ c ∷ d ∷ others) = refl
  moved_alike (Some a ∷ None ∷ c ∷ d ∷ others) = refl
  moved_alike (Some a ∷ Some b ∷ None ∷ d ∷ others) = refl
  moved_alike (Some a ∷ Some b ∷ Some c ∷ None ∷ others) = refl
  moved_alike (Some a ∷ Some b ∷ Some c ∷ Some d ∷ others) = too_many a b c d (all_some others)
