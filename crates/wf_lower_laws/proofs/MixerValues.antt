-- The values of expressions in the body of the mixer's method, by the law of expressions.
use Rattle.std.proofs.Common.{◌≡◌, true, false, List, [], Some, refl}
use Rattle.std.specs.Prelude.{option_and_then}
use Rattle.std.specs.Fmt.{digits}
use Rattle.wf_num.specs.declared.c_arithmetic.CTy.TheVariants.{Int, U32}
use Rattle.c_meaning.specs.declared.cells.Cell.TheVariants.{Num as num}
use Rattle.c_meaning.specs.declared.cells.CellType.TheVariants.{Flag as flag}
use Rattle.c_meaning.specs.declared.values.CValue.{CValue}
use Rattle.c_meaning.specs.declared.values.CValue.TheVariants.{Address as address}
use Rattle.c_meaning.specs.CMemory.{cell_of}
use Rattle.c_meaning.specs.CTypes.{function_named}
use Rattle.c_meaning.specs.CExprs.{value}
use Rattle.c_meaning.specs.CCall.{expression_call, expression_meaning}
use Rattle.wf_exprs.specs.Exprs.{saturating_name, lowered, lowered_slice, lowered_cond}
use Rattle.wf_exprs_laws.specs.ExprLaw.{IsTheNumber, IsSum, PairStands, HasConstant}
use Rattle.wf_exprs_laws.specs.HelperLaw.{helper}
use Rattle.wf_exprs_laws.proofs.Law.{expr_law}
use Rattle.wf_exprs_laws.proofs.Saturating.{helper_law}
use Rattle.wf_lower_laws.specs.MixerExample.{mix, mixer, names, middle, middle_bytes, stays_loud, goes_silent, raised, squared, mixed, third, second_byte, Holds, seen, program, inside}
use Rattle.wf_lower_laws.proofs.MixerLemmas.{stands}

-- ---- what the expressions use

helper_there : function_named inside.scope.functions (saturating_name true 8) ≡ Some (helper true 8)
unfolding digits
helper_there = refl

helper_called : (given : List CValue) → inside.called (saturating_name true 8) given ≡ expression_meaning program (helper true 8) (expression_call program []) inside.memory given
unfolding digits
helper_called given = refl

pub operates : IsSum inside 8
operates e f ty uy m n w i j k l = helper_law.in_expressions program true 8 (expression_call program []) inside refl helper_there helper_called e f ty uy m n i j k l

pub five_there : HasConstant inside 5
unfolding digits
five_there = refl

-- ---- numbers, a slice and conditions

pub sum_gives : IsTheNumber inside (lowered names mixed).code Int 255
sum_gives = expr_law.numbers mixer mix seen inside stands mixed 255 (operates, (tt, (tt, tt))) refl refl

pub element_gives : IsTheNumber inside (lowered names third).code Int 7
element_gives = expr_law.numbers mixer mix seen inside stands third 7 (tt, tt) refl refl

pub shift_gives : IsTheNumber inside (lowered names raised).code U32 1048560
shift_gives = expr_law.numbers mixer mix seen inside stands raised 1048560 (tt, (tt, tt)) refl refl

pub product_gives : IsTheNumber inside (lowered names squared).code Int 1
product_gives = expr_law.numbers mixer mix seen inside stands squared 1 (tt, (tt, tt)) refl refl

pub part_gives : PairStands seen inside 8 middle_bytes (lowered_slice names middle).pointer (lowered_slice names middle).length.code Int
part_gives = (expr_law.slices mixer mix seen inside stands middle middle_bytes (tt, (tt, tt)) refl refl).0

pub part_begins : value inside (lowered_slice names middle).pointer ≡ Some (address second_byte)
part_begins = refl

pub condition_gives : Holds stays_loud true
condition_gives = expr_law.conditions mixer mix seen inside stands stays_loud true ((tt, ((tt, tt), tt)), (tt, five_there)) refl refl

pub negation_gives : Holds goes_silent false
negation_gives = expr_law.conditions mixer mix seen inside stands goes_silent false ((tt, ((tt, tt), tt)), (tt, five_there)) refl refl

-- ---- what the flag's cell has once they are assigned to it

pub kept_true : option_and_then (cell_of flag) (value inside (lowered_cond names stays_loud)) ≡ Some (num 1)
kept_true = expr_law.flags mixer mix seen inside stands stays_loud true ((tt, ((tt, tt), tt)), (tt, five_there)) refl refl

pub kept_false : option_and_then (cell_of flag) (value inside (lowered_cond names goes_silent)) ≡ Some (num 0)
kept_false = expr_law.flags mixer mix seen inside stands goes_silent false ((tt, ((tt, tt), tt)), (tt, five_there)) refl refl
