-- The law of expressions.
use Rattle.std.proofs.Common.{◌≡◌, ℕ, ◌^◌, Some, ap}
use Rattle.std.specs.Prelude.{true}
use Rattle.wf_num.specs.declared.c_arithmetic.CTy.{CTy}
use Rattle.wf_num.specs.CArithmetic.{modulo, c_value}
use Rattle.wf_num.proofs.CLaws.{c_value-whole}
use Rattle.wf_ast.specs.WellTyped.{is_width}
use Rattle.c_meaning.specs.declared.cells.Cell.TheVariants.{Num as num}
use Rattle.c_meaning.specs.declared.values.CValue.TheVariants.{Numeric as numeric}
use Rattle.c_meaning.specs.CValues.{number}
use Rattle.c_meaning.specs.CMemory.{cell_of}
use Rattle.c_meaning.specs.CExprs.{cell_type}
use Rattle.wf_exprs.specs.Words.{uint_of}
use Rattle.wf_exprs_laws.specs.ExprLaw.{IsExprLaw, IsStored}
use Rattle.wf_exprs_laws.proofs.CNumbers.{by_width}
use Rattle.wf_exprs_laws.proofs.Operands.{small-mod, in-type, below-limit, the-number}
use Rattle.wf_exprs_laws.proofs.Trees.{numbers, slices, given-number}
use Rattle.wf_exprs_laws.proofs.Conditions.{status-gives, conditions}

pub expr_law : IsExprLaw
expr_law = record {
  numbers = λ p m s x st t n u h e. the-number x _ _ n (numbers p m s x st t n u h e).is;
  assigned = λ p m s x st t n u h e. let g = given-number p m s x st t n u h e in (g.0, the-number x _ g.0 n g.1);
  slices = λ p m s x st t cells u h e. let g = slices p m s x st t cells u h e in
      (record { at = g.at; is_pointer = g.is_pointer; counts = g.counts.gives; stands = g.stands }, in-type _ cells.count g.counts.small);
  statuses = λ p m s x st t n u h e. (status-gives p m s x st t n u h e).1;
  conditions = λ p m s x st t b u h e. let g = conditions p m s x st t b u h e in (g.at, (g.value, g.is));
  flags = λ p m s x st t b u h e. (let g = conditions p m s x st t b u h e in rw g.value g.stored);
}

-- A number is stored as it is.
stored : (bits : ℕ) (ty : CTy) (n : ℕ) → is_width bits ≡ true → modulo (c_value ty n) (2 ^ bits) ≡ n → cell_of (cell_type (uint_of bits)) (numeric (number ty n)) ≡ Some (num n)
stored bits ty n w = by_width (λ bits. modulo (c_value ty n) (2 ^ bits) ≡ n → cell_of (cell_type (uint_of bits)) (numeric (number ty n)) ≡ Some (num n)) bits w
    (λ e. ap (λ k. Some (num k)) e) (λ e. ap (λ k. Some (num k)) e) (λ e. ap (λ k. Some (num k)) e) (λ e. ap (λ k. Some (num k)) e)

pub is_stored : IsStored
is_stored bits ty n w h k = stored bits ty n w (rw (c_value-whole ty n (below-limit ty n h)) (small-mod bits n w k))
