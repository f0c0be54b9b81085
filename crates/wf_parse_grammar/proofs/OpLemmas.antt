-- Operators and numbers that a test calls the same are the same.
use Rattle.std.proofs.Common.{◌≡◌, ◌∙◌, ap, sym, ℕ, true, refl, nat_eq, arith, zero, suc}
use Rattle.std.proofs.lemmas.Bool.Decides.{nat_tests}
use Rattle.wf_ast.specs.declared.operators.Op.{Op}
use Rattle.wf_ast.specs.declared.operators.Op.TheVariants as ops
use Rattle.wf_ast.specs.Operators.{same_op, op_number}

pub eq-true : (a b : ℕ) → nat_eq a b ≡ true → a ≡ b
eq-true a b e = grind (arith, nat_tests)

abbrev op_at : ℕ → Op
op_at zero = ops.Add
op_at (suc zero) = ops.Mul
op_at (suc (suc zero)) = ops.BitAnd
op_at (suc (suc (suc zero))) = ops.BitOr
op_at (suc (suc (suc (suc zero)))) = ops.BitXor
op_at (suc (suc (suc (suc (suc zero))))) = ops.And
op_at (suc (suc (suc (suc (suc (suc zero)))))) = ops.Or
op_at (suc (suc (suc (suc (suc (suc (suc zero))))))) = ops.Sub
op_at (suc (suc (suc (suc (suc (suc (suc (suc zero)))))))) = ops.Div
op_at (suc (suc (suc (suc (suc (suc (suc (suc (suc zero))))))))) = ops.Rem
op_at (suc (suc (suc (suc (suc (suc (suc (suc (suc (suc zero)))))))))) = ops.Shl
op_at (suc (suc (suc (suc (suc (suc (suc (suc (suc (suc (suc zero))))))))))) = ops.Shr
op_at (suc (suc (suc (suc (suc (suc (suc (suc (suc (suc (suc (suc zero)))))))))))) = ops.Same
op_at (suc (suc (suc (suc (suc (suc (suc (suc (suc (suc (suc (suc (suc zero))))))))))))) = ops.Differs
op_at (suc (suc (suc (suc (suc (suc (suc (suc (suc (suc (suc (suc (suc (suc zero)))))))))))))) = ops.Less
op_at (suc (suc (suc (suc (suc (suc (suc (suc (suc (suc (suc (suc (suc (suc (suc zero))))))))))))))) = ops.LessOrSame
op_at (suc (suc (suc (suc (suc (suc (suc (suc (suc (suc (suc (suc (suc (suc (suc (suc zero)))))))))))))))) = ops.Greater
op_at (suc (suc (suc (suc (suc (suc (suc (suc (suc (suc (suc (suc (suc (suc (suc (suc (suc zero))))))))))))))))) = ops.GreaterOrSame
op_at (suc (suc (suc (suc (suc (suc (suc (suc (suc (suc (suc (suc (suc (suc (suc (suc (suc (suc zero)))))))))))))))))) = ops.ModAdd
op_at (suc (suc (suc (suc (suc (suc (suc (suc (suc (suc (suc (suc (suc (suc (suc (suc (suc (suc (suc zero))))))))))))))))))) = ops.ModSub
op_at (suc (suc (suc (suc (suc (suc (suc (suc (suc (suc (suc (suc (suc (suc (suc (suc (suc (suc (suc (suc zero)))))))))))))))))))) = ops.ModMul
op_at (suc (suc (suc (suc (suc (suc (suc (suc (suc (suc (suc (suc (suc (suc (suc (suc (suc (suc (suc (suc (suc zero))))))))))))))))))))) = ops.ModShl
op_at (suc (suc (suc (suc (suc (suc (suc (suc (suc (suc (suc (suc (suc (suc (suc (suc (suc (suc (suc (suc (suc (suc zero)))))))))))))))))))))) = ops.SatAdd
op_at (suc (suc (suc (suc (suc (suc (suc (suc (suc (suc (suc (suc (suc (suc (suc (suc (suc (suc (suc (suc (suc (suc (suc zero))))))))))))))))))))))) = ops.SatSub
op_at _ = ops.Add

op_at-number : (o : Op) → op_at (op_number o) ≡ o
op_at-number ops.Add = refl
op_at-number ops.Mul = refl
op_at-number ops.BitAnd = refl
op_at-number ops.BitOr = refl
op_at-number ops.BitXor = refl
op_at-number ops.And = refl
op_at-number ops.Or = refl
op_at-number ops.Sub = refl
op_at-number ops.Div = refl
op_at-number ops.Rem = refl
op_at-number ops.Shl = refl
op_at-number ops.Shr = refl
op_at-number ops.Same = refl
op_at-number ops.Differs = refl
op_at-number ops.Less = refl
op_at-number ops.LessOrSame = refl
op_at-number ops.Greater = refl
op_at-number ops.GreaterOrSame = refl
op_at-number ops.ModAdd = refl
op_at-number ops.ModSub = refl
op_at-number ops.ModMul = refl
op_at-number ops.ModShl = refl
op_at-number ops.SatAdd = refl
op_at-number ops.SatSub = refl

pub same_op-true : (a b : Op) → same_op a b ≡ true → a ≡ b
same_op-true a b e = sym (op_at-number a) ∙ ap op_at (eq-true (op_number a) (op_number b) e) ∙ op_at-number b

pub eq-self : (a : ℕ) → nat_eq a a ≡ true
eq-self a = grind (arith, nat_tests)
