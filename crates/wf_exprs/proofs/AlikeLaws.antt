-- Operands that are alike one by one, and those that a unit has.
use Rattle.std.proofs.Common.{◌≡◌, ℕ, zero, suc, ◌<◌, Bool, true, false, ◌&&◌, List, [], ◌∷◌, length, get_or, refl, ap, ◌∙◌, arith}
use Rattle.c_text.specs.declared.ids.CExprId.{CExprId}
use Rattle.c_text.specs.CFits.{HasExprs}
use Rattle.c_text.specs.CNodes.{operands_in}
use Rattle.c_text.specs.CTree.{ExprTree}
use Rattle.wf_exprs.specs.Exprs.{alike, all_alike}

and_false : (b : Bool) → (b && false) ≡ false
and_false true = refl
and_false false = refl

-- Of lists that aren't of one length not all are alike.
pub lengths_differ : (look : ℕ → ExprTree) (es others : List CExprId) → (length es ≡ length others → ⊥) → all_alike (operands_in look es) (operands_in look others) ≡ false
lengths_differ look [] [] h = absurd (h refl)
lengths_differ look [] (o ∷ others) h = refl
lengths_differ look (e ∷ es) [] h = refl
lengths_differ look (e ∷ es) (o ∷ others) h =
    ap (λ b. alike (look e.0) (look o.0) && b) (lengths_differ look es others (λ same. h (ap suc same))) ∙ and_false (alike (look e.0) (look o.0))

pub each_below : (below : ℕ) (es : List CExprId) (i : ℕ) (d : CExprId) → HasExprs below es → i < length es → (get_or es i d).0 < below
each_below below [] i d h l = absurd (omega (arith, l))
each_below below (e ∷ es) zero d h l = h.0
each_below below (e ∷ es) (suc i) d h l = each_below below es i d h.1 (omega (arith, l))
