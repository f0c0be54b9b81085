-- Operands that a unit has.
use Rattle.std.proofs.Common.{◌≡◌, ◌+◌, ◌-◌, ◌≤◌, ℕ, zero, suc, ◌<◌, Bool, List, [], ◌∷◌, ◌++◌, length, get_or, refl, ap, subst, ◌∙◌, arith}
use Rattle.c_text.specs.declared.ids.CExprId.{CExprId}
use Rattle.c_text.specs.CFits.{HasArg, HasArgs, HasExprs}
use Rattle.c_text.specs.declared.nodes.CArg.{CArg}
use Rattle.c_text.specs.CNodes.{Nodes, expr_of, operands_in}
use Rattle.c_text.specs.CTree.{ExprTree, Operands, no_operand, operand}
use Rattle.wf_exprs.specs.Exprs.{with_operand, byte_ahead, bytes_ahead}
use Rattle.wf_exprs.specs.Grown.{Grows, HasExpr}
use Rattle.wf_exprs.specs.Names.{Names}
use Rattle.wf_exprs.proofs.ByteLaws.{more_bytes}
use Rattle.wf_exprs_nodes.specs.Trees.{HasOperands}

pub has_there : (nodes : Nodes) (es : List CExprId) (ts : Operands) → HasOperands nodes es ts → HasExprs (length nodes.exprs) es
has_there nodes [] no_operand h = h
has_there nodes (e ∷ es) (operand t ts) h = (h.0.there, has_there nodes es ts h.1)
has_there nodes [] (operand t ts) h = absurd h
has_there nodes (e ∷ es) no_operand h = absurd h

pub has_is : (nodes : Nodes) (es : List CExprId) (ts : Operands) → HasOperands nodes es ts → operands_in (expr_of nodes) es ≡ ts
has_is nodes [] no_operand h = refl
has_is nodes (e ∷ es) (operand t ts) h = ap (λ x. operand x (operands_in (expr_of nodes) es)) h.0.is ∙ ap (operand t) (has_is nodes es ts h.1)
has_is nodes [] (operand t ts) h = absurd h
has_is nodes (e ∷ es) no_operand h = absurd h

pub has_kept : (a b : Nodes) (es : List CExprId) (ts : Operands) → Grows a b → HasOperands a es ts → HasOperands b es ts
has_kept a b [] no_operand g h = h
has_kept a b (e ∷ es) (operand t ts) g h = (record { there = g.more_exprs e.0 h.0.there; is = g.exprs e.0 h.0.there ∙ h.0.is }, has_kept a b es ts g h.1)
has_kept a b [] (operand t ts) g h = absurd h
has_kept a b (e ∷ es) no_operand g h = absurd h

pub has_pushed : (nodes : Nodes) (es : List CExprId) (ts : Operands) (e : CExprId) (t : ExprTree) → HasOperands nodes es ts → HasExpr nodes e.0 t → HasOperands nodes (es ++ e ∷ []) (with_operand ts t)
has_pushed nodes [] no_operand e t h k = (k, h)
has_pushed nodes (x ∷ es) (operand s ts) e t h k = (h.0, has_pushed nodes es ts e t h.1 k)
has_pushed nodes [] (operand s ts) e t h k = absurd h
has_pushed nodes (x ∷ es) no_operand e t h k = absurd h

pub there_kept : (a b : Nodes) (es : List CExprId) → Grows a b → HasExprs (length a.exprs) es → HasExprs (length b.exprs) es
there_kept a b [] g h = h
there_kept a b (e ∷ es) g h = (g.more_exprs e.0 h.0, there_kept a b es g h.1)

pub same_kept : (a b : Nodes) (es : List CExprId) → Grows a b → HasExprs (length a.exprs) es → operands_in (expr_of b) es ≡ operands_in (expr_of a) es
same_kept a b [] g h = refl
same_kept a b (e ∷ es) g h = ap (λ x. operand x (operands_in (expr_of b) es)) (g.exprs e.0 h.0) ∙ ap (operand (expr_of a e.0)) (same_kept a b es g h.1)

pub each_arg : (nodes : Nodes) (below : ℕ) (args : List CArg) (i : ℕ) (d : CArg) → HasArgs nodes below args → i < length args → HasArg nodes below (get_or args i d)
each_arg nodes below [] i d h l = absurd (omega (arith, l))
each_arg nodes below (a ∷ args) zero d h l = h.0
each_arg nodes below (a ∷ args) (suc i) d h l = each_arg nodes below args i d h.1 (omega (arith, l))

-- One more byte of a number.
pub bytes_pushed : (old new : Nodes) (names : Names) (a bits : ℕ) (big : Bool) (below : ℕ) (es : List CExprId) (e : CExprId) → 2 ≤ below → Grows old new
    → HasOperands old es (bytes_ahead names a bits big 2 (below - 2)) → HasExpr new e.0 (byte_ahead names a bits big below)
    → HasOperands new (es ++ e ∷ []) (bytes_ahead names a bits big 2 (below + 1 - 2))
bytes_pushed old new names a bits big below es e le g h k =
    let one_more : suc (below - 2) ≡ below + 1 - 2 = omega (arith, le) in
    let all = more_bytes names a bits big 2 (below - 2) below (omega (arith, le)) ∙ ap (bytes_ahead names a bits big 2) one_more in
    let P : Operands → Type 0 = λ ts. HasOperands new (es ++ e ∷ []) ts in
    subst P all (has_pushed new es _ e _ (has_kept old new es _ g h) k)
