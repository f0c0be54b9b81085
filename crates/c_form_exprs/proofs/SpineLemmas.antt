-- Spines grow and shrink at their end.
use Rattle.std.proofs.Common.{◌≡◌, ◌≤◌, List, [], ◌∷◌, ◌++◌, refl, sym, ap, subst, arith}
use Rattle.c_text.specs.declared.ids.CExprId.{CExprId}
use Rattle.c_text.specs.CNodes.{Nodes}
use Rattle.c_form_exprs.specs.Spines.{IsLink, Spine}

pub spine_push : (nodes : Nodes) (e : CExprId) (links : List CExprId) (at of : CExprId) → Spine nodes e links at → IsLink nodes at of → Spine nodes e (links ++ at ∷ []) of
spine_push nodes e [] at of h link = (h, (of, link, refl))
spine_push nodes e (x ∷ xs) at of h link = (h.0, (h.1.0, h.1.1, spine_push nodes h.1.0 xs at of h.1.2 link))

pub record Popped (nodes : Nodes) (e : CExprId) (links : List CExprId) (x at : CExprId) : Type 0 where
  pub spine : Spine nodes e links x
  pub link : IsLink nodes x at
  pub below : x.0 ≤ e.0

pub spine_pop : (nodes : Nodes) (e : CExprId) (links : List CExprId) (x at : CExprId) → Spine nodes e (links ++ x ∷ []) at → Popped nodes e links x at
spine_pop nodes e [] x at h = record {
  spine = h.0;
  link = subst (λ (y : CExprId). IsLink nodes x y) (sym h.1.2) h.1.1;
  below = (let p : x.0 ≡ e.0 = ap (λ (y : CExprId). y.0) h.0 in omega (arith, p));
}
spine_pop nodes e (y ∷ ys) x at h =
    let rest = spine_pop nodes h.1.0 ys x at h.1.2 in
    record {
      spine = (h.0, (h.1.0, h.1.1, rest.spine));
      link = rest.link;
      below = (let p : y.0 ≡ e.0 = ap (λ (z : CExprId). z.0) h.0 in let q = h.1.1.below in let r = rest.below in omega (arith, p, q, r));
    }
