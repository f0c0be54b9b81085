-- What holds of every statement of a block and of the blocks in it, each with what follows it.
use Rattle.std.proofs.Common.{◌≡◌, ℕ, zero, suc, Bool, true, false, List, [], ◌∷◌, ◌++◌, Option, Some, refl, sym, subst}
use Rattle.std.specs.Prelude.{if◌then◌else◌, slice_get}
use Rattle.c_text.specs.declared.kinds.CNumber.{CNumber}
use Rattle.c_text.specs.declared.kinds.Otherwise.{Otherwise}
use Rattle.c_text.specs.CTree.{ExprTree, Args, Code, finish, nested, empty, assign, call, jump, branch, repeat, select, leave, case_label, default_label, name_label}
use Rattle.c_meaning.specs.CStep.{Continuation, behind, again, Place, at}
use Rattle.c_meaning.specs.TextOrder.{statements}
use Rattle.wf_lower_laws.proofs.Straight.{Straight, over, assigned, calling, leaving, guarded}

module _ (P : Code → Continuation → Type 0) where
  abbrev pub Everywhere : Code → Continuation → Type 0
  Everywhere finish k = Unit {0}
  Everywhere (nested inner rest) k = P (nested inner rest) k × (Everywhere inner (behind finish rest k) × Everywhere rest k)
  Everywhere (empty rest) k = P (empty rest) k × Everywhere rest k
  Everywhere (assign target value rest) k = P (assign target value rest) k × Everywhere rest k
  Everywhere (call target function given rest) k = P (call target function given rest) k × Everywhere rest k
  Everywhere (jump label rest) k = P (jump label rest) k × Everywhere rest k
  Everywhere (branch test body otherwise other rest) k =
      P (branch test body otherwise other rest) k × (Everywhere body (behind other rest k) × (Everywhere other (behind finish rest k) × Everywhere rest k))
  Everywhere (repeat test body rest) k = P (repeat test body rest) k × (Everywhere body (again test body (behind finish rest k)) × Everywhere rest k)
  Everywhere (select on body rest) k = P (select on body rest) k × (Everywhere body (behind finish rest k) × Everywhere rest k)
  Everywhere (leave value rest) k = P (leave value rest) k × Everywhere rest k
  Everywhere (case_label n rest) k = P (case_label n rest) k × Everywhere rest k
  Everywhere (default_label rest) k = P (default_label rest) k × Everywhere rest k
  Everywhere (name_label name rest) k = P (name_label name rest) k × Everywhere rest k

  -- It holds of each statement by its number.
  abbrev At : List Place → Type 0
  At ps = (i : ℕ) (p : Place) → slice_get ps i ≡ Some p → P p.code p.continuation

  at_none : At []
  at_none i p e = absurd (cc e)

  at_first : (code : Code) (k : Continuation) (ps : List Place) → P code k → At ps → At (at code k ∷ ps)
  at_first code k ps h j zero p e =
      let same : p ≡ at code k = cc e in
      let Q : Place → Type 0 = λ p. P p.code p.continuation in
      subst Q (sym same) h
  at_first code k ps h j (suc i) p e = j i p e

  at_both : (ps qs : List Place) → At ps → At qs → At (ps ++ qs)
  at_both [] qs h j = j
  at_both (x ∷ ps) qs h j = at_first x.code x.continuation (ps ++ qs) (h 0 x refl) (at_both ps qs (λ i. h (suc i)) j)

  pub everywhere_at : (code : Code) (k : Continuation) → Everywhere code k → At (statements code k)
  everywhere_at finish k h = at_none
  everywhere_at (nested inner rest) k h =
      at_first _ k (statements inner (behind finish rest k) ++ statements rest k) h.0 (at_both (statements inner (behind finish rest k)) (statements rest k) (everywhere_at inner (behind finish rest k) h.1.0) (everywhere_at rest k h.1.1))
  everywhere_at (empty rest) k h = at_first _ k (statements rest k) h.0 (everywhere_at rest k h.1)
  everywhere_at (assign target value rest) k h = at_first _ k (statements rest k) h.0 (everywhere_at rest k h.1)
  everywhere_at (call target function given rest) k h = at_first _ k (statements rest k) h.0 (everywhere_at rest k h.1)
  everywhere_at (jump label rest) k h = at_first _ k (statements rest k) h.0 (everywhere_at rest k h.1)
  everywhere_at (branch test body otherwise other rest) k h =
      at_first _ k (statements body (behind other rest k) ++ (statements other (behind finish rest k) ++ statements rest k)) h.0
      (at_both (statements body (behind other rest k)) (statements other (behind finish rest k) ++ statements rest k) (everywhere_at body (behind other rest k) h.1.0)
      (at_both (statements other (behind finish rest k)) (statements rest k) (everywhere_at other (behind finish rest k) h.1.1.0) (everywhere_at rest k h.1.1.1)))
  everywhere_at (repeat test body rest) k h =
      at_first _ k (statements body (again test body (behind finish rest k)) ++ statements rest k) h.0
      (at_both (statements body (again test body (behind finish rest k))) (statements rest k) (everywhere_at body (again test body (behind finish rest k)) h.1.0) (everywhere_at rest k h.1.1))
  everywhere_at (select on body rest) k h =
      at_first _ k (statements body (behind finish rest k) ++ statements rest k) h.0 (at_both (statements body (behind finish rest k)) (statements rest k) (everywhere_at body (behind finish rest k) h.1.0) (everywhere_at rest k h.1.1))
  everywhere_at (leave value rest) k h = at_first _ k (statements rest k) h.0 (everywhere_at rest k h.1)
  everywhere_at (case_label n rest) k h = at_first _ k (statements rest k) h.0 (everywhere_at rest k h.1)
  everywhere_at (default_label rest) k h = at_first _ k (statements rest k) h.0 (everywhere_at rest k h.1)
  everywhere_at (name_label name rest) k h = at_first _ k (statements rest k) h.0 (everywhere_at rest k h.1)

  -- It holds of the statements that are no jump, no loop and no label.
  pub record IsEasy : Type 0 where
    pub assigns : (target value : ExprTree) (rest : Code) (k : Continuation) → P (assign target value rest) k
    pub calls : (target : Option ExprTree) (function : List ℕ) (given : Args) (rest : Code) (k : Continuation) → P (call target function given rest) k
    pub leaves : (value : Option ExprTree) (rest : Code) (k : Continuation) → P (leave value rest) k
    pub branches : (test : ExprTree) (body : Code) (otherwise : Otherwise) (other rest : Code) (k : Continuation) → P (branch test body otherwise other rest) k
    pub empties : (rest : Code) (k : Continuation) → P (empty rest) k
    pub cases : (n : CNumber) (rest : Code) (k : Continuation) → P (case_label n rest) k

  pub straight_everywhere : IsEasy → (rest code : Code) → Straight rest code → (k : Continuation) → Everywhere rest k → Everywhere code k
  straight_everywhere easy rest _ over k h = h
  straight_everywhere easy rest _ (assigned target value code s) k h = (easy.assigns target value code k, straight_everywhere easy rest code s k h)
  straight_everywhere easy rest _ (calling target function given code s) k h = (easy.calls target function given code k, straight_everywhere easy rest code s k h)
  straight_everywhere easy rest _ (leaving value code s) k h = (easy.leaves value code k, straight_everywhere easy rest code s k h)
  straight_everywhere easy rest _ (guarded test body code t s) k h =
      (easy.branches test body _ finish code k, (straight_everywhere easy finish body t (behind finish code k) tt, (tt, straight_everywhere easy rest code s k h)))

  pub everywhere_if : (b : Bool) (c d : Code) (k : Continuation) → Everywhere c k → Everywhere d k → Everywhere (if b then c else d) k
  everywhere_if true c d k h j = h
  everywhere_if false c d k h j = j
