-- The table of axioms: every axiom is in it, and no two are written alike.
use Rattle.std.proofs.Common.{◌≡◌, ℕ, Bool, true, false, Option, Some, None, List, [], ◌∷◌, refl, sym, ◌∙◌, subst, nat_eq, IfSome, IfNone}
use Rattle.std.specs.Prelude.{◌≢◌, if◌then◌else◌}
use Rattle.std.specs.List.{find}
use Rattle.std.specs.Cmp.Lexicographic.{pointwise, same_text}
use Rattle.wf_axioms.specs.declared.axioms.Axiom.{Axiom}
use Rattle.wf_axioms.specs.declared.axioms.Axiom.TheVariants.{LtByGt, LtByLtLt, LtByLtEq, LtByEqLt, LtByLtLe, LtByLeLt, GtByLt, LeByGe, LeByLeLe, LeByLeEq, LeByEqLe, GeByLe, LtSum, LtSums, LeSum, LeByLt, EqByLeLe, SumsByLeLe}
use Rattle.wf_axioms.specs.declared.finding.TheConstants.{AXIOMS}
use Rattle.wf_axioms.specs.Axioms.{axiom_text}

abbrev pub found : List ℕ → Option Axiom
found text = find (λ a. pointwise nat_eq (axiom_text a) text) AXIOMS

found-passes : {X : Type 0} (test : X → Bool) (xs : List X) (x : X) → find test xs ≡ Some x → test x ≡ true
found-passes test [] x h = absurd (cc (h))
found-passes {X} test (y ∷ xs) x h = by_test (found-passes test xs x) (test y) refl h
  where
    by_test : (find test xs ≡ Some x → test x ≡ true) → (b : Bool) → test y ≡ b → (if b then Some y else find test xs) ≡ Some x → test x ≡ true
    by_test later true e g = let same : y ≡ x = cc in let P : X → Type 0 = λ z. test z ≡ true in subst P same e
    by_test later false e g = later g

-- Two axioms that are written alike are one.
axiom_back : (a : Axiom) → found (axiom_text a) ≡ Some a
axiom_back LtByGt = refl
axiom_back LtByLtLt = refl
axiom_back LtByLtEq = refl
axiom_back LtByEqLt = refl
axiom_back LtByLtLe = refl
axiom_back LtByLeLt = refl
axiom_back GtByLt = refl
axiom_back LeByGe = refl
axiom_back LeByLeLe = refl
axiom_back LeByLeEq = refl
axiom_back LeByEqLe = refl
axiom_back GeByLe = refl
axiom_back LtSum = refl
axiom_back LtSums = refl
axiom_back LeSum = refl
axiom_back LeByLt = refl
axiom_back EqByLeLe = refl
axiom_back SumsByLeLe = refl

pub if_found : (text : List ℕ) (o : Option Axiom) → o ≡ found text → IfSome o (λ a. text ≡ axiom_text a)
if_found text None h = tt
if_found text (Some a) h = sym (same_text (axiom_text a) text (sym (found-passes (λ (b : Axiom). pointwise nat_eq (axiom_text b) text) AXIOMS a (sym h))))

pub if_none : (text : List ℕ) (o : Option Axiom) → o ≡ found text → IfNone o ((a : Axiom) → text ≢ axiom_text a)
if_none text (Some b) h = tt
if_none text None h = λ a e. let P : List ℕ → Type 0 = λ zs. None ≡ found zs in let k : None ≡ Some a = subst P e h ∙ axiom_back a in absurd (cc (k))
