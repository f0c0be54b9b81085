-- A call's target is one place, before the call and after it.
use Rattle.std.proofs.Common.{◌≡◌, ℕ, Bool, true, false, List, Option, Some, None, refl, ◌∙◌, ap, arith}
use Rattle.std.specs.Prelude.{if◌then◌else◌, option_and_then}
use Rattle.std.proofs.lemmas.Bool.Decides.{nat_tests}
use Rattle.turns.specs.Run.{Fail, Outcome, Got, holding}
use Rattle.c_text.specs.CTree.{ExprTree, Args, Code, call}
use Rattle.c_meaning.specs.CValues.{Pointer, same_pointer, CValue}
use Rattle.c_meaning.specs.CMemory.{Memory, stored}
use Rattle.c_meaning.specs.CExprs.{place, arg_values, all_some}
use Rattle.c_meaning.specs.CStep.{Continuation, Returned, Running, state, surroundings, one_place, kept, goes_back, calls, Callee, own, callee_of, calls_function, step}

abbrev pointer : (object field index : ℕ) → Pointer
pointer object field index = record { object = object; field = field; index = index }

pub same_is_equal : (p q : Pointer) → same_pointer p q ≡ true → p ≡ q
same_is_equal p q e =
    let a : p.object ≡ q.object = grind (arith, nat_tests, e) in
    let b : p.field ≡ q.field = grind (arith, nat_tests, e) in
    let c : p.index ≡ q.index = grind (arith, nat_tests, e) in
    ap (λ (x : ℕ). pointer x p.field p.index) a ∙ (ap (λ (y : ℕ). pointer q.object y p.index) b ∙ ap (λ (z : ℕ). pointer q.object q.field z) c)

pub one_is_both : (before after : Option Pointer) (p : Pointer) → one_place before after ≡ Some p → (before ≡ Some p) × (after ≡ Some p)
one_is_both None after p e = absurd (cc (e))
one_is_both (Some a) None p e = absurd (cc (e))
one_is_both (Some a) (Some b) p e = by_same (same_pointer a b) refl e
  where
    by_same : (t : Bool) → same_pointer a b ≡ t → (if t then Some b else None) ≡ Some p → (Some a ≡ Some p) × (Some b ≡ Some p)
    by_same true s k = (ap Some (same_is_equal a b s) ∙ k, k)
    by_same false s k = absurd (cc (k))

no_place : (n left : ℕ) (rest : Code) (k : Continuation) (memory : Memory) (v : Option CValue)
    → goes_back n left rest k (option_and_then (λ v. option_and_then (λ p. stored memory p v) None) v) ≡ Fail
no_place n left rest k memory None = refl
no_place n left rest k memory (Some v) = refl

pub target_moved : (r : Running) (n left : ℕ) (target : ExprTree) (function : List ℕ) (given : Args) (values : List CValue) (rest : Code) (k : Continuation) (memory : Memory) (done : Returned)
    → callee_of function ≡ own → all_some (arg_values (surroundings r memory) given) ≡ Some values → r.callee function n values memory ≡ Got left done
    → one_place (place (surroundings r memory) target) (place (surroundings r done.memory) target) ≡ None
    → step r n (state (call (Some target) function given rest) k memory) ≡ Fail
unfolding holding
target_moved r n left target function given values rest k memory done owned valued ended none =
    ap (λ (c : Callee). calls_function c r n (Some target) function (arg_values (surroundings r memory) given) rest k memory) owned
    ∙ (ap (λ (g : Option (List CValue)). calls r n (Some target) (r.callee function) g rest k memory) valued
    ∙ (ap (λ (o : Outcome Returned). holding o (λ left done. goes_back n left rest k (kept r memory (Some target) done))) ended
    ∙ (ap (λ (p : Option Pointer). goes_back n left rest k (option_and_then (λ v. option_and_then (λ q. stored done.memory q v) p) done.value)) none
    ∙ no_place n left rest k done.memory done.value)))
