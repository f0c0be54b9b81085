-- Open brackets, counted along the stack.
use Rattle.std.proofs.Common.{◌≡◌, ◌+◌, ◌<◌, ◌≤◌, ℕ, nat_le, length, zero, suc, Bool, true, false, Some, List, [], ◌∷◌, drop, sym, ◌∙◌, arith}
use Rattle.std.specs.List.{slice_get}
use Rattle.std.proofs.lemmas.Bool.Decides.{nat_tests}
use Rattle.wf_parse_grammar.specs.declared.symbols.Want.{Want}
use Rattle.wf_parse_grammar.specs.declared.symbols.Want.TheVariants.{Read, Make}
use Rattle.wf_parse_grammar.specs.Building.{open_wants}
use Rattle.wf_parse_grammar.specs.declared.symbols.Sym.{Sym}
use Rattle.wf_parse_grammar.specs.Machine.{one_more_if, owes}
use Rattle.wf_parse.specs.Machines.{want_owes}

pub open_next : (wants : List Want) (i : ℕ) (w : Want) → slice_get wants i ≡ Some w → open_wants (drop i wants) ≡ one_more_if (want_owes w) (open_wants (drop (suc i) wants))
open_next [] i w e = absurd (cc e)
open_next (Read s ∷ wants) zero w e = let is : Read s ≡ w = cc e in cc
open_next (Make a ∷ wants) zero w e = let is : Make a ≡ w = cc e in cc
open_next (x ∷ wants) (suc i) w e = open_next wants i w e

pub owed_one : (wants : List Want) (i : ℕ) (w : Want) (b : Bool) → slice_get wants i ≡ Some w → b ≡ want_owes w → b ≡ true → 1 + open_wants (drop (i + 1) wants) ≡ open_wants (drop i wants)
owed_one wants i w b e f g =
    let next = open_next wants i w e in
    let here : want_owes w ≡ true = sym f ∙ g in
    let more : i + 1 ≡ suc i = omega arith in
    let there = rw here at next in
    rw more (omega (arith, there))

pub owed_none : (wants : List Want) (i : ℕ) (w : Want) (b : Bool) → slice_get wants i ≡ Some w → b ≡ want_owes w → b ≡ false → 0 + open_wants (drop (i + 1) wants) ≡ open_wants (drop i wants)
owed_none wants i w b e f g =
    let next = open_next wants i w e in
    let here : want_owes w ≡ false = sym f ∙ g in
    let more : i + 1 ≡ suc i = omega arith in
    let there = rw here at next in
    rw more (omega (arith, there))

-- At most one bracket is open for each wanted thing.
one_few : (owed : Bool) (open' wants : ℕ) → open' ≤ wants → one_more_if owed open' ≤ suc wants
one_few true open' wants few = omega (arith, few)
one_few false open' wants few = omega (arith, few)

open_few : (wants : List Want) → open_wants wants ≤ length wants
open_few [] = omega arith
open_few (Make a ∷ wants) = let few = open_few wants in omega (arith, few)
open_few (Read s ∷ wants) = one_few (owes s) (open_wants wants) (length wants) (open_few wants)

pub is_shallow : (s : Sym) (wants : List Want) → length wants + 1 < 48 → nat_le 48 (open_wants (Read s ∷ wants)) ≡ false
is_shallow s wants low =
    let few = open_few (Read s ∷ wants) in
    let less : open_wants (Read s ∷ wants) < 48 = omega (arith, few, low) in
    grind (arith, nat_tests, less)
