-- A side is the same as itself.
use Rattle.std.proofs.Common.{◌≡◌, ℕ, Bool, true, false, nat_eq, refl, sym, arith}
use Rattle.std.proofs.lemmas.Bool.Decides.{nat_tests}
use Rattle.wf_ast.specs.TypedTree.{Path, local, field, arg, Arith, shift_left, shift_right, mod_shift_left, NumTree, number, read, element, link, convert, length_of, asked, SliceTree, slice, array, cut, EndTree, absent, present}
use Rattle.wf_ast.specs.Value.{same_truth}
use Rattle.wf_ast.specs.Same.{same_path, arith_number, same_width, question_number, same_num, same_slice, same_end}
use Rattle.wf_facts_exprs.specs.Claims.{SideTree, tree_of_side, same_side}
use Rattle.wf_facts_exprs.proofs.ShapeLemmas.{and_true}

number-self : (n : ℕ) → nat_eq n n ≡ true
number-self n = grind (arith, nat_tests)

truth-self : (b : Bool) → same_truth b b ≡ true
truth-self true = refl
truth-self false = refl

path-self : (p : Path) → same_path p p ≡ true
path-self (local n) = number-self n
path-self (field n) = number-self n
path-self (arg n) = number-self n

width-self : (op : Arith) (bits : ℕ) → same_width op bits bits ≡ true
width-self shift_left bits = number-self bits
width-self shift_right bits = number-self bits
width-self mod_shift_left bits = number-self bits
width-self op bits = refl

mutual
  pub num-self : (t : NumTree) → same_num t t ≡ true
  num-self (number at n) = number-self n
  num-self (read at of p) = path-self p
  num-self (element at of cells index) = and_true _ _ (slice-self cells) (num-self index)
  num-self (link at sign op bits joined a b) =
      and_true _ _ (number-self (arith_number op)) (and_true _ _ (width-self op bits) (and_true _ _ (truth-self joined) (and_true _ _ (num-self a) (num-self b))))
  num-self (convert at sign bits a) = and_true _ _ (number-self bits) (num-self a)
  num-self (length_of at cells) = slice-self cells
  num-self (asked at question a) = and_true _ _ (number-self (question_number question)) (number-self a)

  slice-self : (t : SliceTree) → same_slice t t ≡ true
  slice-self (slice at bits p) = path-self p
  slice-self (array at of count p) = path-self p
  slice-self (cut at cells from to) = and_true _ _ (slice-self cells) (and_true _ _ (end-self from) (end-self to))

  end-self : (t : EndTree) → same_end t t ≡ true
  end-self absent = refl
  end-self (present t) = num-self t

pub side-self : (s : SideTree) → true ≡ same_side s s
side-self s = sym (num-self (tree_of_side s))
