-- The text of an expression is that of its links, one after the other.
use Rattle.std.proofs.Common.{◌≡◌, ◌<◌, ◌+◌, ◌-◌, ◌++◌, ℕ, zero, suc, Some, None, refl, sym, ◌∙◌, ap, arith, add-one, append_assoc, codes}
use Rattle.c_text.specs.CTree.{ExprTree, number, variable, member, element, pointed, operation, unary, cast, choice, called}
use Rattle.c_text.specs.CLayout.{expr_text}
use Rattle.c_text.specs.CLinks.{front_of, link_count, without_links, link_text, links_text}
use Rattle.c_text.proofs.Trees.{append_nil}

last_of : (e : ExprTree) → links_text e (suc zero) ≡ link_text e
last_of (member pointer field) = refl
last_of (element pointer index) = refl
last_of (number n) = refl
last_of (variable name) = refl
last_of (pointed pointer) = refl
last_of (operation op first second others) = refl
last_of (unary op of) = refl
last_of (cast to of) = refl
last_of (choice test met unmet) = refl
last_of (called function given) = refl

pub last_link : (e : ExprTree) (left : ℕ) → left ≡ 1 → links_text e left ≡ link_text e
last_link e left h = ap (links_text e) h ∙ last_of e

pub sole_link : (e : ExprTree) → front_of e ≡ None → expr_text e ≡ link_text e
sole_link (member pointer field) h = absurd (cc h)
sole_link (element pointer index) h = absurd (cc h)
sole_link (number n) h = refl
sole_link (variable name) h = refl
sole_link (pointed pointer) h = refl
sole_link (operation op first second others) h = refl
sole_link (unary op of) h = refl
sole_link (cast to of) h = refl
sole_link (choice test met unmet) h = refl
sole_link (called function given) h = refl

-- An expression is what stands before its last link, and then that link.
pub behind_front : (e of : ExprTree) → front_of e ≡ Some of → expr_text e ≡ expr_text of ++ link_text e
behind_front (member pointer field) of h =
    let same : pointer ≡ of = cc h in
    append_assoc (expr_text pointer) (codes "->") field ∙ ap (λ (p : ExprTree). expr_text p ++ (codes "->" ++ field)) same
behind_front (element pointer index) of h =
    let same : pointer ≡ of = cc h in
    ap (λ xs. xs ++ codes "]") (append_assoc (expr_text pointer) (codes "[") (expr_text index)) ∙ (append_assoc (expr_text pointer) (codes "[" ++ expr_text index) (codes "]") ∙ ap (λ (p : ExprTree). expr_text p ++ (codes "[" ++ expr_text index ++ codes "]")) same)
behind_front (number n) of h = absurd (cc h)
behind_front (variable name) of h = absurd (cc h)
behind_front (pointed pointer) of h = absurd (cc h)
behind_front (operation op first second others) of h = absurd (cc h)
behind_front (unary op of_one) of h = absurd (cc h)
behind_front (cast to of_one) of h = absurd (cc h)
behind_front (choice test met unmet) of h = absurd (cc h)
behind_front (called function given) of h = absurd (cc h)

pub all_links : (e : ExprTree) → links_text e (link_count e) ≡ expr_text e
all_links (member pointer field) =
    ap (links_text (member pointer field)) (add-one (link_count pointer)) ∙ (ap (λ xs. xs ++ (codes "->" ++ field)) (all_links pointer) ∙ sym (append_assoc (expr_text pointer) (codes "->") field))
all_links (element pointer index) =
    ap (links_text (element pointer index)) (add-one (link_count pointer)) ∙ (ap (λ xs. xs ++ (codes "[" ++ expr_text index ++ codes "]")) (all_links pointer) ∙ (sym (append_assoc (expr_text pointer) (codes "[" ++ expr_text index) (codes "]")) ∙ ap (λ xs. xs ++ codes "]") (sym (append_assoc (expr_text pointer) (codes "[") (expr_text index)))))
all_links (number n) = refl
all_links (variable name) = refl
all_links (pointed pointer) = refl
all_links (operation op first second others) = refl
all_links (unary op of) = refl
all_links (cast to of) = refl
all_links (choice test met unmet) = refl
all_links (called function given) = refl

-- The last links after those before them.
pub split_links : (e : ExprTree) (last first : ℕ) → last < link_count e → links_text e (last + first) ≡ links_text (without_links e last) first ++ links_text e last
split_links e zero first h = let same : 0 + first ≡ first = omega arith in ap (links_text e) same ∙ sym (append_nil (links_text e first))
split_links (member pointer field) (suc last) first h =
    let one : suc last + first ≡ suc (last + first) = omega arith in
    ap (links_text (member pointer field)) one ∙ (ap (λ xs. xs ++ link_text (member pointer field)) (split_links pointer last first (omega (arith, h))) ∙ append_assoc (links_text (without_links pointer last) first) (links_text pointer last) (link_text (member pointer field)))
split_links (element pointer index) (suc last) first h =
    let one : suc last + first ≡ suc (last + first) = omega arith in
    ap (links_text (element pointer index)) one ∙ (ap (λ xs. xs ++ link_text (element pointer index)) (split_links pointer last first (omega (arith, h))) ∙ append_assoc (links_text (without_links pointer last) first) (links_text pointer last) (link_text (element pointer index)))
split_links (number n) (suc last) first h = absurd (omega (arith, h))
split_links (variable name) (suc last) first h = absurd (omega (arith, h))
split_links (pointed pointer) (suc last) first h = absurd (omega (arith, h))
split_links (operation op first_one second others) (suc last) first h = absurd (omega (arith, h))
split_links (unary op of) (suc last) first h = absurd (omega (arith, h))
split_links (cast to of) (suc last) first h = absurd (omega (arith, h))
split_links (choice test met unmet) (suc last) first h = absurd (omega (arith, h))
split_links (called function given) (suc last) first h = absurd (omega (arith, h))

-- `half` of `left` links are left.
pub halved : (e middle : ExprTree) (left half : ℕ) → middle ≡ without_links e half → half < link_count e → half + (left - half) ≡ left → links_text e left ≡ links_text middle (left - half) ++ links_text e half
halved e middle left half is less whole =
    ap (links_text e) (sym whole) ∙ (split_links e half (left - half) less ∙ ap (λ x. links_text x (left - half) ++ links_text e half) (sym is))
