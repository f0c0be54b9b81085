-- What a list says of a tree it says of every tree that is alike.
use Rattle.std.proofs.Common.{◌≡◌, ℕ, ◌&&◌, ◌||◌, List, [], ◌∷◌, refl, sym, ap, ◌∙◌}
use Rattle.wf_num.specs.declared.ranges.Range.{Range}
use Rattle.wf_ast.specs.TypedTree.{Order, NumTree}
use Rattle.wf_facts_exprs.specs.Claims.{SideTree, Claim, compared, stands, tree_of_side, flip}
use Rattle.wf_facts_exprs.specs.RangeOf.{claim_gives, first_rule, allows_no_more, met_with, met_by, passed, met, narrowed, thinned, number_of_side}
use Rattle.wf_facts_exprs.specs.Shapes.{Alike}

pub swapped : (t u : NumTree) → Alike t u → Alike u t
swapped t u h = record { left = λ x. sym (h.left x); right = λ x. sym (h.right x) }

claim-alike : (f : Claim) (op : Order) (a a' b b' : SideTree) → Alike (tree_of_side a) (tree_of_side a') → Alike (tree_of_side b) (tree_of_side b') → claim_gives f a op b ≡ claim_gives f a' op b'
claim-alike (stands d answer) op a a' b b' h k = refl
claim-alike (compared l known r) op a a' b b' h k =
    let i = h.right (tree_of_side l) in
    let j = k.right (tree_of_side r) in
    let i' = k.right (tree_of_side l) in
    let j' = h.right (tree_of_side r) in
    λ n. (i n && (j n && allows_no_more known op)) || (i' n && (j' n && allows_no_more (flip known) op))

pub first-alike : (fs : List Claim) (op : Order) (a a' b b' : SideTree) → Alike (tree_of_side a) (tree_of_side a') → Alike (tree_of_side b) (tree_of_side b') → first_rule fs a op b ≡ first_rule fs a' op b'
first-alike [] op a a' b b' h k = refl
first-alike (f ∷ fs) op a a' b b' h k =
    let i = claim-alike f op a a' b b' h k in
    let j = first-alike fs op a a' b b' h k in
    λ n. i n || j n

met_by-alike : (pass : Order → ℕ → Range → Range) (f : Claim) (t u : NumTree) (r : Range) → Alike t u → met_by pass f t r ≡ met_by pass f u r
met_by-alike pass (stands d answer) t u r h = refl
met_by-alike pass (compared l op right) t u r h = let i = h.right (tree_of_side l) in λ n. met_with pass (i n) op (number_of_side right) r

passed-alike : (pass : Order → ℕ → Range → Range) (fs : List Claim) (t u : NumTree) (r : Range) → Alike t u → passed pass fs t r ≡ passed pass fs u r
passed-alike pass [] t u r h = refl
passed-alike pass (f ∷ fs) t u r h =
    ap (passed pass fs t) (met_by-alike pass f t u r h) ∙ passed-alike pass fs t u (met_by pass f u r) h

pub met-alike : (fs : List Claim) (t u : NumTree) (r : Range) → Alike t u → met fs t r ≡ met fs u r
unfolding met
met-alike fs t u r h =
    ap (passed thinned fs t) (passed-alike narrowed fs t u r h) ∙ passed-alike thinned fs t u (passed narrowed fs u r) h
