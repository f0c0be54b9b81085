-- What mentions an argument mentions `Args`.
use Rattle.std.proofs.Common.{◌≡◌, ℕ, List, [], ◌∷◌, Bool, true, false, ◌||◌, refl}
use Rattle.wf_ast.specs.declared.variables.ArgId.{ArgId}
use Rattle.wf_ast.specs.declared.things.Thing.{Thing}
use Rattle.wf_ast.specs.declared.typed_nodes.TypedNodes.{TypedNodes}
use Rattle.wf_ast.specs.declared.things.Thing.TheVariants as things
use Rattle.wf_ast.specs.TypedTree.{Path, local, field, arg, NumTree, number, read, element, link, convert, length_of, asked, SliceTree, slice, array, cut, EndTree, absent, present, StatusTree, status, held, no_status, CondTree, truth, flag, compare, same_status, junction, negation, closed, has_category}
use Rattle.wf_ast.specs.Mentions.{path_is, slice_is, is_element, num_mentions, slice_mentions, end_mentions, status_mentions, cond_mentions}
use Rattle.wf_facts_exprs.specs.Claims.{claim_in, SideTree, single, sum, Claim, compared, stands, side_mentions, claim_mentions}
use Rattle.wf_facts_exprs.specs.declared.facts.Fact.{Fact}
use Rattle.wf_facts_exprs.specs.Sets.{IsAround, IsSetOf, Within}
use Rattle.wf_facts.specs.IndexedFacts.{mentioning}

either : (a b c d : Bool) → (a ≡ true → c ≡ true) → (b ≡ true → d ≡ true) → (a || b) ≡ true → (c || d) ≡ true
either true b c d h k e = rw (h refl) refl
either false b true d h k e = refl
either false b false d h k e = k e

-- A thing that is another wherever it is itself.
module _ (x y : Thing) (path : (p : Path) → path_is x p ≡ true → path_is y p ≡ true) (whole : (p : Path) → slice_is x p ≡ true → slice_is y p ≡ true) (elem : is_element x ≡ true → is_element y ≡ true) where
  mutual
    num_around : (t : NumTree) → num_mentions x t ≡ true → num_mentions y t ≡ true
    num_around (number at n) e = absurd (cc e)
    num_around (read at of p) e = path p e
    num_around (element at of cells index) e =
        either (is_element x) (slice_mentions x cells || num_mentions x index) (is_element y) (slice_mentions y cells || num_mentions y index) elem
        (either (slice_mentions x cells) (num_mentions x index) (slice_mentions y cells) (num_mentions y index) (slice_around cells) (num_around index)) e
    num_around (link at sign op bits joined a b) e = either (num_mentions x a) (num_mentions x b) (num_mentions y a) (num_mentions y b) (num_around a) (num_around b) e
    num_around (convert at sign bits a) e = num_around a e
    num_around (length_of at cells) e = slice_around cells e
    num_around (asked at question a) e = path (arg a) e

    slice_around : (t : SliceTree) → slice_mentions x t ≡ true → slice_mentions y t ≡ true
    slice_around (slice at bits p) e = whole p e
    slice_around (array at of count p) e = whole p e
    slice_around (cut at cells from to) e =
        either (slice_mentions x cells) (end_mentions x from || end_mentions x to) (slice_mentions y cells) (end_mentions y from || end_mentions y to) (slice_around cells)
        (either (end_mentions x from) (end_mentions x to) (end_mentions y from) (end_mentions y to) (end_around from) (end_around to)) e

    end_around : (t : EndTree) → end_mentions x t ≡ true → end_mentions y t ≡ true
    end_around absent e = absurd (cc e)
    end_around (present a) e = num_around a e

  status_around : (t : StatusTree) → status_mentions x t ≡ true → status_mentions y t ≡ true
  status_around (status at n) e = absurd (cc e)
  status_around (held at p) e = path p e
  status_around no_status e = absurd (cc e)

  cond_around : (t : CondTree) → cond_mentions x t ≡ true → cond_mentions y t ≡ true
  cond_around (truth at b) e = absurd (cc e)
  cond_around (flag at p) e = path p e
  cond_around (compare at sign a op b) e = either (num_mentions x a) (num_mentions x b) (num_mentions y a) (num_mentions y b) (num_around a) (num_around b) e
  cond_around (same_status at sign a one b) e = either (status_mentions x a) (status_mentions x b) (status_mentions y a) (status_mentions y b) (status_around a) (status_around b) e
  cond_around (junction at both joined a b) e = either (cond_mentions x a) (cond_mentions x b) (cond_mentions y a) (cond_mentions y b) (cond_around a) (cond_around b) e
  cond_around (negation at a) e = cond_around a e
  cond_around (closed at a) e = path (arg a) e
  cond_around (has_category at a category) e = status_around a e

  side_around : (t : SideTree) → side_mentions x t ≡ true → side_mentions y t ≡ true
  side_around (single t) e = num_around t e
  side_around (sum a b) e = either (num_mentions x a) (num_mentions x b) (num_mentions y a) (num_mentions y b) (num_around a) (num_around b) e

  claim_around : (c : Claim) → claim_mentions x c ≡ true → claim_mentions y c ≡ true
  claim_around (compared a op b) e = either (side_mentions x a) (side_mentions x b) (side_mentions y a) (side_mentions y b) (side_around a) (side_around b) e
  claim_around (stands c answer) e = cond_around c e

args_mentioned : (n : ArgId) (c : Claim) → claim_mentions (things.Arg n) c ≡ true → claim_mentions things.Args c ≡ true
args_mentioned n c e = claim_around (things.Arg n) things.Args paths slices (λ h. absurd (cc h)) c e
  where
    paths : (p : Path) → path_is (things.Arg n) p ≡ true → path_is things.Args p ≡ true
    paths (local k) h = absurd (cc h)
    paths (field k) h = absurd (cc h)
    paths (arg k) h = refl

    slices : (p : Path) → slice_is (things.Arg n) p ≡ true → slice_is things.Args p ≡ true
    slices (local k) h = absurd (cc h)
    slices (field k) h = absurd (cc h)
    slices (arg k) h = refl

mentioned_within : (nodes : TypedNodes) (n : ArgId) (fs : List Fact) → Within (mentioning nodes (things.Arg n) fs) (mentioning nodes things.Args fs)
mentioned_within nodes n [] = tt
mentioned_within nodes n (f ∷ fs) = (args_mentioned n (claim_in nodes f), mentioned_within nodes n fs)

-- The set of the facts that mention an argument is one around those that mention this one.
pub arg_known : (nodes : TypedNodes) (fs : List Fact) (words : List ℕ) (n : ArgId) → IsSetOf words (mentioning nodes things.Args fs) → IsAround words (mentioning nodes (things.Arg n) fs)
arg_known nodes fs words n set = record { whole = mentioning nodes things.Args fs; is = set; holds = mentioned_within nodes n fs }
