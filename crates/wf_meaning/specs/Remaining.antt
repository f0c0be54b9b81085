-- Suspension points, their numbers, and what remains after each.
-- In brackets stands the section of docs/SEMANTICS.md that a definition states, and with `note` the Wuffs document
-- wuffs/doc/note/NAME.md that it follows.
use Rattle.std.specs.Prelude.{ℕ, ◌+◌, Bool, true, false, not, ◌&&◌, List, [], ◌∷◌, ◌++◌, Option, None, Some, nat_eq, count_by, if◌then◌else◌}
use Rattle.wf_text.specs.declared.place.Place.{Place}
use Rattle.wf_base.specs.declared.marks.Mark.{Mark}
use Rattle.wf_ast.specs.TypedTree.{Simple, await, invoke, yield, Site, Head, Block, end, plain, choose, loop}
use Rattle.wf_ast.specs.StatementOrder.{stands_before}
use Rattle.wf_ast.specs.WellTyped.{is_coroutine}
use Rattle.wf_meaning.specs.SourceState.{Behind, stop, behind_if, again}

-- A call `f?()` of a method suspends with it; `=?` keeps whatever status comes, and never suspends.
-- [What remains; note coroutines]
abbrev pub hands_on : (keep : Bool) → Mark → Bool
hands_on keep mark = not keep && is_coroutine mark

-- A statement at which its method may suspend. [What remains; note coroutines]
abbrev pub is_point : Simple → Bool
is_point (await at target io_arg call) = true
is_point (invoke at target keep mark called args) = hands_on keep mark
is_point (yield n) = true
is_point s = false

-- Where the points of a block stand, those inside other statements too. [What remains; note coroutines]
abbrev pub points_in : Block → List Site
points_in end = []
points_in (plain site s rest) = if is_point s then site ∷ points_in rest else points_in rest
points_in (choose site chained c a b rest) = points_in a ++ (points_in b ++ points_in rest)
points_in (loop site head body rest) = points_in body ++ points_in rest

-- The number of the point at a place: one more than the number of those that stand before it.
-- [What remains; note coroutines]
abbrev pub number_among : List Site → Place → ℕ
number_among points at = 1 + count_by (λ point. stands_before point.at at) points

-- Remaining statements: a block, and what follows it. [What remains; note coroutines]
pub record Items : Type 0 where
  pub block : Block
  pub behind : Behind

-- What stands first of two. [What remains; note coroutines]
abbrev pub first : Option Items → Option Items → Option Items
first None other = other
first (Some items) other = Some items

-- What stands when the point with the number `k` inside a block is reached, `behind` following the block: the statement
-- and what follows it in its block; after that, for one block round it after the other, what follows each `if` that holds it,
-- and for each loop that holds it the loop's marker and what follows the loop. [What remains; note coroutines]
abbrev pub rest_in : (Site → ℕ) → (k : ℕ) → Block → Behind → Option Items
rest_in number k end behind = None
rest_in number k (plain site s rest) behind =
    if is_point s && nat_eq (number site) k then Some (record { block = plain site s rest; behind = behind }) else rest_in number k rest behind
rest_in number k (choose site chained c a b rest) behind =
    first (rest_in number k a (behind_if rest behind)) (first (rest_in number k b (behind_if rest behind)) (rest_in number k rest behind))
rest_in number k (loop site head body rest) behind =
    first (rest_in number k body (again site head body rest behind)) (rest_in number k rest behind)

-- The number of a point of a method's body. [What remains; note coroutines]
abbrev pub number_of : (body : Block) → Site → ℕ
number_of body site = number_among (points_in body) site.at

-- What remains of a method when its point with the number `k` is reached. [What remains; note coroutines]
unfoldable pub rest : (body : Block) → (k : ℕ) → Option Items
rest body k = rest_in (number_of body) k body stop

-- A `break` of the loop with the number `w` leaves its marker and what stands before it; a `continue` keeps the
-- marker. [What remains; note coroutines]
pub record Marker : Type 0 where
  pub site : Site
  pub head : Head
  pub body : Block
  pub rest : Block
  pub behind : Behind

-- The marker of the loop with the number `w`. [What remains; note coroutines]
abbrev pub marker_of : (w : ℕ) → Behind → Option Marker
marker_of w stop = None
marker_of w (behind_if rest behind) = marker_of w behind
marker_of w (again site head body rest behind) =
    if nat_eq site.number w then Some (record { site = site; head = head; body = body; rest = rest; behind = behind }) else marker_of w behind
