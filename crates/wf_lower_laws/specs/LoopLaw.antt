-- The loops that `break` and `continue` name: labels spell their numbers apart, and lead to the loops whose markers the source keeps.
use Rattle.std.specs.Prelude.{◌≡◌, ℕ, ◌<◌, ◌^◌, Bool, true, Option, Some, None, IfSome, slice_get}
use Rattle.wf_ast.specs.declared.typed_nodes.TypedNodes.{TypedNodes}
use Rattle.wf_ast.specs.TypedInvariant.{IsTyped}
use Rattle.wf_ast.specs.TypedPackage.{MethodTree, package_of}
use Rattle.wf_ast.specs.TypedTree.{Simple, break_from, continue_in, Block, end, plain, choose, loop}
use Rattle.wf_ast.specs.WellTyped.{breaks}
use Rattle.wf_meaning.specs.Remaining.{Marker, marker_of}
use Rattle.wf_lower_stmts.specs.Lower.{continues, Trail, top, within_if, in_loop, behind_of, Loop, loop_in}
use Rattle.wf_lower_stmts.specs.Laws.{AreSpelt}

-- The numbers of a body's loops are spelt apart, and so is each that a `break` or a `continue` in it names.
pub record AreSpeltApart (body : Block) : Type 0 where
  pub own : AreSpelt body
  pub at_breaks : (w : ℕ) → breaks w body ≡ true → w < 2 ^ 64
  pub at_continues : (w : ℕ) → continues w body ≡ true → w < 2 ^ 64

-- So it is in each method of a typed package.
abbrev pub LoopsAreSpelt : Type 0
LoopsAreSpelt = (nodes : TypedNodes) (n : ℕ) (m : MethodTree) → IsTyped nodes → slice_get (package_of nodes).methods n ≡ Some m → AreSpeltApart m.body

-- The loop that a `break` leaves, and the one that a `continue` goes on with.
abbrev pub broken_loop : Simple → Option ℕ
broken_loop (break_from w) = Some w
broken_loop s = None

abbrev pub continued_loop : Simple → Option ℕ
continued_loop (continue_in w) = Some w
continued_loop s = None

-- What holds of each jump of a kind in a block, by its loop's number and what follows it.
abbrev pub AllJumps : (kind : Simple → Option ℕ) → (P : ℕ → Trail → Type 0) → Block → Trail → Type 0
AllJumps kind P end t = Unit {0}
AllJumps kind P (plain site s rest) t = IfSome (kind s) (λ w. P w t) × AllJumps kind P rest t
AllJumps kind P (choose site chained c a b rest) t = AllJumps kind P a (within_if b rest t) × (AllJumps kind P b (within_if end rest t) × AllJumps kind P rest t)
AllJumps kind P (loop site head body rest) t = AllJumps kind P body (in_loop site head body rest t) × AllJumps kind P rest t

-- What the source's meaning has of a loop.
abbrev pub marker_at : Loop → Marker
marker_at it = record { site = it.site; head = it.head; body = it.body; rest = it.rest; behind = behind_of it.trail }

-- The loop whose label is found in the body is the one whose marker stands in what follows the jump.
pub record IsMarked (jumps : ℕ → Block → Bool) (body : Block) (w : ℕ) (t : Trail) : Type 0 where
  pub it : Loop
  pub found : loop_in jumps w body top ≡ Some it
  pub marked : marker_of w (behind_of t) ≡ Some (marker_at it)

-- So it is at each `break` and each `continue` of a body.
pub record MarkersAgree (body : Block) : Type 0 where
  pub at_breaks : AllJumps broken_loop (IsMarked breaks body) body top
  pub at_continues : AllJumps continued_loop (IsMarked continues body) body top

-- And of each method of a typed package.
abbrev pub LoopsAreMarked : Type 0
LoopsAreMarked = (nodes : TypedNodes) (n : ℕ) (m : MethodTree) → IsTyped nodes → slice_get (package_of nodes).methods n ≡ Some m → MarkersAgree m.body
