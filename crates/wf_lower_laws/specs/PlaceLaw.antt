-- Where the labels of a method's body lead, in the text of its package: to what the source still has to do.
use Rattle.std.specs.Prelude.{◌≡◌, ℕ, true, Option, None, Some, slice_get, if◌then◌else◌}
use Rattle.wf_text.specs.Precedence.{Decides}
use Rattle.wf_num.specs.declared.c_arithmetic.CTy.TheVariants as ty
use Rattle.wf_ast.specs.declared.typed_nodes.TypedNodes.{TypedNodes}
use Rattle.wf_ast.specs.TypedInvariant.{IsTyped}
use Rattle.wf_ast.specs.TypedPackage.{MethodTree, PackageTree, package_of}
use Rattle.wf_ast.specs.TypedTree.{Simple, Site, Block, plain}
use Rattle.wf_ast.specs.WellTyped.{is_coroutine}
use Rattle.wf_meaning.specs.SourceState.{Behind, behind_if}
use Rattle.wf_meaning.specs.SourceState as source
use Rattle.wf_meaning.specs.Remaining.{Items, Marker, marker_of, number_of}
use Rattle.wf_meaning.specs.Remaining as remaining
use Rattle.wf_points.specs.PointNumbers.{HasTooMany}
use Rattle.c_text.specs.declared.kinds.CNumber.TheVariants.{Int}
use Rattle.c_text.specs.declared.kinds.Linkage.TheVariants.{Static}
use Rattle.c_text.specs.CTree.{Code, finish, empty, select, case_label, name_label, function_item}
use Rattle.c_meaning.specs.CValues.{number}
use Rattle.c_meaning.specs.CStep.{Continuation, stop, behind, again, Place, at, by_name, by_case, find}
use Rattle.c_meaning.specs.TextOrder.{StandsAt}
use Rattle.wf_exprs.specs.Names.{body_name, again_label, behind_label}
use Rattle.wf_exprs.specs.Exprs.{lowered_cond}
use Rattle.wf_lower_stmts.specs.Forms.{Form, form_of, resume_local}
use Rattle.wf_lower_stmts.specs.Statements.{awoken}
use Rattle.wf_lower_stmts.specs.Lower.{lower, again_here, behind_here, ending, top, behind_of}
use Rattle.wf_lower.specs.Bodies.{params_of, result_of, body_locals}
use Rattle.wf_lower.specs.Unit.{lowered_unit}
use Rattle.wf_lower_laws.specs.LoopLaw.{broken_loop, continued_loop, AllJumps}

-- The code at the end of a block, by what follows the block in the source.
abbrev pub tail_at : Form → Behind → Code
tail_at f source.stop = if is_coroutine f.method.mark then finish else ending f
tail_at f (behind_if rest b) = finish
tail_at f (source.again site head body rest b) = again_here site body

-- A block of the method in C.
abbrev pub block_code : Form → Block → Behind → Code
block_code f block b = lower f (number_of f.method.body) block (tail_at f b)

-- What follows a block of a body in C is, item by item, what follows it in the source: what follows an `if` in its block; the
-- marker of a loop, which is a `while` that tests its condition again, and what follows the loop in its block. Last comes the
-- body's end.
abbrev pub Follows : Form → Behind → Continuation → Type 0
Follows f source.stop k = k ≡ (if is_coroutine f.method.mark then behind finish (ending f) stop else stop)
Follows f (behind_if rest b) (behind passed code k) = (code ≡ block_code f rest b) × Follows f b k
Follows f (source.again site head body rest b) (again test inner (behind passed code k)) =
    (test ≡ lowered_cond f.names head.cond) × ((inner ≡ block_code f body (source.again site head body rest b)) × ((code ≡ behind_here site body (block_code f rest b)) × Follows f b k))
Follows f b k = ⊥

-- The body of a method stands in the text as a function of its own, of whose code something holds.
pub record HasBody (p : PackageTree) (m : MethodTree) (P : Code → Type 0) : Type 0 where
  pub place : ℕ
  pub code : Code
  pub there : slice_get (lowered_unit p) place ≡ Some (function_item Static (result_of m) (body_name p m) (params_of p m) (body_locals (form_of p m)) code)
  pub holds : P code

-- ---- points

-- The first of what remains is a point. Its `case` is found; the rest of the point's statement stands after it, with what follows the
-- point in its block, and after that what remains after the block.
pub record ResumesAt (f : Form) (k : ℕ) (items : Items) (found : Option Place) : Type 0 where
  pub site : Site
  pub statement : Simple
  pub rest : Block
  pub first : items.block ≡ plain site statement rest
  pub follows : Continuation
  pub is : found ≡ Some (at (case_label (Int k) (empty finish)) (behind finish (awoken f k statement (block_code f rest items.behind)) follows))
  pub after : Follows f items.behind follows

-- What the `switch` of a coroutine's body is round: the case of a call that begins, before the method's own statements.
abbrev pub switched : Form → Code
switched f = case_label (Int 0) (empty (block_code f f.method.body source.stop))

-- The body switches on the number of the point where it goes on, and has the case of each point where the point stands in the
-- source.
pub record ResumesAtPoints (f : Form) (code : Code) : Type 0 where
  pub place : ℕ
  pub switches : StandsAt code place (at (select resume_local (switched f) (ending f)) stop)
  pub resumes : (k : ℕ) (items : Items) → remaining.rest f.method.body k ≡ Some items
      → ResumesAt f k items (find (by_case (number ty.Int k)) (switched f) (behind finish (ending f) stop))

-- So it is with each coroutine of a typed package in which no method has too many points.
abbrev pub BodiesResume : Type 0
BodiesResume =
    (nodes : TypedNodes) (n : ℕ) (m : MethodTree) → IsTyped nodes → Decides (HasTooMany (package_of nodes)) None → slice_get (package_of nodes).methods n ≡ Some m
    → is_coroutine m.mark ≡ true → HasBody (package_of nodes) m (ResumesAtPoints (form_of (package_of nodes) m))

-- ---- loops

-- A `break` of the loop with the number `w`, where `b` follows it in the source: its label stands before what follows the loop whose
-- marker the source drops.
pub record BreaksTo (f : Form) (code : Code) (w : ℕ) (b : Behind) : Type 0 where
  pub marker : Marker
  pub marked : marker_of w b ≡ Some marker
  pub follows : Continuation
  pub is : find (by_name (behind_label w)) code stop ≡ Some (at (name_label (behind_label w) (empty (block_code f marker.rest marker.behind))) follows)
  pub after : Follows f marker.behind follows

-- A `continue`: its label stands at the end of the body of the loop whose marker the source goes on with.
pub record ContinuesTo (f : Form) (code : Code) (w : ℕ) (b : Behind) : Type 0 where
  pub marker : Marker
  pub marked : marker_of w b ≡ Some marker
  pub follows : Continuation
  pub is : find (by_name (again_label w)) code stop ≡ Some (at (name_label (again_label w) (empty finish)) follows)
  pub after : Follows f (source.again marker.site marker.head marker.body marker.rest marker.behind) follows

abbrev pub BreaksBehindLoops : Form → Code → Type 0
BreaksBehindLoops f code = AllJumps broken_loop (λ w t. BreaksTo f code w (behind_of t)) f.method.body top

abbrev pub ContinuesAtLoops : Form → Code → Type 0
ContinuesAtLoops f code = AllJumps continued_loop (λ w t. ContinuesTo f code w (behind_of t)) f.method.body top

-- So it is with each `break` and each `continue` of a method of a typed package, whether it is a coroutine or not.
abbrev pub BodiesBreak : Type 0
BodiesBreak =
    (nodes : TypedNodes) (n : ℕ) (m : MethodTree) → IsTyped nodes → slice_get (package_of nodes).methods n ≡ Some m
    → HasBody (package_of nodes) m (BreaksBehindLoops (form_of (package_of nodes) m))

abbrev pub BodiesContinue : Type 0
BodiesContinue =
    (nodes : TypedNodes) (n : ℕ) (m : MethodTree) → IsTyped nodes → slice_get (package_of nodes).methods n ≡ Some m
    → HasBody (package_of nodes) m (ContinuesAtLoops (form_of (package_of nodes) m))
