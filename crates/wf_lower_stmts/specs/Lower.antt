-- A body in C: `while` for `while` and `if` for `if`, each point's `case` where the point stands. Lowering is a function of
-- a block and of the code after it, and likewise of what follows a block; so a label is found where the source goes on.
use Rattle.std.specs.Prelude.{ℕ, Bool, true, false, ◌&&◌, ◌||◌, if◌then◌else◌, nat_eq, Option, None, Some}
use Rattle.wf_ast.specs.declared.types.Ty.{Ty}
use Rattle.wf_ast.specs.TypedTree.{lost, Simple, continue_in, give_back, Site, Head, Block, end, plain, choose, loop}
use Rattle.wf_ast.specs.WellTyped.{is_coroutine, breaks}
use Rattle.wf_meaning.specs.SourceState.{Behind}
use Rattle.wf_meaning.specs.SourceState as source
use Rattle.wf_meaning.specs.Remaining.{Items, is_point}
use Rattle.c_text.specs.declared.kinds.CNumber.TheVariants.{Int}
use Rattle.c_text.specs.declared.kinds.Otherwise.{Otherwise}
use Rattle.c_text.specs.declared.kinds.Otherwise.TheVariants as else_is
use Rattle.c_text.specs.CTree.{Code, finish, empty, branch, repeat, case_label, name_label}
use Rattle.c_meaning.specs.CStep.{Continuation, stop, behind, again, Place, at}
use Rattle.wf_exprs.specs.Names.{again_label, behind_label}
use Rattle.wf_exprs.specs.Words.{num}
use Rattle.wf_exprs.specs.Exprs.{lowered_cond}
use Rattle.wf_lower_stmts.specs.Forms.{Form, put_all, give}
use Rattle.wf_lower_stmts.specs.Statements.{awoken, lower_simple}

-- A `continue` of the loop with this number stands in the block.
abbrev pub continues : (w : ℕ) → Block → Bool
continues w end = false
continues w (plain site (continue_in v) rest) = nat_eq v w || continues w rest
continues w (plain site s rest) = continues w rest
continues w (choose site chained c a b rest) = continues w a || (continues w b || continues w rest)
continues w (loop site head body rest) = continues w body || continues w rest

-- The labels of a loop, where something jumps to them: at the end of its body, and after it.
abbrev pub again_here : Site → (body : Block) → Code
again_here site body = if continues site.number body then name_label (again_label site.number) (empty finish) else finish

abbrev pub behind_here : Site → (body : Block) → (rest : Code) → Code
behind_here site body rest = if breaks site.number body then name_label (behind_label site.number) (empty rest) else rest

-- What stands after an `if`'s block: nothing, an `else if`, or an `else` with a block.
abbrev pub other_kind : Block → Otherwise
other_kind end = else_is.Nothing
other_kind (choose site true c a b rest) = else_is.If
other_kind b = else_is.Block

-- A block, with the code that stands after it. `number` tells the number of a point.
abbrev pub lower : Form → (number : Site → ℕ) → Block → (tail : Code) → Code
lower f number end tail = tail
lower f number (plain site s rest) tail = lower_simple f (number site) s (lower f number rest tail)
lower f number (choose site chained c a b rest) tail =
    branch (lowered_cond f.names c) (lower f number a finish) (other_kind b) (lower f number b finish) (lower f number rest tail)
lower f number (loop site head body rest) tail =
    repeat (lowered_cond f.names head.cond) (lower f number body (again_here site body)) (behind_here site body (lower f number rest tail))

-- What follows a block, from the innermost outwards, with the `else` block that is passed over after an `if`'s block: C
-- tells by the text between them whether a label stands after a `goto`.
pub data Trail : Type 0 where
  top : Trail
  within_if : (passed rest : Block) → Trail → Trail
  in_loop : Site → Head → (body rest : Block) → Trail → Trail

abbrev pub behind_of : Trail → Behind
behind_of top = source.stop
behind_of (within_if passed rest t) = source.behind_if rest (behind_of t)
behind_of (in_loop site head body rest t) = source.again site head body rest (behind_of t)

-- The statement is a `return`, with a value or without. What stands for no statement is none, and leaves nothing in C.
abbrev pub is_return : Simple → Bool
is_return (give_back (Some lost)) = false
is_return (give_back value) = true
is_return s = false

-- A `return` stands in the block.
abbrev pub returns : Block → Bool
returns end = false
returns (plain site s rest) = is_return s || returns rest
returns (choose site chained c a b rest) = returns a || (returns b || returns rest)
returns (loop site head body rest) = returns body || returns rest

-- The end of a body. That of a coroutine stands after its `switch`, and answers ok; a method with a result never comes
-- to its end. Where no `return` stands in it at all, compilers of C ask for one, so one of 0 stands at its end.
abbrev pub ending_of : Form → (has_result : Bool) → Code
ending_of f true = if returns f.method.body then finish else give f (Some (num 0)) finish
ending_of f false = put_all f finish

abbrev pub has_result : Option Ty → Bool
has_result None = false
has_result (Some ty) = true

abbrev pub ending : Form → Code
ending f = if is_coroutine f.method.mark then give f (Some (num 0)) finish else ending_of f (has_result f.method.gives)

-- The code at the end of a block that has this trail.
abbrev pub tail_of : Form → Trail → Code
tail_of f top = if is_coroutine f.method.mark then finish else ending f
tail_of f (within_if passed rest t) = finish
tail_of f (in_loop site head body rest t) = again_here site body

-- What follows a block, in C.
abbrev pub lower_trail : Form → (number : Site → ℕ) → Trail → Continuation
lower_trail f number top = if is_coroutine f.method.mark then behind finish (ending f) stop else stop
lower_trail f number (within_if passed rest t) = behind (lower f number passed finish) (lower f number rest (tail_of f t)) (lower_trail f number t)
lower_trail f number (in_loop site head body rest t) =
    again (lowered_cond f.names head.cond) (lower f number body (again_here site body))
    (behind finish (behind_here site body (lower f number rest (tail_of f t))) (lower_trail f number t))

-- A point that stands inside a block, with what follows it.
pub record Point : Type 0 where
  pub site : Site
  pub statement : Simple
  pub rest : Block
  pub trail : Trail

abbrev pub first_point : Option Point → Option Point → Option Point
first_point None other = other
first_point (Some it) other = Some it

abbrev pub point_in : (number : Site → ℕ) → (k : ℕ) → Block → Trail → Option Point
point_in number k end t = None
point_in number k (plain site s rest) t =
    if is_point s && nat_eq (number site) k then Some (record { site = site; statement = s; rest = rest; trail = t }) else point_in number k rest t
point_in number k (choose site chained c a b rest) t =
    first_point (point_in number k a (within_if b rest t)) (first_point (point_in number k b (within_if end rest t)) (point_in number k rest t))
point_in number k (loop site head body rest) t = first_point (point_in number k body (in_loop site head body rest t)) (point_in number k rest t)

-- What the source's meaning has of it.
abbrev pub items_of : Point → Items
items_of it = record { block = plain it.site it.statement it.rest; behind = behind_of it.trail }

-- Where a resumed call goes on in C: at the point's `case`, after which stands the rest of the point's statement, and
-- after that what follows the point.
abbrev pub point_place : Form → (number : Site → ℕ) → (k : ℕ) → Point → Place
point_place f number k it =
    at (case_label (Int k) (empty finish))
    (behind finish (awoken f k it.statement (lower f number it.rest (tail_of f it.trail))) (lower_trail f number it.trail))

-- A loop that stands inside a block, with what follows it.
pub record Loop : Type 0 where
  pub site : Site
  pub head : Head
  pub body : Block
  pub rest : Block
  pub trail : Trail

abbrev pub first_loop : Option Loop → Option Loop → Option Loop
first_loop None other = other
first_loop (Some it) other = Some it

abbrev pub this_loop : (jumps : ℕ → Block → Bool) → (w : ℕ) → Loop → Option Loop
this_loop jumps w it = if nat_eq it.site.number w && jumps it.site.number it.body then Some it else None

-- The loop with the number `w` of which `jumps` tells that a jump of the kind stands in its body.
abbrev pub loop_in : (jumps : ℕ → Block → Bool) → (w : ℕ) → Block → Trail → Option Loop
loop_in jumps w end t = None
loop_in jumps w (plain site s rest) t = loop_in jumps w rest t
loop_in jumps w (choose site chained c a b rest) t =
    first_loop (loop_in jumps w a (within_if b rest t)) (first_loop (loop_in jumps w b (within_if end rest t)) (loop_in jumps w rest t))
loop_in jumps w (loop site head body rest) t =
    first_loop (loop_in jumps w body (in_loop site head body rest t))
    (first_loop (this_loop jumps w (record { site = site; head = head; body = body; rest = rest; trail = t })) (loop_in jumps w rest t))

-- The loop whose body's end the trail stands at.
abbrev pub loop_around : (w : ℕ) → Trail → Option Loop
loop_around w (in_loop site head body rest t) = this_loop continues w (record { site = site; head = head; body = body; rest = rest; trail = t })
loop_around w t = None

-- The places of its labels.
abbrev pub again_place : Form → (number : Site → ℕ) → Loop → Place
again_place f number it =
    at (name_label (again_label it.site.number) (empty finish)) (lower_trail f number (in_loop it.site it.head it.body it.rest it.trail))

abbrev pub behind_place : Form → (number : Site → ℕ) → Loop → Place
behind_place f number it =
    at (name_label (behind_label it.site.number) (empty (lower f number it.rest (tail_of f it.trail)))) (lower_trail f number it.trail)
