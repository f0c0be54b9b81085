-- The law of labels: in what a block is lowered to, each label is found where the source goes on. Nothing runs in it.
use Rattle.std.specs.Prelude.{ℕ, ◌≡◌, ◌<◌, ◌^◌, option_map}
use Rattle.wf_num.specs.declared.c_arithmetic.CTy.TheVariants.{Int}
use Rattle.wf_ast.specs.TypedTree.{Site, Block, end, plain, choose, loop}
use Rattle.wf_ast.specs.WellTyped.{breaks}
use Rattle.wf_meaning.specs.Remaining.{rest_in}
use Rattle.c_meaning.specs.CValues.{number}
use Rattle.c_meaning.specs.CStep.{by_name, by_case, find, first_of}
use Rattle.wf_exprs.specs.Names.{again_label, behind_label}
use Rattle.wf_lower_stmts.specs.Forms.{Form}
use Rattle.wf_lower_stmts.specs.Lower.{lower, Trail, top, within_if, in_loop, behind_of, tail_of, lower_trail, point_in, items_of, point_place, continues, loop_in, loop_around, again_place, behind_place}

-- The points of a block, with their trails, are those of the source's meaning.
abbrev pub PointsAgree : (number : Site → ℕ) → (k : ℕ) → Block → Trail → Type 0
PointsAgree n k b t = option_map items_of (point_in n k b t) ≡ rest_in n k b (behind_of t)

-- The `case` of a point stands where the point does.
abbrev pub ResumesAtPoint : Form → (number : Site → ℕ) → (k : ℕ) → Block → Trail → Type 0
ResumesAtPoint f n k b t =
    find (by_case (number Int k)) (lower f n b (tail_of f t)) (lower_trail f n t) ≡ option_map (point_place f n k) (point_in n k b t)

-- A label spells the number of its loop, and numbers of 64 bits are spelt apart. So are the numbers of all loops of a block,
-- and the number of the loop whose body's end follows it.
abbrev pub AreSpelt : Block → Type 0
AreSpelt end = Unit {0}
AreSpelt (plain site s rest) = AreSpelt rest
AreSpelt (choose site chained c a b rest) = AreSpelt a × (AreSpelt b × AreSpelt rest)
AreSpelt (loop site head body rest) = (site.number < 2 ^ 64) × (AreSpelt body × AreSpelt rest)

abbrev pub IsSpelt : Trail → Type 0
IsSpelt top = Unit {0}
IsSpelt (within_if passed rest t) = Unit {0}
IsSpelt (in_loop site head body rest t) = site.number < 2 ^ 64

-- A `continue` leads to the end of its loop's body, and a `break` after its loop.
abbrev pub ContinuesAtLoop : Form → (number : Site → ℕ) → (w : ℕ) → Block → Trail → Type 0
ContinuesAtLoop f n w b t =
    find (by_name (again_label w)) (lower f n b (tail_of f t)) (lower_trail f n t)
    ≡ first_of (option_map (again_place f n) (loop_in continues w b t)) (option_map (again_place f n) (loop_around w t))

abbrev pub BreaksBehindLoop : Form → (number : Site → ℕ) → (w : ℕ) → Block → Trail → Type 0
BreaksBehindLoop f n w b t =
    find (by_name (behind_label w)) (lower f n b (tail_of f t)) (lower_trail f n t) ≡ option_map (behind_place f n) (loop_in breaks w b t)

-- The numbers of points fit the `int` that a `switch` asks.
abbrev pub AreInts : (number : Site → ℕ) → Type 0
AreInts n = (site : Site) → n site < 2 ^ 31
