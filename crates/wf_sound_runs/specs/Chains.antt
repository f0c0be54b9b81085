-- What the tree of a package keeps besides the rules of types.
use Rattle.std.specs.Prelude.{ℕ, Bool, true, false, not, ◌&&◌, ◌||◌, nat_eq}
use Rattle.wf_ast.specs.TypedTree.{invoke, Block, end, plain, choose, loop}
use Rattle.wf_ast.specs.WellTyped.{number_of, calls_only}
use Rattle.wf_meaning.specs.SourceState.{Behind, stop, behind_if, again}
use Rattle.wf_sound.specs.Positions.{hands_on_well}

-- Nothing follows an `else if` in its block, which stands alone after the `else`.
abbrev pub is_end : Block → Bool
is_end end = true
is_end block = false

-- And each statement hands on what it may.
abbrev pub well_made : Block → Bool
well_made end = true
well_made (plain site s rest) = hands_on_well s && well_made rest
well_made (choose site chained c a b rest) = (not chained || is_end rest) && (well_made a && (well_made b && well_made rest))
well_made (loop site head body rest) = well_made body && well_made rest

-- So does all that follows a block.
abbrev pub made_behind : Behind → Bool
made_behind stop = true
made_behind (behind_if rest behind) = well_made rest && made_behind behind
made_behind (again site head body rest behind) = well_made body && (well_made rest && made_behind behind)

-- A block calls the method with a number.
abbrev pub body_calls : Block → ℕ → Bool
body_calls end n = false
body_calls (plain site (invoke at target keep mark called args) rest) n = nat_eq (number_of called) n || body_calls rest n
body_calls (plain site s rest) n = body_calls rest n
body_calls (choose site chained c a b rest) n = body_calls a n || (body_calls b n || body_calls rest n)
body_calls (loop site head body rest) n = body_calls body n || body_calls rest n

-- What follows a block calls only some methods.
abbrev pub calls_behind : (ℕ → Bool) → Behind → Bool
calls_behind known stop = true
calls_behind known (behind_if rest behind) = calls_only known rest && calls_behind known behind
calls_behind known (again site head body rest behind) = calls_only known body && (calls_only known rest && calls_behind known behind)
