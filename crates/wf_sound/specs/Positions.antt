-- Where a running body stands: the block that comes next, what follows it, and the loops round it.
use Rattle.std.specs.Prelude.{ℕ, Bool, true, not, ◌&&◌, ◌||◌, List, [], ◌∷◌, map}
use Rattle.std.specs.List.{list_all}
use Rattle.wf_ast.specs.TypedTree.{ValueTree, elements, Written, copy_to_slice, Simple, assign, perform, invoke, Head, Block}
use Rattle.wf_ast.specs.WellTyped.{Context, is_unrefined, element_type, breaks, well_block}
use Rattle.wf_loops.specs.LoopLaws.{well_head}
use Rattle.wf_meaning.specs.SourceState.{Behind, stop, behind_if, again}
use Rattle.wf_meaning.specs.World.{Body}
use Rattle.wf_bounds_stmts.specs.FactRules.{Around}
use Rattle.wf_sound.specs.Worlds.{context_of}

-- The loops that what follows a block tells of, the innermost first.
abbrev pub loops_round : Behind → List (ℕ × Head)
loops_round stop = []
loops_round (behind_if rest behind) = loops_round behind
loops_round (again site head body rest behind) = (site.number, head) ∷ loops_round behind

-- What the rules of facts take to stand round a statement.
abbrev pub around : Body → Behind → Around
around b behind = record { context = context_of b; loops = loops_round behind }

-- A block keeps the rules of types where it stands, and each loop round it that it leaves by `break` says so.
abbrev pub well_here : Context → Block → Behind → Bool
well_here c block behind =
    well_block c (map (λ l. l.0) (loops_round behind)) block && list_all (λ l. not (breaks l.0 block) || l.1.is_left) (loops_round behind)

abbrev pub well_behind : Context → Behind → Bool
well_behind c stop = true
well_behind c (behind_if rest behind) = well_here c rest behind && well_behind c behind
well_behind c (again site head body rest behind) =
    well_head c head && (well_here c body (again site head body rest behind) && (well_here c rest behind && well_behind c behind))

-- The block that comes next, and all that follows it, keep the rules of types.
abbrev pub well_at : Context → Block → Behind → Bool
well_at c block behind = well_here c block behind && well_behind c behind

-- What is more in a package that came through the checks of types: a slice that is handed on, or that is copied to, has
-- elements that may be all numbers of their width, as every slice by its type has; an array with refined elements is never
-- meant as a slice.

abbrev pub is_slice_value : ValueTree → Bool
is_slice_value (elements t) = is_unrefined (element_type t)
is_slice_value t = true

abbrev pub is_slice_target : Written → Bool
is_slice_target (copy_to_slice to source) = is_unrefined (element_type to)
is_slice_target call = true

abbrev pub hands_on_well : Simple → Bool
hands_on_well (assign target op v) = is_slice_value v
hands_on_well (perform at target call) = is_slice_target call
hands_on_well (invoke at target keep mark called vs) = list_all is_slice_value vs
hands_on_well s = true
