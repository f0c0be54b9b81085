-- A statement of the package `demo` at which all that the law of one step supposes is so: `this.val = (10 * this.val) +
-- (c as base.u32)` in its line 21, where `c <= 9` and `this.val < 429_496729` are known.
use Rattle.std.specs.Prelude.{ℕ, true, false, List, [], ◌∷◌, None}
use Rattle.wf_base.specs.BaseOps.{empty_buffer}
use Rattle.wf_base.specs.declared.marks.Mark.TheVariants.{Coroutine}
use Rattle.wf_ast.specs.declared.types.Ty.TheVariants as types
use Rattle.wf_ast.specs.TypedTree.{local, field, plus, times, less, at_most, NumTree, number, read, link, convert, truth, numeric, to_number, Simple, assign, continue_in, Head, Block, end, plain}
use Rattle.wf_ast.specs.TypedPackage.{MethodTree}
use Rattle.wf_ast.specs.Value.{num, buffer}
use Rattle.wf_facts_exprs.specs.Claims.{Claim, compared, single}
use Rattle.wf_meaning.specs.SourceState.{held_num, ready, Behind, stop, again}
use Rattle.wf_meaning.specs.World.{Body, Vars}
use Rattle.wf_meaning.specs.Examples.{on, site, byte_type, word_type, byte_ty, variable}
use Rattle.wf_meaning.specs.Demo.{parse_loop, demo}
use Rattle.wf_bounds_stmts.specs.FactRules.{Known}
use Rattle.wf_sound.specs.Worlds.{Shape}

abbrev pub val : NumTree
val = read (on 21 30) word_type (field 0)

abbrev pub digit : NumTree
digit = read (on 21 43) byte_type (local 0)

-- The assignment, what follows it in its block, and the loop round it.
abbrev pub next_val : Simple
next_val =
    assign (to_number (on 21 13) word_type (field 0)) None (numeric (link (on 21 40) (on 21 40) plus 32 false
    (link (on 21 28) (on 21 28) times 32 false (number (on 21 25) 10) val) (convert (on 21 45) (on 21 45) 32 digit)))

abbrev pub after_it : Block
after_it = plain (site 8 22 13) (continue_in 12) end

abbrev pub loop_head : Head
loop_head = record { cond = truth (on 11 11) true; clauses = []; is_left = false; close = on 27 5 }

abbrev pub round_it : Behind
round_it = again (site 12 11 5) loop_head parse_loop end stop

abbrev pub known_there : List Claim
known_there = compared (single val) less (single (number (on 20 23) 429496729)) ∷ compared (single digit) at_most (single (number (on 16 28) 9)) ∷ []

-- The method `parse` where 7 has been read so far and 5 comes next.
abbrev pub parse : MethodTree
parse = record { name = []; of = 0; public = true; mark = Coroutine; args = variable [] types.Reader ∷ []; locals = variable [] byte_ty ∷ []; gives = None; body = end }

abbrev pub parsing : Body
parsing = record { within = demo; object = 0; method = parse; args = buffer 0 ∷ [] }

abbrev pub one_parser : Shape
one_parser = record { structs = 0 ∷ []; arrays = []; buffers = 1 }

abbrev pub vars_with : (val : ℕ) → Vars
vars_with n =
    record { locals = num 5 ∷ []; world = record { objects = record { life = ready; fields = held_num n ∷ []; active = None; remaining = None ∷ None ∷ [] } ∷ []; host = record { buffers = empty_buffer 4 ∷ []; arrays = [] } } }

-- Nothing is listed of statements at which a method may have been left.
abbrev pub no_lists : (method statement : ℕ) → Known
no_lists method statement = None
