-- Worked examples: loops over `i`, the first local of a method, of type base.u32.
use Rattle.std.specs.Prelude.{ℕ, Bool, true, false, List, [], ◌∷◌}
use Rattle.wf_text.specs.declared.place.Place.{Place}
use Rattle.wf_ast.specs.declared.parsed.Clause.{Clause}
use Rattle.wf_ast.specs.declared.parsed.Clause.TheVariants.{Pre, Inv, Post}
use Rattle.wf_ast.specs.TypedTree.{local, plus, NumTree, number, read, link, Order, less, at_most, equal, at_least, CondTree, truth, compare, Head}
use Rattle.wf_ast.specs.TypedTrees.{no_place}
use Rattle.wf_facts_exprs.specs.Claims.{Claim, compared, single}

abbrev pub the_counter : NumTree
the_counter = read no_place (record { bits = 32; low = 0; high = 4294967295 }) (local 0)

-- `i` compared with a number, as a condition and as a claim.
abbrev pub counter_is : Order → ℕ → CondTree
counter_is op n = compare no_place no_place the_counter op (number no_place n)

abbrev pub known : Order → ℕ → Claim
known op n = compared (single the_counter) op (single (number no_place n))

abbrev pub loop_head : CondTree → List (Clause × CondTree) → (is_left : Bool) → Head
loop_head cond clauses left = record { cond = cond; clauses = clauses; is_left = left; close = no_place }

--     while i < 10,
--         inv i <= 10,
--         post i >= 5,
--     {
--         i += 1
--     } endwhile
abbrev pub counting : (is_left : Bool) → Head
counting left = loop_head (counter_is less 10) ((Inv, counter_is at_most 10) ∷ (Post, counter_is at_least 5) ∷ []) left

-- The same with `inv i < 10` in place of both promises.
abbrev pub counting_below : Head
counting_below = loop_head (counter_is less 10) ((Inv, counter_is less 10) ∷ []) false

--     while true,
--         pre i == 0,
--         post i >= 5,
--     {
--         break
--     } endwhile
abbrev pub broken_off : Head
broken_off = loop_head (truth no_place true) ((Pre, counter_is equal 0) ∷ (Post, counter_is at_least 5) ∷ []) true

--     while i < 10,
--         inv (i + 1) < 12,
--     { .. } endwhile
abbrev pub promising_a_sum : (sign : Place) → Head
promising_a_sum sign = loop_head (counter_is less 10) ((Inv, compare no_place no_place (link no_place sign plus 32 false the_counter (number no_place 1)) less (number no_place 12)) ∷ []) false
