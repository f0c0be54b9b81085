-- A worked example: what a decimal parser knows of the byte `c`, the first local of its method, where it takes a digit's
-- value. It has gone on from `if c == 0` and from `if (c < 48) or (57 < c)`.
use Rattle.std.specs.Prelude.{ℕ, false, List, [], ◌∷◌}
use Rattle.wf_ast.specs.TypedTree.{local, NumTree, number, read, less, equal, differs, at_least, at_most, CondTree, compare, junction}
use Rattle.wf_ast.specs.TypedTrees.{no_place}
use Rattle.wf_facts_exprs.specs.Claims.{Claim, compared, single}

abbrev pub the_byte : NumTree
the_byte = read no_place (record { bits = 8; low = 0; high = 255 }) (local 0)

abbrev pub the_number : ℕ → NumTree
the_number n = number no_place n

abbrev pub is_zero : CondTree
is_zero = compare no_place no_place the_byte equal (the_number 0)

abbrev pub is_no_digit : CondTree
is_no_digit = junction no_place false false (compare no_place no_place the_byte less (the_number 48)) (compare no_place no_place (the_number 57) less the_byte)

-- `c <> 0`, `c >= 48`, `c <= 57`.
abbrev pub digit_facts : List Claim
digit_facts =
    compared (single the_byte) differs (single (the_number 0)) ∷ compared (single the_byte) at_least (single (the_number 48)) ∷ compared (single the_byte) at_most (single (the_number 57)) ∷ []
