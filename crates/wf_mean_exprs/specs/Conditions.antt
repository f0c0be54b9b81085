-- What the machine's conditions and statuses answer.
use Rattle.std.specs.Prelude.{ℕ, Bool, true, false, ◌&&◌, ◌||◌, List, [], ◌∷◌, Option, option_map, option_and_then, nat_eq, if◌then◌else◌}
use Rattle.wf_base.specs.declared.base_methods.BaseSig.{BaseSig}
use Rattle.wf_base.specs.declared.base_methods.Gives.{Gives}
use Rattle.wf_base.specs.declared.base_methods.Gives.TheVariants as answers
use Rattle.wf_base.specs.declared.marks.Mark.TheVariants.{Pure}
use Rattle.wf_base.specs.BaseTable.{row_of}
use Rattle.wf_ast.specs.TypedTree.{Order, CondTree}
use Rattle.wf_ast.specs.TypedTrees.{OperatorKind, joining}
use Rattle.wf_ast.specs.WellTyped.{same_mark}
use Rattle.wf_ast.specs.Value.{State, truth_of, compares, same_truth}

-- An operator that joins conditions is `and`.
abbrev pub joins_both : OperatorKind → Bool
joins_both (joining both) = both
joins_both sort = false

-- One condition joined to those so far.
abbrev pub junction_of : (both : Bool) → Option Bool → Option Bool → Option Bool
junction_of both so_far next = option_and_then (λ p. option_map (λ q. if both then p && q else p || q) next) so_far

-- A chain on from the truth value of the part so far.
abbrev pub chain_truth : State → (both : Bool) → Option Bool → List CondTree → Option Bool
chain_truth s both so_far [] = so_far
chain_truth s both so_far (t ∷ ts) = chain_truth s both (junction_of both so_far (truth_of s t)) ts

-- Comparisons of two numbers, and of two statuses.
abbrev pub numbers_compare : Order → Option ℕ → Option ℕ → Option Bool
numbers_compare op m n = option_and_then (λ x. option_map (compares op x) n) m

abbrev pub statuses_same : (one : Bool) → Option ℕ → Option ℕ → Option Bool
statuses_same one m n = option_and_then (λ x. option_map (λ y. same_truth one (nat_eq x y)) n) m

-- The method answers a truth value.
abbrev pub is_flag : Gives → Bool
is_flag answers.Flag = true
is_flag answer = false

abbrev pub gives_truth : BaseSig → Bool
gives_truth sig = is_flag (row_of sig).gives && same_mark (row_of sig).mark Pure
