-- A condition with many brackets, as it is written and as it is typed.
use Rattle.std.specs.Prelude.{ℕ, zero, suc, true, false}
use Rattle.wf_ast.specs.declared.operators.Op.TheVariants.{And}
use Rattle.wf_ast.specs.ParsedTree as parsed
use Rattle.wf_ast.specs.ParsedTree.{ExprTree}
use Rattle.wf_ast.specs.TypedTree as typed
use Rattle.wf_ast.specs.TypedTree.{CondTree}
use Rattle.wf_ast.specs.TypedTrees.{no_place}

-- `not (not (.. not true and true ..) and true) and true`, with n brackets inside one another.
abbrev pub both_of : ExprTree → ExprTree
both_of e = parsed.chain And (parsed.negation e no_place) (parsed.link no_place (parsed.truth true no_place) parsed.no_link) no_place

abbrev pub written_deep : (n : ℕ) → ExprTree
written_deep zero = both_of (parsed.truth true no_place)
written_deep (suc n) = both_of (written_deep n)

abbrev pub typed_both_of : CondTree → CondTree
typed_both_of c = typed.junction no_place true false (typed.negation no_place c) (typed.truth no_place true)

abbrev pub typed_deep : (n : ℕ) → CondTree
typed_deep zero = typed_both_of (typed.truth no_place true)
typed_deep (suc n) = typed_both_of (typed_deep n)
