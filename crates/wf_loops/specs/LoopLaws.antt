-- What holds of a loop over states of whole numbers.
use Rattle.std.specs.Prelude.{◌≡◌, Bool, true, false, ◌&&◌, List, [], ◌∷◌, Some}
use Rattle.std.specs.List.{list_all}
use Rattle.wf_ast.specs.declared.parsed.Clause.{Clause}
use Rattle.wf_ast.specs.TypedTree.{CondTree, Head}
use Rattle.wf_ast.specs.Value.{State, truth_of}
use Rattle.wf_ast.specs.WellTyped.{Context, well_cond}
use Rattle.wf_facts_exprs.specs.Claims.{AllTrue}
use Rattle.wf_loops.specs.declared.moments.Moment.{Moment}
use Rattle.wf_loops.specs.declared.moments.Moment.TheVariants.{Leave}
use Rattle.wf_loops.specs.LoopRules.{is_asked, head_list, body_list, after_list}

-- A loop's condition and its promises keep the rules of types.
abbrev pub well_head : Context → Head → Bool
well_head c head = well_cond c head.cond && list_all (λ p. well_cond c p.1) head.clauses

-- The promises asked at a moment are true.
abbrev pub AllHold : State → Moment → List (Clause × CondTree) → Type 0
AllHold s moment [] = Unit {0}
AllHold s moment (c ∷ cs) = (is_asked moment c.0 ≡ true → truth_of s c.1 ≡ Some true) × AllHold s moment cs

-- The condition goes into the body, whose first list is true; or it ends the loop, whose `inv` and `post` are true, and so
-- is the list after it.
pub data Tested (s : State) (head : Head) : Type 0 where
  goes_in : truth_of s head.cond ≡ Some true → AllTrue s (body_list (head_list head) head) → Tested s head
  ends : truth_of s head.cond ≡ Some false → AllHold s Leave head.clauses → AllTrue s (after_list head) → Tested s head
