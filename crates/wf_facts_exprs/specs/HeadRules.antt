-- The first rule by the claims with one head.
use Rattle.std.specs.Prelude.{ℕ, Bool, false, ◌&&◌, ◌||◌, List, [], ◌∷◌, nat_eq}
use Rattle.wf_ast.specs.TypedTree.{Order}
use Rattle.wf_facts_exprs.specs.Claims.{SideTree, Claim}
use Rattle.wf_facts_exprs.specs.Heads.{claim_head}
use Rattle.wf_facts_exprs.specs.RangeOf.{claim_gives}

abbrev pub head_gives : ℕ → List Claim → SideTree → Order → SideTree → Bool
head_gives h [] a op b = false
head_gives h (f ∷ fs) a op b = (nat_eq (claim_head f) h && claim_gives f a op b) || head_gives h fs a op b
