use Rattle.std.proofs.Common.{◌≡◌, map, drop}
use Rattle.wf_ast.specs.TypedTrees.{tree_of}
use Rattle.wf_facts_exprs.specs.Claims.{claims_in}
use Rattle.wf_facts.specs.IndexedFacts.{IsOver}
use Rattle.wf_bounds_stmts.specs.Calls.{without_handed}
use Rattle.wf_bounds_stmts.proofs.calling.drop_handed.Given as goal

abbrev pub invariant-loop-i : goal.invariant-loop-i
invariant-loop-i l =
    IsOver l.t l.facts × (without_handed (map (tree_of l.t) (drop l.i l.args)) (claims_in l.t l.facts.list) ≡ without_handed (map (tree_of l.t) l.args) (claims_in l.t l.initial.facts.list))
