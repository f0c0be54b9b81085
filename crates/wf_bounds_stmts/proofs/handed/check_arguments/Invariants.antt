use Rattle.std.proofs.Common.{◌≡◌, map, drop, None}
use Rattle.wf_facts_exprs.specs.Knowledge.{told}
use Rattle.wf_text.specs.declared.rules.Rule.TheVariants.{B8}
use Rattle.wf_ast.specs.TypedTrees.{tree_of}
use Rattle.wf_facts_exprs.specs.Claims.{claims_in}
use Rattle.wf_bounds_stmts.specs.Requirements.{first_handed}
use Rattle.wf_bounds_stmts.specs.Calls.{handed_to}
use Rattle.wf_bounds_stmts.proofs.handed.check_arguments.Given as goal

abbrev pub invariant-loop-i : goal.invariant-loop-i
invariant-loop-i l =
    first_handed B8 (claims_in l.t (told l.facts)) l.first (handed_to (map (λ x. x.ty) (drop l.i l.taken)) (map (tree_of l.t) (drop l.i l.args)))
    ≡ first_handed B8 (claims_in l.t (told l.facts)) None (handed_to (map (λ x. x.ty) l.taken) (map (tree_of l.t) l.args))
