use Rattle.std.proofs.Common.{ap, sym, ◌∙◌}
use Rattle.wf_ast.specs.TypedTrees.{tree_of}
use Rattle.wf_facts_exprs.specs.Demands.{unless_refused}
use Rattle.wf_bounds_stmts.specs.Requirements.{number_type}
use Rattle.wf_bounds_stmts.proofs.LimitLemmas.{asks-none, takes-none}
use Rattle.wf_bounds_stmts.proofs.limits.check_range.Goals as goal

pub returns-then-is_number : goal.returns-then-is_number
returns-then-is_number c facts known = c.check_number.ensures facts (sym c.in-Some.is ∙ known)

pub returns-else-is_number : goal.returns-else-is_number
returns-else-is_number c facts known =
    sym (ap (λ p. unless_refused p (tt {0})) (takes-none c.args.rule facts c.args.ty (tree_of c.args.t.now c.args.e) (sym c.is_number.ensures ∙ c.if-is_number.false)))

pub returns-in-None : goal.returns-in-None
returns-in-None c facts known =
    sym (ap (λ p. unless_refused p (tt {0})) (asks-none c.args.rule facts (number_type c.args.ty) (tree_of c.args.t.now c.args.e) (sym known ∙ c.in-None.is)))
