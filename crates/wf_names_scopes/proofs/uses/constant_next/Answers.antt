use Rattle.wf_ast.specs.ParsedTrees.{expr_trees, type_at}
use Rattle.wf_names_scopes.proofs.PackageLemmas.{on_ok}
use Rattle.wf_names_scopes.proofs.uses.constant_next.Goals as goal

pub returns-clause-constants : goal.returns-clause-constants
returns-clause-constants c =
    on_ok c.pass_constant.result (λ pass d known left split h. pass d known left (record { name = c.args.constant.name; of = type_at (expr_trees c.args.whole.now.parsed.now.exprs) c.args.constant.of.now }) split h)
    c.pass_constant.ensures
