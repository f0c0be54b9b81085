use Rattle.std.proofs.Common.{[], ◌∷◌, ◌∙◌, ap}
use Rattle.wf_ast.specs.ParsedTrees.{expr_trees, expr_at, type_at}
use Rattle.wf_named.specs.NamedParts.{named_package}
use Rattle.wf_names_rules.specs.Uses.{constant_scope}
use Rattle.wf_names_scopes.proofs.PackageLemmas.{on_ok}
use Rattle.wf_names_resolve.specs.Package.{resolved_const}
use Rattle.wf_names_resolve.proofs.Growth.{ok_still}
use Rattle.wf_names_nodes.specs.Declaring.{with_consts}
use Rattle.wf_names_nodes.proofs.StandingLemmas.{standing_same}
use Rattle.wf_names_nodes.proofs.packages.next_const.Goals as goal
use Rattle.wf_names_rules.specs.Declarations.{declared_in}

pub returns-clause-added : goal.returns-clause-added
returns-clause-added c =
    let es = expr_trees c.args.parsed.now.exprs in
    ok_still c.pass_constant.result _
    (λ known h. c.in_ok-put_const.ensures ∙ ap (λ k. with_consts (named_package c.args.nodes.now) (resolved_const k c.args.constant.name (type_at es c.args.constant.of.now) (expr_at es c.args.constant.value) ∷ []))
    (standing_same (declared_in c.args.parsed.now) (constant_scope known) c.args.tables.now c.args.scope.now c.requires.tables h))

pub returns-clause-known : goal.returns-clause-known
returns-clause-known c =
    on_ok c.pass_constant.result (λ pass d known left split h. pass d known left (record { name = c.args.constant.name; of = type_at (expr_trees c.args.parsed.now.exprs) c.args.constant.of.now }) split h)
    c.pass_constant.ensures
