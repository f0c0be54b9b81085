use Rattle.std.proofs.Common.{◌∙◌, ap}
use Rattle.wf_ast.specs.ParsedTrees.{decl_trees}
use Rattle.wf_names_nodes.specs.Declaring.{with_others}
use Rattle.wf_names_nodes.proofs.PackageLemmas.{consts_counted, ok_equal_more}
use Rattle.wf_names_nodes.proofs.packages.all_decls.Goals as goal
use Rattle.wf_names_rules.specs.Declarations.{declared_in}

pub all_consts-requires-clause-outside : goal.all_consts-requires-clause-outside
all_consts-requires-clause-outside c = c.outside-scope.ensures (declared_in c.args.parsed.now)

pub all_others-requires-clause-none : goal.all_others-requires-clause-none
all_others-requires-clause-none c = consts_counted c.args.nodes.now c.all_consts.new.nodes _ c.in_ok-all_consts.ensures.added ∙ c.requires.none

pub returns : goal.returns
returns c =
    let decls = decl_trees c.args.parsed.now.exprs c.args.parsed.now.stmts c.args.parsed.now.decls in
    ok_equal_more c.all_others.result _ _ _ (ap (λ t. with_others (declared_in c.args.parsed.now) t decls) c.in_ok-all_consts.ensures.added) c.all_others.ensures
