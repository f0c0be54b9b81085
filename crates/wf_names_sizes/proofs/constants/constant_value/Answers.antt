use Rattle.wf_ast.specs.ParsedTrees.{expr_trees}
use Rattle.wf_names_sizes.specs.Capped.{sized}
use Rattle.wf_names_sizes.proofs.ValueLemmas.{constant_value_is}
use Rattle.wf_names_sizes.proofs.constants.constant_value.Goals as goal
use Rattle.wf_names_rules.specs.Declarations.{declared_in}

pub returns : goal.returns
returns c = λ known name k.
    let env = c.args.env.now in
    let es = expr_trees env.parsed.now.exprs in
    constant_value_is (declared_in env.parsed.now) es env known c.requires.outside k c.args.of.now c.in_ok-width.width c.args.number name (sized c.value.result) (sized c.refined.result)
    (c.in_ok-width.ensures es) c.value.ensures c.refined.ensures
