use Rattle.std.proofs.Common.{None, ◌∙◌, ap, refl}
use Rattle.wf_ast.specs.ParsedTrees.{expr_trees, expr_at}
use Rattle.wf_names_rules.specs.Sizes.{number_or_zero}
use Rattle.wf_names_sizes.specs.declared.environment.Environment.{Environment}
use Rattle.wf_names_sizes.proofs.PartLemmas.{value_by_all}
use Rattle.wf_names_sizes.proofs.parts.count.Goals as goal
use Rattle.wf_names_rules.specs.Declarations.{declared_in}

pub returns-in-Some : goal.returns-in-Some
returns-in-Some c =
    let setting = c.args.setting.now in
    let p = setting.parsed.now in
    let env : Environment = record { parsed = setting.parsed; constants = setting.constants; locals = None } in
    ap number_or_zero ((rw c.in-Some.is at c.value.ensures) ∙ value_by_all (declared_in p) env refl c.requires.setting.knows (expr_at (expr_trees p.exprs) c.args.elements))

pub returns-in-None : goal.returns-in-None
returns-in-None c =
    let setting = c.args.setting.now in
    let p = setting.parsed.now in
    let env : Environment = record { parsed = setting.parsed; constants = setting.constants; locals = None } in
    ap number_or_zero ((rw c.in-None.is at c.value.ensures) ∙ value_by_all (declared_in p) env refl c.requires.setting.knows (expr_at (expr_trees p.exprs) c.args.elements))
