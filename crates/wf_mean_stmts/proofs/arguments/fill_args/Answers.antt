use Rattle.std.proofs.Common.{◌∙◌, ap, arith, map}
use Rattle.std.proofs.lemmas.List.{length-map}
use Rattle.wf_ast.specs.TypedTrees.{tree_of}
use Rattle.wf_ast.specs.TypedPackage.{variable_of}
use Rattle.wf_mean_stmts.proofs.ArgumentLemmas.{stuck_at, too_many_or_few}
use Rattle.wf_mean_stmts.specs.Arguments.{fitting_value}
use Rattle.wf_mean_stmts.specs.Stages.{sight_on}
use Rattle.wf_mean_stmts.proofs.arguments.fill_args.Goals as goal

pub returns-then-args-declared-clause-values : goal.returns-then-args-declared-clause-values
returns-then-args-declared-clause-values c =
    let nodes = c.args.t.now in
    too_many_or_few _ (map (variable_of nodes) c.args.declared.now) (map (tree_of nodes) c.args.args.now) _
    (λ e. let f = c.if-args-declared.true in absurd (omega (arith, f, e, length-map c.args.declared.now (variable_of nodes), length-map c.args.args.now (tree_of nodes))))

pub returns-in-None-clause-values : goal.returns-in-None-clause-values
returns-in-None-clause-values c =
    let nodes = c.args.t.now in
    stuck_at (sight_on nodes c.args.stage.now) nodes c.args.declared.now c.args.args.now _ _ _ c.loop-i.i _ _ (omega (arith, c.loop-i-test.true, c.if-args-declared.false)) c.loop-i-test.true (c.in-None.ensures ∙ ap (fitting_value _) c.value_on.ensures) c.loop-i.invariant
