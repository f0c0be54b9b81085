use Rattle.std.proofs.Common.{◌∙◌, ap, sym, refl, subst, length, map}
use Rattle.wf_ast.specs.declared.declarations.Var.{Var}
use Rattle.wf_mean_runs.proofs.ArgumentLaws.{args_are_declared, args_declared, args_sized, frames_same, given_there}
use Rattle.std.proofs.Common.{List}
use Rattle.wf_ast.specs.TypedTrees.{tree_of}
use Rattle.wf_ast.specs.TypedPackage.{variable_of}
use Rattle.wf_meaning.specs.SourceStep.{values_of}
use Rattle.wf_mean_exprs.specs.MachineState.{slot_seen}
use Rattle.wf_mean_stmts.specs.Arguments.{Fills}
use Rattle.wf_mean_stmts.specs.Stages.{sight_on}
use Rattle.wf_mean_runs.proofs.answering.give_args.Goals as goal

pub give_in-requires-clause-sizes : goal.give_in-requires-clause-sizes
give_in-requires-clause-sizes c =
    let nodes = c.args.t.now in
    args_sized nodes c.args.below.now c.args.stage.now c.args.m.0 c.in-Some.at c.index-below-at.result c.requires.ready (sym c.in-Some.ensures.frame) (c.in-Some.ensures.within c.in-Some.at refl)
    ∙ args_declared nodes c.args.m.0 c.method.result.now c.method.ensures ∙ sym (ap length c.as_slice-declared.ensures)

pub returns-in-Some-clause-values : goal.returns-in-Some-clause-values
returns-in-Some-clause-values c =
    let nodes = c.args.t.now in
    let P : List Var → Type 0 = λ vs. Fills c.give_in.result (values_of (sight_on nodes c.args.stage.now) (map (variable_of nodes) vs) (map (tree_of nodes) c.args.args.now)) (map slot_seen c.give_in.new.frame.args.items) in
    given_there nodes c.args.below.now c.args.m.0 c.in-Some.at c.give_in.new.frame c.give_in.result _ (sym c.in-Some.ensures.frame) (c.in-Some.ensures.within c.in-Some.at refl)
    (subst P (c.as_slice-declared.ensures ∙ sym (args_are_declared nodes c.args.m.0 c.method.result.now c.method.ensures)) c.give_in.ensures.values)

pub returns-in-Some-clause-frames : goal.returns-in-Some-clause-frames
returns-in-Some-clause-frames c = frames_same c.args.below.now c.in-Some.at c.give_in.new.frame c.index-below-at.result (c.in-Some.ensures.within c.in-Some.at refl) c.give_in.ensures.sizes
