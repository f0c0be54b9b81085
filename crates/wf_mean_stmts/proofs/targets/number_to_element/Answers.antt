use Rattle.std.proofs.Common.{◌∙◌, sym, ap, subst, Option}
use Rattle.std.specs.Prelude.{option_map}
use Rattle.wf_ast.specs.TypedTrees.{num_type, place_of_node, type_of_node}
use Rattle.wf_ast.specs.NodeKinds.{node_number, node_slice}
use Rattle.wf_meaning.specs.World.{Vars, in_range}
use Rattle.wf_mean_exprs.specs.MachineState.{span_seen}
use Rattle.wf_mean_stmts.specs.Stages.{Comes, vars_on}
use Rattle.wf_mean_stmts.proofs.TargetLemmas.{element_put}
use Rattle.wf_mean_stmts.proofs.targets.number_to_element.Goals as goal

pub returns-clause-vars : goal.returns-clause-vars
returns-clause-vars c =
    let nodes = c.args.t.now in
    let P : Option Vars → Type 0 = λ o. Comes c.put_at.result o (vars_on nodes c.put_at.new.stage) in
    subst P
    (sym (element_put nodes c.args.stage.now (place_of_node nodes c.args.e.0) (num_type (type_of_node nodes c.args.e.0)) (node_slice nodes c.args.base) (node_number nodes c.args.at) c.args.n c.lies_in.result (option_map span_seen c.slice_on-span.result) c.number_on-k.result
    (c.lies_in.ensures ∙ ap (λ ty. in_range (num_type ty) c.args.n) c.type_of.ensures) c.if-not-lies_in.false c.slice_on-span.ensures c.number_on-k.ensures))
    (c.put_at.ensures.vars nodes)
