use Rattle.std.proofs.Common.{ap}
use Rattle.wf_ast.specs.TypedInvariant.{is_io, is_list}
use Rattle.wf_exprs_nodes.specs.Trees.{is_single}
use Rattle.wf_exprs_nodes.proofs.ValueLaws.{seen_type}
use Rattle.wf_lower_stmts.specs.BodyNodes.{form_in}
use Rattle.wf_lower_blocks.proofs.CallLaws.{buffer_is, part_absurd, passes_as, single_codes, slice_codes}
use Rattle.wf_lower_blocks.proofs.calling.pass.Goals as goal

pub returns-in-Num-clause-pushed : goal.returns-in-Num-clause-pushed
returns-in-Num-clause-pushed c =
    let is = ap is_single (seen_type _ c.args.b.now.nodes c.args.e.0 _ _ c.typed.ensures.same c.type_of.ensures c.in-Num.is) in
    passes_as _ _ _ _ _ _ c.pass_single.result (single_codes c.args.b.now.nodes c.typed.ensures.kept c.args.e c.requires.node (form_in c.args.b.now).names is) c.pass_single.ensures.pushed

pub returns-in-Flag-clause-pushed : goal.returns-in-Flag-clause-pushed
returns-in-Flag-clause-pushed c =
    let is = ap is_single (seen_type _ c.args.b.now.nodes c.args.e.0 _ _ c.typed.ensures.same c.type_of.ensures c.in-Flag.is) in
    passes_as _ _ _ _ _ _ c.pass_single-in-Flag.result (single_codes c.args.b.now.nodes c.typed.ensures.kept c.args.e c.requires.node (form_in c.args.b.now).names is) c.pass_single-in-Flag.ensures.pushed

pub returns-in-Status-clause-pushed : goal.returns-in-Status-clause-pushed
returns-in-Status-clause-pushed c =
    let is = ap is_single (seen_type _ c.args.b.now.nodes c.args.e.0 _ _ c.typed.ensures.same c.type_of.ensures c.in-Status.is) in
    passes_as _ _ _ _ _ _ c.pass_single-in-Status.result (single_codes c.args.b.now.nodes c.typed.ensures.kept c.args.e c.requires.node (form_in c.args.b.now).names is) c.pass_single-in-Status.ensures.pushed

pub returns-in-Slice-clause-pushed : goal.returns-in-Slice-clause-pushed
returns-in-Slice-clause-pushed c =
    let is = ap is_list (seen_type _ c.args.b.now.nodes c.args.e.0 _ _ c.typed.ensures.same c.type_of.ensures c.in-Slice.is) in
    passes_as _ _ _ _ _ _ c.pass_slice.result (slice_codes c.args.b.now.nodes c.typed.ensures.kept c.args.e c.requires.node (form_in c.args.b.now).names is) c.pass_slice.ensures.pushed

pub returns-in-Array-clause-pushed : goal.returns-in-Array-clause-pushed
returns-in-Array-clause-pushed c =
    let is = ap is_list (seen_type _ c.args.b.now.nodes c.args.e.0 _ _ c.typed.ensures.same c.type_of.ensures c.in-Array.is) in
    passes_as _ _ _ _ _ _ c.pass_slice-in-Array.result (slice_codes c.args.b.now.nodes c.typed.ensures.kept c.args.e c.requires.node (form_in c.args.b.now).names is) c.pass_slice-in-Array.ensures.pushed

pub returns-in-Reader-clause-pushed : goal.returns-in-Reader-clause-pushed
returns-in-Reader-clause-pushed c =
    let is = ap is_io (seen_type _ c.args.b.now.nodes c.args.e.0 _ _ c.typed.ensures.same c.type_of.ensures c.in-Reader.is) in
    passes_as _ _ _ _ _ _ c.pass_buffer.result (buffer_is c.args.b.now.nodes c.typed.ensures.kept c.args.e c.requires.node (form_in c.args.b.now).names is) c.pass_buffer.ensures.pushed

pub returns-in-Writer-clause-pushed : goal.returns-in-Writer-clause-pushed
returns-in-Writer-clause-pushed c =
    let is = ap is_io (seen_type _ c.args.b.now.nodes c.args.e.0 _ _ c.typed.ensures.same c.type_of.ensures c.in-Writer.is) in
    passes_as _ _ _ _ _ _ c.pass_buffer-in-Writer.result (buffer_is c.args.b.now.nodes c.typed.ensures.kept c.args.e c.requires.node (form_in c.args.b.now).names is) c.pass_buffer-in-Writer.ensures.pushed

pub unreachable-requires : goal.unreachable-requires
unreachable-requires c = part_absurd _ c.args.b.now.nodes c.args.e _ c.in-Part.field-0 c.typed.ensures.same c.type_of.ensures c.in-Part.is c.typed.ensures.kept c.requires.node
