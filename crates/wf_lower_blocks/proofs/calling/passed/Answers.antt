use Rattle.wf_exprs.proofs.Growing.{grows_on}
use Rattle.wf_ast.specs.TypedInvariant.{is_expr}
use Rattle.wf_lower_stmts.specs.BodyNodes.{form_in}
use Rattle.wf_lower_blocks.proofs.CallLaws.{item_true, none_given, one_given, passed_on, passed_all}
use Rattle.wf_lower_blocks.proofs.calling.passed.Goals as goal

pub loop-e-init : goal.loop-e-init
loop-e-init c = record {
  grows = c.receiver.ensures.grows;
  made = one_given _ _ _ _ _ _ c.receiver.ensures.grows c.in_ok-receiver.ensures.made c.in_ok-push.ensures.ok _ (none_given c.args.u.now _ c.new-args.ensures);
}

pub pass-requires : goal.pass-requires
pass-requires c = record { node = item_true (is_expr c.args.b.now.nodes) c.args.what.args.now c.loop-e.e-index _ c.requires.args c.loop-e-test.true }

pub loop-e-preserved : goal.loop-e-preserved
loop-e-preserved c = record {
  grows = grows_on c.loop-e.invariant.grows c.pass.ensures.grows;
  made = passed_on (form_in c.args.b.now).names c.args.b.now.nodes _ _ _ c.args.what.args.now c.loop-e.e-index _ c.loop-e-test.true (c.in_ok-pass.ensures.pushed _ c.loop-e.invariant.made);
}

pub returns-clause-made : goal.returns-clause-made
returns-clause-made c = passed_all (form_in c.args.b.now).names c.args.b.now.nodes _ _ _ c.args.what.args.now c.loop-e.e-index c.loop-e-test.false c.loop-e.invariant.made
