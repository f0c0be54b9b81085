use Rattle.wf_exprs.proofs.Growing.{grows_on}
use Rattle.wf_lower.proofs.BodyLaws.{param_there}
use Rattle.wf_lower.proofs.EntryLaws.{handed_all, handed_next}
use Rattle.wf_lower.proofs.entries.handed.Goals as goal

pub hand_on-requires : goal.hand_on-requires
hand_on-requires c = c.loop-param.invariant.grows.more_names _ (param_there c.args.u.now c.args.params.now c.loop-param.param-index _ c.requires c.loop-param-test.true)

pub loop-param-preserved : goal.loop-param-preserved
loop-param-preserved c = record {
  grows = grows_on c.loop-param.invariant.grows c.hand_on.ensures.grows;
  made = handed_next c.args.u.now _ _ c.args.params.now c.loop-param.param-index _ _ _ c.requires c.loop-param-test.true c.loop-param.invariant.grows c.loop-param.invariant.made c.in_ok-hand_on.ensures.made;
}

pub returns-clause-made : goal.returns-clause-made
returns-clause-made c = handed_all _ c.args.u.now.names c.args.params.now c.loop-param.param-index _ c.loop-param-test.false c.loop-param.invariant.made
