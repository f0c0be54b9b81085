use Rattle.wf_exprs.proofs.Growing.{grows_on}
use Rattle.wf_lower.proofs.EntryLaws.{arg_named, wrong_all, wrong_next}
use Rattle.wf_lower.proofs.entries.wrong_args.Goals as goal

pub name-requires : goal.name-requires
name-requires c = arg_named c.args.e.now.nodes c.args-x-items.result.now _ c.loop-x.x-index _ c.args-x-items.ensures.is c.args-x-items.ensures.named c.loop-x-test.true

pub loop-x-preserved : goal.loop-x-preserved
loop-x-preserved c = record {
  grows = grows_on c.loop-x.invariant.grows c.add_wrong.ensures.grows;
  made = wrong_next _ _ c.args.e.now.nodes c.args-x-items.result.now _ c.loop-x.x-index _ _ _ _ c.args-x-items.ensures.is c.loop-x-test.true c.name.ensures.is c.loop-x.invariant.made c.in_ok-add_wrong.ensures.made;
}

pub returns-clause-made : goal.returns-clause-made
returns-clause-made c = wrong_all _ c.args.e.now.nodes c.args-x-items.result.now _ c.loop-x.x-index _ c.args-x-items.ensures.is c.loop-x-test.false c.loop-x.invariant.made
