use Rattle.std.proofs.Common.{nat_lt, sym}
use Rattle.wf_lower.proofs.EntryLaws.{pushed_if}
use Rattle.wf_lower.proofs.entries.add_least.Goals as goal

pub returns-in_ok-test-clause-made : goal.returns-in_ok-test-clause-made
returns-in_ok-test-clause-made c = pushed_if _ _ _ _ _ _ c.push.result (nat_lt 0 c.args.lo) (sym c.if-has_least.ensures) c.bounded.ensures.grows c.in_ok-test.ensures.made c.push.ensures.ok
