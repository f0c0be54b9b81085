use Rattle.std.proofs.Common.{sym}
use Rattle.wf_lower.proofs.CoroutineLaws.{sets_no_struct, sets_struct}
use Rattle.wf_lower.proofs.coroutines.mark_struct.Goals as goal

pub returns-then-is_coroutine-clause-marks : goal.returns-then-is_coroutine-clause-marks
returns-then-is_coroutine-clause-marks c = sets_struct c.args.m.now.of.0 c.args.flags.now.items _ _ (sym c.if-is_coroutine.ensures) c.set.ensures.marks

pub returns-else-is_coroutine-clause-marks : goal.returns-else-is_coroutine-clause-marks
returns-else-is_coroutine-clause-marks c = sets_no_struct c.args.m.now.of.0 c.args.flags.now.items _ (sym c.if-is_coroutine.ensures)
