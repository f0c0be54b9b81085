use Rattle.wf_mean_stmts.specs.Entries.{answer_seen}
use Rattle.wf_mean.proofs.CallLaws.{reply-told}
use Rattle.wf_mean.proofs.machine.reply_with.Goals as goal

pub returns-in-Some : goal.returns-in-Some
returns-in-Some c callee is = reply-told c.args.t.now c.requires.typed c.args.m.0 c.method-method.result.now callee _ _ (answer_seen c.args.answer) c.method-method.ensures is c.answer_kind.ensures c.in-Some.ensures

pub returns-in-None : goal.returns-in-None
returns-in-None c callee is = reply-told c.args.t.now c.requires.typed c.args.m.0 c.method-method.result.now callee _ _ (answer_seen c.args.answer) c.method-method.ensures is c.answer_kind.ensures c.in-None.ensures
