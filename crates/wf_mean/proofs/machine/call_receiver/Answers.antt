use Rattle.std.proofs.Common.{refl}
use Rattle.wf_ast.specs.TypedPackage.{package_of}
use Rattle.wf_bufs.specs.HostSeen.{host_of}
use Rattle.wf_bufs.specs.HostViews.{call_of}
use Rattle.wf_mean_stmts.specs.Entries.{answer_seen}
use Rattle.wf_mean_runs.specs.declared.calls.Ran.TheVariants.{Answers}
use Rattle.wf_mean.proofs.ReceiverLaws.{live-replies, null-replies}
use Rattle.wf_mean.proofs.machine.call_receiver.Goals as goal

pub returns-then-receiver-clause-gives : goal.returns-then-receiver-clause-gives
returns-then-receiver-clause-gives c e callee of is at =
    null-replies (package_of c.args.t.now) e callee (call_of c.args.what.now) (host_of c.args.bufs.now) c.args.turns c.args.receiver.now (answer_seen c.refuse.result) c.reply_with.result of at c.if-receiver.true (c.refuse.ensures callee is) (c.reply_with.ensures callee is)

pub returns-in-Answers-clause-gives : goal.returns-in-Answers-clause-gives
returns-in-Answers-clause-gives c e callee of is at =
    live-replies c.args.t.now e callee (call_of c.args.what.now) c.args.turns c.args.receiver.now (record { decl = c.args.receiver.now.decl; objects = c.call_objects.new.objects }) c.args.bufs.now c.call_objects.new.bufs (Answers c.in-Answers.answer) c.reply_with-in-Answers.result
    of c.if-receiver.false refl (c.reply_with-in-Answers.ensures callee is) (c.in-Answers.ensures.runs callee is)
