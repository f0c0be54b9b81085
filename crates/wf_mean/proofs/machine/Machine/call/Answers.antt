use Rattle.std.proofs.Common.{◌<◌, arith, length}
use Rattle.wf_ast.specs.TypedPackage.{package_of}
use Rattle.wf_bufs.specs.HostSeen.{host_of}
use Rattle.wf_bufs.specs.HostViews.{call_of}
use Rattle.wf_mean.specs.declared.receivers.ReceiverState.{ReceiverState}
use Rattle.wf_mean.proofs.CallLaws.{map-set, no-receiver-gives}
use Rattle.wf_mean.proofs.LoopLaws.{read-at}
use Rattle.wf_mean.proofs.ReceiverLaws.{call-replies, no-method-replies, no-receiver-at}
use Rattle.wf_mean.proofs.machine.Machine.call.Goals as goal

pub returns-then-what-methods-clause-gives : goal.returns-then-what-methods-clause-gives
returns-then-what-methods-clause-gives c e of is =
    no-method-replies c.args.t.now c.requires.typed e (call_of c.args.what.now) (host_of c.args.bufs.now) c.args.turns (omega (arith, c.if-what-methods.true, c.methods.ensures)) of

pub returns-then-k-len-clause-gives : goal.returns-then-k-len-clause-gives
returns-then-k-len-clause-gives c e of is =
    no-receiver-gives e (call_of c.args.what.now) (host_of c.args.bufs.now) c.args.turns
    (no-receiver-at (package_of c.args.t.now) e c.args.what.now.receiver c.args.self.now.receivers.items is (omega (arith, c.if-k-len.true, c.len.ensures, c.args.self.now.receivers.ok)))

pub returns-clause-gives : goal.returns-clause-gives
returns-clause-gives c e of is =
    let all = c.args.self.now.receivers.items in
    let within : c.args.what.now.receiver < length all = omega (arith, c.if-k-len.false, c.len.ensures, c.args.self.now.receivers.ok) in
    call-replies c.args.t.now c.requires.typed e (call_of c.args.what.now) (host_of c.args.bufs.now) (host_of c.call_receiver.new.bufs) c.args.turns c.call_receiver.result all c.index_mut.result.now c.call_receiver.new.receiver
    (omega (arith, c.if-what-methods.false, c.methods.ensures)) of is (read-at all c.args.what.now.receiver c.index_mut.result.now within c.index_mut.ensures.value)
    (λ callee method receiver. c.call_receiver.ensures.gives e callee of method receiver)

pub returns-clause-declared : goal.returns-clause-declared
returns-clause-declared c =
    let all = c.args.self.now.receivers.items in
    let within : c.args.what.now.receiver < length all = omega (arith, c.if-k-len.false, c.len.ensures, c.args.self.now.receivers.ok) in
    map-set (λ (r : ReceiverState). r.decl) all c.args.what.now.receiver c.call_receiver.new.receiver c.index_mut.result.now (read-at all c.args.what.now.receiver c.index_mut.result.now within c.index_mut.ensures.value) c.call_receiver.ensures.declared
