use Rattle.std.proofs.Common.{◌∙◌, ◌≡◌, ◌<◌, ap, arith, length, map, refl}
use Rattle.std.specs.Vec.{with_items}
use Rattle.std.proofs.lemmas.List.{with_items_is}
use Rattle.wf_ast.specs.TypedPackage.{package_of}
use Rattle.wf_meaning.specs.SourceState.{cleared_object}
use Rattle.wf_mean_exprs.specs.MachineState.{object_seen}
use Rattle.wf_mean.specs.declared.receivers.ReceiverState.{ReceiverState}
use Rattle.wf_mean.proofs.CallLaws.{map-set}
use Rattle.wf_mean.proofs.LoopLaws.{read-at, read-same}
use Rattle.wf_mean.proofs.ReceiverLaws.{init-makes}
use Rattle.wf_mean.proofs.machine.Machine.init.Goals as goal

pub returns-clause-gives : goal.returns-clause-gives
returns-clause-gives c e turns of is =
    let p = package_of c.args.t.now in
    let all = c.args.self.now.receivers.items in
    let within : c.args.receiver < length all = omega (arith, c.if-k-len.false, c.len.ensures, c.args.self.now.receivers.ok) in
    let same : c.index_mut.result.now ≡ c.index.result.now = read-same all c.args.receiver c.index_mut.result.now c.index.result.now within c.index_mut.ensures.value c.index.ensures in
    let objects = with_items c.index_mut.result.now.objects c.clear_objects.new.objects in
    let new : ReceiverState = record { decl = c.index_mut.result.now.decl; objects = objects } in
    init-makes p e c.args.receiver turns all c.index_mut.result.now new is (read-at all c.args.receiver c.index_mut.result.now within c.index_mut.ensures.value) (ap (λ (r : ReceiverState). r.decl.null) same ∙ c.if-index.false) refl
    (ap (map (object_seen p)) (with_items_is c.index_mut.result.now.objects c.clear_objects.new.objects (omega (arith, c.clear_objects.auto.objects, c.as_mut_slice.ensures.len)))
    ∙ c.clear_objects.ensures.cleared p ∙ ap (λ objects. map cleared_object (map (object_seen p) objects)) c.as_mut_slice.ensures.value)

pub returns-clause-declared : goal.returns-clause-declared
returns-clause-declared c =
    let all = c.args.self.now.receivers.items in
    let within : c.args.receiver < length all = omega (arith, c.if-k-len.false, c.len.ensures, c.args.self.now.receivers.ok) in
    map-set (λ (r : ReceiverState). r.decl) all c.args.receiver _ c.index_mut.result.now (read-at all c.args.receiver c.index_mut.result.now within c.index_mut.ensures.value) refl
