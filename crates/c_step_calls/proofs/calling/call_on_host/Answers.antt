use Rattle.std.proofs.Common.{◌≡◌, ◌+◌, ◌-◌, ◌≤◌, ◌∷◌, List, length, map, refl, sym, ap, ◌∙◌, arith}
use Rattle.std.specs.Prelude.{option_map}
use Rattle.wf_bufs.specs.HostSeen.{host_of}
use Rattle.wf_bufs.specs.HostViews.{arg_of}
use Rattle.wf_text.specs.Surface as kind
use Rattle.turns.specs.Run.{More, Lost}
use Rattle.c_meaning.specs.declared.values.CValue.{CValue}
use Rattle.c_meaning.specs.CMemory.{Memory}
use Rattle.c_meaning.specs.CRun.{all_values, answer_of, function_name}
use Rattle.c_mem.specs.MemoryViews.{memory}
use Rattle.c_step_engine.specs.Engines.{given, outcome_for}
use Rattle.c_step_calls.proofs.Shapes.{during_call, values_length, same_args}
use Rattle.c_step_calls.proofs.Endings.{called_with, replies_so, on_done, there_still, taken_length}
use Rattle.c_step_calls.proofs.Calls.{room_to_lend, can_enter, more_fits, rests_again}
use Rattle.c_step_calls.proofs.calling.call_on_host.Goals as goal

pub lend-requires-clause-fits : goal.lend-requires-clause-fits
lend-requires-clause-fits c = room_to_lend c.args.text.code.now c.args.room.now c.args.st.now c.requires.rests (length c.args.args.now) c.requires.few

pub lend-requires-clause-after : goal.lend-requires-clause-after
lend-requires-clause-after c = omega (arith, c.requires.rests.objects)

pub call_by_host-requires-clause-ready : goal.call_by_host-requires-clause-ready
call_by_host-requires-clause-ready c =
    let d = during_call (host_of c.args.host.now) (memory c.args.st.now.mem) c.args.room.now.most c.args.args.now (memory c.lend.new.mem) (memory c.lend.new.mem) c.args.room.now.objects c.requires.few c.lend.ensures.memory refl c.requires.rests.objects in
    can_enter c.args.text.code.now c.args.room.now c.args.st.now c.requires.rests (length c.args.args.now) c.requires.few (record c.args.st.now { mem = c.lend.new.mem }) c.args.called.own ((c.args.room.now.objects + c.args.room.now.most) + length c.args.args.now) c.requires.own
    refl refl (omega arith) c.lend.ensures.room d.0

pub call_by_host-requires-clause-empty : goal.call_by_host-requires-clause-empty
call_by_host-requires-clause-empty c = c.requires.rests.empty

pub call_by_host-requires-clause-room : goal.call_by_host-requires-clause-room
call_by_host-requires-clause-room c =
    let v : length c.as_slice.result.now ≡ length (c.args.called.receiver ∷ all_values (host_of c.args.host.now) c.args.room.now.objects (c.args.room.now.objects + c.args.room.now.most) (map arg_of c.args.args.now)) =
    ap (λ (xs : List CValue). length xs) (c.as_slice.ensures.value ∙ c.pass.ensures.values) in
    let l = values_length (host_of c.args.host.now) c.args.room.now.objects (c.args.room.now.objects + c.args.room.now.most) (map arg_of c.args.args.now) in
    let s = same_args c.args.args.now in
    omega (arith, v, l, s, c.requires.few, c.requires.rests.passed)

pub end-requires-clause-there : goal.end-requires-clause-there
end-requires-clause-there c = there_still (host_of c.lend.new.host) (host_of c.args.host.now) (map arg_of c.args.args.now) c.lend.ensures.host c.requires.there

pub end-requires-clause-size : goal.end-requires-clause-size
end-requires-clause-size c =
    (during_call (host_of c.args.host.now) (memory c.args.st.now.mem) c.args.room.now.most c.args.args.now (memory c.lend.new.mem) (memory c.call_by_host.new.st.mem) c.args.room.now.objects c.requires.few c.lend.ensures.memory c.in-Got.ensures.keeps.shape c.requires.rests.objects).0

pub end-requires-clause-structs : goal.end-requires-clause-structs
end-requires-clause-structs c =
    (during_call (host_of c.args.host.now) (memory c.args.st.now.mem) c.args.room.now.most c.args.args.now (memory c.lend.new.mem) (memory c.call_by_host.new.st.mem) c.args.room.now.objects c.requires.few c.lend.ensures.memory c.in-Got.ensures.keeps.shape c.requires.rests.objects).1

pub end-requires-clause-lent : goal.end-requires-clause-lent
end-requires-clause-lent c =
    let d = during_call (host_of c.args.host.now) (memory c.args.st.now.mem) c.args.room.now.most c.args.args.now (memory c.lend.new.mem) (memory c.call_by_host.new.st.mem) c.args.room.now.objects c.requires.few c.lend.ensures.memory c.in-Got.ensures.keeps.shape c.requires.rests.objects in
    record { was = host_of c.args.host.now; lent = c.lend.ensures.host; shapes = d.2 }

pub end-requires-clause-spares : goal.end-requires-clause-spares
end-requires-clause-spares c =
    more_fits c.args.text.code.now c.args.room.now c.args.st.now c.requires.rests (length c.args.args.now) c.requires.few c.lend.new.spares ((c.args.room.now.objects + c.args.room.now.most) - c.args.room.now.objects) (omega arith) c.lend.ensures.spares

pub returns-in-Got-clause-rests : goal.returns-in-Got-clause-rests
returns-in-Got-clause-rests c =
    let n = c.args.room.now.objects in
    let d = during_call (host_of c.args.host.now) (memory c.args.st.now.mem) c.args.room.now.most c.args.args.now (memory c.lend.new.mem) (memory c.call_by_host.new.st.mem) n c.requires.few c.lend.ensures.memory c.in-Got.ensures.keeps.shape c.requires.rests.objects in
    let within : n ≤ length (memory c.call_by_host.new.st.mem) = omega (arith, d.0) in
    on_done c.end.result _ _ _ _
    (λ m s r. rests_again c.args.text.code.now c.args.room.now c.args.st.now c.requires.rests (length c.args.args.now) c.requires.few (record c.args.st.now { mem = c.lend.new.mem }) c.call_by_host.new.st (record c.call_by_host.new.st { mem = c.end.new.mem })
    (record c.args.room.now { spares = c.end.new.spares; given = c.pass.new.given }) c.lend.new.spares (n + c.args.room.now.most) ((n + c.args.room.now.most) - n) refl refl (omega arith) c.lend.ensures.room c.in-Got.ensures.keeps refl refl refl (omega arith) refl r
    (ap (λ (xs : Memory). length xs) m ∙ taken_length (memory c.call_by_host.new.st.mem) n within) (omega arith) c.lend.ensures.spares s c.pass.ensures.room refl refl)
    c.end.ensures.memory c.end.ensures.spares c.end.ensures.room

pub returns-in-Got-clause-sizes : goal.returns-in-Got-clause-sizes
returns-in-Got-clause-sizes c =
    let d = during_call (host_of c.args.host.now) (memory c.args.st.now.mem) c.args.room.now.most c.args.args.now (memory c.lend.new.mem) (memory c.call_by_host.new.st.mem) c.args.room.now.objects c.requires.few c.lend.ensures.memory c.in-Got.ensures.keeps.shape c.requires.rests.objects in
    c.end.ensures.sizes (host_of c.args.host.now) c.lend.ensures.host d.2

pub returns-in-Got-clause-replies : goal.returns-in-Got-clause-replies
returns-in-Got-clause-replies c = λ it s method what e k m w ok table coded.
    let n = c.args.room.now.objects in
    let most = c.args.room.now.most in
    let args = map arg_of c.args.args.now in
    let d = during_call (host_of c.args.host.now) (memory c.args.st.now.mem) most c.args.args.now (memory c.lend.new.mem) (memory c.call_by_host.new.st.mem) n c.requires.few c.lend.ensures.memory c.in-Got.ensures.keeps.shape c.requires.rests.objects in
    let comes = called_with it (memory c.args.st.now.mem) s method what (host_of c.args.host.now) c.args.called.turns c.args.called.receiver n most args _ c.as_slice.result.now (memory c.lend.new.mem)
    c.requires.rests.objects (sym m) w (c.as_slice.ensures.value ∙ c.pass.ensures.values) c.lend.ensures.memory (c.in-Got.ensures.means it.program (function_name it.surface s method.name) e coded) in
    replies_so it.surface _ _ c.end.result (memory c.end.new.mem, host_of c.end.new.host) comes
    (c.end.ensures.replies (host_of c.args.host.now) it.surface (answer_of it.program it.surface method.answers c.in-Got.value) c.lend.ensures.host d.2
    (c.answer.ensures it.program it.surface ok table ∙ ap (λ (a : kind.AnswerKind). option_map (outcome_for it.surface) (answer_of it.program it.surface a c.in-Got.value)) k))

pub returns-in-More-clause-replies : goal.returns-in-More-clause-replies
returns-in-More-clause-replies c = λ it s method what e k m w ok table coded.
    ap (given it.surface (λ x. x))
    (called_with it (memory c.args.st.now.mem) s method what (host_of c.args.host.now) c.args.called.turns c.args.called.receiver c.args.room.now.objects c.args.room.now.most (map arg_of c.args.args.now) More c.as_slice.result.now (memory c.lend.new.mem)
    c.requires.rests.objects (sym m) w (c.as_slice.ensures.value ∙ c.pass.ensures.values) c.lend.ensures.memory (c.in-More.ensures.means it.program (function_name it.surface s method.name) e coded))

pub returns-in-Lost-clause-replies : goal.returns-in-Lost-clause-replies
returns-in-Lost-clause-replies c = λ it s method what e k m w ok table coded.
    ap (given it.surface (λ x. x))
    (called_with it (memory c.args.st.now.mem) s method what (host_of c.args.host.now) c.args.called.turns c.args.called.receiver c.args.room.now.objects c.args.room.now.most (map arg_of c.args.args.now) Lost c.as_slice.result.now (memory c.lend.new.mem)
    c.requires.rests.objects (sym m) w (c.as_slice.ensures.value ∙ c.pass.ensures.values) c.lend.ensures.memory (c.in-Lost.ensures.means it.program (function_name it.surface s method.name) e coded))
