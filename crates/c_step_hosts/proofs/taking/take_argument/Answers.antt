use Rattle.std.proofs.Common.{◌∙◌, length, ap}
use Rattle.wf_text.specs.HostActions.{io, bytes}
use Rattle.wf_bufs.specs.HostViews.{arg_of}
use Rattle.wf_bufs.specs.HostSeen.{host_of}
use Rattle.c_mem.specs.MemoryViews.{memory}
use Rattle.c_step_hosts.proofs.Back.{gives_with, buffer_back_of, array_back_of}
use Rattle.c_step_hosts.proofs.taking.take_argument.Goals as goal

pub returns-in-Io-Some-clause-host : goal.returns-in-Io-Some-clause-host
returns-in-Io-Some-clause-host c = λ was rest e p q shape.
    buffer_back_of (memory c.args.mem.now) c.args.io c.args.bytes c.in-Io-Some.k (length c.args.host.now.arrays) (arg_of c.args.arg) (host_of c.args.host.now) _ was rest c.take_buffer.result
    (ap arg_of c.in-Io-Some.is ∙ ap io (rw c.in-Io-Some.is at c.in-Io-Some.field-0-is)) c.requires.there e p shape
    (λ b o there s. gives_with _ c.take_buffer.result _ _ (λ x h. ap (λ bs. record (host_of c.args.host.now) { buffers = bs }) h) (c.take_buffer.ensures.taken b o there s))

pub returns-in-Bytes-Some-clause-host : goal.returns-in-Bytes-Some-clause-host
returns-in-Bytes-Some-clause-host c = λ was rest e p q shape.
    array_back_of (memory c.args.mem.now) c.args.io c.args.bytes c.in-Bytes-Some.k (arg_of c.args.arg) (host_of c.args.host.now) _ was rest c.take_array.result
    (ap arg_of c.in-Bytes-Some.is ∙ ap bytes (rw c.in-Bytes-Some.is at c.in-Bytes-Some.field-0-is)) e q shape
    (λ b o there s. gives_with _ c.take_array.result _ _ (λ x h. ap (λ xs. record (host_of c.args.host.now) { arrays = xs }) h) (c.take_array.ensures.taken b o there s))
