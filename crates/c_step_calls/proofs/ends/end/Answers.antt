use Rattle.std.proofs.Common.{map, take, sym, subst, ◌∙◌}
use Rattle.wf_bufs.specs.EngineLaw.{SameSizes}
use Rattle.wf_bufs.specs.HostSeen.{host_of}
use Rattle.wf_bufs.specs.HostViews.{arg_of}
use Rattle.c_meaning.specs.CRun.{args_left}
use Rattle.c_mem.specs.MemoryViews.{memory}
use Rattle.c_step_calls.proofs.Endings.{nothing_answered, nothing_left, all_left, pair}
use Rattle.c_step_calls.proofs.ends.end.Goals as goal

pub returns-in_default-clause-replies : goal.returns-in_default-clause-replies
returns-in_default-clause-replies c = λ was surface a l s e.
    nothing_answered surface (λ left. (take c.args.places.buffer (memory c.args.mem.now), left)) (memory c.args.mem.now, host_of c.args.host.now) a
    (args_left (memory c.args.mem.now) c.args.places.buffer c.args.places.bytes (map arg_of c.args.args.now) was) (sym c.in_default.is ∙ e)

pub returns-then-take_all-clause-replies : goal.returns-then-take_all-clause-replies
returns-then-take_all-clause-replies c = λ was surface a l s e.
    let g = c.if-take_all.ensures.host was l s in
    all_left surface (λ left. (take c.args.places.buffer (memory c.args.mem.now), left)) (memory c.take_all.new.mem, host_of c.take_all.new.host) a c.in-Some.outcome
    (args_left (memory c.args.mem.now) c.args.places.buffer c.args.places.bytes (map arg_of c.args.args.now) was) g.0 (sym c.in-Some.is ∙ e) g.1
    (pair (memory c.take_all.new.mem) (take c.args.places.buffer (memory c.args.mem.now)) (host_of c.take_all.new.host) g.0 c.if-take_all.ensures.memory g.2.0)

pub returns-then-take_all-clause-sizes : goal.returns-then-take_all-clause-sizes
returns-then-take_all-clause-sizes c = λ was l s.
    let g = c.if-take_all.ensures.host was l s in
    subst (SameSizes was) (sym g.2.0) g.2.1

pub returns-else-take_all-clause-replies : goal.returns-else-take_all-clause-replies
returns-else-take_all-clause-replies c = λ was surface a l s e.
    nothing_left surface (λ left. (take c.args.places.buffer (memory c.args.mem.now), left)) (memory c.take_all.new.mem, host_of c.take_all.new.host) a
    (args_left (memory c.args.mem.now) c.args.places.buffer c.args.places.bytes (map arg_of c.args.args.now) was) (c.if-take_all.ensures.host was l s)
