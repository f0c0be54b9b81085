use Rattle.std.proofs.Common.{◌≡◌, ℕ, ◌+◌, ◌∙◌, map, drop, take, length, subst, ap, sym, refl, arith, slice_index_or, None}
use Rattle.wf_bufs.specs.declared.calls.Arg.TheVariants.{Num}
use Rattle.wf_bufs.specs.HostViews.{arg_of}
use Rattle.wf_bufs.specs.HostSeen.{host_of}
use Rattle.c_meaning.specs.CMemory.{Memory}
use Rattle.c_mem.specs.MemoryViews.{memory}
use Rattle.c_step_hosts.specs.Lending.{AreThere}
use Rattle.c_step_hosts.specs.Taking.{HaveBytesBetween}
use Rattle.c_step_hosts.proofs.Steps.{next_there}
use Rattle.c_step_hosts.proofs.Back.{below_back, as_long_back}
use Rattle.c_step_hosts.proofs.Backs.{rest_distinct, takes_next, next_none, all_taken}
use Rattle.c_step_hosts.proofs.Sizes.{args_sized}
use Rattle.c_step_hosts.proofs.taking.take_back.Goals as goal

pub loop-arg-init : goal.loop-arg-init
loop-arg-init c = record {
  taken = λ was e s. record { was = was; lent = e; shaped = s; comes = refl; bytes = λ k o a b h. absurd (omega (arith, a, b)) };
  buffer = omega arith;
  object = omega arith;
  there = c.requires.there;
  buffers = c.requires.buffers;
  arrays = c.requires.arrays;
  below = refl;
  count = refl;
  room = λ more h. h;
}

pub take_argument-requires-clause-there : goal.take_argument-requires-clause-there
take_argument-requires-clause-there c = (next_there (length c.loop-arg.host.bufs) (length c.loop-arg.host.arrays) c.args.args.now c.loop-arg.arg-index (Num 0) c.loop-arg-test.true c.loop-arg.invariant.there).0

pub take_argument-requires-clause-apart : goal.take_argument-requires-clause-apart
take_argument-requires-clause-apart c = omega (arith, c.loop-arg.invariant.buffer, c.loop-arg.invariant.object, c.requires.apart, c.loop-arg-test.true)

pub returns-then-not-take_argument-clause-host : goal.returns-then-not-take_argument-clause-host
returns-then-not-take_argument-clause-host c = λ was e s.
    let i = c.loop-arg.invariant in
    next_none _ c.args.places.bytes (memory c.loop-arg.mem) (memory c.take_argument.new.mem) c.loop-arg.io c.loop-arg.object c.args.places.buffer (host_of c.loop-arg.host) (host_of c.take_argument.new.host) c.args.args.now c.loop-arg.arg-index (Num 0)
    c.loop-arg-test.true i.buffers i.arrays (i.taken was e s) c.if-not-take_argument.ensures.host

pub returns-then-not-take_argument-clause-room : goal.returns-then-not-take_argument-clause-room
returns-then-not-take_argument-clause-room c = λ more h. c.take_argument.ensures.room more (c.loop-arg.invariant.room more h)

pub overflow_add-io : goal.overflow_add-io
overflow_add-io c = omega (arith, c.loop-arg.invariant.buffer, c.requires.apart, c.requires.numbers, c.loop-arg-test.true)

pub overflow_add-object : goal.overflow_add-object
overflow_add-object c = omega (arith, c.loop-arg.invariant.object, c.requires.numbers, c.loop-arg-test.true)

pub loop-arg-preserved : goal.loop-arg-preserved
loop-arg-preserved c =
    let i = c.loop-arg.invariant in
    let f = c.if-not-take_argument.ensures in
    let arg = arg_of (slice_index_or c.args.args.now c.loop-arg.arg-index (Num 0)) in
    let t = next_there (length c.loop-arg.host.bufs) (length c.loop-arg.host.arrays) c.args.args.now c.loop-arg.arg-index (Num 0) c.loop-arg-test.true i.there in
    let d = rest_distinct None c.args.places.bytes (memory c.loop-arg.mem) (memory c.take_argument.new.mem) c.loop-arg.io c.loop-arg.object c.args.places.buffer (host_of c.loop-arg.host) (host_of c.take_argument.new.host) c.args.args.now c.loop-arg.arg-index (Num 0)
    c.loop-arg-test.true i.buffers i.arrays in
    record {
      taken = λ was e s.
          takes_next _ c.args.places.bytes (memory c.loop-arg.mem) (memory c.take_argument.new.mem) c.loop-arg.io c.loop-arg.object c.args.places.buffer (host_of c.loop-arg.host) (host_of c.take_argument.new.host) c.args.args.now c.loop-arg.arg-index (Num 0)
          c.loop-arg-test.true i.buffers i.arrays (i.taken was e s) f.host i.buffer (omega (arith, i.object, c.requires.apart)) f.memory;
      buffer = omega (arith, i.buffer);
      object = omega (arith, i.object);
      there = subst (λ (n : ℕ). AreThere n (length c.take_argument.new.host.arrays) (drop (c.loop-arg.arg-index + 1) (map arg_of c.args.args.now))) (sym f.many.0)
          (subst (λ (n : ℕ). AreThere (length c.loop-arg.host.bufs) n (drop (c.loop-arg.arg-index + 1) (map arg_of c.args.args.now))) (sym f.many.1) t.1);
      buffers = d.0;
      arrays = d.1;
      below = ap (λ (m : Memory). take c.args.places.bytes m) f.memory ∙ (below_back arg (memory c.loop-arg.mem) c.args.places.bytes c.loop-arg.object (omega (arith, i.object)) ∙ i.below);
      count = ap (λ (m : Memory). length m) f.memory ∙ (as_long_back arg (memory c.loop-arg.mem) c.loop-arg.object ∙ i.count);
      room = λ more h. f.room more (i.room more h);
    }

pub returns-clause-host : goal.returns-clause-host
returns-clause-host c = λ was e s.
    let i = c.loop-arg.invariant in
    let r = all_taken _ c.args.places.bytes (memory c.loop-arg.mem) c.loop-arg.io c.loop-arg.object (host_of c.loop-arg.host) c.args.args.now c.loop-arg.arg-index (omega (arith, c.loop-arg-test.false)) (i.taken was e s) in
    let n : c.loop-arg.object ≡ c.args.places.bytes + length c.args.args.now = omega (arith, i.object, c.loop-arg-test.false, c.loop-arg.auto.arg-index-end) in
    let sizes = args_sized (memory c.args.mem.now) c.args.places.buffer c.args.places.bytes (map arg_of c.args.args.now) was (host_of c.loop-arg.host) c.requires.buffers c.requires.arrays s r.0 in
    (host_of c.loop-arg.host, r.0, (refl, sizes, subst (λ (m : ℕ). HaveBytesBetween c.args.places.bytes m (memory c.loop-arg.mem)) n r.1))
