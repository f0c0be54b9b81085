use Rattle.std.proofs.Common.{◌+◌, [], ◌∷◌, ◌++◌, ◌∙◌, ap, arith, length, subst, List}
use Rattle.wf_bufs.specs.declared.calls.Arg.TheVariants.{Num}
use Rattle.wf_bufs.specs.HostSeen.{host_of}
use Rattle.c_meaning.specs.CMemory.{Object}
use Rattle.c_meaning.specs.CRun.{bytes_object}
use Rattle.c_mem.specs.MemoryViews.{memory}
use Rattle.c_step_hosts.specs.Spares.{HaveBytes}
use Rattle.c_step_hosts.proofs.Spared.{last_bytes, one_longer}
use Rattle.c_step_hosts.proofs.Steps.{less_room}
use Rattle.c_step_hosts.proofs.Lent.{lends_next, next_is_there}
use Rattle.c_step_hosts.proofs.lending.lend_all.Goals as goal

pub take_bytes-requires : goal.take_bytes-requires
take_bytes-requires c = record { there = next_is_there _ (memory c.loop-arg.mem) _ (host_of c.loop-arg.host) c.args.args.now c.loop-arg.arg-index (Num 0) c.loop-arg-test.true c.loop-arg.invariant.0 }

pub swap_bytes-requires : goal.swap_bytes-requires
swap_bytes-requires c = (last_bytes c.take_spare-object.new.spares.items c.take_spare-object.result (subst HaveBytes c.take_spare-object.ensures.spares c.loop-arg.invariant.1.1.0)).0

pub enter-requires : goal.enter-requires
enter-requires c = c.loop-arg.invariant.1.0 1 (less_room c.args.mem.now (1 + c.loop-arg.arg-index) (length c.args.args.now) (omega (arith, c.loop-arg-test.true)) c.requires.room)

pub loop-arg-preserved : goal.loop-arg-preserved
loop-arg-preserved c =
    let i = c.loop-arg.invariant in (
      lends_next _ (memory c.loop-arg.mem) (memory c.enter.new.self) _ (host_of c.loop-arg.host) (host_of c.take_bytes.new.host) c.args.args.now c.loop-arg.arg-index (Num 0) c.loop-arg-test.true i.0
          (c.enter.ensures.objects ∙ ap (λ (o : Object). memory c.loop-arg.mem ++ o ∷ []) (c.swap_bytes.ensures.now ∙ ap bytes_object c.take_bytes.ensures.cells)) c.take_bytes.ensures.host,
      (
        λ more h. c.enter.ensures.room more (i.1.0 (more + 1) (less_room c.args.mem.now ((more + 1) + c.loop-arg.arg-index) (more + (c.loop-arg.arg-index + 1)) (omega arith) h)),
        (
          (last_bytes c.take_spare-object.new.spares.items c.take_spare-object.result (subst HaveBytes c.take_spare-object.ensures.spares i.1.1.0)).1,
          (
            omega (arith, i.1.1.1.0, ap (λ (xs : List Object). length xs) c.take_spare-object.ensures.spares, one_longer c.take_spare-object.new.spares.items c.take_spare-object.result),
            c.take_spare-object.ensures.room ∙ i.1.1.1.1,
          ),
        ),
      ),
    )

pub returns-clause-room : goal.returns-clause-room
returns-clause-room c = λ more h. c.loop-arg.invariant.1.0 more (less_room c.args.mem.now (more + c.loop-arg.arg-index) (more + length c.args.args.now) (omega (arith, c.loop-arg.auto.arg-index-end)) h)
