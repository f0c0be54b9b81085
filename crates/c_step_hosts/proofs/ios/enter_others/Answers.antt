use Rattle.std.proofs.Common.{◌+◌, ◌∙◌, ap, arith, length, subst, List}
use Rattle.c_meaning.specs.CMemory.{Object}
use Rattle.c_mem.specs.MemoryViews.{memory}
use Rattle.c_step_hosts.specs.Spares.{AreIos}
use Rattle.c_step_hosts.proofs.Spared.{last_io, one_longer}
use Rattle.c_step_hosts.proofs.Steps.{less_room, one_other}
use Rattle.c_step_hosts.proofs.ios.enter_others.Goals as goal

pub unset-object-requires : goal.unset-object-requires
unset-object-requires c = (last_io c.take_spare.new.spares.items c.take_spare.result (subst AreIos c.take_spare.ensures.spares c.loop.invariant.1.1.0)).0

pub enter-requires : goal.enter-requires
enter-requires c = c.loop.invariant.1.0 1 (less_room c.args.mem.now (1 + c.loop.counter) c.args.count (omega (arith, c.loop-test.true)) c.requires.room)

pub loop-preserved : goal.loop-preserved
loop-preserved c =
    let i = c.loop.invariant in (
      one_other (memory c.args.mem.now) (memory c.loop.mem) (memory c.enter.new.self) c.unset-object.result c.loop.counter i.0 c.enter.ensures.objects c.unset-object.ensures,
      (
        λ more h. c.enter.ensures.room more (i.1.0 (more + 1) (less_room c.args.mem.now ((more + 1) + c.loop.counter) (more + (c.loop.counter + 1)) (omega arith) h)),
        (
          (last_io c.take_spare.new.spares.items c.take_spare.result (subst AreIos c.take_spare.ensures.spares i.1.1.0)).1,
          (
            omega (arith, i.1.1.1.0, ap (λ (xs : List Object). length xs) c.take_spare.ensures.spares, one_longer c.take_spare.new.spares.items c.take_spare.result),
            c.take_spare.ensures.room ∙ i.1.1.1.1,
          ),
        ),
      ),
    )

pub returns-clause-room : goal.returns-clause-room
returns-clause-room c = λ more h. c.loop.invariant.1.0 more (less_room c.args.mem.now (more + c.loop.counter) (more + c.args.count) (omega (arith, c.loop.auto.counter-end)) h)
