use Rattle.std.proofs.Common.{◌+◌, ◌-◌, arith, length}
use Rattle.c_step_hosts.proofs.Steps.{less_room}
use Rattle.c_step_hosts.proofs.ios.enter_ios.Goals as goal

pub enter_others-requires-clause-room : goal.enter_others-requires-clause-room
enter_others-requires-clause-room c =
    c.enter_named.ensures.room (c.args.most - length c.args.args.now)
    (less_room c.args.mem.now ((c.args.most - length c.args.args.now) + length c.args.args.now) c.args.most (omega (arith, c.requires.few)) c.requires.room)

pub returns-clause-room : goal.returns-clause-room
returns-clause-room c = λ more h. c.enter_others.ensures.room more
    (c.enter_named.ensures.room (more + (c.args.most - length c.args.args.now))
    (less_room c.args.mem.now ((more + (c.args.most - length c.args.args.now)) + length c.args.args.now) (more + c.args.most) (omega (arith, c.requires.few)) h))
