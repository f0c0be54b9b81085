use Rattle.std.proofs.Common.{◌≡◌, ℕ, ◌+◌, ◌-◌, length, subst, arith}
use Rattle.c_mem.specs.MemoryViews.{memory}
use Rattle.c_step_hosts.specs.Leaving.{AreIosBetween}
use Rattle.c_step_hosts.proofs.Steps.{less_room}
use Rattle.c_step_hosts.proofs.Left.{moved_length, moved_ios, moved_bytes, ios_stay}
use Rattle.c_step_hosts.proofs.leaving.leave_all.Goals as goal

pub returns-clause-ios : goal.returns-clause-ios
returns-clause-ios c =
    let old = memory c.args.mem.now in
    let mid = memory c.leave_some.new.mem in
    let buffer = c.args.places.buffer in
    let bytes = c.args.places.bytes in
    let n = moved_length c.args.count old mid c.args.bytes.now.items c.leave_some.new.spares.items c.leave_some.ensures.moves in
    let size : length mid ≡ bytes = omega (arith, n.0, c.requires.there) in
    let to : bytes ≡ buffer + (bytes - buffer) = omega (arith, c.requires.order) in
    moved_ios (bytes - buffer) buffer mid (memory c.leave_some-2.new.mem) c.args.ios.now.items c.leave_some-2.new.spares.items c.leave_some-2.ensures.moves (omega (arith, size, to))
    (subst (λ (k : ℕ). AreIosBetween buffer k mid) to (ios_stay c.args.count buffer bytes old mid c.args.bytes.now.items c.leave_some.new.spares.items c.leave_some.ensures.moves (omega (arith, size)) c.requires.structs)) c.requires.ios

pub returns-clause-bytes : goal.returns-clause-bytes
returns-clause-bytes c =
    moved_bytes c.args.count c.args.places.bytes (memory c.args.mem.now) (memory c.leave_some.new.mem) c.args.bytes.now.items c.leave_some.new.spares.items c.leave_some.ensures.moves c.requires.there c.requires.set c.requires.bytes

pub returns-clause-room : goal.returns-clause-room
returns-clause-room c = λ more now h e.
    less_room c.leave_some-2.new.mem now ((more + c.args.count) + (c.args.places.bytes - c.args.places.buffer)) (omega (arith, e, c.requires.order))
    (c.leave_some-2.ensures.room (more + c.args.count) (c.leave_some.ensures.room more h))
