use Rattle.std.proofs.Common.{◌≤◌, true, ◌∙◌, arith}
use Rattle.c_mem.specs.MemoryViews.{memory}
use Rattle.c_step_calls.proofs.Endings.{ios_in_front, front_same, gives_less}
use Rattle.c_step_calls.proofs.ends.take_all.Goals as goal

pub leave_all-requires-clause-there : goal.leave_all-requires-clause-there
leave_all-requires-clause-there c = c.if-not-take_back.ensures.count ∙ c.requires.size

pub leave_all-requires-clause-structs : goal.leave_all-requires-clause-structs
leave_all-requires-clause-structs c = ios_in_front c.args.places.buffer c.args.places.bytes (memory c.args.mem.now) (memory c.take_back.new.mem) c.if-not-take_back.ensures.below c.requires.structs

pub leave_all-requires-clause-set : goal.leave_all-requires-clause-set
leave_all-requires-clause-set c = (c.if-not-take_back.ensures.host c.requires.lent.was c.requires.lent.lent c.requires.lent.shapes).2.2

pub leave_all-requires-clause-few : goal.leave_all-requires-clause-few
leave_all-requires-clause-few c = omega (arith, c.requires.spares.fits, c.requires.apart)

pub returns-clause-host : goal.returns-clause-host
returns-clause-host c = λ was e s. gives_less _ true _ _ (λ left h. (h.0, h.1)) (c.if-not-take_back.ensures.host was e s)

pub returns-clause-memory : goal.returns-clause-memory
returns-clause-memory c =
    let order : c.args.places.buffer ≤ c.args.places.bytes = omega (arith, c.requires.apart) in
    c.leave_all.ensures.memory ∙ front_same (memory c.args.mem.now) (memory c.take_back.new.mem) c.args.places.buffer c.args.places.bytes order c.if-not-take_back.ensures.below

pub returns-clause-room : goal.returns-clause-room
returns-clause-room c = λ more now h e. c.leave_all.ensures.room more now (c.if-not-take_back.ensures.room more h) e
