use Rattle.std.proofs.Common.{◌≡◌, length, refl, sym, subst, ap}
use Rattle.c_meaning.specs.declared.cells.Cell.TheVariants.{Num as num}
use Rattle.c_meaning.specs.CMemory.{Object}
use Rattle.c_mem.specs.FieldParts.{FitsObject}
use Rattle.c_step_hosts.proofs.Structs.{wrote_start, wrote_len, wrote_wi, wrote_ri, wrote_pos, wrote_closed}
use Rattle.c_step_hosts.proofs.ios.write.Goals as goal

pub set-requires-2 : goal.set-requires-2
set-requires-2 c =
    let e1 = wrote_start c.args.object.now c.set.new.object c.start_of.result c.requires c.set.ensures in
    subst (λ (o : Object). FitsObject o 1 (num (length c.bytes-size.result.now))) (sym e1) tt

pub set-requires-3 : goal.set-requires-3
set-requires-3 c =
    let e1 = wrote_start c.args.object.now c.set.new.object c.start_of.result c.requires c.set.ensures in
    let e2 = wrote_len c.set.new.object c.set-2.new.object c.start_of.result (num (length c.bytes-size.result.now)) e1 c.set-2.ensures in
    subst (λ (o : Object). FitsObject o 2 (num c.wi.result)) (sym e2) tt

pub set-requires-4 : goal.set-requires-4
set-requires-4 c =
    let e1 = wrote_start c.args.object.now c.set.new.object c.start_of.result c.requires c.set.ensures in
    let e2 = wrote_len c.set.new.object c.set-2.new.object c.start_of.result (num (length c.bytes-size.result.now)) e1 c.set-2.ensures in
    let e3 = wrote_wi c.set-2.new.object c.set-3.new.object c.start_of.result (num (length c.bytes-size.result.now)) (num c.wi.result) e2 c.set-3.ensures in
    subst (λ (o : Object). FitsObject o 3 (num c.ri.result)) (sym e3) tt

pub set-requires-5 : goal.set-requires-5
set-requires-5 c =
    let e1 = wrote_start c.args.object.now c.set.new.object c.start_of.result c.requires c.set.ensures in
    let e2 = wrote_len c.set.new.object c.set-2.new.object c.start_of.result (num (length c.bytes-size.result.now)) e1 c.set-2.ensures in
    let e3 = wrote_wi c.set-2.new.object c.set-3.new.object c.start_of.result (num (length c.bytes-size.result.now)) (num c.wi.result) e2 c.set-3.ensures in
    let e4 = wrote_ri c.set-3.new.object c.set-4.new.object c.start_of.result (num (length c.bytes-size.result.now)) (num c.wi.result) (num c.ri.result) e3 c.set-4.ensures in
    subst (λ (o : Object). FitsObject o 4 (num c.pos.result)) (sym e4) tt

pub returns : goal.returns
returns c =
    let e1 = wrote_start c.args.object.now c.set.new.object c.start_of.result c.requires c.set.ensures in
    let e2 = wrote_len c.set.new.object c.set-2.new.object c.start_of.result (num (length c.bytes-size.result.now)) e1 c.set-2.ensures in
    let e3 = wrote_wi c.set-2.new.object c.set-3.new.object c.start_of.result (num (length c.bytes-size.result.now)) (num c.wi.result) e2 c.set-3.ensures in
    let e4 = wrote_ri c.set-3.new.object c.set-4.new.object c.start_of.result (num (length c.bytes-size.result.now)) (num c.wi.result) (num c.ri.result) e3 c.set-4.ensures in
    let e5 = wrote_pos c.set-4.new.object c.set-5.new.object c.start_of.result (num (length c.bytes-size.result.now)) (num c.wi.result) (num c.ri.result) (num c.pos.result) e4 c.set-5.ensures in
    let e6 = wrote_closed c.set-5.new.object c.set-6.new.object c.start_of.result (num (length c.bytes-size.result.now)) (num c.wi.result) (num c.ri.result) (num c.pos.result) (num c.bit.result) e5 c.set-6.ensures in
    let size : length c.args.b.now.cells ≡ length c.bytes-size.result.now = sym (ap length c.bytes-size.ensures.cells) in
    rw (e6, c.start_of.ensures c.args.b.now.cells size, sym size, c.wi.ensures, c.ri.ensures, c.pos.ensures, c.bit.ensures, c.is_closed.ensures) refl
