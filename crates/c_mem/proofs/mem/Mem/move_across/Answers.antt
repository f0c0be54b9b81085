use Rattle.std.proofs.Common.{◌≡◌, ◌∙◌, ap, subst, Some}
use Rattle.std.specs.Prelude.{slice_get, slice_set}
use Rattle.c_meaning.specs.CMemory.{Object}
use Rattle.c_mem.specs.Moving.{Swaps}
use Rattle.c_mem.proofs.Moved.{moves_nowhere, moves_across, two_fields}
use Rattle.c_mem.proofs.Stored.{read_is, read_back, put_back}
use Rattle.c_mem.proofs.mem.Mem.move_across.Goals as goal

pub returns-then-not-swap_field-clause-objects : goal.returns-then-not-swap_field-clause-objects
returns-then-not-swap_field-clause-objects c =
    let there : slice_get c.args.self.now.objects.items c.args.to.object ≡ Some c.index_mut.result.now = read_is c.args.self.now.objects.items c.args.to.object c.index_mut.result.now c.requires.there c.index_mut.ensures.value in (
      moves_nowhere c.args.self.now.objects.items c.args.to c.args.from c.args.bytes c.index_mut.result.now there c.if-not-swap_field.ensures.0,
      ap (slice_set c.args.self.now.objects.items c.args.to.object) c.if-not-swap_field.ensures.1.0 ∙ put_back c.args.self.now.objects.items c.args.to.object c.index_mut.result.now there,
    )

pub returns-clause-objects : goal.returns-clause-objects
returns-clause-objects c =
    let there : slice_get c.args.self.now.objects.items c.args.to.object ≡ Some c.index_mut.result.now = read_is c.args.self.now.objects.items c.args.to.object c.index_mut.result.now c.requires.there c.index_mut.ensures.value in
    let moved_in = rw (c.as_slice.ensures.value, c.if-not-swap_field.ensures.1) at c.move_to-moved.ensures in
    let found : c.index_mut-2.result.now ≡ c.swap_field.new.self = read_back c.args.self.now.objects.items c.args.to.object c.index_mut-2.result.now c.swap_field.new.self c.requires.there c.index_mut-2.ensures.value in
    let P : Object → Type 0 = λ x. Swaps x c.args.to.field c.move_to-moved.new.target c.swap_field-back.result c.swap_field-back.new.self c.swap_field-back.new.other in
    rw c.if-not-swap_field.ensures.1
    (moves_across c.args.self.now.objects.items c.args.to c.args.from c.args.bytes c.index_mut.result.now there c.swap_field.new.other c.args.self.now.spare c.move_to-moved.new.target c.move_to-moved.result c.swap_field-back.result
    c.swap_field-back.new.self c.swap_field-back.new.other c.if-not-swap_field.ensures.0 (two_fields c.args.to c.args.from c.requires.apart) moved_in
    (subst P (found ∙ c.if-not-swap_field.ensures.1) c.swap_field-back.ensures))
