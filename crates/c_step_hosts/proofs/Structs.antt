-- The struct of an io buffer.
use Rattle.std.proofs.Common.{◌≡◌, ℕ, List, [], ◌∷◌, map, Option, Some, None, refl, ap, ◌∙◌}
use Rattle.c_meaning.specs.declared.cells.Cell.{Cell}
use Rattle.c_meaning.specs.declared.cells.Cell.TheVariants.{Unset as unset}
use Rattle.c_meaning.specs.declared.cells.CellType.{CellType}
use Rattle.c_meaning.specs.declared.cells.CellType.TheVariants.{U64 as u64, Flag as flag, Pointer as pointer}
use Rattle.c_meaning.specs.CMemory.{Object}
use Rattle.c_meaning.specs.CRun.{no_buffer}
use Rattle.c_mem.specs.FieldParts.{stored_at_field, unset_field, AreSmall}
use Rattle.c_mem.specs.Leaving.{Leaves}
use Rattle.c_mem.proofs.UnsetCells.{unset_again, small_again}
use Rattle.c_step_hosts.specs.Ios.{io_struct}
use Rattle.c_step_hosts.specs.Spares.{IsIo}

pub stored_is : (given : Option Object) (old new it : Object) (r : Option (Unit {0})) → Leaves given old r new → given ≡ Some it → new ≡ it
stored_is given old new it None h e = absurd (cc (h.0, e))
stored_is given old new it (Some done) h e = cc (h, e)

-- Once it is unset.
io_types : List CellType
io_types = pointer ∷ u64 ∷ u64 ∷ u64 ∷ u64 ∷ flag ∷ []

pub io_unset : (object : Object) → IsIo object → map unset_field object ≡ no_buffer
unfolding io_types
io_unset object e = unset_again io_types object e

pub io_small : (object : Object) → IsIo object → AreSmall object
unfolding io_types
io_small object e = small_again io_types object e

-- Its cells are written, one after the other.
wrote : (old new now : Object) (field : ℕ) (cell : Cell) (it : Object) → old ≡ now → ((x : Object) → stored_at_field old field 0 cell ≡ Some x → new ≡ x) → stored_at_field now field 0 cell ≡ Some it → new ≡ it
wrote old new now field cell it e h s = h it (ap (λ (o : Object). stored_at_field o field 0 cell) e ∙ s)

pub wrote_start : (old new : Object) (a : Cell) → old ≡ no_buffer → ((x : Object) → stored_at_field old 0 0 a ≡ Some x → new ≡ x) → new ≡ io_struct a unset unset unset unset unset
wrote_start old new a e h = wrote old new no_buffer 0 a (io_struct a unset unset unset unset unset) e h refl

pub wrote_len : (old new : Object) (a b : Cell) → old ≡ io_struct a unset unset unset unset unset → ((x : Object) → stored_at_field old 1 0 b ≡ Some x → new ≡ x) → new ≡ io_struct a b unset unset unset unset
wrote_len old new a b e h = wrote old new (io_struct a unset unset unset unset unset) 1 b (io_struct a b unset unset unset unset) e h refl

pub wrote_wi : (old new : Object) (a b c : Cell) → old ≡ io_struct a b unset unset unset unset → ((x : Object) → stored_at_field old 2 0 c ≡ Some x → new ≡ x) → new ≡ io_struct a b c unset unset unset
wrote_wi old new a b c e h = wrote old new (io_struct a b unset unset unset unset) 2 c (io_struct a b c unset unset unset) e h refl

pub wrote_ri : (old new : Object) (a b c d : Cell) → old ≡ io_struct a b c unset unset unset → ((x : Object) → stored_at_field old 3 0 d ≡ Some x → new ≡ x) → new ≡ io_struct a b c d unset unset
wrote_ri old new a b c d e h = wrote old new (io_struct a b c unset unset unset) 3 d (io_struct a b c d unset unset) e h refl

pub wrote_pos : (old new : Object) (a b c d f : Cell) → old ≡ io_struct a b c d unset unset → ((x : Object) → stored_at_field old 4 0 f ≡ Some x → new ≡ x) → new ≡ io_struct a b c d f unset
wrote_pos old new a b c d f e h = wrote old new (io_struct a b c d unset unset) 4 f (io_struct a b c d f unset) e h refl

pub wrote_closed : (old new : Object) (a b c d f g : Cell) → old ≡ io_struct a b c d f unset → ((x : Object) → stored_at_field old 5 0 g ≡ Some x → new ≡ x) → new ≡ io_struct a b c d f g
wrote_closed old new a b c d f g e h = wrote old new (io_struct a b c d f unset) 5 g (io_struct a b c d f g) e h refl
