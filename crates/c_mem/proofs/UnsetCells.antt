-- An object that has the shape of unset cells, one a field, is these once it is unset, and has no field of more than one byte.
use Rattle.std.proofs.Common.{◌≡◌, zero, suc, List, [], ◌∷◌, length, map, refl, ap, ◌∙◌, arith}
use Rattle.c_meaning.specs.declared.cells.Cell.TheVariants.{Unset as unset}
use Rattle.c_meaning.specs.declared.cells.CellType.{CellType}
use Rattle.c_meaning.specs.declared.cells.CellType.TheVariants.{U8 as u8, U16 as u16, U32 as u32, U64 as u64, Flag as flag, Pointer as pointer}
use Rattle.c_meaning.specs.CMemory.{Field, cells, part, Object}
use Rattle.c_meaning.specs.CRun.{one_cell}
use Rattle.c_meaning.specs.Typed.{of_cells, field_shape, object_shape}
use Rattle.c_mem.specs.FieldParts.{unset_field, IsSmall, AreSmall}

one_unset : (t : CellType) (f : Field) → field_shape f ≡ of_cells t 1 → unset_field f ≡ one_cell t unset
one_unset t (cells type []) e = absurd (cc (e))
one_unset t (cells type (c ∷ [])) e = let s : type ≡ t = cc (e) in ap (λ (u : CellType). one_cell u unset) s
one_unset t (cells type (c ∷ d ∷ others)) e = absurd (too_many (cc (e)))
  where
    too_many : suc (suc (length others)) ≡ 1 → ⊥
    too_many h = absurd (omega (arith, h))
one_unset t (part object) e = absurd (cc (e))

one_small : (t : CellType) (f : Field) → field_shape f ≡ of_cells t 1 → IsSmall f
one_small t (cells type []) e = absurd (cc (e))
one_small t (cells type (c ∷ [])) e = by_type type
  where
    by_type : (type : CellType) → IsSmall (cells type (c ∷ []))
    by_type u8 = omega arith
    by_type u16 = tt
    by_type u32 = tt
    by_type u64 = tt
    by_type flag = tt
    by_type pointer = tt
one_small t (cells type (c ∷ d ∷ others)) e = absurd (too_many (cc (e)))
  where
    too_many : suc (suc (length others)) ≡ 1 → ⊥
    too_many h = absurd (omega (arith, h))
one_small t (part object) e = tt

pub unset_again : (ts : List CellType) (object : Object) → object_shape object ≡ object_shape (map (λ t. one_cell t unset) ts) → map unset_field object ≡ map (λ t. one_cell t unset) ts
unset_again [] [] e = refl
unset_again [] (f ∷ fs) e = absurd (cc (e))
unset_again (t ∷ ts) [] e = absurd (cc (e))
unset_again (t ∷ ts) (f ∷ fs) e =
    let h : field_shape f ≡ of_cells t 1 = cc (e) in
    let k : object_shape fs ≡ object_shape (map (λ t. one_cell t unset) ts) = cc (e) in
    ap (λ x. x ∷ map unset_field fs) (one_unset t f h) ∙ ap (λ xs. one_cell t unset ∷ xs) (unset_again ts fs k)

pub small_again : (ts : List CellType) (object : Object) → object_shape object ≡ object_shape (map (λ t. one_cell t unset) ts) → AreSmall object
small_again [] [] e = λ k d h. absurd (omega (arith, h))
small_again [] (f ∷ fs) e = absurd (cc (e))
small_again (t ∷ ts) [] e = absurd (cc (e))
small_again (t ∷ ts) (f ∷ fs) e =
    let h : field_shape f ≡ of_cells t 1 = cc (e) in
    let k : object_shape fs ≡ object_shape (map (λ t. one_cell t unset) ts) = cc (e) in
    at_index (one_small t f h) (small_again ts fs k)
  where
    at_index : IsSmall f → AreSmall fs → AreSmall (f ∷ fs)
    at_index h k zero d l = h
    at_index h k (suc j) d l = k j d (omega (arith, l))
