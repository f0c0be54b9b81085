-- The object of a call, in the meaning and in the machine.
use Rattle.std.proofs.Common.{◌≡◌, suc, List, [], ◌∷◌, ◌++◌, length, map, Option, Some, None, refl, sym, ap, ◌∙◌}
use Rattle.std.specs.Prelude.{option_map, option_and_then}
use Rattle.std.proofs.lemmas.List.{append-nil}
use Rattle.c_text.specs.CTree.{ParamTree, LocalTree}
use Rattle.c_meaning.specs.declared.cells.Cell.{Cell}
use Rattle.c_meaning.specs.declared.cells.CellType.{CellType}
use Rattle.c_meaning.specs.declared.values.CValue.{CValue}
use Rattle.c_meaning.specs.declared.cells.Cell.TheVariants.{Unset as unset}
use Rattle.c_meaning.specs.CMemory.{Field, Object, cell_of}
use Rattle.c_meaning.specs.CTypes.{Function, local_name}
use Rattle.c_meaning.specs.CExprs.{cell_type}
use Rattle.c_meaning.specs.CCall.{field_with, passed, frame_object}
use Rattle.c_meaning.specs.Typed.{of_cells, field_shape, object_shape}
use Rattle.c_step_frames.specs.Frames.{param_type, local_type, one_cell, passed_cells, unset_cells, call_object}

pub passed_alike : (ps : List ParamTree) (vs : List CValue) → passed ps vs ≡ passed_cells (map param_type ps) vs
passed_alike [] [] = refl
passed_alike [] (v ∷ vs) = refl
passed_alike (p ∷ ps) [] = refl
passed_alike (p ∷ ps) (v ∷ vs) = ap (λ (o : Option (List Field)). option_and_then (λ cell. option_map (λ fields. one_cell (cell_type p.kind) cell ∷ fields) o) (cell_of (cell_type p.kind) v)) (passed_alike ps vs)

locals_alike : (ls : List LocalTree) → map (λ l. field_with (local_name l) unset) ls ≡ unset_cells (map local_type ls)
locals_alike [] = refl
locals_alike (l ∷ ls) = ap (λ (fs : List Field). one_cell (cell_type l.kind) unset ∷ fs) (locals_alike ls)

pub object_alike : (f : Function) (given : List CValue) → frame_object f given ≡ call_object (map param_type f.params) (map local_type f.locals) given
object_alike f given =
    ap (λ (o : Option (List Field)). option_map (λ fields. fields ++ map (λ l. field_with (local_name l) unset) f.locals) o) (passed_alike f.params given)
    ∙ ap (λ (ls : List Field). option_map (λ fields. fields ++ ls) (passed_cells (map param_type f.params) given)) (locals_alike f.locals)

-- Without locals the object is the arguments.
pub no_locals : (o : Option (List Field)) → option_map (λ fields. fields ++ unset_cells []) o ≡ o
no_locals None = refl
no_locals (Some fields) = ap Some (append-nil fields)

-- There are as many arguments as parameters.
one_more : (t : CellType) (o : Option Cell) (p : Option (List Field)) (ts : List CellType) (vs : List CValue)
    → ((fields : List Field) → p ≡ Some fields → length ts ≡ length vs) → (fields : List Field) → option_and_then (λ cell. option_map (λ fields. one_cell t cell ∷ fields) p) o ≡ Some fields → suc (length ts) ≡ suc (length vs)
one_more t None p ts vs h fields e = absurd (cc (e))
one_more t (Some cell) None ts vs h fields e = absurd (cc (e))
one_more t (Some cell) (Some them) ts vs h fields e = ap suc (h them refl)

pub as_many : (ts : List CellType) (vs : List CValue) (fields : List Field) → passed_cells ts vs ≡ Some fields → length ts ≡ length vs
as_many [] [] fields e = refl
as_many [] (v ∷ vs) fields e = absurd (cc (e))
as_many (t ∷ ts) [] fields e = absurd (cc (e))
as_many (t ∷ ts) (v ∷ vs) fields e = one_more t (cell_of t v) (passed_cells ts vs) ts vs (λ them k. as_many ts vs them k) fields e

pub too_few : (ts : List CellType) (vs : List CValue) → (length ts ≡ length vs → ⊥) → passed_cells ts vs ≡ None
too_few ts vs h = by_result (passed_cells ts vs) refl
  where
    by_result : (o : Option (List Field)) → passed_cells ts vs ≡ o → passed_cells ts vs ≡ None
    by_result None e = e
    by_result (Some fields) e = absurd (h (as_many ts vs fields e))

-- The object has the shape of unset cells.
shape_more : (t : CellType) (o : Option Cell) (p : Option (List Field)) (ts : List CellType)
    → ((fields : List Field) → p ≡ Some fields → object_shape fields ≡ object_shape (unset_cells ts)) → (fields : List Field) → option_and_then (λ cell. option_map (λ fields. one_cell t cell ∷ fields) p) o ≡ Some fields
    → object_shape fields ≡ object_shape (unset_cells (t ∷ ts))
shape_more t None p ts h fields e = absurd (cc (e))
shape_more t (Some cell) None ts h fields e = absurd (cc (e))
shape_more t (Some cell) (Some them) ts h fields e = let s : one_cell t cell ∷ them ≡ fields = cc (e) in ap object_shape (sym s) ∙ ap (λ xs. of_cells t 1 ∷ xs) (h them refl)

passed_shape : (ts : List CellType) (vs : List CValue) (fields : List Field) → passed_cells ts vs ≡ Some fields → object_shape fields ≡ object_shape (unset_cells ts)
passed_shape [] [] fields e = let s : [] ≡ fields = cc (e) in ap object_shape (sym s)
passed_shape [] (v ∷ vs) fields e = absurd (cc (e))
passed_shape (t ∷ ts) [] fields e = absurd (cc (e))
passed_shape (t ∷ ts) (v ∷ vs) fields e = shape_more t (cell_of t v) (passed_cells ts vs) ts (λ them k. passed_shape ts vs them k) fields e

shape_append : (xs ys : Object) → object_shape (xs ++ ys) ≡ object_shape xs ++ object_shape ys
shape_append [] ys = refl
shape_append (x ∷ xs) ys = ap (λ s. field_shape x ∷ s) (shape_append xs ys)

unset_append : (ts us : List CellType) → unset_cells (ts ++ us) ≡ unset_cells ts ++ unset_cells us
unset_append [] us = refl
unset_append (t ∷ ts) us = ap (λ (fs : List Field). one_cell t unset ∷ fs) (unset_append ts us)

pub object_shape_is : (ts us : List CellType) (given : List CValue) (object : Object) → call_object ts us given ≡ Some object → object_shape object ≡ object_shape (unset_cells (ts ++ us))
object_shape_is ts us given object e = by_passed (passed_cells ts given) refl e
  where
    by_passed : (o : Option (List Field)) → passed_cells ts given ≡ o → option_map (λ fields. fields ++ unset_cells us) o ≡ Some object → object_shape object ≡ object_shape (unset_cells (ts ++ us))
    by_passed None k q = absurd (cc (q))
    by_passed (Some fields) k q =
        let s : fields ++ unset_cells us ≡ object = cc (q) in
        ap object_shape (sym s) ∙ (shape_append fields (unset_cells us)
        ∙ (ap (λ x. x ++ object_shape (unset_cells us)) (passed_shape ts given fields k)
        ∙ (sym (shape_append (unset_cells ts) (unset_cells us)) ∙ ap object_shape (sym (unset_append ts us)))))
