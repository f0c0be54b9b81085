-- The objects of a struct are those that its number and the table of all structs tell.
use Rattle.std.proofs.Common.{◌≡◌, ℕ, zero, suc, ◌+◌, ◌<◌, ◌≤◌, Bool, true, false, if◌then◌else◌, nat_eq, nat_lt, List, [], ◌∷◌, ◌++◌, length, map, Option, Some, refl, sym, ap, ◌∙◌, subst, arith, append_assoc, ltb-true, ltb-false, replicate}
use Rattle.std.specs.Prelude.{slice_get, bytes_eq}
use Rattle.std.specs.Option.{option_map_or}
use Rattle.std.proofs.lemmas.Bool.{eqb-true, eq-eqb}
use Rattle.std.proofs.lemmas.List.{length-append, length-replicate}
use Rattle.std.proofs.lemmas.Option.{slice_get_past}
use Rattle.std.proofs.lemmas.Simd.{splat_is_map}
use Rattle.c_text.specs.CTree.{FieldKind, plain, inside, FieldTree}
use Rattle.c_text.proofs.Arena.{slice_get-front, slice_get-seam}
use Rattle.c_meaning.specs.CMemory.{part, zero_cell}
use Rattle.c_meaning.specs.declared.cells.Cell.{Cell}
use Rattle.c_meaning.specs.declared.cells.CellType.{CellType}
use Rattle.c_meaning.specs.CTypes.{StructDecl}
use Rattle.c_meaning.specs.CExprs.{cell_type}
use Rattle.c_meaning.specs.CRun.{count_of, laid_out, no_fields, struct_objects}
use Rattle.c_mem.specs.FieldParts.{declared_cell}
use Rattle.c_step_objects.specs.Shapes.{struct_number, objects_of, objects_of_all, inside_of, ShapeView, fields_at, size_at, sizes_inside, shape_of, own_fields, all_shapes, placed, zero_object}

-- Numbers of structs.
eq_not : (k n : ℕ) → k < n → nat_eq k n ≡ false
eq_not k n less = by (nat_eq k n) refl
  where
    by : (b : Bool) → nat_eq k n ≡ b → nat_eq k n ≡ false
    by true e = absurd (let same : k ≡ n = eqb-true k n e in omega (arith, same, less))
    by false e = e

pub number_within : (ss : List StructDecl) (name : List ℕ) → struct_number ss name ≤ length ss
number_within [] name = omega arith
number_within (s ∷ ss) name = by (bytes_eq s.name name) (number_within ss name)
  where
    by : (b : Bool) → struct_number ss name ≤ length ss → (if b then suc (length ss) else struct_number ss name) ≤ suc (length ss)
    by true h = omega arith
    by false h = omega (arith, h)

pub name_is : (ss : List StructDecl) (name : List ℕ) (from : ℕ) → struct_objects ss name from ≡ objects_of ss (struct_number ss name) from
name_is [] name from = refl
name_is (s ∷ ss) name from = by (bytes_eq s.name name) refl (name_is ss name from)
  where
    by : (b : Bool) → bytes_eq s.name name ≡ b → struct_objects ss name from ≡ objects_of ss (struct_number ss name) from → struct_objects (s ∷ ss) name from ≡ objects_of (s ∷ ss) (struct_number (s ∷ ss) name) from
    by true e so = rw (e, eq-eqb (suc (length ss)) (suc (length ss)) refl) refl
    by false e so = rw (e, eq_not (struct_number ss name) (suc (length ss)) (omega (arith, number_within ss name))) so

objects_front : (front ss : List StructDecl) (k from : ℕ) → k ≤ length ss → objects_of (front ++ ss) k from ≡ objects_of ss k from
objects_front [] ss k from le = refl
objects_front (s ∷ front) ss k from le = rw (eq_not k (suc (length (front ++ ss))) (omega (arith, length-append front ss, le))) (objects_front front ss k from le)

pub objects_past : (ss : List StructDecl) (k from : ℕ) → length ss < k → objects_of ss k from ≡ no_fields
objects_past [] k from past = refl
objects_past (s ∷ ss) k from past = by (nat_eq k (suc (length ss))) refl (objects_past ss k from (omega (arith, past)))
  where
    by : (b : Bool) → nat_eq k (suc (length ss)) ≡ b → objects_of ss k from ≡ no_fields → objects_of (s ∷ ss) k from ≡ no_fields
    by true e so = absurd (let same : k ≡ suc (length ss) = eqb-true k (suc (length ss)) e in omega (arith, same, past))
    by false e so = rw e so

pub objects_none : (ss : List StructDecl) (from : ℕ) → objects_of ss 0 from ≡ no_fields
objects_none [] from = refl
objects_none (s ∷ ss) from = rw (eq_not 0 (suc (length ss)) (omega arith)) (objects_none ss from)

-- The table of all structs.
pub shapes_length : (ss : List StructDecl) → length (all_shapes ss) ≡ suc (length ss)
shapes_length [] = refl
shapes_length (s ∷ ss) = omega (arith, length-append (all_shapes ss) (shape_of (all_shapes ss) (own_fields ss s.fields) ∷ []), shapes_length ss)

shape_last : (s : StructDecl) (ss : List StructDecl) → slice_get (all_shapes (s ∷ ss)) (suc (length ss)) ≡ Some (shape_of (all_shapes ss) (own_fields ss s.fields))
shape_last s ss = subst (λ (n : ℕ). slice_get (all_shapes (s ∷ ss)) n ≡ Some (shape_of (all_shapes ss) (own_fields ss s.fields))) (shapes_length ss) (slice_get-seam (all_shapes ss) (shape_of (all_shapes ss) (own_fields ss s.fields)) [])

shape_front : (s : StructDecl) (ss : List StructDecl) (k : ℕ) → k ≤ length ss → slice_get (all_shapes (s ∷ ss)) k ≡ slice_get (all_shapes ss) k
shape_front s ss k le = slice_get-front (all_shapes ss) (shape_of (all_shapes ss) (own_fields ss s.fields) ∷ []) k (omega (arith, shapes_length ss, le))

-- Sizes are those of the objects, wherever these stand.
abbrev AreSized : List StructDecl → Type 0
AreSized ss = (k from : ℕ) → k ≤ length ss → size_at (all_shapes ss) k ≡ length (objects_of ss k from)

inside_is : (ss : List StructDecl) → AreSized ss → (fs : List FieldTree) (at : ℕ) → sizes_inside (all_shapes ss) (own_fields ss fs) ≡ length (laid_out (struct_objects ss) fs at).inside
inside_is ss sized [] at = refl
inside_is ss sized (f ∷ fs) at = by f.kind refl (inside_is ss sized fs)
  where
    by : (kind : FieldKind) → f.kind ≡ kind → ((from : ℕ) → sizes_inside (all_shapes ss) (own_fields ss fs) ≡ length (laid_out (struct_objects ss) fs from).inside) → sizes_inside (all_shapes ss) (own_fields ss (f ∷ fs)) ≡ length (laid_out (struct_objects ss) (f ∷ fs) at).inside
    by (plain t) e later = rw e (omega (arith, later at))
    by (inside name) e later =
        let own : size_at (all_shapes ss) (struct_number ss name) ≡ length (struct_objects ss name at) = sized (struct_number ss name) at (number_within ss name) ∙ ap length (sym (name_is ss name at)) in
        let rest : sizes_inside (all_shapes ss) (own_fields ss fs) ≡ length (laid_out (struct_objects ss) fs (at + length (struct_objects ss name at))).inside = later (at + length (struct_objects ss name at)) in
        rw (e, own, rest) (sym (length-append (struct_objects ss name at) (laid_out (struct_objects ss) fs (at + length (struct_objects ss name at))).inside))

pub are_sized : (ss : List StructDecl) → AreSized ss
are_sized [] zero from le = refl
are_sized [] (suc k) from le = absurd (omega (arith, le))
are_sized (s ∷ ss) k from le = by (nat_eq k (suc (length ss))) refl (are_sized ss)
  where
    not_that : nat_eq k (suc (length ss)) ≡ false → (k ≡ suc (length ss)) → ⊥
    not_that e that = let t : nat_eq k (suc (length ss)) ≡ true = eq-eqb k (suc (length ss)) that in cc (t, e)

    by : (b : Bool) → nat_eq k (suc (length ss)) ≡ b → AreSized ss → size_at (all_shapes (s ∷ ss)) k ≡ length (objects_of (s ∷ ss) k from)
    by true e sized =
        let here : slice_get (all_shapes (s ∷ ss)) k ≡ Some (shape_of (all_shapes ss) (own_fields ss s.fields)) = ap (slice_get (all_shapes (s ∷ ss))) (eqb-true k (suc (length ss)) e) ∙ shape_last s ss in
        ap (λ (o : Option ShapeView). option_map_or (λ x. x.size) o 1) here ∙ rw e (ap suc (inside_is ss sized s.fields (from + 1)))
    by false e sized =
        let below : k ≤ length ss = omega (arith, le, not_that e) in
        ap (λ (o : Option ShapeView). option_map_or (λ x. x.size) o 1) (shape_front s ss k below) ∙ rw e (sized k from below)

-- In a longer list of structs those of the shorter one have the same objects.
named_in : (total front ss : List StructDecl) → total ≡ front ++ ss → (name : List ℕ) (at : ℕ) → struct_objects ss name at ≡ objects_of total (struct_number ss name) at
named_in total front ss e name at = name_is ss name at ∙ (sym (objects_front front ss (struct_number ss name) at (number_within ss name)) ∙ ap (λ (t : List StructDecl). objects_of t (struct_number ss name) at) (sym e))

within_total : (total front ss : List StructDecl) → total ≡ front ++ ss → (k : ℕ) → k ≤ length ss → k ≤ length total
within_total total front ss e k le = omega (arith, ap length e, length-append front ss, le)

size_in : (total front ss : List StructDecl) → total ≡ front ++ ss → (name : List ℕ) (at : ℕ) → length (struct_objects ss name at) ≡ size_at (all_shapes total) (struct_number ss name)
size_in total front ss e name at = ap length (named_in total front ss e name at) ∙ sym (are_sized total (struct_number ss name) at (within_total total front ss e (struct_number ss name) (number_within ss name)))

zero_cells : (type : CellType) (n : ℕ) (x : Cell) → map (λ _. zero_cell type) (replicate n x) ≡ replicate n (zero_cell type)
zero_cells type n x = sym (splat_is_map (replicate n x) n (zero_cell type) (length-replicate n x))

-- The fields of a struct, and the objects inside it.
fields_laid : (total front ss : List StructDecl) → total ≡ front ++ ss → (fs : List FieldTree) (at : ℕ) → (laid_out (struct_objects ss) fs at).fields ≡ zero_object (placed (all_shapes total) (own_fields ss fs) at)
fields_laid total front ss same [] at = refl
fields_laid total front ss same (f ∷ fs) at = by f.kind refl (fields_laid total front ss same fs)
  where
    by : (kind : FieldKind) → f.kind ≡ kind → ((from : ℕ) → (laid_out (struct_objects ss) fs from).fields ≡ zero_object (placed (all_shapes total) (own_fields ss fs) from)) → (laid_out (struct_objects ss) (f ∷ fs) at).fields ≡ zero_object (placed (all_shapes total) (own_fields ss (f ∷ fs)) at)
    by (plain t) e later = rw (e, zero_cells (cell_type t) (count_of f.count) (declared_cell (cell_type t) (count_of f.count)), later at) refl
    by (inside name) e later = rw (e, size_in total front ss same name at) (ap (λ fields. part at ∷ fields) (later (at + size_at (all_shapes total) (struct_number ss name))))

inside_laid : (total front ss : List StructDecl) → total ≡ front ++ ss → (fs : List FieldTree) (at : ℕ) → (laid_out (struct_objects ss) fs at).inside ≡ objects_of_all total (inside_of (own_fields ss fs)) at
inside_laid total front ss same [] at = refl
inside_laid total front ss same (f ∷ fs) at = by f.kind refl (inside_laid total front ss same fs)
  where
    by : (kind : FieldKind) → f.kind ≡ kind → ((from : ℕ) → (laid_out (struct_objects ss) fs from).inside ≡ objects_of_all total (inside_of (own_fields ss fs)) from) → (laid_out (struct_objects ss) (f ∷ fs) at).inside ≡ objects_of_all total (inside_of (own_fields ss (f ∷ fs))) at
    by (plain t) e later = rw e (later at)
    by (inside name) e later = rw (e, named_in total front ss same name at, later (at + length (objects_of total (struct_number ss name) at))) refl

expands_in : (total front ss : List StructDecl) → total ≡ front ++ ss → (k from : ℕ) → k ≤ length ss → objects_of ss k from ≡ zero_object (placed (all_shapes total) (fields_at (all_shapes ss) k) (from + 1)) ∷ objects_of_all total (inside_of (fields_at (all_shapes ss) k)) (from + 1)
expands_in total front [] same zero from le = refl
expands_in total front [] same (suc k) from le = absurd (omega (arith, le))
expands_in total front (s ∷ ss) same k from le = by (nat_eq k (suc (length ss))) refl (same ∙ sym (append_assoc front (s ∷ []) ss)) (expands_in total (front ++ s ∷ []) ss (same ∙ sym (append_assoc front (s ∷ []) ss)) k from)
  where
    not_that : nat_eq k (suc (length ss)) ≡ false → (k ≡ suc (length ss)) → ⊥
    not_that e that = let t : nat_eq k (suc (length ss)) ≡ true = eq-eqb k (suc (length ss)) that in cc (t, e)

    by : (b : Bool) → nat_eq k (suc (length ss)) ≡ b → total ≡ (front ++ s ∷ []) ++ ss
        → (k ≤ length ss → objects_of ss k from ≡ zero_object (placed (all_shapes total) (fields_at (all_shapes ss) k) (from + 1)) ∷ objects_of_all total (inside_of (fields_at (all_shapes ss) k)) (from + 1))
        → objects_of (s ∷ ss) k from ≡ zero_object (placed (all_shapes total) (fields_at (all_shapes (s ∷ ss)) k) (from + 1)) ∷ objects_of_all total (inside_of (fields_at (all_shapes (s ∷ ss)) k)) (from + 1)
    by true e nearer later =
        let here : slice_get (all_shapes (s ∷ ss)) k ≡ Some (shape_of (all_shapes ss) (own_fields ss s.fields)) = ap (slice_get (all_shapes (s ∷ ss))) (eqb-true k (suc (length ss)) e) ∙ shape_last s ss in
        rw (e, here, fields_laid total (front ++ s ∷ []) ss nearer s.fields (from + 1), inside_laid total (front ++ s ∷ []) ss nearer s.fields (from + 1)) refl
    by false e nearer later =
        let below : k ≤ length ss = omega (arith, le, not_that e) in
        rw (e, shape_front s ss k below) (later below)

-- An object of a struct is its own fields, and then the objects inside it.
pub expands : (ss : List StructDecl) (k from : ℕ) → objects_of ss k from ≡ zero_object (placed (all_shapes ss) (fields_at (all_shapes ss) k) (from + 1)) ∷ objects_of_all ss (inside_of (fields_at (all_shapes ss) k)) (from + 1)
expands ss k from = by (nat_lt (length ss) k) refl
  where
    by : (b : Bool) → nat_lt (length ss) k ≡ b → objects_of ss k from ≡ zero_object (placed (all_shapes ss) (fields_at (all_shapes ss) k) (from + 1)) ∷ objects_of_all ss (inside_of (fields_at (all_shapes ss) k)) (from + 1)
    by true e =
        let past : length ss < k = ltb-true (length ss) k e in
        rw (slice_get_past (all_shapes ss) k (omega (arith, shapes_length ss, past))) (objects_past ss k from past)
    by false e = expands_in ss [] ss refl k from (ltb-false (length ss) k e)

pub size_is : (ss : List StructDecl) (k from : ℕ) → size_at (all_shapes ss) k ≡ length (objects_of ss k from)
size_is ss k from = by (nat_lt (length ss) k) refl
  where
    by : (b : Bool) → nat_lt (length ss) k ≡ b → size_at (all_shapes ss) k ≡ length (objects_of ss k from)
    by true e =
        let past : length ss < k = ltb-true (length ss) k e in
        rw (slice_get_past (all_shapes ss) k (omega (arith, shapes_length ss, past)), objects_past ss k from past) refl
    by false e = are_sized ss k from (ltb-false (length ss) k e)
