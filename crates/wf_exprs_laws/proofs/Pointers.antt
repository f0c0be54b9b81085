-- Elements of slices, and parts of them: how a pointer of C moves with the first number of a part.
use Rattle.std.proofs.Common.{◌≡◌, ℕ, ◌+◌, ◌-◌, ◌^◌, ◌<◌, ◌≤◌, Bool, true, false, ◌&&◌, List, Option, Some, None, refl, sym, ap, ◌∙◌, subst, arith, pos, length}
use Rattle.std.specs.Prelude.{if◌then◌else◌, nat_lt, nat_le, is_some, slice_get, option_map, option_and_then}
use Rattle.std.proofs.lemmas.Bool.{and_parts}
use Rattle.std.proofs.lemmas.Bool.Decides.{nat_tests}
use Rattle.wf_num.specs.declared.c_arithmetic.CTy.{CTy}
use Rattle.wf_num.specs.declared.c_arithmetic.CTy.TheVariants.{Int, U32, U64}
use Rattle.wf_num.proofs.CLaws.{c_limit, c_value-whole, c_difference-whole}
use Rattle.wf_ast.specs.Value.{Span, State, element_of, part_of}
use Rattle.wf_ast.specs.WellTyped.{is_width}
use Rattle.c_text.specs.declared.kinds.COp.TheVariants.{Add, Sub}
use Rattle.c_text.specs.declared.kinds.CUint.{CUint}
use Rattle.c_text.specs.declared.kinds.CUint.TheVariants as width
use Rattle.c_text.specs.CTree.{ExprTree, choice}
use Rattle.c_text.specs.CTree as tree
use Rattle.c_meaning.specs.declared.cells.CellType.{CellType}
use Rattle.c_meaning.specs.declared.cells.Cell.{Cell}
use Rattle.c_meaning.specs.declared.values.Pointer.{Pointer}
use Rattle.c_meaning.specs.declared.values.CValue.{CValue}
use Rattle.c_meaning.specs.declared.values.CValue.TheVariants.{Numeric as numeric, Address as address, NullPointer as null_pointer}
use Rattle.c_meaning.specs.CValues.{number, common}
use Rattle.c_meaning.specs.CMemory.{Memory, cells_at, loaded, offset, within, moved_in}
use Rattle.c_meaning.specs.CTypes.{cell, points_to, one, same_uint, type_of}
use Rattle.c_meaning.specs.CExprs.{Surroundings, held_value, moved_pointer, is_object_pointer, as_expr_type}
use Rattle.wf_exprs.specs.Words.{uint_of, width_of, two}
use Rattle.wf_exprs.specs.Exprs.{calculated, wider, Rated, from_to, part_pointer, part_length}
use Rattle.wf_exprs_laws.specs.ExprLaw.{GivesPointer, cell_behind, IsInside, SpanStands}
use Rattle.wf_exprs_laws.proofs.CNumbers.{width-limit, limit-left}
use Rattle.wf_exprs_laws.proofs.Operands.{IsNumber, has-type, promoted-width, chained-number, calculated-number}
use Rattle.wf_exprs_laws.proofs.Links.{only-some}

-- ---- pointers that move

-- A pointer that has moved names the cell so much further on, in the same field.
within-some : (most at index : ℕ) → within most (pos at) ≡ Some index → at ≡ index
within-some most at index h = by (nat_le at most) h
  where
    by : (test : Bool) → (if test then Some at else None) ≡ Some index → at ≡ index
    by true e = cc e
    by false e = absurd (cc e)

moved-some : (most : ℕ) (p q : Pointer) (i : ℕ) → moved_in most p (pos i) ≡ Some q → record p { index = p.index + i } ≡ q
moved-some most p q i h = by (within most (pos (p.index + i))) refl h
  where
    by : (o : Option ℕ) → within most (pos (p.index + i)) ≡ o → option_map (λ index. record p { index = index }) o ≡ Some q → record p { index = p.index + i } ≡ q
    by None e k = absurd (cc k)
    by (Some index) e k =
        let s : record p { index = index } ≡ q = cc k in
        ap (λ index. record p { index = index }) (within-some most (p.index + i) index e) ∙ s

offset-some : (memory : Memory) (p q : Pointer) (i : ℕ) → offset memory p (pos i) ≡ Some q → record p { index = p.index + i } ≡ q
offset-some memory p q i h = by (cells_at memory p.object p.field) h
  where
    by : (found : Option (CellType × List Cell)) → option_and_then (λ found. moved_in (length found.1) p (pos i)) found ≡ Some q → record p { index = p.index + i } ≡ q
    by None k = absurd (cc k)
    by (Some found) k = moved-some (length found.1) p q i k

moved-again : (memory : Memory) (p q : Pointer) (i k : ℕ) → offset memory p (pos i) ≡ Some q → offset memory q (pos k) ≡ offset memory p (pos (i + k))
moved-again memory p q i k h =
    let sum : p.index + i + k ≡ p.index + (i + k) = omega arith in
    subst (λ q. offset memory q (pos k) ≡ offset memory p (pos (i + k))) (offset-some memory p q i h)
    (ap (λ n. option_and_then (λ found. option_map (λ index. record p { index = index }) (within (length found.1) (pos n))) (cells_at memory p.object p.field)) sum)

-- A value is another one that has moved so many cells on.
pub record HasMoved (memory : Memory) (v w : CValue) (i : ℕ) : Type 0 where
  pub again : (k : ℕ) → cell_behind memory w k ≡ cell_behind memory v (i + k)
  pub inside : (k : ℕ) → IsInside memory v (i + k) → IsInside memory w k
  pub null : w ≡ null_pointer → v ≡ null_pointer
  pub kept : v ≡ null_pointer → w ≡ null_pointer

at-zero : (memory : Memory) (v : CValue) (k : ℕ) → IsInside memory v (0 + k) → IsInside memory v k
at-zero memory v k h = let e : 0 + k ≡ k = omega arith in subst (λ n. IsInside memory v n) e h

pub not-moved : (memory : Memory) (v : CValue) → HasMoved memory v v 0
not-moved memory v = record {
  again = λ k. let e : k ≡ 0 + k = omega arith in ap (cell_behind memory v) e;
  inside = at-zero memory v;
  null = λ e. e;
  kept = λ e. e;
}

no-address : (p : Pointer) → address p ≡ null_pointer → ⊥
no-address p e = absurd (cc e)

pub pointer-moved : (memory : Memory) (p q : Pointer) (i : ℕ) → offset memory p (pos i) ≡ Some q → HasMoved memory (address p) (address q) i
pointer-moved memory p q i h = record {
  again = λ k. ap (option_and_then (loaded memory)) (moved-again memory p q i k h);
  inside = λ k m. ap is_some (moved-again memory p q i k h) ∙ m;
  null = λ e. absurd (no-address q e);
  kept = λ e. absurd (no-address p e);
}

-- ---- parts of a span

pub part-some : (cells part : Span) (i j : ℕ) → part_of cells i j ≡ Some part
    → (i ≤ j) × ((j ≤ cells.count) × (record { store = cells.store; from = cells.from + i; count = j - i } ≡ part))
part-some cells part i j h =
    let o = only-some (nat_le i j && nat_le j cells.count) (Some (record { store = cells.store; from = cells.from + i; count = j - i })) part h in
    let t = and_parts (nat_le i j) (nat_le j cells.count) o.0 in
    (grind (arith, nat_tests, t.0), (grind (arith, nat_tests, t.1), cc (o.1)))

pub element-some : (s : State) (cells : Span) (k n : ℕ) → element_of s cells k ≡ Some n → (k < cells.count) × (slice_get (s.cells_at cells.store) (cells.from + k) ≡ Some n)
element-some s cells k n h =
    let o = only-some (nat_lt k cells.count) (slice_get (s.cells_at cells.store) (cells.from + k)) n h in
    (grind (arith, nat_tests, o.0), o.1)

module _ (s : State) (x : Surroundings) (bits : ℕ) (cells : Span) (v w : CValue) (i j : ℕ) (stands : SpanStands s x bits cells v) (first : i ≤ j) (last : j ≤ cells.count) (m : HasMoved x.memory v w i) where
  abbrev part : Span
  part = record { store = cells.store; from = cells.from + i; count = j - i }

  whole-element : (k n : ℕ) → element_of s part k ≡ Some n → element_of s cells (i + k) ≡ Some n
  whole-element k n h =
      let o = element-some s part k n h in
      let t : nat_lt (i + k) cells.count ≡ true = grind (arith, nat_tests, o.0, last) in
      let e : cells.from + (i + k) ≡ cells.from + i + k = omega arith in
      rw (t, e) o.1

  pub part-stands : SpanStands s x bits part w
  part-stands = record {
    elements = λ k n h. let e = stands.elements (i + k) n (whole-element k n h) in (e.0, m.again k ∙ e.1);
    fits = omega (arith, stands.fits, last);
    empty = λ e. omega (arith, stands.empty (m.null e), last);
    inside = λ k le some. m.inside k (stands.inside (i + k) (omega (arith, le, first, last)) (λ e. some (m.kept e)));
  }

-- ---- the C expressions

held-one : (memory : Memory) (t : tree.TypeTree) (o : Option Pointer) → held_value memory (Some (one t)) o ≡ option_and_then (loaded memory) o
held-one memory t None = refl
held-one memory t (Some p) = refl

-- `p[i]` is the cell that stands i cells after p.
pub element-number : (x : Surroundings) (pointer index : ExprTree) (bits : ℕ) → is_width bits ≡ true → (v : CValue) (ty : CTy) (k n : ℕ) → GivesPointer x pointer bits v → IsNumber x index ty k
    → cell_behind x.memory v k ≡ Some (numeric (number (calculated bits) n)) → n < 2 ^ bits → IsNumber x (tree.element pointer index) (calculated bits) n
element-number x pointer index bits w (address p) ty k n h g e small =
    let t = has-type (type_of x.scope index) ty g.gives.type in
    record {
      gives = record {
        type = rw (h.type, t.is, t.number) (ap Some (promoted-width bits w));
        value = rw (h.type, h.value, t.is, t.number, g.gives.value, c_value-whole ty k g.small) (held-one x.memory (uint_of bits) (offset x.memory p (pos k)) ∙ e);
      };
      small = width-limit bits n w small;
    }
element-number x pointer index bits w (numeric b) ty k n h g e small = absurd (cc e)
element-number x pointer index bits w null_pointer ty k n h g e small = absurd (cc e)

-- `p + i`
pub sum-pointer : (x : Surroundings) (pointer index : ExprTree) (bits : ℕ) (p q : Pointer) (ty : CTy) (i : ℕ) → GivesPointer x pointer bits (address p) → IsNumber x index ty i
    → offset x.memory p (pos i) ≡ Some q → GivesPointer x (two Add pointer index) bits (address q)
sum-pointer x pointer index bits p q ty i h g o =
    let t = has-type (type_of x.scope index) ty g.gives.type in
    record {
      type = rw (h.type, t.is, t.number) refl;
      value = rw (h.value, g.gives.value, c_value-whole ty i g.small)
          (subst (λ t. option_map address (moved_pointer x.memory (is_object_pointer t) p (pos i)) ≡ Some (address q)) (sym h.type) (ap (option_map address) o));
    }

same-width : (w : CUint) → same_uint w w ≡ true
same-width width.U8 = refl
same-width width.U16 = refl
same-width width.U32 = refl
same-width width.U64 = refl

-- `(p ? (p + i) : p)`
choice-type : (x : Surroundings) (pointer index : ExprTree) (bits : ℕ) (v : CValue) (ty : CTy) (i : ℕ) → GivesPointer x pointer bits v → IsNumber x index ty i
    → type_of x.scope (choice pointer (two Add pointer index) pointer) ≡ Some (points_to (cell (uint_of bits)))
choice-type x pointer index bits v ty i h g = let t = has-type (type_of x.scope index) ty g.gives.type in rw (h.type, t.is, t.number, same-width (width_of bits)) refl

pub some-choice : (x : Surroundings) (pointer index : ExprTree) (bits : ℕ) (p q : Pointer) (ty : CTy) (i : ℕ) → GivesPointer x pointer bits (address p) → IsNumber x index ty i
    → offset x.memory p (pos i) ≡ Some q → GivesPointer x (choice pointer (two Add pointer index) pointer) bits (address q)
some-choice x pointer index bits p q ty i h g o =
    let t = has-type (type_of x.scope index) ty g.gives.type in
    record {
      type = choice-type x pointer index bits (address p) ty i h g;
      value = rw (h.type, t.is, t.number, same-width (width_of bits), h.value, g.gives.value, c_value-whole ty i g.small)
          (subst (λ t. option_map (as_expr_type (points_to (cell (uint_of bits)))) (option_map address (moved_pointer x.memory (is_object_pointer t) p (pos i))) ≡ Some (address q)) (sym h.type)
          (ap (λ o. option_map (as_expr_type (points_to (cell (uint_of bits)))) (option_map address o)) o));
    }

pub null-choice : (x : Surroundings) (pointer index : ExprTree) (bits : ℕ) (ty : CTy) (i : ℕ) → GivesPointer x pointer bits null_pointer → IsNumber x index ty i
    → GivesPointer x (choice pointer (two Add pointer index) pointer) bits null_pointer
null-choice x pointer index bits ty i h g =
    let t = has-type (type_of x.scope index) ty g.gives.type in
    record {
      type = choice-type x pointer index bits null_pointer ty i h g;
      value = rw (h.type, t.is, t.number, same-width (width_of bits), h.value) refl;
    }

-- The difference of two numbers.
wider-common : (a b : CTy) → common b a ≡ wider a b
wider-common Int Int = refl
wider-common Int U32 = refl
wider-common Int U64 = refl
wider-common U32 Int = refl
wider-common U32 U32 = refl
wider-common U32 U64 = refl
wider-common U64 Int = refl
wider-common U64 U32 = refl
wider-common U64 U64 = refl

pub from_to-number : (x : Surroundings) (from to : Rated) (i j : ℕ) → IsNumber x from.code from.ty i → IsNumber x to.code to.ty j → i ≤ j
    → IsNumber x (from_to from to).code (from_to from to).ty (j - i)
from_to-number x from to i j g h le =
    let k = chained-number x false Sub refl to.code from.code to.ty from.ty j i h g in
    let p : j < c_limit (common to.ty from.ty) = limit-left to.ty from.ty j h.small in
    subst (λ ty. IsNumber x (two Sub to.code from.code) ty (j - i)) (wider-common from.ty to.ty)
    (calculated-number x (two Sub to.code from.code) (common to.ty from.ty) _ (j - i) k (c_difference-whole (common to.ty from.ty) j i p le) (omega (arith, p)))

-- ---- a part's two expressions

-- An end that is there is a number, and an absent one what stands for it.
abbrev pub IsEnd : Surroundings → Option Rated → (default n : ℕ) → Type 0
IsEnd x None default n = default ≡ n
IsEnd x (Some r) default n = IsNumber x r.code r.ty n

pub part_length-number : (x : Surroundings) (whole : Rated) (from to : Option Rated) (count i j : ℕ) → IsNumber x whole.code whole.ty count → IsEnd x from 0 i → IsEnd x to count j → i ≤ j
    → IsNumber x (part_length whole from to).code (part_length whole from to).ty (j - i)
part_length-number x whole None None count i j h f t le = let e : count ≡ j - i = omega (arith, f, t) in subst (λ n. IsNumber x whole.code whole.ty n) e h
part_length-number x whole None (Some to) count i j h f t le = let e : j ≡ j - i = omega (arith, f) in subst (λ n. IsNumber x to.code to.ty n) e t
part_length-number x whole (Some from) None count i j h f t le =
    from_to-number x from whole i j f (subst (λ n. IsNumber x whole.code whole.ty n) t h) le
part_length-number x whole (Some from) (Some to) count i j h f t le = from_to-number x from to i j f t le

-- What a part's pointer gives.
pub record PointsOn (x : Surroundings) (e : ExprTree) (bits : ℕ) (v : CValue) (i : ℕ) : Type 0 where
  pub at : CValue
  pub gives : GivesPointer x e bits at
  pub moved : HasMoved x.memory v at i

is-moved : (memory : Memory) (p : Pointer) (i : ℕ) → is_some (offset memory p (pos i)) ≡ true → (q : Pointer) × (offset memory p (pos i) ≡ Some q)
is-moved memory p i h = by (offset memory p (pos i)) refl h
  where
    by : (o : Option Pointer) → offset memory p (pos i) ≡ o → is_some o ≡ true → (q : Pointer) × (offset memory p (pos i) ≡ Some q)
    by None e k = absurd (cc k)
    by (Some q) e k = (q, e)

null-moved : (memory : Memory) (i : ℕ) → HasMoved memory null_pointer null_pointer i
null-moved memory i = record { again = λ k. refl; inside = λ k m. m; null = λ e. e; kept = λ e. e }

module _ (s : State) (x : Surroundings) (bits : ℕ) (cells : Span) where
  pub part_pointer-gives : (never_null : Bool) (pointer : ExprTree) (from : Option Rated) (v : CValue) (i : ℕ) → GivesPointer x pointer bits v → SpanStands s x bits cells v
      → (never_null ≡ true → v ≡ null_pointer → ⊥) → IsEnd x from 0 i → i ≤ cells.count → PointsOn x (part_pointer never_null pointer from) bits v i
  part_pointer-gives never_null pointer None v i h stands some f le =
      record { at = v; gives = h; moved = subst (λ i. HasMoved x.memory v v i) f (not-moved x.memory v) }
  part_pointer-gives true pointer (Some from) (address p) i h stands some f le =
      let q = is-moved x.memory p i (stands.inside i le (no-address p)) in
      record { at = address q.0; gives = sum-pointer x pointer from.code bits p q.0 from.ty i h f q.1; moved = pointer-moved x.memory p q.0 i q.1 }
  part_pointer-gives false pointer (Some from) (address p) i h stands some f le =
      let q = is-moved x.memory p i (stands.inside i le (no-address p)) in
      record { at = address q.0; gives = some-choice x pointer from.code bits p q.0 from.ty i h f q.1; moved = pointer-moved x.memory p q.0 i q.1 }
  part_pointer-gives true pointer (Some from) null_pointer i h stands some f le = absurd (some refl refl)
  part_pointer-gives false pointer (Some from) null_pointer i h stands some f le =
      record { at = null_pointer; gives = null-choice x pointer from.code bits from.ty i h f; moved = null-moved x.memory i }
  part_pointer-gives never_null pointer (Some from) (numeric n) i h stands some f le = absurd (stands.inside i le (λ e. absurd (cc e)))
