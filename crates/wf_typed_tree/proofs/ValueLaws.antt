-- The values, conditions, targets and arguments in the body of a method: each stands as a tree that keeps the rules.
use Rattle.std.proofs.Common.{◌≡◌, ℕ, ◌-◌, ◌^◌, Bool, true, false, not, ◌&&◌, Some, refl, sym, subst, nat_eq}
use Rattle.wf_text.specs.declared.place.Place.{Place}
use Rattle.wf_base.specs.declared.widths.Width.{Width}
use Rattle.wf_base.specs.BaseTable.{bits_of}
use Rattle.wf_ast.specs.declared.types.Ty.{Ty}
use Rattle.wf_ast.specs.declared.types.Ty.TheVariants as types
use Rattle.wf_ast.specs.TypedTree.{Path, NumType, NumTree, SliceTree, number, read, element, ValueTree, numeric, logical, state, elements, Target, to_number, to_element, to_flag, to_status, to_slice}
use Rattle.wf_ast.specs.WellTyped.{Context, type_at, is_flag, is_status, is_slice, is_pure, is_whole_number, well_part, well_num, well_cond, well_status, well_slice, slice_of, element_type, fits, may_go_into, fits_type, may_write, takes, well_assigned, takes_bits, is_status_target}
use Rattle.wf_types_rules.specs.declared.meanings.Meaning.{Meaning}
use Rattle.wf_types_rules.specs.declared.meanings.Meaning.TheVariants as meanings
use Rattle.wf_types_rules.specs.Meanings as meant
use Rattle.wf_types_rules.specs.Meanings.{all_of, is_value}
use Rattle.wf_types_rules.specs.Operands.{differs_in}
use Rattle.wf_types_rules.specs.ExprTypes.{element_of}
use Rattle.wf_types_rules.specs.Judgements as judged
use Rattle.wf_typed_tree.specs.MeaningTrees.{HasMeaning}
use Rattle.wf_typed_tree.proofs.NumberLemmas.{both, and-true, same-self, same-bits, in-64}
use Rattle.wf_typed_tree.proofs.OperandLaws.{fits-one, operand-of, condition-of}
use Rattle.wf_typed_tree.proofs.AllOperators.{status-of}

not-false : (b : Bool) → not b ≡ true → b ≡ false
not-false false h = refl
not-false true h = absurd (cc h)

pub not-pure : (b : Bool) → b ≡ false → not b ≡ true
not-pure b h = rw h refl

-- What fits a width may go where numbers of it are wanted.
pub goes-into : (bits : ℕ) (t : NumTree) → fits bits t ≡ true → may_go_into bits t ≡ true
goes-into bits (number at n) h = refl
goes-into bits t h = h

-- A value that a type takes fits it.
pub fits-value : (c : Context) (ty : Ty) (m : Meaning) (t : ValueTree) → judged.takes ty m ≡ true → is_value m ≡ true → HasMeaning c m t → fits_type c ty t ≡ true
fits-value c (types.Num width lo hi) (meanings.Constant own n) t h v k =
    let P : ValueTree → Type 0 = λ u. fits_type c (types.Num width lo hi) u ≡ true in subst P (sym k.is) (in-64 own n k.fits)
fits-value c (types.Num width lo hi) (meanings.Typed ty) t h v k =
    let tests = both (meant.is_number (meanings.Typed ty)) (not (differs_in (Some width) (meant.width_of (meanings.Typed ty)))) h in
    let it = operand-of c width (meanings.Typed ty) t (fits-one width (meanings.Typed ty) tests.0 (not-false (differs_in (Some width) (meant.width_of (meanings.Typed ty))) tests.1) refl) k in
    let P : ValueTree → Type 0 = λ u. fits_type c (types.Num width lo hi) u ≡ true in
    subst P (sym it.is)
    (and-true (may_go_into (bits_of width) it.tree) (well_num c it.tree) (goes-into (bits_of width) it.tree it.fits) (and-true (is_whole_number it.tree) (well_part c it.tree) it.whole it.well))
fits-value c types.Flag m t h v k =
    let it = condition-of c m t h k in let P : ValueTree → Type 0 = λ u. fits_type c types.Flag u ≡ true in subst P (sym it.is) it.well
fits-value c types.Status m t h v k =
    let it = status-of c m t h k in let P : ValueTree → Type 0 = λ u. fits_type c types.Status u ≡ true in subst P (sym it.is) it.well
fits-value c (types.Slice width) (meanings.Typed (types.Slice own)) t h v k =
    let P : ValueTree → Type 0 = λ u. fits_type c (types.Slice width) u ≡ true in
    let E : ℕ → Type 0 = λ b. nat_eq b (bits_of width) ≡ true in
    let same : bits_of own ≡ (element_type k.tree).bits = sym k.width in
    subst P (sym k.is)
    (and-true (well_slice c k.tree) (nat_eq (element_type k.tree).bits (bits_of width)) k.well (subst E same (subst E (same-bits width own h) (same-self (bits_of width)))))
fits-value c types.Reader (meanings.Typed types.Reader) t h v k = absurd (cc v)
fits-value c types.Writer (meanings.Typed types.Writer) t h v k = absurd (cc v)
fits-value c ty m t h v k = absurd (cc h)

-- What a target takes.
pub record Accepts (c : Context) (ty : Ty) (target : Target) : Type 0 where
  pub assigned : (v : ValueTree) → fits_type c ty v ≡ true → well_assigned c target v ≡ true
  pub takes : takes c target ty ≡ true
  pub bits : (width : Width) (lo hi : ℕ) → ty ≡ types.Num width lo hi → takes_bits c target (bits_of width) ≡ true
  pub status : ty ≡ types.Status → is_status_target target ≡ true

pub number-accepts : (c : Context) (at : Place) (width : Width) (lo hi : ℕ) (to : Path) → may_write c.method.mark to ≡ true
    → well_num c (read at (record { bits = bits_of width; low = lo; high = hi }) to) ≡ true
    → Accepts c (types.Num width lo hi) (to_number at (record { bits = bits_of width; low = lo; high = hi }) to)
number-accepts c at width lo hi to may well =
    let of : NumType = record { bits = bits_of width; low = lo; high = hi } in
    record {
      assigned = λ v h. of-value v h;
      takes = and-true (may_write c.method.mark to) _ may (and-true (nat_eq (bits_of width) (bits_of width)) (well_num c (read at of to)) (same-self (bits_of width)) well);
      bits = λ w l k e. let same : width ≡ w = cc e in let P : Width → Type 0 = λ u. takes_bits c (to_number at of to) (bits_of u) ≡ true in
          subst P same (and-true (may_write c.method.mark to) _ may (and-true (nat_eq (bits_of width) (bits_of width)) (well_num c (read at of to)) (same-self (bits_of width)) well));
      status = λ e. absurd (cc e);
    }
  where
    of-value : (v : ValueTree) → fits_type c (types.Num width lo hi) v ≡ true → well_assigned c (to_number at (record { bits = bits_of width; low = lo; high = hi }) to) v ≡ true
    of-value (numeric t) h =
        and-true (may_write c.method.mark to) _ may (and-true (well_num c (read at (record { bits = bits_of width; low = lo; high = hi }) to)) (may_go_into (bits_of width) t && well_num c t) well h)
    of-value v h = absurd (cc h)

pub element-accepts : (c : Context) (at : Place) (width : Width) (lo hi : ℕ) (of : NumType) (cells : SliceTree) (i : NumTree) → not (is_pure c.method.mark) ≡ true → of.bits ≡ bits_of width
    → well_num c (element at of cells i) ≡ true → Accepts c (types.Num width lo hi) (to_element at of cells i)
element-accepts c at width lo hi of cells i may same well =
    let N : ℕ → Type 0 = λ b. nat_eq of.bits b ≡ true in
    let bits_same : nat_eq of.bits (bits_of width) ≡ true = subst N same (same-self of.bits) in
    record {
      assigned = λ v h. of-value v h;
      takes = and-true (not (is_pure c.method.mark)) _ may (and-true (nat_eq of.bits (bits_of width)) (well_num c (element at of cells i)) bits_same well);
      bits = λ w l k e. let eq : width ≡ w = cc e in let P : Width → Type 0 = λ u. takes_bits c (to_element at of cells i) (bits_of u) ≡ true in
          subst P eq (and-true (not (is_pure c.method.mark)) _ may (and-true (nat_eq of.bits (bits_of width)) (well_num c (element at of cells i)) bits_same well));
      status = λ e. absurd (cc e);
    }
  where
    of-value : (v : ValueTree) → fits_type c (types.Num width lo hi) v ≡ true → well_assigned c (to_element at of cells i) v ≡ true
    of-value (numeric t) h =
        let F : ℕ → Type 0 = λ b. (may_go_into b t && well_num c t) ≡ true in
        and-true (not (is_pure c.method.mark)) _ may (and-true (well_num c (element at of cells i)) (may_go_into of.bits t && well_num c t) well (subst F (sym same) h))
    of-value v h = absurd (cc h)

pub flag-accepts : (c : Context) (at : Place) (to : Path) → may_write c.method.mark to ≡ true → is_flag (type_at c to) ≡ true → Accepts c types.Flag (to_flag at to)
flag-accepts c at to may of =
    record { assigned = λ v h. of-value v h; takes = and-true (may_write c.method.mark to) (is_flag (type_at c to)) may of; bits = λ w l k e. absurd (cc e); status = λ e. absurd (cc e) }
  where
    of-value : (v : ValueTree) → fits_type c types.Flag v ≡ true → well_assigned c (to_flag at to) v ≡ true
    of-value (logical t) h = and-true (may_write c.method.mark to) _ may (and-true (is_flag (type_at c to)) (well_cond c t) of h)
    of-value v h = absurd (cc h)

pub status-accepts : (c : Context) (at : Place) (to : Path) → may_write c.method.mark to ≡ true → is_status (type_at c to) ≡ true → Accepts c types.Status (to_status at to)
status-accepts c at to may of =
    record { assigned = λ v h. of-value v h; takes = and-true (may_write c.method.mark to) (is_status (type_at c to)) may of; bits = λ w l k e. absurd (cc e); status = λ e. refl }
  where
    of-value : (v : ValueTree) → fits_type c types.Status v ≡ true → well_assigned c (to_status at to) v ≡ true
    of-value (state t) h = and-true (may_write c.method.mark to) _ may (and-true (is_status (type_at c to)) (well_status c t) of h)
    of-value v h = absurd (cc h)

pub slice-accepts : (c : Context) (at : Place) (width : Width) (to : Path) → may_write c.method.mark to ≡ true → is_slice (bits_of width) (type_at c to) ≡ true
    → Accepts c (types.Slice width) (to_slice at (bits_of width) to)
slice-accepts c at width to may of =
    record {
      assigned = λ v h. of-value v h;
      takes = and-true (may_write c.method.mark to) _ may (and-true (nat_eq (bits_of width) (bits_of width)) (is_slice (bits_of width) (type_at c to)) (same-self (bits_of width)) of);
      bits = λ w l k e. absurd (cc e);
      status = λ e. absurd (cc e);
    }
  where
    of-value : (v : ValueTree) → fits_type c (types.Slice width) v ≡ true → well_assigned c (to_slice at (bits_of width) to) v ≡ true
    of-value (elements t) h = and-true (may_write c.method.mark to) _ may (and-true (is_slice (bits_of width) (type_at c to)) (slice_of c (bits_of width) t) of h)
    of-value v h = absurd (cc h)

pub element-num : (m : Meaning) (ty : Ty) → element_of m ≡ Some ty → (width : Width) × (lo : ℕ) × (hi : ℕ) × (ty ≡ types.Num width lo hi)
element-num (meanings.Typed (types.Array width lo hi count)) ty h = let same : types.Num width lo hi ≡ ty = cc h in (width, lo, hi, sym same)
element-num (meanings.Typed (types.Slice width)) ty h = let same : all_of width ≡ ty = cc h in (width, 0, 2 ^ bits_of width - 1, sym same)
element-num m ty h = absurd (cc h)
