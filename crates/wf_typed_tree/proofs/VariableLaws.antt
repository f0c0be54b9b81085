-- The tree of a variable, of an element, of a slice and of what a base method answers is one of what it means.
use Rattle.std.proofs.Common.{◌≡◌, ℕ, ◌-◌, ◌^◌, Bool, true, false, ◌&&◌, Option, Some, None, refl, sym, ap, ◌∙◌, subst, nat_eq}
use Rattle.std.specs.Prelude.{if◌then◌else◌}
use Rattle.wf_text.specs.declared.place.Place.{Place}
use Rattle.wf_text.specs.declared.categories.Category.{Category}
use Rattle.wf_text.specs.declared.categories.Category.TheVariants.{Fine, Note, Suspension, Fault}
use Rattle.wf_base.specs.declared.marks.Mark.{Mark}
use Rattle.wf_base.specs.declared.widths.Width.{Width}
use Rattle.wf_base.specs.declared.widths.Width.TheVariants.{W64}
use Rattle.wf_base.specs.declared.base_methods.Kind.TheVariants as kinds
use Rattle.wf_base.specs.declared.base_methods.BaseSig.{BaseSig}
use Rattle.wf_base.specs.declared.base_methods.BaseSig.TheVariants as sigs
use Rattle.wf_base.specs.BaseTable.{bits_of, row_of, peek_width}
use Rattle.wf_ast.specs.declared.types.Ty.{Ty}
use Rattle.wf_ast.specs.declared.types.Ty.TheVariants as types
use Rattle.wf_ast.specs.TypedTree.{Path, arg, NumType, Question, reader_length, reader_position, peek, writer_length, writer_position, read, element, length_of, asked, SliceTree, slice, cut, EndTree, held, flag, closed, has_category, ValueTree, numeric, logical, elements}
use Rattle.wf_ast.specs.TypedTrees.{num_in, slice_in, io_in, status_in, named, num_type, answer_of}
use Rattle.wf_ast.specs.WellTyped.{Context, type_at, is_range, same_num_type, is_unrefined, is_number, is_array, is_slice, is_flag, is_status, is_reader, question_width, may_ask, element_type, is_whole_number, well_part, well_slice, well_end, is_pure}
use Rattle.wf_named.specs.declared.nodes.NamedPath.{NamedPath}
use Rattle.wf_named.specs.declared.nodes.Variable.{Variable}
use Rattle.wf_named.specs.WellNamed.{NamedScope, has_kind}
use Rattle.wf_types_rules.specs.declared.meanings.Meaning.{Meaning}
use Rattle.wf_types_rules.specs.declared.meanings.Meaning.TheVariants as meanings
use Rattle.wf_types_rules.specs.declared.settings.Setting.{Setting}
use Rattle.wf_types_rules.specs.Meanings.{all_of, variable, is_value}
use Rattle.wf_types_rules.specs.ExprTypes as told
use Rattle.wf_types_rules.specs.ExprTypes.{element_of, pure_answer}
use Rattle.wf_typed_tree.specs.ElaboratedExprs.{path_to, variable_tree, type_meant}
use Rattle.wf_typed_tree.specs.MeaningTrees.{IsStatus, HasMeaning, kind_meant, Agree}
use Rattle.wf_typed_tree.proofs.NumberLemmas.{and-true, same-self, where-parts, same-type, IsWhole}
use Rattle.wf_typed_tree.proofs.AllOperators.{status-well, whole-tree}

-- An array or a slice whose elements have a type.
pub record IsCells (c : Context) (ty : Ty) (cells : SliceTree) : Type 0 where
  pub width : Width
  pub low : ℕ
  pub high : ℕ
  pub is : ty ≡ types.Num width low high
  pub elements : element_type cells ≡ record { bits = bits_of width; low = low; high = high }
  pub well : well_slice c cells ≡ true

-- What gives slices.
pub record IsWide (c : Context) (ty : Ty) (cells : SliceTree) : Type 0 where
  pub width : Width
  pub is : ty ≡ types.Slice width
  pub bits : (element_type cells).bits ≡ bits_of width
  pub unrefined : is_unrefined (element_type cells) ≡ true
  pub well : well_slice c cells ≡ true

pub element-means : (c : Context) (at : Place) (ty : Ty) (m : Meaning) (cells : SliceTree) (t : ValueTree) → IsCells c ty cells → IsWhole c t → meanings.Typed ty ≡ m
    → HasMeaning c m (numeric (element at (num_type (type_meant (Some m))) cells (num_in t)))
element-means c at ty m cells t base index is =
    let of : NumType = record { bits = bits_of base.width; low = base.low; high = base.high } in
    let number : meanings.Typed (types.Num base.width base.low base.high) ≡ m = ap meanings.Typed (sym base.is) ∙ is in
    let i = whole-tree c t index in
    let P : Meaning → Type 0 = λ n. HasMeaning c n (numeric (element at (num_type (type_meant (Some n))) cells (num_in t))) in
    let E : NumType → Type 0 = λ e. same_num_type of e ≡ true in
    subst P number
    (record {
      tree = element at of cells (num_in t);
      is = refl;
      width = refl;
      varies = refl;
      well = and-true (same_num_type of (element_type cells)) _ (subst E (sym base.elements) (same-type of))
          (and-true (well_slice c cells) _ base.well (and-true (is_whole_number (num_in t)) (well_part c (num_in t)) i.0 i.1));
    })

pub cut-means : (c : Context) (at : Place) (ty : Ty) (m : Meaning) (cells : SliceTree) (from to : EndTree) → IsWide c ty cells → well_end c from ≡ true → well_end c to ≡ true
    → meanings.Typed ty ≡ m → HasMeaning c m (elements (cut at cells from to))
cut-means c at ty m cells from to base f g is =
    let P : Meaning → Type 0 = λ n. HasMeaning c n (elements (cut at cells from to)) in
    let slices : meanings.Typed (types.Slice base.width) ≡ m = ap meanings.Typed (sym base.is) ∙ is in
    subst P slices
    (record {
      tree = cut at cells from to;
      is = refl;
      width = base.bits;
      well = and-true (is_unrefined (element_type cells)) _ base.unrefined (and-true (well_slice c cells) _ base.well (and-true (well_end c from) (well_end c to) f g));
    })

-- What is chosen by a test.
chosen : {X : Type 0} (test : Bool) (x : Option X) (y : X) → (if test then x else None) ≡ Some y → x ≡ Some y
chosen true x y h = h
chosen false x y h = absurd (cc h)

-- Which meanings have a kind.
pub reader-meant : (m : Meaning) → has_kind kinds.Reader (kind_meant m) ≡ true → m ≡ meanings.Typed types.Reader
reader-meant (meanings.Typed types.Reader) h = refl
reader-meant m h = absurd (cc h)

pub writer-meant : (m : Meaning) → has_kind kinds.Writer (kind_meant m) ≡ true → m ≡ meanings.Typed types.Writer
writer-meant (meanings.Typed types.Writer) h = refl
writer-meant m h = absurd (cc h)

status-meant : (m : Meaning) → has_kind kinds.Status (kind_meant m) ≡ true → m ≡ meanings.Typed types.Status
status-meant (meanings.Typed types.Status) h = refl
status-meant m h = absurd (cc h)

slice-meant : (width : Width) (m : Meaning) → has_kind (kinds.Slice width) (kind_meant m) ≡ true → (own : Width) × (m ≡ meanings.Typed (types.Slice own))
slice-meant width (meanings.Typed (types.Slice own)) h = (own, refl)
slice-meant width m h = absurd (cc h)

array-meant : (width : Width) (m : Meaning) → has_kind (kinds.Array width) (kind_meant m) ≡ true → (ty : Ty) × (element_of m ≡ Some ty)
array-meant width (meanings.Typed (types.Array own lo hi count)) h = (types.Num own lo hi, refl)
array-meant width m h = absurd (cc h)

module _ (names : NamedScope) (s : Setting) (c : Context) (agree : Agree names s c) where
  pub variable-means : (at : Place) (x : Variable) (m : Meaning) → variable s x ≡ Some m → is_value m ≡ true → HasMeaning c m (variable_tree at x (Some m))
  variable-means at x (meanings.Constant width n) h v = record { at = at; is = refl; fits = agree.constant x width n h }
  variable-means at x (meanings.Typed (types.Num width lo hi)) h v =
      let of : NumType = record { bits = bits_of width; low = lo; high = hi } in
      let P : Option Ty → Type 0 = λ ty. is_number of ty ≡ true in
      record {
        tree = read at of (path_to x);
        is = refl;
        width = refl;
        varies = refl;
        well = and-true (is_range of) (is_number of (type_at c (path_to x))) (agree.sound x (types.Num width lo hi) h) (subst P (sym (agree.declared x (types.Num width lo hi) h)) (same-type of));
      }
  variable-means at x (meanings.Typed types.Flag) h v =
      let P : Option Ty → Type 0 = λ ty. is_flag ty ≡ true in
      record { tree = flag at (path_to x); is = refl; well = subst P (sym (agree.declared x types.Flag h)) refl }
  variable-means at x (meanings.Typed types.Status) h v =
      let P : Option Ty → Type 0 = λ ty. is_status ty ≡ true in
      record { tree = held at (path_to x); is = refl; well = subst P (sym (agree.declared x types.Status h)) refl }
  variable-means at x (meanings.Typed (types.Slice width)) h v =
      let P : Option Ty → Type 0 = λ ty. is_slice (bits_of width) ty ≡ true in
      record { tree = slice at (bits_of width) (path_to x); is = refl; width = refl; well = subst P (sym (agree.declared x (types.Slice width) h)) (same-self (bits_of width)) }
  variable-means at x m h v = absurd (cc v)

  -- An array in its field, and a slice.
  array-well : (at : Place) (x : Variable) (width : Width) (lo hi count : ℕ) → variable s x ≡ Some (meanings.Typed (types.Array width lo hi count))
      → well_slice c (slice_in (variable_tree at x (Some (meanings.Typed (types.Array width lo hi count))))) ≡ true
  array-well at x width lo hi count h =
      let of : NumType = record { bits = bits_of width; low = lo; high = hi } in
      let P : Option Ty → Type 0 = λ ty. is_array of count ty ≡ true in
      and-true (is_range of) (is_array of count (type_at c (path_to x))) (agree.sound x (types.Array width lo hi count) h)
      (subst P (sym (agree.declared x (types.Array width lo hi count) h)) (and-true (nat_eq count count) (same_num_type of of) (same-self count) (same-type of)))

  pub slice-well : (at : Place) (x : Variable) (width : Width) → variable s x ≡ Some (meanings.Typed (types.Slice width))
      → well_slice c (slice_in (variable_tree at x (Some (meanings.Typed (types.Slice width))))) ≡ true
  slice-well at x width h =
      let P : Option Ty → Type 0 = λ ty. is_slice (bits_of width) ty ≡ true in subst P (sym (agree.declared x (types.Slice width) h)) (same-self (bits_of width))

  pub cells-of : (at : Place) (x : Variable) (m : Meaning) (ty : Ty) → variable s x ≡ Some m → element_of m ≡ Some ty → IsCells c ty (slice_in (variable_tree at x (Some m)))
  cells-of at x (meanings.Typed (types.Array width lo hi count)) ty h e =
      record { width = width; low = lo; high = hi; is = let same : types.Num width lo hi ≡ ty = cc e in sym same; elements = refl; well = array-well at x width lo hi count h }
  cells-of at x (meanings.Typed (types.Slice width)) ty h e =
      record { width = width; low = 0; high = 2 ^ bits_of width - 1; is = let same : all_of width ≡ ty = cc e in sym same; elements = refl; well = slice-well at x width h }
  cells-of at x m ty h e = absurd (cc e)

  pub wide-of : (at : Place) (x : Variable) (m : Meaning) (ty : Ty) → variable s x ≡ Some m → told.slice_in m ≡ Some ty → IsWide c ty (slice_in (variable_tree at x (Some m)))
  wide-of at x (meanings.Typed (types.Array width lo hi count)) ty h e =
      let p = where-parts (nat_eq lo 0 && nat_eq hi (2 ^ bits_of width - 1)) (types.Slice width) ty e in
      record { width = width; is = sym p.1; bits = refl; unrefined = p.0; well = array-well at x width lo hi count h }
  wide-of at x (meanings.Typed (types.Slice width)) ty h e =
      record {
        width = width;
        is = let same : types.Slice width ≡ ty = cc e in sym same;
        bits = refl;
        unrefined = same-self (2 ^ bits_of width - 1);
        well = slice-well at x width h;
      }
  wide-of at x m ty h e = absurd (cc e)

  -- A reader or writer by its argument.
  pub reader-arg : (at : Place) (x : Variable) → variable s x ≡ Some (meanings.Typed types.Reader)
      → type_at c (arg (io_in (variable_tree at x (Some (meanings.Typed types.Reader))))) ≡ Some types.Reader
  reader-arg at x h =
      let it = agree.sound x types.Reader h in
      let P : Path → Type 0 = λ path. type_at c (arg (io_in (named at types.Reader path))) ≡ Some types.Reader in
      let Q : Path → Type 0 = λ path. type_at c path ≡ Some types.Reader in
      subst P (sym it.1) (subst Q it.1 (agree.declared x types.Reader h))

  pub writer-arg : (at : Place) (x : Variable) → variable s x ≡ Some (meanings.Typed types.Writer)
      → type_at c (arg (io_in (variable_tree at x (Some (meanings.Typed types.Writer))))) ≡ Some types.Writer
  writer-arg at x h =
      let it = agree.sound x types.Writer h in
      let P : Path → Type 0 = λ path. type_at c (arg (io_in (named at types.Writer path))) ≡ Some types.Writer in
      let Q : Path → Type 0 = λ path. type_at c path ≡ Some types.Writer in
      subst P (sym it.1) (subst Q it.1 (agree.declared x types.Writer h))

  asked-means : (at : Place) (q : Question) (width : Width) (m : Meaning) (a : ℕ) (ty : Ty) → question_width q ≡ bits_of width → may_ask q (Some ty) ≡ true
      → type_at c (arg a) ≡ Some ty → meanings.Typed (all_of width) ≡ m → HasMeaning c m (numeric (asked at q a))
  asked-means at q width m a ty w may h is =
      let P : Meaning → Type 0 = λ n. HasMeaning c n (numeric (asked at q a)) in
      let M : Option Ty → Type 0 = λ of. may_ask q of ≡ true in
      subst P is (record { tree = asked at q a; is = refl; width = ap Some w; varies = refl; well = subst M (sym h) may })

  length-means : (at : Place) (m : Meaning) (cells : SliceTree) → well_slice c cells ≡ true → meanings.Typed (all_of W64) ≡ m → HasMeaning c m (numeric (length_of at cells))
  length-means at m cells h is =
      let P : Meaning → Type 0 = λ n. HasMeaning c n (numeric (length_of at cells)) in
      subst P is (record { tree = length_of at cells; is = refl; width = refl; varies = refl; well = h })

  category-means : (at : Place) (m : Meaning) (t : ValueTree) (category : Category) → IsStatus c t → meanings.Typed types.Flag ≡ m
      → HasMeaning c m (logical (has_category at (status_in t) category))
  category-means at m t category h is =
      let P : Meaning → Type 0 = λ n. HasMeaning c n (logical (has_category at (status_in t) category)) in
      subst P is (record { tree = has_category at (status_in t) category; is = refl; well = status-well c t h })

  module _ (at : Place) (on : NamedPath) (mark : Mark) (m : Meaning) where
    abbrev Answers : BaseSig → Meaning → Type 0
    Answers sig of = HasMeaning c m (answer_of at sig (variable_tree on.at on.of (Some of)))

    -- What a base method answers means what its row gives.
    reader-asked : (sig : BaseSig) (q : Question) (width : Width) (of : Meaning) → variable s on.of ≡ Some of → of ≡ meanings.Typed types.Reader
        → question_width q ≡ bits_of width → may_ask q (Some types.Reader) ≡ true → meanings.Typed (all_of width) ≡ m
        → HasMeaning c m (numeric (asked at q (io_in (variable_tree on.at on.of (Some of)))))
    reader-asked sig q width of h e w may is =
        let P : Meaning → Type 0 = λ n. HasMeaning c m (numeric (asked at q (io_in (variable_tree on.at on.of (Some n))))) in
        subst P (sym e) (asked-means at q width m _ types.Reader w may (reader-arg on.at on.of (h ∙ ap Some e)) is)

    writer-asked : (sig : BaseSig) (q : Question) (width : Width) (of : Meaning) → variable s on.of ≡ Some of → of ≡ meanings.Typed types.Writer
        → question_width q ≡ bits_of width → may_ask q (Some types.Writer) ≡ true → meanings.Typed (all_of width) ≡ m
        → HasMeaning c m (numeric (asked at q (io_in (variable_tree on.at on.of (Some of)))))
    writer-asked sig q width of h e w may is =
        let P : Meaning → Type 0 = λ n. HasMeaning c m (numeric (asked at q (io_in (variable_tree on.at on.of (Some n))))) in
        subst P (sym e) (asked-means at q width m _ types.Writer w may (writer-arg on.at on.of (h ∙ ap Some e)) is)

    status-asked : (category : Category) (of : Meaning) → variable s on.of ≡ Some of → of ≡ meanings.Typed types.Status → meanings.Typed types.Flag ≡ m
        → HasMeaning c m (logical (has_category at (status_in (variable_tree on.at on.of (Some of))) category))
    status-asked category of h e is =
        let P : Meaning → Type 0 = λ n. HasMeaning c m (logical (has_category at (status_in (variable_tree on.at on.of (Some n))) category)) in
        subst P (sym e) (category-means at m (variable_tree on.at on.of (Some (meanings.Typed types.Status))) category (variable-means on.at on.of (meanings.Typed types.Status) (h ∙ ap Some e) refl) is)

    pub answer-means : (sig : BaseSig) (of : Meaning) → variable s on.of ≡ Some of → has_kind (row_of sig).on (kind_meant of) ≡ true → pure_answer sig mark of ≡ Some m → Answers sig of
    answer-means sigs.ReaderLength of h k g = reader-asked sigs.ReaderLength reader_length W64 of h (reader-meant of k) refl refl (let e = chosen (is_pure mark) (Some (meanings.Typed (all_of W64))) m g in cc e)
    answer-means sigs.ReaderPosition of h k g = reader-asked sigs.ReaderPosition reader_position W64 of h (reader-meant of k) refl refl (let e = chosen (is_pure mark) (Some (meanings.Typed (all_of W64))) m g in cc e)
    answer-means (sigs.Peek form) of h k g = reader-asked (sigs.Peek form) (peek form) (peek_width form) of h (reader-meant of k) refl refl (let e = chosen (is_pure mark) (Some (meanings.Typed (all_of (peek_width form)))) m g in cc e)
    answer-means sigs.WriterLength of h k g = writer-asked sigs.WriterLength writer_length W64 of h (writer-meant of k) refl refl (let e = chosen (is_pure mark) (Some (meanings.Typed (all_of W64))) m g in cc e)
    answer-means sigs.WriterPosition of h k g = writer-asked sigs.WriterPosition writer_position W64 of h (writer-meant of k) refl refl (let e = chosen (is_pure mark) (Some (meanings.Typed (all_of W64))) m g in cc e)
    answer-means sigs.ReaderIsClosed of h k g =
        let e = reader-meant of k in
        let is : meanings.Typed types.Flag ≡ m = let f = chosen (is_pure mark) (Some (meanings.Typed types.Flag)) m g in cc f in
        let P : Meaning → Type 0 = Answers sigs.ReaderIsClosed in
        let R : Option Ty → Type 0 = λ ty. is_reader ty ≡ true in
        let Q : Meaning → Type 0 = λ n. HasMeaning c n (answer_of at sigs.ReaderIsClosed (variable_tree on.at on.of (Some (meanings.Typed types.Reader)))) in
        subst P (sym e)
        (subst Q is
        (record {
          tree = closed at (io_in (variable_tree on.at on.of (Some (meanings.Typed types.Reader))));
          is = refl;
          well = subst R (sym (reader-arg on.at on.of (h ∙ ap Some e))) refl;
        }))
    answer-means (sigs.SliceLength width) of h k g =
        let it = slice-meant width of k in
        let P : Meaning → Type 0 = Answers (sigs.SliceLength width) in
        subst P (sym it.1) (length-means at m _ (slice-well on.at on.of it.0 (h ∙ ap Some it.1)) (let e = chosen (is_pure mark) (Some (meanings.Typed (all_of W64))) m g in cc e))
    answer-means (sigs.ArrayLength width) of h k g =
        let it = array-meant width of k in
        length-means at m _ (cells-of on.at on.of of it.0 h it.1).well (let e = chosen (is_pure mark) (Some (meanings.Typed (all_of W64))) m g in cc e)
    answer-means sigs.IsOk of h k g = status-asked Fine of h (status-meant of k) (let e = chosen (is_pure mark) (Some (meanings.Typed types.Flag)) m g in cc e)
    answer-means sigs.IsNote of h k g = status-asked Note of h (status-meant of k) (let e = chosen (is_pure mark) (Some (meanings.Typed types.Flag)) m g in cc e)
    answer-means sigs.IsSuspension of h k g = status-asked Suspension of h (status-meant of k) (let e = chosen (is_pure mark) (Some (meanings.Typed types.Flag)) m g in cc e)
    answer-means sigs.IsError of h k g = status-asked Fault of h (status-meant of k) (let e = chosen (is_pure mark) (Some (meanings.Typed types.Flag)) m g in cc e)
    answer-means sig of h k g = absurd (cc g)
