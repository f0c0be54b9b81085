-- Calls of base methods, as statements: those that suspend and those that write.
use Rattle.std.proofs.Common.{◌≡◌, ℕ, true, not, ◌&&◌, List, [], ◌∷◌, Option, Some, refl, sym, ap, ◌∙◌, subst}
use Rattle.std.specs.Bool.{⊤}
use Rattle.wf_text.specs.declared.place.Place.{Place}
use Rattle.wf_base.specs.declared.marks.Mark.{Mark}
use Rattle.wf_base.specs.declared.marks.Mark.TheVariants.{Pure, Impure, Coroutine}
use Rattle.wf_base.specs.declared.widths.Width.{Width}
use Rattle.wf_base.specs.declared.widths.Width.TheVariants.{W8, W32}
use Rattle.wf_base.specs.declared.base_methods.ArgTy.{ArgTy}
use Rattle.wf_base.specs.declared.base_methods.Kind.{Kind}
use Rattle.wf_base.specs.declared.base_methods.Kind.TheVariants as kinds
use Rattle.wf_base.specs.declared.base_methods.Gives.{Gives}
use Rattle.wf_base.specs.declared.base_methods.Gives.TheVariants as gives
use Rattle.wf_base.specs.declared.base_methods.BaseSig.{BaseSig}
use Rattle.wf_base.specs.declared.base_methods.BaseSig.TheVariants as sigs
use Rattle.wf_base.specs.BaseTable.{bits_of, row_of, read_width}
use Rattle.wf_base.specs.Effects.{allows}
use Rattle.wf_ast.specs.declared.types.Ty.{Ty}
use Rattle.wf_ast.specs.declared.types.Ty.TheVariants as types
use Rattle.wf_ast.specs.TypedTree.{arg, ValueTree, numeric, elements, Target}
use Rattle.wf_ast.specs.TypedTrees.{num_in, slice_in, io_in, base_call}
use Rattle.wf_ast.specs.WellTyped.{Context, type_at, is_reader, is_writer, is_pure, is_coroutine, has_none, takes_bits, may_go_into, well_num, well_slice, slice_of, element_type, fits_type, well_simple}
use Rattle.wf_named.specs.declared.nodes.Variable.{Variable}
use Rattle.wf_named.specs.WellNamed.{NamedScope, has_kind}
use Rattle.wf_types_rules.specs.declared.meanings.Meaning.{Meaning}
use Rattle.wf_types_rules.specs.declared.meanings.Meaning.TheVariants as meanings
use Rattle.wf_types_rules.specs.declared.settings.Setting.{Setting}
use Rattle.wf_types_rules.specs.Meanings.{all_of, variable}
use Rattle.wf_types_rules.specs.Judgements.{base_arg}
use Rattle.wf_typed_tree.specs.ElaboratedExprs.{variable_tree}
use Rattle.wf_typed_tree.specs.MeaningTrees.{kind_meant, Agree}
use Rattle.wf_typed_tree.proofs.NumberLemmas.{and-true, equal-numbers}
use Rattle.wf_typed_tree.proofs.VariableLaws.{reader-arg, writer-arg, slice-well, reader-meant, writer-meant}

-- What a base method is called on.
abbrev pub OnKind : Context → Kind → ValueTree → Type 0
OnKind c kinds.Reader on = is_reader (type_at c (arg (io_in on))) ≡ true
OnKind c kinds.Writer on = is_writer (type_at c (arg (io_in on))) ≡ true
OnKind c (kinds.Slice width) on = (well_slice c (slice_in on) ≡ true) × ((element_type (slice_in on)).bits ≡ bits_of width)
OnKind c kind on = ⊤

pub on-kind : (names : NamedScope) (s : Setting) (c : Context) → Agree names s c → (at : Place) (x : Variable) (kind : Kind) (of : Meaning) → variable s x ≡ Some of
    → has_kind kind (kind_meant of) ≡ true → OnKind c kind (variable_tree at x (Some of))
on-kind names s c agree at x kinds.Reader of h k =
    let e = reader-meant of k in
    let P : Meaning → Type 0 = λ z. OnKind c kinds.Reader (variable_tree at x (Some z)) in
    let R : Option Ty → Type 0 = λ o. is_reader o ≡ true in
    subst P (sym e) (subst R (sym (reader-arg names s c agree at x (h ∙ ap Some e))) refl)
on-kind names s c agree at x kinds.Writer of h k =
    let e = writer-meant of k in
    let P : Meaning → Type 0 = λ z. OnKind c kinds.Writer (variable_tree at x (Some z)) in
    let R : Option Ty → Type 0 = λ o. is_writer o ≡ true in
    subst P (sym e) (subst R (sym (writer-arg names s c agree at x (h ∙ ap Some e))) refl)
on-kind names s c agree at x (kinds.Slice width) (meanings.Typed (types.Slice own)) h k = (slice-well names s c agree at x own h, sym (equal-numbers (bits_of width) (bits_of own) k))
on-kind names s c agree at x (kinds.Slice width) of h k = absurd (cc k)
on-kind names s c agree at x kinds.Status of h k = tt
on-kind names s c agree at x (kinds.Array width) of h k = tt

-- Arguments that fit those of a row.
abbrev pub FitArgs : Context → Kind → List (List ℕ × ArgTy) → List ValueTree → Type 0
FitArgs c kind [] [] = ⊤
FitArgs c kind (a ∷ rest) (t ∷ ts) = (fits_type c (base_arg kind a.1) t ≡ true) × FitArgs c kind rest ts
FitArgs c kind rest ts = ⊥

-- Where what a row gives goes.
abbrev pub Goes : Context → Target → Gives → Type 0
Goes c target gives.Nothing = has_none target ≡ true
Goes c target (gives.Num width) = takes_bits c target (bits_of width) ≡ true
Goes c target gives.Flag = ⊤

number-arg : (c : Context) (width : Width) (t : ValueTree) → fits_type c (all_of width) t ≡ true → (may_go_into (bits_of width) (num_in t) && well_num c (num_in t)) ≡ true
number-arg c width (numeric t) h = h
number-arg c width t h = absurd (cc h)

slice-arg : (c : Context) (width : Width) (t : ValueTree) → fits_type c (types.Slice width) t ≡ true → slice_of c (bits_of width) (slice_in t) ≡ true
slice-arg c width (elements t) h = h
slice-arg c width t h = absurd (cc h)

suspends : (outer : Mark) → allows outer Coroutine ≡ true → is_coroutine outer ≡ true
suspends Coroutine h = refl
suspends Pure h = absurd (cc h)
suspends Impure h = absurd (cc h)

writes : (outer : Mark) → allows outer Impure ≡ true → not (is_pure outer) ≡ true
writes Coroutine h = refl
writes Pure h = absurd (cc h)
writes Impure h = refl

pub base-keeps : (c : Context) (loops : List ℕ) (at : Place) (target : Target) (on : ValueTree) (sig : BaseSig) (args : List ValueTree) → not (is_pure (row_of sig).mark) ≡ true
    → allows c.method.mark (row_of sig).mark ≡ true → OnKind c (row_of sig).on on → Goes c target (row_of sig).gives → FitArgs c (row_of sig).on (row_of sig).args args
    → well_simple c loops (base_call at target on sig args) ≡ true
base-keeps c loops at target on (sigs.Read form) [] pure may of to fit =
    and-true (is_coroutine c.method.mark) _ (suspends c.method.mark may) (and-true (is_reader (type_at c (arg (io_in on)))) (takes_bits c target (bits_of (read_width form))) of to)
base-keeps c loops at target on sigs.Skip (t ∷ []) pure may of to fit =
    and-true (is_coroutine c.method.mark) _ (suspends c.method.mark may)
    (and-true (is_reader (type_at c (arg (io_in on)))) _ of (and-true (has_none target) (may_go_into 32 (num_in t) && well_num c (num_in t)) to (number-arg c W32 t fit.0)))
base-keeps c loops at target on sigs.Write (t ∷ []) pure may of to fit =
    and-true (is_coroutine c.method.mark) _ (suspends c.method.mark may)
    (and-true (is_writer (type_at c (arg (io_in on)))) _ of (and-true (has_none target) (may_go_into 8 (num_in t) && well_num c (num_in t)) to (number-arg c W8 t fit.0)))
base-keeps c loops at target on sigs.SkipFast (t ∷ u ∷ []) pure may of to fit =
    and-true (not (is_pure c.method.mark)) _ (writes c.method.mark may)
    (and-true (is_reader (type_at c (arg (io_in on)))) _ of
    (and-true (has_none target) _ to
    (and-true (may_go_into 32 (num_in t) && well_num c (num_in t)) (may_go_into 32 (num_in u) && well_num c (num_in u)) (number-arg c W32 t fit.0) (number-arg c W32 u fit.1.0))))
base-keeps c loops at target on sigs.WriteFast (t ∷ []) pure may of to fit =
    and-true (not (is_pure c.method.mark)) _ (writes c.method.mark may)
    (and-true (is_writer (type_at c (arg (io_in on)))) _ of (and-true (has_none target) (may_go_into 8 (num_in t) && well_num c (num_in t)) to (number-arg c W8 t fit.0)))
base-keeps c loops at target on sigs.WriterCopy (t ∷ []) pure may of to fit =
    and-true (not (is_pure c.method.mark)) _ (writes c.method.mark may)
    (and-true (is_writer (type_at c (arg (io_in on)))) _ of (and-true (takes_bits c target 64) (slice_of c 8 (slice_in t)) to (slice-arg c W8 t fit.0)))
base-keeps c loops at target on (sigs.SliceCopy width) (t ∷ []) pure may of to fit =
    let S : ℕ → Type 0 = λ bits. slice_of c bits (slice_in t) ≡ true in
    and-true (not (is_pure c.method.mark)) _ (writes c.method.mark may)
    (and-true (takes_bits c target 64) _ to (and-true (well_slice c (slice_in on)) (slice_of c (element_type (slice_in on)).bits (slice_in t)) of.0 (subst S (sym of.1) (slice-arg c width t fit.0))))
base-keeps c loops at target on (sigs.Read form) (t ∷ ts) pure may of to fit = absurd fit
base-keeps c loops at target on sigs.Skip [] pure may of to fit = absurd fit
base-keeps c loops at target on sigs.Skip (t ∷ u ∷ ts) pure may of to fit = absurd fit.1
base-keeps c loops at target on sigs.Write [] pure may of to fit = absurd fit
base-keeps c loops at target on sigs.Write (t ∷ u ∷ ts) pure may of to fit = absurd fit.1
base-keeps c loops at target on sigs.SkipFast [] pure may of to fit = absurd fit
base-keeps c loops at target on sigs.SkipFast (t ∷ []) pure may of to fit = absurd fit.1
base-keeps c loops at target on sigs.SkipFast (t ∷ u ∷ v ∷ ts) pure may of to fit = absurd fit.1.1
base-keeps c loops at target on sigs.WriteFast [] pure may of to fit = absurd fit
base-keeps c loops at target on sigs.WriteFast (t ∷ u ∷ ts) pure may of to fit = absurd fit.1
base-keeps c loops at target on sigs.WriterCopy [] pure may of to fit = absurd fit
base-keeps c loops at target on sigs.WriterCopy (t ∷ u ∷ ts) pure may of to fit = absurd fit.1
base-keeps c loops at target on (sigs.SliceCopy width) [] pure may of to fit = absurd fit
base-keeps c loops at target on (sigs.SliceCopy width) (t ∷ u ∷ ts) pure may of to fit = absurd fit.1
base-keeps c loops at target on sig args pure may of to fit = absurd (cc pure)
