-- A resolved type has the base methods, or is the struct, that the parsed type's sort tells of.
use Rattle.std.proofs.Common.{◌≡◌, ℕ, Bool, true, false, if◌then◌else◌, List, Option, Some, None, option_map, codes, refl, ap, ◌∙◌}
use Rattle.std.specs.Str.{bytes_eq}
use Rattle.std.proofs.lemmas.Slice.Eq.{bytes_eq-Decides}
use Rattle.wf_text.specs.declared.place.Place.{Place}
use Rattle.wf_base.specs.declared.widths.Width.{Width}
use Rattle.wf_base.specs.declared.base_methods.Kind.{Kind}
use Rattle.wf_base.specs.declared.base_methods.Kind.TheVariants as kinds
use Rattle.wf_base.specs.BaseTable.{bits_of}
use Rattle.wf_ast.specs.declared.numbers.TextId.{TextId}
use Rattle.wf_ast.specs.declared.parsed.Name.{Name}
use Rattle.wf_ast.specs.ParsedTree as tree
use Rattle.wf_ast.specs.ParsedTree.{TypeTree}
use Rattle.wf_named.specs.declared.nodes.BaseType.TheVariants as bases
use Rattle.wf_named.specs.NamedTree.{NamedBoundsTree, base_type}
use Rattle.wf_named.specs.WellNamed.{width_in, kind_of, is_io, same_kind}
use Rattle.wf_names_rules.specs.declared.sorts.Sort.TheVariants as sorts
use Rattle.wf_names_rules.specs.Meanings.{width_named, width_of, slice_sort, array_sort, sort_of}
use Rattle.wf_names_rules.specs.Meanings as meanings
use Rattle.graphs.proofs.NumberLemmas.{number_self}
use Rattle.wf_names_resolve.specs.Standing.{Standing}
use Rattle.wf_names_resolve.specs.Resolved.{sized_type, plain_type_named, base_type_named, resolved_bounds, resolved_type}

-- Only a struct's own name is a type with its methods.
pub record IsStructType (of : TypeTree) (owner : TextId) : Type 0 where
  pub name : Name
  pub is : of ≡ tree.struct_type name
  pub same : name.text ≡ owner

no-slice : (width : Option Width) (owner : TextId) → slice_sort width ≡ sorts.Struct owner → ⊥
no-slice None owner e = cc e
no-slice (Some width) owner e = cc e

no-array : (width : Option Width) (owner : TextId) → array_sort width ≡ sorts.Struct owner → ⊥
no-array None owner e = cc e
no-array (Some width) owner e = cc e

no-base : (reader writer : Bool) (owner : TextId)
    → (if reader then sorts.Methods kinds.Reader else if writer then sorts.Methods kinds.Writer else sorts.Plain) ≡ sorts.Struct owner → ⊥
no-base true writer owner e = cc e
no-base false true owner e = cc e
no-base false false owner e = cc e

pub struct-type : (bytes : ℕ → List ℕ) (of : TypeTree) (owner : TextId) → sort_of bytes of ≡ sorts.Struct owner → IsStructType of owner
struct-type bytes (tree.slice_of at element) owner e = absurd (no-slice (width_of bytes element) owner e)
struct-type bytes (tree.array_of length at element) owner e = absurd (no-array (width_of bytes element) owner e)
struct-type bytes (tree.base_type name at bounds) owner e = absurd (no-base _ _ owner e)
struct-type bytes (tree.status_type at bounds) owner e = absurd (cc e)
struct-type bytes (tree.struct_type name) owner e = record { name = name; is = refl; same = let texts : name.text ≡ owner = cc e in texts }

-- Numeric types keep their widths.
module _ (k : Standing) where
  width-same : (of : TypeTree) (width : Width) → width_of k.bytes of ≡ Some width → width_in (resolved_type k of) ≡ Some width
  width-same (tree.slice_of at element) width e = absurd (cc e)
  width-same (tree.array_of length at element) width e = absurd (cc e)
  width-same (tree.base_type name at bounds) width e =
      ap (λ o. width_in (base_type (sized_type o (plain_type_named (k.bytes name.text.0))) at (resolved_bounds k bounds))) e
  width-same (tree.status_type at bounds) width e = absurd (cc e)
  width-same (tree.struct_type name) width e = absurd (cc e)

  slice-kind : (of : TypeTree) (kind : Kind) (o : Option Width) → width_of k.bytes of ≡ o → slice_sort o ≡ sorts.Methods kind → option_map kinds.Slice (width_in (resolved_type k of)) ≡ Some kind
  slice-kind of kind None e h = absurd (cc h)
  slice-kind of kind (Some width) e h =
      let same : kinds.Slice width ≡ kind = cc h in
      ap (option_map kinds.Slice) (width-same of width e) ∙ ap (λ x. Some x) same

  array-kind : (of : TypeTree) (kind : Kind) (o : Option Width) → width_of k.bytes of ≡ o → array_sort o ≡ sorts.Methods kind → option_map kinds.Array (width_in (resolved_type k of)) ≡ Some kind
  array-kind of kind None e h = absurd (cc h)
  array-kind of kind (Some width) e h =
      let same : kinds.Array width ≡ kind = cc h in
      ap (option_map kinds.Array) (width-same of width e) ∙ ap (λ x. Some x) same

-- So do readers and writers.
named-kind : (name : List ℕ) (at : Place) (bounds : NamedBoundsTree) (kind : Kind) (reader writer : Bool) → bytes_eq name (codes "io_reader") ≡ reader → bytes_eq name (codes "io_writer") ≡ writer
    → (if reader then sorts.Methods kinds.Reader else if writer then sorts.Methods kinds.Writer else sorts.Plain) ≡ sorts.Methods kind
    → kind_of (base_type (base_type_named name) at bounds) ≡ Some kind
named-kind name at bounds kind true writer r w e =
    let same : kinds.Reader ≡ kind = cc e in
    let text : name ≡ codes "io_reader" = (bytes_eq-Decides name (codes "io_reader")).0 r in
    ap (λ n. kind_of (base_type (base_type_named n) at bounds)) text ∙ ap (λ x. Some x) same
named-kind name at bounds kind false true r w e =
    let same : kinds.Writer ≡ kind = cc e in
    let text : name ≡ codes "io_writer" = (bytes_eq-Decides name (codes "io_writer")).0 w in
    ap (λ n. kind_of (base_type (base_type_named n) at bounds)) text ∙ ap (λ x. Some x) same
named-kind name at bounds kind false false r w e = absurd (cc e)

pub kind-same : (k : Standing) (of : TypeTree) (kind : Kind) → sort_of k.bytes of ≡ sorts.Methods kind → kind_of (resolved_type k of) ≡ Some kind
kind-same k (tree.slice_of at element) kind e = slice-kind k element kind (width_of k.bytes element) refl e
kind-same k (tree.array_of length at element) kind e = array-kind k element kind (width_of k.bytes element) refl e
kind-same k (tree.base_type name at bounds) kind e =
    named-kind (k.bytes name.text.0) at (resolved_bounds k bounds) kind (bytes_eq (k.bytes name.text.0) (codes "io_reader")) (bytes_eq (k.bytes name.text.0) (codes "io_writer")) refl refl e
kind-same k (tree.status_type at bounds) kind e = let same : kinds.Status ≡ kind = cc e in ap (λ x. Some x) same
kind-same k (tree.struct_type name) kind e = absurd (cc e)

pub kind-itself : (kind : Kind) → same_kind kind kind ≡ true
kind-itself kinds.Reader = refl
kind-itself kinds.Writer = refl
kind-itself kinds.Status = refl
kind-itself (kinds.Slice width) = number_self (bits_of width)
kind-itself (kinds.Array width) = number_self (bits_of width)

-- A reader or writer in the resolved tree is one in the parsed tree.
io-named : (width : Option Width) (flag reader writer : Bool) (at : Place) (bounds : NamedBoundsTree)
    → is_io (kind_of (base_type (sized_type width (if flag then Some bases.Flag else if reader then Some bases.Reader else if writer then Some bases.Writer else None)) at bounds)) ≡ true
    → meanings.is_io (Some (if reader then sorts.Methods kinds.Reader else if writer then sorts.Methods kinds.Writer else sorts.Plain)) ≡ true
io-named (Some width) flag reader writer at bounds h = absurd (cc h)
io-named None true reader writer at bounds h = absurd (cc h)
io-named None false true writer at bounds h = refl
io-named None false false true at bounds h = refl
io-named None false false false at bounds h = absurd (cc h)

no-io-slice : (o : Option Width) → is_io (option_map kinds.Slice o) ≡ true → ⊥
no-io-slice None h = cc h
no-io-slice (Some width) h = cc h

no-io-array : (o : Option Width) → is_io (option_map kinds.Array o) ≡ true → ⊥
no-io-array None h = cc h
no-io-array (Some width) h = cc h

pub io-sort : (k : Standing) (of : TypeTree) → is_io (kind_of (resolved_type k of)) ≡ true → meanings.is_io (Some (sort_of k.bytes of)) ≡ true
io-sort k (tree.slice_of at element) h = absurd (no-io-slice (width_in (resolved_type k element)) h)
io-sort k (tree.array_of length at element) h = absurd (no-io-array (width_in (resolved_type k element)) h)
io-sort k (tree.base_type name at bounds) h =
    let text = k.bytes name.text.0 in
    io-named (width_named text) (bytes_eq text (codes "bool")) (bytes_eq text (codes "io_reader")) (bytes_eq text (codes "io_writer")) at (resolved_bounds k bounds) h
io-sort k (tree.status_type at bounds) h = absurd (cc h)
io-sort k (tree.struct_type name) h = absurd (cc h)
