-- A declared field has the bytes by its type that the rules of names count for it.
use Rattle.std.proofs.Common.{◌≡◌, ◌⊎◌, inl, inr, ◌-◌, ◌*◌, ◌/◌, ◌^◌, ◌≤◌, ℕ, Bool, true, false, ◌&&◌, List, map, Option, Some, None, nat_lt, refl, sym, ap, ◌∙◌, subst, arith}
use Rattle.std.specs.Bool.{⊤}
use Rattle.std.specs.List.{AllByRecursion}
use Rattle.std.specs.Prelude.{if◌then◌else◌, min, nat_eq, nat_le, option_map, bytes_eq, codes}
use Rattle.std.proofs.lemmas.Bool.Decides.{nat_tests}
use Rattle.std.proofs.lemmas.Slice.Eq.{bytes_eq-Decides}
use Rattle.wf_text.specs.declared.place.Place.{Place}
use Rattle.wf_base.specs.declared.widths.Width.{Width}
use Rattle.wf_base.specs.declared.widths.Width.TheVariants as widths
use Rattle.wf_base.specs.BaseTable.{bits_of, bytes_of}
use Rattle.wf_ast.specs.declared.types.Ty.{Ty}
use Rattle.wf_ast.specs.declared.types.Ty.TheVariants as types
use Rattle.wf_ast.specs.ParsedTree as parsed
use Rattle.wf_ast.specs.ParsedTree.{ExprTree, TypeTree}
use Rattle.wf_ast.specs.WellFormed.{formed_expr, formed_type}
use Rattle.wf_ast.proofs.BoolLemmas.{both}
use Rattle.wf_named.specs.declared.nodes.BaseType.TheVariants as bases
use Rattle.wf_named.specs.NamedTree as named
use Rattle.wf_named.specs.NamedTree.{NamedBoundsTree, NamedPackageTree}
use Rattle.wf_names_rules.specs.Declarations.{Declared, Structure, as_variable, struct_named, text_of}
use Rattle.wf_names_rules.specs.Meanings.{width_named, width_of}
use Rattle.wf_names_rules.specs.Uses as uses
use Rattle.wf_names_rules.specs.Uses.{Use, struct_scope, type_uses, uses_of}
use Rattle.wf_names_rules.specs.Sizes.{number_or_zero, width_bytes, flag_bytes, plain_bytes, struct_held}
use Rattle.wf_names_rules.specs.ConstantValues.{value_of, known_constants}
use Rattle.wf_names_resolve.specs.Standing.{Standing, standing_at}
use Rattle.wf_names_resolve.specs.Resolved.{number_or, resolved_expr, resolved_type, resolved_bounds, base_type_named, sized_type, plain_type_named}
use Rattle.wf_types_rules.specs.declared.settings.Setting.{Setting}
use Rattle.wf_types_rules.specs.declared.settings.Role.TheVariants as roles
use Rattle.wf_types_rules.specs.ExprTypes.{meaning, number_of, low_number, plain_width, written, array_type, refined_type}
use Rattle.wf_types_rules.specs.DeclaredTypes.{may_be, for_types, constants_of}
use Rattle.wf_typed_laws.proofs.ListLemmas.{all-front}
use Rattle.wf_typed_const_laws.specs.OneValue.{IsKnown}
use Rattle.wf_typed_const_laws.specs.ArrayLengths.{is_bounded}
use Rattle.wf_typed_const_laws.proofs.Exprs.{Agree, expr-value}
use Rattle.wf_typed_const_laws.proofs.Constants.{number-value}
use Rattle.wf_typed_limit_laws.specs.StructBytes.{field_bytes}

-- ---- numbers

bits-bytes : (w : Width) → bytes_of w ≡ bits_of w / 8
bits-bytes widths.W8 = refl
bits-bytes widths.W16 = refl
bits-bytes widths.W32 = refl
bits-bytes widths.W64 = refl

-- A type of numbers of that width, and no other.
abbrev IsNumber : Width → Ty → Type 0
IsNumber w (types.Num own lo hi) = w ≡ own
IsNumber w ty = ⊥

refined-number : (width : Width) (low high : Option ℕ) (ty : Ty) → refined_type width low high ≡ Some ty → IsNumber width ty
refined-number width None high ty e = absurd (cc e)
refined-number width (Some m) None ty e = absurd (cc e)
refined-number width (Some m) (Some n) ty e = by (nat_le m n && nat_lt n (2 ^ bits_of width)) e
  where
    by : (t : Bool) → (if t then Some (types.Num width m n) else None) ≡ Some ty → IsNumber width ty
    by true e = let same : types.Num width m n ≡ ty = cc e in subst (IsNumber width) same refl
    by false e = absurd (cc e)

number-written : (s : Setting) (width : Width) (at : Place) (bounds : NamedBoundsTree) (ty : Ty) → written s (named.base_type (Some (bases.Number width)) at bounds) ≡ Some ty → IsNumber width ty
number-written s width at named.unrefined ty e = let same : types.Num width 0 (2 ^ bits_of width - 1) ≡ ty = cc e in subst (IsNumber width) same refl
number-written s width at (named.refined low high) ty e = refined-number width (low_number s low) (number_of s high) ty e

number-bytes : (w : Width) (ty : Ty) → IsNumber w ty → field_bytes ty ≡ Some (bits_of w / 8)
number-bytes w (types.Num own lo hi) h = ap (λ (v : Width). Some (bytes_of v)) (sym h) ∙ ap Some (bits-bytes w)
number-bytes w types.Flag h = absurd h
number-bytes w types.Status h = absurd h
number-bytes w types.Reader h = absurd h
number-bytes w types.Writer h = absurd h
number-bytes w (types.Part part) h = absurd h
number-bytes w (types.Slice width) h = absurd h
number-bytes w (types.Array width lo hi count) h = absurd h

-- ---- base types by their names

-- What a base type is that isn't numeric.
abbrev IsPlain : Bool → Ty → Type 0
IsPlain flag ty = ((flag ≡ true) × (ty ≡ types.Flag)) ⊎ ((ty ≡ types.Reader) ⊎ (ty ≡ types.Writer))

plain-written : (s : Setting) (x y z : Bool) (at : Place) (bounds : NamedBoundsTree) (ty : Ty)
    → written s (named.base_type (if x then Some bases.Flag else if y then Some bases.Reader else if z then Some bases.Writer else None) at bounds) ≡ Some ty → IsPlain x ty
plain-written s true y z at named.unrefined ty e = let same : types.Flag ≡ ty = cc e in inl (refl, sym same)
plain-written s true y z at (named.refined low high) ty e = absurd (cc e)
plain-written s false true z at named.unrefined ty e = let same : types.Reader ≡ ty = cc e in inr (inl (sym same))
plain-written s false true z at (named.refined low high) ty e = absurd (cc e)
plain-written s false false true at named.unrefined ty e = let same : types.Writer ≡ ty = cc e in inr (inr (sym same))
plain-written s false false true at (named.refined low high) ty e = absurd (cc e)
plain-written s false false false at bounds ty e = absurd (cc e)

-- The name of a width isn't `bool`.
not-bool : (bytes : List ℕ) (w : Width) → width_named bytes ≡ Some w → bytes_eq bytes (codes "bool") ≡ false
not-bool bytes w e = by (bytes_eq bytes (codes "bool")) refl
  where
    by : (b : Bool) → bytes_eq bytes (codes "bool") ≡ b → bytes_eq bytes (codes "bool") ≡ false
    by false h = h
    by true h =
        let same : bytes ≡ codes "bool" = (bytes_eq-Decides bytes (codes "bool")).0 h in
        let P : List ℕ → Type 0 = λ x. width_named x ≡ Some w in
        let none : width_named (codes "bool") ≡ Some w = subst P same e in
        absurd (cc none)

plain-field : (flag : Bool) (ty : Ty) → IsPlain flag ty → may_be roles.Field ty ≡ true → field_bytes ty ≡ Some (flag_bytes flag 0)
plain-field flag ty (inl h) may = ap field_bytes h.1 ∙ sym (ap (λ b. Some (flag_bytes b 0)) h.0)
plain-field flag ty (inr (inl h)) may = let none = rw h at may in absurd (cc none)
plain-field flag ty (inr (inr h)) may = let none = rw h at may in absurd (cc none)

base-field : (s : Setting) (bytes : List ℕ) (at : Place) (bounds : NamedBoundsTree) (ty : Ty) → written s (named.base_type (base_type_named bytes) at bounds) ≡ Some ty → may_be roles.Field ty ≡ true
    → field_bytes ty ≡ Some (flag_bytes (bytes_eq bytes (codes "bool")) (width_bytes (width_named bytes)))
base-field s bytes at bounds ty e may = by (width_named bytes) refl e
  where
    by : (own : Option Width) → width_named bytes ≡ own → written s (named.base_type (sized_type own (plain_type_named bytes)) at bounds) ≡ Some ty
        → field_bytes ty ≡ Some (flag_bytes (bytes_eq bytes (codes "bool")) (width_bytes own))
    by (Some w) g e = let off = not-bool bytes w g in rw off (number-bytes w ty (number-written s w at bounds ty e))
    by None g e =
        plain-field (bytes_eq bytes (codes "bool")) ty (plain-written s (bytes_eq bytes (codes "bool")) (bytes_eq bytes (codes "io_reader")) (bytes_eq bytes (codes "io_writer")) at bounds ty e) may

status-field : (s : Setting) (at : Place) (bounds : NamedBoundsTree) (ty : Ty) → written s (named.base_type (Some bases.Status) at bounds) ≡ Some ty → field_bytes ty ≡ Some 8
status-field s at named.unrefined ty e = let same : types.Status ≡ ty = cc e in ap field_bytes (sym same)
status-field s at (named.refined low high) ty e = absurd (cc e)

-- ---- arrays

record IsArray (count : Option ℕ) (element : Option Ty) (ty : Ty) : Type 0 where
  n : ℕ
  width : Width
  lo : ℕ
  hi : ℕ
  counted : count ≡ Some n
  of : element ≡ Some (types.Num width lo hi)
  is : ty ≡ types.Array width lo hi (min n (2 ^ 32 - 1))

array-parts : (count : Option ℕ) (element : Option Ty) (ty : Ty) → array_type count element ≡ Some ty → IsArray count element ty
array-parts None element ty e = absurd (cc e)
array-parts (Some n) None ty e = absurd (cc e)
array-parts (Some n) (Some types.Flag) ty e = absurd (cc e)
array-parts (Some n) (Some types.Status) ty e = absurd (cc e)
array-parts (Some n) (Some types.Reader) ty e = absurd (cc e)
array-parts (Some n) (Some types.Writer) ty e = absurd (cc e)
array-parts (Some n) (Some (types.Part part)) ty e = absurd (cc e)
array-parts (Some n) (Some (types.Slice width)) ty e = absurd (cc e)
array-parts (Some n) (Some (types.Array width lo hi count)) ty e = absurd (cc e)
array-parts (Some n) (Some (types.Num width lo hi)) ty e = by (nat_lt 0 n && nat_eq lo 0) e
  where
    by : (t : Bool) → (if t then Some (types.Array width lo hi (min n (2 ^ 32 - 1))) else None) ≡ Some ty → IsArray (Some n) (Some (types.Num width lo hi)) ty
    by false e = absurd (cc e)
    by true e = let same : types.Array width lo hi (min n (2 ^ 32 - 1)) ≡ ty = cc e in record { n = n; width = width; lo = lo; hi = hi; counted = refl; of = refl; is = sym same }

-- A number that is at most 65,536 where it is cut off above isn't cut off.
uncut : (n : ℕ) → nat_le (min n (2 ^ 32 - 1)) 65536 ≡ true → min n (2 ^ 32 - 1) ≡ n
uncut n h = let least : min n (2 ^ 32 - 1) ≤ 65536 = grind (arith, nat_tests, h) in omega (arith, least)

-- ---- fields

-- What is used in a type is there: a struct.
abbrev pub IsDeclaredStruct : Declared → Use → Type 0
IsDeclaredStruct d (uses.structure name) = struct_named d name.text.0 ≡ None → ⊥
IsDeclaredStruct d _ = ⊤

-- A field of struct type has that struct by its type; another one has the same bytes.
abbrev pub FieldIs : (held : Option ℕ) → (bytes : ℕ) → Ty → Type 0
FieldIs None bytes ty = field_bytes ty ≡ Some bytes
FieldIs (Some s) bytes ty = ty ≡ types.Part (record { 0 = s })

module _ (d : Declared) (p : NamedPackageTree) (agree : Agree (known_constants d) (map as_variable d.constants) (constants_of p)) (it : Structure) where
  abbrev k : Standing
  k = standing_at d (struct_scope d it)

  abbrev s : Setting
  s = for_types p

  abbrev AreKnown : List Use → Type 0
  AreKnown us = AllByRecursion (IsKnown d (struct_scope d it)) us

  element-width : (t : TypeTree) (w : Width) (lo hi : ℕ) → written s (resolved_type k t) ≡ Some (types.Num w lo hi) → width_of (text_of d) t ≡ Some w
  element-width (parsed.slice_of at element) w lo hi e = by (plain_width (resolved_type k element)) e
    where
      by : (x : Option Width) → option_map types.Slice x ≡ Some (types.Num w lo hi) → None ≡ Some w
      by None e = absurd (cc e)
      by (Some x) e = absurd (cc e)
  element-width (parsed.array_of length at element) w lo hi e =
      let parts = array-parts (number_of s (resolved_expr k length)) (written s (resolved_type k element)) (types.Num w lo hi) e in
      let no = parts.is in
      absurd (cc no)
  element-width (parsed.status_type at parsed.unrefined) w lo hi e = absurd (cc e)
  element-width (parsed.status_type at (parsed.refined low high)) w lo hi e = absurd (cc e)
  element-width (parsed.struct_type name) w lo hi e = absurd (cc e)
  element-width (parsed.base_type name at bounds) w lo hi e = by (width_named (text_of d name.text.0)) e
    where
      by : (own : Option Width) → written s (named.base_type (sized_type own (plain_type_named (text_of d name.text.0))) at (resolved_bounds k bounds)) ≡ Some (types.Num w lo hi) → own ≡ Some w
      by (Some own) e = ap Some (number-written s own at (resolved_bounds k bounds) (types.Num w lo hi) e)
      by None e = by_plain (plain-written s (bytes_eq (text_of d name.text.0) (codes "bool")) (bytes_eq (text_of d name.text.0) (codes "io_reader")) (bytes_eq (text_of d name.text.0) (codes "io_writer")) at (resolved_bounds k bounds) (types.Num w lo hi) e)
        where
          by_plain : IsPlain (bytes_eq (text_of d name.text.0) (codes "bool")) (types.Num w lo hi) → None ≡ Some w
          by_plain (inl h) = let no = h.1 in absurd (cc no)
          by_plain (inr (inl h)) = absurd (cc h)
          by_plain (inr (inr h)) = absurd (cc h)

  array-field : (length : ExprTree) (element : TypeTree) → formed_expr length ≡ true → AreKnown (uses_of length) → (ty : Ty) → array_type (number_of s (resolved_expr k length)) (written s (resolved_type k element)) ≡ Some ty
      → is_bounded ty ≡ true → field_bytes ty ≡ Some (number_or_zero (value_of d (λ text. false) (known_constants d) length) * width_bytes (width_of (text_of d) element))
  array-field length element f u ty e bounded =
      let parts = array-parts (number_of s (resolved_expr k length)) (written s (resolved_type k element)) ty e in
      let value = expr-value d (struct_scope d it) (known_constants d) (constants_of p) agree length f u in
      let number = number-value (value_of d (λ text. false) (known_constants d) length) (meaning s (resolved_expr k length)) parts.n value parts.counted in
      let counted : number_or_zero (value_of d (λ text. false) (known_constants d) length) ≡ parts.n = ap number_or_zero number.1 in
      let wide : width_of (text_of d) element ≡ Some parts.width = element-width element parts.width parts.lo parts.hi parts.of in
      let B : Ty → Type 0 = λ x. is_bounded x ≡ true in
      let whole : min parts.n (2 ^ 32 - 1) ≡ parts.n = uncut parts.n (subst B parts.is bounded) in
      ap field_bytes parts.is ∙ (ap (λ (c : ℕ). Some (c * bytes_of parts.width)) whole ∙ (ap (λ (b : ℕ). Some (parts.n * b)) (bits-bytes parts.width)
      ∙ (ap (λ (c : ℕ). Some (c * (bits_of parts.width / 8))) (sym counted)
      ∙ ap (λ (o : Option Width). Some (number_or_zero (value_of d (λ text. false) (known_constants d) length) * width_bytes o)) (sym wide))))

  pub field-is : (t : TypeTree) → formed_type t ≡ true → AreKnown (type_uses t) → AllByRecursion (IsDeclaredStruct d) (type_uses t) → (ty : Ty) → written s (resolved_type k t) ≡ Some ty
      → may_be roles.Field ty ≡ true → is_bounded ty ≡ true → FieldIs (struct_held d t) (plain_bytes d t) ty
  field-is (parsed.slice_of at element) f u there ty e may bounded = by (plain_width (resolved_type k element)) e
    where
      by : (w : Option Width) → option_map types.Slice w ≡ Some ty → field_bytes ty ≡ Some 0
      by None e = absurd (cc e)
      by (Some w) e =
          let same : ty ≡ types.Slice w = cc e in
          let none = rw same at may in
          absurd (cc none)
  field-is (parsed.array_of length at element) f u there ty e may bounded =
      let parts = both (formed_expr length) (formed_type element) f in
      array-field length element parts.0 (all-front (IsKnown d (struct_scope d it)) (uses_of length) (type_uses element) u) ty e bounded
  field-is (parsed.base_type name at bounds) f u there ty e may bounded = base-field s (text_of d name.text.0) at (resolved_bounds k bounds) ty e may
  field-is (parsed.status_type at bounds) f u there ty e may bounded = status-field s at (resolved_bounds k bounds) ty e
  field-is (parsed.struct_type name) f u there ty e may bounded = by (struct_named d name.text.0) refl e
    where
      by : (found : Option ℕ) → struct_named d name.text.0 ≡ found → Some (types.Part (record { 0 = number_or found })) ≡ Some ty → FieldIs found 0 ty
      by None g e = absurd (there.0 g)
      by (Some n) g e = cc e
