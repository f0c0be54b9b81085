-- The structs of a typed package have a number of bytes, the one that the rules of names count, which has a limit.
use Rattle.std.proofs.Common.{◌≡◌, ◌∙◌, ◌+◌, ◌≤◌, ℕ, Bool, true, false, List, [], ◌∷◌, ◌++◌, map, Option, Some, None, slice_get, nat_lt, refl, sym, ap, subst, arith, append_assoc, append-nil}
use Rattle.std.specs.Prelude.{option_map}
use Rattle.std.specs.List.{AllByRecursion, list_all}
use Rattle.std.proofs.lemmas.Bool.Decides.{nat_tests}
use Rattle.std.proofs.lemmas.Option.{slice_get-map}
use Rattle.wf_text.specs.declared.numbers.StructId.{StructId}
use Rattle.wf_text.specs.declared.rules.Refusal.{Refusal}
use Rattle.wf_text.specs.declared.rules.Rule.TheVariants.{L7, N4}
use Rattle.wf_text.specs.Precedence.{Decides}
use Rattle.wf_ast.specs.declared.types.Ty.TheVariants as types
use Rattle.wf_ast.specs.ParsedTree as parsed
use Rattle.wf_ast.specs.ParsedTree.{TypeTree, DeclTree}
use Rattle.wf_ast.specs.TypedPackage as trees
use Rattle.wf_ast.specs.TypedPackage.{StructTree}
use Rattle.wf_ast.specs.ReadPackage.{decls_of}
use Rattle.wf_ast.specs.WellFormed.{formed_type, well_formed}
use Rattle.wf_named.specs.NamedTree.{NamedPackageTree, NamedStructTree}
use Rattle.wf_parse.proofs.ReadForms.{packages_are_well_formed}
use Rattle.wf_names_rules.specs.Declarations.{Declared, Structure, Variable, declared, as_variable, is_spelt, struct_named}
use Rattle.wf_names_rules.specs.NameRules.{Breaks, by_size, by_cycle, too_large_struct, holds_itself, IsStructure}
use Rattle.wf_names_rules.specs.Sizes.{plain_bytes, struct_held, fields_at, Take, nothing, plain, part, cycle}
use Rattle.wf_names_rules.specs.Uses.{struct_scope, type_uses}
use Rattle.wf_names_rules.specs.ConstantValues.{known_constants}
use Rattle.wf_names_resolve.specs.Package.{resolved_structs, resolved_package, struct_in}
use Rattle.wf_names_laws.proofs.PackageLaws.{package-named}
use Rattle.wf_names_verdicts.proofs.KeptOrders.{kept-have-orders}
use Rattle.wf_names_verdicts.proofs.Takes.{takes}
use Rattle.wf_types_rules.specs.TypeRules as types_rules
use Rattle.wf_types_rules.specs.FirstBreak.{deciding}
use Rattle.wf_types_rules.specs.Parts.{sites}
use Rattle.wf_types_rules.proofs.FirstBreakLaws.{deciding-decides}
use Rattle.wf_types_rules.specs.DeclaredTypes.{constants_of}
use Rattle.wf_typed_tree.specs.ElaboratedPackage.{typed_struct, typed_package}
use Rattle.wf_typed_tree.proofs.Agreement.{package-is, struct-declared, at-each}
use Rattle.wf_typed_const_laws.specs.OneValue.{IsKnown}
use Rattle.wf_typed_const_laws.specs.ArrayLengths.{is_bounded}
use Rattle.wf_typed_const_laws.proofs.Exprs.{Agree}
use Rattle.wf_typed_const_laws.proofs.Lengths.{agreed, read_arrays_are_bounded}
use Rattle.wf_typed_limit_laws.specs.StructBytes as bytes
use Rattle.wf_typed_limit_laws.specs.StructBytes.{field_bytes, HasBytes, BytesAreOne, IsSmall, HasSmallStructs, ReadStructsAreSmall}
use Rattle.wf_typed_limit_laws.proofs.FieldBytes.{IsDeclaredStruct, FieldIs}
use Rattle.wf_typed_limit_laws.proofs.StructBytes.{all-at, position-stands, use-known, struct-known, in-fields, structs-formed, struct-resolved, resolved-declared, FieldFits, field_type, typed_fields, fields-fit}

-- ---- one number of bytes

one-bytes : (structs : List StructTree) (xs : List trees.Variable) (n m : ℕ) → HasBytes structs xs n → HasBytes structs xs m → n ≡ m
one-bytes structs _ _ _ bytes.nothing bytes.nothing = refl
one-bytes structs _ _ _ (bytes.plain x xs own n e h) (bytes.plain _ _ other m f g) =
    let same : own ≡ other = cc (e, f) in
    let rest = one-bytes structs xs n m h g in
    ap (λ (a : ℕ). a + n) same ∙ ap (λ (b : ℕ). other + b) rest
one-bytes structs _ _ _ (bytes.plain x xs own n e h) (bytes.part _ _ s it inner m f at i g) = absurd (let none : field_bytes x.ty ≡ None = ap field_bytes f in cc (e, none))
one-bytes structs _ _ _ (bytes.part x xs s it inner n e at i h) (bytes.plain _ _ other m f g) = absurd (let none : field_bytes x.ty ≡ None = ap field_bytes e in cc (f, none))
one-bytes structs _ _ _ (bytes.part x xs s it inner n e at i h) (bytes.part _ _ t jt other m f there j g) =
    let same : types.Part s ≡ types.Part t = sym e ∙ f in
    let number : s ≡ t = cc same in
    let P : StructId → Type 0 = λ z. slice_get structs z.0 ≡ Some jt in
    let one : it ≡ jt = (let other_at = subst P (sym number) there in cc (at, other_at)) in
    let Q : StructTree → Type 0 = λ z. HasBytes structs z.fields other in
    let held = one-bytes structs it.fields inner other i (subst Q (sym one) j) in
    let rest = one-bytes structs xs n m h g in
    ap (λ (a : ℕ). 8 + a + n) held ∙ ap (λ (b : ℕ). 8 + other + b) rest

pub bytes_are_one : BytesAreOne
bytes_are_one = one-bytes

-- ---- what the rules of names count is at most the limit

module _ (d : Declared) (kept : (refusal : Refusal) → Breaks d refusal → ⊥) where
  record TakesFew (it : Structure) : Type 0 where
    pub bytes : ℕ
    pub take : Take d it.fields bytes
    pub few : bytes ≤ 1048576

  -- The fields before it have few; so have those with one more.
  few-behind : (it : Structure) → IsStructure d it → (back front : List Variable) → it.fields ≡ front ++ back → (n : ℕ) → Take d front n → n ≤ 1048576 → TakesFew it
  few-behind it is [] front e n t l =
      let P : List Variable → Type 0 = λ vs. Take d vs n in
      record { bytes = n; take = subst P (sym (e ∙ append-nil front)) t; few = l }
  few-behind it is (v ∷ back) front e n t l = by (takes d (front ++ v ∷ [])).0 (takes d (front ++ v ∷ [])).1 (few-behind it is back (front ++ v ∷ []) (e ∙ sym (append_assoc front (v ∷ []) back)))
    where
      by : (m : ℕ) → Take d (front ++ v ∷ []) m → ((m : ℕ) → Take d (front ++ v ∷ []) m → m ≤ 1048576 → TakesFew it) → TakesFew it
      by m taken more = by_test (nat_lt 1048576 m) refl
        where
          by_test : (b : Bool) → nat_lt 1048576 m ≡ b → TakesFew it
          by_test false g = more m taken (grind (arith, nat_tests, g))
          by_test true g =
              let refusal : Refusal = record { rule = L7; at = v.name.at } in
              absurd (kept refusal (by_size refusal (too_large_struct it front back v n m is e t l taken (grind (arith, nat_tests, g)))))

  takes-few : (i : ℕ) (it : Structure) → slice_get d.structs i ≡ Some it → TakesFew it
  takes-few i it e = few-behind it (i, e) it.fields [] refl 0 nothing (omega arith)

-- ---- the same bytes in the typed package

module _ (d : Declared) (p : NamedPackageTree) (agree : Agree (known_constants d) (map as_variable d.constants) (constants_of p)) (kept : (refusal : Refusal) → Breaks d refusal → ⊥) (structs : List StructTree)
    (fit : (i : ℕ) (it : Structure) → slice_get d.structs i ≡ Some it → AllByRecursion (FieldFits d p agree it) it.fields)
    (typed : (i : ℕ) (it : Structure) → slice_get d.structs i ≡ Some it → (t : StructTree) × ((slice_get structs i ≡ Some t) × (t.fields ≡ typed_fields d p agree it it.fields))) where
  held-there : (v : Variable) (s : ℕ) → struct_held d v.of ≡ Some s → (it : Structure) × (slice_get d.structs s ≡ Some it)
  held-there v s e = by_type v.of e
    where
      by_name : (text : ℕ) → struct_named d text ≡ Some s → (it : Structure) × (slice_get d.structs s ≡ Some it)
      by_name text e =
          let found = position-stands (λ x. is_spelt text x.name) 0 d.structs s e in
          let far : s ≡ found.i = (let f = found.far in omega (arith, f)) in
          let P : ℕ → Type 0 = λ i. slice_get d.structs i ≡ Some found.x in
          (found.x, subst P (sym far) found.at)

      by_type : (t : TypeTree) → struct_held d t ≡ Some s → (it : Structure) × (slice_get d.structs s ≡ Some it)
      by_type (parsed.struct_type name) e = by_name name.text.0 e
      by_type (parsed.slice_of at element) e = absurd (cc e)
      by_type (parsed.array_of length at element) e = absurd (cc e)
      by_type (parsed.base_type name at bounds) e = absurd (cc e)
      by_type (parsed.status_type at bounds) e = absurd (cc e)

  typed-bytes : (it : Structure) (vs : List Variable) (n : ℕ) → Take d vs n → AllByRecursion (FieldFits d p agree it) vs → HasBytes structs (typed_fields d p agree it vs) n
  typed-bytes it _ _ nothing a = bytes.nothing
  typed-bytes it _ _ (plain v vs n e rest) a =
      let F : Option ℕ → Type 0 = λ held. FieldIs held (plain_bytes d v.of) (field_type d p agree it v) in
      bytes.plain _ (typed_fields d p agree it vs) (plain_bytes d v.of) n (subst F e a.0) (typed-bytes it vs n rest a.1)
  typed-bytes it _ _ (cycle v vs s n e path rest) a =
      let there = held-there v s e in
      let refusal : Refusal = record { rule = N4; at = there.0.name.at } in
      absurd (kept refusal (by_cycle refusal (holds_itself s there.0 there.1 path)))
  typed-bytes it _ _ (part v vs s inner n e off inside rest) a =
      let there = held-there v s e in
      let made = typed s there.0 there.1 in
      let Q : Option Structure → Type 0 = λ o. AllByRecursion (FieldFits d p agree there.0) (fields_at o) in
      let R : Option Structure → Type 0 = λ o. HasBytes structs (typed_fields d p agree there.0 (fields_at o)) inner in
      let S : List trees.Variable → Type 0 = λ xs. HasBytes structs xs inner in
      let held = typed-bytes there.0 (fields_at (slice_get d.structs s)) inner inside (subst Q (sym there.1) (fit s there.0 there.1)) in
      let F : Option ℕ → Type 0 = λ held. FieldIs held (plain_bytes d v.of) (field_type d p agree it v) in
      bytes.part _ (typed_fields d p agree it vs) (record { 0 = s }) made.0 inner n (subst F e a.0) made.1.0 (subst S (sym made.1.1) (subst R there.1 held)) (typed-bytes it vs n rest a.1)

-- ---- packages

-- Where no rule of types is broken none decides, whatever the order of the methods.
none-decides : (name : List ℕ) (texts : List (List ℕ)) (decls : List DeclTree) (order struct_order : List ℕ) → ((refusal : Refusal) → types_rules.Breaks (resolved_package name texts decls [] []) refusal → ⊥)
    → deciding (resolved_package name texts decls order struct_order) ≡ None
unfolding deciding sites
none-decides name texts decls order struct_order kept = by_refusal (deciding (resolved_package name texts decls [] [])) refl
  where
    by_refusal : (o : Option Refusal) → deciding (resolved_package name texts decls [] []) ≡ o → deciding (resolved_package name texts decls [] []) ≡ None
    by_refusal None e = e
    by_refusal (Some refusal) e =
        let D : Option Refusal → Type 0 = Decides (types_rules.Breaks (resolved_package name texts decls [] [])) in
        absurd (kept refusal (subst D e (deciding-decides (resolved_package name texts decls [] []))).breaks)

module _ (name : List ℕ) (texts : List (List ℕ)) (decls : List DeclTree) (formed : list_all well_formed decls ≡ true) (kept : (refusal : Refusal) → Breaks (declared texts decls) refusal → ⊥)
    (well : (refusal : Refusal) → types_rules.Breaks (resolved_package name texts decls [] []) refusal → ⊥) (order struct_order : List ℕ) where
  abbrev d : Declared
  d = declared texts decls

  abbrev p : NamedPackageTree
  p = resolved_package name texts decls order struct_order

  abbrev agree : Agree (known_constants (declared texts decls)) (map as_variable (declared texts decls).constants) (constants_of (resolved_package name texts decls order struct_order))
  agree = agreed name texts decls order struct_order formed kept

  struct-typed : (i : ℕ) (it : Structure) → slice_get d.structs i ≡ Some it → (t : StructTree) × ((slice_get (map (typed_struct p) (resolved_structs d decls)) i ≡ Some t) × (t.fields ≡ typed_fields d p agree it it.fields))
  struct-typed i it e =
      let m = struct-resolved d decls i it e in
      (typed_struct p (struct_in d m.public it), (slice_get-map (typed_struct p) (resolved_structs d decls) i ∙ ap (option_map (typed_struct p)) m.at, refl))

  struct-fits : list_all (λ s. list_all (λ x. is_bounded x.ty) s.fields) (map (typed_struct p) (resolved_structs d decls)) ≡ true → (i : ℕ) (it : Structure) → slice_get d.structs i ≡ Some it
      → AllByRecursion (FieldFits d p agree it) it.fields
  struct-fits bounded i it e =
      let m = struct-resolved d decls i it e in
      let t = struct-typed i it e in
      let orders = kept-have-orders name texts decls kept in
      let q = resolved_package name texts decls orders.0 orders.1 in
      let is = package-is q (none-decides name texts decls orders.0 orders.1 well) (package-named name texts decls orders.0 orders.1 kept orders.2) in
      let known = all-at (λ s. AllByRecursion (λ v. AllByRecursion (IsKnown d (struct_scope d s)) (type_uses v.of)) s.fields) d.structs (in-fields d (IsKnown d) (use-known d kept)) i it e in
      let there = all-at (λ s. AllByRecursion (λ v. AllByRecursion (IsDeclaredStruct d) (type_uses v.of)) s.fields) d.structs (in-fields d (λ scope. IsDeclaredStruct d) (struct-known d kept)) i it e in
      let form = all-at (λ s. AllByRecursion (λ v. formed_type v.of ≡ true) s.fields) d.structs (structs-formed decls formed) i it e in
      let B : List trees.Variable → Type 0 = λ xs. list_all (λ x. is_bounded x.ty) xs ≡ true in
      let short = subst B t.1.1 (at-each (λ (s : StructTree). list_all (λ x. is_bounded x.ty) s.fields) (map (typed_struct p) (resolved_structs d decls)) bounded i t.0 t.1.0) in
      fields-fit d p agree it it.fields form known there short (struct-declared q is i (struct_in d m.public it) m.at)

  small-structs : list_all (λ s. list_all (λ x. is_bounded x.ty) s.fields) (map (typed_struct p) (resolved_structs d decls)) ≡ true → HasSmallStructs (typed_package p)
  unfolding typed_package
  small-structs bounded i t e = by (slice_get (resolved_structs d decls) i) refl
    where
      at : slice_get (map (typed_struct p) (resolved_structs d decls)) i ≡ option_map (typed_struct p) (slice_get (resolved_structs d decls) i)
      at = slice_get-map (typed_struct p) (resolved_structs d decls) i

      by : (o : Option NamedStructTree) → slice_get (resolved_structs d decls) i ≡ o → IsSmall (typed_package p) t
      by None g = absurd (let none : slice_get (map (typed_struct p) (resolved_structs d decls)) i ≡ None = at ∙ ap (option_map (typed_struct p)) g in cc (e, none))
      by (Some n) g =
          let of = resolved-declared d decls i n g in
          let few = takes-few d kept i of.it of.at in
          let found : slice_get (map (typed_struct p) (resolved_structs d decls)) i ≡ Some (typed_struct p n) = at ∙ ap (option_map (typed_struct p)) g in
          let same : t ≡ typed_struct p n = cc (e, found) in
          let fields : t.fields ≡ typed_fields d p agree of.it of.it.fields = ap (λ (x : StructTree). x.fields) same ∙ ap (λ (x : NamedStructTree). (typed_struct p x).fields) of.is in
          let P : List trees.Variable → Type 0 = λ xs. HasBytes (map (typed_struct p) (resolved_structs d decls)) xs few.bytes in
          let has = typed-bytes d p agree kept (map (typed_struct p) (resolved_structs d decls)) (struct-fits bounded) struct-typed of.it of.it.fields few.bytes few.take (struct-fits bounded i of.it of.at) in
          record { bytes = few.bytes; has = subst P (sym fields) has; few = few.few }

pub read_structs_are_small : ReadStructsAreSmall
unfolding typed_package
read_structs_are_small name files read is kept well order struct_order =
    small-structs read.name read.texts (decls_of read) (packages_are_well_formed name files read is) kept well order struct_order (read_arrays_are_bounded name files read is kept order struct_order).fields
