-- The constants of a package have the same values by the rules of names as by the rules of types.
use Rattle.std.proofs.Common.{◌≡◌, ℕ, ◌-◌, ◌^◌, ◌<◌, Bool, true, false, ◌&&◌, List, [], ◌∷◌, ◌++◌, map, Option, Some, None, nat_lt, refl, sym, ap, ◌∙◌, subst, arith, append_assoc, append-nil}
use Rattle.std.specs.List.{AllByRecursion, list_all}
use Rattle.std.specs.Prelude.{if◌then◌else◌, min, nat_eq, nat_le, option_map, option_and_then, bytes_eq, codes}
use Rattle.std.proofs.lemmas.Bool.Decides.{nat_tests}
use Rattle.std.proofs.lemmas.Nat.{pow_pos}
use Rattle.wf_text.specs.declared.place.Place.{Place}
use Rattle.wf_base.specs.declared.widths.Width.{Width}
use Rattle.wf_base.specs.BaseTable.{bits_of}
use Rattle.wf_ast.specs.declared.types.Ty.{Ty}
use Rattle.wf_ast.specs.declared.types.Ty.TheVariants as types
use Rattle.wf_ast.specs.ParsedTree as parsed
use Rattle.wf_ast.specs.ParsedTree.{ExprTree, TypeTree, PartTree, BoundsTree, DeclTree}
use Rattle.wf_ast.specs.WellFormed.{formed_expr, formed_part, formed_type, formed_bounds, well_formed}
use Rattle.wf_ast.proofs.BoolLemmas.{both}
use Rattle.wf_named.specs.declared.nodes.BaseType.TheVariants as bases
use Rattle.wf_named.specs.NamedTree as named
use Rattle.wf_named.specs.NamedTree.{NamedBoundsTree}
use Rattle.wf_names_rules.specs.Declarations.{Declared, Constant, Variable, as_variable, text_of, constants_of}
use Rattle.wf_names_rules.specs.Meanings.{width_named, width_of}
use Rattle.wf_names_rules.specs.Uses.{Use, Scope, Site, constant_scope, constant_sites, sites_in, type_uses, uses_of, part_uses, bounds_uses}
use Rattle.wf_names_rules.specs.ConstantValues.{Sized, Valued, value_of, low_value, refined_value, bounded, typed_value, constant_value, known_from}
use Rattle.wf_names_resolve.specs.Standing.{Standing, standing_at}
use Rattle.wf_names_resolve.specs.Resolved.{resolved_expr, resolved_part, resolved_type, resolved_bounds, sized_type, plain_type_named}
use Rattle.wf_names_resolve.specs.Package.{resolved_const, resolved_consts}
use Rattle.wf_types_rules.specs.declared.meanings.Meaning.{Meaning}
use Rattle.wf_types_rules.specs.declared.meanings.Meaning.TheVariants as meanings
use Rattle.wf_types_rules.specs.declared.meanings.Constant.{Constant as Known}
use Rattle.wf_types_rules.specs.declared.settings.Setting.{Setting}
use Rattle.wf_types_rules.specs.declared.settings.Role.TheVariants as roles
use Rattle.wf_types_rules.specs.Meanings.{constant_number}
use Rattle.wf_types_rules.specs.ExprTypes.{meaning, number_of, low_number, plain_width, written, array_type, refined_type}
use Rattle.wf_types_rules.specs.DeclaredTypes.{among_constants, if_allowed, constant_with, constant_made, constants_after}
use Rattle.wf_typed_laws.proofs.ListLemmas.{all-front, all-behind, all-of-map}
use Rattle.wf_typed_const_laws.specs.OneValue.{sized, HasValue, HasConstant, IsKnown}
use Rattle.wf_typed_const_laws.proofs.Operators.{fits}
use Rattle.wf_typed_const_laws.proofs.Exprs.{Agree, agree-more, expr-value}

-- The number of a constant expression, with the width that it has.
pub number-value : (x : Option Sized) (m : Option Meaning) (n : ℕ) → HasValue x m → option_and_then constant_number m ≡ Some n → (w : Option Width) × (x ≡ Some (sized w n))
number-value x None n h e = absurd (cc e)
number-value x (Some (meanings.Typed ty)) n h e = absurd (cc e)
number-value x (Some (meanings.Constant w v)) n h e = let same : v ≡ n = cc e in (w, h.0 ∙ ap (λ (i : ℕ). Some (sized w i)) same)

abbrev IsMade : Option Sized → Width → ℕ → Type 0
IsMade x w v = (x ≡ Some (sized (Some w) v)) × (v < 2 ^ bits_of w)

-- A constant is made of a numeric type that its number lies in.
made : (x : Option Sized) (ty : Option Ty) (n : Option ℕ)
    → ((w : Width) (lo hi v : ℕ) → ty ≡ Some (types.Num w lo hi) → n ≡ Some v → nat_le lo v ≡ true → nat_le v hi ≡ true → IsMade x w v)
    → HasConstant x (constant_with (option_and_then (if_allowed roles.Const) ty) n)
made x None n h = tt
made x (Some types.Flag) n h = tt
made x (Some types.Status) n h = tt
made x (Some types.Reader) n h = tt
made x (Some types.Writer) n h = tt
made x (Some (types.Part part)) n h = tt
made x (Some (types.Slice width)) n h = tt
made x (Some (types.Array width lo hi count)) n h = tt
made x (Some (types.Num width lo hi)) None h = tt
made x (Some (types.Num width lo hi)) (Some v) h = by (nat_le lo v) refl (nat_le v hi) refl
  where
    by : (a : Bool) → nat_le lo v ≡ a → (b : Bool) → nat_le v hi ≡ b → HasConstant x (if a && b then Some (record { width = width; value = v }) else None)
    by true e true f = h width lo hi v refl refl e f
    by true e false f = tt
    by false e b f = tt

array-no-number : (count : Option ℕ) (element : Option Ty) (w : Width) (lo hi : ℕ) → array_type count element ≡ Some (types.Num w lo hi) → ⊥
array-no-number None element w lo hi e = absurd (cc e)
array-no-number (Some count) None w lo hi e = absurd (cc e)
array-no-number (Some count) (Some types.Flag) w lo hi e = absurd (cc e)
array-no-number (Some count) (Some types.Status) w lo hi e = absurd (cc e)
array-no-number (Some count) (Some types.Reader) w lo hi e = absurd (cc e)
array-no-number (Some count) (Some types.Writer) w lo hi e = absurd (cc e)
array-no-number (Some count) (Some (types.Part part)) w lo hi e = absurd (cc e)
array-no-number (Some count) (Some (types.Slice width)) w lo hi e = absurd (cc e)
array-no-number (Some count) (Some (types.Array width l h c)) w lo hi e = absurd (cc e)
array-no-number (Some count) (Some (types.Num width l h)) w lo hi e = by (nat_lt 0 count && nat_eq l 0) e
  where
    by : (t : Bool) → (if t then Some (types.Array width l h (min count (2 ^ 32 - 1))) else None) ≡ Some (types.Num w lo hi) → ⊥
    by true e = absurd (cc e)
    by false e = absurd (cc e)

-- Bounds are numbers, in order and in the width.
record IsRefined (own : Width) (low high : Option ℕ) (w : Width) (lo hi : ℕ) : Type 0 where
  low_is : low ≡ Some lo
  high_is : high ≡ Some hi
  width : own ≡ w
  within : nat_lt hi (2 ^ bits_of own) ≡ true

refined-parts : (own : Width) (low high : Option ℕ) (w : Width) (lo hi : ℕ) → refined_type own low high ≡ Some (types.Num w lo hi) → IsRefined own low high w lo hi
refined-parts own None high w lo hi e = absurd (cc e)
refined-parts own (Some m) None w lo hi e = absurd (cc e)
refined-parts own (Some m) (Some n) w lo hi e = by (nat_le m n) (nat_lt n (2 ^ bits_of own)) refl e
  where
    by : (a b : Bool) → nat_lt n (2 ^ bits_of own) ≡ b → (if a && b then Some (types.Num own m n) else None) ≡ Some (types.Num w lo hi) → IsRefined own (Some m) (Some n) w lo hi
    by false b f e = absurd (cc e)
    by true false f e = absurd (cc e)
    by true true f e =
        let low : m ≡ lo = cc e in
        let high : n ≡ hi = cc e in
        let P : ℕ → Type 0 = λ i. nat_lt i (2 ^ bits_of own) ≡ true in
        record { low_is = ap Some low; high_is = ap Some high; width = cc e; within = subst P high f }

plain-no-number : (s : Setting) (bytes : List ℕ) (at : Place) (bounds : NamedBoundsTree) (w : Width) (lo hi : ℕ) → written s (named.base_type (plain_type_named bytes) at bounds) ≡ Some (types.Num w lo hi) → ⊥
plain-no-number s bytes at bounds w lo hi = by (bytes_eq bytes (codes "bool")) (bytes_eq bytes (codes "io_reader")) (bytes_eq bytes (codes "io_writer")) bounds
  where
    by : (x y z : Bool) (bounds : NamedBoundsTree) → written s (named.base_type (if x then Some bases.Flag else if y then Some bases.Reader else if z then Some bases.Writer else None) at bounds) ≡ Some (types.Num w lo hi) → ⊥
    by true y z named.unrefined e = absurd (cc e)
    by true y z (named.refined low high) e = absurd (cc e)
    by false true z named.unrefined e = absurd (cc e)
    by false true z (named.refined low high) e = absurd (cc e)
    by false false true named.unrefined e = absurd (cc e)
    by false false true (named.refined low high) e = absurd (cc e)
    by false false false bounds e = absurd (cc e)

module _ (d : Declared) (known : List Valued) (vs : List Variable) (cs : List (Option Known)) (agree : Agree known vs cs) where
  abbrev scope : Scope
  scope = constant_scope vs

  abbrev k : Standing
  k = standing_at d scope

  abbrev s : Setting
  s = among_constants cs

  abbrev AreKnown : List Use → Type 0
  AreKnown us = AllByRecursion (IsKnown d scope) us

  value-here : (e : ExprTree) → formed_expr e ≡ true → AreKnown (uses_of e) → HasValue (value_of d (λ text. false) known e) (meaning s (resolved_expr k e))
  value-here e f u = expr-value d scope known cs agree e f u

  low-here : (low : PartTree) (n : ℕ) → formed_part low ≡ true → AreKnown (part_uses low) → low_number s (resolved_part k low) ≡ Some n → (w : Option Width) × (low_value d known low ≡ Some (sized w n))
  low-here parsed.absent n f u e = let same : 0 ≡ n = cc e in (None, ap (λ (i : ℕ). Some (sized None i)) same)
  low-here (parsed.present low) n f u e = number-value (value_of d (λ text. false) known low) (meaning s (resolved_expr k low)) n (value-here low f u) e

  within-bounds : (own : Width) (lw hw vw : Option Width) (lo hi v : ℕ) → nat_le lo v ≡ true → nat_le v hi ≡ true → nat_lt hi (2 ^ bits_of own) ≡ true
      → IsMade (bounded (bits_of own) (Some (sized lw lo)) (Some (sized hw hi)) (Some (sized vw v))) own v
  within-bounds own lw hw vw lo hi v a b c =
      let below : v < 2 ^ bits_of own = grind (arith, nat_tests, b, c) in
      (rw (a, b, c) refl, below)

  typed-bounds : (own : Width) (bounds : BoundsTree) (at : Place) → formed_bounds bounds ≡ true → AreKnown (bounds_uses bounds) → (vw : Option Width) (w : Width) (lo hi v : ℕ)
      → written s (named.base_type (Some (bases.Number own)) at (resolved_bounds k bounds)) ≡ Some (types.Num w lo hi) → nat_le lo v ≡ true → nat_le v hi ≡ true
      → IsMade (refined_value d known (bits_of own) bounds (Some (sized vw v))) w v
  typed-bounds own parsed.unrefined at f u vw w lo hi v e a b =
      let width : own ≡ w = cc e in
      let high : 2 ^ bits_of own - 1 ≡ hi = cc e in
      let below : v < 2 ^ bits_of own = grind (arith, nat_tests, b, high, pow_pos (bits_of own)) in
      let P : Width → Type 0 = λ x. IsMade (refined_value d known (bits_of own) parsed.unrefined (Some (sized vw v))) x v in
      subst P width (fits (Some own) v below, below)
  typed-bounds own (parsed.refined low high) at f u vw w lo hi v e a b =
      let parts = both (formed_part low) (formed_expr high) f in
      let r = refined-parts own (low_number s (resolved_part k low)) (number_of s (resolved_expr k high)) w lo hi e in
      let l = low-here low lo parts.0 (all-front (IsKnown d scope) (part_uses low) (uses_of high) u) r.low_is in
      let h = number-value (value_of d (λ text. false) known high) (meaning s (resolved_expr k high)) hi (value-here high parts.1 (all-behind (IsKnown d scope) (part_uses low) (uses_of high) u)) r.high_is in
      let P : Option Sized → Type 0 = λ x. IsMade (bounded (bits_of own) x (value_of d (λ text. false) known high) (Some (sized vw v))) own v in
      let Q : Option Sized → Type 0 = λ x. IsMade (bounded (bits_of own) (Some (sized l.0 lo)) x (Some (sized vw v))) own v in
      let R : Width → Type 0 = λ x. IsMade (refined_value d known (bits_of own) (parsed.refined low high) (Some (sized vw v))) x v in
      subst R r.width (subst P (sym l.1) (subst Q (sym h.1) (within-bounds own l.0 h.0 vw lo hi v a b r.within)))

  typed : (t : TypeTree) → formed_type t ≡ true → AreKnown (type_uses t) → (vw : Option Width) (w : Width) (lo hi v : ℕ) → written s (resolved_type k t) ≡ Some (types.Num w lo hi)
      → nat_le lo v ≡ true → nat_le v hi ≡ true → IsMade (typed_value d known (width_of (text_of d) t) t (Some (sized vw v))) w v
  typed (parsed.slice_of at element) f u vw w lo hi v e a b = by (plain_width (resolved_type k element)) e
    where
      by : (x : Option Width) → option_map types.Slice x ≡ Some (types.Num w lo hi) → IsMade None w v
      by None e = absurd (cc e)
      by (Some x) e = absurd (cc e)
  typed (parsed.array_of length at element) f u vw w lo hi v e a b = absurd (array-no-number (number_of s (resolved_expr k length)) (written s (resolved_type k element)) w lo hi e)
  typed (parsed.status_type at parsed.unrefined) f u vw w lo hi v e a b = absurd (cc e)
  typed (parsed.status_type at (parsed.refined low high)) f u vw w lo hi v e a b = absurd (cc e)
  typed (parsed.struct_type name) f u vw w lo hi v e a b = absurd (cc e)
  typed (parsed.base_type name at bounds) f u vw w lo hi v e a b = by (width_named (text_of d name.text.0)) e
    where
      by : (own : Option Width) → written s (named.base_type (sized_type own (plain_type_named (text_of d name.text.0))) at (resolved_bounds k bounds)) ≡ Some (types.Num w lo hi)
          → IsMade (typed_value d known own (parsed.base_type name at bounds) (Some (sized vw v))) w v
      by None e = absurd (plain-no-number s (text_of d name.text.0) at (resolved_bounds k bounds) w lo hi e)
      by (Some own) e = typed-bounds own bounds at f u vw w lo hi v e a b

  constant-here : (c : Constant) → (formed_type c.of && formed_expr c.value) ≡ true → AreKnown (type_uses c.of ++ uses_of c.value)
      → HasConstant (constant_value d known c) (constant_made cs (resolved_const k c.name c.of c.value))
  constant-here c f u =
      let parts = both (formed_type c.of) (formed_expr c.value) f in
      let here = value-here c.value parts.1 (all-behind (IsKnown d scope) (type_uses c.of) (uses_of c.value) u) in
      made (constant_value d known c) (written s (resolved_type k c.of)) (number_of s (resolved_expr k c.value))
      (λ w lo hi v e n a b.
      let number = number-value (value_of d (λ text. false) known c.value) (meaning s (resolved_expr k c.value)) v here n in
      let P : Option Sized → Type 0 = λ x. IsMade (typed_value d known (width_of (text_of d) c.of) c.of x) w v in
      subst P (sym number.1) (typed c.of parts.0 (all-front (IsKnown d scope) (type_uses c.of) (uses_of c.value) u) number.0 w lo hi v e a b))

-- ---- all constants

abbrev pub ConstantIsFormed : Constant → Type 0
ConstantIsFormed c = (formed_type c.of && formed_expr c.value) ≡ true

abbrev pub SiteIsKnown : Declared → Site → Type 0
SiteIsKnown d site = IsKnown d site.scope site.usage

module _ (d : Declared) where
  pub constants-agree : (rest : List Constant) (known : List Valued) (vs : List Variable) (cs : List (Option Known)) → Agree known vs cs → AllByRecursion ConstantIsFormed rest
      → AllByRecursion (SiteIsKnown d) (constant_sites vs rest) → Agree (known_from d known rest) (vs ++ map as_variable rest) (constants_after cs (resolved_consts d vs rest))
  constants-agree [] known vs cs a f u = subst (λ (xs : List Variable). Agree known xs cs) (sym (append-nil vs)) a
  constants-agree (c ∷ rest) known vs cs a f u =
      let here = sites_in (constant_scope vs) (type_uses c.of ++ uses_of c.value) in
      let behind = constant_sites (vs ++ as_variable c ∷ []) rest in
      let own = all-of-map (SiteIsKnown d) (λ usage. record { scope = constant_scope vs; usage = usage }) (type_uses c.of ++ uses_of c.value) (all-front (SiteIsKnown d) here behind u) in
      let made = constant_made cs (resolved_const (standing_at d (constant_scope vs)) c.name c.of c.value) in
      let value : Valued = record { name = c.name; value = constant_value d known c } in
      let one = agree-more known vs cs value (as_variable c) made a refl (constant-here d known vs cs a c f.0 own) in
      let all = constants-agree rest (known ++ value ∷ []) (vs ++ as_variable c ∷ []) (cs ++ made ∷ []) one f.1 (all-behind (SiteIsKnown d) here behind u) in
      subst (λ (xs : List Variable). Agree (known_from d (known ++ value ∷ []) rest) xs (constants_after (cs ++ made ∷ []) (resolved_consts d (vs ++ as_variable c ∷ []) rest))) (append_assoc vs (as_variable c ∷ []) (map as_variable rest)) all

pub constants-formed : (decls : List DeclTree) → list_all well_formed decls ≡ true → AllByRecursion ConstantIsFormed (constants_of decls)
constants-formed [] h = tt
constants-formed (parsed.status public text at ∷ decls) h = constants-formed decls h
constants-formed (parsed.constant public name of value at ∷ decls) h = let parts = both (formed_type of && formed_expr value) (list_all well_formed decls) h in (parts.0, constants-formed decls parts.1)
constants-formed (parsed.structure public name mark fields at ∷ decls) h = constants-formed decls (both (well_formed (parsed.structure public name mark fields at)) (list_all well_formed decls) h).1
constants-formed (parsed.method public owner name mark args result body at ∷ decls) h =
    constants-formed decls (both (well_formed (parsed.method public owner name mark args result body at)) (list_all well_formed decls) h).1
