-- The constants of a package that breaks no rule are there, each in its width. With it: the kinds of declared types.
use Rattle.std.proofs.Common.{◌≡◌, ℕ, zero, suc, ◌+◌, ◌-◌, ◌^◌, Bool, true, false, ◌&&◌, List, [], ◌∷◌, ◌++◌, length, Option, Some, None, refl, sym, ap, ◌∙◌, subst, arith, nat_lt, nat_le, nat_eq, length-append}
use Rattle.std.specs.Prelude.{option_map, is_some, if◌then◌else◌, slice_get, min}
use Rattle.std.specs.Bool.{⊤}
use Rattle.std.proofs.lemmas.Bool.Decides.{nat_tests}
use Rattle.wf_text.specs.declared.rules.Rule.TheVariants.{T1, T5}
use Rattle.wf_base.specs.declared.widths.Width.{Width}
use Rattle.wf_base.specs.declared.base_methods.Kind.{Kind}
use Rattle.wf_base.specs.declared.base_methods.Kind.TheVariants as kinds
use Rattle.wf_base.specs.BaseTable.{bits_of}
use Rattle.wf_ast.specs.declared.types.Ty.{Ty}
use Rattle.wf_ast.specs.declared.types.Ty.TheVariants as types
use Rattle.wf_ast.specs.WellTyped.{is_width}
use Rattle.wf_named.specs.declared.nodes.BaseType.TheVariants as bases
use Rattle.wf_named.specs.declared.nodes.Variable.{Variable}
use Rattle.wf_named.specs.declared.nodes.Variable.TheVariants as variables
use Rattle.wf_named.specs.NamedTree.{NamedTypeTree, slice_of, array_of, base_type, unrefined, refined, VarTree, ConstTree, NamedPackageTree}
use Rattle.wf_named.specs.WellNamed.{type_of_variable, kind_of, width_in, named_type, named_expr, scope_of_const, named_consts}
use Rattle.wf_types_rules.specs.declared.meanings.Constant.{Constant}
use Rattle.wf_types_rules.specs.Meanings as meant
use Rattle.wf_types_rules.specs.declared.settings.Setting.{Setting}
use Rattle.wf_types_rules.specs.Meanings.{there, as_constant, variable}
use Rattle.wf_types_rules.specs.ExprTypes.{plain_width, array_type, meaning, number_of, low_number, written}
use Rattle.wf_types_rules.specs.declared.settings.Role.TheVariants as roles
use Rattle.wf_types_rules.specs.DeclaredTypes.{is_numeric, declared, among_constants, constant_in, constant_with, constant_made, constants_after}
use Rattle.wf_types_rules.specs.Parts.{Part, Site, constant_declared, at_sites, declared_parts, expr_parts, const_sites, sites}
use Rattle.wf_types_rules.specs.Judgements.{value_no_number, value_outside, lies_in}
use Rattle.wf_types_rules.proofs.TypeRows as rows
use Rattle.wf_types_rules.specs.FirstBreak.{deciding}
use Rattle.wf_typed_tree.specs.MeaningTrees.{kind_of_type}
use Rattle.wf_typed_tree.proofs.NumberLemmas.{both, where-parts, map-parts}
use Rattle.wf_typed_tree.proofs.NoBreaks.{Fine, part-fine, AllFine, fine-split, at-none, both-hold}
use Rattle.wf_typed_tree.proofs.KnownMeanings.{HasValue, expr-known, type-known, numbered-known}
use Rattle.wf_typed_tree.proofs.DeclaredLaws.{HasRange, written-range, plain-is, refined-kind, declared-parts, placed-known}

-- Kinds of types.
element-width : (s : Setting) (t : NamedTypeTree) (w : Width) (ty : Ty) → width_in t ≡ Some w → written s t ≡ Some ty → (lo hi : ℕ) × (ty ≡ types.Num w lo hi)
element-width s (base_type (Some (bases.Number v)) at unrefined) w ty e h =
    let same : v ≡ w = cc e in let is : meant.all_of v ≡ ty = cc h in (0, 2 ^ bits_of v - 1, sym is ∙ ap (λ u. types.Num u 0 (2 ^ bits_of v - 1)) same)
element-width s (base_type (Some (bases.Number v)) at (refined low high)) w ty e h =
    let same : v ≡ w = cc e in
    let it = refined-kind v (low_number s low) (number_of s high) ty h in
    (it.0, it.1, it.2 ∙ ap (λ u. types.Num u it.0 it.1) same)
element-width s t w ty e h = absurd (cc e)

array-kind : (count : Option ℕ) (element : Option Ty) (ty : Ty) (w : Width) (lo hi : ℕ) → element ≡ Some (types.Num w lo hi) → array_type count element ≡ Some ty
    → kind_of_type ty ≡ Some (kinds.Array w)
array-kind (Some n) (Some (types.Num v lo' hi')) ty w lo hi e h =
    let it = where-parts (nat_lt 0 n && nat_eq lo' 0) (types.Array v lo' hi' (min n (2 ^ 32 - 1))) ty h in
    let same : types.Num v lo' hi' ≡ types.Num w lo hi = cc e in
    let K : Ty → Type 0 = λ u. kind_of_type u ≡ Some (kinds.Array w) in
    let width : v ≡ w = cc same in
    subst K it.1 (ap (λ u. Some (kinds.Array u)) width)
array-kind None element ty w lo hi e h = absurd (cc h)
array-kind (Some n) element ty w lo hi e h = absurd (cc h)

element-there : (count : Option ℕ) (element : Option Ty) (ty : Ty) → array_type count element ≡ Some ty → HasValue element
element-there count (Some of) ty h = (of, refl)
element-there None None ty h = absurd (cc h)
element-there (Some n) None ty h = absurd (cc h)

pub type-kind : (s : Setting) (t : NamedTypeTree) (ty : Ty) (k : Kind) → written s t ≡ Some ty → kind_of t ≡ Some k → kind_of_type ty ≡ Some k
type-kind s (base_type (Some bases.Reader) at unrefined) ty k h e = let is : types.Reader ≡ ty = cc h in let K : Ty → Type 0 = λ u. kind_of_type u ≡ Some k in subst K is e
type-kind s (base_type (Some bases.Writer) at unrefined) ty k h e = let is : types.Writer ≡ ty = cc h in let K : Ty → Type 0 = λ u. kind_of_type u ≡ Some k in subst K is e
type-kind s (base_type (Some bases.Status) at unrefined) ty k h e = let is : types.Status ≡ ty = cc h in let K : Ty → Type 0 = λ u. kind_of_type u ≡ Some k in subst K is e
type-kind s (slice_of at element) ty k h e =
    let it = map-parts types.Slice (plain_width element) ty h in
    let width : width_in element ≡ Some it.of = plain-is element it.of it.is in
    let K : Ty → Type 0 = λ u. kind_of_type u ≡ Some k in
    let W : Option Width → Type 0 = λ o. option_map kinds.Slice o ≡ Some k in
    subst K it.gives (subst W width e)
type-kind s (array_of length at element) ty k h e =
    let it = map-parts kinds.Array (width_in element) k e in
    let of = element-there (number_of s length) (written s element) ty h in
    let num = element-width s element it.of of.0 it.is of.1 in
    array-kind (number_of s length) (written s element) ty it.of num.0 num.1 (of.1 ∙ ap Some num.2) h ∙ ap Some it.gives
type-kind s t ty k h e = absurd (cc (h, e))

-- All sites of a package that breaks no rule.
abbrev pub AllFineSites : NamedPackageTree → List Site → Type 0
AllFineSites p [] = ⊤
AllFineSites p (x ∷ xs) = Fine p x.around x.part × AllFineSites p xs

each-fine : (p : NamedPackageTree) (xs : List Site) → ((i : ℕ) (x : Site) → slice_get xs i ≡ Some x → Fine p x.around x.part) → AllFineSites p xs
each-fine p [] h = tt
each-fine p (x ∷ xs) h = (h 0 x refl, each-fine p xs (λ i y e. h (suc i) y e))

pub sites-fine : (p : NamedPackageTree) → deciding p ≡ None → AllFineSites p (sites p)
sites-fine p none = each-fine p (sites p) (λ i x e. part-fine p none x.around x.part (i, e))

pub sites-split : (p : NamedPackageTree) (xs ys : List Site) → AllFineSites p (xs ++ ys) → AllFineSites p xs × AllFineSites p ys
sites-split p [] ys h = (tt, h)
sites-split p (x ∷ xs) ys h = let rest = sites-split p xs ys h.1 in ((h.0, rest.0), rest.1)

pub parts-fine : (p : NamedPackageTree) (s : Setting) (xs : List Part) → AllFineSites p (at_sites s xs) → AllFine p s xs
parts-fine p s [] h = tt
parts-fine p s (x ∷ xs) h = (h.0, parts-fine p s xs h.1)

-- Constants that are there, each in its width.
pub record IsMade (o : Option Constant) : Type 0 where
  pub constant : Constant
  pub is : o ≡ Some constant
  pub fits : nat_lt constant.value (2 ^ bits_of constant.width) ≡ true

abbrev pub AllMade : List (Option Constant) → Type 0
AllMade [] = ⊤
AllMade (o ∷ os) = IsMade o × AllMade os

made-behind : (os : List (Option Constant)) (o : Option Constant) → AllMade os → IsMade o → AllMade (os ++ o ∷ [])
made-behind [] o h k = (k, tt)
made-behind (x ∷ xs) o h k = (h.0, made-behind xs o h.1 k)

pub made-at : (os : List (Option Constant)) (i : ℕ) → AllMade os → nat_lt i (length os) ≡ true → (c : Constant) × (slice_get os i ≡ Some (Some c)) × (nat_lt c.value (2 ^ bits_of c.width) ≡ true)
made-at [] i h k = absurd (grind (arith, nat_tests, k))
made-at (o ∷ os) zero h k = (h.0.constant, ap Some h.0.is, h.0.fits)
made-at (o ∷ os) (suc i) h k = made-at os i h.1 (grind (arith, nat_tests, k))

-- A number that lies in a numeric type.
constant-lies : (ty : Ty) (n : ℕ) → is_numeric ty ≡ true → HasRange ty → lies_in ty n ≡ true → IsMade (constant_in ty n)
constant-lies (types.Num width lo hi) n num range lies =
    let order = both (nat_le lo n) (nat_le n hi) lies in
    let bounds = both (nat_le lo hi) (nat_lt hi (2 ^ bits_of width)) (both (is_width (bits_of width)) (nat_le lo hi && nat_lt hi (2 ^ bits_of width)) range).1 in
    record { constant = record { width = width; value = n }; is = rw lies refl; fits = grind (arith, nat_tests, order.1, bounds.1) }
constant-lies ty n num range lies = absurd (cc num)

nothing-there : (i : ℕ) → is_some (option_map (λ (x : VarTree). x.of) (slice_get [] i)) ≡ true → ⊥
nothing-there zero h = cc h
nothing-there (suc i) h = cc h

-- Among constants that are there, those before are known.
pub constants-known : (p : NamedPackageTree) (known : List (Option Constant)) → AllMade known → (x : Variable) → is_some (type_of_variable (scope_of_const p (length known)) x) ≡ true
    → HasValue (variable (among_constants known) x)
constants-known p known made (variables.Const i) h =
    let it = made-at known i.0 made (within (nat_lt i.0 (length known)) _ h) in
    let P : Option (Option Constant) → Type 0 = λ o. HasValue (option_map as_constant (there o)) in
    subst P (sym it.1) (as_constant it.0, refl)
  where
    within : (b : Bool) (o : Option NamedTypeTree) → is_some (if b then o else None) ≡ true → b ≡ true
    within true o h = refl
    within false o h = absurd (cc h)
constants-known p known made (variables.Local i) h = absurd (nothing-there i.0 h)
constants-known p known made (variables.Field i) h = absurd (nothing-there i.0 h)
constants-known p known made (variables.Arg i) h = absurd (nothing-there i.0 h)

-- One constant.
pub record ConstantIs (known : List (Option Constant)) (c : ConstTree) : Type 0 where
  pub made : IsMade (constant_made known c)
  pub plain : (k : Kind) → kind_of c.of ≡ Some k → ⊥

no-kind : (ty : Ty) (k : Kind) → is_numeric ty ≡ true → kind_of_type ty ≡ Some k → ⊥
no-kind (types.Num width lo hi) k n h = cc h
no-kind ty k n h = cc n

constant-is : (p : NamedPackageTree) (known : List (Option Constant)) (c : ConstTree) → AllMade known
    → AllFine p (among_constants known) (constant_declared c ∷ (declared_parts roles.Const c.of ++ expr_parts c.value))
    → named_type (scope_of_const p (length known)) c.of ≡ true → named_expr (scope_of_const p (length known)) c.value ≡ true → ConstantIs known c
constant-is p known c made h types_named value_named =
    let s : Setting = among_constants known in
    let split = fine-split p s (declared_parts roles.Const c.of) (expr_parts c.value) h.1 in
    let front = constants-known p known made in
    let written_type = type-known p (scope_of_const p (length known)) s front c.of split.0.1 types_named in
    let declared_type = placed-known p s roles.Const c.of (λ e. cc e) split.0.0 split.0.1 written_type in
    let parts = declared-parts s roles.Const c.of declared_type.0 declared_type.1 in
    let value = expr-known p (scope_of_const p (length known)) s front c.value split.1 value_named in
    let number = numbered-known (meaning s c.value) value.0 value.1 (at-none _ _ (h.0 T1 value_no_number rows.value_no_number)) in
    let lies = both-hold lies_in (declared s roles.Const c.of) (number_of s c.value) declared_type.0 number.0 declared_type.1 number.1 (at-none _ _ (h.0 T5 value_outside rows.value_outside)) in
    let range = written-range s c.of declared_type.0 parts.is in
    let it = constant-lies declared_type.0 number.0 parts.may range lies in
    let D : Option Ty → Type 0 = λ o. IsMade (constant_with o (number_of s c.value)) in
    let N : Option ℕ → Type 0 = λ o. IsMade (constant_with (Some declared_type.0) o) in
    record {
      made = subst D (sym declared_type.1) (subst N (sym number.1) it);
      plain = λ k e. no-kind declared_type.0 k parts.may (type-kind s c.of declared_type.0 k parts.is e);
    }

-- All of them.
pub record ConstantsAre (known : List (Option Constant)) (cs : List ConstTree) : Type 0 where
  pub made : AllMade (constants_after known cs)
  pub count : length (constants_after known cs) ≡ length known + length cs
  pub plain : (i : ℕ) (c : ConstTree) → slice_get cs i ≡ Some c → (k : Kind) → kind_of c.of ≡ Some k → ⊥

pub constants-are : (p : NamedPackageTree) (known : List (Option Constant)) (cs : List ConstTree) → AllMade known → AllFineSites p (const_sites known cs)
    → named_consts p (length known) cs ≡ true → ConstantsAre known cs
constants-are p known [] made h n = record { made = made; count = omega arith; plain = λ i c e k f. none-at i c e }
  where
    none-at : (i : ℕ) (c : ConstTree) → slice_get [] i ≡ Some c → ⊥
    none-at zero c e = cc e
    none-at (suc i) c e = cc e
constants-are p known (c ∷ cs) made h n =
    let s : Setting = among_constants known in
    let here_parts : List Part = constant_declared c ∷ (declared_parts roles.Const c.of ++ expr_parts c.value) in
    let split = sites-split p (at_sites s here_parts) (const_sites (known ++ constant_made known c ∷ []) cs) h in
    let named = both (named_type (scope_of_const p (length known)) c.of && named_expr (scope_of_const p (length known)) c.value) (named_consts p (suc (length known)) cs) n in
    let both_named = both (named_type (scope_of_const p (length known)) c.of) (named_expr (scope_of_const p (length known)) c.value) named.0 in
    let it = constant-is p known c made (parts-fine p s here_parts split.0) both_named.0 both_named.1 in
    let longer : suc (length known) ≡ length (known ++ constant_made known c ∷ []) = grind (arith, length-append) in
    let N : ℕ → Type 0 = λ k. named_consts p k cs ≡ true in
    let rest = constants-are p (known ++ constant_made known c ∷ []) cs (made-behind known (constant_made known c) made it.made) split.1 (subst N longer named.1) in
    let counted : length (constants_after (known ++ constant_made known c ∷ []) cs) ≡ length (known ++ constant_made known c ∷ []) + length cs = rest.count in
    record { made = rest.made; count = grind (arith, counted, longer); plain = λ i d e k f. plain-at it.plain rest.plain i d e k f }
  where
    plain-at : ((k : Kind) → kind_of c.of ≡ Some k → ⊥) → ((i : ℕ) (d : ConstTree) → slice_get cs i ≡ Some d → (k : Kind) → kind_of d.of ≡ Some k → ⊥)
        → (i : ℕ) (d : ConstTree) → slice_get (c ∷ cs) i ≡ Some d → (k : Kind) → kind_of d.of ≡ Some k → ⊥
    plain-at one others zero d e k f = let same : d ≡ c = cc e in let P : ConstTree → Type 0 = λ x. kind_of x.of ≡ Some k in one k (subst P same f)
    plain-at one others (suc i) d e k f = others i d e k f
