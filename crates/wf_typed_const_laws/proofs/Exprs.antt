-- A constant expression has the same value by the rules of names as by the rules of types, where the constants before it have.
use Rattle.std.proofs.Common.{◌≡◌, ℕ, suc, ◌+◌, ◌-◌, ◌^◌, ◌≤◌, Bool, true, false, ◌&&◌, List, [], ◌∷◌, ◌++◌, Option, Some, None, slice_get, nat_lt, refl, sym, ap, ◌∙◌, subst, arith}
use Rattle.std.specs.Bool.{⊤}
use Rattle.std.specs.List.{AllByRecursion, find, position_from}
use Rattle.std.specs.Prelude.{cond, if◌then◌else◌, is_some, option_map, option_and_then, bytes_eq, codes}
use Rattle.wf_text.specs.declared.place.Place.{Place}
use Rattle.wf_base.specs.declared.widths.Width.{Width}
use Rattle.wf_base.specs.BaseTable.{bits_of, row_of}
use Rattle.wf_ast.specs.WellTyped.{is_pure}
use Rattle.wf_ast.specs.declared.parsed.Root.{Root}
use Rattle.wf_ast.specs.declared.parsed.Root.TheVariants as roots
use Rattle.wf_ast.specs.declared.types.Ty.{Ty}
use Rattle.wf_ast.specs.ParsedTree as parsed
use Rattle.wf_ast.specs.ParsedTree.{ExprTree, LinkTrees, TypeTree}
use Rattle.wf_ast.specs.TypedTrees.{operator_kind}
use Rattle.wf_ast.specs.WellFormed.{formed_expr, formed_links, formed_type, has_its_operands}
use Rattle.wf_ast.proofs.BoolLemmas.{both}
use Rattle.wf_named.specs.declared.nodes.BaseType.{BaseType}
use Rattle.wf_named.specs.declared.nodes.BaseType.TheVariants as bases
use Rattle.wf_named.specs.declared.nodes.NamedCallee.TheVariants as callees
use Rattle.wf_named.specs.NamedTree as named
use Rattle.wf_named.specs.NamedTree.{NamedCallTree}
use Rattle.wf_names_rules.specs.Declarations.{Declared, Variable, is_spelt, text_of, variable_named, place_in}
use Rattle.wf_names_rules.specs.Meanings.{width_named, sort_at, known_at}
use Rattle.wf_names_rules.specs.Uses.{Scope, uses_of, link_uses, type_uses}
use Rattle.wf_names_rules.specs.Sizes.{hidden_by}
use Rattle.wf_names_rules.specs.ConstantValues.{Sized, Valued, known_value, named_value, started, ended, value_of, links_value}
use Rattle.wf_names_rules.specs.ConstantValues as by_names
use Rattle.wf_names_resolve.specs.Standing.{Standing, standing_at}
use Rattle.wf_names_resolve.specs.Resolved.{variable_at, bare_variable, resolved_expr, resolved_links, resolved_part, resolved_call, resolved_type, base_type_named, sized_type, plain_type_named}
use Rattle.wf_types_rules.specs.declared.meanings.Meaning.{Meaning}
use Rattle.wf_types_rules.specs.declared.meanings.Meaning.TheVariants as meanings
use Rattle.wf_types_rules.specs.declared.meanings.Constant.{Constant}
use Rattle.wf_types_rules.specs.declared.meanings.Operand.{Operand}
use Rattle.wf_types_rules.specs.declared.settings.Setting.{Setting}
use Rattle.wf_types_rules.specs.DeclaredTypes.{among_constants}
use Rattle.wf_types_rules.specs.Meanings.{variable, there, as_constant, is_value, is_flag, is_number, all_of, place_of}
use Rattle.wf_types_rules.specs.Operands.{meaning_of_operator}
use Rattle.wf_types_rules.specs.ExprTypes.{meaning, only_where, in_front, operand_at, operands_behind, answer_inside, pure_answer, given_by_base, if_number, if_end, element_of, slice_in}
use Rattle.wf_types_rules.specs.ExprTypes as by_types
use Rattle.wf_typed_laws.proofs.ListLemmas.{all-front, all-behind}
use Rattle.wf_typed_const_laws.specs.OneValue.{HasValue, HasConstant, IsKnown}
use Rattle.wf_typed_const_laws.proofs.Operators.{test-lt, fits}
use Rattle.wf_typed_const_laws.proofs.Chains.{LinksHave, chain-value}

-- Constants as both tables know them.
abbrev pub Agree : List Valued → List Variable → List (Option Constant) → Type 0
Agree [] [] [] = ⊤
Agree [] [] (c ∷ cs) = ⊥
Agree [] (v ∷ vs) cs = ⊥
Agree (k ∷ ks) [] cs = ⊥
Agree (k ∷ ks) (v ∷ vs) [] = ⊥
Agree (k ∷ ks) (v ∷ vs) (c ∷ cs) = (k.name ≡ v.name) × (HasConstant k.value c × Agree ks vs cs)

pub agree-more : (ks : List Valued) (vs : List Variable) (cs : List (Option Constant)) (k : Valued) (v : Variable) (c : Option Constant) → Agree ks vs cs → k.name ≡ v.name → HasConstant k.value c
    → Agree (ks ++ k ∷ []) (vs ++ v ∷ []) (cs ++ c ∷ [])
agree-more [] [] [] k v c a n h = (n, (h, tt))
agree-more [] [] (x ∷ cs) k v c a n h = absurd a
agree-more [] (x ∷ vs) cs k v c a n h = absurd a
agree-more (x ∷ ks) [] cs k v c a n h = absurd a
agree-more (x ∷ ks) (y ∷ vs) [] k v c a n h = absurd a
agree-more (x ∷ ks) (y ∷ vs) (z ∷ cs) k v c a n h = (a.0, (a.1.0, agree-more ks vs cs k v c a.1.1 n h))

-- What a name stands for.
none-named : (text b : ℕ) (vs : List Variable) → position_from (λ v. is_spelt text v.name) b vs ≡ None → variable_named vs text ≡ None
none-named text b [] e = refl
none-named text b (v ∷ vs) e = by (is_spelt text v.name) e (none-named text (b + 1) vs)
  where
    by : (t : Bool) → cond t (Some b) (position_from (λ v. is_spelt text v.name) (b + 1) vs) ≡ None → (position_from (λ v. is_spelt text v.name) (b + 1) vs ≡ None → variable_named vs text ≡ None)
        → cond t (Some v) (variable_named vs text) ≡ None
    by true e more = absurd (cc e)
    by false e more = more e

lookup : (text b n : ℕ) (ks : List Valued) (vs : List Variable) (cs : List (Option Constant)) → Agree ks vs cs → position_from (λ v. is_spelt text v.name) b vs ≡ Some n
    → (b ≤ n) × HasConstant (known_value (find (λ k. is_spelt text k.name) ks)) (there (slice_get cs (n - b)))
lookup text b n [] [] [] a e = absurd (cc e)
lookup text b n [] [] (c ∷ cs) a e = absurd a
lookup text b n [] (v ∷ vs) cs a e = absurd a
lookup text b n (k ∷ ks) [] cs a e = absurd a
lookup text b n (k ∷ ks) (v ∷ vs) [] a e = absurd a
lookup text b n (k ∷ ks) (v ∷ vs) (c ∷ cs) a e = by (is_spelt text v.name) (ap (is_spelt text) a.0) e (lookup text (b + 1) n ks vs cs a.1.1)
  where
    by : (t : Bool) → is_spelt text k.name ≡ t → cond t (Some b) (position_from (λ v. is_spelt text v.name) (b + 1) vs) ≡ Some n
        → (position_from (λ v. is_spelt text v.name) (b + 1) vs ≡ Some n → (b + 1 ≤ n) × HasConstant (known_value (find (λ k. is_spelt text k.name) ks)) (there (slice_get cs (n - (b + 1)))))
        → (b ≤ n) × HasConstant (known_value (find (λ k. is_spelt text k.name) (k ∷ ks))) (there (slice_get (c ∷ cs) (n - b)))
    by true own e more =
        let same : b ≡ n = cc e in
        let none : n - b ≡ 0 = omega (arith, same) in
        let P : Bool → Type 0 = λ t. HasConstant (known_value (cond t (Some k) (find (λ k. is_spelt text k.name) ks))) (there (slice_get (c ∷ cs) (n - b))) in
        let Q : ℕ → Type 0 = λ i. HasConstant k.value (there (slice_get (c ∷ cs) i)) in
        (omega (arith, same), subst P (sym own) (subst Q (sym none) a.1.0))
    by false own e more =
        let m = more e in
        let next : n - b ≡ suc (n - (b + 1)) = omega (arith, m.0) in
        let P : Bool → Type 0 = λ t. HasConstant (known_value (cond t (Some k) (find (λ k. is_spelt text k.name) ks))) (there (slice_get (c ∷ cs) (n - b))) in
        let Q : ℕ → Type 0 = λ i. HasConstant (known_value (find (λ k. is_spelt text k.name) ks)) (there (slice_get (c ∷ cs) i)) in
        (omega (arith, m.0), subst P (sym own) (subst Q (sym next) m.1))

-- What has a type alone has no value by the rules of types.
typed-only : (x : Option Sized) (ty : Option Ty) → HasValue x (option_map meanings.Typed ty)
typed-only x None = tt
typed-only x (Some ty) = tt

typed-where : (x : Option Sized) (test : Meaning → Bool) (ty : Option Ty) → HasValue x (option_and_then (only_where test) (option_map meanings.Typed ty))
typed-where x test None = tt
typed-where x test (Some ty) = by (test (meanings.Typed ty))
  where
    by : (t : Bool) → HasValue x (if t then Some (meanings.Typed ty) else None)
    by true = tt
    by false = tt

flag-only : (x : Option Sized) (m : Option Meaning) → HasValue x (option_and_then (only_where is_flag) m)
flag-only x None = tt
flag-only x (Some (meanings.Constant width n)) = tt
flag-only x (Some (meanings.Typed ty)) = typed-where x is_flag (Some ty)

answer-only : (x : Option Sized) (s : Setting) (c : NamedCallTree) → HasValue x (answer_inside s c)
answer-only x s (named.call (callees.Base on sig) at mark args) = by (variable s on.of)
  where
    given : (t : Bool) (ty : Option Ty) → HasValue x (if t then option_map meanings.Typed ty else None)
    given true ty = typed-only x ty
    given false ty = tt

    by : (m : Option Meaning) → HasValue x (option_and_then (pure_answer sig mark) m)
    by None = tt
    by (Some m) = given (is_pure (row_of sig).mark && is_pure mark) (given_by_base (row_of sig).gives)
answer-only x s (named.call (callees.Own m) at mark args) = tt
answer-only x s (named.call (callees.Sub f m) at mark args) = tt

as-value : (x : Option Sized) (c : Option Constant) → HasConstant x c → HasValue x (option_and_then (only_where is_value) (option_map as_constant c))
as-value x None h = tt
as-value x (Some c) h = h

-- The width that `as` names.
plain-named : (bytes : List ℕ) (at : Place) → by_types.plain_width (named.base_type (plain_type_named bytes) at named.unrefined) ≡ None
plain-named bytes at = by (bytes_eq bytes (codes "bool")) (bytes_eq bytes (codes "io_reader")) (bytes_eq bytes (codes "io_writer"))
  where
    by : (x y z : Bool) → by_types.plain_width (named.base_type (if x then Some bases.Flag else if y then Some bases.Reader else if z then Some bases.Writer else None) at named.unrefined) ≡ None
    by true y z = refl
    by false true z = refl
    by false false true = refl
    by false false false = refl

module _ (d : Declared) (scope : Scope) where
  abbrev k : Standing
  k = standing_at d scope

  pub width-same : (t : TypeTree) → by_types.plain_width (resolved_type k t) ≡ by_names.plain_width d t
  width-same (parsed.slice_of at element) = refl
  width-same (parsed.array_of length at element) = refl
  width-same (parsed.base_type name at parsed.unrefined) = by (width_named (text_of d name.text.0))
    where
      by : (w : Option Width) → by_types.plain_width (named.base_type (sized_type w (plain_type_named (text_of d name.text.0))) at named.unrefined) ≡ w
      by None = plain-named (text_of d name.text.0) at
      by (Some w) = refl
  width-same (parsed.base_type name at (parsed.refined low high)) = by (base_type_named (text_of d name.text.0))
    where
      by : (b : Option BaseType) → by_types.plain_width (named.base_type b at (named.refined (resolved_part k low) (resolved_expr k high))) ≡ None
      by None = refl
      by (Some (bases.Number width)) = refl
      by (Some bases.Flag) = refl
      by (Some bases.Status) = refl
      by (Some bases.Reader) = refl
      by (Some bases.Writer) = refl
  width-same (parsed.status_type at parsed.unrefined) = refl
  width-same (parsed.status_type at (parsed.refined low high)) = refl
  width-same (parsed.struct_type name) = refl

  module _ (known : List Valued) (cs : List (Option Constant)) (agree : Agree known scope.constants cs) where
    abbrev s : Setting
    s = among_constants cs

    abbrev hidden : ℕ → Bool
    hidden = hidden_by scope.locals

    path-value : (root : Root) (text : ℕ) → (sort_at (known_at d scope) root text ≡ None → ⊥)
        → HasValue (named_value hidden known root text) (option_and_then (only_where is_value) (variable s (variable_at k root text)))
    path-value roots.This text h = tt
    path-value roots.Args text h = tt
    path-value roots.Bare text h = by (place_in scope.locals text) refl (place_in scope.constants text) refl
      where
        by : (x : Option ℕ) → place_in scope.locals text ≡ x → (y : Option ℕ) → place_in scope.constants text ≡ y
            → HasValue (named_value hidden known roots.Bare text) (option_and_then (only_where is_value) (variable s (bare_variable x y)))
        by (Some n) e y g = tt
        by None e None g = absurd (h (rw (none-named text 0 scope.locals e, none-named text 0 scope.constants g) refl))
        by None e (Some i) g =
            let found = lookup text 0 i known scope.constants cs agree g in
            let whole : i - 0 ≡ i = omega arith in
            let P : ℕ → Type 0 = λ j. HasConstant (known_value (find (λ k. is_spelt text k.name) known)) (there (slice_get cs j)) in
            let open_ : hidden text ≡ false = ap is_some (none-named text 0 scope.locals e) in
            let Q : Bool → Type 0 = λ t. HasValue (if t then None else known_value (find (λ k. is_spelt text k.name) known)) (option_and_then (only_where is_value) (option_map as_constant (there (slice_get cs i)))) in
            subst Q (sym open_) (as-value (known_value (find (λ k. is_spelt text k.name) known)) (there (slice_get cs i)) (subst P whole found.1))

    converted-value : (x : Option Sized) (m : Option Meaning) (w : Option Width) → HasValue x m → HasValue (by_names.converted w x) (option_and_then (by_types.converted w) m)
    converted-value x None w h = tt
    converted-value x (Some m) None h = tt
    converted-value x (Some (meanings.Typed ty)) (Some w) h = by (is_number (meanings.Typed ty))
      where
        by : (t : Bool) → HasValue (by_names.converted (Some w) x) (if t then Some (meanings.Typed (all_of w)) else None)
        by true = tt
        by false = tt
    converted-value x (Some (meanings.Constant own n)) (Some w) h = by (nat_lt n (2 ^ bits_of w)) refl
      where
        by : (t : Bool) → nat_lt n (2 ^ bits_of w) ≡ t → HasValue (by_names.converted (Some w) x) (if t then Some (meanings.Constant (Some w) n) else None)
        by true e =
            let below = test-lt n (2 ^ bits_of w) e in
            (ap (by_names.converted (Some w)) h.0 ∙ fits (Some w) n below, below)
        by false e = tt

    mutual
      pub expr-value : (e : ExprTree) → formed_expr e ≡ true → AllByRecursion (IsKnown d scope) (uses_of e) → HasValue (value_of d hidden known e) (meaning s (resolved_expr k e))
      expr-value (parsed.number value at) f u = let below = test-lt value (2 ^ 64) f in (fits None value below, below)
      expr-value (parsed.own_status text) f u = tt
      expr-value (parsed.base_status text at) f u = tt
      expr-value (parsed.fine at) f u = tt
      expr-value (parsed.truth value at) f u = tt
      expr-value (parsed.path path) f u = path-value path.root path.name.text.0 u.0
      expr-value (parsed.index base place at) f u =
          typed-only (value_of d hidden known (parsed.index base place at)) (if_number (meaning s (resolved_expr k place)) (option_and_then element_of (variable s (variable_at k base.root base.name.text.0))))
      expr-value (parsed.slice base from to at) f u =
          typed-only (value_of d hidden known (parsed.slice base from to at))
          (if_end s (resolved_part k from) (if_end s (resolved_part k to) (option_and_then slice_in (variable s (variable_at k base.root base.name.text.0)))))
      expr-value (parsed.answer c) f u = answer-only (value_of d hidden known (parsed.answer c)) s (resolved_call k c)
      expr-value (parsed.chain op first links at) f u =
          let forms = both (has_its_operands op links) (formed_expr first && formed_links links) f in
          let parts = both (formed_expr first) (formed_links links) forms.1 in
          let here = expr-value first parts.0 (all-front (IsKnown d scope) (uses_of first) (link_uses links) u) in
          let others = link-values links parts.1 (all-behind (IsKnown d scope) (uses_of first) (link_uses links) u) in
          chained (meaning s (resolved_expr k first)) here (operands_behind s (resolved_links k links)) others
        where
          chained : (m : Option Meaning) → HasValue (value_of d hidden known first) m → (os : Option (List Operand)) → ((all : List Operand) → os ≡ Some all → LinksHave d hidden known links all)
              → HasValue (ended (links_value d hidden known op (started (value_of d hidden known first)) links))
              (option_and_then (meaning_of_operator (operator_kind op)) (in_front (option_map (operand_at (place_of (resolved_expr k first))) m) os))
          chained None h os l = tt
          chained (Some m) h None l = tt
          chained (Some m) h (Some os) l = chain-value d hidden known first links (record { at = place_of (resolved_expr k first); of = m }) os h (l os refl) op
      expr-value (parsed.convert of to at) f u =
          let parts = both (formed_expr of) (formed_type to) f in
          let here = expr-value of parts.0 (all-front (IsKnown d scope) (uses_of of) (type_uses to) u) in
          let P : Option Width → Type 0 = λ w. HasValue (by_names.converted (by_names.plain_width d to) (value_of d hidden known of)) (option_and_then (by_types.converted w) (meaning s (resolved_expr k of))) in
          subst P (sym (width-same to)) (converted-value (value_of d hidden known of) (meaning s (resolved_expr k of)) (by_names.plain_width d to) here)
      expr-value (parsed.negation of at) f u = flag-only (value_of d hidden known (parsed.negation of at)) (meaning s (resolved_expr k of))

      link-values : (links : LinkTrees) → formed_links links ≡ true → AllByRecursion (IsKnown d scope) (link_uses links) → (os : List Operand) → operands_behind s (resolved_links k links) ≡ Some os
          → LinksHave d hidden known links os
      link-values parsed.no_link f u os e = let same : [] ≡ os = cc e in subst (LinksHave d hidden known parsed.no_link) same tt
      link-values (parsed.link sign operand others) f u os e =
          let parts = both (formed_expr operand) (formed_links others) f in
          let here = expr-value operand parts.0 (all-front (IsKnown d scope) (uses_of operand) (link_uses others) u) in
          let more = link-values others parts.1 (all-behind (IsKnown d scope) (uses_of operand) (link_uses others) u) in
          linked (meaning s (resolved_expr k operand)) here (operands_behind s (resolved_links k others)) more e
        where
          linked : (m : Option Meaning) → HasValue (value_of d hidden known operand) m → (rest : Option (List Operand)) → ((all : List Operand) → rest ≡ Some all → LinksHave d hidden known others all)
              → in_front (option_map (operand_at (place_of (resolved_expr k operand))) m) rest ≡ Some os → LinksHave d hidden known (parsed.link sign operand others) os
          linked None h rest l e = absurd (cc e)
          linked (Some m) h None l e = absurd (cc e)
          linked (Some m) h (Some rest) l e =
              let same : record { at = place_of (resolved_expr k operand); of = m } ∷ rest ≡ os = cc e in
              subst (LinksHave d hidden known (parsed.link sign operand others)) same (h, l rest refl)
