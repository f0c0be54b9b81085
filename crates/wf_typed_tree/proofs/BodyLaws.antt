-- Values, conditions and targets in the body of a method of a package that breaks no rule.
use Rattle.std.proofs.Common.{◌≡◌, ℕ, Bool, true, false, not, Option, Some, None, refl, sym, ap, ◌∙◌, subst}
use Rattle.std.specs.Prelude.{option_and_then, is_some, if◌then◌else◌}
use Rattle.wf_text.specs.declared.place.Place.{Place}
use Rattle.wf_text.specs.declared.rules.Rule.TheVariants.{T2, T3, E1}
use Rattle.wf_base.specs.declared.widths.Width.{Width}
use Rattle.wf_base.specs.BaseTable.{bits_of}
use Rattle.wf_ast.specs.declared.types.Ty.{Ty}
use Rattle.wf_ast.specs.declared.types.Ty.TheVariants as types
use Rattle.wf_ast.specs.TypedTree.{NumType, NumTree, SliceTree, read, element, numeric}
use Rattle.wf_ast.specs.TypedTrees.{num_in, cond_in, slice_in, target_of}
use Rattle.wf_ast.specs.WellTyped.{Context, type_at, is_range, is_number, is_flag, is_status, is_slice, is_pure, well_part, well_cond, width_of, may_write}
use Rattle.wf_named.specs.declared.nodes.NamedPath.{NamedPath}
use Rattle.wf_named.specs.declared.nodes.Variable.{Variable}
use Rattle.wf_named.specs.declared.nodes.Variable.TheVariants as variables
use Rattle.wf_named.specs.NamedTree.{NamedExprTree, index, NamedTargetTree, to_path, to_element, NamedMethodTree, NamedPackageTree}
use Rattle.wf_named.specs.WellNamed.{NamedScope, type_of_variable, named_expr, named_target, fields_in, scope_of_method}
use Rattle.wf_named.specs.Grammar.{by_grammar}
use Rattle.wf_types_rules.specs.declared.meanings.Meaning.{Meaning}
use Rattle.wf_types_rules.specs.declared.meanings.Meaning.TheVariants as meanings
use Rattle.wf_types_rules.specs.Meanings as meant
use Rattle.wf_types_rules.specs.declared.settings.Setting.{Setting}
use Rattle.wf_types_rules.specs.Meanings.{variable, is_value, place_of}
use Rattle.wf_types_rules.specs.ExprTypes.{element_of, if_number, meaning}
use Rattle.wf_types_rules.specs.declared.settings.Role.TheVariants as roles
use Rattle.wf_types_rules.specs.DeclaredTypes.{in_method}
use Rattle.wf_types_rules.specs.Parts.{target, expr_parts, target_parts, condition_parts}
use Rattle.wf_types_rules.specs.Judgements.{fails, wrong_condition, wrong_target, is_no_target, target_meaning, impure_write}
use Rattle.wf_types_rules.proofs.TypeRows as rows
use Rattle.wf_typed_tree.specs.ElaboratedExprs.{path_to, variable_tree, path_tree, expr_tree}
use Rattle.wf_typed_tree.specs.ElaboratedStmts.{written_to, target_tree}
use Rattle.wf_typed_tree.specs.ElaboratedPackage.{context_of}
use Rattle.wf_typed_tree.specs.MeaningTrees.{IsNumber, HasMeaning}
use Rattle.wf_typed_tree.proofs.NumberLemmas.{and-true, same-self, same-type, then-parts, map-parts}
use Rattle.wf_typed_tree.proofs.NoBreaks.{Fine, AllFine, at-none, holds}
use Rattle.wf_typed_tree.proofs.OperandLaws.{condition-of, cond-well}
use Rattle.wf_typed_tree.proofs.VariableLaws.{variable-means}
use Rattle.wf_typed_tree.proofs.ExprLaws.{expr-means, numbered}
use Rattle.wf_typed_tree.proofs.KnownMeanings.{expr-known}
use Rattle.wf_typed_tree.proofs.Agreement.{MethodIs, method-known, method-agrees, meaning-parts}
use Rattle.wf_typed_tree.proofs.ValueLaws.{Accepts, number-accepts, element-accepts, flag-accepts, status-accepts, slice-accepts, element-num, not-pure}

-- An element that is a number is written to.
element-takes : (c : Context) (at : Place) (width : Width) (lo hi : ℕ) (of : NumType) (cells : SliceTree) (i : NumTree) → not (is_pure c.method.mark) ≡ true
    → IsNumber c (bits_of width) (numeric (element at of cells i)) → Accepts c (types.Num width lo hi) (target_of (numeric (element at of cells i)))
element-takes c at width lo hi of cells i may tree =
    let same : element at of cells i ≡ tree.tree = cc tree.is in
    let W : NumTree → Type 0 = λ t. width_of t ≡ Some (bits_of width) in
    let P : NumTree → Type 0 = λ t. well_part c t ≡ true in
    let bits : Some of.bits ≡ Some (bits_of width) = subst W (sym same) tree.width in
    let well : well_part c (element at of cells i) ≡ true = subst P (sym same) tree.well in
    element-accepts c at width lo hi of cells i may (cc bits) well

module _ (p : NamedPackageTree) (n : ℕ) (m : NamedMethodTree) (is : MethodIs p m) where
  abbrev pub around : Setting
  around = in_method p m

  abbrev pub names : NamedScope
  names = scope_of_method p m

  abbrev pub context : Context
  context = context_of p n m

  pub record ValueOf (e : NamedExprTree) : Type 0 where
    pub of : Meaning
    pub means : meaning around e ≡ Some of
    pub tree : HasMeaning context of (expr_tree around e)

  pub value-of : (e : NamedExprTree) → AllFine p around (expr_parts e) → by_grammar e ≡ true → named_expr names e ≡ true → ValueOf e
  value-of e h g k =
      let it = expr-known p names around (method-known p m is) e h k in
      record { of = it.0; means = it.1; tree = expr-means names around context (method-agrees p n m is) e it.0 g k it.1 }

  -- A condition.
  pub condition-keeps : (e : NamedExprTree) → AllFine p around (condition_parts e) → by_grammar e ≡ true → named_expr names e ≡ true → well_cond context (cond_in (expr_tree around e)) ≡ true
  condition-keeps e h g k =
      let it = value-of e h.1 g k in
      let flag = holds meant.is_flag (meaning around e) it.of it.means (at-none (fails meant.is_flag (meaning around e)) (place_of e) (h.0 T3 wrong_condition rows.wrong_condition)) in
      cond-well context (expr_tree around e) (condition-of context it.of (expr_tree around e) flag it.tree)

  -- A target.
  pub record TargetIs (t : NamedTargetTree) : Type 0 where
    pub ty : Ty
    pub means : target_meaning around t ≡ Some (meanings.Typed ty)
    pub value : HasMeaning context (meanings.Typed ty) (written_to around t)
    pub accepts : Accepts context ty (target_tree around t)

  path-accepts : (at : Place) (x : Variable) (ty : Ty) → may_write m.mark (path_to x) ≡ true → variable around x ≡ Some (meanings.Typed ty) → is_value (meanings.Typed ty) ≡ true
      → Accepts context ty (target_of (variable_tree at x (Some (meanings.Typed ty))))
  path-accepts at x (types.Num width lo hi) may h v =
      let of : NumType = record { bits = bits_of width; low = lo; high = hi } in
      let agree = method-agrees p n m is in
      let P : Option Ty → Type 0 = λ o. is_number of o ≡ true in
      let well : well_part context (read at of (path_to x)) ≡ true =
      and-true (is_range of) (is_number of (type_at context (path_to x))) (agree.sound x (types.Num width lo hi) h) (subst P (sym (agree.declared x (types.Num width lo hi) h)) (same-type of)) in
      number-accepts context at width lo hi (path_to x) may well
  path-accepts at x types.Flag may h v =
      let agree = method-agrees p n m is in
      let P : Option Ty → Type 0 = λ o. is_flag o ≡ true in flag-accepts context at (path_to x) may (subst P (sym (agree.declared x types.Flag h)) refl)
  path-accepts at x types.Status may h v =
      let agree = method-agrees p n m is in
      let P : Option Ty → Type 0 = λ o. is_status o ≡ true in status-accepts context at (path_to x) may (subst P (sym (agree.declared x types.Status h)) refl)
  path-accepts at x (types.Slice width) may h v =
      let agree = method-agrees p n m is in
      let P : Option Ty → Type 0 = λ o. is_slice (bits_of width) o ≡ true in
      slice-accepts context at width (path_to x) may (subst P (sym (agree.declared x (types.Slice width) h)) (same-self (bits_of width)))
  path-accepts at x ty may h v = absurd (cc v)

  path-target : (at : Place) (x : Variable) (ty : Ty) → may_write m.mark (path_to x) ≡ true → variable around x ≡ Some (meanings.Typed ty)
      → is_no_target around (to_path (record { of = x; at = at })) ≡ false → is_value (meanings.Typed ty) ≡ true → TargetIs (to_path (record { of = x; at = at }))
  path-target at x ty may h open_target v =
      let V : Option Meaning → Type 0 = λ o. HasMeaning context (meanings.Typed ty) (variable_tree at x o) in
      let A : Option Meaning → Type 0 = λ o. Accepts context ty (target_of (variable_tree at x o)) in
      let M : Bool → Type 0 = λ b. (if b then None else variable around x) ≡ Some (meanings.Typed ty) in
      record {
        ty = ty;
        means = subst M (sym open_target) h;
        value = subst V (sym h) (variable-means names around context (method-agrees p n m is) at x (meanings.Typed ty) h v);
        accepts = subst A (sym h) (path-accepts at x ty may h v);
      }

  pub variable-target : (at : Place) (x : Variable) → Fine p around (target (to_path (record { of = x; at = at }))) → is_some (type_of_variable names x) ≡ true
      → TargetIs (to_path (record { of = x; at = at }))
  variable-target at (variables.Const i) fine k = absurd (cc (fine T2 wrong_target rows.wrong_target))
  variable-target at (variables.Arg i) fine k = absurd (cc (fine T2 wrong_target rows.wrong_target))
  variable-target at (variables.Local i) fine k =
      let it = method-known p m is (variables.Local i) k in
      let of = meaning-parts p roles.Local m.locals i.0 it.0 it.1 in
      let open_target = at-none (is_no_target around (to_path (record { of = variables.Local i; at = at }))) at (fine T2 wrong_target rows.wrong_target) in
      let V : Meaning → Type 0 = λ z. variable around (variables.Local i) ≡ Some z in
      let typed = subst V (sym of.2) it.1 in
      path-target at (variables.Local i) of.0 refl typed open_target (holds is_value (variable around (variables.Local i)) (meanings.Typed of.0) typed open_target)
  variable-target at (variables.Field i) fine k =
      let it = method-known p m is (variables.Field i) k in
      let of = meaning-parts p roles.Field (fields_in p (Some m.of)) i.0 it.0 it.1 in
      let open_target = at-none (is_no_target around (to_path (record { of = variables.Field i; at = at }))) at (fine T2 wrong_target rows.wrong_target) in
      let impure = at-none (is_pure m.mark) at (fine E1 impure_write rows.impure_write) in
      let V : Meaning → Type 0 = λ z. variable around (variables.Field i) ≡ Some z in
      let typed = subst V (sym of.2) it.1 in
      path-target at (variables.Field i) of.0 (not-pure (is_pure m.mark) impure) typed open_target (holds is_value (variable around (variables.Field i)) (meanings.Typed of.0) typed open_target)

  pub element-target : (q : NamedPath) (i : NamedExprTree) (at : Place) → AllFine p around (target_parts (to_element q i at)) → by_grammar i ≡ true → named_target names (to_element q i at) ≡ true
      → TargetIs (to_element q i at)
  element-target q i at h g k =
      let it = value-of (index q i at) h.1 g k in
      let whole = map-parts meanings.Typed (if_number (meaning around i) (option_and_then element_of (variable around q.of))) it.of it.means in
      let place = numbered (meaning around i) (option_and_then element_of (variable around q.of)) whole.of whole.is in
      let base = then-parts element_of (variable around q.of) whole.of place.gives in
      let num = element-num base.of whole.of base.gives in
      let typed : meanings.Typed (types.Num num.0 num.1 num.2) ≡ it.of = ap meanings.Typed (sym num.3) ∙ whole.gives in
      let H : Meaning → Type 0 = λ z. HasMeaning context z (expr_tree around (index q i at)) in
      let tree : IsNumber context (bits_of num.0) (expr_tree around (index q i at)) = subst H (sym typed) it.tree in
      let impure = at-none (is_pure m.mark) at (h.0 E1 impure_write rows.impure_write) in
      let M : Meaning → Type 0 = λ z. meaning around (index q i at) ≡ Some z in
      let means = subst M (sym typed) it.means in
      record {
        ty = types.Num num.0 num.1 num.2;
        means = means;
        value = tree;
        accepts = element-takes context at num.0 num.1 num.2 _ (slice_in (path_tree around q)) (num_in (expr_tree around i)) (not-pure (is_pure m.mark) impure) tree;
      }
