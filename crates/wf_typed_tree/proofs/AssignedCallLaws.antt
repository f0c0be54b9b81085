-- Calls whose answer goes to the target of `=`.
use Rattle.std.proofs.Common.{◌≡◌, ℕ, ◌+◌, Bool, true, false, not, ◌&&◌, List, ◌∷◌, ◌++◌, length, Option, Some, None, refl, sym, ◌∙◌, subst, arith, nat_lt}
use Rattle.std.specs.Prelude.{option_map, is_some, slice_get, if◌then◌else◌}
use Rattle.wf_text.specs.declared.place.Place.{Place}
use Rattle.wf_text.specs.declared.rules.Rule.TheVariants.{T2}
use Rattle.wf_base.specs.declared.marks.Mark.{Mark}
use Rattle.wf_base.specs.declared.base_methods.Gives.{Gives}
use Rattle.wf_base.specs.declared.base_methods.Gives.TheVariants as gives
use Rattle.wf_base.specs.declared.base_methods.BaseSig.{BaseSig}
use Rattle.wf_base.specs.BaseTable.{row_of}
use Rattle.wf_ast.specs.declared.types.Ty.{Ty}
use Rattle.wf_ast.specs.declared.types.Ty.TheVariants as types
use Rattle.wf_ast.specs.TypedTree.{Target, Called, own, sub, assign, ValueTree}
use Rattle.wf_ast.specs.TypedTrees.{answer_of}
use Rattle.wf_ast.specs.WellTyped.{is_pure, is_coroutine, takes_answer, number_of, well_simple}
use Rattle.wf_ast.specs.TypedTree as typed
use Rattle.wf_named.specs.declared.nodes.NamedCallee.{NamedCallee}
use Rattle.wf_named.specs.declared.nodes.NamedCallee.TheVariants as callees
use Rattle.wf_named.specs.declared.nodes.NamedPath.{NamedPath}
use Rattle.wf_named.specs.NamedTree.{NamedTypeTree, answer, NamedArgTrees, NamedCallTree, call, NamedTargetTree, NamedMethodTree, NamedPackageTree}
use Rattle.wf_named.specs.WellNamed.{count_args, is_wanted, args_wanted, named_args, named_call, named_target}
use Rattle.wf_named.specs.Grammar.{by_grammar, args_by_grammar, target_by_grammar}
use Rattle.wf_types_rules.specs.declared.meanings.Meaning.{Meaning}
use Rattle.wf_types_rules.specs.declared.meanings.Meaning.TheVariants as meanings
use Rattle.wf_types_rules.specs.Meanings.{all_of, there}
use Rattle.wf_types_rules.specs.ExprTypes.{given_by_base, pure_answer}
use Rattle.wf_types_rules.specs.declared.settings.Role.TheVariants as roles
use Rattle.wf_types_rules.specs.DeclaredTypes.{declared, for_types, method_type}
use Rattle.wf_types_rules.specs.Parts.{target_parts, whole_call_parts, assigned}
use Rattle.wf_types_rules.specs.Judgements.{both_fail, base_arg, wanted, result_of, is_given_nothing, gives_no_value, are_arguments, answer_type, whole_answer, target_meaning, type_in, target_type, target_place, wrong_assigned, no_value_assigned}
use Rattle.wf_types_rules.specs.Judgements as judged
use Rattle.wf_types_rules.proofs.TypeRows as rows
use Rattle.wf_typed_tree.specs.ElaboratedExprs.{variable_tree, path_tree, arg_trees}
use Rattle.wf_typed_tree.specs.ElaboratedStmts.{target_tree, call_tree, assigned_call}
use Rattle.wf_typed_tree.specs.ElaboratedPackage.{type_declared}
use Rattle.wf_typed_tree.specs.MeaningTrees.{HasMeaning}
use Rattle.wf_typed_tree.proofs.NumberLemmas.{both}
use Rattle.wf_typed_tree.proofs.NoBreaks.{AllFine, fine-split, at-none, not-not, both-hold, there-of}
use Rattle.wf_typed_tree.proofs.VariableLaws.{answer-means}
use Rattle.wf_typed_tree.proofs.KnownMeanings.{HasValue, then-known}
use Rattle.wf_typed_tree.proofs.Agreement.{PackageIs, MethodIs, method-is, method-agrees, there-below, known-at}
use Rattle.wf_typed_tree.proofs.DeclarationLaws.{declared-is}
use Rattle.wf_typed_tree.proofs.ValueLaws.{fits-value}
use Rattle.wf_typed_tree.proofs.BodyLaws.{around, names, context, TargetIs}
use Rattle.wf_typed_tree.proofs.ArgLaws.{value-is}
use Rattle.wf_typed_tree.proofs.CallArgLaws.{args-taken}
use Rattle.wf_typed_tree.proofs.CalledLaws.{mark-same, Calls, own-calls, sub-calls, declared-args, call-keeps}
use Rattle.wf_typed_tree.proofs.CallStmtLaws.{same-marks, answer-taken, takes-same, goes, target-is, OnBase, on-base, base-wanted, base-call-keeps}

result-parts : {X : Type 0} (b : Bool) (f : NamedTypeTree → X) (o : Option NamedTypeTree) → is_some (if b then None else option_map f o) ≡ true → (b ≡ false) × HasValue o
result-parts true f o h = absurd (cc h)
result-parts false f None h = absurd (cc h)
result-parts false f (Some t) h = (refl, (t, refl))

result-given : (b : Bool) (f : NamedTypeTree → Option Ty) (o : Option NamedTypeTree) (t : NamedTypeTree) (ty : Ty) → b ≡ false → o ≡ Some t → f t ≡ Some ty
    → there (if b then None else option_map f o) ≡ Some ty
result-given b f o t ty e h k = rw (e, h) k

whole-value : (b : Bool) (o : Option Ty) (ty : Ty) → b ≡ true → o ≡ Some ty → (if b then option_map meanings.Typed o else None) ≡ Some (meanings.Typed ty)
whole-value b o ty e h = rw (e, h) refl

base-gives : (given : Gives) → is_given_nothing given ≡ false → HasValue (given_by_base given)
base-gives gives.Nothing h = absurd (cc h)
base-gives (gives.Num width) h = (all_of width, refl)
base-gives gives.Flag h = (types.Flag, refl)

pure-answer-is : (a b : Bool) (o : Option Ty) (ty : Ty) → a ≡ true → b ≡ true → o ≡ Some ty → (if a && b then option_map meanings.Typed o else None) ≡ Some (meanings.Typed ty)
pure-answer-is a b o ty e f h = rw (e, f, h) refl

impure : (b : Bool) → b ≡ false → not b ≡ true
impure b h = rw h refl

module _ (p : NamedPackageTree) (n : ℕ) (m : NamedMethodTree) (is : MethodIs p m) (whole : PackageIs p) where
  -- What a method of the package gives.
  method-assigned : (loops : List ℕ) (t : NamedTargetTree) (callee : NamedCallee) (called : Called) (at : Place) (mark : Mark) (args : NamedArgTrees) (it : Calls p n m is whole callee called)
      → count_args args ≡ length it.of.args → AllFine p (around p n m is) (target_parts t ++ whole_call_parts (call callee at mark args))
      → gives_no_value (around p n m is) callee ≡ false
      → both_fail judged.takes (target_type (around p n m is) t) (whole_answer (around p n m is) (call callee at mark args)) ≡ false
      → target_by_grammar t ≡ true → args_by_grammar args ≡ true → named_target (names p n m is) t ≡ true → named_args (names p n m is) args ≡ true
      → well_simple (context p n m is) loops (typed.invoke at (target_tree (around p n m is) t) false mark called (arg_trees (around p n m is) args)) ≡ true
  method-assigned loops t callee called at mark args it count h valued fails_to gt ga kt ka =
      let parts = fine-split p (around p n m is) (target_parts t) (whole_call_parts (call callee at mark args)) h in
      let to = target-is p n m is whole t parts.0 gt kt in
      let target : Target = target_tree (around p n m is) t in
      let given = not-not (is_some (result_of (method_type p it.of))) (sym it.gives ∙ valued) in
      let result = result-parts (is_coroutine it.of.mark) (declared (for_types p) (roles.Result it.of.mark)) it.of.gives given in
      let method = method-is p whole (number_of called) it.of it.at in
      let ty = method.gives result.1.0 result.1.1 in
      let answer_is : answer_type (around p n m is) callee ≡ Some ty.0 =
      it.answer ∙ result-given (is_coroutine it.of.mark) (declared (for_types p) (roles.Result it.of.mark)) it.of.gives result.1.0 ty.0 result.0 result.1.1 ty.1 in
      let taken = args-taken p n m is callee 0 args parts.1.1 ga ka
      (λ i low. let L : ℕ → Type 0 = λ l. nat_lt i l ≡ true in
      let x = there-of (slice_get it.of.args i) (there-below it.of.args i (subst L count low)) in
      let H : Option Ty → Type 0 = λ o. HasValue o in
      let plain : i ≡ 0 + i = omega arith in
      let V : ℕ → Type 0 = λ l. HasValue (wanted (around p n m is) callee l) in
      subst V plain (subst H (sym (declared-args p n m is whole callee called it i x.0 x.1)) (known-at p roles.Arg it.of.args method.args i x.0 x.1))) in
      let value = whole-value (are_arguments (around p n m is) callee 0 args) (answer_type (around p n m is) callee) ty.0 taken answer_is in
      let to_type = then-known type_in (target_meaning (around p n m is) t) (meanings.Typed to.ty) to.ty to.means refl in
      let fits = both-hold judged.takes (target_type (around p n m is) t) (whole_answer (around p n m is) (call callee at mark args)) to.ty (meanings.Typed ty.0) to_type value fails_to in
      let same = mark-same p n m is whole callee at mark it.of.mark args parts.1 it.mark in
      let G : Option NamedTypeTree → Type 0 = λ o. takes_answer (context p n m is) target false mark (option_map (type_declared p (roles.Result it.of.mark)) o) ≡ true in
      let D : Ty → Type 0 = λ z. takes_answer (context p n m is) target false mark (Some z) ≡ true in
      let answered = answer-taken (context p n m is) target mark it.of.mark ty.0 same result.0 (takes-same (context p n m is) target to.ty ty.0 fits to.accepts.takes) in
      call-keeps p n m is whole loops callee called target false at mark args it count parts.1 ga ka
      (subst G (sym result.1.1) (subst D (sym (declared-is p (roles.Result it.of.mark) result.1.0 ty.0 ty.1)) answered))

  -- What a base method gives.
  base-assigned : (loops : List ℕ) (t : NamedTargetTree) (on : NamedPath) (sig : BaseSig) (at : Place) (mark : Mark) (args : NamedArgTrees) (it : OnBase p n m is whole on sig (count_args args))
      → AllFine p (around p n m is) (target_parts t ++ whole_call_parts (call (callees.Base on sig) at mark args)) → gives_no_value (around p n m is) (callees.Base on sig) ≡ false
      → both_fail judged.takes (target_type (around p n m is) t) (whole_answer (around p n m is) (call (callees.Base on sig) at mark args)) ≡ false
      → target_by_grammar t ≡ true → args_by_grammar args ≡ true → named_target (names p n m is) t ≡ true → named_args (names p n m is) args ≡ true
      → well_simple (context p n m is) loops (assigned_call (around p n m is) (target_tree (around p n m is) t) (call (callees.Base on sig) at mark args)) ≡ true
  base-assigned loops t on sig at mark args it h valued fails_to gt ga kt ka =
      let parts = fine-split p (around p n m is) (target_parts t) (whole_call_parts (call (callees.Base on sig) at mark args)) h in
      let to = target-is p n m is whole t parts.0 gt kt in
      let N : Option Meaning → Type 0 = λ o. (is_some o && is_given_nothing (row_of sig).gives) ≡ false in
      let ty = base-gives (row_of sig).gives (subst N it.meant valued) in
      let A : Option Meaning → Type 0 = λ o. (if is_some o then given_by_base (row_of sig).gives else None) ≡ Some ty.0 in
      let answer_is : answer_type (around p n m is) (callees.Base on sig) ≡ Some ty.0 = subst A (sym it.meant) ty.1 in
      let taken = args-taken p n m is (callees.Base on sig) 0 args parts.1.1 ga ka
      (λ i low. let L : ℕ → Type 0 = λ l. nat_lt i l ≡ true in
      let a = there-of (slice_get (row_of sig).args i) (there-below (row_of sig).args i (subst L it.many low)) in
      let plain : i ≡ 0 + i = omega arith in
      let V : ℕ → Type 0 = λ l. HasValue (wanted (around p n m is) (callees.Base on sig) l) in
      subst V plain (base_arg (row_of sig).on a.0.1, base-wanted p n m is whole on sig (count_args args) it i a.0 a.1)) in
      let value = whole-value (are_arguments (around p n m is) (callees.Base on sig) 0 args) (answer_type (around p n m is) (callees.Base on sig)) ty.0 taken answer_is in
      let to_type = then-known type_in (target_meaning (around p n m is) t) (meanings.Typed to.ty) to.ty to.means refl in
      let fits = both-hold judged.takes (target_type (around p n m is) t) (whole_answer (around p n m is) (call (callees.Base on sig) at mark args)) to.ty (meanings.Typed ty.0) to_type value fails_to in
      by_mark to ty fits parts.1 (is_pure (row_of sig).mark) refl
    where
      by_mark : (to : TargetIs p n m is t) (ty : HasValue (given_by_base (row_of sig).gives)) → judged.takes to.ty (meanings.Typed ty.0) ≡ true
          → AllFine p (around p n m is) (whole_call_parts (call (callees.Base on sig) at mark args)) → (b : Bool) → is_pure (row_of sig).mark ≡ b
          → well_simple (context p n m is) loops
          (if b then typed.assign (target_tree (around p n m is) t) None (answer_of at sig (path_tree (around p n m is) on))
          else call_tree (around p n m is) (target_tree (around p n m is) t) false (call (callees.Base on sig) at mark args)) ≡ true
      by_mark to ty fits fine false e =
          base-call-keeps p n m is whole loops (target_tree (around p n m is) t) on sig at mark args it fine ga ka (impure (is_pure (row_of sig).mark) e)
          (goes (context p n m is) (target_tree (around p n m is) t) (row_of sig).gives to.ty ty.0 ty.1 fits to.accepts)
      by_mark to ty fits fine true e =
          let same = same-marks mark (row_of sig).mark (mark-same p n m is whole (callees.Base on sig) at mark (row_of sig).mark args fine refl) in
          let M : Mark → Type 0 = λ z. is_pure z ≡ true in
          let gives_it : pure_answer sig mark it.of ≡ Some (meanings.Typed ty.0) =
          pure-answer-is (is_pure (row_of sig).mark) (is_pure mark) (given_by_base (row_of sig).gives) ty.0 e (subst M (sym same) e) ty.1 in
          let P : Option Meaning → Type 0 = λ o. HasMeaning (context p n m is) (meanings.Typed ty.0) (answer_of at sig (variable_tree on.at on.of o)) in
          let tree = subst P (sym it.meant)
          (answer-means (names p n m is) (around p n m is) (context p n m is) (method-agrees p n m is) at on mark (meanings.Typed ty.0) sig it.of it.meant it.kind gives_it) in
          let of : ValueTree = answer_of at sig (path_tree (around p n m is) on) in
          to.accepts.assigned of
          (fits-value (context p n m is) to.ty (meanings.Typed ty.0) of fits (value-is p n m is (meanings.Typed ty.0) of tree) tree)

  pub call-assigned-keeps : (loops : List ℕ) (t : NamedTargetTree) (c : NamedCallTree) → AllFine p (around p n m is) (assigned t None (answer c) ∷ (target_parts t ++ whole_call_parts c))
      → target_by_grammar t ≡ true → by_grammar (answer c) ≡ true → named_target (names p n m is) t ≡ true → named_call (names p n m is) c ≡ true
      → well_simple (context p n m is) loops (assigned_call (around p n m is) (target_tree (around p n m is) t) c) ≡ true
  call-assigned-keeps loops t (call (callees.Own k) at mark args) h gt ga kt w =
      let parts = both (is_wanted (args_wanted (names p n m is) (callees.Own k)) (count_args args)) (named_args (names p n m is) args) w in
      let it = own-calls p n m is whole k (count_args args) parts.0 in
      method-assigned loops t (callees.Own k) (own k.0) at mark args it.0 it.1 h.1 (at-none _ (target_place t) (h.0 T2 no_value_assigned rows.no_value_assigned))
      (at-none _ (target_place t) (h.0 T2 wrong_assigned rows.wrong_assigned)) gt ga kt parts.1
  call-assigned-keeps loops t (call (callees.Sub x k) at mark args) h gt ga kt w =
      let parts = both (is_wanted (args_wanted (names p n m is) (callees.Sub x k)) (count_args args)) (named_args (names p n m is) args) w in
      let it = sub-calls p n m is whole x k (count_args args) parts.0 in
      method-assigned loops t (callees.Sub x k) (sub x.0 k.0) at mark args it.0 it.1 h.1 (at-none _ (target_place t) (h.0 T2 no_value_assigned rows.no_value_assigned))
      (at-none _ (target_place t) (h.0 T2 wrong_assigned rows.wrong_assigned)) gt ga kt parts.1
  call-assigned-keeps loops t (call (callees.Base on sig) at mark args) h gt ga kt w =
      let parts = both (is_wanted (args_wanted (names p n m is) (callees.Base on sig)) (count_args args)) (named_args (names p n m is) args) w in
      base-assigned loops t on sig at mark args (on-base p n m is whole on sig (count_args args) parts.0) h.1 (at-none _ (target_place t) (h.0 T2 no_value_assigned rows.no_value_assigned))
      (at-none _ (target_place t) (h.0 T2 wrong_assigned rows.wrong_assigned)) gt ga kt parts.1
