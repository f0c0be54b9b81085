-- Calls of the package's methods, as statements: the method that is called, its mark, its arguments and its answer.
use Rattle.std.proofs.Common.{◌≡◌, ℕ, ◌+◌, Bool, true, false, not, ◌&&◌, List, length, map, Option, Some, None, refl, sym, ap, ◌∙◌, subst, arith, nat_eq}
use Rattle.std.specs.Prelude.{option_map, option_and_then, is_some, slice_get, if◌then◌else◌}
use Rattle.std.proofs.lemmas.Bool.Decides.{nat_tests}
use Rattle.std.proofs.lemmas.Option.{slice_get-map}
use Rattle.wf_text.specs.declared.place.Place.{Place}
use Rattle.wf_text.specs.declared.rules.Rule.TheVariants.{E1, E2, E3}
use Rattle.wf_text.specs.declared.numbers.MethodId.{MethodId}
use Rattle.wf_base.specs.declared.marks.Mark.{Mark}
use Rattle.wf_base.specs.declared.marks.Mark.TheVariants.{Pure, Impure, Coroutine}
use Rattle.wf_base.specs.Effects.{allows}
use Rattle.wf_ast.specs.declared.types.Ty.{Ty}
use Rattle.wf_ast.specs.declared.types.Ty.TheVariants as types
use Rattle.wf_ast.specs.declared.variables.FieldId.{FieldId}
use Rattle.wf_ast.specs.TypedTree.{Target, Called, own, sub, invoke}
use Rattle.wf_ast.specs.TypedPackage.{MethodTree}
use Rattle.wf_ast.specs.WellTyped.{is_pure, is_coroutine, same_mark, calls_method, number_of, fit_types, takes_answer, well_invoked, well_simple, struct_of_field, field_at}
use Rattle.wf_named.specs.declared.nodes.NamedCallee.{NamedCallee}
use Rattle.wf_named.specs.declared.nodes.NamedCallee.TheVariants as callees
use Rattle.wf_named.specs.declared.nodes.Variable.TheVariants as variables
use Rattle.wf_named.specs.NamedTree.{NamedTypeTree, struct_type, NamedArgTrees, call, VarTree, NamedMethodTree, NamedPackageTree}
use Rattle.wf_named.specs.WellNamed.{count_args, is_wanted, args_wanted, args_of_own, args_of_sub, type_of_variable, named_args, fields_in}
use Rattle.wf_named.specs.Grammar.{args_by_grammar}
use Rattle.wf_types_rules.specs.declared.meanings.MethodType.{MethodType}
use Rattle.wf_types_rules.specs.declared.meanings.Meaning.TheVariants as meanings
use Rattle.wf_types_rules.specs.Meanings.{there, variable}
use Rattle.wf_types_rules.specs.declared.settings.Role.TheVariants as roles
use Rattle.wf_types_rules.specs.DeclaredTypes.{declared, for_types, method_type}
use Rattle.wf_types_rules.specs.Parts.{whole_call_parts}
use Rattle.wf_types_rules.specs.Judgements.{fails, own_arg, wanted, declared_mark, wrong_mark, is_impure, impure_call, coroutine_call, result_of, is_coroutine_called, gives_no_value, answer_type}
use Rattle.wf_types_rules.proofs.TypeRows as rows
use Rattle.wf_typed_tree.specs.ElaboratedExprs.{arg_trees}
use Rattle.wf_typed_tree.specs.ElaboratedPackage.{type_declared, typed_variable, typed_method, typed_methods, typed_package}
use Rattle.wf_typed_tree.proofs.NumberLemmas.{both, and-true, equal-numbers, map-parts}
use Rattle.wf_typed_tree.proofs.NoBreaks.{AllFine, at-none, holds}
use Rattle.wf_typed_tree.proofs.Agreement.{PackageIs, MethodIs, method-is, method-agrees}
use Rattle.wf_typed_tree.proofs.CallLaws.{method-at}
use Rattle.wf_typed_tree.proofs.BodyLaws.{around, names, context}
use Rattle.wf_typed_tree.proofs.ArgLaws.{args-fit}
use Rattle.wf_typed_tree.proofs.HandedLaws.{handed-once}

-- Where no rule of effects is broken, the mark may be called.
pub allowed : (outer inner : Mark) → (is_impure inner && is_pure outer) ≡ false → (is_coroutine inner && not (is_coroutine outer)) ≡ false → allows outer inner ≡ true
allowed Pure Pure h k = refl
allowed Pure Impure h k = absurd (cc h)
allowed Pure Coroutine h k = absurd (cc k)
allowed Impure Pure h k = refl
allowed Impure Impure h k = refl
allowed Impure Coroutine h k = absurd (cc k)
allowed Coroutine Pure h k = refl
allowed Coroutine Impure h k = refl
allowed Coroutine Coroutine h k = refl

-- The method that is called passes the test of its callee, and has as many arguments.
pub record Wanted (o : Option NamedMethodTree) (test : NamedMethodTree → Bool) (count : ℕ) : Type 0 where
  pub of : NamedMethodTree
  pub is : o ≡ Some of
  pub passes : test of ≡ true
  pub many : count ≡ length of.args

pub tested : (b : Bool) (w count : ℕ) → is_wanted (if b then Some w else None) count ≡ true → (b ≡ true) × (count ≡ w)
tested true w count h = (refl, sym (equal-numbers w count h))
tested false w count h = absurd (cc h)

own-parts : (s : ℕ) (o : Option NamedMethodTree) (count : ℕ) → is_wanted (args_of_own (Some s) o) count ≡ true → Wanted o (λ z. nat_eq z.of s) count
own-parts s None count h = absurd (cc h)
own-parts s (Some of) count h =
    let it = tested (nat_eq of.of s) (length of.args) count h in record { of = of; is = refl; passes = it.0; many = it.1 }

record SubWanted (t : Option NamedTypeTree) (o : Option NamedMethodTree) (count : ℕ) : Type 0 where
  number : ℕ
  at : Place
  type : t ≡ Some (struct_type number at)
  method : Wanted o (λ z. z.public && nat_eq z.of number) count

sub-parts : (t : Option NamedTypeTree) (o : Option NamedMethodTree) (count : ℕ) → is_wanted (args_of_sub t o) count ≡ true → SubWanted t o count
sub-parts (Some (struct_type s at)) (Some of) count h =
    let it = tested (of.public && nat_eq of.of s) (length of.args) count h in
    record { number = s; at = at; type = refl; method = record { of = of; is = refl; passes = it.0; many = it.1 } }
sub-parts t o count h = absurd (cc h)

turned : (a b : ℕ) → nat_eq a b ≡ true → nat_eq b a ≡ true
turned a b h = grind (arith, nat_tests, h)

not-twice : (b : Bool) → not (not b) ≡ true → b ≡ true
not-twice true h = refl
not-twice false h = absurd (cc h)

pub typed-methods : (p : NamedPackageTree) → (typed_package p).methods ≡ typed_methods p 0 p.methods
unfolding typed_package
typed-methods p = refl

module _ (p : NamedPackageTree) (n : ℕ) (m : NamedMethodTree) (is : MethodIs p m) (whole : PackageIs p) where
  -- A method as the rules of types see it.
  pub method-told : (k : ℕ) (of : NamedMethodTree) → slice_get p.methods k ≡ Some of → slice_get (around p n m is).methods k ≡ Some (method_type p of)
  method-told k of e = slice_get-map (method_type p) p.methods k ∙ ap (option_map (method_type p)) e

  pub wanted-told : (k i : ℕ) (of : NamedMethodTree) (x : VarTree) → slice_get p.methods k ≡ Some of → slice_get of.args i ≡ Some x
      → option_and_then (own_arg i) (slice_get (around p n m is).methods k) ≡ declared (for_types p) roles.Arg x.of
  wanted-told k i of x e f =
      let P : Option MethodType → Type 0 = λ o. option_and_then (own_arg i) o ≡ declared (for_types p) roles.Arg x.of in
      let Q : Option (Option Ty) → Type 0 = λ o. there o ≡ declared (for_types p) roles.Arg x.of in
      let type : VarTree → Option Ty = λ y. declared (for_types p) roles.Arg y.of in
      let at : slice_get (map type of.args) i ≡ Some (type x) = slice_get-map type of.args i ∙ ap (option_map type) f in
      subst P (sym (method-told k of e)) (subst Q (sym at) refl)

  -- The marks of a call.
  pub mark-allowed : (callee : NamedCallee) (at : Place) (mark : Mark) (args : NamedArgTrees) → AllFine p (around p n m is) (whole_call_parts (call callee at mark args)) → allows m.mark mark ≡ true
  mark-allowed callee at mark args h =
      allowed m.mark mark (at-none (is_impure mark && is_pure m.mark) at (h.0 E1 impure_call rows.impure_call))
      (at-none (is_coroutine mark && not (is_coroutine m.mark)) at (h.0 E2 coroutine_call rows.coroutine_call))

  pub mark-same : (callee : NamedCallee) (at : Place) (mark own_mark : Mark) (args : NamedArgTrees) → AllFine p (around p n m is) (whole_call_parts (call callee at mark args))
      → declared_mark (around p n m is) callee ≡ Some own_mark → same_mark mark own_mark ≡ true
  mark-same callee at mark own_mark args h e =
      holds (same_mark mark) (declared_mark (around p n m is) callee) own_mark e (at-none (fails (same_mark mark) (declared_mark (around p n m is) callee)) at (h.0 E3 wrong_mark rows.wrong_mark))

  mark-told : (k : ℕ) (of : NamedMethodTree) → slice_get p.methods k ≡ Some of → option_map (λ (z : MethodType). z.mark) (slice_get (around p n m is).methods k) ≡ Some of.mark
  mark-told k of e = ap (option_map (λ (z : MethodType). z.mark)) (method-told k of e)

  coroutine-told : (k : ℕ) (of : NamedMethodTree) → slice_get p.methods k ≡ Some of → not (fails (λ (z : MethodType). is_coroutine z.mark) (slice_get (around p n m is).methods k)) ≡ true
      → is_coroutine of.mark ≡ true
  coroutine-told k of e h =
      let P : Option MethodType → Type 0 = λ o. not (fails (λ (z : MethodType). is_coroutine z.mark) o) ≡ true in not-twice (is_coroutine of.mark) (subst P (method-told k of e) h)

  -- A call of a method of the package, and what it calls.
  pub record Calls (callee : NamedCallee) (called : Called) : Type 0 where
    pub of : NamedMethodTree
    pub at : slice_get p.methods (number_of called) ≡ Some of
    pub may : (j : ℕ) → calls_method (context p n m is) called (typed_method p j of) ≡ true
    pub mark : declared_mark (around p n m is) callee ≡ Some of.mark
    pub coroutine : is_coroutine_called (around p n m is) callee ≡ true → is_coroutine of.mark ≡ true
    pub gives : gives_no_value (around p n m is) callee ≡ not (is_some (result_of (method_type p of)))
    pub answer : answer_type (around p n m is) callee ≡ there (result_of (method_type p of))
    pub wants : (i : ℕ) → wanted (around p n m is) callee i ≡ option_and_then (own_arg i) (slice_get (around p n m is).methods (number_of called))

  pub own-calls : (k : MethodId) (count : ℕ) → is_wanted (args_wanted (names p n m is) (callees.Own k)) count ≡ true
      → (it : Calls (callees.Own k) (own k.0)) × (count ≡ length it.of.args)
  own-calls k count h =
      let it = own-parts m.of (slice_get p.methods k.0) count h in (
        record {
          of = it.of;
          at = it.is;
          may = λ j. it.passes;
          mark = mark-told k.0 it.of it.is;
          coroutine = coroutine-told k.0 it.of it.is;
          gives = ap (fails (λ (z : MethodType). is_some (result_of z))) (method-told k.0 it.of it.is);
          answer = ap (λ o. there (option_and_then result_of o)) (method-told k.0 it.of it.is);
          wants = λ i. refl;
        },
        it.many,
      )

  -- A struct stands in the field, with the struct's number.
  field-is : (x : FieldId) (s : ℕ) (at : Place) → type_of_variable (names p n m is) (variables.Field x) ≡ Some (struct_type s at)
      → field_at (typed_package p) m.of x.0 ≡ Some (types.Part (record { 0 = s }))
  field-is x s at h =
      let fields : List VarTree = fields_in p (Some m.of) in
      let it = map-parts (λ (y : VarTree). y.of) (slice_get fields x.0) (struct_type s at) h in
      let type : VarTree → Option Ty = λ y. declared (for_types p) roles.Field y.of in
      let found : slice_get (map type fields) x.0 ≡ Some (declared (for_types p) roles.Field it.of.of) = slice_get-map type fields x.0 ∙ ap (option_map type) it.is in
      let D : NamedTypeTree → Type 0 = λ t. declared (for_types p) roles.Field t ≡ Some (types.Part (record { 0 = s })) in
      let part : declared (for_types p) roles.Field it.of.of ≡ Some (types.Part (record { 0 = s })) = subst D (sym it.gives) refl in
      let meant : variable (around p n m is) (variables.Field x) ≡ Some (meanings.Typed (types.Part (record { 0 = s }))) =
      ap (λ o. option_map meanings.Typed (there o)) (found ∙ ap Some part) in
      (method-agrees p n m is).declared (variables.Field x) (types.Part (record { 0 = s })) meant

  sub-may : (field : Option Ty) (s : ℕ) (of : NamedMethodTree) → field ≡ Some (types.Part (record { 0 = s })) → (of.public && nat_eq of.of s) ≡ true
      → (of.public && is_some (option_and_then (λ k. if nat_eq k of.of then Some k else None) (struct_of_field field))) ≡ true
  sub-may field s of e h =
      let parts = both of.public (nat_eq of.of s) h in
      let P : Option Ty → Type 0 = λ o. is_some (option_and_then (λ k. if nat_eq k of.of then Some k else None) (struct_of_field o)) ≡ true in
      let B : Bool → Type 0 = λ b. is_some (if b then Some s else None) ≡ true in
      and-true of.public _ parts.0 (subst P (sym e) (subst B (sym (turned of.of s parts.1)) refl))

  pub sub-calls : (x : FieldId) (k : MethodId) (count : ℕ) → is_wanted (args_wanted (names p n m is) (callees.Sub x k)) count ≡ true
      → (it : Calls (callees.Sub x k) (sub x.0 k.0)) × (count ≡ length it.of.args)
  sub-calls x k count h =
      let found = sub-parts (type_of_variable (names p n m is) (variables.Field x)) (slice_get p.methods k.0) count h in
      let it = found.method in
      let field = field-is x found.number found.at found.type in (
        record {
          of = it.of;
          at = it.is;
          may = λ j. sub-may (field_at (typed_package p) m.of x.0) found.number it.of field it.passes;
          mark = mark-told k.0 it.of it.is;
          coroutine = coroutine-told k.0 it.of it.is;
          gives = ap (fails (λ (z : MethodType). is_some (result_of z))) (method-told k.0 it.of it.is);
          answer = ap (λ o. there (option_and_then result_of o)) (method-told k.0 it.of it.is);
          wants = λ i. refl;
        },
        it.many,
      )

  -- The arguments that such a call declares.
  pub declared-args : (callee : NamedCallee) (called : Called) (it : Calls callee called) (i : ℕ) (x : VarTree) → slice_get it.of.args i ≡ Some x
      → wanted (around p n m is) callee i ≡ declared (for_types p) roles.Arg x.of
  declared-args callee called it i x e = it.wants i ∙ wanted-told (number_of called) i it.of x it.at e

  -- And the call keeps the rules where its answer is taken.
  pub call-keeps : (loops : List ℕ) (callee : NamedCallee) (called : Called) (target : Target) (kept : Bool) (at : Place) (mark : Mark) (args : NamedArgTrees) (it : Calls callee called)
      → count_args args ≡ length it.of.args → AllFine p (around p n m is) (whole_call_parts (call callee at mark args)) → args_by_grammar args ≡ true → named_args (names p n m is) args ≡ true
      → takes_answer (context p n m is) target kept mark (option_map (type_declared p (roles.Result it.of.mark)) it.of.gives) ≡ true
      → well_simple (context p n m is) loops (invoke at target kept mark called (arg_trees (around p n m is) args)) ≡ true
  call-keeps loops callee called target kept at mark args it count h g k answer =
      let typed = method-at p 0 p.methods (number_of called) it.of it.at in
      let callee_args = (method-is p whole (number_of called) it.of it.at).args in
      let W : ℕ → VarTree → Type 0 = λ i x. wanted (around p n m is) callee i ≡ declared (for_types p) roles.Arg x.of in
      let fit = args-fit p n m is callee 0 args it.of.args h.1 g k count callee_args
      (λ i x e. let plain : i ≡ 0 + i = omega arith in let V : ℕ → Type 0 = λ l. W l x in subst V plain (declared-args callee called it i x e)) in
      let found : slice_get (typed_package p).methods (number_of called) ≡ Some (typed_method p typed.0 it.of) = ap (λ ms. slice_get ms (number_of called)) (typed-methods p) ∙ typed.1 in
      let P : Option MethodTree → Type 0 = λ o. well_invoked (context p n m is) target kept mark called (arg_trees (around p n m is) args) o ≡ true in
      subst P (sym found)
      (and-true (same_mark mark it.of.mark) _ (mark-same callee at mark it.of.mark args h it.mark) (and-true (allows m.mark mark) _ (mark-allowed callee at mark args h)
      (and-true (calls_method (context p n m is) called (typed_method p typed.0 it.of)) _ (it.may typed.0)
      (and-true (fit_types (context p n m is) (map (typed_variable p roles.Arg) it.of.args) (arg_trees (around p n m is) args)) _ fit
      (and-true (takes_answer (context p n m is) target kept mark (option_map (type_declared p (roles.Result it.of.mark)) it.of.gives)) _ answer (handed-once p n m is args k))))))
