-- The arguments of a call in the body of a method: each fits the declared type.
use Rattle.std.proofs.Common.{◌≡◌, ℕ, suc, ◌+◌, Bool, true, false, List, [], ◌∷◌, length, map, Option, Some, refl, sym, ◌∙◌, subst, arith}
use Rattle.std.specs.Prelude.{slice_get, unwrap_or}
use Rattle.std.specs.Bool.{⊤}
use Rattle.wf_text.specs.declared.place.Place.{Place}
use Rattle.wf_text.specs.declared.rules.Rule.TheVariants.{T1}
use Rattle.wf_ast.specs.declared.types.Ty.{Ty}
use Rattle.wf_ast.specs.declared.types.Ty.TheVariants as types
use Rattle.wf_ast.specs.TypedTree.{Path, ValueTree}
use Rattle.wf_ast.specs.TypedTrees.{named}
use Rattle.wf_ast.specs.WellTyped.{type_at, is_reader, is_writer, fits_type, fit_types}
use Rattle.wf_named.specs.declared.nodes.NamedCallee.{NamedCallee}
use Rattle.wf_named.specs.declared.nodes.NamedPath.{NamedPath}
use Rattle.wf_named.specs.declared.nodes.Variable.{Variable}
use Rattle.wf_named.specs.NamedTree.{NamedExprTree, path, NamedArgTrees, no_arg, more_args, VarTree, NamedMethodTree, NamedPackageTree}
use Rattle.wf_named.specs.WellNamed.{count_args, named_expr, named_args}
use Rattle.wf_named.specs.Grammar.{by_grammar, args_by_grammar}
use Rattle.wf_types_rules.specs.declared.meanings.Meaning.{Meaning}
use Rattle.wf_types_rules.specs.declared.meanings.Meaning.TheVariants as meanings
use Rattle.wf_types_rules.specs.Meanings.{variable, is_value, place_of}
use Rattle.wf_types_rules.specs.declared.settings.Role.TheVariants as roles
use Rattle.wf_types_rules.specs.DeclaredTypes.{declared, for_types}
use Rattle.wf_types_rules.specs.Parts.{argument, expr_parts, args_parts}
use Rattle.wf_types_rules.specs.Judgements.{fails, both_fail, takes, wanted, meaning_of_argument, may_be_handed, wrong_argument}
use Rattle.wf_types_rules.proofs.TypeRows as rows
use Rattle.wf_typed_tree.specs.ElaboratedExprs.{variable_tree, expr_tree, arg_trees}
use Rattle.wf_typed_tree.specs.ElaboratedPackage.{type_declared, typed_variable}
use Rattle.wf_typed_tree.specs.MeaningTrees.{HasMeaning}
use Rattle.wf_typed_tree.proofs.NumberLemmas.{both, and-true, named-more}
use Rattle.wf_typed_tree.proofs.NoBreaks.{Fine, AllFine, fine-split, at-none, either-false, both-hold}
use Rattle.wf_typed_tree.proofs.VariableLaws.{variable-means}
use Rattle.wf_typed_tree.proofs.Agreement.{MethodIs, AllDeclared, method-known, method-agrees}
use Rattle.wf_typed_tree.proofs.ValueLaws.{fits-value}
use Rattle.wf_typed_tree.proofs.BodyLaws.{around, names, context, value-of}

module _ (p : NamedPackageTree) (n : ℕ) (m : NamedMethodTree) (is : MethodIs p m) where
  -- The parts of an argument besides itself: a path has none.
  abbrev pub ArgFine : NamedExprTree → Type 0
  ArgFine (path q) = ⊤
  ArgFine e = AllFine p (around p n m is) (expr_parts e)

  pub split-arg : (callee : NamedCallee) (j : ℕ) (e : NamedExprTree) (others : NamedArgTrees) → AllFine p (around p n m is) (args_parts callee j (more_args e others))
      → Fine p (around p n m is) (argument callee j e) × ArgFine e × AllFine p (around p n m is) (args_parts callee (j + 1) others)
  split-arg callee j (path q) others h = (h.0, tt, h.1)
  split-arg callee j e others h = let q = fine-split p (around p n m is) (expr_parts e) (args_parts callee (j + 1) others) h.1 in (h.0, q.0, q.1)

  -- A reader or writer that is handed on.
  io-fits : (at : Place) (x : Variable) (ty : Ty) (of : Meaning) → takes ty of ≡ true → is_value of ≡ false → variable (around p n m is) x ≡ Some of
      → fits_type (context p n m is) ty (variable_tree at x (Some of)) ≡ true
  io-fits at x types.Reader (meanings.Typed types.Reader) h v k =
      let agree = method-agrees p n m is in
      let it = agree.sound x types.Reader k in
      let P : Path → Type 0 = λ to. fits_type (context p n m is) types.Reader (named at types.Reader to) ≡ true in
      let Q : Path → Type 0 = λ to. type_at (context p n m is) to ≡ Some types.Reader in
      let R : Option Ty → Type 0 = λ o. is_reader o ≡ true in
      subst P (sym it.1) (subst R (sym (subst Q it.1 (agree.declared x types.Reader k))) refl)
  io-fits at x types.Writer (meanings.Typed types.Writer) h v k =
      let agree = method-agrees p n m is in
      let it = agree.sound x types.Writer k in
      let P : Path → Type 0 = λ to. fits_type (context p n m is) types.Writer (named at types.Writer to) ≡ true in
      let Q : Path → Type 0 = λ to. type_at (context p n m is) to ≡ Some types.Writer in
      let R : Option Ty → Type 0 = λ o. is_writer o ≡ true in
      subst P (sym it.1) (subst R (sym (subst Q it.1 (agree.declared x types.Writer k))) refl)
  io-fits at x ty (meanings.Typed types.Reader) h v k = absurd (cc h)
  io-fits at x ty (meanings.Typed types.Writer) h v k = absurd (cc h)
  io-fits at x (types.Slice width) (meanings.Typed (types.Array w lo hi count)) h v k = absurd (cc h)
  io-fits at x ty (meanings.Typed (types.Array w lo hi count)) h v k = absurd (cc h)
  io-fits at x ty (meanings.Typed (types.Part part)) h v k = absurd (cc h)
  io-fits at x ty of h v k = absurd (cc v)

  path-fits : (q : NamedPath) (ty : Ty) (of : Meaning) → takes ty of ≡ true → variable (around p n m is) q.of ≡ Some of
      → fits_type (context p n m is) ty (expr_tree (around p n m is) (path q)) ≡ true
  path-fits q ty of h k =
      let P : Option Meaning → Type 0 = λ o. fits_type (context p n m is) ty (variable_tree q.at q.of o) ≡ true in
      subst P (sym k) (by_value (is_value of) refl)
    where
      by_value : (b : Bool) → is_value of ≡ b → fits_type (context p n m is) ty (variable_tree q.at q.of (Some of)) ≡ true
      by_value true e = fits-value (context p n m is) ty of (variable_tree q.at q.of (Some of)) h e (variable-means (names p n m is) (around p n m is) (context p n m is) (method-agrees p n m is) q.at q.of of k e)
      by_value false e = io-fits q.at q.of ty of h e k

  pub value-is : (of : Meaning) (t : ValueTree) → HasMeaning (context p n m is) of t → is_value of ≡ true
  value-is (meanings.Constant width value) t h = refl
  value-is (meanings.Typed (types.Num width lo hi)) t h = refl
  value-is (meanings.Typed types.Flag) t h = refl
  value-is (meanings.Typed types.Status) t h = refl
  value-is (meanings.Typed (types.Slice width)) t h = refl
  value-is of t h = absurd h

  -- One argument: what it means, which the type that is wanted takes, and its tree, which fits.
  pub record ArgIs (e : NamedExprTree) (ty : Ty) : Type 0 where
    pub of : Meaning
    pub means : meaning_of_argument (around p n m is) e ≡ Some of
    pub taken : takes ty of ≡ true
    pub fits : fits_type (context p n m is) ty (expr_tree (around p n m is) e) ≡ true

  -- An argument that means something is taken.
  arg-taken : (callee : NamedCallee) (j : ℕ) (e : NamedExprTree) (ty : Ty) (of : Meaning) → Fine p (around p n m is) (argument callee j e) → wanted (around p n m is) callee j ≡ Some ty
      → meaning_of_argument (around p n m is) e ≡ Some of → takes ty of ≡ true
  arg-taken callee j e ty of fine w k =
      let meant : Option Meaning = meaning_of_argument (around p n m is) e in
      let wrong = either-false (fails may_be_handed meant) (both_fail takes (wanted (around p n m is) callee j) meant) (at-none _ (place_of e) (fine T1 wrong_argument rows.wrong_argument)) in
      both-hold takes (wanted (around p n m is) callee j) meant ty of w k wrong.1

  pub arg-is : (callee : NamedCallee) (j : ℕ) (e : NamedExprTree) (ty : Ty) → Fine p (around p n m is) (argument callee j e) → ArgFine e → by_grammar e ≡ true
      → named_expr (names p n m is) e ≡ true → wanted (around p n m is) callee j ≡ Some ty → ArgIs e ty
  arg-is callee j (path q) ty fine parts g k w =
      let it = method-known p m is q.of k in
      let taken = arg-taken callee j (path q) ty it.0 fine w it.1 in
      record { of = it.0; means = it.1; taken = taken; fits = path-fits q ty it.0 taken it.1 }
  arg-is callee j e ty fine parts g k w =
      let it = value-of p n m is e parts g k in
      let taken = arg-taken callee j e ty it.of fine w it.means in
      let t : ValueTree = expr_tree (around p n m is) e in
      record { of = it.of; means = it.means; taken = taken; fits = fits-value (context p n m is) ty it.of t taken (value-is it.of t it.tree) it.tree }

  -- All arguments of a call of a method.
  pub args-fit : (callee : NamedCallee) (j : ℕ) (args : NamedArgTrees) (xs : List VarTree) → AllFine p (around p n m is) (args_parts callee j args) → args_by_grammar args ≡ true
      → named_args (names p n m is) args ≡ true → count_args args ≡ length xs → AllDeclared p roles.Arg xs
      → ((i : ℕ) (x : VarTree) → slice_get xs i ≡ Some x → wanted (around p n m is) callee (j + i) ≡ declared (for_types p) roles.Arg x.of)
      → fit_types (context p n m is) (map (typed_variable p roles.Arg) xs) (arg_trees (around p n m is) args) ≡ true
  args-fit callee j no_arg [] h g k count all w = refl
  args-fit callee j no_arg (x ∷ xs) h g k count all w = absurd (grind (arith, count))
  args-fit callee j (more_args e others) [] h g k count all w = absurd (grind (arith, count))
  args-fit callee j (more_args e others) (x ∷ xs) h g k count all w =
      let parts = split-arg callee j e others h in
      let grammar = both (by_grammar e) (args_by_grammar others) g in
      let named_parts = named-more (names p n m is) e others k in
      let front : j + 0 ≡ j = omega arith in
      let W : ℕ → Type 0 = λ i. wanted (around p n m is) callee i ≡ Some all.0.0 in
      let asked = subst W front (w 0 x refl ∙ all.0.1) in
      let T : Ty → Type 0 = λ ty. fits_type (context p n m is) ty (expr_tree (around p n m is) e) ≡ true in
      let same : type_declared p roles.Arg x.of ≡ all.0.0 = let D : Option Ty → Type 0 = λ o. unwrap_or o types.Flag ≡ all.0.0 in subst D (sym all.0.1) refl in
      let first = subst T (sym same) (arg-is callee j e all.0.0 parts.0 parts.1 grammar.0 named_parts.0 asked).fits in
      let fewer : count_args others ≡ length xs = grind (arith, count) in
      and-true (fits_type (context p n m is) (type_declared p roles.Arg x.of) (expr_tree (around p n m is) e)) _ first
      (args-fit callee (j + 1) others xs parts.2 grammar.1 named_parts.1 fewer all.1 (λ i y e. let moved : j + suc i ≡ j + 1 + i = omega arith in
      let V : ℕ → Type 0 = λ l. wanted (around p n m is) callee l ≡ declared (for_types p) roles.Arg y.of in subst V moved (w (suc i) y e)))
