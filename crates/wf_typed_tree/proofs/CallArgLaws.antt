-- The arguments of any call mean what its callee takes; those of a base method fit its row.
use Rattle.std.proofs.Common.{◌≡◌, ℕ, suc, ◌+◌, true, List, [], ◌∷◌, length, Option, Some, refl, sym, subst, arith, nat_lt}
use Rattle.std.specs.Prelude.{slice_get}
use Rattle.std.proofs.lemmas.Bool.Decides.{nat_tests}
use Rattle.wf_base.specs.declared.base_methods.ArgTy.{ArgTy}
use Rattle.wf_base.specs.declared.base_methods.Kind.{Kind}
use Rattle.wf_ast.specs.declared.types.Ty.{Ty}
use Rattle.wf_named.specs.declared.nodes.NamedCallee.{NamedCallee}
use Rattle.wf_named.specs.NamedTree.{NamedArgTrees, no_arg, more_args, NamedMethodTree, NamedPackageTree}
use Rattle.wf_named.specs.WellNamed.{count_args, named_args}
use Rattle.wf_named.specs.Grammar.{by_grammar, args_by_grammar}
use Rattle.wf_types_rules.specs.declared.meanings.Meaning.{Meaning}
use Rattle.wf_types_rules.specs.Parts.{args_parts}
use Rattle.wf_types_rules.specs.Judgements.{takes, base_arg, wanted, meaning_of_argument, is_argument, are_arguments}
use Rattle.wf_typed_tree.specs.ElaboratedExprs.{arg_trees}
use Rattle.wf_typed_tree.proofs.NumberLemmas.{both, and-true, named-more}
use Rattle.wf_typed_tree.proofs.NoBreaks.{AllFine}
use Rattle.wf_typed_tree.proofs.KnownMeanings.{HasValue}
use Rattle.wf_typed_tree.proofs.Agreement.{MethodIs}
use Rattle.wf_typed_tree.proofs.BodyLaws.{around, names, context}
use Rattle.wf_typed_tree.proofs.ArgLaws.{split-arg, arg-is}
use Rattle.wf_typed_tree.proofs.BaseCallLaws.{FitArgs}

argument-is : (o : Option Ty) (q : Option Meaning) (ty : Ty) (of : Meaning) → o ≡ Some ty → q ≡ Some of → takes ty of ≡ true → is_argument o q ≡ true
argument-is o q ty of e f h =
    let P : Option Ty → Type 0 = λ x. is_argument x q ≡ true in
    let Q : Option Meaning → Type 0 = λ x. is_argument (Some ty) x ≡ true in
    subst P (sym e) (subst Q (sym f) h)

module _ (p : NamedPackageTree) (n : ℕ) (m : NamedMethodTree) (is : MethodIs p m) where
  -- All arguments of a call are taken.
  pub args-taken : (callee : NamedCallee) (j : ℕ) (args : NamedArgTrees) → AllFine p (around p n m is) (args_parts callee j args) → args_by_grammar args ≡ true
      → named_args (names p n m is) args ≡ true → ((i : ℕ) → nat_lt i (count_args args) ≡ true → HasValue (wanted (around p n m is) callee (j + i)))
      → are_arguments (around p n m is) callee j args ≡ true
  args-taken callee j no_arg h g k w = refl
  args-taken callee j (more_args e others) h g k w =
      let parts = split-arg p n m is callee j e others h in
      let grammar = both (by_grammar e) (args_by_grammar others) g in
      let named_parts = named-more (names p n m is) e others k in
      let front : j + 0 ≡ j = omega arith in
      let next : j + 1 ≡ suc j = omega arith in
      let some : nat_lt 0 (suc (count_args others)) ≡ true = grind (arith, nat_tests) in
      let first = w 0 some in
      let W : ℕ → Type 0 = λ i. wanted (around p n m is) callee i ≡ Some first.0 in
      let asked = subst W front first.1 in
      let it = arg-is p n m is callee j e first.0 parts.0 parts.1 grammar.0 named_parts.0 asked in
      let R : ℕ → Type 0 = λ i. are_arguments (around p n m is) callee i others ≡ true in
      and-true (is_argument (wanted (around p n m is) callee j) (meaning_of_argument (around p n m is) e)) (are_arguments (around p n m is) callee (suc j) others)
      (argument-is (wanted (around p n m is) callee j) (meaning_of_argument (around p n m is) e) first.0 it.of asked it.means it.taken)
      (subst R next
      (args-taken callee (j + 1) others parts.2 grammar.1 named_parts.1
      (λ i low. let moved : j + suc i ≡ j + 1 + i = omega arith in
      let V : ℕ → Type 0 = λ l. HasValue (wanted (around p n m is) callee l) in
      subst V moved (w (suc i) (let below : nat_lt (suc i) (suc (count_args others)) ≡ true = grind (arith, nat_tests, low) in below)))))

  -- The arguments of a base method fit its row.
  pub row-args-fit : (callee : NamedCallee) (kind : Kind) (j : ℕ) (args : NamedArgTrees) (row_args : List (List ℕ × ArgTy)) → AllFine p (around p n m is) (args_parts callee j args)
      → args_by_grammar args ≡ true → named_args (names p n m is) args ≡ true → count_args args ≡ length row_args
      → ((i : ℕ) (a : List ℕ × ArgTy) → slice_get row_args i ≡ Some a → wanted (around p n m is) callee (j + i) ≡ Some (base_arg kind a.1))
      → FitArgs (context p n m is) kind row_args (arg_trees (around p n m is) args)
  row-args-fit callee kind j no_arg [] h g k count w = tt
  row-args-fit callee kind j no_arg (a ∷ rest) h g k count w = absurd (grind (arith, count))
  row-args-fit callee kind j (more_args e others) [] h g k count w = absurd (grind (arith, count))
  row-args-fit callee kind j (more_args e others) (a ∷ rest) h g k count w =
      let parts = split-arg p n m is callee j e others h in
      let grammar = both (by_grammar e) (args_by_grammar others) g in
      let named_parts = named-more (names p n m is) e others k in
      let front : j + 0 ≡ j = omega arith in
      let W : ℕ → Type 0 = λ i. wanted (around p n m is) callee i ≡ Some (base_arg kind a.1) in
      let first = (arg-is p n m is callee j e (base_arg kind a.1) parts.0 parts.1 grammar.0 named_parts.0 (subst W front (w 0 a refl))).fits in
      let fewer : count_args others ≡ length rest = grind (arith, count) in (
        first,
        row-args-fit callee kind (j + 1) others rest parts.2 grammar.1 named_parts.1 fewer
            (λ i b e. let moved : j + suc i ≡ j + 1 + i = omega arith in
            let V : ℕ → Type 0 = λ l. wanted (around p n m is) callee l ≡ Some (base_arg kind b.1) in subst V moved (w (suc i) b e)),
      )
