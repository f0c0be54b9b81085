-- The arguments of a resolved call: each is named, and there are as many as its method declares.
use Rattle.std.proofs.Common.{◌≡◌, ℕ, suc, Bool, true, false, cond, not, ◌||◌, List, [], ◌∷◌, map, length, Option, Some, None, nat_eq, is_some, refl, sym, ap, ◌∙◌, arith}
use Rattle.std.specs.List.{AllByRecursion, find, list_any}
use Rattle.std.specs.Str.{bytes_eq}
use Rattle.std.proofs.lemmas.Bool.Decides.{nat_tests}
use Rattle.wf_ast.specs.ParsedTree as tree
use Rattle.wf_ast.specs.ParsedTree.{GivenTrees}
use Rattle.wf_named.specs.NamedTree.{NamedArgTrees}
use Rattle.wf_named.specs.WellNamed.{NamedScope as NamedScope, count_args, named_expr}
use Rattle.wf_names_rules.specs.Declarations.{is_spelt}
use Rattle.wf_names_rules.specs.Meanings.{GivenValue, given_values}
use Rattle.wf_names_resolve.specs.Standing.{Standing}
use Rattle.wf_names_resolve.specs.Resolved.{NamedGiven, with_arg, args_named, args_spelt, resolved_expr, resolved_given}

-- Values that are named.
abbrev pub AreNamed : NamedScope → List NamedGiven → Type 0
AreNamed s given = AllByRecursion (λ (g : NamedGiven). named_expr s g.value ≡ true) given

-- A text that is given is found among what is given.
abbrev pub texts_given : GivenTrees → List ℕ
texts_given given = map (λ (g : GivenValue). g.name.text.0) (given_values given)

given-found : (k : Standing) (p q : ℕ → Bool) → ((text : ℕ) → p text ≡ q text) → (given : GivenTrees)
    → list_any p (texts_given given) ≡ is_some (find (λ (g : NamedGiven). q g.name.text.0) (resolved_given k given))
given-found k p q same tree.no_given = refl
given-found k p q same (tree.more_given name value others) =
    ap (λ t. t || list_any p (texts_given others)) (same name.text.0) ∙ by_test (q name.text.0) (given-found k p q same others)
  where
    g : NamedGiven
    g = record { name = name; value = resolved_expr k value }

    by_test : (t : Bool) → list_any p (texts_given others) ≡ is_some (find (λ (x : NamedGiven). q x.name.text.0) (resolved_given k others))
        → (t || list_any p (texts_given others)) ≡ is_some (cond t (Some g) (find (λ (x : NamedGiven). q x.name.text.0) (resolved_given k others)))
    by_test true r = refl
    by_test false r = r

neither : (x y : Bool) → (not x || y) ≡ false → (x ≡ true) × (y ≡ false)
neither true y h = (refl, h)
neither false y h = absurd (cc h)

count-more : (o : Option NamedGiven) (others : NamedArgTrees) (n : ℕ) → is_some o ≡ true → count_args others ≡ n → count_args (with_arg o others) ≡ suc n
count-more None others n h e = absurd (cc h)
count-more (Some g) others n h e = ap suc e

numbers-turned : (a b : ℕ) → nat_eq a b ≡ nat_eq b a
numbers-turned a b = grind (arith, nat_tests)

module _ (k : Standing) (given : GivenTrees) where
  pub named-args-counted : (wanted : List ℕ) → list_any (λ text. not (list_any (nat_eq text) (texts_given given))) wanted ≡ false
      → count_args (args_named (resolved_given k given) wanted) ≡ length wanted
  named-args-counted [] h = refl
  named-args-counted (text ∷ texts) h =
      let r = neither (list_any (nat_eq text) (texts_given given)) (list_any (λ t. not (list_any (nat_eq t) (texts_given given))) texts) h in
      count-more (find (λ (g : NamedGiven). is_spelt text g.name) (resolved_given k given)) (args_named (resolved_given k given) texts) (length texts)
      (sym (given-found k (nat_eq text) (λ t. nat_eq t text) (λ t. numbers-turned text t) given) ∙ r.0) (named-args-counted texts r.1)

  pub spelt-args-counted : (bytes : ℕ → List ℕ) (wanted : List (List ℕ)) → list_any (λ name. not (list_any (λ text. bytes_eq name (bytes text)) (texts_given given))) wanted ≡ false
      → count_args (args_spelt bytes (resolved_given k given) wanted) ≡ length wanted
  spelt-args-counted bytes [] h = refl
  spelt-args-counted bytes (name ∷ names) h =
      let r = neither (list_any (λ text. bytes_eq name (bytes text)) (texts_given given)) (list_any (λ n. not (list_any (λ text. bytes_eq n (bytes text)) (texts_given given))) names) h in
      count-more (find (λ (g : NamedGiven). bytes_eq name (bytes g.name.text.0)) (resolved_given k given)) (args_spelt bytes (resolved_given k given) names) (length names)
      (sym (given-found k (λ text. bytes_eq name (bytes text)) (λ text. bytes_eq name (bytes text)) (λ text. refl) given) ∙ r.0) (spelt-args-counted bytes names r.1)
