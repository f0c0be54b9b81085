-- Parameters, types and names that are asked for.
use Rattle.std.proofs.Common.{◌≡◌, ◌<◌, ◌≤◌, ◌+◌, ℕ, zero, suc, Bool, true, false, ◌&&◌, List, [], ◌∷◌, ◌++◌, map, take, drop, length, codes, ◌⊎◌, inl, inr, Option, Some, None, refl, sym, ◌∙◌, ap, subst, arith, nat_eq}
use Rattle.std.specs.List.{slice_get}
use Rattle.std.specs.Str.{bytes_eq}
use Rattle.std.proofs.lemmas.Bool.Decides.{nat_tests}
use Rattle.wf_text.specs.Surface.{PublicArg}
use Rattle.c_text.specs.declared.kinds.CUint.{CUint}
use Rattle.c_text.specs.CTree.{size, uint_pointer, ParamTree}
use Rattle.c_meaning.specs.CTypes.{same_type}
use Rattle.c_meaning.specs.UnitForm.{same_params, param, arg_params}
use Rattle.c_text.specs.declared.nodes.CParam.{CParam}
use Rattle.c_text.specs.CNodes.{Nodes, param_tree}
use Rattle.c_text.specs.CFits.{HasParam, HasParams}
use Rattle.c_form_exprs.proofs.FrontLemmas.{bytes_eq-swap}
use Rattle.c_form.specs.Signatures.{first_is, TakesOne, TakesArg}

-- A name is a front with a rest after it.
pub front_spelt : (front name found : List ℕ) → length front ≤ length found → (bytes_eq (take (length front) found) front && bytes_eq (drop (length front) found) name) ≡ bytes_eq (front ++ name) found
front_spelt [] name found h = bytes_eq-swap found name
front_spelt (x ∷ front) name [] h = absurd (omega (arith, h))
front_spelt (x ∷ front) name (y ∷ found) h = and_in (nat_eq y x) (bytes_eq (take (length front) found) front) (bytes_eq (drop (length front) found) name) ∙ (ap (λ b. nat_eq y x && b) (front_spelt front name found (omega (arith, h))) ∙ ap (λ b. b && bytes_eq (front ++ name) found) (nat_eq-swap y x))
  where
    and_in : (a b c : Bool) → ((a && b) && c) ≡ (a && (b && c))
    and_in true b c = refl
    and_in false b c = refl

    nat_eq-swap : (m n : ℕ) → nat_eq m n ≡ nat_eq n m
    nat_eq-swap m n = grind (arith, nat_tests)

-- One parameter more.
pub first_params : (p : ParamTree) (more qs : List ParamTree) → same_params (p ∷ more) qs ≡ (first_is p qs && same_params more (drop 1 qs))
first_params p more [] = refl
first_params p more (q ∷ qs) = and_in (same_type p.kind q.kind) (bytes_eq p.name q.name) (same_params more qs)
  where
    and_in : (a b c : Bool) → (a && (b && c)) ≡ ((a && b) && c)
    and_in true b c = refl
    and_in false b c = refl

abbrev nothing : (A : Type 0) → List A
nothing A = []

drop_none : {A : Type 0} (n : ℕ) → drop n (nothing A) ≡ nothing A
drop_none zero = refl
drop_none (suc n) = refl

pub drop_more : {A B : Type 0} (f : A → B) (xs : List A) (n : ℕ) → drop 1 (map f (drop n xs)) ≡ map f (drop (n + 1) xs)
drop_more f [] zero = refl
drop_more f [] (suc n) = sym (ap (map f) (drop_none (suc n + 1)))
drop_more f (x ∷ xs) zero = refl
drop_more {A} {B} f (x ∷ xs) (suc n) = drop_more f xs n ∙ ap (map f) (skip xs x n)
  where
    skip : (ys : List A) (y : A) (m : ℕ) → drop (m + 1) ys ≡ drop (suc m + 1) (y ∷ ys)
    skip ys y m = sym (ap (λ k. drop k (y ∷ ys)) (let e : suc m + 1 ≡ suc (m + 1) = omega arith in e))

pub first_within : (p : ParamTree) (qs : List ParamTree) → first_is p qs ≡ true → 1 ≤ length qs
first_within p [] h = absurd (cc (h))
first_within p (q ∷ qs) h = omega arith

pub spelt_then : (front name found first rest : List ℕ) (r : Bool) → length front ≤ length found → first ≡ take (length front) found → rest ≡ drop (length front) found → true ≡ bytes_eq first front → r ≡ bytes_eq rest name → r ≡ bytes_eq (front ++ name) found
spelt_then front name found first rest r long is too same h =
    h ∙ (ap (λ xs. bytes_eq xs name) too ∙ (ap (λ b. b && bytes_eq (drop (length front) found) name) (same ∙ ap (λ xs. bytes_eq xs front) is) ∙ front_spelt front name found long))

pub spelt_else : (front name found first : List ℕ) (r : Bool) → length front ≤ length found → first ≡ take (length front) found → r ≡ bytes_eq first front → r ≡ false → r ≡ bytes_eq (front ++ name) found
spelt_else front name found first r long is h isnt =
    isnt ∙ (ap (λ b. b && bytes_eq (drop (length front) found) name) (sym isnt ∙ (h ∙ ap (λ xs. bytes_eq xs front) is)) ∙ front_spelt front name found long)

pub param_at : (nodes : Nodes) (ps : List CParam) (i : ℕ) (x : CParam) → slice_get ps i ≡ Some x → HasParams nodes ps → HasParam nodes x
param_at nodes [] i x is h = absurd (cc (is))
param_at nodes (p ∷ ps) zero x is h = let e : p ≡ x = cc (is) in subst (λ (y : CParam). HasParam nodes y) e h.0
param_at nodes (p ∷ ps) (suc i) x is h = param_at nodes ps i x is h.1

drop_length : {A B : Type 0} (f : A → B) (xs : List A) (n : ℕ) → 1 ≤ length (map f (drop n xs)) → n + 1 ≤ length xs
drop_length f [] zero h = absurd (omega (arith, h))
drop_length f [] (suc n) h = absurd (omega (arith, h))
drop_length f (x ∷ xs) zero h = omega arith
drop_length f (x ∷ xs) (suc n) h = let e = drop_length f xs n h in omega (arith, e)

one_param : (nodes : Nodes) (params : List CParam) (at : ℕ) (p : ParamTree) (b : Bool) → b ≡ first_is p (map (param_tree nodes.names) (drop at params)) → (more : List ParamTree) → same_params (p ∷ more) (map (param_tree nodes.names) (drop at params)) ≡ (b && same_params more (map (param_tree nodes.names) (drop (at + 1) params)))
one_param nodes params at p b is more = first_params p more (map (param_tree nodes.names) (drop at params)) ∙ (ap (λ c. c && same_params more (drop 1 (map (param_tree nodes.names) (drop at params)))) (sym is) ∙ ap (λ qs. b && same_params more qs) (drop_more (param_tree nodes.names) params at))

pub one_taken : (nodes : Nodes) (params : List CParam) (at : ℕ) (p : ParamTree) → true ≡ first_is p (map (param_tree nodes.names) (drop at params)) → TakesOne nodes params at p (Some (at + 1))
one_taken nodes params at p is = (drop_length (param_tree nodes.names) params at (first_within p (map (param_tree nodes.names) (drop at params)) (sym is)), one_param nodes params at p true is)

pub one_apart : (nodes : Nodes) (params : List CParam) (at : ℕ) (p : ParamTree) → false ≡ first_is p (map (param_tree nodes.names) (drop at params)) → TakesOne nodes params at p None
one_apart nodes params at p is = one_param nodes params at p false is

pub two_taken : (nodes : Nodes) (params : List CParam) (at : ℕ) (p q : ParamTree) → true ≡ first_is p (map (param_tree nodes.names) (drop at params)) → true ≡ first_is q (map (param_tree nodes.names) (drop (at + 1) params)) → (at + 2 ≤ length params) × ((more : List ParamTree) → same_params (p ∷ q ∷ more) (map (param_tree nodes.names) (drop at params)) ≡ same_params more (map (param_tree nodes.names) (drop (at + 2) params)))
two_taken nodes params at p q is too =
    let second = one_taken nodes params (at + 1) q too in
    let two : at + 1 + 1 ≡ at + 2 = omega arith in
    (omega (arith, second.0), λ more. one_param nodes params at p true is (q ∷ more) ∙ (second.1 more ∙ ap (λ n. same_params more (map (param_tree nodes.names) (drop n params))) two))

pub two_apart : (nodes : Nodes) (params : List CParam) (at : ℕ) (p q : ParamTree) → true ≡ first_is p (map (param_tree nodes.names) (drop at params)) → false ≡ first_is q (map (param_tree nodes.names) (drop (at + 1) params)) → (more : List ParamTree) → same_params (p ∷ q ∷ more) (map (param_tree nodes.names) (drop at params)) ≡ false
two_apart nodes params at p q is isnt more = one_param nodes params at p true is (q ∷ more) ∙ one_apart nodes params (at + 1) q isnt more

differ : (m n : ℕ) → m < n → nat_eq m n ≡ false
differ m n h = grind (arith, nat_tests)

alike : (n : ℕ) → nat_eq n n ≡ true
alike n = grind (arith, nat_tests)

end_of : (nodes : Nodes) (params : List CParam) (at : ℕ) → at ≤ length params → (at < length params × (same_params [] (map (param_tree nodes.names) (drop at params)) ≡ false)) ⊎ ((at ≡ length params) × (same_params [] (map (param_tree nodes.names) (drop at params)) ≡ true))
end_of nodes [] zero h = inr (refl, refl)
end_of nodes [] (suc at) h = absurd (omega (arith, h))
end_of nodes (p ∷ params) zero h = inl (omega arith, refl)
end_of nodes (p ∷ params) (suc at) h = up (end_of nodes params at (omega (arith, h)))
  where
    up : (at < length params × (same_params [] (map (param_tree nodes.names) (drop at params)) ≡ false)) ⊎ ((at ≡ length params) × (same_params [] (map (param_tree nodes.names) (drop at params)) ≡ true)) → (suc at < length (p ∷ params) × (same_params [] (map (param_tree nodes.names) (drop (suc at) (p ∷ params))) ≡ false)) ⊎ ((suc at ≡ length (p ∷ params)) × (same_params [] (map (param_tree nodes.names) (drop (suc at) (p ∷ params))) ≡ true))
    up (inl k) = inl (omega (arith, k.0), k.1)
    up (inr k) = inr (ap suc k.0, k.1)

pub args_end : (nodes : Nodes) (params : List CParam) (at : ℕ) → at ≤ length params → nat_eq at (length params) ≡ same_params [] (map (param_tree nodes.names) (drop at params))
args_end nodes params at h = by (end_of nodes params at h)
  where
    by : (at < length params × (same_params [] (map (param_tree nodes.names) (drop at params)) ≡ false)) ⊎ ((at ≡ length params) × (same_params [] (map (param_tree nodes.names) (drop at params)) ≡ true)) → nat_eq at (length params) ≡ same_params [] (map (param_tree nodes.names) (drop at params))
    by (inl k) = differ at (length params) k.0 ∙ sym k.1
    by (inr k) = ap (λ n. nat_eq n (length params)) k.0 ∙ (alike (length params) ∙ sym k.1)

-- A pointer and a length that are taken, or not.
abbrev pub SliceTaken : Nodes → List CParam → ℕ → List ℕ → CUint → Type 0
SliceTaken nodes params at name u = (at + 2 ≤ length params) × ((more : List ParamTree) → same_params (param (uint_pointer u) (codes "ap_" ++ name) ∷ param size (codes "al_" ++ name) ∷ more) (map (param_tree nodes.names) (drop at params)) ≡ same_params more (map (param_tree nodes.names) (drop (at + 2) params)))

pub slice_taken : (nodes : Nodes) (params : List CParam) (at : ℕ) (name : List ℕ) (u v : CUint) → u ≡ v → true ≡ first_is (param (uint_pointer u) (codes "ap_" ++ name)) (map (param_tree nodes.names) (drop at params)) → true ≡ first_is (param size (codes "al_" ++ name)) (map (param_tree nodes.names) (drop (at + 1) params)) → SliceTaken nodes params at name v
slice_taken nodes params at name u v same is too = subst (λ (x : CUint). SliceTaken nodes params at name x) same (two_taken nodes params at (param (uint_pointer u) (codes "ap_" ++ name)) (param size (codes "al_" ++ name)) is too)

pub slice_apart : (nodes : Nodes) (params : List CParam) (at : ℕ) (name : List ℕ) (u v : CUint) → u ≡ v → true ≡ first_is (param (uint_pointer u) (codes "ap_" ++ name)) (map (param_tree nodes.names) (drop at params)) → false ≡ first_is (param size (codes "al_" ++ name)) (map (param_tree nodes.names) (drop (at + 1) params)) → (more : List ParamTree) → same_params (param (uint_pointer v) (codes "ap_" ++ name) ∷ param size (codes "al_" ++ name) ∷ more) (map (param_tree nodes.names) (drop at params)) ≡ false
slice_apart nodes params at name u v same is isnt more = subst (λ (x : CUint). same_params (param (uint_pointer x) (codes "ap_" ++ name) ∷ param size (codes "al_" ++ name) ∷ more) (map (param_tree nodes.names) (drop at params)) ≡ false) same (two_apart nodes params at (param (uint_pointer u) (codes "ap_" ++ name)) (param size (codes "al_" ++ name)) is isnt more)

-- An argument of one parameter.
pub one_arg : (nodes : Nodes) (params : List CParam) (at : ℕ) (arg : PublicArg) (p : ParamTree) (r : Option ℕ) → arg_params arg ≡ p ∷ [] → TakesOne nodes params at p r → TakesArg nodes params at arg r
one_arg nodes params at arg p None is h = λ more. ap (λ ps. same_params (ps ++ more) (map (param_tree nodes.names) (drop at params))) is ∙ h more
one_arg nodes params at arg p (Some next) is h = (h.0, λ more. ap (λ ps. same_params (ps ++ more) (map (param_tree nodes.names) (drop at params))) is ∙ h.1 more)
