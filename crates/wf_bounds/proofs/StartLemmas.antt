-- The facts with which a method begins, local by local.
use Rattle.std.proofs.Common.{◌≡◌, ℕ, zero, suc, ◌+◌, ◌<◌, ◌≤◌, Bool, true, false, ◌||◌, List, [], ◌∷◌, ◌++◌, length, map, take, Option, Some, None, nat_eq, refl, sym, ap, ◌∙◌, subst, arith, length-append, append_assoc}
use Rattle.std.specs.Prelude.{slice_get, option_map, option_and_then, unwrap_or, if◌then◌else◌, nat_le, IfSome}
use Rattle.std.proofs.lemmas.Bool.Decides.{nat_tests}
use Rattle.std.proofs.lemmas.Option.{slice_get_within}
use Rattle.std.proofs.lemmas.List.{append-nil, take_all, length-map}
use Rattle.wf_text.specs.declared.place.Place.{Place}
use Rattle.wf_ast.specs.declared.types.Ty.{Ty}
use Rattle.wf_ast.specs.declared.types.Ty.TheVariants as types
use Rattle.wf_ast.specs.declared.declarations.Var.{Var}
use Rattle.wf_ast.specs.declared.declarations.Method.{Method}
use Rattle.wf_ast.specs.declared.numbers.ExprId.{ExprId}
use Rattle.wf_ast.specs.declared.typed_nodes.TypedNodes.{TypedNodes}
use Rattle.wf_ast.specs.TypedTree.{local, number, equal}
use Rattle.wf_ast.specs.TypedTrees.{no_place, num_in, named, tree_of, type_of_node}
use Rattle.wf_ast.specs.TypedPackage.{Variable, variable_of}
use Rattle.wf_ast.specs.TypedInvariant.{is_numeric, IsTyped, IsLocal, has_few_variables}
use Rattle.wf_ast.proofs.Arena.{both_true}
use Rattle.wf_points.proofs.NumberLemmas.{declared_there}
use Rattle.wf_facts_exprs.specs.declared.facts.Fact.{Fact}
use Rattle.wf_facts_exprs.specs.Claims.{Claim, compared, single, claim_in, claims_in, same_claim, is_among}
use Rattle.wf_facts.specs.FactLists.{added}
use Rattle.wf_bounds_stmts.specs.MethodRules.{zero_fact, zero_facts, local_at}
use Rattle.wf_bounds.proofs.StandingLemmas.{all_at}
use Rattle.wf_bounds.specs.MethodWalks.{zeros_before, start_facts, LocalFound, IsReady}
use Rattle.wf_bounds.specs.WalkNodes.{no_method, method_at}

-- That a local is 0, where it is numeric.
zero_of_number : (at : Place) (n : ℕ) (ty : Ty) → is_numeric ty ≡ true → zero_fact at n ty ≡ compared (single (num_in (named at ty (local n)))) equal (single (number no_place 0)) ∷ []
zero_of_number at n (types.Num width lo hi) h = refl
zero_of_number at n ty h = absurd (cc h)

zero_of_other : (at : Place) (n : ℕ) (ty : Ty) → is_numeric ty ≡ false → zero_fact at n ty ≡ []
zero_of_other at n (types.Num width lo hi) h = absurd (cc h)
zero_of_other at n ty h = refl

zero_length : (at : Place) (n : ℕ) (ty : Ty) → length (zero_fact at n ty) ≤ 1
zero_length at n (types.Num width lo hi) = omega arith
zero_length at n ty = omega arith

module _ (at : ℕ → Place) where
  zeros_suc : (vs : List Variable) (n x k : ℕ) (v : Variable) → k ≡ n + x → slice_get vs x ≡ Some v → zero_facts at n (take (suc x) vs) ≡ zero_facts at n (take x vs) ++ zero_fact (at k) k v.ty
  zeros_suc [] n x k v e h = absurd (cc h)
  zeros_suc (w ∷ vs) n zero k v e h =
      let same : w ≡ v = cc h in
      let number : n ≡ k = omega (arith, e) in
      append-nil (zero_fact (at n) n w.ty) ∙ ap (λ j. zero_fact (at j) j w.ty) number ∙ ap (λ (x : Variable). zero_fact (at k) k x.ty) same
  zeros_suc (w ∷ vs) n (suc x) k v e h =
      ap (λ l. zero_fact (at n) n w.ty ++ l) (zeros_suc vs (suc n) x k v (omega (arith, e)) h)
      ∙ sym (append_assoc (zero_fact (at n) n w.ty) (zero_facts at (suc n) (take x vs)) (zero_fact (at k) k v.ty))

  zeros_length : (vs : List Variable) (n x : ℕ) → length (zero_facts at n (take x vs)) ≤ x
  zeros_length vs n zero = omega arith
  zeros_length [] n (suc x) = omega arith
  zeros_length (w ∷ vs) n (suc x) =
      omega (arith, zero_length (at n) n w.ty, zeros_length vs (suc n) x, length-append (zero_fact (at n) n w.ty) (zero_facts at (suc n) (take x vs)))

  among_append : (fs gs : List Claim) (f : Claim) → is_among fs f ≡ false → is_among gs f ≡ false → is_among (fs ++ gs) f ≡ false
  among_append [] gs f h k = k
  among_append (g ∷ fs) gs f h k = by (same_claim g f) h (λ e. among_append fs gs f e k)
    where
      by : (b : Bool) → (b || is_among fs f) ≡ false → (is_among fs f ≡ false → is_among (fs ++ gs) f ≡ false) → (b || is_among (fs ++ gs) f) ≡ false
      by true h next = absurd (cc h)
      by false h next = next h

  other : (n k : ℕ) → n < k → nat_eq n k ≡ false
  other n k h = grind (arith, nat_tests, h)

  fresh_zero : (here there : Place) (n k : ℕ) (ty own : Ty) → n < k → is_numeric own ≡ true → is_among (zero_fact here n ty) (compared (single (num_in (named there own (local k)))) equal (single (number no_place 0))) ≡ false
  fresh_zero here there n k (types.Num width lo hi) (types.Num width' lo' hi') l h = rw (other n k l) refl
  fresh_zero here there n k (types.Num width lo hi) own l h = absurd (cc h)
  fresh_zero here there n k types.Flag own l h = refl
  fresh_zero here there n k types.Status own l h = refl
  fresh_zero here there n k (types.Slice width) own l h = refl
  fresh_zero here there n k ty own l h = refl

  zeros_fresh : (vs : List Variable) (n x k : ℕ) (there : Place) (own : Ty) → n + x ≤ k → is_numeric own ≡ true
      → is_among (zero_facts at n (take x vs)) (compared (single (num_in (named there own (local k)))) equal (single (number no_place 0))) ≡ false
  zeros_fresh vs n zero k there own l h = refl
  zeros_fresh [] n (suc x) k there own l h = refl
  zeros_fresh (w ∷ vs) n (suc x) k there own l h =
      among_append (zero_fact (at n) n w.ty) (zero_facts at (suc n) (take x vs)) (compared (single (num_in (named there own (local k)))) equal (single (number no_place 0)))
      (fresh_zero (at n) there n k w.ty own (omega (arith, l)) h) (zeros_fresh vs (suc n) x k there own (omega (arith, l)) h)

-- The locals of a method.
module _ (nodes : TypedNodes) (m : ℕ) where
  pub zeros_none : zeros_before nodes m 0 ≡ []
  unfolding zeros_before
  zeros_none = refl

  pub zeros_all : (x : ℕ) → length (method_at nodes m).locals ≤ x → zeros_before nodes m x ≡ start_facts nodes m
  unfolding zeros_before start_facts
  zeros_all x l = ap (zero_facts (local_at nodes m) 0) (take_all x (method_at nodes m).locals l)

  pub zeros_few : (x : ℕ) → length (zeros_before nodes m x) ≤ x
  unfolding zeros_before
  zeros_few x = zeros_length (local_at nodes m) (method_at nodes m).locals 0 x

  method_is : IsTyped nodes → (method : Method) → slice_get nodes.methods m ≡ Some method → (method_at nodes m).locals ≡ map (variable_of nodes) method.locals
  unfolding method_at
  method_is typed method e =
      let it = declared_there nodes typed m method e in
      ap (λ o. (unwrap_or o no_method).locals) it.1

  map_get : (vs : List Var) (x : ℕ) (v : Var) → slice_get vs x ≡ Some v → slice_get (map (variable_of nodes) vs) x ≡ Some (variable_of nodes v)
  map_get [] x v h = absurd (cc h)
  map_get (w ∷ vs) zero v h = let e : w ≡ v = cc h in ap (λ u. Some (variable_of nodes u)) e
  map_get (w ∷ vs) (suc x) v h = map_get vs x v h

  pub locals_long : IsTyped nodes → (method : Method) → slice_get nodes.methods m ≡ Some method → length (method_at nodes m).locals ≡ length method.locals
  locals_long typed method e = ap (λ (l : List Variable). length l) (method_is typed method e) ∙ length-map method.locals (variable_of nodes)

  pub few_locals : IsTyped nodes → (method : Method) → slice_get nodes.methods m ≡ Some method → length method.locals ≤ 256
  few_locals typed method e =
      let p = both_true (nat_le (length method.args) 64) (nat_le (length method.locals) 256) (all_at has_few_variables nodes.methods m method typed.few_variables e) in
      let t = p.1 in
      grind (arith, nat_tests, t)

  -- The expression of a local.
  module _ (typed : IsTyped nodes) (x : ℕ) (e : ExprId) (it : LocalFound nodes m x e) where
    at_name : local_at nodes m x ≡ it.local.at
    at_name =
        ap (λ o. unwrap_or (option_map (λ v. v.at) (option_and_then (λ method. slice_get method.locals x) o)) no_place) it.known
        ∙ ap (λ o. unwrap_or (option_map (λ v. v.at) o) no_place) it.stands

    local_there : slice_get (method_at nodes m).locals x ≡ Some (variable_of nodes it.local)
    local_there = ap (λ vs. slice_get vs x) (method_is typed it.method it.known) ∙ map_get it.method.locals x it.local it.stands

    next_is : zeros_before nodes m (suc x) ≡ zeros_before nodes m x ++ zero_fact (local_at nodes m x) x it.local.ty
    unfolding zeros_before
    next_is = zeros_suc (local_at nodes m) (method_at nodes m).locals 0 x x (variable_of nodes it.local) (omega arith) local_there

    fresh : is_numeric it.local.ty ≡ true → is_among (zeros_before nodes m x) (compared (single (num_in (named it.local.at it.local.ty (local x)))) equal (single (number no_place 0))) ≡ false
    unfolding zeros_before
    fresh numeric = zeros_fresh (local_at nodes m) (method_at nodes m).locals 0 x x it.local.at it.local.ty (omega arith) numeric

    pub next_number : is_numeric (type_of_node nodes e.0) ≡ true
        → added (zeros_before nodes m x) (compared (single (num_in (tree_of nodes e))) equal (single (number no_place 0))) ≡ zeros_before nodes m (x + 1)
    next_number h =
        let numeric : is_numeric it.local.ty ≡ true = ap is_numeric (sym it.is.typed) ∙ h in
        let claim = compared (single (num_in (named it.local.at it.local.ty (local x)))) equal (single (number no_place 0)) in
        let one : suc x ≡ x + 1 = omega arith in
        ap (λ t. added (zeros_before nodes m x) (compared (single (num_in t)) equal (single (number no_place 0)))) it.is.tree
        ∙ ap (λ b. if b then zeros_before nodes m x else zeros_before nodes m x ++ claim ∷ []) (fresh numeric)
        ∙ sym (ap (λ l. zeros_before nodes m x ++ l) (ap (λ p. zero_fact p x it.local.ty) at_name ∙ zero_of_number it.local.at x it.local.ty numeric))
        ∙ sym next_is
        ∙ ap (zeros_before nodes m) one

    pub next_other : is_numeric (type_of_node nodes e.0) ≡ false → zeros_before nodes m x ≡ zeros_before nodes m (x + 1)
    next_other h =
        let other : is_numeric it.local.ty ≡ false = ap is_numeric (sym it.is.typed) ∙ h in
        let one : suc x ≡ x + 1 = omega arith in
        sym (ap (zeros_before nodes m) (sym one) ∙ next_is ∙ ap (λ l. zeros_before nodes m x ++ l) (zero_of_other (local_at nodes m x) x it.local.ty other) ∙ append-nil (zeros_before nodes m x))

  -- What is found of a local.
  pub local_found : (x : ℕ) (e : ExprId) → IfSome (slice_get nodes.methods m) (λ method. x < length method.locals) → m < length nodes.methods
      → IfSome (slice_get nodes.methods m) (λ method. IfSome (slice_get method.locals x) (λ v. IsLocal nodes e.0 x v)) → LocalFound nodes m x e
  local_found x e h l is = by (slice_get nodes.methods m) refl h is
    where
      there : (vs : List Var) (x : ℕ) → x < length vs → (v : Var) × (slice_get vs x ≡ Some v)
      there [] x l = absurd (omega (arith, l))
      there (v ∷ vs) zero l = (v, refl)
      there (v ∷ vs) (suc x) l = there vs x (omega (arith, l))

      none : (ms : List Method) (i : ℕ) → i < length ms → slice_get ms i ≡ None → ⊥
      none [] i l e = omega (arith, l)
      none (y ∷ ms) zero l e = cc e
      none (y ∷ ms) (suc i) l e = none ms i (omega (arith, l)) e

      by : (o : Option Method) → slice_get nodes.methods m ≡ o → IfSome o (λ method. x < length method.locals) → IfSome o (λ method. IfSome (slice_get method.locals x) (λ v. IsLocal nodes e.0 x v)) → LocalFound nodes m x e
      by None k h is = absurd (none nodes.methods m l k)
      by (Some method) k h is =
          let it = there method.locals x h in
          let P : Option Var → Type 0 = λ o. IfSome o (λ v. IsLocal nodes e.0 x v) in
          record { method = method; local = it.0; known = k; stands = it.1; is = subst P it.1 is }

-- A list of such facts is short.
pub short_start : (nodes : TypedNodes) (m x : ℕ) (e : ExprId) → IsReady nodes m → LocalFound nodes m x e → (fs : List Fact) → claims_in nodes fs ≡ zeros_before nodes m x → length fs ≡ 512 → ⊥
short_start nodes m x e ready it fs same many =
    let few = few_locals nodes m ready.typed it.method it.known in
    let inside = slice_get_within it.method.locals x it.local it.stands in
    let long : length (claims_in nodes fs) ≡ length fs = length-map fs (claim_in nodes) in
    let all : length (claims_in nodes fs) ≡ length (zeros_before nodes m x) = ap (λ (l : List Claim). length l) same in
    omega (arith, few, inside, long, all, zeros_few nodes m x, many)
