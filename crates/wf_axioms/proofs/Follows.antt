-- What follows by an axiom is true where its premises are; its premises keep the rules of types, and have no demands of
-- their own.
use Rattle.std.proofs.Common.{◌≡◌, ℕ, ◌+◌, ◌^◌, Bool, true, false, ◌||◌, inl, inr, List, [], ◌∷◌, Option, Some, None, nat_lt, refl, sym, ap, ◌∙◌, subst}
use Rattle.std.specs.Prelude.{Ok, option_and_then, option_map, if◌then◌else◌, unwrap_or, is_some, All}
use Rattle.std.specs.List.{list_all}
use Rattle.std.proofs.lemmas.List.Elements.{All-nil, All-cons, All-head, All-tail}
use Rattle.wf_text.specs.declared.place.Place.{Place}
use Rattle.wf_text.specs.declared.rules.Refusal.{Refusal}
use Rattle.wf_ast.specs.TypedTree.{NumTree, number, link, plus, Order, less, at_most, equal, differs, at_least, greater, CondTree, compare}
use Rattle.wf_ast.specs.TypedTrees.{no_place}
use Rattle.wf_ast.specs.Value.{State, value, truth_of, compares, fitted}
use Rattle.wf_ast.specs.Same.{same_order}
use Rattle.wf_ast.specs.WellTyped.{Context, is_width, fits, is_constant, is_whole_number, well_part, well_num, well_cond, fit_together, width_of}
use Rattle.wf_ast.proofs.SameValue.{number_same}
use Rattle.wf_facts_exprs.specs.declared.facts.Cmp.{Cmp}
use Rattle.wf_facts_exprs.specs.Claims.{SideTree, single, sum_of, Claim, compared, stands, order_of, side_value, claim_truth, AllTrue}
use Rattle.wf_facts_exprs.specs.Demands.{or_else, num_refusal, cond_refusal, side_refusal}
use Rattle.wf_facts_exprs.specs.LawfulState.{well_side, well_claims}
use Rattle.wf_facts_exprs.proofs.PassLemmas.{both_of}
use Rattle.wf_facts_exprs.proofs.ShapeLemmas.{and_true}
use Rattle.wf_axioms.specs.declared.axioms.Letter.{Letter}
use Rattle.wf_axioms.specs.declared.axioms.Term.{Term}
use Rattle.wf_axioms.specs.declared.axioms.Term.TheVariants.{One, Sum, Zero}
use Rattle.wf_axioms.specs.declared.axioms.Axiom.{Axiom}
use Rattle.wf_axioms.specs.Axioms.{row_of, term_value, holds}
use Rattle.wf_axioms.specs.Matching.{Trees, stands_for, summands, side_of_term, claim_of, claims_of, premises_for}
use Rattle.wf_axioms.specs.Items.{IsFine}
use Rattle.wf_axioms.proofs.Truth.{axiom-true}
use Rattle.wf_axioms.proofs.LetterLemmas.{Extends, AreOne, Stands, Covers, Used, used, Holding, sides-match, given-keeps, premises-have}

some_is : {X : Type 0} (x y : X) → Some x ≡ Some y → x ≡ y
some_is x y h = cc

same_orders : (f g : Order) → same_order f g ≡ true → f ≡ g
same_orders less less h = refl
same_orders at_most at_most h = refl
same_orders equal equal h = refl
same_orders differs differs h = refl
same_orders at_least at_least h = refl
same_orders greater greater h = refl
same_orders f g h = absurd (cc (h))

-- ---- types

whole_part : (c : Context) (t : NumTree) → is_whole_number t ≡ true → well_part c t ≡ true → well_num c t ≡ true
whole_part c t h k = and_true _ _ h k

plus_parts : (c : Context) (at sign : Place) (bits : ℕ) (a b : NumTree) → well_num c (link at sign plus bits false a b) ≡ true → (well_num c a ≡ true) × (well_num c b ≡ true)
plus_parts c at sign bits a b h =
    let p0 = both_of (is_whole_number (link at sign plus bits false a b)) _ h in
    let p1 = both_of (is_width bits) _ p0.1 in
    let p2 = both_of (fits bits a) _ p1.1 in
    let p3 = both_of (fits bits b) _ p2.1 in
    let p4 = both_of (is_whole_number a) _ p3.1 in
    let p5 = both_of (well_part c a) _ p4.1 in
    let p6 = both_of (is_whole_number b) _ p5.1 in
    (whole_part c a p4.0 p5.0, whole_part c b p6.0 p6.1)

compare_parts : (c : Context) (at sign : Place) (t : NumTree) (op : Order) (u : NumTree) → well_cond c (compare at sign t op u) ≡ true → (well_num c t ≡ true) × (well_num c u ≡ true)
compare_parts c at sign t op u h =
    let p = both_of (fit_together t u (width_of t) (width_of u)) _ h in
    both_of (well_num c t) _ p.1

-- ---- truth

module _ (c : Context) (s : State) where
  one_value : (u t : NumTree) → AreOne u t → well_num c u ≡ true → well_num c t ≡ true → value s u ≡ value s t
  one_value u t (inl e) h k = ap (value s) e
  one_value u t (inr e) h k = number_same c s u t h k e

  -- The number that each letter stands for; 0 for none.
  abbrev number_in : Option NumTree → ℕ
  number_in None = 0
  number_in (Some t) = unwrap_or (value s t) 0

  abbrev numbers : Trees → Letter → ℕ
  numbers us l = number_in (stands_for us l)

  letter-number : (us : Trees) (l : Letter) (u : NumTree) (k : ℕ) → stands_for us l ≡ Some u → value s u ≡ Some k → numbers us l ≡ k
  letter-number us l u k h e = ap number_in h ∙ ap (λ (o : Option ℕ). unwrap_or o 0) e

  record Added (a b : NumTree) (k : ℕ) : Type 0 where
    m : ℕ
    n : ℕ
    left : value s a ≡ Some m
    right : value s b ≡ Some n
    sum_is : m + n ≡ k

  -- The sum of two values as a whole number.
  added : (a b : NumTree) (k : ℕ) → option_and_then (λ m. option_map (λ n. m + n) (value s b)) (value s a) ≡ Some k → Added a b k
  added a b k h = by_left (value s a) refl h
    where
      by_right : (m : ℕ) → value s a ≡ Some m → (o : Option ℕ) → value s b ≡ o → option_map (λ n. m + n) o ≡ Some k → Added a b k
      by_right m p None q e = absurd (cc (e))
      by_right m p (Some n) q e = record { m = m; n = n; left = p; right = q; sum_is = some_is (m + n) k e }

      by_left : (o : Option ℕ) → value s a ≡ o → option_and_then (λ m. option_map (λ n. m + n) (value s b)) o ≡ Some k → Added a b k
      by_left None p e = absurd (cc (e))
      by_left (Some m) p e = by_right m p (value s b) refl e

  -- And within a width.
  added_within : (bits : ℕ) (a b : NumTree) (k : ℕ) → option_and_then (λ m. option_and_then (λ n. fitted bits (m + n)) (value s b)) (value s a) ≡ Some k → Added a b k
  added_within bits a b k h = by_left (value s a) refl h
    where
      by_test : (m n : ℕ) → value s a ≡ Some m → value s b ≡ Some n → (t : Bool) → (if t then Some (m + n) else None) ≡ Some k → Added a b k
      by_test m n p q true e = record { m = m; n = n; left = p; right = q; sum_is = some_is (m + n) k e }
      by_test m n p q false e = absurd (cc (e))

      by_right : (m : ℕ) → value s a ≡ Some m → (o : Option ℕ) → value s b ≡ o → option_and_then (λ n. fitted bits (m + n)) o ≡ Some k → Added a b k
      by_right m p None q e = absurd (cc (e))
      by_right m p (Some n) q e = by_test m n p q (nat_lt (m + n) (2 ^ bits)) e

      by_left : (o : Option ℕ) → value s a ≡ o → option_and_then (λ m. option_and_then (λ n. fitted bits (m + n)) (value s b)) o ≡ Some k → Added a b k
      by_left None p e = absurd (cc (e))
      by_left (Some m) p e = by_right m p (value s b) refl e

  record Split (t a b : NumTree) (k : ℕ) : Type 0 where
    left : well_num c a ≡ true
    right : well_num c b ≡ true
    values : Added a b k

  split : (t a b : NumTree) (k : ℕ) → summands t ≡ Some (a, b) → well_num c t ≡ true → value s t ≡ Some k → Split t a b k
  split (link at sign plus bits false x y) a b k h w e =
      let p = plus_parts c at sign bits x y w in
      let v = added_within bits x y k e in
      let q : (x, y) ≡ (a, b) = some_is (x, y) (a, b) h in
      subst (λ (z : NumTree × NumTree). Split (link at sign plus bits false x y) z.0 z.1 k) q (record { left = p.0; right = p.1; values = v })
  split t a b k h w e = absurd (cc (h))

  abbrev Well : NumTree → Type 0
  Well t = well_num c t ≡ true

  -- What a term of the goal has been matched with has the term's number.
  module _ (ts us : Trees) (h : Holding Well (plus_parts c) ts) (k : Extends ts us) where
    one-number : (l : Letter) (t : NumTree) (n : ℕ) → Stands ts l t → Well t → value s t ≡ Some n → numbers us l ≡ n
    one-number l t n v w e = letter-number us l v.0 n (k.keeps l v.0 v.1) (one_value v.0 t v.2 (h.at l v.0 v.1) w ∙ e)

    term-number : (m : Term) (t : NumTree) (n : ℕ) → Covers ts m t → Well t → value s t ≡ Some n → term_value (numbers us) m ≡ n
    term-number (One l) t n v w e = one-number l t n v w e
    term-number (Sum l m) t n v w e =
        let p = split t v.0 v.1 n v.2 w e in
        let q = p.values in
        let i = one-number l v.0 q.m v.3 p.left q.left in
        let j = one-number m v.1 q.n v.4 p.right q.right in
        let r : numbers us l + numbers us m ≡ q.m + q.n = λ x. i x + j x in
        r ∙ q.sum_is
    term-number Zero t n v w e = absurd v

  sum_of-value : (t u : NumTree) → side_value s (sum_of t u) ≡ option_and_then (λ m. option_map (λ n. m + n) (value s u)) (value s t)
  sum_of-value (number at m) (number at' n) = refl
  sum_of-value t u = refl

  -- The number of a side of a premise is its term's.
  side-number : (us : Trees) (m : Term) (x : SideTree) (n : ℕ) → side_of_term us m ≡ Some x → side_value s x ≡ Some n → term_value (numbers us) m ≡ n
  side-number us (One l) x n h e = by_letter (stands_for us l) refl h
    where
      by_letter : (o : Option NumTree) → stands_for us l ≡ o → option_map single o ≡ Some x → numbers us l ≡ n
      by_letter None k g = absurd (cc (g))
      by_letter (Some t) k g = letter-number us l t n k (ap (side_value s) (some_is (single t) x g) ∙ e)
  side-number us (Sum l m) x n h e = by_first (stands_for us l) refl h
    where
      by_second : (t : NumTree) → stands_for us l ≡ Some t → (o : Option NumTree) → stands_for us m ≡ o → option_map (sum_of t) o ≡ Some x → numbers us l + numbers us m ≡ n
      by_second t p None k g = absurd (cc (g))
      by_second t p (Some u) k g =
          let q = added t u n (sym (sum_of-value t u) ∙ ap (side_value s) (some_is (sum_of t u) x g) ∙ e) in
          let i = letter-number us l t q.m p q.left in
          let j = letter-number us m u q.n k q.right in
          let r : numbers us l + numbers us m ≡ q.m + q.n = λ y. i y + j y in
          r ∙ q.sum_is

      by_first : (o : Option NumTree) → stands_for us l ≡ o → option_and_then (λ t. option_map (sum_of t) (stands_for us m)) o ≡ Some x → numbers us l + numbers us m ≡ n
      by_first None k g = absurd (cc (g))
      by_first (Some t) k g = by_second t k (stands_for us m) refl g
  side-number us Zero x n h e = some_is 0 n (ap (side_value s) (some_is (single (number no_place 0)) x h) ∙ e)

  record Compared (op : Order) (o o' : Option ℕ) (b : Bool) : Type 0 where
    m : ℕ
    n : ℕ
    left : o ≡ Some m
    right : o' ≡ Some n
    answer : compares op m n ≡ b

  both_values : (op : Order) (o o' : Option ℕ) (b : Bool) → option_and_then (λ m. option_map (compares op m) o') o ≡ Some b → Compared op o o' b
  both_values op None o' b h = absurd (cc (h))
  both_values op (Some m) None b h = absurd (cc (h))
  both_values op (Some m) (Some n) b h = record { m = m; n = n; left = refl; right = refl; answer = some_is (compares op m n) b h }

  claim-holds : (us : Trees) (p : Term × Cmp × Term) (f : Claim) → claim_of us p ≡ Some f → claim_truth s f ≡ Some true → holds (numbers us) p ≡ true
  claim-holds us p f h e = by_left (side_of_term us p.0) refl h
    where
      by_both : (x y : SideTree) → side_of_term us p.0 ≡ Some x → side_of_term us p.2 ≡ Some y → claim_truth s (compared x (order_of p.1) y) ≡ Some true → holds (numbers us) p ≡ true
      by_both x y i j g =
          let q = both_values (order_of p.1) (side_value s x) (side_value s y) true g in
          let l = side-number us p.0 x q.m i q.left in
          let r = side-number us p.2 y q.n j q.right in
          let w : compares (order_of p.1) (term_value (numbers us) p.0) (term_value (numbers us) p.2) ≡ compares (order_of p.1) q.m q.n = λ z. compares (order_of p.1) (l z) (r z) in
          w ∙ q.answer

      by_right : (x : SideTree) → side_of_term us p.0 ≡ Some x → (o : Option SideTree) → side_of_term us p.2 ≡ o → option_map (compared x (order_of p.1)) o ≡ Some f → holds (numbers us) p ≡ true
      by_right x i None j g = absurd (cc (g))
      by_right x i (Some y) j g = by_both x y i j (ap (claim_truth s) (some_is (compared x (order_of p.1) y) f g) ∙ e)

      by_left : (o : Option SideTree) → side_of_term us p.0 ≡ o → option_and_then (λ x. option_map (compared x (order_of p.1)) (side_of_term us p.2)) o ≡ Some f → holds (numbers us) p ≡ true
      by_left None i g = absurd (cc (g))
      by_left (Some x) i g = by_right x i (side_of_term us p.2) refl g

  claims-hold : (us : Trees) (ps : List (Term × Cmp × Term)) (fs : List Claim) → claims_of us ps ≡ Some fs → AllTrue s fs → list_all (λ p. holds (numbers us) p) ps ≡ true
  claims-hold us [] fs h e = refl
  claims-hold us (p ∷ ps) fs h e = by_first (λ gs k g. claims-hold us ps gs k g) (claim_of us p) refl h
    where
      by_both : ((gs : List Claim) → claims_of us ps ≡ Some gs → AllTrue s gs → list_all (λ q. holds (numbers us) q) ps ≡ true) → (f : Claim) (gs : List Claim) → claim_of us p ≡ Some f → claims_of us ps ≡ Some gs → AllTrue s (f ∷ gs) → list_all (λ q. holds (numbers us) q) (p ∷ ps) ≡ true
      by_both later f gs i j t = and_true (holds (numbers us) p) (list_all (λ q. holds (numbers us) q) ps) (claim-holds us p f i t.0) (later gs j t.1)

      by_rest : ((gs : List Claim) → claims_of us ps ≡ Some gs → AllTrue s gs → list_all (λ q. holds (numbers us) q) ps ≡ true) → (f : Claim) → claim_of us p ≡ Some f → (o : Option (List Claim)) → claims_of us ps ≡ o → option_map (λ gs. f ∷ gs) o ≡ Some fs → list_all (λ q. holds (numbers us) q) (p ∷ ps) ≡ true
      by_rest later f i None j g = absurd (cc (g))
      by_rest later f i (Some gs) j g = by_both later f gs i j (subst (λ hs. AllTrue s hs) (sym (some_is (f ∷ gs) fs g)) e)

      by_first : ((gs : List Claim) → claims_of us ps ≡ Some gs → AllTrue s gs → list_all (λ q. holds (numbers us) q) ps ≡ true) → (o : Option Claim) → claim_of us p ≡ o → option_and_then (λ f. option_map (λ gs. f ∷ gs) (claims_of us ps)) o ≡ Some fs → list_all (λ q. holds (numbers us) q) (p ∷ ps) ≡ true
      by_first later None i g = absurd (cc (g))
      by_first later (Some f) i g = by_rest later f i (claims_of us ps) refl g

  no_parts : (at sign : Place) (bits : ℕ) (a b : NumTree) → Unit {0} → Unit {0} × Unit {0}
  no_parts at sign bits a b h = (tt, tt)

  compared-true : (a : Axiom) (at sign : Place) (t : NumTree) (op : Order) (u : NumTree) (given : List (List ℕ × NumTree)) (fs : List Claim) → well_cond c (compare at sign t op u) ≡ true
      → Used a (compare at sign t op u) given fs → AllTrue s fs → (m n : ℕ) → value s t ≡ Some m → value s u ≡ Some n → compares op m n ≡ true
  compared-true a at sign t op u given fs well w all m n i j =
      let p = compare_parts c at sign t op u well in
      let q = sides-match Well (plus_parts c) a t u op w.ts p.0 p.1 w.goal_is in
      let k = given-keeps (λ t. Unit {0}) no_parts a given w.ts w.us (λ x d h. tt) (record { at = λ l t h. tt }) w.given_is in
      let truth = axiom-true a (numbers w.us) (claims-hold w.us (row_of a).premises fs w.claims_is all) in
      let l = term-number w.ts w.us q.holding k.extends (row_of a).goal.0 t m q.left p.0 i in
      let r = term-number w.ts w.us q.holding k.extends (row_of a).goal.2 u n q.right p.1 j in
      let o = same_orders op (order_of (row_of a).goal.1) q.order in
      let e : compares (order_of (row_of a).goal.1) (term_value (numbers w.us) (row_of a).goal.0) (term_value (numbers w.us) (row_of a).goal.2) ≡ compares op m n = λ z. compares (sym o z) (l z) (r z) in
      sym e ∙ truth

  pub follows-true : (a : Axiom) (goal : CondTree) (given : List (List ℕ × NumTree)) (fs : List Claim) → well_cond c goal ≡ true → premises_for a goal given ≡ Ok fs → AllTrue s fs → is_some (truth_of s goal) ≡ true → truth_of s goal ≡ Some true
  follows-true a (compare at sign t op u) given fs well h all has = by_left (value s t) refl has
    where
      by_right : (m : ℕ) → value s t ≡ Some m → (o : Option ℕ) → value s u ≡ o → is_some (option_map (compares op m) o) ≡ true → option_map (compares op m) o ≡ Some true
      by_right m i None j g = absurd (cc (g))
      by_right m i (Some n) j g = ap (λ b. Some b) (compared-true a at sign t op u given fs well (used a (compare at sign t op u) given fs h) all m n i j)

      by_left : (o : Option ℕ) → value s t ≡ o → is_some (option_and_then (λ m. option_map (compares op m) (value s u)) o) ≡ true → option_and_then (λ m. option_map (compares op m) (value s u)) o ≡ Some true
      by_left None i g = absurd (cc (g))
      by_left (Some m) i g = by_right m i (value s u) refl g
  follows-true a goal given fs well h all has = absurd (cc (h))

-- ---- the rules of types

single-well : (c : Context) (t : NumTree) → well_num c t ≡ true → well_side c (single t) ≡ true
single-well c t h = by_test (is_constant t)
  where
    by_test : (b : Bool) → (b || well_num c t) ≡ true
    by_test true = refl
    by_test false = h

sum-well : (c : Context) (t u : NumTree) → well_num c t ≡ true → well_num c u ≡ true → well_side c (sum_of t u) ≡ true
sum-well c (number at m) (number at' n) h k = refl
sum-well c t u h k = and_true (well_num c t) (well_num c u) h k

listed : (given : List (List ℕ × NumTree)) (c : Context) → list_all (λ g. well_num c g.1) given ≡ true → All (λ g. well_num c g.1 ≡ true) given
listed [] c h = All-nil (λ g. well_num c g.1 ≡ true)
listed (g ∷ gs) c h =
    let p = both_of (well_num c g.1) _ h in
    All-cons (λ x. well_num c x.1 ≡ true) g gs p.0 (listed gs c p.1)

abbrev SidesWell : Context → Claim → Type 0
SidesWell c (compared x op y) = (well_side c x ≡ true) × (well_side c y ≡ true)
SidesWell c f = ⊥

all-well : (c : Context) (fs : List Claim) → All (λ f. SidesWell c f) fs → well_claims c fs ≡ true
all-well c [] h = refl
all-well c (compared x op y ∷ fs) h =
    let p = All-head (λ f. SidesWell c f) (compared x op y) fs h in
    and_true _ _ (and_true _ _ p.0 p.1) (all-well c fs (All-tail (λ f. SidesWell c f) (compared x op y) fs h))
all-well c (stands cond answer ∷ fs) h = absurd (All-head (λ f. SidesWell c f) (stands cond answer) fs h)

abbrev OperandsWell : Context → CondTree → Type 0
OperandsWell c (compare at sign t op u) = (well_num c t ≡ true) × (well_num c u ≡ true)
OperandsWell c goal = Unit {0}

operands-well : (c : Context) (goal : CondTree) → well_cond c goal ≡ true → OperandsWell c goal
operands-well c (compare at sign t op u) h = compare_parts c at sign t op u h
operands-well c goal h = tt

pub premises-well : (a : Axiom) (c : Context) (goal : CondTree) (given : List (List ℕ × NumTree)) (fs : List Claim) → well_cond c goal ≡ true → list_all (λ g. well_num c g.1) given ≡ true → premises_for a goal given ≡ Ok fs → well_claims c fs ≡ true
premises-well a c goal given fs h k e =
    all-well c fs
    (premises-have (λ t. well_num c t ≡ true) (plus_parts c) (λ x. well_side c x ≡ true) (single-well c) (sum-well c) refl a goal given fs (operands-well c goal h) (listed given c k) e)

-- ---- demands

none_both : (p q : Option Refusal) → or_else p q ≡ None → (p ≡ None) × (q ≡ None)
none_both None q h = (refl, h)
none_both (Some r) q h = absurd (cc (h))

both_none : (p q : Option Refusal) → p ≡ None → q ≡ None → or_else p q ≡ None
both_none None q h k = k
both_none (Some r) q h k = absurd (cc (h))

plus_fine : (known : List Claim) (at sign : Place) (bits : ℕ) (a b : NumTree) → num_refusal known false (link at sign plus bits false a b) ≡ None → (num_refusal known false a ≡ None) × (num_refusal known false b ≡ None)
plus_fine known at sign bits a b h =
    let p = none_both (num_refusal known false a) _ h in
    let q = none_both (num_refusal known false b) _ p.1 in
    (p.0, q.0)

sum-fine : (known : List Claim) (t u : NumTree) → num_refusal known false t ≡ None → num_refusal known false u ≡ None → side_refusal known (sum_of t u) ≡ None
sum-fine known (number at m) (number at' n) h k = refl
sum-fine known t u h k = both_none (num_refusal known false t) (num_refusal known false u) h k

abbrev OperandsFine : List Claim → CondTree → Type 0
OperandsFine known (compare at sign t op u) = (num_refusal known false t ≡ None) × (num_refusal known false u ≡ None)
OperandsFine known goal = Unit {0}

operands-fine : (known : List Claim) (goal : CondTree) → cond_refusal known goal ≡ None → OperandsFine known goal
operands-fine known (compare at sign t op u) h = none_both (num_refusal known false t) (num_refusal known false u) h
operands-fine known goal h = tt

pub premises-fine : (a : Axiom) (known : List Claim) (goal : CondTree) (given : List (List ℕ × NumTree)) (fs : List Claim) → cond_refusal known goal ≡ None → All (λ g. num_refusal known false g.1 ≡ None) given → premises_for a goal given ≡ Ok fs → All (λ f. IsFine known f) fs
premises-fine a known goal given fs h k e =
    premises-have (λ t. num_refusal known false t ≡ None) (plus_fine known) (λ x. side_refusal known x ≡ None) (λ t h. h) (sum-fine known) refl a goal given fs (operands-fine known goal h) k e
