-- What the letters of an axiom stand for, kept as letters are bound.
use Rattle.std.proofs.Common.{◌≡◌, ℕ, Bool, true, false, ◌⊎◌, inl, inr, List, [], ◌∷◌, Option, Some, None, refl, ap, subst}
use Rattle.std.specs.Prelude.{Ok, option_and_then, option_map, if◌then◌else◌, All}
use Rattle.std.proofs.lemmas.List.Elements.{All-nil, All-cons, All-head, All-tail}
use Rattle.wf_text.specs.declared.place.Place.{Place}
use Rattle.wf_ast.specs.TypedTree.{NumTree, number, link, plus, Order, CondTree, compare}
use Rattle.wf_ast.specs.TypedTrees.{no_place}
use Rattle.wf_ast.specs.Same.{same_num, same_order}
use Rattle.wf_facts_exprs.specs.declared.facts.Cmp.{Cmp}
use Rattle.wf_facts_exprs.specs.Claims.{SideTree, single, sum_of, Claim, compared, order_of}
use Rattle.wf_axioms.specs.declared.axioms.Letter.{Letter}
use Rattle.wf_axioms.specs.declared.axioms.Letter.TheVariants.{A, B, C, D, B0, C0}
use Rattle.wf_axioms.specs.declared.axioms.Term.{Term}
use Rattle.wf_axioms.specs.declared.axioms.Term.TheVariants.{One, Sum, Zero}
use Rattle.wf_axioms.specs.declared.axioms.Axiom.{Axiom}
use Rattle.wf_axioms.specs.Axioms.{row_of}
use Rattle.wf_axioms.specs.Matching.{Trees, no_trees, stands_for, with_tree, bind_again, bind, summands, matched_term, matched_sides, matched, is_free, letter_named, bind_new, bind_free, with_one, with_given, side_of_term, claim_of, claims_of, unless_unbound, after_matching, premises_for}

some_is : {X : Type 0} (x y : X) → Some x ≡ Some y → x ≡ y
some_is x y h = cc

-- What is known of each letter stays known.
pub record Extends (ts us : Trees) : Type 0 where
  pub keeps : (l : Letter) (t : NumTree) → stands_for ts l ≡ Some t → stands_for us l ≡ Some t

extends_self : (ts : Trees) → Extends ts ts
extends_self ts = record { keeps = λ l t h. h }

extends_both : (ts us vs : Trees) → Extends ts us → Extends us vs → Extends ts vs
extends_both ts us vs h k = record { keeps = λ l t e. k.keeps l t (h.keeps l t e) }

stands_now : (l : Letter) (t : NumTree) (ts : Trees) → stands_for (with_tree l t ts) l ≡ Some t
stands_now A t ts = refl
stands_now B t ts = refl
stands_now C t ts = refl
stands_now D t ts = refl
stands_now B0 t ts = refl
stands_now C0 t ts = refl

stands_still : (l m : Letter) (t u : NumTree) (ts : Trees) → stands_for ts l ≡ None → stands_for ts m ≡ Some u → stands_for (with_tree l t ts) m ≡ Some u
stands_still A A t u ts h k = absurd (cc (h, k))
stands_still B B t u ts h k = absurd (cc (h, k))
stands_still C C t u ts h k = absurd (cc (h, k))
stands_still D D t u ts h k = absurd (cc (h, k))
stands_still B0 B0 t u ts h k = absurd (cc (h, k))
stands_still C0 C0 t u ts h k = absurd (cc (h, k))
stands_still A m t u ts h k = k
stands_still B m t u ts h k = k
stands_still C m t u ts h k = k
stands_still D m t u ts h k = k
stands_still B0 m t u ts h k = k
stands_still C0 m t u ts h k = k

-- A tree is another, or the same by the rules.
abbrev pub AreOne : NumTree → NumTree → Type 0
AreOne u t = (u ≡ t) ⊎ (same_num u t ≡ true)

-- A letter has been matched with this tree, and a term.
abbrev pub Stands : Trees → Letter → NumTree → Type 0
Stands ts l t = (u : NumTree) × (stands_for ts l ≡ Some u) × AreOne u t

abbrev pub Covers : Trees → Term → NumTree → Type 0
Covers ts (One l) t = Stands ts l t
Covers ts (Sum l m) t = (a : NumTree) × (b : NumTree) × (summands t ≡ Some (a, b)) × Stands ts l a × Stands ts m b
Covers ts Zero t = ⊥

covers-one : (ts us : Trees) (l : Letter) (t : NumTree) → Extends ts us → Stands ts l t → Stands us l t
covers-one ts us l t h k = (k.0, h.keeps l k.0 k.1, k.2)

pub covers_still : (ts us : Trees) (m : Term) (t : NumTree) → Extends ts us → Covers ts m t → Covers us m t
covers_still ts us (One l) t h k = covers-one ts us l t h k
covers_still ts us (Sum l m) t h k = (k.0, k.1, k.2, covers-one ts us l k.0 h k.3, covers-one ts us m k.1 h k.4)
covers_still ts us Zero t h k = k

-- How an answer came: the goal matched, the letters given were free, and every letter of the premises stands for a tree.
pub record Used (a : Axiom) (goal : CondTree) (given : List (List ℕ × NumTree)) (fs : List Claim) : Type 0 where
  pub ts : Trees
  pub us : Trees
  pub goal_is : matched a goal ≡ Some ts
  pub given_is : with_given a given ts ≡ Some us
  pub claims_is : claims_of us (row_of a).premises ≡ Some fs

pub used : (a : Axiom) (goal : CondTree) (given : List (List ℕ × NumTree)) (fs : List Claim) → premises_for a goal given ≡ Ok fs → Used a goal given fs
used a goal given fs h = by_goal (matched a goal) refl h
  where
    by_claims : (ts us : Trees) → matched a goal ≡ Some ts → with_given a given ts ≡ Some us → (o : Option (List Claim)) → claims_of us (row_of a).premises ≡ o → unless_unbound o ≡ Ok fs → Used a goal given fs
    by_claims ts us g w None e k = absurd (cc (k))
    by_claims ts us g w (Some hs) e k = record { ts = ts; us = us; goal_is = g; given_is = w; claims_is = cc }

    by_given : (ts : Trees) → matched a goal ≡ Some ts → (o : Option Trees) → with_given a given ts ≡ o → unless_unbound (option_and_then (λ us. claims_of us (row_of a).premises) o) ≡ Ok fs → Used a goal given fs
    by_given ts g None e k = absurd (cc (k))
    by_given ts g (Some us) e k = by_claims ts us g e (claims_of us (row_of a).premises) refl k

    by_goal : (o : Option Trees) → matched a goal ≡ o → after_matching a given o ≡ Ok fs → Used a goal given fs
    by_goal None e k = absurd (cc (k))
    by_goal (Some ts) e k = by_given ts e (with_given a given ts) refl k

-- A property that the operands of a `+` have where it has it: all trees that letters stand for have it where the sides of
-- the goal and what is given have it.
module _ (P : NumTree → Type 0) (parts : (at sign : Place) (bits : ℕ) (a b : NumTree) → P (link at sign plus bits false a b) → P a × P b) where
  pub record Holding (ts : Trees) : Type 0 where
    pub at : (l : Letter) (t : NumTree) → stands_for ts l ≡ Some t → P t

  none_holding : Holding no_trees
  none_holding = record { at = nothing }
    where
      nothing : (l : Letter) (t : NumTree) → stands_for no_trees l ≡ Some t → P t
      nothing A t h = absurd (cc (h))
      nothing B t h = absurd (cc (h))
      nothing C t h = absurd (cc (h))
      nothing D t h = absurd (cc (h))
      nothing B0 t h = absurd (cc (h))
      nothing C0 t h = absurd (cc (h))

  holds_now : (t u : NumTree) → P t → Some t ≡ Some u → P u
  holds_now t u p h = subst P (some_is t u h) p

  holds_at : (l m : Letter) (t u : NumTree) (ts : Trees) → P t → Holding ts → stands_for (with_tree l t ts) m ≡ Some u → P u
  holds_at A A t u ts p h k = holds_now t u p k
  holds_at B B t u ts p h k = holds_now t u p k
  holds_at C C t u ts p h k = holds_now t u p k
  holds_at D D t u ts p h k = holds_now t u p k
  holds_at B0 B0 t u ts p h k = holds_now t u p k
  holds_at C0 C0 t u ts p h k = holds_now t u p k
  holds_at A m t u ts p h k = h.at m u k
  holds_at B m t u ts p h k = h.at m u k
  holds_at C m t u ts p h k = h.at m u k
  holds_at D m t u ts p h k = h.at m u k
  holds_at B0 m t u ts p h k = h.at m u k
  holds_at C0 m t u ts p h k = h.at m u k

  holding_now : (l : Letter) (t : NumTree) (ts : Trees) → P t → Holding ts → Holding (with_tree l t ts)
  holding_now l t ts p h = record { at = λ m u k. holds_at l m t u ts p h k }

  -- What a step leaves.
  pub record Keeps (ts us : Trees) : Type 0 where
    pub extends : Extends ts us
    pub holding : Holding us

  keeps_self : (ts : Trees) → Holding ts → Keeps ts ts
  keeps_self ts h = record { extends = extends_self ts; holding = h }

  keeps_now : (l : Letter) (t : NumTree) (ts us : Trees) → P t → Holding ts → stands_for ts l ≡ None → Some (with_tree l t ts) ≡ Some us → Keeps ts us
  keeps_now l t ts us p h n e = subst (λ vs. Keeps ts vs) (some_is (with_tree l t ts) us e) (record { extends = record { keeps = λ m u k. stands_still l m t u ts n k }; holding = holding_now l t ts p h })

  keeps_both : (ts us vs : Trees) → Keeps ts us → Keeps us vs → Keeps ts vs
  keeps_both ts us vs h k = record { extends = extends_both ts us vs h.extends k.extends; holding = k.holding }

  pub record Matches (m : Term) (t : NumTree) (ts us : Trees) : Type 0 where
    pub keeps : Keeps ts us
    pub covers : Covers us m t

  bind-matches : (l : Letter) (t : NumTree) (ts us : Trees) → P t → Holding ts → bind l t ts ≡ Some us → Matches (One l) t ts us
  bind-matches l t ts us p h e = by_old (stands_for ts l) refl e
    where
      by_test : (u : NumTree) → stands_for ts l ≡ Some u → (b : Bool) → same_num u t ≡ b → (if b then Some ts else None) ≡ Some us → Matches (One l) t ts us
      by_test u n true q k = subst (λ vs. Matches (One l) t ts vs) (some_is ts us k) (record { keeps = keeps_self ts h; covers = (u, n, inr q) })
      by_test u n false q k = absurd (cc (k))

      by_old : (o : Option NumTree) → stands_for ts l ≡ o → bind_again o l t ts ≡ Some us → Matches (One l) t ts us
      by_old None n k = record {
        keeps = keeps_now l t ts us p h n k;
        covers = (t, subst (λ vs. stands_for vs l ≡ Some t) (some_is (with_tree l t ts) us k) (stands_now l t ts), inl refl);
      }
      by_old (Some u) n k = by_test u n (same_num u t) refl k

  summand_parts : (t a b : NumTree) → summands t ≡ Some (a, b) → P t → P a × P b
  summand_parts (link at sign plus bits false x y) a b h p =
      let q = parts at sign bits x y p in
      let e : (x, y) ≡ (a, b) = some_is (x, y) (a, b) h in
      (subst P (ap (λ (z : NumTree × NumTree). z.0) e) q.0, subst P (ap (λ (z : NumTree × NumTree). z.1) e) q.1)
  summand_parts t a b h p = absurd (cc (h))

  term-matches : (m : Term) (t : NumTree) (ts us : Trees) → P t → Holding ts → matched_term m t ts ≡ Some us → Matches m t ts us
  term-matches (One l) t ts us p h e = bind-matches l t ts us p h e
  term-matches (Sum l m) t ts us p h e = by_summands (summands t) refl e
    where
      by_first : (a b : NumTree) → summands t ≡ Some (a, b) → (o : Option Trees) → bind l a ts ≡ o → option_and_then (bind m b) o ≡ Some us → Matches (Sum l m) t ts us
      by_first a b q None k e = absurd (cc (e))
      by_first a b q (Some vs) k e =
          let r = summand_parts t a b q p in
          let first = bind-matches l a ts vs r.0 h k in
          let second = bind-matches m b vs us r.1 first.keeps.holding e in
          record {
            keeps = keeps_both ts vs us first.keeps second.keeps;
            covers = (a, b, q, covers-one vs us l a second.keeps.extends first.covers, second.covers);
          }

      by_summands : (o : Option (NumTree × NumTree)) → summands t ≡ o → option_and_then (λ q. option_and_then (bind m q.1) (bind l q.0 ts)) o ≡ Some us → Matches (Sum l m) t ts us
      by_summands None q e = absurd (cc (e))
      by_summands (Some (a, b)) q e = by_first a b q (bind l a ts) refl e
  term-matches Zero t ts us p h e = absurd (cc (e))

  pub record SidesMatch (a : Axiom) (t : NumTree) (op : Order) (u : NumTree) (ts : Trees) : Type 0 where
    pub holding : Holding ts
    pub order : same_order op (order_of (row_of a).goal.1) ≡ true
    pub left : Covers ts (row_of a).goal.0 t
    pub right : Covers ts (row_of a).goal.2 u

  pub sides-match : (a : Axiom) (t u : NumTree) (op : Order) (ts : Trees) → P t → P u → matched_sides a (t, op, u) ≡ Some ts → SidesMatch a t op u ts
  sides-match a t u op ts p q e = by_order (same_order op (order_of (row_of a).goal.1)) refl e
    where
      by_first : same_order op (order_of (row_of a).goal.1) ≡ true → (o : Option Trees) → matched_term (row_of a).goal.0 t no_trees ≡ o → option_and_then (matched_term (row_of a).goal.2 u) o ≡ Some ts → SidesMatch a t op u ts
      by_first same None k e = absurd (cc (e))
      by_first same (Some vs) k e =
          let first = term-matches (row_of a).goal.0 t no_trees vs p none_holding k in
          let second = term-matches (row_of a).goal.2 u vs ts q first.keeps.holding e in
          record {
            holding = second.keeps.holding;
            order = same;
            left = covers_still vs ts (row_of a).goal.0 t second.keeps.extends first.covers;
            right = second.covers;
          }

      by_order : (b : Bool) → same_order op (order_of (row_of a).goal.1) ≡ b → (if b then option_and_then (matched_term (row_of a).goal.2 u) (matched_term (row_of a).goal.0 t no_trees) else None) ≡ Some ts → SidesMatch a t op u ts
      by_order true same e = by_first same (matched_term (row_of a).goal.0 t no_trees) refl e
      by_order false same e = absurd (cc (e))

  one-keeps : (a : Axiom) (g : List ℕ × NumTree) (ts us : Trees) → P g.1 → Holding ts → with_one a g ts ≡ Some us → Keeps ts us
  one-keeps a g ts us p h e = by_name (letter_named g.0) e
    where
      by_old : (l : Letter) (o : Option NumTree) → stands_for ts l ≡ o → bind_new o l g.1 ts ≡ Some us → Keeps ts us
      by_old l None n k = keeps_now l g.1 ts us p h n k
      by_old l (Some u) n k = absurd (cc (k))

      by_free : (l : Letter) (b : Bool) → (if b then bind_new (stands_for ts l) l g.1 ts else None) ≡ Some us → Keeps ts us
      by_free l true k = by_old l (stands_for ts l) refl k
      by_free l false k = absurd (cc (k))

      by_name : (o : Option Letter) → option_and_then (bind_free a g.1 ts) o ≡ Some us → Keeps ts us
      by_name None k = absurd (cc (k))
      by_name (Some l) k = by_free l (is_free a l) k

  pub given-keeps : (a : Axiom) (given : List (List ℕ × NumTree)) (ts us : Trees) → All (λ g. P g.1) given → Holding ts → with_given a given ts ≡ Some us → Keeps ts us
  given-keeps a [] ts us all h e = subst (λ vs. Keeps ts vs) (some_is ts us e) (keeps_self ts h)
  given-keeps a (g ∷ gs) ts us all h e = by_first (λ vs k w. given-keeps a gs vs us (All-tail (λ x. P x.1) g gs all) k w) (with_one a g ts) refl e
    where
      by_first : ((vs : Trees) → Holding vs → with_given a gs vs ≡ Some us → Keeps vs us) → (o : Option Trees) → with_one a g ts ≡ o → option_and_then (with_given a gs) o ≡ Some us → Keeps ts us
      by_first rest None k e = absurd (cc (e))
      by_first rest (Some vs) k e =
          let first = one-keeps a g ts vs (All-head (λ x. P x.1) g gs all) h k in
          keeps_both ts vs us first (rest vs first.holding e)

  -- What is known of the sides of the goal.
  abbrev pub OfGoal : CondTree → Type 0
  OfGoal (compare at sign t op u) = P t × P u
  OfGoal goal = Unit {0}

  pub goal-keeps : (a : Axiom) (goal : CondTree) (ts : Trees) → OfGoal goal → matched a goal ≡ Some ts → Holding ts
  goal-keeps a (compare at sign t op u) ts h e = (sides-match a t u op ts h.0 h.1 e).holding
  goal-keeps a goal ts h e = absurd (cc (e))

  -- A property that each side made of such trees has.
  module _ (Q : SideTree → Type 0) (one : (t : NumTree) → P t → Q (single t)) (two : (t u : NumTree) → P t → P u → Q (sum_of t u)) (zero_has : Q (single (number no_place 0))) where
    side-has : (ts : Trees) (m : Term) (x : SideTree) → Holding ts → side_of_term ts m ≡ Some x → Q x
    side-has ts (One l) x h e = by_letter (stands_for ts l) refl e
      where
        by_letter : (o : Option NumTree) → stands_for ts l ≡ o → option_map single o ≡ Some x → Q x
        by_letter None k e = absurd (cc (e))
        by_letter (Some t) k e = subst Q (some_is (single t) x e) (one t (h.at l t k))
    side-has ts (Sum l m) x h e = by_first (stands_for ts l) refl e
      where
        by_second : (t : NumTree) → P t → (o : Option NumTree) → stands_for ts m ≡ o → option_map (sum_of t) o ≡ Some x → Q x
        by_second t p None k e = absurd (cc (e))
        by_second t p (Some u) k e = subst Q (some_is (sum_of t u) x e) (two t u p (h.at m u k))

        by_first : (o : Option NumTree) → stands_for ts l ≡ o → option_and_then (λ t. option_map (sum_of t) (stands_for ts m)) o ≡ Some x → Q x
        by_first None k e = absurd (cc (e))
        by_first (Some t) k e = by_second t (h.at l t k) (stands_for ts m) refl e
    side-has ts Zero x h e = subst Q (some_is (single (number no_place 0)) x e) zero_has

    abbrev pub OfSides : Claim → Type 0
    OfSides (compared x op y) = Q x × Q y
    OfSides f = ⊥

    claim-has : (ts : Trees) (c : Term × Cmp × Term) (f : Claim) → Holding ts → claim_of ts c ≡ Some f → OfSides f
    claim-has ts c f h e = by_left (side_of_term ts c.0) refl e
      where
        by_right : (x : SideTree) → Q x → (o : Option SideTree) → side_of_term ts c.2 ≡ o → option_map (compared x (order_of c.1)) o ≡ Some f → OfSides f
        by_right x p None k e = absurd (cc (e))
        by_right x p (Some y) k e = subst (λ g. OfSides g) (some_is (compared x (order_of c.1) y) f e) (p, side-has ts c.2 y h k)

        by_left : (o : Option SideTree) → side_of_term ts c.0 ≡ o → option_and_then (λ x. option_map (compared x (order_of c.1)) (side_of_term ts c.2)) o ≡ Some f → OfSides f
        by_left None k e = absurd (cc (e))
        by_left (Some x) k e = by_right x (side-has ts c.0 x h k) (side_of_term ts c.2) refl e

    claims-have : (ts : Trees) (cs : List (Term × Cmp × Term)) (fs : List Claim) → Holding ts → claims_of ts cs ≡ Some fs → All (λ f. OfSides f) fs
    claims-have ts [] fs h e = subst (λ gs. All (λ f. OfSides f) gs) (some_is [] fs e) (All-nil (λ f. OfSides f))
    claims-have ts (c ∷ cs) fs h e = by_first (λ gs k. claims-have ts cs gs h k) (claim_of ts c) refl e
      where
        by_rest : ((gs : List Claim) → claims_of ts cs ≡ Some gs → All (λ f. OfSides f) gs) → (f : Claim) → OfSides f → (o : Option (List Claim)) → claims_of ts cs ≡ o → option_map (λ gs. f ∷ gs) o ≡ Some fs → All (λ f. OfSides f) fs
        by_rest later f p None k e = absurd (cc (e))
        by_rest later f p (Some gs) k e = subst (λ hs. All (λ f. OfSides f) hs) (some_is (f ∷ gs) fs e) (All-cons (λ f. OfSides f) f gs p (later gs k))

        by_first : ((gs : List Claim) → claims_of ts cs ≡ Some gs → All (λ f. OfSides f) gs) → (o : Option Claim) → claim_of ts c ≡ o → option_and_then (λ f. option_map (λ gs. f ∷ gs) (claims_of ts cs)) o ≡ Some fs → All (λ f. OfSides f) fs
        by_first later None k e = absurd (cc (e))
        by_first later (Some f) k e = by_rest later f (claim-has ts c f h k) (claims_of ts cs) refl e

    pub premises-have : (a : Axiom) (goal : CondTree) (given : List (List ℕ × NumTree)) (fs : List Claim) → OfGoal goal → All (λ g. P g.1) given → premises_for a goal given ≡ Ok fs → All (λ f. OfSides f) fs
    premises-have a goal given fs h all e =
        let w = used a goal given fs e in
        let k = given-keeps a given w.ts w.us all (goal-keeps a goal w.ts h w.goal_is) w.given_is in
        claims-have w.us (row_of a).premises fs k.holding w.claims_is
