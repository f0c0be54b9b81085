-- The step of an assertion.
use Rattle.std.proofs.Common.{◌≡◌, ℕ, suc, ◌+◌, Bool, true, false, List, [], ◌∷◌, length, map, Option, Some, None, refl, sym, ap, ◌∙◌, subst, arith}
use Rattle.std.specs.Prelude.{option_and_then, option_map, All, Result, Ok, Err, if◌then◌else◌}
use Rattle.std.specs.List.{list_all}
use Rattle.std.proofs.lemmas.List.Elements.{All-nil, All-cons, All-head, All-tail}
use Rattle.std.proofs.lemmas.Bool.{and_parts}
use Rattle.turns.specs.Run.{Go, Fail}
use Rattle.wf_text.specs.declared.place.Place.{Place}
use Rattle.wf_text.specs.declared.rules.Rule.TheVariants.{B6, B7}
use Rattle.wf_ast.specs.TypedTree.{NumTree, CondTree, Block}
use Rattle.wf_ast.specs.TypedTree as typed
use Rattle.wf_ast.specs.Value.{State, truth_of}
use Rattle.wf_ast.specs.WellTyped.{Context, well_cond, well_num, well_axiom}
use Rattle.wf_facts_exprs.specs.Claims.{Claim, compared, stands, AllTrue, claim_truth}
use Rattle.wf_facts_exprs.specs.Given.{gives}
use Rattle.wf_facts_exprs.specs.Demands.{demand, num_refusal, cond_refusal}
use Rattle.wf_facts_exprs.specs.LawfulState.{well_side, well_claim, well_claims}
use Rattle.wf_facts_exprs.proofs.Soundness.{SoundCond, cond-sound, gives-true, sides-given}
use Rattle.wf_facts.specs.FactLists.{with_condition}
use Rattle.wf_facts.proofs.LawLemmas.{with_condition-true}
use Rattle.wf_axioms.specs.declared.axioms.Axiom.{Axiom}
use Rattle.wf_axioms.specs.declared.axioms.Term.{Term}
use Rattle.wf_axioms.specs.declared.asked.AxiomFault.{AxiomFault}
use Rattle.wf_facts_exprs.specs.declared.facts.Cmp.{Cmp}
use Rattle.wf_axioms.specs.Axioms.{row_of, comparison_text}
use Rattle.wf_axioms.specs.Items.{IsFine}
use Rattle.wf_axioms.specs.Matching.{Trees, claim_of, claims_of, premises_for}
use Rattle.wf_axioms.proofs.Follows.{follows-true, premises-well, premises-fine}
use Rattle.wf_axioms.proofs.LetterLemmas.{Used, used}
use Rattle.wf_meaning.specs.SourceState.{Behind, Remaining}
use Rattle.wf_meaning.specs.World.{World, Body, Vars}
use Rattle.wf_meaning.specs.SourceStep.{Ending, Steps, state_of, at_block, where_true, is_true}
use Rattle.wf_loops.specs.LoopRules.{required}
use Rattle.wf_bounds_stmts.specs.Assertions.{axiom_named, offsets_from, premise_offsets, inside_text, claim_given, premises_refusal, matched_refusal, axiom_refusal, given_refusal, claim_refusal}
use Rattle.wf_sound.specs.Worlds.{Shape, context_of, IsLawfulBody}
use Rattle.wf_sound.specs.OneStep.{ComesTo, StandsBefore}
use Rattle.wf_sound.proofs.Views.{lawful-view}
use Rattle.wf_sound.proofs.HandedValues.{demanded, neither}

-- Where a test holds, a step goes on.
pub goes-where : (P : Steps → Type 0) (test : Bool) (steps : Steps) → test ≡ true → P steps → P (where_true test steps)
unfolding where_true
goes-where P test steps e h = let Q : Bool → Type 0 = λ t. P (if t then steps else Fail) in subst Q (sym e) h

length-map : {X Y : Type 0} (f : X → Y) (xs : List X) → length (map f xs) ≡ length xs
length-map f [] = refl
length-map f (x ∷ xs) = ap suc (length-map f xs)

length-offsets : (n : ℕ) (cs : List (Term × Cmp × Term)) → length (offsets_from n cs) ≡ length cs
length-offsets n [] = refl
length-offsets n (c ∷ cs) = ap suc (length-offsets (n + length (comparison_text c) + 2) cs)

length-claims : (ts : Trees) (cs : List (Term × Cmp × Term)) (fs : List Claim) → claims_of ts cs ≡ Some fs → length fs ≡ length cs
length-claims ts [] fs e = let same : [] ≡ fs = cc (e) in sym (ap length same)
length-claims ts (c ∷ cs) fs e = by (claim_of ts c) (claims_of ts cs) refl (λ gs k. length-claims ts cs gs k) e
  where
    by : (o : Option Claim) (p : Option (List Claim)) → claims_of ts cs ≡ p → ((gs : List Claim) → claims_of ts cs ≡ Some gs → length gs ≡ length cs) → option_and_then (λ f. option_map (λ fs. f ∷ fs) p) o ≡ Some fs → length fs ≡ suc (length cs)
    by None p i h k = absurd (cc (k))
    by (Some f) None i h k = absurd (cc (k))
    by (Some f) (Some gs) i h k = let same : f ∷ gs ≡ fs = cc (k) in sym (ap length same) ∙ ap suc (h gs i)

module _ (R : (method : ℕ) → Remaining → Type 0) (shape : Shape) (b : Body) (vars : Vars) (lawful : IsLawfulBody R shape b vars)
    (fs : List Claim) (well : well_claims (context_of b) fs ≡ true) (known : AllTrue (state_of b vars) fs) where
  abbrev c : Context
  c = context_of b

  abbrev s : State
  s = state_of b vars

  alone : (at : Place) (goal : CondTree) → well_cond c goal ≡ true → required fs B6 at goal ≡ None → truth_of s goal ≡ Some true
  alone at goal w e =
      let p = neither (cond_refusal fs goal) _ e in
      gives-true c s (lawful-view R shape b vars lawful) fs well known false goal true w p.0 (demanded (gives fs goal true) B6 at p.1)

  -- Premises that are given are true.
  given-true : (f : Claim) → well_claim c f ≡ true → IsFine fs f → claim_given fs f ≡ true → claim_truth s f ≡ Some true
  given-true (compared x op y) w fine g =
      let p = and_parts (well_side c x) _ w in
      sides-given c s (lawful-view R shape b vars lawful) fs well known x y op p.0 p.1 fine.0 fine.1 g
  given-true (stands t answer) w fine g = absurd fine

  premises-true : (places : List Place) (claims : List Claim) → length claims ≡ length places → well_claims c claims ≡ true → All (λ f. IsFine fs f) claims → premises_refusal fs places claims ≡ None → AllTrue s claims
  premises-true places [] long w fine e = tt
  premises-true [] (f ∷ claims) long w fine e = absurd (omega (arith, long))
  premises-true (at ∷ places) (f ∷ claims) long w fine e =
      let p = and_parts (well_claim c f) _ w in
      let q = neither (demand (claim_given fs f) B7 at) _ e in (
        given-true f p.0 (All-head (λ f. IsFine fs f) f claims fine) (demanded (claim_given fs f) B7 at q.0),
        premises-true places claims (omega (arith, long)) p.1 (All-tail (λ f. IsFine fs f) f claims fine) q.1,
      )

  all-given : (given : List (List ℕ × NumTree)) → given_refusal fs given ≡ None → All (λ g. num_refusal fs false g.1 ≡ None) given
  all-given [] e = All-nil (λ (g : List ℕ × NumTree). num_refusal fs false g.1 ≡ None)
  all-given (g ∷ gs) e =
      let p = neither (num_refusal fs false g.1) _ e in
      All-cons (λ (g : List ℕ × NumTree). num_refusal fs false g.1 ≡ None) g gs p.0 (all-given gs p.1)

  by-axiom : (goal : CondTree) (text : Place) (given : List (List ℕ × NumTree)) (a : Axiom) (claims : List Claim) → well_cond c goal ≡ true → list_all (λ g. well_num c g.1) given ≡ true
      → cond_refusal fs goal ≡ None → given_refusal fs given ≡ None → premises_for a goal given ≡ Ok claims → premises_refusal fs (map (inside_text text) (premise_offsets a)) claims ≡ None → truth_of s goal ≡ Some true
  by-axiom goal text given a claims w v e g m p =
      let u : Used a goal given claims = used a goal given claims m in
      let long : length claims ≡ length (map (inside_text text) (premise_offsets a)) =
      length-claims u.us (row_of a).premises claims u.claims_is ∙ sym (length-map (inside_text text) (premise_offsets a) ∙ length-offsets _ (row_of a).premises) in
      let all = premises-true (map (inside_text text) (premise_offsets a)) claims long (premises-well a c goal given claims w v m) (premises-fine a fs goal given claims e (all-given given g) m) p in
      let x : SoundCond c s (lawful-view R shape b vars lawful) fs well known goal = cond-sound c s (lawful-view R shape b vars lawful) fs well known goal w e in
      follows-true c s a goal given claims w m all (rw x.is refl)

  claimed : (at : Place) (goal : CondTree) (by : Option typed.Axiom) → well_cond c goal ≡ true → well_axiom c by ≡ true → claim_refusal fs at goal by ≡ None → truth_of s goal ≡ Some true
  claimed at goal None w v e = alone at goal w e
  claimed at goal (Some ax) w v e =
      let p = neither (cond_refusal fs goal) _ e in
      let q = neither (given_refusal fs ax.given) _ p.1 in
      by_name (axiom_named ax.text) q.1 p.0 q.0
    where
      by_match : (a : Axiom) (m : Result (List Claim) AxiomFault) → premises_for a goal ax.given ≡ m → matched_refusal fs ax.at a m ≡ None → cond_refusal fs goal ≡ None → given_refusal fs ax.given ≡ None → truth_of s goal ≡ Some true
      by_match a (Err fault) is k i j = absurd (cc (k))
      by_match a (Ok claims) is k i j = by-axiom goal ax.at ax.given a claims w v i j is k

      by_name : (o : Option Axiom) → axiom_refusal fs ax.at goal ax.given o ≡ None → cond_refusal fs goal ≡ None → given_refusal fs ax.given ≡ None → truth_of s goal ≡ Some true
      by_name None k i j = absurd (cc (k))
      by_name (Some a) k i j = by_match a (premises_for a goal ax.given) refl k i j

  pub claim-step : (at : Place) (goal : CondTree) (by : Option typed.Axiom) (rest : Block) (behind : Behind) (E : Ending × World → Type 0) → well_cond c goal ≡ true → well_axiom c by ≡ true → claim_refusal fs at goal by ≡ None
      → ComesTo (StandsBefore R shape b rest behind (with_condition fs goal true)) E (where_true (is_true (truth_of s goal)) (Go (at_block rest behind vars)))
  claim-step at goal by rest behind E w v e =
      let t = claimed at goal by w v e in
      goes-where (ComesTo (StandsBefore R shape b rest behind (with_condition fs goal true)) E) (is_true (truth_of s goal)) (Go (at_block rest behind vars)) (ap is_true t)
      (record { fresh = refl; first = refl; after = refl; lawful = lawful; facts = with_condition-true s fs goal true known t })
