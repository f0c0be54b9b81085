-- The steps of `if`, of loops, of what leaves them, and of `return` and `yield?`.
use Rattle.std.proofs.Common.{◌≡◌, inl, inr, ℕ, zero, suc, Bool, true, false, not, ◌&&◌, ◌||◌, List, [], ◌∷◌, map, Option, Some, None, refl, sym, ◌∙◌, subst, nat_eq, arith}
use Rattle.std.specs.Prelude.{if◌then◌else◌}
use Rattle.std.specs.List.{list_all, list_any}
use Rattle.std.proofs.lemmas.Bool.{and_parts}
use Rattle.std.proofs.lemmas.Bool.Decides.{nat_tests}
use Rattle.turns.specs.Run.{Go, Turn, End, Out, Fail}
use Rattle.wf_text.specs.declared.place.Place.{Place}
use Rattle.wf_text.specs.declared.rules.Refusal.{Refusal}
use Rattle.wf_ast.specs.declared.parsed.Clause.{Clause}
use Rattle.wf_ast.specs.declared.parsed.Clause.TheVariants.{Pre, Inv, Post}
use Rattle.wf_ast.specs.TypedTree.{CondTree, truth, break_from, continue_in, Site, Head, Block, end, plain}
use Rattle.wf_ast.specs.Value.{State, truth_of}
use Rattle.wf_ast.specs.WellTyped.{Context, well_cond, is_word_true, breaks, well_block}
use Rattle.wf_facts_exprs.specs.Claims.{Claim, AllTrue}
use Rattle.wf_facts_exprs.specs.Demands.{or_else, cond_refusal}
use Rattle.wf_facts_exprs.specs.LawfulState.{well_claims}
use Rattle.wf_facts_exprs.proofs.Soundness.{SoundCond, cond-sound}
use Rattle.wf_facts.specs.FactLists.{with_condition}
use Rattle.wf_facts.proofs.LawLemmas.{with_condition-true}
use Rattle.wf_loops.specs.declared.moments.Moment.{Moment}
use Rattle.wf_loops.specs.declared.moments.Moment.TheVariants.{Test, Leave}
use Rattle.wf_loops.specs.LoopRules.{is_asked, limit, front_refusal, entry_refusal, way_back_refusal, break_refusal, test_refusal, head_list, body_list, after_list}
use Rattle.wf_loops.specs.LoopLaws.{well_head, AllHold, Tested, goes_in, ends}
use Rattle.wf_loops.proofs.LawLemmas.{entered, broken, tested}
use Rattle.wf_meaning.specs.SourceState.{Behind, stop, behind_if, again, Remaining}
use Rattle.wf_meaning.specs.Remaining.{Marker, marker_of}
use Rattle.wf_meaning.specs.World.{World, Body, Vars}
use Rattle.wf_meaning.specs.SourceStep.{At, Ending, Steps, state_of, at_block, with_some, at_head, at_exit, is_true, all_hold, entered_loop, taking_turn, went_back, chosen, continued}
use Rattle.wf_meaning.specs.SourceStep as steps
use Rattle.wf_bounds_stmts.specs.Statements.{branches}
use Rattle.wf_bounds_stmts.specs.Requirements.{limits}
use Rattle.wf_bounds_stmts.specs.FactRules.{loop_numbered, jump_refusal, conditions_refusal, branch_fronts, behind_loop, statement_refusal}
use Rattle.wf_sound.specs.Worlds.{Shape, context_of, IsLawfulBody}
use Rattle.wf_sound.specs.Positions.{loops_round, around, well_here, well_behind, well_at}
use Rattle.wf_sound.specs.OneStep.{ComesTo, StandsBefore, StandsKnowing, Chooses, Tests}
use Rattle.wf_sound.proofs.Views.{lawful-view}
use Rattle.wf_sound.proofs.HandedValues.{neither}
use Rattle.wf_sound.proofs.AssignSteps.{goes-with}
use Rattle.wf_sound.proofs.ClaimSteps.{goes-where}

-- Clauses that all hold at a moment, as the step tests them.
all-hold : (s : State) (moment : Moment) (asked : Clause → Bool) → ((c : Clause) → asked c ≡ is_asked moment c) → (clauses : List (Clause × CondTree)) → AllHold s moment clauses → all_hold s asked clauses ≡ true
all-hold s moment asked same [] h = refl
all-hold s moment asked same (c ∷ cs) h = by (asked c.0) refl (all-hold s moment asked same cs h.1)
  where
    by : (t : Bool) → asked c.0 ≡ t → list_all (λ c. not (asked c.0) || is_true (truth_of s c.1)) cs ≡ true → ((not t || is_true (truth_of s c.1)) && list_all (λ c. not (asked c.0) || is_true (truth_of s c.1)) cs) ≡ true
    by true e rest = let k = h.0 (sym (same c.0) ∙ e) in rw k rest
    by false e rest = rest

same_head : (c : Clause) → at_head c ≡ is_asked Test c
same_head Pre = refl
same_head Inv = refl
same_head Post = refl

same_exit : (c : Clause) → at_exit c ≡ is_asked Leave c
same_exit Pre = refl
same_exit Inv = refl
same_exit Post = refl

or_right : (p q : Bool) → q ≡ true → (p || q) ≡ true
or_right true q h = refl
or_right false q h = h

module _ (R : (method : ℕ) → Remaining → Type 0) (shape : Shape) (b : Body) (vars : Vars) (lawful : IsLawfulBody R shape b vars) where
  abbrev c : Context
  c = context_of b

  abbrev s : State
  s = state_of b vars

  here : (block : Block) (behind : Behind) (fs : List Claim) → AllTrue s fs → StandsBefore R shape b block behind fs (at_block block behind vars)
  here block behind fs h = record { fresh = refl; first = refl; after = refl; lawful = lawful; facts = h }

  -- The test of a condition.
  no-word : (t : CondTree) → truth_of s t ≡ Some false → is_word_true t ≡ false
  no-word (truth at true) h = absurd (cc (h))
  no-word (truth at false) h = refl
  no-word t h = refl

  past : (head : Head) (rest : Block) (behind : Behind) → truth_of s head.cond ≡ Some false → AllTrue s (after_list head) → StandsKnowing R shape b rest behind (behind_loop head) (at_block rest behind vars)
  past head rest behind e h =
      let w = no-word head.cond e in
      rw w (here rest behind (after_list head) h)

  test-comes : (site : Site) (head : Head) (body rest : Block) (behind : Behind) (E : Ending × World → Type 0) → Tested s head
      → ComesTo (Tests R shape b site head body rest behind) E (steps.tested b site head body rest behind vars (truth_of s head.cond))
  test-comes site head body rest behind E (goes_in e h) = rw e (inl (here body (again site head body rest behind) (body_list (head_list head) head) h))
  test-comes site head body rest behind E (ends e h k) =
      let t : (is_word_true head.cond || all_hold s at_exit head.clauses) ≡ true = or_right (is_word_true head.cond) _ (all-hold s Leave at_exit same_exit head.clauses h) in
      rw e (goes-where (ComesTo (Tests R shape b site head body rest behind) E) (is_word_true head.cond || all_hold s at_exit head.clauses) (Go (at_block rest behind vars)) t (inr (past head rest behind e k)))

  -- A loop is entered.
  pub loop-step : (site : Site) (head : Head) (body rest : Block) (behind : Behind) (fs : List Claim) (E : Ending × World → Type 0) → well_claims c fs ≡ true → AllTrue s fs → well_head c head ≡ true → front_refusal fs site.at head ≡ None
      → ComesTo (Tests R shape b site head body rest behind) E (entered_loop b site head body rest behind vars)
  loop-step site head body rest behind fs E well known w e =
      let p = neither (entry_refusal fs site.at head) _ e in
      let i = entered c s (lawful-view R shape b vars lawful) head w fs site.at well known p.0 in
      let t = tested c s (lawful-view R shape b vars lawful) head w site.at i.1 p.1 in
      goes-where (ComesTo (Tests R shape b site head body rest behind) E) (all_hold s at_head head.clauses) _ (all-hold s Test at_head same_head head.clauses i.0) (test-comes site head body rest behind E t)

  -- A way back.
  turned : (N : At → Type 0) (E : Ending × World → Type 0) (n : ℕ) (x : Steps) → ComesTo N E x → ComesTo N E (taking_turn n x)
  unfolding taking_turn
  turned N E zero x h = tt
  turned N E (suc n) (Go y) h = h
  turned N E (suc n) (Turn left y) h = h
  turned N E (suc n) (End left y) h = h
  turned N E (suc n) Out h = h
  turned N E (suc n) Fail h = h

  pub back-step : (n : ℕ) (site : Site) (head : Head) (body rest : Block) (behind : Behind) (fs : List Claim) (at : Place) (E : Ending × World → Type 0) → well_claims c fs ≡ true → AllTrue s fs → well_head c head ≡ true
      → test_refusal site.at head ≡ None → way_back_refusal fs at head ≡ None → ComesTo (Tests R shape b site head body rest behind) E (went_back b n site head body rest behind vars)
  back-step n site head body rest behind fs at E well known w e k =
      let i = entered c s (lawful-view R shape b vars lawful) head w fs at well known k in
      let t = tested c s (lawful-view R shape b vars lawful) head w site.at i.1 e in
      goes-where (ComesTo (Tests R shape b site head body rest behind) E) (all_hold s at_head head.clauses) _ (all-hold s Test at_head same_head head.clauses i.0)
      (turned (Tests R shape b site head body rest behind) E n _ (test-comes site head body rest behind E t))

  -- An `if`.
  pub if-step : (at : Site) (t : CondTree) (cs : List CondTree) (a d rest : Block) (behind : Behind) (fs : List Claim) (E : Ending × World → Type 0) → well_claims c fs ≡ true → AllTrue s fs → well_cond c t ≡ true
      → statement_refusal (around b behind) fs at (branches (t ∷ cs)) ≡ None → ComesTo (Chooses R shape b at t cs a d rest behind fs) E (with_some (truth_of s t) (chosen a d rest behind vars))
  if-step at t cs a d rest behind fs E well known w e =
      let p = neither (conditions_refusal fs at (t ∷ cs)) _ e in
      let q = neither (cond_refusal fs t) _ p.0 in
      let x : SoundCond c s (lawful-view R shape b vars lawful) fs well known t = cond-sound c s (lawful-view R shape b vars lawful) fs well known t w q.0 in
      goes-with (ComesTo (Chooses R shape b at t cs a d rest behind fs) E) (truth_of s t) x.answer (chosen a d rest behind vars) x.is (by cs x.answer x.is q.1 p.1)
    where
      both-none : (p q : Option Refusal) → p ≡ None → q ≡ None → or_else p q ≡ None
      both-none None q h k = k
      both-none (Some r) q h k = absurd (cc (h))

      by : (cs : List CondTree) (answer : Bool) → truth_of s t ≡ Some answer
          → or_else (limit at.at (with_condition fs t false)) (conditions_refusal (with_condition fs t false) at cs) ≡ None
          → limits at.at (branch_fronts fs (t ∷ cs)) ≡ None
          → ComesTo (Chooses R shape b at t cs a d rest behind fs) E (chosen a d rest behind vars answer)
      by [] true is i j = inl (here a (behind_if rest behind) (with_condition fs t true) (with_condition-true s fs t true known is))
      by [] false is i j = inr (here d (behind_if rest behind) (with_condition fs t false) (with_condition-true s fs t false known is))
      by (u ∷ us) true is i j = inl (here a (behind_if rest behind) (with_condition fs t true) (with_condition-true s fs t true known is))
      by (u ∷ us) false is i j =
          let p = neither (limit at.at (with_condition fs t false)) _ i in
          let q = neither (limit at.at (with_condition fs t true)) _ j in
          inr (here d (behind_if rest behind) (with_condition fs t false) (with_condition-true s fs t false known is), (both-none _ _ p.1 q.1, refl))

  -- Jumps: the marker of a loop that stands round a statement.
  pub record Marked (w : ℕ) (behind : Behind) : Type 0 where
    pub m : Marker
    pub is : marker_of w behind ≡ Some m
    pub listed : loop_numbered (loops_round behind) w ≡ Some m.head
    pub well : well_head c m.head ≡ true
    pub leaves : (block : Block) → list_all (λ l. not (breaks l.0 block) || l.1.is_left) (loops_round behind) ≡ true → breaks w block ≡ true → m.head.is_left ≡ true

  pub marked : (w : ℕ) (behind : Behind) → well_behind c behind ≡ true → list_any (nat_eq w) (map (λ l. l.0) (loops_round behind)) ≡ true → Marked w behind
  marked w stop h k = absurd (cc (k))
  marked w (behind_if rest behind) h k =
      let x : Marked w behind = marked w behind (and_parts (well_here c rest behind) _ h).1 k in
      record { m = x.m; is = x.is; listed = x.listed; well = x.well; leaves = x.leaves }
  marked w (again site head body rest behind) h k =
      let p = and_parts (well_head c head) _ h in
      let q = and_parts (well_here c body (again site head body rest behind)) _ p.1 in
      let r = and_parts (well_here c rest behind) _ q.1 in
      by (nat_eq site.number w) refl p.0 (λ l. marked w behind r.1 l)
    where
      otherwise : (t : Bool) → (nat_eq w site.number || t) ≡ true → nat_eq site.number w ≡ false → t ≡ true
      otherwise true i j = refl
      otherwise false i j = further (nat_eq w site.number) refl i
        where
          further : (u : Bool) → nat_eq w site.number ≡ u → (u || false) ≡ true → false ≡ true
          further true e i = absurd (grind (arith, nat_tests, e, j))
          further false e i = i

      outer : (number : ℕ) (left : Bool) (rest : Bool) → (left && rest) ≡ true → rest ≡ true
      outer number left rest h = (and_parts left rest h).1

      by : (t : Bool) → nat_eq site.number w ≡ t → well_head c head ≡ true → (list_any (nat_eq w) (map (λ l. l.0) (loops_round behind)) ≡ true → Marked w behind) → Marked w (again site head body rest behind)
      by true e well further = record {
        m = record { site = site; head = head; body = body; rest = rest; behind = behind };
        is = rw e refl;
        listed = rw e refl;
        well = well;
        leaves = λ block all breaks_it.
            let same : site.number ≡ w = grind (arith, nat_tests, e) in
            let P : ℕ → Type 0 = λ n. breaks n block ≡ true in
            leaves_it (breaks site.number block) (subst P (sym same) breaks_it) (and_parts (not (breaks site.number block) || head.is_left) _ all).0;
      }
        where
          leaves_it : (t : Bool) → t ≡ true → (not t || head.is_left) ≡ true → head.is_left ≡ true
          leaves_it true i j = j
          leaves_it false i j = absurd (cc (i))
      by false e well further =
          let x : Marked w behind = further (otherwise (list_any (nat_eq w) (map (λ l. l.0) (loops_round behind))) k e) in
          record {
            m = x.m;
            is = rw e x.is;
            listed = rw e x.listed;
            well = x.well;
            leaves = λ block all breaks_it. x.leaves block (and_parts (not (breaks site.number block) || head.is_left) _ all).1 breaks_it;
          }

  module _ (fs : List Claim) (well : well_claims c fs ≡ true) (known : AllTrue s fs) where
    known-behind : (head : Head) → head.is_left ≡ true → behind_loop head ≡ Some (after_list head)
    known-behind head e = by (is_word_true head.cond) head.is_left e
      where
        by : (w left : Bool) → left ≡ true → (if w && not left then None else Some (after_list head)) ≡ Some (after_list head)
        by true true e = refl
        by false left e = refl
        by true false e = absurd (cc (e))

    pub break-step : (w : ℕ) (site : Site) (rest : Block) (behind : Behind) (E : Ending × World → Type 0) → well_at c (plain site (break_from w) rest) behind ≡ true
        → jump_refusal (break_refusal fs site.at) (loop_numbered (loops_round behind) w) ≡ None
        → ComesTo (λ x. (m : Marker) × (marker_of w behind ≡ Some m) × StandsKnowing R shape b m.rest m.behind (behind_loop m.head) x) E (steps.broken b (marker_of w behind) vars)
    break-step w site rest behind E h e =
        let p = and_parts (well_here c (plain site (break_from w) rest) behind) _ h in
        let q = and_parts (well_block c (map (λ l. l.0) (loops_round behind)) (plain site (break_from w) rest)) _ p.0 in
        let r = and_parts (list_any (nat_eq w) (map (λ l. l.0) (loops_round behind))) _ q.0 in
        let x : Marked w behind = marked w behind p.1 r.0 in
        let P : Option Head → Type 0 = λ o. jump_refusal (break_refusal fs site.at) o ≡ None in
        let left : x.m.head.is_left ≡ true = x.leaves (plain site (break_from w) rest) q.1 (first w w (grind (arith, nat_tests))) in
        let k = broken c s (lawful-view R shape b vars lawful) x.m.head x.well fs site.at well known (subst P x.listed e) left in
        by x k left
      where
        first : (v u : ℕ) → nat_eq v u ≡ true → (nat_eq v u || breaks u rest) ≡ true
        first v u i = rw i refl

        by : (x : Marked w behind) → AllHold s Leave x.m.head.clauses × AllTrue s (after_list x.m.head) → x.m.head.is_left ≡ true
            → ComesTo (λ x. (m : Marker) × (marker_of w behind ≡ Some m) × StandsKnowing R shape b m.rest m.behind (behind_loop m.head) x) E (steps.broken b (marker_of w behind) vars)
        by x k left =
            rw x.is (goes-where (ComesTo (λ y. (m : Marker) × (Some x.m ≡ Some m) × StandsKnowing R shape b m.rest m.behind (behind_loop m.head) y) E) (all_hold s at_exit x.m.head.clauses) (Go (at_block x.m.rest x.m.behind vars))
            (all-hold s Leave at_exit same_exit x.m.head.clauses k.0)
            (x.m, refl, rw (known-behind x.m.head left) (here x.m.rest x.m.behind (after_list x.m.head) k.1)))

    pub continue-step : (w : ℕ) (site : Site) (rest : Block) (behind : Behind) (E : Ending × World → Type 0) → well_at c (plain site (continue_in w) rest) behind ≡ true
        → jump_refusal (way_back_refusal fs site.at) (loop_numbered (loops_round behind) w) ≡ None
        → ComesTo (λ x. (m : Marker) × (marker_of w behind ≡ Some m) × (way_back_refusal fs site.at m.head ≡ None) × StandsBefore R shape b end (again m.site m.head m.body m.rest m.behind) fs x) E (continued (marker_of w behind) vars)
    continue-step w site rest behind E h e =
        let p = and_parts (well_here c (plain site (continue_in w) rest) behind) _ h in
        let q = and_parts (well_block c (map (λ l. l.0) (loops_round behind)) (plain site (continue_in w) rest)) _ p.0 in
        let r = and_parts (list_any (nat_eq w) (map (λ l. l.0) (loops_round behind))) _ q.0 in
        let x : Marked w behind = marked w behind p.1 r.0 in
        let P : Option Head → Type 0 = λ o. jump_refusal (way_back_refusal fs site.at) o ≡ None in
        by x (subst P x.listed e)
      where
        by : (x : Marked w behind) → way_back_refusal fs site.at x.m.head ≡ None
            → ComesTo (λ x. (m : Marker) × (marker_of w behind ≡ Some m) × (way_back_refusal fs site.at m.head ≡ None) × StandsBefore R shape b end (again m.site m.head m.body m.rest m.behind) fs x) E (continued (marker_of w behind) vars)
        by x k = rw x.is (x.m, refl, k, here end (again x.m.site x.m.head x.m.body x.m.rest x.m.behind) fs known)
