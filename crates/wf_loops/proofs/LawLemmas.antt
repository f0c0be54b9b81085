-- What the promises of a loop ask is what makes its lists true.
use Rattle.std.proofs.Common.{◌≡◌, Bool, true, false, not, ◌&&◌, ◌||◌, List, [], ◌∷◌, ◌++◌, Option, Some, None, refl, sym, ap, ◌∙◌}
use Rattle.std.specs.Prelude.{if◌then◌else◌, is_some, option_map}
use Rattle.std.specs.List.{list_all}
use Rattle.std.proofs.lemmas.Bool.{and_parts}
use Rattle.wf_text.specs.declared.place.Place.{Place}
use Rattle.wf_text.specs.declared.rules.Rule.{Rule}
use Rattle.wf_text.specs.declared.rules.Refusal.{Refusal}
use Rattle.wf_ast.specs.declared.parsed.Clause.{Clause}
use Rattle.wf_ast.specs.TypedTree.{NumTree, number, Order, CondTree, truth, flag, compare, same_status, junction, negation, closed, has_category, logical, Head}
use Rattle.wf_ast.specs.Value.{State, truth_value, truth_of, same_truth}
use Rattle.wf_ast.specs.WellTyped.{Context, is_constant, well_num, well_cond, fit_together, width_of, is_word_true}
use Rattle.wf_facts_exprs.specs.Claims.{single, Claim, stands, AllTrue, is_among, with_answer, turned, facts_of}
use Rattle.wf_facts_exprs.specs.Given.{gives}
use Rattle.wf_facts_exprs.specs.Demands.{demand, or_else, cond_refusal}
use Rattle.wf_facts_exprs.specs.LawfulState.{IsLawful, well_side, well_claim, well_claims}
use Rattle.wf_facts_exprs.proofs.Soundness.{gives-true, value-sound}
use Rattle.wf_facts.specs.FactLists.{added, all_added, with_condition}
use Rattle.wf_facts.proofs.LawLemmas.{with_condition-true}
use Rattle.wf_loops.specs.declared.moments.Moment.{Moment}
use Rattle.wf_loops.specs.declared.moments.Moment.TheVariants.{Test, Leave}
use Rattle.wf_loops.specs.LoopRules.{is_asked, rule_of, required, promises_refusal, with_promises, limit, head_list, body_list, exit_list, exit_refusal, after_list, test_refusal}
use Rattle.wf_loops.specs.LoopLaws.{well_head, AllHold, Tested, goes_in, ends}

-- ---- the facts of a well typed condition are well typed

both_hold : (a b : Bool) → a ≡ true → b ≡ true → (a && b) ≡ true
both_hold true b h k = k
both_hold false b h k = absurd (cc (h))

or_right : (a b : Bool) → b ≡ true → (a || b) ≡ true
or_right true b h = refl
or_right false b h = h

module _ (c : Context) where
  well-single : (t : NumTree) → well_num c t ≡ true → well_side c (single t) ≡ true
  well-single t h = or_right (is_constant t) _ h

  well-turned : (a : NumTree) (op : Order) (b : NumTree) → well_num c a ≡ true → well_num c b ≡ true → well_claim c (turned a op b) ≡ true
  well-turned (number at n) op b h k = both_hold (well_side c (single b)) _ (well-single b k) refl
  well-turned a op b h k = both_hold (well_side c (single a)) _ (well-single a h) (well-single b k)

  well-append : (fs gs : List Claim) → well_claims c fs ≡ true → well_claims c gs ≡ true → well_claims c (fs ++ gs) ≡ true
  well-append [] gs h k = k
  well-append (f ∷ fs) gs h k =
      let p = and_parts (well_claim c f) _ h in
      both_hold (well_claim c f) _ p.0 (well-append fs gs p.1 k)

  well-one : (t : CondTree) (answer : Bool) → well_cond c t ≡ true → well_claims c (stands t answer ∷ []) ≡ true
  well-one t answer h = both_hold (well_cond c t) _ h refl

  pub well-facts : (t : CondTree) (answer : Bool) → well_cond c t ≡ true → well_claims c (facts_of t answer) ≡ true
  well-facts (truth at b) answer h = by (same_truth b answer)
    where
      by : (same : Bool) → well_claims c (if same then [] else stands (truth at b) answer ∷ []) ≡ true
      by true = refl
      by false = refl
  well-facts (compare at sign a op b) answer h =
      let p = and_parts (fit_together a b (width_of a) (width_of b)) _ h in
      let q = and_parts (well_num c a) _ p.1 in
      both_hold (well_claim c (turned a (with_answer answer op) b)) _ (well-turned a (with_answer answer op) b q.0 q.1) refl
  well-facts (junction at both joined a b) answer h =
      let p = and_parts (well_cond c a) _ h in
      by (same_truth both answer) (well-append (facts_of a answer) (facts_of b answer) (well-facts a answer p.0) (well-facts b answer p.1))
    where
      by : (same : Bool) → well_claims c (facts_of a answer ++ facts_of b answer) ≡ true
          → well_claims c (if same then facts_of a answer ++ facts_of b answer else stands (junction at both joined a b) answer ∷ []) ≡ true
      by true all = all
      by false all = well-one (junction at both joined a b) answer h
  well-facts (negation at a) answer h = well-facts a (not answer) h
  well-facts (flag at path) answer h = well-one (flag at path) answer h
  well-facts (same_status at sign a one b) answer h = well-one (same_status at sign a one b) answer h
  well-facts (closed at a) answer h = well-one (closed at a) answer h
  well-facts (has_category at a category) answer h = well-one (has_category at a category) answer h

  well-added : (fs : List Claim) (f : Claim) → well_claims c fs ≡ true → well_claim c f ≡ true → well_claims c (added fs f) ≡ true
  well-added fs f h k = by (is_among fs f)
    where
      by : (among : Bool) → well_claims c (if among then fs else fs ++ f ∷ []) ≡ true
      by true = h
      by false = well-append fs (f ∷ []) h (both_hold (well_claim c f) _ k refl)

  well-all_added : (fs gs : List Claim) → well_claims c fs ≡ true → well_claims c gs ≡ true → well_claims c (all_added fs gs) ≡ true
  well-all_added fs [] h k = h
  well-all_added fs (g ∷ gs) h k =
      let p = and_parts (well_claim c g) _ k in
      well-all_added (added fs g) gs (well-added fs g h p.0) p.1

  pub well-condition : (fs : List Claim) (t : CondTree) (answer : Bool) → well_claims c fs ≡ true → well_cond c t ≡ true → well_claims c (with_condition fs t answer) ≡ true
  well-condition fs t answer h k = well-all_added fs (facts_of t answer) h (well-facts t answer k)

  pub well-promises : (moment : Moment) (fs : List Claim) (cs : List (Clause × CondTree)) → well_claims c fs ≡ true → list_all (λ p. well_cond c p.1) cs ≡ true
      → well_claims c (with_promises moment fs cs) ≡ true
  well-promises moment fs [] h k = h
  well-promises moment fs (p ∷ ps) h k =
      let i = and_parts (well_cond c p.1) _ k in
      by (is_asked moment p.0) (λ gs g. well-promises moment gs ps g i.1) i.0
    where
      by : (asked : Bool) → ((gs : List Claim) → well_claims c gs ≡ true → well_claims c (with_promises moment gs ps) ≡ true) → well_cond c p.1 ≡ true
          → well_claims c (with_promises moment (if asked then with_condition fs p.1 true else fs) ps) ≡ true
      by true rest i = rest (with_condition fs p.1 true) (well-condition fs p.1 true h i)
      by false rest i = rest fs h

  module _ (head : Head) (well : well_head c head ≡ true) where
    parts : (well_cond c head.cond ≡ true) × (list_all (λ p. well_cond c p.1) head.clauses ≡ true)
    parts = and_parts (well_cond c head.cond) _ well

    pub well-head_list : well_claims c (head_list head) ≡ true
    well-head_list = well-promises Test [] head.clauses refl parts.1

    pub well-body_list : (fs : List Claim) → well_claims c fs ≡ true → well_claims c (body_list fs head) ≡ true
    well-body_list fs h = well-condition fs head.cond true h parts.0

    pub well-exit_list : (fs : List Claim) → well_claims c fs ≡ true → well_claims c (exit_list fs head) ≡ true
    well-exit_list fs h = well-condition fs head.cond false h parts.0

    pub well-after_list : well_claims c (after_list head) ≡ true
    well-after_list = by head.is_left (well-promises Leave [] head.clauses refl parts.1)
      where
        by : (left : Bool) → well_claims c (with_promises Leave [] head.clauses) ≡ true
            → well_claims c (if left then with_promises Leave [] head.clauses else with_condition (with_promises Leave [] head.clauses) head.cond false) ≡ true
        by true h = h
        by false h = well-condition (with_promises Leave [] head.clauses) head.cond false h parts.0

-- ---- what is asked is true

neither : (p q : Option Refusal) → or_else p q ≡ None → (p ≡ None) × (q ≡ None)
neither None q h = (refl, h)
neither (Some r) q h = absurd (cc (h))

demanded : (b : Bool) (rule : Rule) (at : Place) → demand b rule at ≡ None → b ≡ true
demanded true rule at h = refl
demanded false rule at h = absurd (cc (h))

-- A list with the facts of true promises.
pub promises-true : (s : State) (moment : Moment) (fs : List Claim) (cs : List (Clause × CondTree)) → AllTrue s fs → AllHold s moment cs → AllTrue s (with_promises moment fs cs)
promises-true s moment fs [] all hold = all
promises-true s moment fs (p ∷ ps) all hold = by (is_asked moment p.0) refl (λ gs g. promises-true s moment gs ps g hold.1)
  where
    by : (asked : Bool) → is_asked moment p.0 ≡ asked → ((gs : List Claim) → AllTrue s gs → AllTrue s (with_promises moment gs ps))
        → AllTrue s (with_promises moment (if asked then with_condition fs p.1 true else fs) ps)
    by true e rest = rest (with_condition fs p.1 true) (with_condition-true s fs p.1 true all (hold.0 e))
    by false e rest = rest fs all

module _ (c : Context) (s : State) (lawful : IsLawful c s) where
  required-true : (fs : List Claim) (rule : Rule) (at : Place) (t : CondTree) → well_claims c fs ≡ true → AllTrue s fs → well_cond c t ≡ true → required fs rule at t ≡ None → truth_of s t ≡ Some true
  required-true fs rule at t well all k h =
      let p = neither (cond_refusal fs t) _ h in
      gives-true c s lawful fs well all false t true k p.0 (demanded (gives fs t true) rule at p.1)

  pub promises-hold : (moment : Moment) (fs : List Claim) (at : Place) (cs : List (Clause × CondTree)) → well_claims c fs ≡ true → AllTrue s fs → list_all (λ p. well_cond c p.1) cs ≡ true
      → promises_refusal moment fs at cs ≡ None → AllHold s moment cs
  promises-hold moment fs at [] well all k h = tt
  promises-hold moment fs at (p ∷ ps) well all k h =
      let i = and_parts (well_cond c p.1) _ k in
      let j = neither (if is_asked moment p.0 then required fs (rule_of p.0) at p.1 else None) _ h in
      (λ asked. required-true fs (rule_of p.0) at p.1 well all i.0 (ap (λ b. if b then required fs (rule_of p.0) at p.1 else None) (sym asked) ∙ j.0), promises-hold moment fs at ps well all i.1 j.1)

  module _ (head : Head) (well : well_head c head ≡ true) where
    conds : (well_cond c head.cond ≡ true) × (list_all (λ p. well_cond c p.1) head.clauses ≡ true)
    conds = and_parts (well_cond c head.cond) _ well

    pub entered : (fs : List Claim) (at : Place) → well_claims c fs ≡ true → AllTrue s fs → promises_refusal Test fs at head.clauses ≡ None → AllHold s Test head.clauses × AllTrue s (head_list head)
    entered fs at k all h =
        let hold = promises-hold Test fs at head.clauses k all conds.1 h in
        (hold, promises-true s Test [] head.clauses tt hold)

    -- After a loop without a `break` the condition doesn't hold.
    after-true : (left : Bool) → AllHold s Leave head.clauses → (left ≡ false → truth_of s head.cond ≡ Some false)
        → AllTrue s (if left then with_promises Leave [] head.clauses else with_condition (with_promises Leave [] head.clauses) head.cond false)
    after-true true hold h = promises-true s Leave [] head.clauses tt hold
    after-true false hold h = with_condition-true s (with_promises Leave [] head.clauses) head.cond false (promises-true s Leave [] head.clauses tt hold) (h refl)

    pub broken : (fs : List Claim) (at : Place) → well_claims c fs ≡ true → AllTrue s fs → promises_refusal Leave fs at head.clauses ≡ None → head.is_left ≡ true → AllHold s Leave head.clauses × AllTrue s (after_list head)
    broken fs at k all h left =
        let hold = promises-hold Leave fs at head.clauses k all conds.1 h in
        (hold, after-true head.is_left hold (λ e. absurd (cc (left, e))))

    no-exit : (t : CondTree) → truth_of s t ≡ Some false → is_word_true t ≡ false
    no-exit (truth at true) h = absurd (cc (h))
    no-exit (truth at false) h = refl
    no-exit t h = refl

    pub left : (fs : List Claim) (at : Place) → well_claims c fs ≡ true → AllTrue s fs → exit_refusal fs at head ≡ None → truth_of s head.cond ≡ Some false → AllHold s Leave head.clauses × AllTrue s (after_list head)
    left fs at k all h ended =
        let asked = ap (λ b. if b then None else or_else (limit at (exit_list fs head)) (promises_refusal Leave (exit_list fs head) at head.clauses)) (sym (no-exit head.cond ended)) ∙ h in
        let p = neither (limit at (exit_list fs head)) _ asked in
        let hold = promises-hold Leave (exit_list fs head) at head.clauses (well-exit_list c head well fs k) (with_condition-true s fs head.cond false all ended) conds.1 p.1 in
        (hold, after-true head.is_left hold (λ e. ended))

    pub tested : (at : Place) → AllTrue s (head_list head) → test_refusal at head ≡ None → Tested s head
    tested at all h =
        let p = neither (limit at (head_list head)) _ h in
        let q = neither (cond_refusal (head_list head) head.cond) _ p.1 in
        let r = neither (exit_refusal (head_list head) at head) _ q.1 in
        let k = well-head_list c head well in
        by (truth_of s head.cond) refl (value-sound c s lawful (head_list head) k all (logical head.cond) conds.0 q.0) k r.0
      where
        by : (o : Option Bool) → truth_of s head.cond ≡ o → is_some (option_map truth_value (truth_of s head.cond)) ≡ true → well_claims c (head_list head) ≡ true → exit_refusal (head_list head) at head ≡ None → Tested s head
        by None e some k r = absurd (cc (e, some))
        by (Some true) e some k r = goes_in e (with_condition-true s (head_list head) head.cond true all e)
        by (Some false) e some k r =
            let x = left (head_list head) at k all r e in
            ends e x.0 x.1
