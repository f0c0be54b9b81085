-- What statements make of lists of facts are facts of the method again.
use Rattle.std.proofs.Common.{◌≡◌, ℕ, Bool, true, false, not, ◌&&◌, ◌||◌, List, [], ◌∷◌, ◌++◌, Option, Some, None, refl, sym, ◌∙◌, subst}
use Rattle.std.specs.Prelude.{filter, if◌then◌else◌}
use Rattle.std.specs.List.{list_all}
use Rattle.std.proofs.lemmas.Bool.{and_parts}
use Rattle.wf_base.specs.declared.marks.Mark.{Mark}
use Rattle.wf_ast.specs.declared.parsed.Clause.{Clause}
use Rattle.wf_ast.specs.declared.things.Thing.{Thing}
use Rattle.wf_ast.specs.declared.things.Thing.TheVariants as things
use Rattle.wf_ast.specs.TypedTree.{NumTree, number, read, Arith, Order, equal, CondTree, truth, flag, compare, same_status, junction, negation, closed, has_category, ValueTree, numeric, Target, to_number, Written, skip_fast, write_fast, copy_to_writer, copy_to_slice, Simple, assign, await, perform, invoke, break_from, continue_in, give_back, yield, claim, Head}
use Rattle.wf_ast.specs.TypedTrees.{no_place}
use Rattle.wf_ast.specs.Mentions.{num_mentions}
use Rattle.wf_ast.specs.Value.{same_truth}
use Rattle.wf_ast.specs.WellTyped.{Context, is_constant, may_write, may_go_into, well_num, well_cond, well_assigned, well_simple}
use Rattle.wf_facts_exprs.specs.Claims.{single, sum, Claim, compared, stands, is_among, claim_mentions, with_answer, turned, facts_of}
use Rattle.wf_facts_exprs.specs.LawfulState.{well_side, well_claim, well_claims}
use Rattle.wf_facts.specs.declared.changes.Change.{Change}
use Rattle.wf_facts.specs.declared.changes.Change.TheVariants.{Shortened}
use Rattle.wf_facts.specs.Forms.{form_of, number_in}
use Rattle.wf_facts.specs.FactLists.{added, all_added, with_condition, without, common, changed, still_known, moves_with, moved_number}
use Rattle.wf_facts.specs.Changes.{has_no_sum}
use Rattle.wf_loops.specs.declared.moments.Moment.{Moment}
use Rattle.wf_loops.specs.declared.moments.Moment.TheVariants.{Test, Leave}
use Rattle.wf_loops.specs.LoopRules.{is_asked, with_promises, head_list, body_list, after_list}
use Rattle.wf_loops.specs.LoopLaws.{well_head}
use Rattle.wf_loops.proofs.LawLemmas.{well-condition, well-body_list, well-head_list, well-after_list}
use Rattle.wf_bounds_stmts.specs.Targets.{thing_at, written_by, without_some, unwritten, known_equal, step_of, stepped, assigned}
use Rattle.wf_bounds_stmts.specs.Calls.{interrupted, handed_thing, hands_on, known_to_call, without_handed, left_by_call, left_by_written}
use Rattle.wf_bounds_stmts.specs.FactRules.{Known, known_behind, behind_loop}
use Rattle.wf_ast.specs.WellTyped.{is_pure, is_word_true}
use Rattle.wf_sound.specs.OneStep.{AreFactsOf}

both : (p q : Bool) → p ≡ true → q ≡ true → (p && q) ≡ true
both true q h k = k
both false q h k = absurd (cc (h))

or_right : (p q : Bool) → q ≡ true → (p || q) ≡ true
or_right true q h = refl
or_right false q h = h

-- Conditions make no sums.
no-sum-append : (fs gs : List Claim) → list_all has_no_sum fs ≡ true → list_all has_no_sum gs ≡ true → list_all has_no_sum (fs ++ gs) ≡ true
no-sum-append [] gs h k = k
no-sum-append (f ∷ fs) gs h k = let p = and_parts (has_no_sum f) _ h in both (has_no_sum f) _ p.0 (no-sum-append fs gs p.1 k)

turned-no-sum : (a : NumTree) (op : Order) (b : NumTree) → has_no_sum (turned a op b) ≡ true
turned-no-sum (number at n) op b = refl
turned-no-sum a op b = refl

facts-no-sum : (t : CondTree) (answer : Bool) → list_all has_no_sum (facts_of t answer) ≡ true
facts-no-sum (truth at b) answer = by (same_truth b answer)
  where
    by : (s : Bool) → list_all has_no_sum (if s then [] else stands (truth at b) answer ∷ []) ≡ true
    by true = refl
    by false = refl
facts-no-sum (compare at sign a op b) answer = both _ _ (turned-no-sum a (with_answer answer op) b) refl
facts-no-sum (junction at j joined a b) answer = by (same_truth j answer) (no-sum-append (facts_of a answer) (facts_of b answer) (facts-no-sum a answer) (facts-no-sum b answer))
  where
    by : (s : Bool) → list_all has_no_sum (facts_of a answer ++ facts_of b answer) ≡ true → list_all has_no_sum (if s then facts_of a answer ++ facts_of b answer else stands (junction at j joined a b) answer ∷ []) ≡ true
    by true h = h
    by false h = refl
facts-no-sum (negation at a) answer = facts-no-sum a (not answer)
facts-no-sum (flag at path) answer = refl
facts-no-sum (same_status at sign a one b) answer = refl
facts-no-sum (closed at a) answer = refl
facts-no-sum (has_category at a category) answer = refl

added-no-sum : (fs : List Claim) (f : Claim) → list_all has_no_sum fs ≡ true → has_no_sum f ≡ true → list_all has_no_sum (added fs f) ≡ true
added-no-sum fs f h k = by (is_among fs f)
  where
    by : (t : Bool) → list_all has_no_sum (if t then fs else fs ++ f ∷ []) ≡ true
    by true = h
    by false = no-sum-append fs (f ∷ []) h (both (has_no_sum f) _ k refl)

all-added-no-sum : (fs gs : List Claim) → list_all has_no_sum fs ≡ true → list_all has_no_sum gs ≡ true → list_all has_no_sum (all_added fs gs) ≡ true
all-added-no-sum fs [] h k = h
all-added-no-sum fs (g ∷ gs) h k = let p = and_parts (has_no_sum g) _ k in all-added-no-sum (added fs g) gs (added-no-sum fs g h p.0) p.1

condition-no-sum : (fs : List Claim) (t : CondTree) (answer : Bool) → list_all has_no_sum fs ≡ true → list_all has_no_sum (with_condition fs t answer) ≡ true
condition-no-sum fs t answer h = all-added-no-sum fs (facts_of t answer) h (facts-no-sum t answer)

promises-no-sum : (moment : Moment) (fs : List Claim) (cs : List (Clause × CondTree)) → list_all has_no_sum fs ≡ true → list_all has_no_sum (with_promises moment fs cs) ≡ true
promises-no-sum moment fs [] h = h
promises-no-sum moment fs (p ∷ ps) h = promises-no-sum moment (if is_asked moment p.0 then with_condition fs p.1 true else fs) ps (by (is_asked moment p.0))
  where
    by : (t : Bool) → list_all has_no_sum (if t then with_condition fs p.1 true else fs) ≡ true
    by true = condition-no-sum fs p.1 true h
    by false = h

after-no-sum : (head : Head) → list_all has_no_sum (after_list head) ≡ true
after-no-sum head = by head.is_left (promises-no-sum Leave [] head.clauses refl)
  where
    by : (t : Bool) → list_all has_no_sum (with_promises Leave [] head.clauses) ≡ true → list_all has_no_sum (if t then with_promises Leave [] head.clauses else with_condition (with_promises Leave [] head.clauses) head.cond false) ≡ true
    by true h = h
    by false h = condition-no-sum (with_promises Leave [] head.clauses) head.cond false h

module _ (c : Context) where
  pub no-facts : AreFactsOf c []
  no-facts = record { well = refl; plain = refl }

  pub condition-facts : (fs : List Claim) (t : CondTree) (answer : Bool) → AreFactsOf c fs → well_cond c t ≡ true → AreFactsOf c (with_condition fs t answer)
  condition-facts fs t answer h w = record { well = well-condition c fs t answer h.well w; plain = condition-no-sum fs t answer h.plain }

  pub body-facts : (head : Head) → well_head c head ≡ true → AreFactsOf c (body_list (head_list head) head)
  body-facts head w = record { well = well-body_list c head w (head_list head) (well-head_list c head w); plain = condition-no-sum (head_list head) head.cond true (promises-no-sum Test [] head.clauses refl) }

  pub after-facts : (head : Head) → well_head c head ≡ true → AreFactsOf c (after_list head)
  after-facts head w = record { well = well-after_list c head w; plain = after-no-sum head }

  -- Facts that are dropped, changed and added.
  kept-all : (test keep : Claim → Bool) (fs : List Claim) → list_all test fs ≡ true → list_all test (filter keep fs) ≡ true
  kept-all test keep [] h = refl
  kept-all test keep (f ∷ fs) h =
      let p = and_parts (test f) _ h in
      by (keep f) p.0 (kept-all test keep fs p.1)
    where
      by : (k : Bool) → test f ≡ true → list_all test (filter keep fs) ≡ true → list_all test (if k then f ∷ filter keep fs else filter keep fs) ≡ true
      by true i rest = both (test f) _ i rest
      by false i rest = rest

  kept-well : (keep : Claim → Bool) (fs : List Claim) → well_claims c fs ≡ true → well_claims c (filter keep fs) ≡ true
  kept-well keep [] h = refl
  kept-well keep (f ∷ fs) h =
      let p = and_parts (well_claim c f) _ h in
      by (keep f) p.0 (kept-well keep fs p.1)
    where
      by : (k : Bool) → well_claim c f ≡ true → well_claims c (filter keep fs) ≡ true → well_claims c (if k then f ∷ filter keep fs else filter keep fs) ≡ true
      by true i rest = both (well_claim c f) _ i rest
      by false i rest = rest

  pub without-facts : (x : Thing) (fs : List Claim) → AreFactsOf c fs → AreFactsOf c (without x fs)
  without-facts x fs h = record { well = kept-well (λ f. not (claim_mentions x f)) fs h.well; plain = kept-all has_no_sum (λ f. not (claim_mentions x f)) fs h.plain }

  pub common-facts : (fs gs : List Claim) → AreFactsOf c fs → AreFactsOf c (common fs gs)
  common-facts fs gs h = record { well = kept-well (λ f. is_among gs f) fs h.well; plain = kept-all has_no_sum (λ f. is_among gs f) fs h.plain }

  without_some-facts : (x : Option Thing) (fs : List Claim) → AreFactsOf c fs → AreFactsOf c (without_some x fs)
  without_some-facts None fs h = h
  without_some-facts (Some x) fs h = without-facts x fs h

  pub interrupted-facts : (fs : List Claim) → AreFactsOf c fs → AreFactsOf c (interrupted fs)
  interrupted-facts fs h =
      without-facts things.SliceLocals _ (without-facts things.Element _ (without-facts things.Args _ (without-facts things.This fs h)))

  handed-facts : (vs : List ValueTree) (fs : List Claim) → AreFactsOf c fs → AreFactsOf c (without_handed vs fs)
  handed-facts [] fs h = h
  handed-facts (v ∷ vs) fs h = handed-facts vs (without_some (handed_thing v) fs) (without_some-facts (handed_thing v) fs h)

  call-facts : (keep : Bool) (mark : Mark) (vs : List ValueTree) (fs : List Claim) → AreFactsOf c fs → AreFactsOf c (left_by_call keep mark vs fs)
  call-facts keep mark vs fs h = by (hands_on keep mark || is_pure mark)
    where
      known : (t : Bool) → AreFactsOf c (if t then interrupted fs else fs)
      known true = interrupted-facts fs h
      known false = h

      by : (t : Bool) → AreFactsOf c (if t then known_to_call keep mark fs else without_handed vs (without things.Element (without things.This (known_to_call keep mark fs))))
      by true = known (hands_on keep mark)
      by false = handed-facts vs (without things.Element (without things.This (known_to_call keep mark fs))) (without-facts things.Element (without things.This (known_to_call keep mark fs)) (without-facts things.This (known_to_call keep mark fs) (known (hands_on keep mark))))

  -- A change keeps what a fact compares.
  one-kept : (change : Change) (f g : Claim) → well_claim c f ≡ true → still_known change f ≡ Some g → (well_claim c g ≡ true) × (has_no_sum g ≡ true)
  one-kept change (compared (single t) op (single (number at n))) g w e = by (moves_with change (form_of t) op) (moved_number change n) refl refl
    where
      by : (b : Bool) (o : Option ℕ) → moves_with change (form_of t) op ≡ b → moved_number change n ≡ o → (well_claim c g ≡ true) × (has_no_sum g ≡ true)
      by true (Some m) i k =
          let is1 : Some (compared (single t) op (single (number no_place m))) ≡ Some g = sym (rw (i, k) refl) ∙ e in
          let is : compared (single t) op (single (number no_place m)) ≡ g = cc (is1) in
          let P : Claim → Type 0 = λ g. (well_claim c g ≡ true) × (has_no_sum g ≡ true) in
          subst P is (both (well_side c (single t)) _ (and_parts (well_side c (single t)) _ w).0 refl, refl)
      by true None i k = let q : None ≡ Some g = sym (rw (i, k) refl) ∙ e in absurd (cc (q))
      by false o i k = let q : None ≡ Some g = sym (rw i refl) ∙ e in absurd (cc (q))
  one-kept change (compared (single t) op (single (read at of path))) g w e = absurd (cc (e))
  one-kept change (compared (single t) op b) g w e = absurd (cc (e))
  one-kept change (compared (sum a b) op (single (number at n))) g w e = absurd (cc (e))
  one-kept change (compared (sum a b) op d) g w e = absurd (cc (e))
  one-kept change (stands t answer) g w e = absurd (cc (e))

  pub changed-facts : (x : Thing) (change : Change) (fs : List Claim) → AreFactsOf c fs → AreFactsOf c (changed x change fs)
  changed-facts x change [] h = no-facts
  changed-facts x change (f ∷ fs) h =
      let p = and_parts (well_claim c f) _ h.well in
      let q = and_parts (has_no_sum f) _ h.plain in
      by (claim_mentions x f) (still_known change f) refl refl p.0 q.0 (changed-facts x change fs (record { well = p.1; plain = q.1 }))
    where
      put : (g : Claim) (gs : List Claim) → well_claim c g ≡ true → has_no_sum g ≡ true → AreFactsOf c gs → AreFactsOf c (g ∷ gs)
      put g gs w n k = record { well = both (well_claim c g) _ w k.well; plain = both (has_no_sum g) _ n k.plain }

      by : (b : Bool) (o : Option Claim) → claim_mentions x f ≡ b → still_known change f ≡ o → well_claim c f ≡ true → has_no_sum f ≡ true → AreFactsOf c (changed x change fs) → AreFactsOf c (changed x change (f ∷ fs))
      by true (Some g) i k w n rest = let r = one-kept change f g w k in rw (i, k) (put g (changed x change fs) r.0 r.1 rest)
      by true None i k w n rest = rw (i, k) rest
      by false o i k w n rest = rw i (put f (changed x change fs) w n rest)

  -- Assignments.
  equal-facts : (fs : List Claim) (x : NumTree) (thing : Thing) (t : NumTree) → AreFactsOf c fs → well_num c x ≡ true → well_num c t ≡ true → AreFactsOf c (known_equal fs x thing t)
  equal-facts fs x thing t h w v = by (num_mentions thing t)
    where
      claim-well : well_claim c (compared (single x) equal (single t)) ≡ true
      claim-well = both (well_side c (single x)) _ (or_right (is_constant x) _ w) (or_right (is_constant t) _ v)

      append-well : (fs gs : List Claim) → well_claims c fs ≡ true → well_claims c gs ≡ true → well_claims c (fs ++ gs) ≡ true
      append-well [] gs i k = k
      append-well (f ∷ fs) gs i k = let p = and_parts (well_claim c f) _ i in both (well_claim c f) _ p.0 (append-well fs gs p.1 k)

      adds : (t1 : Bool) → AreFactsOf c (if t1 then fs else fs ++ compared (single x) equal (single t) ∷ [])
      adds true = h
      adds false = record { well = append-well fs _ h.well (both (well_claim c (compared (single x) equal (single t))) _ claim-well refl); plain = no-sum-append fs _ h.plain refl }

      by : (m : Bool) → AreFactsOf c (if m then fs else added fs (compared (single x) equal (single t)))
      by true = h
      by false = adds (is_among fs (compared (single x) equal (single t)))

  step-facts : (fs : List Claim) (x : Thing) (o : Option Change) → AreFactsOf c fs → AreFactsOf c (stepped fs x o)
  step-facts fs x None h = without-facts x fs h
  step-facts fs x (Some change) h = changed-facts x change fs h

  unwritten-facts : (target : Target) (fs : List Claim) → AreFactsOf c fs → AreFactsOf c (unwritten target fs)
  unwritten-facts target fs h = without_some-facts (written_by target) fs h

  assigned-facts : (fs : List Claim) (target : Target) (op : Option Arith) (v : ValueTree) → AreFactsOf c fs → well_assigned c target v ≡ true → AreFactsOf c (assigned fs target op v)
  assigned-facts fs (to_number at of path) None (numeric t) h w =
      let p = and_parts (may_write c.method.mark path) _ w in
      let q = and_parts (well_num c (read at of path)) _ p.1 in
      let r = and_parts (may_go_into of.bits t) _ q.1 in
      equal-facts (without (thing_at path) fs) (read at of path) (thing_at path) t (without-facts (thing_at path) fs h) q.0 r.1
  assigned-facts fs (to_number at of path) (Some op) (numeric t) h w = step-facts fs (thing_at path) (step_of (read at of path) t) h
  assigned-facts fs target op v h w = unwritten-facts target fs h

  written-facts : (call : Written) (fs : List Claim) → AreFactsOf c fs → AreFactsOf c (left_by_written call fs)
  written-facts (skip_fast a actual worst) fs h = changed-facts (things.Arg (record { 0 = a })) (Shortened (number_in worst)) fs h
  written-facts (write_fast a byte) fs h = changed-facts (things.Arg (record { 0 = a })) (Shortened (Some 1)) fs h
  written-facts (copy_to_writer a source) fs h = without-facts _ fs h
  written-facts (copy_to_slice to source) fs h = without-facts _ fs h

  assigned-well : (loops : List ℕ) (target : Target) (op : Option Arith) (v : ValueTree) → well_simple c loops (assign target op v) ≡ true → well_assigned c target v ≡ true
  assigned-well loops target None v h = h
  assigned-well loops target (Some op) v h = (and_parts (well_assigned c target v) _ h).0

  -- What is known after a statement without blocks.
  abbrev pub Facts : Known → Type 0
  Facts None = Unit {0}
  Facts (Some fs) = AreFactsOf c fs

  pub behind-facts : (fs : List Claim) (loops : List ℕ) (s : Simple) → AreFactsOf c fs → well_simple c loops s ≡ true → Facts (known_behind fs s)
  behind-facts fs loops (assign target op v) h w = assigned-facts fs target op v h (assigned-well loops target op v w)
  behind-facts fs loops (await at target a call) h w = unwritten-facts target (interrupted fs) (interrupted-facts fs h)
  behind-facts fs loops (perform at target call) h w = unwritten-facts target (left_by_written call fs) (written-facts call fs h)
  behind-facts fs loops (invoke at target keep mark called vs) h w = unwritten-facts target (left_by_call keep mark vs fs) (call-facts keep mark vs fs h)
  behind-facts fs loops (break_from n) h w = tt
  behind-facts fs loops (continue_in n) h w = tt
  behind-facts fs loops (give_back v) h w = tt
  behind-facts fs loops (yield status) h w = interrupted-facts fs h
  behind-facts fs loops (claim goal by) h w = condition-facts fs goal true h (and_parts (well_cond c goal) _ w).0

  pub loop-facts : (head : Head) → well_head c head ≡ true → Facts (behind_loop head)
  loop-facts head w = by (is_word_true head.cond && not head.is_left)
    where
      by : (t : Bool) → Facts (if t then None else Some (after_list head))
      by true = tt
      by false = after-facts head w
