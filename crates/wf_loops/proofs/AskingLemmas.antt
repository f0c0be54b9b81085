-- The promises of a loop one by one, and how its lists grow by their facts.
use mir.Val.{bool_byte}
use Rattle.std.proofs.Common.{◌≡◌, ℕ, zero, suc, ◌+◌, ◌<◌, ◌≤◌, Bool, true, false, List, [], ◌∷◌, ◌++◌, length, take, drop, Option, Some, None, Result, Ok, Err, IsErrAnd, MatchResult, OnOk, OnErr, refl, sym, ap, ◌∙◌, subst, arith}
use Rattle.std.specs.Prelude.{if◌then◌else◌, slice_index_or, slice_get, nat_le}
use Rattle.std.proofs.lemmas.Bool.Decides.{nat_tests}
use Rattle.std.proofs.lemmas.List.{length-append}
use Rattle.std.proofs.lemmas.Result.{err_from_is_err_and}
use Rattle.wf_text.specs.declared.place.Place.{Place}
use Rattle.wf_text.specs.declared.rules.Rule.{Rule}
use Rattle.wf_text.specs.declared.rules.Rule.TheVariants.{L8}
use Rattle.wf_text.specs.declared.rules.Refusal.{Refusal}
use Rattle.wf_ast.specs.declared.parsed.Clause.{Clause}
use Rattle.wf_ast.specs.declared.numbers.ExprId.{ExprId}
use Rattle.wf_ast.specs.declared.typed_nodes.TypedNodes.{TypedNodes}
use Rattle.wf_ast.specs.TypedTree.{CondTree, Head}
use Rattle.wf_ast.specs.NodeKinds.{node_cond}
use Rattle.wf_facts_exprs.specs.declared.facts.Fact.{Fact}
use Rattle.wf_facts_exprs.specs.Claims.{Claim, claims_in, is_among, facts_of}
use Rattle.wf_facts_exprs.specs.Given.{gives}
use Rattle.wf_facts_exprs.specs.Demands.{demand, or_else, cond_refusal, unless_refused}
use Rattle.wf_facts.specs.declared.adding.Full.{Full}
use Rattle.wf_facts.specs.FactLists.{added, all_added, with_condition}
use Rattle.wf_facts.specs.Conditions.{StopsAt}
use Rattle.wf_loops.specs.declared.moments.Moment.{Moment}
use Rattle.wf_loops.specs.declared.moments.Moment.TheVariants.{Leave}
use Rattle.wf_loops.specs.LoopRules.{is_asked, rule_of, required, promises_refusal, with_promises, limit, after_list}
use Rattle.wf_loops.specs.LoopNodes.{promises_in}

-- The promise at a place, and those from the next one on.
module _ (nodes : TypedNodes) where
  module _ (moment : Moment) (fs : List Claim) where
    promises_suc : (at : Place) (cs : List (Clause × ExprId)) (i : ℕ) (d : Clause × ExprId) → i < length cs
        → promises_refusal moment fs at (promises_in nodes (drop i cs))
        ≡ or_else (if is_asked moment (slice_index_or cs i d).0 then required fs (rule_of (slice_index_or cs i d).0) at (node_cond nodes (slice_index_or cs i d).1) else None)
        (promises_refusal moment fs at (promises_in nodes (drop (suc i) cs)))
    promises_suc at [] i d h = absurd (omega (arith, h))
    promises_suc at (c ∷ cs) zero d h = refl
    promises_suc at (c ∷ cs) (suc i) d h = promises_suc at cs i d (omega (arith, h))

    pub promises_next : (at : Place) (cs : List (Clause × ExprId)) (i : ℕ) (d : Clause × ExprId) → i < length cs
        → promises_refusal moment fs at (promises_in nodes (drop i cs))
        ≡ or_else (if is_asked moment (slice_index_or cs i d).0 then required fs (rule_of (slice_index_or cs i d).0) at (node_cond nodes (slice_index_or cs i d).1) else None)
        (promises_refusal moment fs at (promises_in nodes (drop (i + 1) cs)))
    promises_next at cs i d h =
        let p = slice_index_or cs i d in
        let e : suc i ≡ i + 1 = omega arith in
        promises_suc at cs i d h
        ∙ ap (λ k. or_else (if is_asked moment p.0 then required fs (rule_of p.0) at (node_cond nodes p.1) else None) (promises_refusal moment fs at (promises_in nodes (drop k cs)))) e

    with_suc : (cs : List (Clause × ExprId)) (i : ℕ) (d : Clause × ExprId) → i < length cs
        → with_promises moment fs (promises_in nodes (drop i cs))
        ≡ with_promises moment (if is_asked moment (slice_index_or cs i d).0 then with_condition fs (node_cond nodes (slice_index_or cs i d).1) true else fs) (promises_in nodes (drop (suc i) cs))
    with_suc [] i d h = absurd (omega (arith, h))
    with_suc (c ∷ cs) zero d h = refl
    with_suc (c ∷ cs) (suc i) d h = with_suc cs i d (omega (arith, h))

    pub with_next : (cs : List (Clause × ExprId)) (i : ℕ) (d : Clause × ExprId) → i < length cs
        → with_promises moment fs (promises_in nodes (drop i cs))
        ≡ with_promises moment (if is_asked moment (slice_index_or cs i d).0 then with_condition fs (node_cond nodes (slice_index_or cs i d).1) true else fs) (promises_in nodes (drop (i + 1) cs))
    with_next cs i d h =
        let p = slice_index_or cs i d in
        let e : suc i ≡ i + 1 = omega arith in
        with_suc cs i d h ∙ ap (λ k. with_promises moment (if is_asked moment p.0 then with_condition fs (node_cond nodes p.1) true else fs) (promises_in nodes (drop k cs))) e

-- A list that facts are added to doesn't get shorter.
added_grows : (fs : List Claim) (f : Claim) → length fs ≤ length (added fs f)
added_grows fs f = by (is_among fs f)
  where
    by : (among : Bool) → length fs ≤ length (if among then fs else fs ++ f ∷ [])
    by true = omega arith
    by false = omega (arith, length-append fs (f ∷ []))

all_added_grows : (fs gs : List Claim) → length fs ≤ length (all_added fs gs)
all_added_grows fs [] = omega arith
all_added_grows fs (g ∷ gs) = omega (arith, added_grows fs g, all_added_grows (added fs g) gs)

pub with_promises_grows : (moment : Moment) (fs : List Claim) (cs : List (Clause × CondTree)) → length fs ≤ length (with_promises moment fs cs)
with_promises_grows moment fs [] = omega arith
with_promises_grows moment fs (c ∷ cs) = by (is_asked moment c.0) (λ gs. with_promises_grows moment gs cs)
  where
    by : (asked : Bool) → ((gs : List Claim) → length gs ≤ length (with_promises moment gs cs)) → length fs ≤ length (with_promises moment (if asked then with_condition fs c.1 true else fs) cs)
    by true rest = omega (arith, all_added_grows fs (facts_of c.1 true), rest (with_condition fs c.1 true))
    by false rest = rest fs

-- Where one of the facts to be added finds no room, the whole list would have more than 512.
one_more : (fs : List Claim) (f : Claim) (gs : List Claim) → length fs ≡ 512 → is_among fs f ≡ false → 512 < length (all_added (added fs f) gs)
one_more fs f gs h k =
    let e : added fs f ≡ (fs ++ f ∷ []) = ap (λ b. if b then fs else fs ++ f ∷ []) k in
    let P : List Claim → Type 0 = λ l. 512 < length (all_added l gs) in
    subst P (sym e) (omega (arith, h, length-append fs (f ∷ []), all_added_grows (fs ++ f ∷ []) gs))

pub too_many : (facts before : List Claim) (count : ℕ) (next : Claim) (after : List Claim) → slice_get facts count ≡ Some next → after ≡ all_added before (take count facts) → length after ≡ 512
    → is_among after next ≡ false → 512 < length (all_added before facts)
too_many [] before count next after h so many other = absurd (cc (h))
too_many (f ∷ fs) before zero next after h so many other =
    let e : f ≡ next = cc (h) in
    one_more before f fs (ap length (sym so) ∙ many) (ap (λ l. is_among l f) (sym so) ∙ ap (is_among after) e ∙ other)
too_many (f ∷ fs) before (suc n) next after h so many other = too_many fs (added before f) n next after h so many other

-- The limit.
pub past_limit : (at : Place) (fs : List Claim) → 512 < length fs → limit at fs ≡ Some (record { rule = L8; at = at })
past_limit at fs h = let e : nat_le (length fs) 512 ≡ false = grind (arith, nat_tests, h) in ap (λ b. demand b L8 at) e

-- What a list is refused by, a longer one is too.
pub limit_grows : (at : Place) (fs gs : List Claim) (found : Refusal) → length fs ≤ length gs → limit at fs ≡ Some found → limit at gs ≡ Some found
limit_grows at fs gs found h k = by (nat_le (length fs) 512) refl k
  where
    by : (b : Bool) → nat_le (length fs) 512 ≡ b → demand b L8 at ≡ Some found → limit at gs ≡ Some found
    by true e k = absurd (cc (k))
    by false e k = past_limit at gs (grind (arith, nat_tests, e, h)) ∙ k

-- What goes on by one at most stays behind what goes on by one.
pub at_most_one_more : (n i : ℕ) (b : Bool) → n ≤ i → n + bool_byte b ≤ i + 1
at_most_one_more n i true h = omega (arith, h)
at_most_one_more n i false h = omega (arith, h)

-- An answer tells its refusal.
pub ok_is_none : (refusal : Option Refusal) → Ok (tt {0}) ≡ unless_refused refusal (tt {0}) → refusal ≡ None
ok_is_none None h = refl
ok_is_none (Some found) h = absurd (cc (h))

pub err_is_some : (refusal : Option Refusal) (found : Refusal) → Err found ≡ unless_refused refusal (tt {0}) → refusal ≡ Some found
err_is_some None found h = absurd (cc (h))
err_is_some (Some other) found h = let e : found ≡ other = cc (h) in ap (λ r. Some r) (sym e)

-- What a condition that is required comes to.
module _ (fs : List Claim) (rule : Rule) (at : Place) (t : CondTree) where
  pub has_no_value : (found : Refusal) → cond_refusal fs t ≡ Some found → Err found ≡ unless_refused (required fs rule at t) (tt {0})
  has_no_value found h = ap (λ r. unless_refused (or_else r (demand (gives fs t true) rule at)) (tt {0})) (sym h)

-- A promise that is met, one that isn't asked, and one that is refused, before those that follow it.
pub asked_met : (asked : Bool) (r rest : Option Refusal) → asked ≡ true → r ≡ None → rest ≡ or_else (if asked then r else None) rest
asked_met asked r rest h k = ap (λ r. or_else r rest) (sym k) ∙ ap (λ b. or_else (if b then r else None) rest) (sym h)

pub not_asked : (asked : Bool) (r rest : Option Refusal) → asked ≡ false → rest ≡ or_else (if asked then r else None) rest
not_asked asked r rest h = ap (λ b. or_else (if b then r else None) rest) (sym h)

pub asked_failing : (asked : Bool) (r rest : Option Refusal) (found : Refusal) → asked ≡ true → r ≡ Some found → or_else (if asked then r else None) rest ≡ Some found
asked_failing asked r rest found h k = ap (λ b. or_else (if b then r else None) rest) h ∙ ap (λ r. or_else r rest) k

pub refused_by : (refusal : Option Refusal) (found : Refusal) → refusal ≡ Some found → Err found ≡ unless_refused refusal (tt {0})
refused_by refusal found h = ap (λ r. unless_refused r (tt {0})) (sym h)

-- Facts that found no room in a list.
pub found_no_room : (at : Place) (before facts after : List Claim) → StopsAt before facts after → Err (record { rule = L8; at = at }) ≡ unless_refused (limit at (all_added before facts)) (tt {0})
found_no_room at before facts after h =
    refused_by (limit at (all_added before facts)) (record { rule = L8; at = at }) (past_limit at (all_added before facts) (too_many facts before h.count h.next after h.is h.so_far h.many h.other))

-- Where a fact finds no room, the limit's refusal is told, and nothing else.
pub told_limit : (Q : Full → Refusal → Type 0) (at : Place) (before facts after : List Claim) (r : Result (Unit {0}) Full) (m : Result (Unit {0}) Refusal)
    → ((e : Full) (d : Refusal) → Q e d → d ≡ record { rule = L8; at = at }) → MatchResult r (λ y. m ≡ Ok y) (λ e. IsErrAnd m (Q e))
    → OnOk r (after ≡ all_added before facts) → length after ≤ 512 → OnErr r (StopsAt before facts after) → m ≡ unless_refused (limit at (all_added before facts)) (tt {0})
told_limit Q at before facts after (Ok y) m tells h same few stop =
    let e : nat_le (length (all_added before facts)) 512 ≡ true = grind (arith, nat_tests, ap length same, few) in
    h ∙ ap (λ b. unless_refused (demand b L8 at) (tt {0})) (sym e)
told_limit Q at before facts after (Err x) m tells h same few stop =
    let p = err_from_is_err_and m h in p.1 ∙ ap (λ d. Err d) (tells x p.0 p.2) ∙ found_no_room at before facts after stop

-- A list that is refused by the limit for one promise is so for all.
pub asked_past : (at : Place) (moment : Moment) (asked : Bool) (t : CondTree) (rest : List (Clause × CondTree)) (fs whole : List Claim) (found : Refusal) → asked ≡ true
    → whole ≡ with_promises moment (if asked then with_condition fs t true else fs) rest → limit at (with_condition fs t true) ≡ Some found → limit at whole ≡ Some found
asked_past at moment asked t rest fs whole found h e past =
    let e' : whole ≡ with_promises moment (with_condition fs t true) rest = e ∙ ap (λ b. with_promises moment (if b then with_condition fs t true else fs) rest) h in
    ap (limit at) e' ∙ limit_grows at (with_condition fs t true) (with_promises moment (with_condition fs t true) rest) found (with_promises_grows moment (with_condition fs t true) rest) past

-- What the promises of the list after a loop are refused by, the whole list is.
pub after_past : (nodes : TypedNodes) (at : Place) (head : Head) (list : List Fact) (ps : List (Clause × CondTree)) (found : Refusal) → list ≡ [] → head.clauses ≡ ps
    → limit at (with_promises Leave (claims_in nodes list) ps) ≡ Some found → limit at (after_list head) ≡ Some found
after_past nodes at head list ps found none same h = by head.is_left (ap (λ l. limit at (with_promises Leave (claims_in nodes l) head.clauses)) (sym none) ∙ ap (λ cs. limit at (with_promises Leave (claims_in nodes list) cs)) same ∙ h)
  where
    by : (left : Bool) → limit at (with_promises Leave [] head.clauses) ≡ Some found
        → limit at (if left then with_promises Leave [] head.clauses else with_condition (with_promises Leave [] head.clauses) head.cond false) ≡ Some found
    by true h = h
    by false h =
        limit_grows at (with_promises Leave [] head.clauses) (with_condition (with_promises Leave [] head.clauses) head.cond false) found
        (all_added_grows (with_promises Leave [] head.clauses) (facts_of head.cond false)) h
