-- What is answered of walks, step by step.
use Rattle.std.proofs.Common.{◌≡◌, Bool, true, false, List, [], ◌∷◌, Option, Some, None, Result, Ok, Err, refl, sym, ap, ◌∙◌, subst}
use Rattle.std.specs.Prelude.{slice_get, option_map, unwrap_or}
use Rattle.wf_text.specs.declared.place.Place.{Place}
use Rattle.wf_text.specs.declared.rules.Rule.TheVariants.{L8}
use Rattle.wf_text.specs.declared.rules.Refusal.{Refusal}
use Rattle.wf_text.specs.declared.faults.PhaseFault.{PhaseFault}
use Rattle.wf_ast.specs.declared.numbers.StmtId.{StmtId}
use Rattle.wf_ast.specs.declared.typed_code.Arm.{Arm}
use Rattle.wf_ast.specs.declared.typed_code.Stmt.{Stmt}
use Rattle.wf_ast.specs.declared.typed_code.Stmt.TheVariants as stmts
use Rattle.wf_ast.specs.declared.typed_code.StmtNode.{StmtNode}
use Rattle.wf_ast.specs.declared.typed_nodes.TypedNodes.{TypedNodes}
use Rattle.wf_ast.specs.TypedTree.{CondTree, Site, Head}
use Rattle.wf_ast.specs.TypedTrees.{no_place}
use Rattle.wf_ast.specs.NodeKinds.{node_cond}
use Rattle.wf_facts_exprs.specs.Claims.{Claim, claims_in}
use Rattle.wf_facts_exprs.specs.Demands.{demand, or_else, cond_refusal, unless_refused}
use Rattle.wf_facts.specs.Conditions.{StopsAt}
use Rattle.wf_facts.specs.FactLists.{all_added, with_condition}
use Rattle.wf_facts.specs.IndexedFacts.{FactList}
use Rattle.wf_loops.specs.LoopRules.{limit, way_back_refusal}
use Rattle.wf_loops.specs.LoopNodes.{is_loop, is_loop_stmt, head_at, head_of_stmt, no_head}
use Rattle.wf_loops.proofs.AskingLemmas.{found_no_room}
use Rattle.wf_bounds_stmts.specs.Requirements.{limits}
use Rattle.wf_bounds_stmts.specs.FactRules.{Known, conditions_refusal, branch_fronts, behind_loop, limit_behind, unless}
use Rattle.wf_bounds_stmts.specs.Passing.{site_at}
use Rattle.wf_bounds.specs.Walks.{Reached, passed, going_on}
use Rattle.wf_bounds.specs.declared.ways.Way.{Way}
use Rattle.wf_bounds.specs.declared.ways.Way.TheVariants.{GoesOn}
use Rattle.wf_bounds.specs.WalkAnswers.{keeps_limit, arms_fit, Comes}
use Rattle.wf_bounds.specs.WalkNodes.{conditions_of, arms_refusal, left_loop}

-- A statement without blocks.
pub single_goes : (refusal limit : Option Refusal) (known : Known) (gs : List Claim) → refusal ≡ None → limit ≡ None → known ≡ Some gs → unless (or_else refusal limit) (Ok (passed known)) ≡ Ok (passed (Some gs))
single_goes refusal limit known gs e f g = rw (e, f, g) refl

pub single_stops : (refusal : Option Refusal) (at : Place) (known : Known) → refusal ≡ None → known ≡ None → unless (or_else refusal (limit_behind at known)) (Ok (passed known)) ≡ Ok (passed None)
single_stops refusal at known e f = rw (e, f) refl

pub refused : {X : Type 0} (refusal : Option Refusal) (walked : Result X Refusal) (r : Refusal) → refusal ≡ Some r → unless refusal walked ≡ Err r
refused refusal walked r e = ap (λ o. unless o walked) e

-- The first place of a statement.
pub site_place : (nodes : TypedNodes) (s : StmtId) (at : Place) → option_map (λ node. node.at) (slice_get nodes.stmts s.0) ≡ Some at → at ≡ (site_at nodes s).at
unfolding site_at
site_place nodes s at h = by (slice_get nodes.stmts s.0) h
  where
    by : (o : Option StmtNode) → option_map (λ node. node.at) o ≡ Some at → at ≡ unwrap_or (option_map (λ node. node.at) o) no_place
    by None h = absurd (cc h)
    by (Some node) h = cc h

-- The conditions of an `if` one by one: `room` tells whether the lists before the blocks so far keep to the limit.
abbrev pub arms_left : (room : Bool) → Site → List Claim → List CondTree → Option Refusal
arms_left room site fs cs = or_else (conditions_refusal fs site cs) (or_else (demand room L8 site.at) (limits site.at (branch_fronts fs cs)))

neither : (p q : Option Refusal) → or_else p q ≡ None → (p ≡ None) × (q ≡ None)
neither None q h = (refl, h)
neither (Some r) q h = absurd (cc h)

demanded : (b : Bool) (at : Place) → demand b L8 at ≡ None → b ≡ true
demanded true at h = refl
demanded false at h = absurd (cc h)

-- Where nothing is refused, the lists before the blocks keep to the limit.
pub fit_arms : (nodes : TypedNodes) (site : Site) (fs : List Claim) (arms : List Arm) → arms_refusal fs site (conditions_of nodes arms) ≡ None → arms_fit nodes fs arms ≡ true
fit_arms nodes site fs [] h = refl
fit_arms nodes site fs (arm ∷ arms) h =
    let c = node_cond nodes arm.cond in
    let holds = with_condition fs c true in
    let fails = with_condition fs c false in
    let cs = conditions_of nodes arms in
    let p = neither (or_else (cond_refusal fs c) (or_else (limit site.at fails) (conditions_refusal fails site cs))) (or_else (limit site.at holds) (limits site.at (branch_fronts fails cs))) h in
    let q = neither (cond_refusal fs c) (or_else (limit site.at fails) (conditions_refusal fails site cs)) p.0 in
    let o = neither (limit site.at fails) (conditions_refusal fails site cs) q.1 in
    let l = neither (limit site.at holds) (limits site.at (branch_fronts fails cs)) p.1 in
    let rest = fit_arms nodes site fails arms (rw (o.1, l.1) refl) in
    rw (demanded (keeps_limit holds) site.at l.0, demanded (keeps_limit fails) site.at o.0, rest) refl

-- Facts that keep to the limit find room.
pub no_room_fits : (before facts after : List Claim) → keeps_limit (all_added before facts) ≡ true → StopsAt before facts after → ⊥
no_room_fits before facts after h stops =
    let e = found_no_room no_place before facts after stops in
    let P : Bool → Type 0 = λ b. Err (record { rule = L8; at = no_place }) ≡ unless_refused (demand b L8 no_place) (tt {0}) in
    let no : Err (record { rule = L8; at = no_place }) ≡ Ok (tt {0}) = subst P h e in
    cc no

-- What follows a loop's body.
module _ (nodes : TypedNodes) (walked : Result (Reached Known) Refusal) (way : Result Way PhaseFault) (inside : FactList) (at : Place) (head : Head) where
  at_end : way ≡ Ok GoesOn → Comes nodes walked way inside → walked ≡ Ok (passed (Some (claims_in nodes inside.list)))
  at_end e h = let P : Result Way PhaseFault → Type 0 = λ a. Comes nodes walked a inside in subst P e h

  pub left_goes : way ≡ Ok GoesOn → way_back_refusal (claims_in nodes inside.list) head.close head ≡ None → Comes nodes walked way inside
      → going_on walked (left_loop at head) ≡ unless (limit_behind at (behind_loop head)) (Ok (passed (behind_loop head)))
  left_goes e back h =
      ap (λ r. going_on r (left_loop at head)) (at_end e h)
      ∙ ap (λ o. unless (or_else (or_else o None) (limit_behind at (behind_loop head))) (Ok (passed (behind_loop head)))) back

  pub left_refused : (r : Refusal) → way ≡ Ok GoesOn → way_back_refusal (claims_in nodes inside.list) head.close head ≡ Some r → Comes nodes walked way inside → going_on walked (left_loop at head) ≡ Err r
  left_refused r e back h =
      ap (λ r. going_on r (left_loop at head)) (at_end e h)
      ∙ ap (λ o. unless (or_else (or_else o None) (limit_behind at (behind_loop head))) (Ok (passed (behind_loop head)))) back

pub comes_same : (nodes : TypedNodes) (one other : Result (Reached Known) Refusal) (answer : Result Way PhaseFault) (facts : FactList) → one ≡ other → Comes nodes other answer facts → Comes nodes one answer facts
comes_same nodes one other answer facts e h = let P : Result (Reached Known) Refusal → Type 0 = λ r. Comes nodes r answer facts in subst P (sym e) h

-- The closing brace of a loop's body.
pub close_is : (nodes : TypedNodes) (w : StmtId) (close : Place) → is_loop nodes w ≡ true → option_map (λ node. node.inner) (slice_get nodes.stmts w.0) ≡ Some close → close ≡ (head_at nodes w).close
unfolding is_loop head_at
close_is nodes w close h k = by (slice_get nodes.stmts w.0) h k
  where
    stmt_close : (inner : Place) (st : Stmt) → is_loop_stmt nodes st ≡ true → inner ≡ (head_of_stmt nodes inner st).close
    stmt_close inner (stmts.While head body) h = refl
    stmt_close inner st h = absurd (cc h)

    by : (o : Option StmtNode) → unwrap_or (option_map (λ node. is_loop_stmt nodes node.stmt) o) false ≡ true → option_map (λ node. node.inner) o ≡ Some close
        → close ≡ (unwrap_or (option_map (λ node. head_of_stmt nodes node.inner node.stmt) o) no_head).close
    by None h k = absurd (cc h)
    by (Some node) h k = let e : node.inner ≡ close = cc k in sym e ∙ stmt_close node.inner node.stmt h

pub back_met : (refusal : Option Refusal) (answer : Result (Unit {0}) Refusal) (done : Unit {0}) → answer ≡ Ok done → answer ≡ unless_refused refusal (tt {0}) → refusal ≡ None
back_met None answer done h k = refl
back_met (Some r) answer done h k = absurd (cc (h, k))

pub back_refused : (refusal : Option Refusal) (answer : Result (Unit {0}) Refusal) (r : Refusal) → answer ≡ Err r → answer ≡ unless_refused refusal (tt {0}) → refusal ≡ Some r
back_refused None answer r h k = absurd (cc (h, k))
back_refused (Some other) answer r h k = let e : other ≡ r = cc (h, k) in ap (λ x. Some x) e
