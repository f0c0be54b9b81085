-- What a statement requires is refused where the statement, one of its parts, or the loop that it means has a part.
use Rattle.std.proofs.Common.{ℕ, Bool, true, false, if◌then◌else◌, List, [], ◌∷◌, map, Option, None, Some, IfSome, Result, Ok, Err, option_map}
use Rattle.std.specs.List.{AllByRecursion}
use Rattle.wf_text.specs.declared.place.Place.{Place}
use Rattle.wf_text.specs.declared.rules.Rule.{Rule}
use Rattle.wf_text.specs.declared.rules.Rule.TheVariants.{B1, B6, B7, B8, B9, L8}
use Rattle.wf_text.specs.declared.rules.Refusal.{Refusal}
use Rattle.wf_base.specs.declared.marks.Mark.{Mark}
use Rattle.wf_ast.specs.declared.parsed.Clause.{Clause}
use Rattle.wf_ast.specs.declared.types.Ty.{Ty}
use Rattle.wf_ast.specs.StatementOrder.{stands_before}
use Rattle.wf_ast.specs.TypedTree.{NumType, NumTree, number, read, element, link, convert, length_of, asked, CondTree, ValueTree, numeric, logical, state, elements, io, lost, Target, to_number, to_element, to_flag, to_status, to_slice, to_nothing, Awaited, take_number, skip, write, Written, skip_fast, write_fast, copy_to_writer, copy_to_slice, Called, Head}
use Rattle.wf_ast.specs.TypedTree as typed
use Rattle.wf_ast.specs.TypedPackage.{MethodTree}
use Rattle.wf_ast.specs.WellTyped.{Context, is_word_true}
use Rattle.wf_facts_exprs.specs.Claims.{Claim}
use Rattle.wf_facts_exprs.specs.Demands.{demand, or_else, num_refusal, cond_refusal, value_refusal}
use Rattle.wf_axioms.specs.declared.axioms.Axiom.{Axiom}
use Rattle.wf_axioms.specs.declared.asked.AxiomFault.{AxiomFault}
use Rattle.wf_axioms.specs.Matching.{premises_for}
use Rattle.wf_loops.specs.declared.moments.Moment.{Moment}
use Rattle.wf_loops.specs.declared.moments.Moment.TheVariants.{Test, Leave}
use Rattle.wf_loops.specs.LoopRules.{is_asked, rule_of, required, promises_refusal, limit, entry_refusal, way_back_refusal, break_refusal, head_list, body_list, exit_list, exit_refusal, front_refusal}
use Rattle.wf_bounds_stmts.specs.Requirements.{place_of_number, place_of, limits, lies_refusal, Handed, handed_refusal, Placed, placed, written_first, first_handed, all_handed}
use Rattle.wf_bounds_stmts.specs.Targets.{target_refusal, taken_by, assign_refusal, answer_refusal}
use Rattle.wf_bounds_stmts.specs.Calls.{interrupted, callee_of, handed_to, handed_to_method, answered_by, known_to_call, left_by_call, invoke_refusal, handed_to_awaited, answered_by_awaited, await_refusal, handed_to_written, answered_by_written, receiver_refusal, premise_refusal, left_by_written, perform_refusal}
use Rattle.wf_bounds_stmts.specs.Assertions.{axiom_named, premise_offsets, inside_text, claim_given, premises_refusal, matched_refusal, axiom_refusal, given_refusal, claim_refusal}
use Rattle.wf_bounds_laws.specs.TypedPlaces.{NumIsIn, CondIsIn, ValueIsIn, TargetIsIn, AwaitedIsIn, WrittenIsIn, AxiomIsIn, MayBeIn, HeadIsIn}
use Rattle.wf_bounds_laws.proofs.ExprRefusals.{RefusalIsIn, demand-in, demands-in, or-in, num-in, slice-in, cond-in, value-in}

-- With a text its bytes stand in the region.
module _ (In : Place → Type 0) (inside-in : (at : Place) (n : ℕ) → In at → In (inside_text at n)) where
  pub limit-in : (at : Place) (fs : List Claim) → In at → RefusalIsIn In (limit at fs)
  limit-in at fs h = demand-in In _ L8 at h

  pub limits-in : (at : Place) (lists : List (List Claim)) → In at → RefusalIsIn In (limits at lists)
  limits-in at [] h = tt
  limits-in at (fs ∷ lists) h = or-in In (limit at fs) _ (limit-in at fs h) (limits-in at lists h)

  place-in : (t : NumTree) → NumIsIn In t → In (place_of_number t)
  place-in (number at n) h = h
  place-in (read at of path) h = h
  place-in (element at of cells index) h = h.0
  place-in (link at sign op bits joined a b) h = h.0
  place-in (convert at sign bits a) h = h.0
  place-in (length_of at cells) h = h.0
  place-in (asked at question a) h = h

  pub lies-in : (rule : Rule) (fs : List Claim) (of : Option NumType) (v : ValueTree) → ValueIsIn In v → RefusalIsIn In (lies_refusal rule fs of v)
  lies-in rule fs None v h = tt
  lies-in rule fs (Some of) (numeric t) h = demand-in In _ rule (place_of_number t) (place-in t h)
  lies-in rule fs (Some of) (logical c) h = tt
  lies-in rule fs (Some of) (state t) h = tt
  lies-in rule fs (Some of) (elements t) h = tt
  lies-in rule fs (Some of) (io at a) h = tt
  lies-in rule fs (Some of) lost h = tt

  -- Values that are handed over.
  abbrev HandedAreIn : List Handed → Type 0
  HandedAreIn hs = AllByRecursion (λ (h : Handed). ValueIsIn In h.1) hs

  abbrev PlacedIsIn : Option Placed → Type 0
  PlacedIsIn found = IfSome found (λ p. In p.1.at)

  placed-in : (at : Place) (found : Option Refusal) → RefusalIsIn In found → PlacedIsIn (placed at found)
  placed-in at None h = tt
  placed-in at (Some r) h = h

  either-in : (b : Bool) (p q : Placed) → In p.1.at → In q.1.at → PlacedIsIn (if b then Some q else Some p)
  either-in true p q h k = k
  either-in false p q h k = h

  first-in : (a b : Option Placed) → PlacedIsIn a → PlacedIsIn b → PlacedIsIn (written_first a b)
  first-in None b h k = k
  first-in (Some p) None h k = h
  first-in (Some p) (Some q) h k = either-in (stands_before q.0 p.0) p q h k

  each-in : (rule : Rule) (fs : List Claim) (found : Option Placed) (hs : List Handed) → PlacedIsIn found → HandedAreIn hs → PlacedIsIn (first_handed rule fs found hs)
  each-in rule fs found [] f a = f
  each-in rule fs found (h ∷ hs) f a =
      let refused = or-in In (value_refusal fs h.1) (lies_refusal rule fs h.0 h.1) (value-in In fs h.1 a.0) (lies-in rule fs h.0 h.1 a.0) in
      each-in rule fs (written_first found (placed (place_of h.1) (handed_refusal rule fs h))) hs
      (first-in found (placed (place_of h.1) (handed_refusal rule fs h)) f (placed-in (place_of h.1) (handed_refusal rule fs h) refused)) a.1

  told-in : (found : Option Placed) → PlacedIsIn found → RefusalIsIn In (option_map (λ p. p.1) found)
  told-in None h = tt
  told-in (Some p) h = h

  handed-in : (rule : Rule) (fs : List Claim) (hs : List Handed) → HandedAreIn hs → RefusalIsIn In (all_handed rule fs hs)
  handed-in rule fs hs a = told-in (first_handed rule fs None hs) (each-in rule fs None hs tt a)

  -- Targets.
  target-in : (fs : List Claim) (t : Target) → TargetIsIn In t → RefusalIsIn In (target_refusal fs t)
  target-in fs (to_number at of path) h = tt
  target-in fs (to_element at of cells index) h = num-in In fs false (element at of cells index) h
  target-in fs (to_flag at path) h = tt
  target-in fs (to_status at path) h = tt
  target-in fs (to_slice at bits path) h = tt
  target-in fs to_nothing h = tt

  pub assign-in : (fs : List Claim) (t : Target) (v : ValueTree) → TargetIsIn In t → ValueIsIn In v → RefusalIsIn In (assign_refusal fs t v)
  assign-in fs t v h k =
      or-in In (value_refusal fs v) _ (value-in In fs v k) (or-in In (target_refusal fs t) (lies_refusal B1 fs (taken_by t) v) (target-in fs t h) (lies-in B1 fs (taken_by t) v k))

  answer-in : (fs : List Claim) (at : Place) (t : Target) (answers : Option NumType) → In at → TargetIsIn In t → RefusalIsIn In (answer_refusal fs at t answers)
  answer-in fs at t answers h k = or-in In (target_refusal fs t) _ (target-in fs t k) (demand-in In _ B1 at h)

  -- Calls.
  given-to-in : (tys : List Ty) (vs : List ValueTree) → AllByRecursion (ValueIsIn In) vs → HandedAreIn (handed_to tys vs)
  given-to-in [] vs a = tt
  given-to-in (ty ∷ tys) [] a = tt
  given-to-in (ty ∷ tys) (v ∷ vs) a = (a.0, given-to-in tys vs a.1)

  to-method-in : (callee : Option MethodTree) (vs : List ValueTree) → AllByRecursion (ValueIsIn In) vs → HandedAreIn (handed_to_method callee vs)
  to-method-in None vs a = tt
  to-method-in (Some callee) vs a = given-to-in (map (λ x. x.ty) callee.args) vs a

  pub invoke-in : (c : Context) (fs : List Claim) (at : Place) (t : Target) (keep : Bool) (mark : Mark) (called : Called) (vs : List ValueTree)
      → In at → TargetIsIn In t → AllByRecursion (ValueIsIn In) vs → RefusalIsIn In (invoke_refusal c fs at t keep mark called vs)
  invoke-in c fs at t keep mark called vs h k a =
      or-in In (all_handed B8 (known_to_call keep mark fs) (handed_to_method (callee_of c called) vs)) _
      (handed-in B8 (known_to_call keep mark fs) (handed_to_method (callee_of c called) vs) (to-method-in (callee_of c called) vs a))
      (answer-in (left_by_call keep mark vs fs) at t (answered_by (callee_of c called)) h k)

  awaited-in : (call : Awaited) → AwaitedIsIn In call → HandedAreIn (handed_to_awaited call)
  awaited-in (take_number form) h = tt
  awaited-in (skip count) h = (h, tt)
  awaited-in (write byte) h = (h, tt)

  pub await-in : (fs : List Claim) (at : Place) (t : Target) (call : Awaited) → In at → TargetIsIn In t → AwaitedIsIn In call → RefusalIsIn In (await_refusal fs at t call)
  await-in fs at t call h k a =
      or-in In (all_handed B8 fs (handed_to_awaited call)) _ (handed-in B8 fs (handed_to_awaited call) (awaited-in call a))
      (answer-in (interrupted fs) at t (answered_by_awaited call) h k)

  written-in : (call : Written) → WrittenIsIn In call → HandedAreIn (handed_to_written call)
  written-in (skip_fast a actual worst_case) h = (h.0, (h.1, tt))
  written-in (write_fast a byte) h = (h, tt)
  written-in (copy_to_writer a source) h = (h, tt)
  written-in (copy_to_slice target source) h = (h.1, tt)

  receiver-in : (fs : List Claim) (call : Written) → WrittenIsIn In call → RefusalIsIn In (receiver_refusal fs call)
  receiver-in fs (skip_fast a actual worst_case) h = tt
  receiver-in fs (write_fast a byte) h = tt
  receiver-in fs (copy_to_writer a source) h = tt
  receiver-in fs (copy_to_slice target source) h = slice-in In fs target h.0

  premise-in : (fs : List Claim) (at : Place) (call : Written) → In at → RefusalIsIn In (premise_refusal fs at call)
  premise-in fs at (skip_fast a actual worst_case) h = demands-in In _ _ B9 at h
  premise-in fs at (write_fast a byte) h = demand-in In _ B9 at h
  premise-in fs at (copy_to_writer a source) h = tt
  premise-in fs at (copy_to_slice target source) h = tt

  pub perform-in : (fs : List Claim) (at : Place) (t : Target) (call : Written) → In at → TargetIsIn In t → WrittenIsIn In call → RefusalIsIn In (perform_refusal fs at t call)
  perform-in fs at t call h k a =
      or-in In (receiver_refusal fs call) _ (receiver-in fs call a) (or-in In (all_handed B8 fs (handed_to_written call)) _ (handed-in B8 fs (handed_to_written call) (written-in call a))
      (or-in In (premise_refusal fs at call) _ (premise-in fs at call h) (answer-in (left_by_written call fs) at t (answered_by_written call) h k)))

  -- Assertions.
  pub required-in : (fs : List Claim) (rule : Rule) (at : Place) (c : CondTree) → In at → CondIsIn In c → RefusalIsIn In (required fs rule at c)
  required-in fs rule at c h k = or-in In (cond_refusal fs c) _ (cond-in In fs c k) (demand-in In _ rule at h)

  premises-in : (fs : List Claim) (places : List Place) (premises : List Claim) → AllByRecursion In places → RefusalIsIn In (premises_refusal fs places premises)
  premises-in fs [] premises a = tt
  premises-in fs (at ∷ places) [] a = tt
  premises-in fs (at ∷ places) (premise ∷ premises) a =
      or-in In (demand (claim_given fs premise) B7 at) (premises_refusal fs places premises) (demand-in In (claim_given fs premise) B7 at a.0) (premises-in fs places premises a.1)

  offsets-in : (text : Place) (ns : List ℕ) → In text → AllByRecursion In (map (inside_text text) ns)
  offsets-in text [] h = tt
  offsets-in text (n ∷ ns) h = (inside-in text n h, offsets-in text ns h)

  matched-in : (fs : List Claim) (text : Place) (a : Axiom) (premises : Result (List Claim) AxiomFault) → In text → RefusalIsIn In (matched_refusal fs text a premises)
  matched-in fs text a (Err fault) h = h
  matched-in fs text a (Ok premises) h = premises-in fs (map (inside_text text) (premise_offsets a)) premises (offsets-in text (premise_offsets a) h)

  axiom-in : (fs : List Claim) (text : Place) (goal : CondTree) (given : List (List ℕ × NumTree)) (a : Option Axiom) → In text → RefusalIsIn In (axiom_refusal fs text goal given a)
  axiom-in fs text goal given None h = h
  axiom-in fs text goal given (Some a) h = matched-in fs text a (premises_for a goal given) h

  given-in : (fs : List Claim) (gs : List (List ℕ × NumTree)) → AllByRecursion (λ g. NumIsIn In g.1) gs → RefusalIsIn In (given_refusal fs gs)
  given-in fs [] a = tt
  given-in fs (g ∷ gs) a = or-in In (num_refusal fs false g.1) _ (num-in In fs false g.1 a.0) (given-in fs gs a.1)

  pub claim-in : (fs : List Claim) (at : Place) (goal : CondTree) (by : Option typed.Axiom) → In at → CondIsIn In goal → MayBeIn (AxiomIsIn In) by → RefusalIsIn In (claim_refusal fs at goal by)
  claim-in fs at goal None h k a = required-in fs B6 at goal h k
  claim-in fs at goal (Some a) h k is =
      or-in In (cond_refusal fs goal) _ (cond-in In fs goal k) (or-in In (given_refusal fs a.given) _ (given-in fs a.given is.1)
      (axiom-in fs a.at goal a.given (axiom_named a.text) is.0))

  -- Loops.
  asked-in : (b : Bool) (found : Option Refusal) → RefusalIsIn In found → RefusalIsIn In (if b then found else None)
  asked-in true found h = h
  asked-in false found h = tt

  promises-in : (moment : Moment) (fs : List Claim) (at : Place) (cs : List (Clause × CondTree)) → In at → AllByRecursion (λ c. CondIsIn In c.1) cs → RefusalIsIn In (promises_refusal moment fs at cs)
  promises-in moment fs at [] h a = tt
  promises-in moment fs at (c ∷ cs) h a =
      or-in In (if is_asked moment c.0 then required fs (rule_of c.0) at c.1 else None) _
      (asked-in (is_asked moment c.0) (required fs (rule_of c.0) at c.1) (required-in fs (rule_of c.0) at c.1 h a.0)) (promises-in moment fs at cs h a.1)

  pub way-back-in : (fs : List Claim) (at : Place) (head : Head) → In at → HeadIsIn In head → RefusalIsIn In (way_back_refusal fs at head)
  way-back-in fs at head h k = promises-in Test fs at head.clauses h k.1

  pub break-in : (fs : List Claim) (at : Place) (head : Head) → In at → HeadIsIn In head → RefusalIsIn In (break_refusal fs at head)
  break-in fs at head h k = promises-in Leave fs at head.clauses h k.1

  unless-word-in : (b : Bool) (found : Option Refusal) → RefusalIsIn In found → RefusalIsIn In (if b then None else found)
  unless-word-in true found h = tt
  unless-word-in false found h = h

  exit-in : (fs : List Claim) (at : Place) (head : Head) → In at → HeadIsIn In head → RefusalIsIn In (exit_refusal fs at head)
  exit-in fs at head h k =
      unless-word-in (is_word_true head.cond) (or_else (limit at (exit_list fs head)) (promises_refusal Leave (exit_list fs head) at head.clauses))
      (or-in In (limit at (exit_list fs head)) _ (limit-in at (exit_list fs head) h) (promises-in Leave (exit_list fs head) at head.clauses h k.1))

  pub front-in : (fs : List Claim) (at : Place) (head : Head) → In at → HeadIsIn In head → RefusalIsIn In (front_refusal fs at head)
  front-in fs at head h k =
      or-in In (entry_refusal fs at head) _ (promises-in Test fs at head.clauses h k.1) (or-in In (limit at (head_list head)) _ (limit-in at (head_list head) h)
      (or-in In (cond_refusal (head_list head) head.cond) _ (cond-in In (head_list head) head.cond k.0)
      (or-in In (exit_refusal (head_list head) at head) _ (exit-in (head_list head) at head h k) (limit-in at (body_list (head_list head) head) h))))
