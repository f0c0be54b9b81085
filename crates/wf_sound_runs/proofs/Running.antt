-- A body that runs in a package that the rules of facts accept: what holds wherever it stands, and that each step keeps it.
use Rattle.std.proofs.Common.{◌≡◌, inl, inr, ℕ, Bool, true, false, List, ◌∷◌, Option, Some, None, refl, sym, subst}
use Rattle.std.specs.Prelude.{slice_get}
use Rattle.std.proofs.lemmas.Bool.{and_parts}
use Rattle.turns.specs.Run.{Go, Turn, End, Out, Fail}
use Rattle.wf_text.specs.declared.place.Place.{Place}
use Rattle.wf_text.specs.declared.rules.Refusal.{Refusal}
use Rattle.wf_ast.specs.TypedTree.{CondTree, Simple, assign, await, perform, invoke, break_from, continue_in, give_back, yield, claim, Site, Head, Block, end, plain, choose, loop}
use Rattle.wf_ast.specs.TypedPackage.{MethodTree, PackageTree}
use Rattle.wf_ast.specs.WellTyped.{Context}
use Rattle.wf_ast.specs.Value.{State, Value, truth_of}
use Rattle.wf_facts_exprs.specs.Claims.{Claim, AllTrue}
use Rattle.wf_facts_exprs.specs.Demands.{or_else}
use Rattle.wf_facts_exprs.proofs.Soundness.{SoundCond, cond-sound}
use Rattle.wf_facts.specs.FactLists.{with_condition}
use Rattle.wf_facts.proofs.LawLemmas.{with_condition-true}
use Rattle.wf_loops.specs.LoopRules.{entry_refusal, way_back_refusal, test_refusal, head_list, body_list}
use Rattle.wf_meaning.specs.SourceState.{Behind, stop, behind_if, again, Done, untouched, Remaining}
use Rattle.wf_meaning.specs.Remaining.{Marker, marker_of}
use Rattle.wf_meaning.specs.World.{World, Body, Vars, view}
use Rattle.wf_meaning.specs.SourceStep.{At, Ending, gives, suspends, Steps, Callees, state_of, at_block, step, chosen}
use Rattle.wf_bounds_stmts.specs.Calls.{interrupted}
use Rattle.wf_bounds_stmts.specs.FactRules.{Known, known_behind, behind_loop}
use Rattle.wf_sound.specs.Worlds.{Shape, HaveTypes, context_of, IsLawfulBody, AreApart}
use Rattle.wf_sound.specs.Positions.{loops_round, hands_on_well}
use Rattle.wf_sound.specs.Callees.{CalleesRun}
use Rattle.wf_sound.specs.OneStep.{IsStarted, IsReached, afresh, ComesTo, StandsBefore, StandsKnowing, IsLeftAt, Ends, LeadsTo, Tests, IsWellTyped, IsRunning, AreFactsOf}
use Rattle.wf_sound.proofs.Views.{lawful-view}
use Rattle.wf_sound.proofs.AssignSteps.{goes-with}
use Rattle.wf_sound.proofs.ControlSteps.{loop-step, back-step}
use Rattle.wf_sound.proofs.EndSteps.{end-step}
use Rattle.wf_sound.proofs.StatementLaw.{statement-law}
use Rattle.wf_sound_runs.proofs.Accepts.{After, Joins, Accepts, accepts-less}
use Rattle.wf_sound_runs.proofs.Placed.{Placed, placed-rest, PlacedIf, placed-if, PlacedLoop, placed-loop, placed-join, PlacedMarker, marker-loop, marker-end, end-marker, found-marker, placed-marker}

-- What is asked at the end of a block, of what follows it.
module _ (p : PackageTree) (m : MethodTree) where
  abbrev pub context : Context
  context = record { within = p; method = m }

  abbrev pub Ended : Behind → List Claim → Type 0
  Ended stop es = m.gives ≡ None
  Ended (behind_if rest behind) es = (gs : List Claim) × ((s : State) → AllTrue s es → AllTrue s gs) × AreFactsOf context gs × Accepts context (loops_round behind) rest gs (Ended behind)
  Ended (again site head body rest behind) es = (at : Place) × (way_back_refusal es at head ≡ None)

  -- A loop that stands round a block is accepted.
  pub record LoopAccepted (site : Site) (head : Head) (body rest : Block) (behind : Behind) : Type 0 where
    pub test : test_refusal site.at head ≡ None
    pub facts : AreFactsOf context (body_list (head_list head) head)
    pub inner : Accepts context ((site.number, head) ∷ loops_round behind) body (body_list (head_list head) head) (λ es. way_back_refusal es head.close head ≡ None)
    pub after : After (behind_loop head) (λ gs. AreFactsOf context gs × Accepts context (loops_round behind) rest gs (Ended behind))

  abbrev pub Loops : Behind → Type 0
  Loops stop = Unit {0}
  Loops (behind_if rest behind) = Loops behind
  Loops (again site head body rest behind) = LoopAccepted site head body rest behind × Loops behind

  -- What remains of a method, so that it goes on where it is resumed.
  pub record Resumable (left : Remaining) : Type 0 where
    pub site : Site
    pub statement : Simple
    pub rest : Block
    pub first : left.block ≡ plain site statement rest
    pub started : IsStarted statement left.done
    pub placed : Placed context (plain site statement rest) left.behind
    pub loops : Loops left.behind
    pub list : List Claim
    pub facts : AreFactsOf context list
    pub accepts : Accepts context (loops_round left.behind) (plain site statement rest) list (Ended left.behind)
    pub locals : (shape : Shape) → HaveTypes p shape m.locals left.locals
    pub known : (object : ℕ) (args : List Value) (w : World) → AllTrue (view (record { within = p; object = object; method = m; args = args }) left.locals w) (interrupted list)

-- The rule that what remains of methods keeps.
pub record IsResumable (p : PackageTree) (number : ℕ) (left : Remaining) : Type 0 where
  pub method : MethodTree
  pub numbered : slice_get p.methods number ≡ Some method
  pub resumes : Resumable p method left

neither : (p q : Option Refusal) → or_else p q ≡ None → (p ≡ None) × (q ≡ None)
neither None q h = (refl, h)
neither (Some r) q h = absurd (cc (h))

-- More may be told of where a step comes to.
pub comes-map : (N L : At → Type 0) (E F : Ending × World → Type 0) (x : Steps) → ((y : At) → N y → L y) → ((e : Ending × World) → E e → F e) → ComesTo N E x → ComesTo L F x
comes-map N L E F (Go y) f g h = f y h
comes-map N L E F (Turn left y) f g h = f y h
comes-map N L E F (End left e) f g h = g e h
comes-map N L E F Out f g h = tt
comes-map N L E F Fail f g h = h

module _ (R : (method : ℕ) → Remaining → Type 0) (shape : Shape) (b : Body) (typed : IsWellTyped b) (sole : AreApart b.args) where
  abbrev c : Context
  c = context_of b

  -- How the block that comes next is reached.
  abbrev pub Reached : Block → Done → Vars → List Claim → Type 0
  Reached (plain site s rest) done vars fs = IsReached b vars fs s done
  Reached block done vars fs = (done ≡ untouched) × AllTrue (state_of b vars) fs

  pub record Stands (x : At) : Type 0 where
    pub lawful : IsLawfulBody R shape b x.vars
    pub placed : Placed c x.block x.behind
    pub loops : Loops b.within b.method x.behind
    pub list : List Claim
    pub facts : AreFactsOf c list
    pub accepts : Accepts c (loops_round x.behind) x.block list (Ended b.within b.method x.behind)
    pub reached : Reached x.block x.done x.vars list

  afresh-reached : (block : Block) (vars : Vars) (fs : List Claim) → AllTrue (state_of b vars) fs → Reached block untouched vars fs
  afresh-reached end vars fs h = (refl, h)
  afresh-reached (plain site s rest) vars fs h = afresh refl h
  afresh-reached (choose site chained t x y rest) vars fs h = (refl, h)
  afresh-reached (loop site head body rest) vars fs h = (refl, h)

  pub stands-first : (block : Block) (behind : Behind) (vars : Vars) (fs : List Claim) → IsLawfulBody R shape b vars → Placed c block behind → Loops b.within b.method behind → AreFactsOf c fs
      → Accepts c (loops_round behind) block fs (Ended b.within b.method behind) → AllTrue (state_of b vars) fs → Stands (at_block block behind vars)
  stands-first block behind vars fs lawful placed loops facts accepts known = record { lawful = lawful; placed = placed; loops = loops; list = fs; facts = facts; accepts = accepts; reached = afresh-reached block vars fs known }

  -- Before a block with true facts.
  stands-before : (block : Block) (behind : Behind) (fs : List Claim) (x : At) → StandsBefore R shape b block behind fs x → Placed c block behind → Loops b.within b.method behind → AreFactsOf c fs
      → Accepts c (loops_round behind) block fs (Ended b.within b.method behind) → Stands x
  stands-before block behind fs x h placed loops facts accepts =
      let same : at_block block behind x.vars ≡ x = λ i. record { done = sym h.fresh i; block = sym h.first i; behind = sym h.after i; vars = x.vars } in
      subst Stands same (record { lawful = h.lawful; placed = placed; loops = loops; list = fs; facts = facts; accepts = accepts; reached = afresh-reached block x.vars fs h.facts })

  stands-knowing : (block : Block) (behind : Behind) (k : Known) (x : At) → StandsKnowing R shape b block behind k x → Placed c block behind → Loops b.within b.method behind
      → After k (λ gs. AreFactsOf c gs × Accepts c (loops_round behind) block gs (Ended b.within b.method behind)) → Stands x
  stands-knowing block behind None x h placed loops a = absurd h
  stands-knowing block behind (Some gs) x h placed loops a = stands-before block behind gs x h placed loops a.0 a.1

  -- The end of a run.
  abbrev pub EndsSo : Ending × World → Type 0
  EndsSo e = Ends R shape b (Resumable b.within b.method) e

  -- The loop of a marker.
  marker-accepted : (w : ℕ) (behind : Behind) (mk : Marker) → marker_of w behind ≡ Some mk → Loops b.within b.method behind → Loops b.within b.method (again mk.site mk.head mk.body mk.rest mk.behind)
  marker-accepted w behind mk e h = found-marker c (Loops b.within b.method) (λ rest k q. q) (λ site head body rest k q. q.1) w behind mk e h

  -- A statement without blocks.
  running-at : (block : Block) (behind : Behind) (vars : Vars) → IsLawfulBody R shape b vars → Placed c block behind → IsRunning R shape b block behind vars
  running-at block behind vars lawful placed = record { lawful = lawful; apart = sole; typed = typed; well = placed.well }

  leads : (s : Simple) (site : Site) (rest : Block) (behind : Behind) (fs : List Claim) (x : At) → Placed c (plain site s rest) behind → Loops b.within b.method behind → AreFactsOf c fs
      → Accepts c (loops_round behind) (plain site s rest) fs (Ended b.within b.method behind) → LeadsTo R shape b s site rest behind fs x → Stands x
  leads (break_from w) site rest behind fs x placed loops facts accepts h =
      let l = marker-accepted w behind h.0 h.1 loops in
      let pm : PlacedMarker c h.0.site h.0.head h.0.body h.0.rest h.0.behind = placed-marker c w (plain site (break_from w) rest) behind h.0 h.1 placed in
      let pl : PlacedLoop c h.0.site h.0.head h.0.body h.0.rest h.0.behind = marker-loop c h.0.site h.0.head h.0.body h.0.rest h.0.behind pm in
      stands-knowing h.0.rest h.0.behind (behind_loop h.0.head) x h.2 pl.after l.1 l.0.after
  leads (continue_in w) site rest behind fs x placed loops facts accepts h =
      let l = marker-accepted w behind h.0 h.1 loops in
      let pm : PlacedMarker c h.0.site h.0.head h.0.body h.0.rest h.0.behind = placed-marker c w (plain site (continue_in w) rest) behind h.0 h.1 placed in
      stands-before end (again h.0.site h.0.head h.0.body h.0.rest h.0.behind) fs x h.3 (marker-end c h.0.site h.0.head h.0.body h.0.rest h.0.behind pm) l facts (site.at, h.2)
  leads (assign target op v) site rest behind fs x placed loops facts accepts h = stands-knowing rest behind (known_behind fs (assign target op v)) x h (placed-rest c site (assign target op v) rest behind placed) loops accepts.1
  leads (await at target a call) site rest behind fs x placed loops facts accepts h = stands-knowing rest behind (known_behind fs (await at target a call)) x h (placed-rest c site (await at target a call) rest behind placed) loops accepts.1
  leads (perform at target call) site rest behind fs x placed loops facts accepts h = stands-knowing rest behind (known_behind fs (perform at target call)) x h (placed-rest c site (perform at target call) rest behind placed) loops accepts.1
  leads (invoke at target keep mark called vs) site rest behind fs x placed loops facts accepts h = stands-knowing rest behind (known_behind fs (invoke at target keep mark called vs)) x h (placed-rest c site (invoke at target keep mark called vs) rest behind placed) loops accepts.1
  leads (give_back v) site rest behind fs x placed loops facts accepts h = absurd h
  leads (yield status) site rest behind fs x placed loops facts accepts h = stands-knowing rest behind (known_behind fs (yield status)) x h (placed-rest c site (yield status) rest behind placed) loops accepts.1
  leads (claim goal by) site rest behind fs x placed loops facts accepts h = stands-knowing rest behind (known_behind fs (claim goal by)) x h (placed-rest c site (claim goal by) rest behind placed) loops accepts.1

  left-resumable : (site : Site) (s : Simple) (rest : Block) (behind : Behind) (fs : List Claim) (left : Remaining) → Placed c (plain site s rest) behind → Loops b.within b.method behind → AreFactsOf c fs
      → Accepts c (loops_round behind) (plain site s rest) fs (Ended b.within b.method behind) → IsLeftAt R shape b site s rest behind fs left → Resumable b.within b.method left
  left-resumable site s rest behind fs left placed loops facts accepts h =
      let P : Behind → Type 0 = λ k. Placed c (plain site s rest) k in
      let Q : Behind → Type 0 = λ k. Loops b.within b.method k in
      let S : Behind → Type 0 = λ k. Accepts c (loops_round k) (plain site s rest) fs (Ended b.within b.method k) in
      record {
        site = site;
        statement = s;
        rest = rest;
        first = h.first;
        started = h.started;
        placed = subst P (sym h.after) placed;
        loops = subst Q (sym h.after) loops;
        list = fs;
        facts = facts;
        accepts = subst S (sym h.after) accepts;
        locals = h.locals;
        known = h.facts;
      }

  ends-left : (site : Site) (s : Simple) (rest : Block) (behind : Behind) (fs : List Claim) → Placed c (plain site s rest) behind → Loops b.within b.method behind → AreFactsOf c fs
      → Accepts c (loops_round behind) (plain site s rest) fs (Ended b.within b.method behind) → (e : Ending × World) → Ends R shape b (IsLeftAt R shape b site s rest behind fs) e → EndsSo e
  ends-left site s rest behind fs placed loops facts accepts (gives v, w) h = h
  ends-left site s rest behind fs placed loops facts accepts (suspends status left, w) h = (h.0, (h.1.0, left-resumable site s rest behind fs left placed loops facts accepts h.1.1))

  module _ (calls : Callees) (turns : ℕ) where
    -- What is asked of the method that the next statement calls.
    abbrev pub NextCalls : Block → World → Type 0
    NextCalls (plain site s rest) w = CalleesRun calls b.within R shape s turns w
    NextCalls block w = Unit {0}

    statement-keeps : (site : Site) (s : Simple) (rest : Block) (done : Done) (behind : Behind) (vars : Vars) (x : Stands (record { done = done; block = plain site s rest; behind = behind; vars = vars }))
        → CalleesRun calls b.within R shape s turns vars.world → ComesTo Stands EndsSo (step b calls turns (record { done = done; block = plain site s rest; behind = behind; vars = vars }))
    statement-keeps site s rest done behind vars x runs =
        let on : hands_on_well s ≡ true = (and_parts (hands_on_well s) _ x.placed.made).0 in
        comes-map (LeadsTo R shape b s site rest behind x.list) Stands (Ends R shape b (IsLeftAt R shape b site s rest behind x.list)) EndsSo _ (λ y h. leads s site rest behind x.list y x.placed x.loops x.facts x.accepts h) (ends-left site s rest behind x.list x.placed x.loops x.facts x.accepts)
        (statement-law R shape b calls turns done site rest behind vars x.list x.facts s (running-at (plain site s rest) behind vars x.lawful x.placed) on x.accepts.0 x.reached runs)

    -- An `if`.
    if-keeps : (site : Site) (chained : Bool) (t : CondTree) (x y rest : Block) (behind : Behind) (vars : Vars) (here : Stands (at_block (choose site chained t x y rest) behind vars))
        → ComesTo Stands EndsSo (step b calls turns (at_block (choose site chained t x y rest) behind vars))
    unfolding step
    if-keeps site chained t x y rest behind vars here =
        let pl : PlacedIf c t x y rest behind = placed-if c site chained t x y rest behind here.placed in
        let known = here.reached.1 in
        let v : SoundCond c (state_of b vars) (lawful-view R shape b vars here.lawful) here.list here.facts.well known t = cond-sound c (state_of b vars) (lawful-view R shape b vars here.lawful) here.list here.facts.well known t pl.cond here.accepts.0 in
        goes-with (ComesTo Stands EndsSo) (truth_of (state_of b vars) t) v.answer (chosen x y rest behind vars) v.is (by v.answer v.is pl known here.accepts.1.1)
      where
        joins : (k : Known) → After k (λ gs. AreFactsOf c gs × Accepts c (loops_round behind) rest gs (Ended b.within b.method behind)) → (es : List Claim) → Joins es k → Ended b.within b.method (behind_if rest behind) es
        joins None a es j = absurd j
        joins (Some gs) a es j = (gs, j, a.0, a.1)

        by : (answer : Bool) → truth_of (state_of b vars) t ≡ Some answer → PlacedIf c t x y rest behind → AllTrue (state_of b vars) here.list
            → (k : Known) × Accepts c (loops_round behind) x (with_condition here.list t true) (λ es. Joins es k) × Accepts c (loops_round behind) y (with_condition here.list t false) (λ es. Joins es k)
            × After k (λ gs. AreFactsOf c gs × Accepts c (loops_round behind) rest gs (Ended b.within b.method behind))
            → ComesTo Stands EndsSo (chosen x y rest behind vars answer)
        by true e pl known a = record {
          lawful = here.lawful;
          placed = pl.first;
          loops = here.loops;
          list = with_condition here.list t true;
          facts = here.accepts.1.0.0;
          accepts = accepts-less c (loops_round behind) x (with_condition here.list t true) (λ es. Joins es a.0) (Ended b.within b.method (behind_if rest behind)) (joins a.0 a.3) a.1;
          reached = afresh-reached x vars (with_condition here.list t true) (with_condition-true (state_of b vars) here.list t true known e);
        }
        by false e pl known a = record {
          lawful = here.lawful;
          placed = pl.other;
          loops = here.loops;
          list = with_condition here.list t false;
          facts = here.accepts.1.0.1;
          accepts = accepts-less c (loops_round behind) y (with_condition here.list t false) (λ es. Joins es a.0) (Ended b.within b.method (behind_if rest behind)) (joins a.0 a.3) a.2;
          reached = afresh-reached y vars (with_condition here.list t false) (with_condition-true (state_of b vars) here.list t false known e);
        }

    -- The test of a loop's condition.
    test-keeps : (site : Site) (head : Head) (body rest : Block) (behind : Behind) → PlacedLoop c site head body rest behind → LoopAccepted b.within b.method site head body rest behind → Loops b.within b.method behind
        → (y : At) → Tests R shape b site head body rest behind y → Stands y
    test-keeps site head body rest behind pl l ls y (inl h) =
        stands-before body (again site head body rest behind) (body_list (head_list head) head) y h pl.inner (l, ls) l.facts
        (accepts-less c ((site.number, head) ∷ loops_round behind) body (body_list (head_list head) head) (λ es. way_back_refusal es head.close head ≡ None) (Ended b.within b.method (again site head body rest behind)) (λ es e. (head.close, e)) l.inner)
    test-keeps site head body rest behind pl l ls y (inr h) = stands-knowing rest behind (behind_loop head) y h pl.after ls l.after

    loop-keeps : (site : Site) (head : Head) (body rest : Block) (behind : Behind) (vars : Vars) (here : Stands (at_block (loop site head body rest) behind vars)) → ComesTo Stands EndsSo (step b calls turns (at_block (loop site head body rest) behind vars))
    unfolding step
    loop-keeps site head body rest behind vars here =
        let pl : PlacedLoop c site head body rest behind = placed-loop c site head body rest behind here.placed in
        let q = neither (entry_refusal here.list site.at head) _ here.accepts.0 in
        let l : LoopAccepted b.within b.method site head body rest behind = record { test = q.1; facts = here.accepts.1.0; inner = here.accepts.1.1.0; after = here.accepts.1.1.1 } in
        comes-map (Tests R shape b site head body rest behind) Stands EndsSo EndsSo _ (test-keeps site head body rest behind pl l here.loops) (λ e h. h)
        (loop-step R shape b vars here.lawful site head body rest behind here.list EndsSo here.facts.well here.reached.1 pl.head_well here.accepts.0)

    end-keeps : (behind : Behind) (vars : Vars) (here : Stands (at_block end behind vars)) → ComesTo Stands EndsSo (step b calls turns (at_block end behind vars))
    unfolding step
    end-keeps stop vars here = end-step R shape b vars Stands (Resumable b.within b.method) turns here.lawful here.accepts
    end-keeps (behind_if rest behind) vars here =
        let a = here.accepts in
        record {
          lawful = here.lawful;
          placed = placed-join c rest behind here.placed;
          loops = here.loops;
          list = a.0;
          facts = a.2;
          accepts = a.3;
          reached = afresh-reached rest vars a.0 (a.1 (state_of b vars) here.reached.1);
        }
    end-keeps (again site head body rest behind) vars here =
        let pm : PlacedMarker c site head body rest behind = end-marker c site head body rest behind here.placed in
        let pl : PlacedLoop c site head body rest behind = marker-loop c site head body rest behind pm in
        comes-map (Tests R shape b site head body rest behind) Stands EndsSo EndsSo _ (test-keeps site head body rest behind pl here.loops.0 here.loops.1) (λ e h. h)
        (back-step R shape b vars here.lawful turns site head body rest behind here.list here.accepts.0 EndsSo here.facts.well here.reached.1 pl.head_well here.loops.0.test here.accepts.1)

    -- Every step.
    pub step-keeps : (x : At) → Stands x → NextCalls x.block x.vars.world → ComesTo Stands EndsSo (step b calls turns x)
    step-keeps x h runs = by x.done x.block x.behind x.vars h runs
      where
        done_is : (done : Done) (block : Block) (behind : Behind) (vars : Vars) → done ≡ untouched → ComesTo Stands EndsSo (step b calls turns (at_block block behind vars)) → ComesTo Stands EndsSo (step b calls turns (record { done = done; block = block; behind = behind; vars = vars }))
        done_is done block behind vars e h = let P : Done → Type 0 = λ d. ComesTo Stands EndsSo (step b calls turns (record { done = d; block = block; behind = behind; vars = vars })) in subst P (sym e) h

        anew : (done : Done) (block : Block) (behind : Behind) (vars : Vars) → done ≡ untouched → Stands (record { done = done; block = block; behind = behind; vars = vars }) → Stands (at_block block behind vars)
        anew done block behind vars e h = let P : Done → Type 0 = λ d. Stands (record { done = d; block = block; behind = behind; vars = vars }) in subst P e h

        by : (done : Done) (block : Block) (behind : Behind) (vars : Vars) → Stands (record { done = done; block = block; behind = behind; vars = vars }) → NextCalls block vars.world
            → ComesTo Stands EndsSo (step b calls turns (record { done = done; block = block; behind = behind; vars = vars }))
        by done (plain site s rest) behind vars h runs = statement-keeps site s rest done behind vars h runs
        by done end behind vars h runs = done_is done end behind vars h.reached.0 (end-keeps behind vars (anew done end behind vars h.reached.0 h))
        by done (choose site chained t x y rest) behind vars h runs = done_is done (choose site chained t x y rest) behind vars h.reached.0 (if-keeps site chained t x y rest behind vars (anew done (choose site chained t x y rest) behind vars h.reached.0 h))
        by done (loop site head body rest) behind vars h runs = done_is done (loop site head body rest) behind vars h.reached.0 (loop-keeps site head body rest behind vars (anew done (loop site head body rest) behind vars h.reached.0 h))
