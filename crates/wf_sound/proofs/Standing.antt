-- The laws of the steps that meet no statement without blocks.
use Rattle.std.proofs.Common.{◌≡◌, ℕ, Bool, true, false, ◌&&◌, List, [], ◌∷◌, map, Some, None, refl, sym, subst}
use Rattle.std.specs.Prelude.{slice_get}
use Rattle.std.specs.List.{list_all}
use Rattle.std.proofs.lemmas.Bool.{and_parts}
use Rattle.wf_text.specs.declared.place.Place.{Place}
use Rattle.wf_ast.specs.TypedTree.{CondTree, Site, Head, Block, end, choose, loop}
use Rattle.wf_ast.specs.WellTyped.{well_cond, well_block}
use Rattle.wf_facts_exprs.specs.Claims.{Claim, AllTrue}
use Rattle.wf_loops.specs.LoopRules.{entry_refusal, way_back_refusal}
use Rattle.wf_loops.specs.LoopLaws.{well_head}
use Rattle.wf_meaning.specs.SourceState.{Behind, stop, behind_if, again, Remaining}
use Rattle.wf_meaning.specs.World.{Body, Vars}
use Rattle.wf_meaning.specs.SourceStep.{Callees, state_of, at_block, step}
use Rattle.wf_bounds_stmts.specs.Statements.{branches, repeated}
use Rattle.wf_bounds_stmts.specs.FactRules.{Known, statement_refusal, ends_refusal, ways_back_refusal, merged}
use Rattle.wf_sound.specs.Worlds.{Shape, context_of}
use Rattle.wf_sound.specs.Positions.{loops_round, around, well_here}
use Rattle.wf_sound.specs.OneStep.{ComesTo, StandsKnowing, Ends, NeverLeft, Chooses, Tests, IsRunning, AreFactsOf, AreKnown}
use Rattle.wf_sound.proofs.HandedValues.{neither}
use Rattle.wf_sound.proofs.ControlSteps.{loop-step, back-step, if-step}
use Rattle.wf_sound.proofs.EndSteps.{end-step}
use Rattle.wf_sound.proofs.BranchEnds.{merged-true}

module _ (R : (method : ℕ) → Remaining → Type 0) (shape : Shape) (b : Body) (calls : Callees) (turns : ℕ) where
  both : (p q : Bool) → p ≡ true → q ≡ true → (p && q) ≡ true
  both true q h k = k
  both false q h k = absurd (cc (h))

  pub loop-law : (site : Site) (head : Head) (body rest : Block) (behind : Behind) (vars : Vars) (fs : List Claim) → IsRunning R shape b (loop site head body rest) behind vars → AreFactsOf (context_of b) fs → AllTrue (state_of b vars) fs
      → statement_refusal (around b behind) fs site (repeated head) ≡ None
      → ComesTo (Tests R shape b site head body rest behind) (Ends R shape b (NeverLeft R shape b)) (step b calls turns (at_block (loop site head body rest) behind vars))
  unfolding step
  loop-law site head body rest behind vars fs running facts known e =
      let p = and_parts (well_here (context_of b) (loop site head body rest) behind) _ running.well in
      let q = and_parts (well_block (context_of b) (map (λ l. l.0) (loops_round behind)) (loop site head body rest)) _ p.0 in
      let r = and_parts (well_cond (context_of b) head.cond) _ q.0 in
      let t = and_parts (list_all (λ p. well_cond (context_of b) p.1) head.clauses) _ r.1 in
      loop-step R shape b vars running.lawful site head body rest behind fs (Ends R shape b (NeverLeft R shape b)) facts.well known (both (well_cond (context_of b) head.cond) _ r.0 t.0) e

  pub if-law : (at site : Site) (chained : Bool) (t : CondTree) (cs : List CondTree) (a d rest : Block) (behind : Behind) (vars : Vars) (fs : List Claim) → IsRunning R shape b (choose site chained t a d rest) behind vars
      → AreFactsOf (context_of b) fs → AllTrue (state_of b vars) fs → statement_refusal (around b behind) fs at (branches (t ∷ cs)) ≡ None
      → ComesTo (Chooses R shape b at t cs a d rest behind fs) (Ends R shape b (NeverLeft R shape b)) (step b calls turns (at_block (choose site chained t a d rest) behind vars))
  unfolding step
  if-law at site chained t cs a d rest behind vars fs running facts known e =
      let p = and_parts (well_here (context_of b) (choose site chained t a d rest) behind) _ running.well in
      let q = and_parts (well_block (context_of b) (map (λ l. l.0) (loops_round behind)) (choose site chained t a d rest)) _ p.0 in
      let r = and_parts (well_cond (context_of b) t) _ q.0 in
      if-step R shape b vars running.lawful at t cs a d rest behind fs (Ends R shape b (NeverLeft R shape b)) facts.well known r.0 e

  pub back-law : (site : Site) (head : Head) (body rest : Block) (behind : Behind) (vars : Vars) (before fs : List Claim) (at : Place) → IsRunning R shape b end (again site head body rest behind) vars → AreFactsOf (context_of b) fs → AllTrue (state_of b vars) fs
      → statement_refusal (around b behind) before site (repeated head) ≡ None → way_back_refusal fs at head ≡ None
      → ComesTo (Tests R shape b site head body rest behind) (Ends R shape b (NeverLeft R shape b)) (step b calls turns (at_block end (again site head body rest behind) vars))
  unfolding step
  back-law site head body rest behind vars before fs at running facts known e w =
      let p = and_parts (well_here (context_of b) end (again site head body rest behind)) _ running.well in
      let q = and_parts (well_head (context_of b) head) _ p.1 in
      let r = neither (entry_refusal before site.at head) _ e in
      back-step R shape b vars running.lawful turns site head body rest behind fs at (Ends R shape b (NeverLeft R shape b)) facts.well known q.0 r.1 w

  pub branch-end-law : (cs : List CondTree) (ends : List Known) (i : ℕ) (rest : Block) (behind : Behind) (vars : Vars) (before fs : List Claim) → IsRunning R shape b end (behind_if rest behind) vars → AreKnown (context_of b) ends
      → slice_get ends i ≡ Some (Some fs) → AllTrue (state_of b vars) fs
      → ComesTo (StandsKnowing R shape b rest behind (merged ends)) (Ends R shape b (NeverLeft R shape b)) (step b calls turns (at_block end (behind_if rest behind) vars))
  unfolding step
  branch-end-law cs ends i rest behind vars before fs running all e known =
      let m = merged-true (context_of b) (state_of b vars) ends i fs all e known in
      let P : Known → Type 0 = λ o. StandsKnowing R shape b rest behind o (at_block rest behind vars) in
      let there : P (Some m.0) = record { fresh = refl; first = refl; after = refl; lawful = running.lawful; facts = m.2 } in
      subst P (sym m.1) there

  pub body-end-law : (vars : Vars) → IsRunning R shape b end stop vars → b.method.gives ≡ None → ComesTo (λ x. ⊥) (Ends R shape b (NeverLeft R shape b)) (step b calls turns (at_block end stop vars))
  unfolding step
  body-end-law vars running e = end-step R shape b vars (λ x. ⊥) (NeverLeft R shape b) turns running.lawful e

-- What is asked at the end of a loop's body is what the way back asks there.
pub end-asks : (before fs : List Claim) (site : Site) (head : Head) → ends_refusal before site (repeated head) (Some fs ∷ []) ≡ None → way_back_refusal fs head.close head ≡ None
end-asks before fs site head e =
    let p = neither (ways_back_refusal head (Some fs ∷ [])) _ e in
    (neither (way_back_refusal fs head.close head) _ p.0).0
