-- The search for the point at a place.
use Rattle.std.proofs.Common.{◌≡◌, ℕ, zero, suc, ◌+◌, ◌<◌, ◌≤◌, Bool, true, false, ◌&&◌, List, [], ◌∷◌, drop, get_or, length, Option, Some, None, inl, inr, refl, sym, ap, ◌∙◌, subst, arith}
use Rattle.std.specs.Prelude.{nat_eq, if◌then◌else◌}
use Rattle.std.proofs.lemmas.List.{drop_all}
use Rattle.turns.specs.Run.{Outcome}
use Rattle.wf_text.specs.declared.place.Place.{Place}
use Rattle.wf_ast.specs.declared.numbers.StmtId.{StmtId}
use Rattle.wf_ast.specs.declared.typed_code.Arm.{Arm}
use Rattle.wf_ast.specs.declared.typed_code.Block as typed_code
use Rattle.wf_ast.specs.declared.typed_nodes.TypedNodes.{TypedNodes}
use Rattle.wf_ast.specs.TypedTree.{CondTree, Simple, Site, Head, Block, end, plain, choose, loop}
use Rattle.wf_ast.specs.TypedTrees.{cond_in, if_made, onto, otherwise_made, stmt_makers, tree_of}
use Rattle.wf_meaning.specs.SourceState.{Behind, behind_if, again, stop, Done}
use Rattle.wf_meaning.specs.Remaining.{Items, first, is_point}
use Rattle.wf_meaning.specs.World.{World}
use Rattle.wf_meaning.specs.SourceStep.{Ending}
use Rattle.wf_mean_exprs.specs.MachineState.{same_place, standing_at}
use Rattle.wf_mean_stmts.specs.declared.stage.Stage.{Stage}
use Rattle.wf_mean_flows.specs.declared.flows.Flow.{Flow}
use Rattle.wf_mean_flows.specs.declared.flows.Flow.TheVariants.{Falls, Breaks, Continues, Returns, Suspends, Out, Stuck}
use Rattle.wf_mean_flows.specs.declared.looping.Round.{Round}
use Rattle.wf_mean_flows.specs.declared.looping.Round.TheVariants.{Again, Ends}
use Rattle.wf_mean_flows.specs.Flows.{Flows, Runs, RunsBlock, RunsRounds, Sought, StandsIn, block_made_of, made_of, place_of, run_on, site_of}
use Rattle.wf_mean_flows.specs.Loops.{Rounds}
use Rattle.wf_mean_flows.proofs.RunLaws.{out_of_if}
use Rattle.wf_mean_runs.specs.Frames.{is_falls}
use Rattle.wf_mean_runs.specs.Seeking.{SoughtBlock, SoughtIn}
use Rattle.wf_mean_runs.proofs.BlockLaws.{falls_is, passes}

told : (b : Bool) → nat_eq (if b then 1 else 0) 1 ≡ b
told true = refl
told false = refl

chosen : (p b : Bool) (here other : Option Items) → (p && b) ≡ false → (if p && nat_eq (if b then 1 else 0) 1 then here else other) ≡ other
chosen true b here other h = rw (told b, h) refl
chosen false b here other h = refl

met : (p b : Bool) (here other : Option Items) → p ≡ true → b ≡ true → (if p && nat_eq (if b then 1 else 0) 1 then here else other) ≡ here
met p b here other h k = rw (h, k) refl

-- A flow from the same outcome, through more of the block.
pub grows : (nodes : TypedNodes) (level : ℕ) (part part' rest : Block) (behind : Behind) (flow : Flow) (stage : Stage) (o o' : Outcome (Ending × World)) → o' ≡ o
    → ((at : Place) (items : Items) → StandsIn at items part behind → StandsIn at items part' behind)
    → Flows nodes level part rest behind flow stage o → Flows nodes level part' rest behind flow stage o'
grows nodes level part part' rest behind Falls stage o o' e stands h = e ∙ h
grows nodes level part part' rest behind (Breaks w) stage o o' e stands h = e ∙ h
grows nodes level part part' rest behind (Continues w) stage o o' e stands h = e ∙ h
grows nodes level part part' rest behind (Returns v) stage o o' e stands h = e ∙ h
grows nodes level part part' rest behind (Suspends status at done) stage o o' e stands h = (h.0, stands at h.0 h.1, e ∙ h.2)
grows nodes level part part' rest behind Out stage o o' e stands h = e ∙ h
grows nodes level part part' rest behind Stuck stage o o' e stands h = e ∙ h

module _ (nodes : TypedNodes) (level : ℕ) (at : Place) (done : Done) (old : Stage) where
  -- A statement by itself that isn't the point.
  pub not_here : (part : Block → Block) (site : Site) (st : Simple) → ((rest : Block) → part rest ≡ plain site st rest) → (is_point st && same_place site.at at) ≡ false
      → SoughtIn nodes level at done part old None old
  not_here part site st made off = λ rest behind.
      (ap (λ b. standing_at at b behind) (made rest) ∙ chosen (is_point st) (same_place site.at at) (Some (record { block = plain site st rest; behind = behind })) (standing_at at rest behind) off, refl)

  -- The point itself.
  pub is_here : (part : Block → Block) (site : Site) (st : Simple) (flow : Flow) (new : Stage) → ((rest : Block) → part rest ≡ plain site st rest) → is_point st ≡ true → same_place site.at at ≡ true
      → Runs nodes level part done old new flow → SoughtIn nodes level at done part old (Some flow) new
  is_here part site st flow new made point same runs = λ rest behind.
      let P : Block → Type 0 = λ b. Flows nodes level (part rest) rest behind flow new (run_on nodes level old done b behind) in (
        record { block = plain site st rest; behind = behind },
        ap (λ b. standing_at at b behind) (made rest) ∙ met (is_point st) (same_place site.at at) (Some (record { block = plain site st rest; behind = behind })) (standing_at at rest behind) point same,
        subst P (made rest) (runs rest behind),
      )

  -- Blocks. The statements before `s` hold no such point.
  module _ (ss : List StmtId) (i : ℕ) (s : StmtId) (first_is : block_made_of nodes (drop i ss) ≡ made_of nodes s (block_made_of nodes (drop (i + 1) ss)))
      (so_far : (behind : Behind) → standing_at at (block_made_of nodes ss) behind ≡ standing_at at (block_made_of nodes (drop i ss)) behind) where
    abbrev pub rest : Block
    rest = block_made_of nodes (drop (i + 1) ss)

    here : (behind : Behind) → standing_at at (block_made_of nodes ss) behind ≡ standing_at at (made_of nodes s rest) behind
    here behind = so_far behind ∙ ap (λ b. standing_at at b behind) first_is

    pub not_in_one : (new : Stage) → SoughtIn nodes level at done (made_of nodes s) old None new → (behind : Behind) → standing_at at (block_made_of nodes ss) behind ≡ standing_at at (block_made_of nodes (drop (i + 1) ss)) behind
    not_in_one new one behind = here behind ∙ (one rest behind).0

    module _ (stands : (at : Place) (items : Items) (behind : Behind) → StandsIn at items (block_made_of nodes (drop i ss)) behind → StandsIn at items (block_made_of nodes ss) behind) (flow : Flow) (mid : Stage)
        (one : SoughtIn nodes level at done (made_of nodes s) old (Some flow) mid) where
      stands_one : (at : Place) (items : Items) (behind : Behind) → StandsIn at items (made_of nodes s rest) behind → StandsIn at items (block_made_of nodes ss) behind
      stands_one at items behind h = let Q : Block → Type 0 = λ b. StandsIn at items b behind in stands at items behind (subst Q (sym first_is) h)

      pub leaves_there : is_falls flow ≡ false → SoughtBlock nodes level at done (block_made_of nodes ss) old (Some flow) mid
      leaves_there off = λ behind.
          let k = one rest behind in
          (k.0, here behind ∙ k.1, passes nodes level (made_of nodes s rest) rest (block_made_of nodes ss) end behind flow mid _ _ off refl (λ at items h. stands_one at items behind h) k.2)

      pub goes_on_there : is_falls flow ≡ true → (after : Flow) (new : Stage) → ((at : Place) (items : Items) (behind : Behind) → StandsIn at items rest behind → StandsIn at items (block_made_of nodes ss) behind)
          → RunsBlock nodes level rest mid new after → SoughtBlock nodes level at done (block_made_of nodes ss) old (Some after) new
      goes_on_there on after new stands_rest runs = λ behind.
          let k = one rest behind in
          let F : Flow → Type 0 = λ f. Flows nodes level (made_of nodes s rest) rest behind f mid (run_on nodes level old done k.0.block k.0.behind) in
          (k.0, here behind ∙ k.1, grows nodes level rest (block_made_of nodes ss) end behind after new _ _ (subst F (falls_is flow on) k.2) (λ at items h. stands_rest at items behind h) (runs behind))

  -- Branches.
  first_none : (o other : Option Items) → o ≡ None → first o other ≡ other
  first_none o other h = rw h refl

  first_some : (o other : Option Items) (items : Items) → o ≡ Some items → first o other ≡ Some items
  first_some o other items h = rw h refl

  module _ (site : Site) (chained : Bool) (cond : CondTree) (a c : Block) where
    pub in_then : (flow : Flow) (new : Stage) → SoughtBlock nodes level at done a old (Some flow) new → SoughtIn nodes level at done (λ rest. choose site chained cond a c rest) old (Some flow) new
    in_then flow new one = λ rest behind.
        let k = one (behind_if rest behind) in (
          k.0,
          first_some (standing_at at a (behind_if rest behind)) _ k.0 k.1,
          out_of_if nodes level a (choose site chained cond a c rest) rest behind flow new _ (λ at items h. inl h) k.2,
        )

    pub in_else : (flow : Flow) (mid new : Stage) → SoughtBlock nodes level at done a old None mid → SoughtBlock nodes level at done c old (Some flow) new
        → SoughtIn nodes level at done (λ rest. choose site chained cond a c rest) old (Some flow) new
    in_else flow mid new none one = λ rest behind.
        let k = one (behind_if rest behind) in (
          k.0,
          first_none (standing_at at a (behind_if rest behind)) _ (none (behind_if rest behind)).0 ∙ first_some (standing_at at c (behind_if rest behind)) _ k.0 k.1,
          out_of_if nodes level c (choose site chained cond a c rest) rest behind flow new _ (λ at items h. inr (inl h)) k.2,
        )

    pub in_neither : (mid new : Stage) → SoughtBlock nodes level at done a old None mid → SoughtBlock nodes level at done c old None new
        → SoughtIn nodes level at done (λ rest. choose site chained cond a c rest) old None new
    in_neither mid new none one = λ rest behind.
        (first_none (standing_at at a (behind_if rest behind)) _ (none (behind_if rest behind)).0 ∙ first_none (standing_at at c (behind_if rest behind)) _ (one (behind_if rest behind)).0, (one (behind_if rest behind)).1)

  -- Loops.
  module _ (site : Site) (head : Head) (body : Block) where
    pub not_inside : (new : Stage) → SoughtBlock nodes level at done body old None new → SoughtIn nodes level at done (λ rest. loop site head body rest) old None new
    not_inside new none = λ rest behind. (first_none (standing_at at body (again site head body rest behind)) _ (none (again site head body rest behind)).0, (none (again site head body rest behind)).1)

    module _ (flow : Flow) (mid new : Stage) (round : Round) (one : SoughtBlock nodes level at done body old (Some flow) mid)
        (closed : (rest : Block) (behind : Behind) (o : Outcome (Ending × World)) → Flows nodes level body end (again site head body rest behind) flow mid o → Rounds nodes level site head body rest behind mid new round o) where
      pub inside_ends : (f : Flow) → round ≡ Ends f → SoughtIn nodes level at done (λ rest. loop site head body rest) old (Some f) new
      inside_ends f is = λ rest behind.
          let k = one (again site head body rest behind) in
          let P : Round → Type 0 = λ r. Rounds nodes level site head body rest behind mid new r (run_on nodes level old done k.0.block k.0.behind) in
          (k.0, first_some (standing_at at body (again site head body rest behind)) _ k.0 k.1, subst P is (closed rest behind _ k.2))

      pub inside_again : round ≡ Again → (f : Flow) (last : Stage) → RunsRounds nodes level site head body new last f → SoughtIn nodes level at done (λ rest. loop site head body rest) old (Some f) last
      inside_again is f last runs = λ rest behind.
          let k = one (again site head body rest behind) in
          let P : Round → Type 0 = λ r. Rounds nodes level site head body rest behind mid new r (run_on nodes level old done k.0.block k.0.behind) in
          let Q : Outcome (Ending × World) → Type 0 = λ o. Flows nodes level (loop site head body rest) rest behind f last o in
          (k.0, first_some (standing_at at body (again site head body rest behind)) _ k.0 k.1, subst Q (sym (subst P is (closed rest behind _ k.2)).0) (runs rest behind))

-- A part that makes the same of what follows.
pub sought_like : (nodes : TypedNodes) (level : ℕ) (at : Place) (done : Done) (part like : Block → Block) (old new : Stage) (found : Option Flow) → ((rest : Block) → part rest ≡ like rest)
    → SoughtIn nodes level at done like old found new → SoughtIn nodes level at done part old found new
sought_like nodes level at done part like old new found same h = λ rest behind.
    let P : Block → Type 0 = λ b. Sought nodes level at done b rest behind old found new in
    subst P (sym (same rest)) (h rest behind)

and_false : (p : Bool) → (p && false) ≡ false
and_false true = refl
and_false false = refl

module _ (nodes : TypedNodes) (level : ℕ) (at : Place) (done : Done) (old : Stage) (s : StmtId) where
  -- A statement by itself that may be a point.
  module _ (st : Simple) (made : (rest : Block) → made_of nodes s rest ≡ plain (site_of nodes s) st rest) where
    pub no_point : (p : Bool) → false ≡ p → is_point st ≡ p → SoughtIn nodes level at done (made_of nodes s) old None old
    no_point p f e = not_here nodes level at done old (made_of nodes s) (site_of nodes s) st made (ap (λ b. b && same_place (place_of nodes s.0) at) (e ∙ sym f))

    pub elsewhere : false ≡ same_place (place_of nodes s.0) at → SoughtIn nodes level at done (made_of nodes s) old None old
    elsewhere f = not_here nodes level at done old (made_of nodes s) (site_of nodes s) st made (ap (λ b. is_point st && b) (sym f) ∙ and_false (is_point st))

-- The arms of an `if`, the first one and those from a number on.
pub if_first : (nodes : TypedNodes) (site : Site) (arms : List Arm) (d : Arm) (other : Option typed_code.Block) (rest : Block) → 0 < length arms
    → if_made (tree_of nodes) (onto (stmt_makers nodes)) site arms other rest ≡ choose site false (cond_in (tree_of nodes (get_or arms 0 d).cond)) (block_made_of nodes (get_or arms 0 d).body.items) (otherwise_made (tree_of nodes) (onto (stmt_makers nodes)) site (drop 1 arms) other) rest
if_first nodes site [] d other rest h = absurd (omega (arith, h))
if_first nodes site (arm ∷ arms) d other rest h = refl

pub arms_first : (nodes : TypedNodes) (site : Site) (arms : List Arm) (i : ℕ) (d : Arm) (other : Option typed_code.Block) → i < length arms
    → otherwise_made (tree_of nodes) (onto (stmt_makers nodes)) site (drop i arms) other ≡ choose site true (cond_in (tree_of nodes (get_or arms i d).cond)) (block_made_of nodes (get_or arms i d).body.items) (otherwise_made (tree_of nodes) (onto (stmt_makers nodes)) site (drop (i + 1) arms) other) end
arms_first nodes site [] i d other h = absurd (omega (arith, h))
arms_first nodes site (arm ∷ arms) zero d other h = refl
arms_first nodes site (arm ∷ arms) (suc i) d other h =
    let e : suc i + 1 ≡ suc (i + 1) = omega arith in
    let one = get_or arms i d in
    arms_first nodes site arms i d other (omega (arith, h)) ∙ ap (λ j. choose site true (cond_in (tree_of nodes one.cond)) (block_made_of nodes one.body.items) (otherwise_made (tree_of nodes) (onto (stmt_makers nodes)) site (drop j (arm ∷ arms)) other) end) (sym e)

-- What follows an arm that holds no such point.
past_arm : (nodes : TypedNodes) (level : ℕ) (at : Place) (done : Done) (old mid new : Stage) (site : Site) (chained : Bool) (cond : CondTree) (a c : Block) (found : Option Flow)
    → SoughtBlock nodes level at done a old None mid → SoughtBlock nodes level at done c old found new → SoughtIn nodes level at done (λ rest. choose site chained cond a c rest) old found new
past_arm nodes level at done old mid new site chained cond a c None none one = in_neither nodes level at done old site chained cond a c mid new none one
past_arm nodes level at done old mid new site chained cond a c (Some flow) none one = in_else nodes level at done old site chained cond a c flow mid new none one

pub in_rest : (nodes : TypedNodes) (level level' : ℕ) (at : Place) (done : Done) (old mid new : Stage) (site : Site) (chained : Bool) (cond : CondTree) (a c : Block) (found : Option Flow) → level' ≡ level
    → SoughtBlock nodes level at done a old None mid → SoughtBlock nodes level' at done c mid found new → SoughtIn nodes level at done (λ rest. choose site chained cond a c rest) old found new
in_rest nodes level level' at done old mid new site chained cond a c found same none one =
    let L : ℕ → Type 0 = λ l. SoughtBlock nodes l at done c mid found new in
    let S : Stage → Type 0 = λ x. SoughtBlock nodes level at done c x found new in
    past_arm nodes level at done old mid new site chained cond a c found none (subst S (none stop).1 (subst L same one))

-- The arms of an `if` from the number `i` on, which isn't the first's, and what stands after the last `else`.
module _ (nodes : TypedNodes) (level : ℕ) (at : Place) (done : Done) (old : Stage) (site : Site) (arms : List Arm) (other : Option typed_code.Block) where
  abbrev pub from_arm : ℕ → Block
  from_arm i = otherwise_made (tree_of nodes) (onto (stmt_makers nodes)) site (drop i arms) other

  pub in_arm : (i : ℕ) (d : Arm) (flow : Flow) (new : Stage) → i < length arms → SoughtBlock nodes level at done (block_made_of nodes (get_or arms i d).body.items) old (Some flow) new
      → SoughtBlock nodes level at done (from_arm i) old (Some flow) new
  in_arm i d flow new less one =
      let arm = get_or arms i d in
      let P : Block → Type 0 = λ b. SoughtBlock nodes level at done b old (Some flow) new in
      subst P (sym (arms_first nodes site arms i d other less)) (λ behind. in_then nodes level at done old site true (cond_in (tree_of nodes arm.cond)) (block_made_of nodes arm.body.items) (from_arm (i + 1)) flow new one end behind)

  pub after_arm : (i : ℕ) (d : Arm) (mid : Stage) → i < length arms → SoughtBlock nodes level at done (block_made_of nodes (get_or arms i d).body.items) old None mid
      → (found : Option Flow) (new : Stage) → SoughtBlock nodes level at done (from_arm (i + 1)) old found new → SoughtBlock nodes level at done (from_arm i) old found new
  after_arm i d mid less none found new one =
      let arm = get_or arms i d in
      let P : Block → Type 0 = λ b. SoughtBlock nodes level at done b old found new in
      subst P (sym (arms_first nodes site arms i d other less)) (λ behind. past_arm nodes level at done old mid new site true (cond_in (tree_of nodes arm.cond)) (block_made_of nodes arm.body.items) (from_arm (i + 1)) found none one end behind)

  past_arms : (i : ℕ) (o : Option typed_code.Block) → length arms ≤ i → other ≡ o → from_arm i ≡ otherwise_made (tree_of nodes) (onto (stmt_makers nodes)) site [] o
  past_arms i o h e = ap (λ xs. otherwise_made (tree_of nodes) (onto (stmt_makers nodes)) site xs other) (drop_all i arms h) ∙ ap (λ x. otherwise_made (tree_of nodes) (onto (stmt_makers nodes)) site [] x) e

  pub no_else : (i : ℕ) (new : Stage) → length arms ≤ i → other ≡ None → new ≡ old → SoughtBlock nodes level at done (from_arm i) old None new
  no_else i new h e same =
      let P : Block → Type 0 = λ b. SoughtBlock nodes level at done b old None new in
      subst P (sym (past_arms i None h e)) (λ behind. (refl, same))

  pub in_last : (i : ℕ) (block : typed_code.Block) (found : Option Flow) (new : Stage) → length arms ≤ i → other ≡ Some block → SoughtBlock nodes level at done (block_made_of nodes block.items) old found new
      → SoughtBlock nodes level at done (from_arm i) old found new
  in_last i block found new h e one =
      let P : Block → Type 0 = λ b. SoughtBlock nodes level at done b old found new in
      subst P (sym (past_arms i (Some block) h e)) one

-- The same on as many frames and on the same stage.
pub moved : (nodes : TypedNodes) (level level' : ℕ) (at : Place) (done : Done) (part : Block → Block) (old old' : Stage) (found : Option Flow) (new : Stage) → level' ≡ level → old' ≡ old
    → SoughtIn nodes level' at done part old' found new → SoughtIn nodes level at done part old found new
moved nodes level level' at done part old old' found new l e h =
    let L : ℕ → Type 0 = λ k. SoughtIn nodes k at done part old' found new in
    let S : Stage → Type 0 = λ x. SoughtIn nodes level at done part x found new in
    subst S e (subst L l h)

pub block_moved : (nodes : TypedNodes) (level level' : ℕ) (at : Place) (done : Done) (block : Block) (old old' : Stage) (found : Option Flow) (new : Stage) → level' ≡ level → old' ≡ old
    → SoughtBlock nodes level' at done block old' found new → SoughtBlock nodes level at done block old found new
block_moved nodes level level' at done block old old' found new l e h =
    let L : ℕ → Type 0 = λ k. SoughtBlock nodes k at done block old' found new in
    let S : Stage → Type 0 = λ x. SoughtBlock nodes level at done block x found new in
    subst S e (subst L l h)

pub run_moved : (nodes : TypedNodes) (level level' : ℕ) (block : Block) (old new : Stage) (flow : Flow) → level' ≡ level → RunsBlock nodes level' block old new flow → RunsBlock nodes level block old new flow
run_moved nodes level level' block old new flow l h = let L : ℕ → Type 0 = λ k. RunsBlock nodes k block old new flow in subst L l h

pub rounds_moved : (nodes : TypedNodes) (level level' : ℕ) (site : Site) (head : Head) (body : Block) (old new : Stage) (flow : Flow) → level' ≡ level → RunsRounds nodes level' site head body old new flow → RunsRounds nodes level site head body old new flow
rounds_moved nodes level level' site head body old new flow l h = let L : ℕ → Type 0 = λ k. RunsRounds nodes k site head body old new flow in subst L l h
