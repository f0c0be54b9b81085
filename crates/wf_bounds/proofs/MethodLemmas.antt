-- What walks through methods come to, and the methods of a package one by one.
use Rattle.std.proofs.Common.{◌≡◌, ℕ, zero, suc, ◌+◌, ◌<◌, ◌≤◌, ◌^◌, true, List, [], ◌∷◌, length, map, drop, Option, Some, None, Result, Ok, Err, nat_lt, refl, sym, ap, ◌∙◌, subst, arith}
use Rattle.std.specs.Prelude.{slice_get, unwrap_or}
use Rattle.std.specs.List.{list_all}
use Rattle.std.proofs.Math.ListN.{drop_of_length-le}
use Rattle.std.proofs.lemmas.Bool.Decides.{nat_tests}
use Rattle.wf_text.specs.declared.rules.Refusal.{Refusal}
use Rattle.wf_text.specs.declared.faults.PhaseFault.{PhaseFault}
use Rattle.wf_text.specs.declared.faults.PhaseFault.TheVariants.{Refused, Memory}
use Rattle.wf_ast.specs.declared.numbers.StmtId.{StmtId}
use Rattle.wf_ast.specs.declared.typed_code.Block as typed_code
use Rattle.wf_ast.specs.declared.typed_nodes.TypedNodes.{TypedNodes}
use Rattle.wf_ast.specs.TypedTree.{Block}
use Rattle.wf_ast.specs.TypedTrees.{block_of}
use Rattle.wf_ast.specs.TypedPackage.{MethodTree, PackageTree, package_of}
use Rattle.wf_ast.specs.TypedInvariant.{IsTyped}
use Rattle.wf_ast.specs.WellTyped.{well_block, well_method, well_typed, all_structs_whole, may_be_arg, may_be_local, may_be_result, answers_always}
use Rattle.wf_ast.proofs.Arena.{both_true}
use Rattle.wf_points.proofs.LoopLemmas.{drop_at}
use Rattle.wf_points.proofs.NumberLemmas.{bodied_there, body_known, tree_there, methods_long}
use Rattle.wf_facts_exprs.specs.Claims.{claims_in}
use Rattle.wf_facts_exprs.specs.Demands.{or_else}
use Rattle.wf_facts.specs.IndexedFacts.{FactList, IsOver}
use Rattle.wf_loops.specs.LoopNodes.{Decides}
use Rattle.wf_bounds_stmts.specs.Statements.{body_of}
use Rattle.wf_bounds_stmts.specs.FactRules.{Known}
use Rattle.wf_bounds_stmts.specs.MethodRules.{zero_facts, around_body, through_method, refusal_in, methods_refusal, first_known, front_in_method, front_in_methods, local_at, facts_refusal, facts_in_front}
use Rattle.wf_bounds.specs.declared.ways.Way.{Way}
use Rattle.wf_bounds.specs.declared.ways.Way.TheVariants.{GoesOn, Stops, Found}
use Rattle.wf_bounds.specs.Acceptance.{TellsKnown}
use Rattle.wf_bounds.specs.Walks.{Reached, found, passed, walked_body}
use Rattle.wf_bounds.specs.MethodWalks.{start_facts, walked_method, method_refusal, method_front, refusal_from, front_from, IsReady}
use Rattle.wf_bounds.specs.WalkAnswers.{Comes}
use Rattle.wf_bounds.specs.WalkNodes.{all_loops, no_method, method_at, all_round, walked_at, walked_listed, stmt_stands, block_stands}
use Rattle.wf_bounds.proofs.WalkLaws.{only_passed, found_or, walk_is_through, walk_finds}
use Rattle.wf_bounds.proofs.RoundLemmas.{body_same}
use Rattle.wf_bounds.proofs.StandingLemmas.{all_at, block_more, items_stand}
use Rattle.wf_bounds.proofs.NodeLemmas.{listed}

-- The method with a number keeps the rules of types.
well_body : (p : PackageTree) (m : MethodTree) → well_method p m ≡ true → well_block (record { within = p; method = m }) [] m.body ≡ true
well_body p m h =
    let a = both_true (nat_lt m.of (length p.structs)) _ h in
    let b = both_true (list_all (λ x. may_be_arg x.ty) m.args) _ a.1 in
    let c = both_true (list_all (λ x. may_be_local x.ty) m.locals) _ b.1 in
    let d = both_true (may_be_result m.mark m.gives) _ c.1 in
    let e = both_true (answers_always m.mark m.gives m.body) _ d.1 in
    e.1

methods_well : (p : PackageTree) → well_typed p ≡ true → list_all (well_method p) p.methods ≡ true
unfolding well_typed
methods_well p h =
    let a = both_true (all_structs_whole p 0 p.structs) _ h in
    let b = both_true (list_all (well_method p) p.methods) _ a.1 in
    b.0

lt_word : (s n : ℕ) → s < n → n < 2 ^ 32 → nat_lt s 4294967295 ≡ true
lt_word s n h l = let k : s < 4294967295 = omega (arith, h, l) in grind (arith, nat_tests, k)

-- A walk through a method's body.
module _ (nodes : TypedNodes) (m : ℕ) (ready : IsReady nodes m) (b : typed_code.Block) (is : slice_get nodes.bodies m ≡ Some b) where
  method_there : slice_get (package_of nodes).methods m ≡ Some (method_at nodes m)
  unfolding method_at
  method_there =
      let it = tree_there nodes ready.typed m ready.known in
      it.1 ∙ sym (ap (λ o. Some (unwrap_or o no_method)) it.1)

  pub body_is : (method_at nodes m).body ≡ block_of nodes b
  unfolding method_at
  body_is =
      let it = bodied_there nodes ready.typed m b ready.known is in
      ap (λ o. (unwrap_or o no_method).body) it.1

  well_whole : well_block (all_round nodes m).context [] (block_of nodes b) ≡ true
  well_whole =
      let w = well_body (package_of nodes) (method_at nodes m) (all_at (well_method (package_of nodes)) (package_of nodes).methods m (method_at nodes m) (methods_well (package_of nodes) ready.typed.rules) method_there) in
      let P : Block → Type 0 = λ t. well_block (all_round nodes m).context [] t ≡ true in
      subst P body_is w

  stands_below : list_all (stmt_stands nodes m (length nodes.stmts)) b.items ≡ true
  stands_below =
      items_stand nodes ready.typed m (length nodes.stmts) (omega arith) b.items (body_known nodes ready.typed m b is)
      (block_more (all_round nodes m).context [] (map (λ l. l.0) (all_loops nodes)) (record { by = λ w h. absurd (cc h) }) (block_of nodes b) well_whole)

  pub body_stands : block_stands nodes m 4294967295 b ≡ true
  body_stands = more b.items stands_below
    where
      one : (s : StmtId) → stmt_stands nodes m (length nodes.stmts) s ≡ true → stmt_stands nodes m 4294967295 s ≡ true
      one s h =
          let p = both_true (nat_lt s.0 (length nodes.stmts)) _ h in
          let inside : s.0 < length nodes.stmts = grind (arith, nat_tests, p.0) in
          rw (lt_word s.0 (length nodes.stmts) inside ready.typed.few_stmts) p.1

      more : (ss : List StmtId) → list_all (stmt_stands nodes m (length nodes.stmts)) ss ≡ true → list_all (stmt_stands nodes m 4294967295) ss ≡ true
      more [] h = refl
      more (s ∷ ss) h =
          let p = both_true (stmt_stands nodes m (length nodes.stmts) s) (list_all (stmt_stands nodes m (length nodes.stmts)) ss) h in
          rw (one s p.0, more ss p.1) refl

  pub body_walks : (sought : Option StmtId) → walked_method nodes m sought ≡ walked_listed (walked_at nodes m sought) (start_facts nodes m) b.items
  unfolding walked_method
  body_walks sought =
      let a = (all_round nodes m).context in
      ap (λ t. walked_body (around_body (package_of nodes) (method_at nodes m)) sought (start_facts nodes m) (body_of t)) body_is
      ∙ body_same a sought [] [] (all_loops nodes) (record { by = λ w h. absurd (cc h) }) (block_of nodes b) well_whole (start_facts nodes m)
      ∙ listed nodes ready.typed m sought b.items (body_known nodes ready.typed m b is) (start_facts nodes m)

-- What is answered of a method.
comes_to : (nodes : TypedNodes) (one other : Result (Reached Known) Refusal) (answer : Result Way PhaseFault) (facts : FactList) → one ≡ other → Comes nodes one answer facts → Comes nodes other answer facts
comes_to nodes one other answer facts e h = let P : Result (Reached Known) Refusal → Type 0 = λ r. Comes nodes r answer facts in subst P e h

module _ (nodes : TypedNodes) (m : ℕ) where
  abbrev through : Result Known Refusal
  through = through_method (local_at nodes m) (package_of nodes) (method_at nodes m)

  walks_through : walked_method nodes m None ≡ only_passed through
  unfolding walked_method start_facts
  walks_through = walk_is_through (around_body (package_of nodes) (method_at nodes m)) (zero_facts (local_at nodes m) 0 (method_at nodes m).locals) (body_of (method_at nodes m).body)

  passes : (r : Result Known Refusal) (way : Way) (facts : FactList) → Comes nodes (only_passed r) (Ok way) facts → refusal_in r ≡ None
  passes (Ok known) way facts h = refl
  passes (Err refusal) GoesOn facts h = absurd (cc h)
  passes (Err refusal) Stops facts h = absurd (cc h)
  passes (Err refusal) Found facts h = absurd (cc h)

  stops : (r : Result Known Refusal) (fault : PhaseFault) (facts : FactList) → Comes nodes (only_passed r) (Err fault) facts → Decides {X = Unit {0}} (refusal_in r) (Err fault)
  stops (Ok known) (Refused refusal) facts h = absurd (cc h)
  stops (Err other) (Refused refusal) facts h = let e : other ≡ refusal = cc h in ap (λ x. Some x) e
  stops r Memory facts h = tt

  pub method_passes : (way : Way) (facts : FactList) → Comes nodes (walked_method nodes m None) (Ok way) facts → method_refusal nodes m ≡ None
  unfolding method_refusal
  method_passes way facts h = passes through way facts (comes_to nodes (walked_method nodes m None) (only_passed through) (Ok way) facts walks_through h)

  pub method_stops : (fault : PhaseFault) (facts : FactList) → Comes nodes (walked_method nodes m None) (Err fault) facts → Decides {X = Unit {0}} (method_refusal nodes m) (Err fault)
  unfolding method_refusal
  method_stops fault facts h = stops through fault facts (comes_to nodes (walked_method nodes m None) (only_passed through) (Err fault) facts walks_through h)

  -- Where nothing is refused in a method, a walk through it finds what is known before a statement.
  is_through : (r : Result Known Refusal) → refusal_in r ≡ None → (known : Known) × (r ≡ Ok known)
  is_through (Ok known) h = (known, refl)
  is_through (Err refusal) h = absurd (cc h)

  finds : method_refusal nodes m ≡ None → (s : StmtId) → (known : Known) × (walked_method nodes m (Some s) ≡ Ok (found_or (method_front nodes m s) known))
  unfolding method_refusal walked_method start_facts method_front
  finds sound s =
      let it = is_through through sound in
      (it.0, walk_finds (around_body (package_of nodes) (method_at nodes m)) s (zero_facts (local_at nodes m) 0 (method_at nodes m).locals) (body_of (method_at nodes m).body) it.0 it.1)

  tells_found : (front known : Known) (facts : FactList) (walked : Result (Reached Known) Refusal) → IsOver nodes facts → walked ≡ Ok (found_or front known) → walked ≡ Ok (found (claims_in nodes facts.list))
      → TellsKnown nodes front (Some facts)
  tells_found (Some gs) known facts walked over h k = let e : gs ≡ claims_in nodes facts.list = cc (h, k) in (sym e, over)
  tells_found None known facts walked over h k = absurd (cc (h, k))

  tells_none : (front known other : Known) (walked : Result (Reached Known) Refusal) → walked ≡ Ok (found_or front known) → walked ≡ Ok (passed other) → TellsKnown nodes front None
  tells_none (Some gs) known other walked h k = absurd (cc (h, k))
  tells_none None known other walked h k = tt

  pub method_finds : method_refusal nodes m ≡ None → (s : StmtId) (facts : FactList) → IsOver nodes facts → Comes nodes (walked_method nodes m (Some s)) (Ok Found) facts → TellsKnown nodes (method_front nodes m s) (Some facts)
  method_finds sound s facts over h = let it = finds sound s in tells_found (method_front nodes m s) it.0 facts (walked_method nodes m (Some s)) over it.1 h

  pub method_lacks : method_refusal nodes m ≡ None → (s : StmtId) (known : Known) → walked_method nodes m (Some s) ≡ Ok (passed known) → TellsKnown nodes (method_front nodes m s) None
  method_lacks sound s known h = let it = finds sound s in tells_none (method_front nodes m s) it.0 known (walked_method nodes m (Some s)) it.1 h

  pub method_sound : method_refusal nodes m ≡ None → (s : StmtId) (refusal : Refusal) → walked_method nodes m (Some s) ≡ Err refusal → ⊥
  method_sound sound s refusal h = let it = finds sound s in cc (it.1, h)

-- The methods in order.
module _ (nodes : TypedNodes) (typed : IsTyped nodes) where
  pub refusal_first : refusal_from nodes 0 ≡ facts_refusal nodes
  unfolding refusal_from facts_refusal
  refusal_first = refl

  pub front_first : (s : StmtId) → front_from nodes 0 s ≡ facts_in_front nodes s.0
  unfolding front_from facts_in_front
  front_first s = refl

  pub method_known : (m : ℕ) → m < length nodes.methods → slice_get (package_of nodes).methods m ≡ Some (method_at nodes m)
  unfolding method_at
  method_known m l =
      let it = tree_there nodes typed m l in
      it.1 ∙ sym (ap (λ o. Some (unwrap_or o no_method)) it.1)

  pub refusal_next : (m : ℕ) → m < length nodes.methods → refusal_from nodes m ≡ or_else (method_refusal nodes m) (refusal_from nodes (m + 1))
  unfolding refusal_from method_refusal
  refusal_next m l =
      let one : suc m ≡ m + 1 = omega arith in
      ap (methods_refusal (local_at nodes) (package_of nodes) m) (drop_at (package_of nodes).methods m (method_at nodes m) (method_known m l))
      ∙ ap (λ k. or_else (refusal_in (through_method (local_at nodes m) (package_of nodes) (method_at nodes m))) (methods_refusal (local_at nodes) (package_of nodes) k (drop (m + 1) (package_of nodes).methods))) one

  pub front_next : (m : ℕ) → m < length nodes.methods → (s : StmtId) → front_from nodes m s ≡ first_known (method_front nodes m s) (front_from nodes (m + 1) s)
  unfolding front_from method_front
  front_next m l s =
      let one : suc m ≡ m + 1 = omega arith in
      ap (λ ms. front_in_methods (local_at nodes) (package_of nodes) m ms s.0) (drop_at (package_of nodes).methods m (method_at nodes m) (method_known m l))
      ∙ ap (λ k. first_known (front_in_method (local_at nodes m) (package_of nodes) (method_at nodes m) s.0) (front_in_methods (local_at nodes) (package_of nodes) k (drop (m + 1) (package_of nodes).methods) s.0)) one

  pub refusal_last : (m : ℕ) → length nodes.methods ≤ m → refusal_from nodes m ≡ None
  unfolding refusal_from
  refusal_last m l = ap (methods_refusal (local_at nodes) (package_of nodes) m) (drop_of_length-le (package_of nodes).methods (omega (arith, l, methods_long nodes typed)))

  pub front_last : (m : ℕ) → length nodes.methods ≤ m → (s : StmtId) → front_from nodes m s ≡ None
  unfolding front_from
  front_last m l s = ap (λ ms. front_in_methods (local_at nodes) (package_of nodes) m ms s.0) (drop_of_length-le (package_of nodes).methods (omega (arith, l, methods_long nodes typed)))

  neither : (p q : Option Refusal) → or_else p q ≡ None → (p ≡ None) × (q ≡ None)
  neither None q h = (refl, h)
  neither (Some r) q h = absurd (cc h)

  -- Where nothing is refused of a package, nothing is in a method of it.
  sound_from : (ms : List MethodTree) (n i k : ℕ) (m : MethodTree) → k ≡ n + i → slice_get ms i ≡ Some m → methods_refusal (local_at nodes) (package_of nodes) n ms ≡ None
      → refusal_in (through_method (local_at nodes k) (package_of nodes) m) ≡ None
  sound_from [] n i k m e h r = absurd (cc h)
  sound_from (x ∷ ms) n zero k m e h r =
      let same : x ≡ m = cc h in
      let number : n ≡ k = omega (arith, e) in
      sym (ap (λ j. refusal_in (through_method (local_at nodes j) (package_of nodes) x)) number ∙ ap (λ y. refusal_in (through_method (local_at nodes k) (package_of nodes) y)) same)
      ∙ (neither (refusal_in (through_method (local_at nodes n) (package_of nodes) x)) (methods_refusal (local_at nodes) (package_of nodes) (suc n) ms) r).0
  sound_from (x ∷ ms) n (suc i) k m e h r =
      sound_from ms (suc n) i k m (omega (arith, e)) h (neither (refusal_in (through_method (local_at nodes n) (package_of nodes) x)) (methods_refusal (local_at nodes) (package_of nodes) (suc n) ms) r).1

  pub sound_at : facts_refusal nodes ≡ None → (m : ℕ) → m < length nodes.methods → method_refusal nodes m ≡ None
  unfolding facts_refusal method_refusal
  sound_at sound m l = sound_from (package_of nodes).methods 0 m m (method_at nodes m) (omega arith) (method_known m l) sound

  -- What is answered of the methods in order.
  module _ (m : ℕ) (l : m < length nodes.methods) where
    pub refusal_stops : (fault : PhaseFault) → refusal_from nodes m ≡ facts_refusal nodes → Decides {X = Unit {0}} (method_refusal nodes m) (Err fault) → Decides {X = Unit {0}} (facts_refusal nodes) (Err fault)
    refusal_stops (Refused refusal) e h = sym e ∙ refusal_next m l ∙ ap (λ o. or_else o (refusal_from nodes (m + 1))) h
    refusal_stops Memory e h = tt

    pub refusal_goes : refusal_from nodes m ≡ facts_refusal nodes → method_refusal nodes m ≡ None → refusal_from nodes (m + 1) ≡ facts_refusal nodes
    refusal_goes e h = sym (refusal_next m l ∙ ap (λ o. or_else o (refusal_from nodes (m + 1))) h) ∙ e

    -- The methods before this one don't hold the statement, and then this one doesn't either, or those after it don't.
    module _ (s : StmtId) (e : front_from nodes m s ≡ facts_in_front nodes s.0) where
      pub front_skips : method_front nodes m s ≡ None → front_from nodes (m + 1) s ≡ facts_in_front nodes s.0
      front_skips h = sym (front_next m l s ∙ ap (λ k. first_known k (front_from nodes (m + 1) s)) h) ∙ e

      pub front_is : front_from nodes (m + 1) s ≡ None → method_front nodes m s ≡ facts_in_front nodes s.0
      front_is h = sym (front_next m l s ∙ ap (first_known (method_front nodes m s)) h ∙ alone (method_front nodes m s)) ∙ e
        where
          alone : (known : Known) → first_known known None ≡ known
          alone None = refl
          alone (Some gs) = refl

  pub front_ends : (m : ℕ) → length nodes.methods ≤ m → (s : StmtId) → front_from nodes m s ≡ facts_in_front nodes s.0 → TellsKnown nodes (facts_in_front nodes s.0) None
  front_ends m l s e = let P : Known → Type 0 = λ k. TellsKnown nodes k None in subst P (sym (front_last m l s) ∙ e) tt
