-- What stands round a walk: of the loops round it only those count that a `break` or a `continue` in it names.
use Rattle.std.proofs.Common.{◌≡◌, ℕ, Bool, true, false, ◌||◌, List, [], ◌∷◌, Option, Some, None, Result, Ok, Err, nat_eq, refl, ap, ◌∙◌, subst, arith}
use Rattle.std.specs.Prelude.{if◌then◌else◌}
use Rattle.std.specs.List.{list_any, list_all}
use Rattle.std.proofs.lemmas.Bool.{and_parts}
use Rattle.std.proofs.lemmas.Bool.Decides.{nat_tests}
use Rattle.wf_text.specs.declared.rules.Refusal.{Refusal}
use Rattle.wf_ast.specs.declared.numbers.StmtId.{StmtId}
use Rattle.wf_ast.specs.TypedTree.{CondTree, Simple, assign, await, perform, invoke, break_from, continue_in, give_back, yield, claim, Site, Head, Block, end, plain, choose, loop}
use Rattle.wf_ast.specs.WellTyped.{Context, breaks, well_simple, well_block, well_cond}
use Rattle.wf_ast.specs.Value.{same_truth}
use Rattle.wf_facts_exprs.specs.Claims.{Claim}
use Rattle.wf_loops.specs.LoopRules.{way_back_refusal, break_refusal}
use Rattle.wf_bounds_stmts.specs.Statements.{Form, single, branches, repeated, Body, nothing_more, statement, Blocks, no_block, block, Reading, by_itself, branch, reading, body_of}
use Rattle.wf_bounds_stmts.specs.FactRules.{Known, Around, loop_numbered, jump_refusal, single_refusal, statement_refusal, fronts, behind, ends_refusal, unless}
use Rattle.wf_bounds.specs.Walks.{Reached, found, passed, going_on, where_passed, is_sought, walked_body, walked_blocks}

abbrev pub round : Context → List (ℕ × Head) → Around
round c loops = record { context = c; loops = loops }

-- The loops of two lists that have a number are the same, where the numbers pass a test.
pub record Agree (test : ℕ → Bool) (ls ms : List (ℕ × Head)) : Type 0 where
  pub by : (w : ℕ) → test w ≡ true → loop_numbered ls w ≡ loop_numbered ms w

going_same : {X Y : Type 0} (one other : Result (Reached X) Refusal) (f g : X → Result (Reached Y) Refusal) → one ≡ other → ((x : X) → f x ≡ g x) → going_on one f ≡ going_on other g
going_same one (Ok (found fs)) f g e h = ap (λ w. going_on w f) e
going_same one (Ok (passed x)) f g e h = ap (λ w. going_on w f) e ∙ h x
going_same one (Err r) f g e h = ap (λ w. going_on w f) e

passed_same : (known : Known) (f g : List Claim → Result (Reached Known) Refusal) → ((gs : List Claim) → f gs ≡ g gs) → where_passed known f ≡ where_passed known g
passed_same None f g h = refl
passed_same (Some gs) f g h = h gs

-- A statement and what follows it, where all that depends on what stands round is the same.
stmt_same : (test : Bool) (fs : List Claim) (one other : Option Refusal) (blocks walked : Result (Reached (List Known)) Refusal) (ends : List Known → Option Refusal) (after : List Known → Known)
    (f g : List Claim → Result (Reached Known) Refusal) → one ≡ other → blocks ≡ walked → ((gs : List Claim) → f gs ≡ g gs)
    → (if test then Ok (found fs) else going_on (unless one (going_on blocks (λ ks. unless (ends ks) (Ok (passed (after ks)))))) (λ k. where_passed k f))
    ≡ (if test then Ok (found fs) else going_on (unless other (going_on walked (λ ks. unless (ends ks) (Ok (passed (after ks)))))) (λ k. where_passed k g))
stmt_same true fs one other blocks walked ends after f g e h k = refl
stmt_same false fs one other blocks walked ends after f g e h k =
    ap (λ r. going_on (unless r (going_on blocks (λ ks. unless (ends ks) (Ok (passed (after ks)))))) (λ k. where_passed k f)) e
    ∙ ap (λ w. going_on (unless other (going_on w (λ ks. unless (ends ks) (Ok (passed (after ks)))))) (λ k. where_passed k f)) h
    ∙ going_same (unless other (going_on walked (λ ks. unless (ends ks) (Ok (passed (after ks)))))) (unless other (going_on walked (λ ks. unless (ends ks) (Ok (passed (after ks)))))) (λ k. where_passed k f) (λ k. where_passed k g) refl
    (λ known. passed_same known f g k)

blocks_same : (one other : Result (Reached Known) Refusal) (rest others : Result (Reached (List Known)) Refusal) → one ≡ other → rest ≡ others
    → going_on one (λ known. going_on rest (λ ks. Ok (passed (known ∷ ks)))) ≡ going_on other (λ known. going_on others (λ ks. Ok (passed (known ∷ ks))))
blocks_same one other rest others e h =
    going_same one other (λ known. going_on rest (λ ks. Ok (passed (known ∷ ks)))) (λ known. going_on others (λ ks. Ok (passed (known ∷ ks)))) e
    (λ known. ap (λ w. going_on w (λ ks. Ok (passed (known ∷ ks)))) h)

-- A loop more, on both sides.
other_number : (n w : ℕ) (test : Bool) → nat_eq n w ≡ false → (nat_eq w n || test) ≡ true → test ≡ true
other_number n w test e t = let f : nat_eq w n ≡ false = grind (arith, nat_tests, e) in let P : Bool → Type 0 = λ b. (b || test) ≡ true in subst P f t

agree_more : (test : ℕ → Bool) (n : ℕ) (head : Head) (ls ms : List (ℕ × Head)) → Agree test ls ms → Agree (λ w. nat_eq w n || test w) ((n, head) ∷ ls) ((n, head) ∷ ms)
agree_more test n head ls ms h = record { by = λ w t. at w (nat_eq n w) refl t }
  where
    at : (w : ℕ) (same : Bool) → nat_eq n w ≡ same → (nat_eq w n || test w) ≡ true
        → (if same then Some head else loop_numbered ls w) ≡ (if same then Some head else loop_numbered ms w)
    at w true e t = refl
    at w false e t = h.by w (other_number n w (test w) e t)

-- All loops of both lists agree.
abbrev pub any_number : ℕ → Bool
any_number w = true

agree_inside : (n : ℕ) (head : Head) (ls ms : List (ℕ × Head)) → Agree any_number ls ms → Agree any_number ((n, head) ∷ ls) ((n, head) ∷ ms)
agree_inside n head ls ms h = record { by = λ w t. at w (nat_eq n w) }
  where
    at : (w : ℕ) (same : Bool) → (if same then Some head else loop_numbered ls w) ≡ (if same then Some head else loop_numbered ms w)
    at w true = refl
    at w false = h.by w refl

-- The loop that a statement names passes a test.
abbrev names_in : (ℕ → Bool) → Simple → Bool
names_in test (break_from w) = test w
names_in test (continue_in w) = test w
names_in test s = true

names_all : (s : Simple) → names_in any_number s ≡ true
names_all (break_from w) = refl
names_all (continue_in w) = refl
names_all s = refl

module _ (c : Context) where
  jump_same : (require : Head → Option Refusal) (w : ℕ) (ls ms : List (ℕ × Head)) → loop_numbered ls w ≡ loop_numbered ms w → jump_refusal require (loop_numbered ls w) ≡ jump_refusal require (loop_numbered ms w)
  jump_same require w ls ms e = ap (jump_refusal require) e

  -- What a statement without blocks requires hangs on no loop but the one that it names.
  single_same : (test : ℕ → Bool) (ls ms : List (ℕ × Head)) → Agree test ls ms → (fs : List Claim) (site : Site) (s : Simple) → names_in test s ≡ true → single_refusal (round c ls) fs site s ≡ single_refusal (round c ms) fs site s
  single_same test ls ms h fs site (assign target op v) t = refl
  single_same test ls ms h fs site (await at target a call) t = refl
  single_same test ls ms h fs site (perform at target call) t = refl
  single_same test ls ms h fs site (invoke at target keep mark called vs) t = refl
  single_same test ls ms h fs site (break_from w) t = jump_same (break_refusal fs site.at) w ls ms (h.by w t)
  single_same test ls ms h fs site (continue_in w) t = jump_same (way_back_refusal fs site.at) w ls ms (h.by w t)
  single_same test ls ms h fs site (give_back v) t = refl
  single_same test ls ms h fs site (yield n) t = refl
  single_same test ls ms h fs site (claim goal by) t = refl

  form_same : (ls ms : List (ℕ × Head)) → Agree any_number ls ms → (fs : List Claim) (site : Site) (form : Form) → statement_refusal (round c ls) fs site form ≡ statement_refusal (round c ms) fs site form
  form_same ls ms h fs site (single s) = single_same any_number ls ms h fs site s (names_all s)
  form_same ls ms h fs site (branches cs) = refl
  form_same ls ms h fs site (repeated head) = refl

  module _ (sought : Option StmtId) where
    -- Where the loops are the same by their numbers, so is the walk.
    mutual
      pub walk_same : (ls ms : List (ℕ × Head)) → Agree any_number ls ms → (fs : List Claim) (body : Body) → walked_body (round c ls) sought fs body ≡ walked_body (round c ms) sought fs body
      walk_same ls ms h fs nothing_more = refl
      walk_same ls ms h fs (statement site (single s) blocks rest) =
          stmt_same (is_sought sought site.number) fs (statement_refusal (round c ls) fs site (single s)) (statement_refusal (round c ms) fs site (single s)) (walked_blocks (round c ls) sought (fronts fs (single s)) blocks) (walked_blocks (round c ms) sought (fronts fs (single s)) blocks)
          (ends_refusal fs site (single s)) (behind fs (single s)) (λ gs. walked_body (round c ls) sought gs rest) (λ gs. walked_body (round c ms) sought gs rest)
          (form_same ls ms h fs site (single s)) (lists_same ls ms h (fronts fs (single s)) blocks) (λ gs. walk_same ls ms h gs rest)
      walk_same ls ms h fs (statement site (branches cs) blocks rest) =
          stmt_same (is_sought sought site.number) fs (statement_refusal (round c ls) fs site (branches cs)) (statement_refusal (round c ms) fs site (branches cs)) (walked_blocks (round c ls) sought (fronts fs (branches cs)) blocks) (walked_blocks (round c ms) sought (fronts fs (branches cs)) blocks)
          (ends_refusal fs site (branches cs)) (behind fs (branches cs)) (λ gs. walked_body (round c ls) sought gs rest) (λ gs. walked_body (round c ms) sought gs rest)
          (form_same ls ms h fs site (branches cs)) (lists_same ls ms h (fronts fs (branches cs)) blocks) (λ gs. walk_same ls ms h gs rest)
      walk_same ls ms h fs (statement site (repeated head) blocks rest) =
          let one = (site.number, head) ∷ ls in
          let other = (site.number, head) ∷ ms in
          stmt_same (is_sought sought site.number) fs (statement_refusal (round c ls) fs site (repeated head)) (statement_refusal (round c ms) fs site (repeated head)) (walked_blocks (round c one) sought (fronts fs (repeated head)) blocks) (walked_blocks (round c other) sought (fronts fs (repeated head)) blocks)
          (ends_refusal fs site (repeated head)) (behind fs (repeated head)) (λ gs. walked_body (round c ls) sought gs rest) (λ gs. walked_body (round c ms) sought gs rest)
          (form_same ls ms h fs site (repeated head)) (lists_same one other (agree_inside site.number head ls ms h) (fronts fs (repeated head)) blocks) (λ gs. walk_same ls ms h gs rest)

      lists_same : (ls ms : List (ℕ × Head)) → Agree any_number ls ms → (lists : List (List Claim)) (blocks : Blocks) → walked_blocks (round c ls) sought lists blocks ≡ walked_blocks (round c ms) sought lists blocks
      lists_same ls ms h lists no_block = refl
      lists_same ls ms h [] (block body blocks) = refl
      lists_same ls ms h (fs ∷ lists) (block body blocks) =
          blocks_same (walked_body (round c ls) sought fs body) (walked_body (round c ms) sought fs body) (walked_blocks (round c ls) sought lists blocks) (walked_blocks (round c ms) sought lists blocks)
          (walk_same ls ms h fs body) (lists_same ls ms h lists blocks)

  -- In a block that keeps the rules of types each statement names a loop round it.
  well_names : (loops : List ℕ) (s : Simple) → well_simple c loops s ≡ true → names_in (λ w. list_any (nat_eq w) loops) s ≡ true
  well_names loops (assign target op v) h = refl
  well_names loops (await at target a call) h = refl
  well_names loops (perform at target call) h = refl
  well_names loops (invoke at target keep mark called vs) h = refl
  well_names loops (break_from w) h = h
  well_names loops (continue_in w) h = h
  well_names loops (give_back v) h = refl
  well_names loops (yield n) h = refl
  well_names loops (claim goal by) h = refl

  -- So a walk through it is the same where these agree: of the block's reading this holds of what it says by itself, and of
  -- the blocks that it adds to an `if` before it.
  pub record SameWalks (sought : Option StmtId) (ls ms : List (ℕ × Head)) (r : Reading) : Type 0 where
    pub whole : (fs : List Claim) → walked_body (round c ls) sought fs r.body ≡ walked_body (round c ms) sought fs r.body
    pub parts : (lists : List (List Claim)) → walked_blocks (round c ls) sought lists r.blocks ≡ walked_blocks (round c ms) sought lists r.blocks

  module _ (sought : Option StmtId) where
    more_same : (ls ms : List (ℕ × Head)) (body : Body) (blocks : Blocks) → ((fs : List Claim) → walked_body (round c ls) sought fs body ≡ walked_body (round c ms) sought fs body)
        → ((lists : List (List Claim)) → walked_blocks (round c ls) sought lists blocks ≡ walked_blocks (round c ms) sought lists blocks)
        → (lists : List (List Claim)) → walked_blocks (round c ls) sought lists (block body blocks) ≡ walked_blocks (round c ms) sought lists (block body blocks)
    more_same ls ms body blocks h k [] = refl
    more_same ls ms body blocks h k (fs ∷ lists) =
        blocks_same (walked_body (round c ls) sought fs body) (walked_body (round c ms) sought fs body) (walked_blocks (round c ls) sought lists blocks) (walked_blocks (round c ms) sought lists blocks) (h fs) (k lists)

    alone_same : (ls ms : List (ℕ × Head)) (body : Body) → ((fs : List Claim) → walked_body (round c ls) sought fs body ≡ walked_body (round c ms) sought fs body) → SameWalks sought ls ms (by_itself body)
    alone_same ls ms body h = record { whole = h; parts = more_same ls ms body no_block h (λ lists. refl) }

    branch_same : (chained : Bool) (site : Site) (cs : List CondTree) (blocks : Blocks) (rest : Body) (ls ms : List (ℕ × Head))
        → ((lists : List (List Claim)) → walked_blocks (round c ls) sought lists blocks ≡ walked_blocks (round c ms) sought lists blocks)
        → ((fs : List Claim) → walked_body (round c ls) sought fs rest ≡ walked_body (round c ms) sought fs rest)
        → SameWalks sought ls ms (branch chained site cs blocks rest)
    branch_same chained site cs blocks rest ls ms h k = by chained
      where
        same : (fs : List Claim) → walked_body (round c ls) sought fs (statement site (branches cs) blocks rest) ≡ walked_body (round c ms) sought fs (statement site (branches cs) blocks rest)
        same fs =
            stmt_same (is_sought sought site.number) fs (statement_refusal (round c ls) fs site (branches cs)) (statement_refusal (round c ms) fs site (branches cs)) (walked_blocks (round c ls) sought (fronts fs (branches cs)) blocks) (walked_blocks (round c ms) sought (fronts fs (branches cs)) blocks)
            (ends_refusal fs site (branches cs)) (behind fs (branches cs)) (λ gs. walked_body (round c ls) sought gs rest) (λ gs. walked_body (round c ms) sought gs rest)
            refl (h (fronts fs (branches cs))) k

        by : (b : Bool) → SameWalks sought ls ms (branch b site cs blocks rest)
        by true = record { whole = same; parts = h }
        by false = alone_same ls ms (statement site (branches cs) blocks rest) same

    pub reading_same : (loops : List ℕ) (ls ms : List (ℕ × Head)) → Agree (λ w. list_any (nat_eq w) loops) ls ms → (b : Block) → well_block c loops b ≡ true → SameWalks sought ls ms (reading b)
    reading_same loops ls ms h end well = alone_same ls ms nothing_more (λ fs. refl)
    reading_same loops ls ms h (plain site s rest) well =
        let p = and_parts (well_simple c loops s) _ well in
        let r = reading_same loops ls ms h rest p.1 in
        alone_same ls ms (statement site (single s) no_block (reading rest).body) (λ fs.
        stmt_same (is_sought sought site.number) fs (single_refusal (round c ls) fs site s) (single_refusal (round c ms) fs site s) (Ok (passed [])) (Ok (passed []))
        (ends_refusal fs site (single s)) (behind fs (single s)) (λ gs. walked_body (round c ls) sought gs (reading rest).body) (λ gs. walked_body (round c ms) sought gs (reading rest).body)
        (single_same (λ w. list_any (nat_eq w) loops) ls ms h fs site s (well_names loops s p.0)) refl r.whole)
    reading_same loops ls ms h (choose site chained cond a b rest) well =
        let p = and_parts (well_cond c cond) _ well in
        let q = and_parts (well_block c loops a) _ p.1 in
        let o = and_parts (well_block c loops b) _ q.1 in
        let l = reading_same loops ls ms h a q.0 in
        let m = reading_same loops ls ms h b o.0 in
        let n = reading_same loops ls ms h rest o.1 in
        branch_same chained site (cond ∷ (reading b).conditions) (block (reading a).body (reading b).blocks) (reading rest).body ls ms (more_same ls ms (reading a).body (reading b).blocks l.whole m.parts) n.whole
    reading_same loops ls ms h (loop site head body rest) well =
        let p = and_parts (well_cond c head.cond) _ well in
        let q = and_parts (list_all (λ x. well_cond c x.1) head.clauses) _ p.1 in
        let o = and_parts (same_truth head.is_left (breaks site.number body)) _ q.1 in
        let k = and_parts (well_block c (site.number ∷ loops) body) _ o.1 in
        let one = (site.number, head) ∷ ls in
        let other = (site.number, head) ∷ ms in
        let inner = reading_same (site.number ∷ loops) one other (agree_more (λ w. list_any (nat_eq w) loops) site.number head ls ms h) body k.0 in
        let r = reading_same loops ls ms h rest k.1 in
        alone_same ls ms (statement site (repeated head) (block (reading body).body no_block) (reading rest).body) (λ fs.
        stmt_same (is_sought sought site.number) fs (statement_refusal (round c ls) fs site (repeated head)) (statement_refusal (round c ms) fs site (repeated head)) (walked_blocks (round c one) sought (fronts fs (repeated head)) (block (reading body).body no_block)) (walked_blocks (round c other) sought (fronts fs (repeated head)) (block (reading body).body no_block))
        (ends_refusal fs site (repeated head)) (behind fs (repeated head)) (λ gs. walked_body (round c ls) sought gs (reading rest).body) (λ gs. walked_body (round c ms) sought gs (reading rest).body)
        refl (more_same one other (reading body).body no_block inner.whole (λ lists. refl) (fronts fs (repeated head))) r.whole)

    -- A whole body.
    pub body_same : (loops : List ℕ) (ls ms : List (ℕ × Head)) → Agree (λ w. list_any (nat_eq w) loops) ls ms → (b : Block) → well_block c loops b ≡ true → (fs : List Claim)
        → walked_body (round c ls) sought fs (body_of b) ≡ walked_body (round c ms) sought fs (body_of b)
    body_same loops ls ms h b well = (reading_same loops ls ms h b well).whole
