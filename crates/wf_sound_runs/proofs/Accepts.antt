-- What the rules of facts accept, told of blocks with `if`s of one condition each, and of what is asked at a block's end.
use Rattle.std.proofs.Common.{◌≡◌, ℕ, zero, suc, Bool, true, false, not, ◌&&◌, ◌||◌, List, [], ◌∷◌, map, Option, Some, None, refl, sym, ap, ◌∙◌, subst}
use Rattle.std.specs.Prelude.{slice_get, Result, Ok, Err}
use Rattle.std.specs.List.{list_all}
use Rattle.std.proofs.lemmas.Bool.{and_parts}
use Rattle.wf_text.specs.declared.rules.Refusal.{Refusal}
use Rattle.wf_ast.specs.TypedTree.{CondTree, Simple, Site, Head, Block, end, plain, choose, loop}
use Rattle.wf_ast.specs.Value.{State, same_truth}
use Rattle.wf_ast.specs.WellTyped.{Context, breaks, well_cond, well_simple, well_block}
use Rattle.wf_facts_exprs.specs.Claims.{Claim, AllTrue}
use Rattle.wf_facts_exprs.specs.Demands.{or_else, cond_refusal}
use Rattle.wf_facts.specs.FactLists.{with_condition, common}
use Rattle.wf_loops.specs.LoopRules.{limit, front_refusal, way_back_refusal, head_list, body_list}
use Rattle.wf_loops.specs.LoopLaws.{well_head}
use Rattle.wf_bounds_stmts.specs.Statements.{Form, single, branches, repeated, Body, nothing_more, statement, Blocks, no_block, block, reading, body_of}
use Rattle.wf_bounds_stmts.specs.FactRules.{Known, Around, inside, single_refusal, known_behind, conditions_refusal, branch_fronts, in_all, merged, behind_loop, ways_back_refusal, statement_refusal, fronts, behind, ends_refusal, unless, and_then, where_reached, through_body, through_blocks}
use Rattle.wf_sound.specs.Positions.{hands_on_well}
use Rattle.wf_sound.specs.OneStep.{AreFactsOf, AreKnown}
use Rattle.wf_sound.proofs.BranchEnds.{merged-true}
use Rattle.wf_sound_runs.specs.Chains.{is_end, well_made}
use Rattle.wf_sound_runs.proofs.FactsKept.{common-facts, condition-facts, body-facts, Facts, behind-facts, loop-facts}

-- Of what is known, where something is.
abbrev pub After : Known → (List Claim → Type 0) → Type 0
After None K = Unit {0}
After (Some gs) K = K gs

-- What is true with one list is true with another.
abbrev pub Joins : List Claim → Known → Type 0
Joins es None = ⊥
Joins es (Some gs) = (s : State) → AllTrue s es → AllTrue s gs

module _ (c : Context) where
  abbrev pub rules_at : List (ℕ × Head) → Around
  rules_at loops = record { context = c; loops = loops }

  -- `K` is asked of the list at the block's end.
  abbrev pub Accepts : List (ℕ × Head) → Block → List Claim → (List Claim → Type 0) → Type 0
  Accepts loops end fs K = K fs
  Accepts loops (plain site s rest) fs K = (single_refusal (rules_at loops) fs site s ≡ None) × After (known_behind fs s) (λ gs. AreFactsOf c gs × Accepts loops rest gs K)
  Accepts loops (choose site chained t x y rest) fs K =
      (cond_refusal fs t ≡ None) × ((AreFactsOf c (with_condition fs t true) × AreFactsOf c (with_condition fs t false))
      × ((known : Known) × Accepts loops x (with_condition fs t true) (λ es. Joins es known) × Accepts loops y (with_condition fs t false) (λ es. Joins es known) × After known (λ gs. AreFactsOf c gs × Accepts loops rest gs K)))
  Accepts loops (loop site head body rest) fs K =
      (front_refusal fs site.at head ≡ None) × (AreFactsOf c (body_list (head_list head) head)
      × (Accepts ((site.number, head) ∷ loops) body (body_list (head_list head) head) (λ es. way_back_refusal es head.close head ≡ None) × After (behind_loop head) (λ gs. AreFactsOf c gs × Accepts loops rest gs K)))

  -- Less may be asked.
  pub accepts-less : (loops : List (ℕ × Head)) (blk : Block) (fs : List Claim) (K L : List Claim → Type 0) → ((es : List Claim) → K es → L es) → Accepts loops blk fs K → Accepts loops blk fs L
  accepts-less loops end fs K L f h = f fs h
  accepts-less loops (plain site s rest) fs K L f h = (h.0, by (known_behind fs s) (λ gs. accepts-less loops rest gs K L f) h.1)
    where
      by : (k : Known) → ((gs : List Claim) → Accepts loops rest gs K → Accepts loops rest gs L) → After k (λ gs. AreFactsOf c gs × Accepts loops rest gs K) → After k (λ gs. AreFactsOf c gs × Accepts loops rest gs L)
      by None g a = tt
      by (Some gs) g a = (a.0, g gs a.1)
  accepts-less loops (choose site chained t x y rest) fs K L f h = (h.0, (h.1.0, (h.1.1.0, h.1.1.1, h.1.1.2, by h.1.1.0 (λ gs. accepts-less loops rest gs K L f) h.1.1.3)))
    where
      by : (k : Known) → ((gs : List Claim) → Accepts loops rest gs K → Accepts loops rest gs L) → After k (λ gs. AreFactsOf c gs × Accepts loops rest gs K) → After k (λ gs. AreFactsOf c gs × Accepts loops rest gs L)
      by None g a = tt
      by (Some gs) g a = (a.0, g gs a.1)
  accepts-less loops (loop site head body rest) fs K L f h = (h.0, (h.1.0, (h.1.1.0, by (behind_loop head) (λ gs. accepts-less loops rest gs K L f) h.1.1.1)))
    where
      by : (k : Known) → ((gs : List Claim) → Accepts loops rest gs K → Accepts loops rest gs L) → After k (λ gs. AreFactsOf c gs × Accepts loops rest gs K) → After k (λ gs. AreFactsOf c gs × Accepts loops rest gs L)
      by None g a = tt
      by (Some gs) g a = (a.0, g gs a.1)

  -- From the rules.
  neither : (p q : Option Refusal) → or_else p q ≡ None → (p ≡ None) × (q ≡ None)
  neither None q h = (refl, h)
  neither (Some r) q h = absurd (cc (h))

  unless-ok : {X : Type 0} (r : Option Refusal) (answer : Result X Refusal) (x : X) → unless r answer ≡ Ok x → (r ≡ None) × (answer ≡ Ok x)
  unless-ok None answer x h = (refl, h)
  unless-ok (Some r) answer x h = absurd (cc (h))

  pub record Then {X Y : Type 0} (first : Result X Refusal) (next : X → Result Y Refusal) (y : Y) : Type 0 where
    pub x : X
    pub is : first ≡ Ok x
    pub on : next x ≡ Ok y

  then-ok : {X Y : Type 0} (first : Result X Refusal) (next : X → Result Y Refusal) (y : Y) → and_then first next ≡ Ok y → Then first next y
  then-ok (Ok x) next y h = record { x = x; is = refl; on = h }
  then-ok (Err r) next y h = absurd (cc (h))

  merged-some : (ends : List Known) (i : ℕ) (es : List Claim) → slice_get ends i ≡ Some (Some es) → (gs : List Claim) × (merged ends ≡ Some gs)
  merged-some [] i es h = absurd (cc (h))
  merged-some (None ∷ ends) zero es h = absurd (cc (h))
  merged-some (None ∷ ends) (suc i) es h = merged-some ends i es h
  merged-some (Some fs ∷ ends) i es h = (_, refl)

  joins-merged : (ends : List Known) (i : ℕ) (es : List Claim) → AreKnown c ends → slice_get ends i ≡ Some (Some es) → Joins es (merged ends)
  joins-merged ends i es k h =
      let g = merged-some ends i es h in
      let P : Known → Type 0 = λ o. Joins es o in
      subst P (sym g.1) (λ s all. by s (merged-true c s ends i es k h all) g.0 g.1)
    where
      by : (s : State) → (gs : List Claim) × (merged ends ≡ Some gs) × AllTrue s gs → (gs : List Claim) → merged ends ≡ Some gs → AllTrue s gs
      by s m gs e =
          let same1 : Some m.0 ≡ Some gs = sym m.1 ∙ e in
          let same : m.0 ≡ gs = cc (same1) in
          let P : List Claim → Type 0 = λ gs. AllTrue s gs in
          subst P same m.2

  -- The ends of blocks.
  one-end : (k : Known) → Facts c k → AreKnown c (k ∷ [])
  one-end k h = record { each = each }
    where
      each : (i : ℕ) (fs : List Claim) → slice_get (k ∷ []) i ≡ Some (Some fs) → AreFactsOf c fs
      each zero fs e =
          let same : k ≡ Some fs = cc (e) in
          let P : Known → Type 0 = λ k. Facts c k in
          subst P same h
      each (suc i) fs e = absurd (cc (e))

  more-ends : (k : Known) (ends : List Known) → Facts c k → AreKnown c ends → AreKnown c (k ∷ ends)
  more-ends k ends h a = record { each = each }
    where
      each : (i : ℕ) (fs : List Claim) → slice_get (k ∷ ends) i ≡ Some (Some fs) → AreFactsOf c fs
      each zero fs e =
          let same : k ≡ Some fs = cc (e) in
          let P : Known → Type 0 = λ k. Facts c k in
          subst P same h
      each (suc i) fs e = a.each i fs e

  in_all-facts : (fs : List Claim) (ends : List Known) → AreFactsOf c fs → AreFactsOf c (in_all fs ends)
  in_all-facts fs [] h = h
  in_all-facts fs (None ∷ ends) h = in_all-facts fs ends h
  in_all-facts fs (Some gs ∷ ends) h = in_all-facts (common fs gs) ends (common-facts c fs gs h)

  merged-facts : (ends : List Known) → AreKnown c ends → Facts c (merged ends)
  merged-facts [] h = tt
  merged-facts (None ∷ ends) h = merged-facts ends (record { each = λ i fs e. h.each (suc i) fs e })
  merged-facts (Some fs ∷ ends) h = in_all-facts fs ends (h.each 0 fs refl)

  same-facts : (k known : Known) → k ≡ known → Facts c k → Facts c known
  same-facts k known e h = let P : Known → Type 0 = λ k. Facts c k in subst P e h

  abbrev Numbers : List (ℕ × Head) → List ℕ
  Numbers loops = map (λ l. l.0) loops

  -- A list of blocks, the first apart.
  pub record Blocked (loops : List (ℕ × Head)) (fs : List Claim) (lists : List (List Claim)) (first : Body) (rest : Blocks) (ends : List Known) : Type 0 where
    pub known : Known
    pub others : List Known
    pub first_is : through_body (rules_at loops) fs first ≡ Ok known
    pub rest_is : through_blocks (rules_at loops) lists rest ≡ Ok others
    pub whole : known ∷ others ≡ ends

  blocked : (loops : List (ℕ × Head)) (fs : List Claim) (lists : List (List Claim)) (first : Body) (rest : Blocks) (ends : List Known) → through_blocks (rules_at loops) (fs ∷ lists) (block first rest) ≡ Ok ends → Blocked loops fs lists first rest ends
  blocked loops fs lists first rest ends h =
      let p : Then (through_body (rules_at loops) fs first) (λ known. and_then (through_blocks (rules_at loops) lists rest) (λ others. Ok (known ∷ others))) ends = then-ok (through_body (rules_at loops) fs first) _ ends h in
      let q : Then (through_blocks (rules_at loops) lists rest) (λ others. Ok (p.x ∷ others)) ends = then-ok (through_blocks (rules_at loops) lists rest) _ ends p.on in
      record { known = p.x; others = q.x; first_is = p.is; rest_is = q.is; whole = cc (q.on) }

  no-blocks : (loops : List (ℕ × Head)) (lists : List (List Claim)) (ends : List Known) → through_blocks (rules_at loops) lists no_block ≡ Ok ends → [] ≡ ends
  no-blocks loops lists ends h = cc (h)

  -- What goes through a statement.
  pub record Through (loops : List (ℕ × Head)) (fs : List Claim) (site : Site) (form : Form) (blocks : Blocks) (rest : Body) (known : Known) : Type 0 where
    pub none : statement_refusal (rules_at loops) fs site form ≡ None
    pub ends : List Known
    pub blocks_are : through_blocks (inside (rules_at loops) site form) (fronts fs form) blocks ≡ Ok ends
    pub end_none : ends_refusal fs site form ends ≡ None
    pub on : where_reached (behind fs form ends) (λ gs. through_body (rules_at loops) gs rest) ≡ Ok known

  through : (loops : List (ℕ × Head)) (fs : List Claim) (site : Site) (form : Form) (blocks : Blocks) (rest : Body) (known : Known) → through_body (rules_at loops) fs (statement site form blocks rest) ≡ Ok known → Through loops fs site form blocks rest known
  through loops fs site form blocks rest known h =
      let p = unless-ok (statement_refusal (rules_at loops) fs site form) _ known h in
      let q : Then (through_blocks (inside (rules_at loops) site form) (fronts fs form) blocks) (λ ends. unless (ends_refusal fs site form ends) (where_reached (behind fs form ends) (λ gs. through_body (rules_at loops) gs rest))) known =
      then-ok (through_blocks (inside (rules_at loops) site form) (fronts fs form) blocks) _ known p.1 in
      let r = unless-ok (ends_refusal fs site form q.x) _ known q.on in
      record { none = p.0; ends = q.x; blocks_are = q.is; end_none = r.0; on = r.1 }

  well-loop : (loops : List (ℕ × Head)) (site : Site) (head : Head) (body rest : Block) → well_block c (Numbers loops) (loop site head body rest) ≡ true
      → (well_head c head ≡ true) × ((well_block c (site.number ∷ Numbers loops) body ≡ true) × (well_block c (Numbers loops) rest ≡ true))
  well-loop loops site head body rest w =
      let r = and_parts (well_cond c head.cond) _ w in
      let t = and_parts (list_all (λ p. well_cond c p.1) head.clauses) _ r.1 in
      let u = and_parts (same_truth head.is_left (breaks site.number body)) _ t.1 in
      let v = and_parts (well_block c (site.number ∷ Numbers loops) body) _ u.1 in
      (both (well_cond c head.cond) _ r.0 t.0, v)
    where
      both : (p q : Bool) → p ≡ true → q ≡ true → (p && q) ≡ true
      both true q h k = k
      both false q h k = absurd (cc (h))

  -- All lists are facts of the method.
  reached-facts : (loops : List (ℕ × Head)) (k known : Known) (rest : Body) → where_reached k (λ gs. through_body (rules_at loops) gs rest) ≡ Ok known → Facts c k
      → ((gs : List Claim) → AreFactsOf c gs → through_body (rules_at loops) gs rest ≡ Ok known → Facts c known) → Facts c known
  reached-facts loops None known rest e f h = same-facts None known (cc (e)) tt
  reached-facts loops (Some gs) known rest e f h = h gs f e

  facts-alone : (loops : List (ℕ × Head)) (fs : List Claim) (first : Body) (ends : List Known) → through_blocks (rules_at loops) (fs ∷ []) (block first no_block) ≡ Ok ends
      → ((known : Known) → through_body (rules_at loops) fs first ≡ Ok known → Facts c known) → AreKnown c ends
  facts-alone loops fs first ends h f =
      let p : Blocked loops fs [] first no_block ends = blocked loops fs [] first no_block ends h in
      let none = no-blocks loops [] p.others p.rest_is in
      let P : List Known → Type 0 = λ ends. AreKnown c ends in
      subst P (ap (λ ks. p.known ∷ ks) none ∙ p.whole) (one-end p.known (f p.known p.first_is))

  facts-choose : (loops : List (ℕ × Head)) (site : Site) (t : CondTree) (x y rest : Block) (fs : List Claim) (known : Known)
      → ((k : Known) → through_body (rules_at loops) (with_condition fs t true) (body_of x) ≡ Ok k → Facts c k)
      → ((ends : List Known) → through_blocks (rules_at loops) (branch_fronts (with_condition fs t false) (reading y).conditions) (reading y).blocks ≡ Ok ends → AreKnown c ends)
      → ((gs : List Claim) → AreFactsOf c gs → through_body (rules_at loops) gs (body_of rest) ≡ Ok known → Facts c known)
      → through_body (rules_at loops) fs (statement site (branches (t ∷ (reading y).conditions)) (block (body_of x) (reading y).blocks) (body_of rest)) ≡ Ok known → Facts c known
  facts-choose loops site t x y rest fs known fx fy fr h =
      let q : Through loops fs site (branches (t ∷ (reading y).conditions)) (block (body_of x) (reading y).blocks) (body_of rest) known = through loops fs site (branches (t ∷ (reading y).conditions)) (block (body_of x) (reading y).blocks) (body_of rest) known h in
      let p : Blocked loops (with_condition fs t true) (branch_fronts (with_condition fs t false) (reading y).conditions) (body_of x) (reading y).blocks q.ends =
      blocked loops (with_condition fs t true) (branch_fronts (with_condition fs t false) (reading y).conditions) (body_of x) (reading y).blocks q.ends q.blocks_are in
      let P : List Known → Type 0 = λ ends. AreKnown c ends in
      let all = subst P p.whole (more-ends p.known p.others (fx p.known p.first_is) (fy p.others p.rest_is)) in
      reached-facts loops (merged q.ends) known (body_of rest) q.on (merged-facts q.ends all) fr

  well-choose : (loops : List (ℕ × Head)) (site : Site) (chained : Bool) (t : CondTree) (x y rest : Block) → well_block c (Numbers loops) (choose site chained t x y rest) ≡ true
      → (well_cond c t ≡ true) × ((well_block c (Numbers loops) x ≡ true) × ((well_block c (Numbers loops) y ≡ true) × (well_block c (Numbers loops) rest ≡ true)))
  well-choose loops site chained t x y rest w =
      let v = and_parts (well_cond c t) _ w in
      let v1 = and_parts (well_block c (Numbers loops) x) _ v.1 in
      let v2 = and_parts (well_block c (Numbers loops) y) _ v1.1 in
      (v.0, (v1.0, v2))

  abbrev FactsInside : Block → Type 0
  FactsInside blk = (loops : List (ℕ × Head)) (fs : List Claim) (known : Known) → well_block c (Numbers loops) blk ≡ true → AreFactsOf c fs → through_body (rules_at loops) fs (body_of blk) ≡ Ok known → Facts c known

  abbrev FactsElse : Block → Type 0
  FactsElse blk = (loops : List (ℕ × Head)) (fs : List Claim) (ends : List Known) → well_block c (Numbers loops) blk ≡ true → AreFactsOf c fs → through_blocks (rules_at loops) (branch_fronts fs (reading blk).conditions) (reading blk).blocks ≡ Ok ends → AreKnown c ends

  pub record BothFacts (blk : Block) : Type 0 where
    pub inner : FactsInside blk
    pub other : FactsElse blk

  facts-plain : (site : Site) (s : Simple) (rest : Block) → BothFacts rest → FactsInside (plain site s rest)
  facts-plain site s rest r loops fs known w f h =
      let v = and_parts (well_simple c (Numbers loops) s) _ w in
      let t : Through loops fs site (single s) no_block (body_of rest) known = through loops fs site (single s) no_block (body_of rest) known h in
      reached-facts loops (known_behind fs s) known (body_of rest) t.on (behind-facts c fs (Numbers loops) s f v.0) (λ gs g e. r.inner loops gs known v.1 g e)

  facts-loop : (site : Site) (head : Head) (body rest : Block) → BothFacts rest → FactsInside (loop site head body rest)
  facts-loop site head body rest r loops fs known w f h =
      let v = well-loop loops site head body rest w in
      let t : Through loops fs site (repeated head) (block (body_of body) no_block) (body_of rest) known = through loops fs site (repeated head) (block (body_of body) no_block) (body_of rest) known h in
      reached-facts loops (behind_loop head) known (body_of rest) t.on (loop-facts c head v.0) (λ gs g e. r.inner loops gs known v.1.1 g e)

  facts-if : (site : Site) (chained : Bool) (t : CondTree) (x y rest : Block) → BothFacts x → BothFacts y → BothFacts rest
      → (loops : List (ℕ × Head)) (fs : List Claim) (known : Known) → well_block c (Numbers loops) (choose site chained t x y rest) ≡ true → AreFactsOf c fs
      → through_body (rules_at loops) fs (statement site (branches (t ∷ (reading y).conditions)) (block (body_of x) (reading y).blocks) (body_of rest)) ≡ Ok known → Facts c known
  facts-if site chained t x y rest rx ry rr loops fs known w f h =
      let v = well-choose loops site chained t x y rest w in
      facts-choose loops site t x y rest fs known (λ k e. rx.inner loops (with_condition fs t true) k v.1.0 (condition-facts c fs t true f v.0) e)
      (λ ends e. ry.other loops (with_condition fs t false) ends v.1.1.0 (condition-facts c fs t false f v.0) e) (λ gs g e. rr.inner loops gs known v.1.1.1 g e) h

  facts-more : (site : Site) (t : CondTree) (x y rest : Block) → BothFacts x → BothFacts y → FactsElse (choose site true t x y rest)
  facts-more site t x y rest rx ry loops fs ends w f h =
      let v = well-choose loops site true t x y rest w in
      let p : Blocked loops (with_condition fs t true) (branch_fronts (with_condition fs t false) (reading y).conditions) (body_of x) (reading y).blocks ends =
      blocked loops (with_condition fs t true) (branch_fronts (with_condition fs t false) (reading y).conditions) (body_of x) (reading y).blocks ends h in
      let one = rx.inner loops (with_condition fs t true) p.known v.1.0 (condition-facts c fs t true f v.0) p.first_is in
      let others = ry.other loops (with_condition fs t false) p.others v.1.1.0 (condition-facts c fs t false f v.0) p.rest_is in
      let P : List Known → Type 0 = λ ends. AreKnown c ends in
      subst P p.whole (more-ends p.known p.others one others)

  both-facts : (blk : Block) → BothFacts blk
  both-facts end = record {
    inner = λ loops fs known w f h. same-facts (Some fs) known (cc (h)) f;
    other = λ loops fs ends w f h. facts-alone loops fs nothing_more ends h (λ known e. same-facts (Some fs) known (cc (e)) f);
  }
  both-facts (plain site s rest) =
      let r : BothFacts rest = both-facts rest in
      record { inner = facts-plain site s rest r; other = λ loops fs ends w f h. facts-alone loops fs (body_of (plain site s rest)) ends h (λ known e. facts-plain site s rest r loops fs known w f e) }
  both-facts (choose site true t x y rest) =
      let rx : BothFacts x = both-facts x in
      let ry : BothFacts y = both-facts y in
      let rr : BothFacts rest = both-facts rest in
      record { inner = λ loops fs known w f h. facts-if site true t x y rest rx ry rr loops fs known w f h; other = facts-more site t x y rest rx ry }
  both-facts (choose site false t x y rest) =
      let rx : BothFacts x = both-facts x in
      let ry : BothFacts y = both-facts y in
      let rr : BothFacts rest = both-facts rest in
      record {
        inner = λ loops fs known w f h. facts-if site false t x y rest rx ry rr loops fs known w f h;
        other = λ loops fs ends w f h. facts-alone loops fs (body_of (choose site false t x y rest)) ends h (λ known e. facts-if site false t x y rest rx ry rr loops fs known w f e);
      }
  both-facts (loop site head body rest) =
      let r : BothFacts rest = both-facts rest in
      record { inner = facts-loop site head body rest r; other = λ loops fs ends w f h. facts-alone loops fs (body_of (loop site head body rest)) ends h (λ known e. facts-loop site head body rest r loops fs known w f e) }

  facts-body : (loops : List (ℕ × Head)) (blk : Block) (fs : List Claim) (known : Known) → well_block c (Numbers loops) blk ≡ true → AreFactsOf c fs → through_body (rules_at loops) fs (body_of blk) ≡ Ok known → Facts c known
  facts-body loops blk fs known w f h = (both-facts blk).inner loops fs known w f h

  facts-else : (loops : List (ℕ × Head)) (blk : Block) (fs : List Claim) (ends : List Known) → well_block c (Numbers loops) blk ≡ true → AreFactsOf c fs
      → through_blocks (rules_at loops) (branch_fronts fs (reading blk).conditions) (reading blk).blocks ≡ Ok ends → AreKnown c ends
  facts-else loops blk fs ends w f h = (both-facts blk).other loops fs ends w f h

  -- Accepted, block by block.
  after-accepts : (loops : List (ℕ × Head)) (k known : Known) (rest : Block) → where_reached k (λ gs. through_body (rules_at loops) gs (body_of rest)) ≡ Ok known → Facts c k
      → ((gs : List Claim) → AreFactsOf c gs → through_body (rules_at loops) gs (body_of rest) ≡ Ok known → Accepts loops rest gs (λ es. known ≡ Some es))
      → After k (λ gs. AreFactsOf c gs × Accepts loops rest gs (λ es. known ≡ Some es))
  after-accepts loops None known rest e f h = tt
  after-accepts loops (Some gs) known rest e f h = (f, h gs f e)

  -- A block after an `else`, as a block of its own.
  accept-alone : (loops : List (ℕ × Head)) (blk : Block) (fs : List Claim) (ends : List Known) (out : Known) → ((i : ℕ) (es : List Claim) → slice_get ends i ≡ Some (Some es) → Joins es out)
      → through_blocks (rules_at loops) (fs ∷ []) (block (body_of blk) no_block) ≡ Ok ends
      → ((known : Known) → through_body (rules_at loops) fs (body_of blk) ≡ Ok known → Accepts loops blk fs (λ es. known ≡ Some es)) → Accepts loops blk fs (λ es. Joins es out)
  accept-alone loops blk fs ends out joins h f =
      let p : Blocked loops fs [] (body_of blk) no_block ends = blocked loops fs [] (body_of blk) no_block ends h in
      accepts-less loops blk fs (λ es. p.known ≡ Some es) (λ es. Joins es out) (λ es e. joins 0 es (ap (λ ks. slice_get ks 0) (sym p.whole) ∙ ap (λ k. Some k) e)) (f p.known p.first_is)

  no-limit : (at : Site) (fs : List Claim) (t : CondTree) (cs : List CondTree) → conditions_refusal fs at (t ∷ cs) ≡ None → (cond_refusal fs t ≡ None) × (conditions_refusal (with_condition fs t false) at cs ≡ None)
  no-limit at fs t cs h =
      let p = neither (cond_refusal fs t) _ h in
      (p.0, (neither (limit at.at (with_condition fs t false)) _ p.1).1)

  accept-choose : (loops : List (ℕ × Head)) (site : Site) (chained : Bool) (t : CondTree) (x y rest : Block) (fs : List Claim) (known : Known) → AreFactsOf c fs → well_block c (Numbers loops) (choose site chained t x y rest) ≡ true
      → through_body (rules_at loops) fs (statement site (branches (t ∷ (reading y).conditions)) (block (body_of x) (reading y).blocks) (body_of rest)) ≡ Ok known
      → ((k : Known) → through_body (rules_at loops) (with_condition fs t true) (body_of x) ≡ Ok k → Accepts loops x (with_condition fs t true) (λ es. k ≡ Some es))
      → ((ends : List Known) (out : Known) → Facts c out → ((i : ℕ) (es : List Claim) → slice_get ends i ≡ Some (Some es) → Joins es out) → conditions_refusal (with_condition fs t false) site (reading y).conditions ≡ None
      → through_blocks (rules_at loops) (branch_fronts (with_condition fs t false) (reading y).conditions) (reading y).blocks ≡ Ok ends → Accepts loops y (with_condition fs t false) (λ es. Joins es out))
      → ((gs : List Claim) → AreFactsOf c gs → through_body (rules_at loops) gs (body_of rest) ≡ Ok known → Accepts loops rest gs (λ es. known ≡ Some es))
      → Accepts loops (choose site chained t x y rest) fs (λ es. known ≡ Some es)
  accept-choose loops site chained t x y rest fs known f w h ax ay ar =
      let v = well-choose loops site chained t x y rest w in
      let q : Through loops fs site (branches (t ∷ (reading y).conditions)) (block (body_of x) (reading y).blocks) (body_of rest) known = through loops fs site (branches (t ∷ (reading y).conditions)) (block (body_of x) (reading y).blocks) (body_of rest) known h in
      let p : Blocked loops (with_condition fs t true) (branch_fronts (with_condition fs t false) (reading y).conditions) (body_of x) (reading y).blocks q.ends =
      blocked loops (with_condition fs t true) (branch_fronts (with_condition fs t false) (reading y).conditions) (body_of x) (reading y).blocks q.ends q.blocks_are in
      let P : List Known → Type 0 = λ ends. AreKnown c ends in
      let one = facts-body loops x (with_condition fs t true) p.known v.1.0 (condition-facts c fs t true f v.0) p.first_is in
      let others = facts-else loops y (with_condition fs t false) p.others v.1.1.0 (condition-facts c fs t false f v.0) p.rest_is in
      let all = subst P p.whole (more-ends p.known p.others one others) in
      let r = no-limit site fs t (reading y).conditions (neither (conditions_refusal fs site (t ∷ (reading y).conditions)) _ q.none).0 in (
        r.0,
        (
          (condition-facts c fs t true f v.0, condition-facts c fs t false f v.0),
          (
            merged q.ends,
            accepts-less loops x (with_condition fs t true) (λ es. p.known ≡ Some es) (λ es. Joins es (merged q.ends)) (λ es e. joins-merged q.ends 0 es all (ap (λ ks. slice_get ks 0) (sym p.whole) ∙ ap (λ k. Some k) e)) (ax p.known p.first_is),
            ay p.others (merged q.ends) (merged-facts q.ends all) (λ i es e. joins-merged q.ends (suc i) es all (ap (λ ks. slice_get ks (suc i)) (sym p.whole) ∙ e)) r.1 p.rest_is,
            after-accepts loops (merged q.ends) known rest q.on (merged-facts q.ends all) ar,
          ),
        ),
      )

  well-made : (site : Site) (chained : Bool) (t : CondTree) (x y rest : Block) → well_made (choose site chained t x y rest) ≡ true → ((not chained || is_end rest) ≡ true) × ((well_made x ≡ true) × ((well_made y ≡ true) × (well_made rest ≡ true)))
  well-made site chained t x y rest m =
      let p = and_parts (not chained || is_end rest) _ m in
      let q = and_parts (well_made x) _ p.1 in
      let r = and_parts (well_made y) _ q.1 in
      (p.0, (q.0, r))

  abbrev AcceptsInside : Block → Type 0
  AcceptsInside blk = (loops : List (ℕ × Head)) (fs : List Claim) (known : Known) → well_block c (Numbers loops) blk ≡ true → well_made blk ≡ true → AreFactsOf c fs → through_body (rules_at loops) fs (body_of blk) ≡ Ok known
      → Accepts loops blk fs (λ es. known ≡ Some es)

  abbrev AcceptsElse : Block → Type 0
  AcceptsElse blk = (loops : List (ℕ × Head)) (fs : List Claim) (ends : List Known) (out : Known) (at : Site) → well_block c (Numbers loops) blk ≡ true → well_made blk ≡ true → AreFactsOf c fs → Facts c out
      → ((i : ℕ) (es : List Claim) → slice_get ends i ≡ Some (Some es) → Joins es out) → conditions_refusal fs at (reading blk).conditions ≡ None
      → through_blocks (rules_at loops) (branch_fronts fs (reading blk).conditions) (reading blk).blocks ≡ Ok ends → Accepts loops blk fs (λ es. Joins es out)

  pub record BothAccept (blk : Block) : Type 0 where
    pub inner : AcceptsInside blk
    pub other : AcceptsElse blk

  accept-plain : (site : Site) (s : Simple) (rest : Block) → BothAccept rest → AcceptsInside (plain site s rest)
  accept-plain site s rest rr loops fs known w m f h =
      let v = and_parts (well_simple c (Numbers loops) s) _ w in
      let n = and_parts (hands_on_well s) _ m in
      let t : Through loops fs site (single s) no_block (body_of rest) known = through loops fs site (single s) no_block (body_of rest) known h in
      (t.none, after-accepts loops (known_behind fs s) known rest t.on (behind-facts c fs (Numbers loops) s f v.0) (λ gs g e. rr.inner loops gs known v.1 n.1 g e))

  accept-if : (site : Site) (chained : Bool) (t : CondTree) (x y rest : Block) → BothAccept x → BothAccept y → BothAccept rest
      → (loops : List (ℕ × Head)) (fs : List Claim) (known : Known) → well_block c (Numbers loops) (choose site chained t x y rest) ≡ true → well_made (choose site chained t x y rest) ≡ true → AreFactsOf c fs
      → through_body (rules_at loops) fs (statement site (branches (t ∷ (reading y).conditions)) (block (body_of x) (reading y).blocks) (body_of rest)) ≡ Ok known
      → Accepts loops (choose site chained t x y rest) fs (λ es. known ≡ Some es)
  accept-if site chained t x y rest rx ry rr loops fs known w m f h =
      let v = well-choose loops site chained t x y rest w in
      let n = well-made site chained t x y rest m in
      accept-choose loops site chained t x y rest fs known f w h (λ k e. rx.inner loops (with_condition fs t true) k v.1.0 n.1.0 (condition-facts c fs t true f v.0) e)
      (λ ends out o j r e. ry.other loops (with_condition fs t false) ends out site v.1.1.0 n.1.1.0 (condition-facts c fs t false f v.0) o j r e) (λ gs g e. rr.inner loops gs known v.1.1.1 n.1.1.1 g e)

  accept-loop : (site : Site) (head : Head) (body rest : Block) → BothAccept body → BothAccept rest → AcceptsInside (loop site head body rest)
  accept-loop site head body rest rb rr loops fs known w m f h =
      let v = well-loop loops site head body rest w in
      let n = and_parts (well_made body) _ m in
      let t : Through loops fs site (repeated head) (block (body_of body) no_block) (body_of rest) known = through loops fs site (repeated head) (block (body_of body) no_block) (body_of rest) known h in
      let p : Blocked ((site.number, head) ∷ loops) (body_list (head_list head) head) [] (body_of body) no_block t.ends = blocked ((site.number, head) ∷ loops) (body_list (head_list head) head) [] (body_of body) no_block t.ends t.blocks_are in
      let b = body-facts c head v.0 in
      let k = rb.inner ((site.number, head) ∷ loops) (body_list (head_list head) head) p.known v.1.0 n.0 b p.first_is in
      let a = neither (ways_back_refusal head t.ends) _ t.end_none in (
        t.none,
        (
          b,
          (
            accepts-less ((site.number, head) ∷ loops) body (body_list (head_list head) head) (λ es. p.known ≡ Some es) (λ es. way_back_refusal es head.close head ≡ None) (λ es e. back t.ends p.known p.others es p.whole e a.0) k,
            after-accepts loops (behind_loop head) known rest t.on (loop-facts c head v.0) (λ gs g e. rr.inner loops gs known v.1.1 n.1 g e),
          ),
        ),
      )
    where
      back : (ends : List Known) (k : Known) (others : List Known) (es : List Claim) → k ∷ others ≡ ends → k ≡ Some es → ways_back_refusal head ends ≡ None → way_back_refusal es head.close head ≡ None
      back ends k others es whole e a =
          let P : List Known → Type 0 = λ ends. ways_back_refusal head ends ≡ None in
          let Q : Known → Type 0 = λ k. ways_back_refusal head (k ∷ others) ≡ None in
          (neither (way_back_refusal es head.close head) _ (subst Q e (subst P (sym whole) a))).0

  accept-more : (site : Site) (t : CondTree) (x y : Block) → BothAccept x → BothAccept y → AcceptsElse (choose site true t x y end)
  accept-more site t x y rx ry loops fs ends out at w m f o j r h =
      let v = well-choose loops site true t x y end w in
      let n = well-made site true t x y end m in
      let p : Blocked loops (with_condition fs t true) (branch_fronts (with_condition fs t false) (reading y).conditions) (body_of x) (reading y).blocks ends =
      blocked loops (with_condition fs t true) (branch_fronts (with_condition fs t false) (reading y).conditions) (body_of x) (reading y).blocks ends h in
      let l = no-limit at fs t (reading y).conditions r in (
        l.0,
        (
          (condition-facts c fs t true f v.0, condition-facts c fs t false f v.0),
          (
            out,
            accepts-less loops x (with_condition fs t true) (λ es. p.known ≡ Some es) (λ es. Joins es out) (λ es e. j 0 es (ap (λ ks. slice_get ks 0) (sym p.whole) ∙ ap (λ k. Some k) e)) (rx.inner loops (with_condition fs t true) p.known v.1.0 n.1.0 (condition-facts c fs t true f v.0) p.first_is),
            ry.other loops (with_condition fs t false) p.others out at v.1.1.0 n.1.1.0 (condition-facts c fs t false f v.0) o (λ i es e. j (suc i) es (ap (λ ks. slice_get ks (suc i)) (sym p.whole) ∙ e)) l.1 p.rest_is,
            itself out o,
          ),
        ),
      )
    where
      itself : (out : Known) → Facts c out → After out (λ gs. AreFactsOf c gs × Joins gs out)
      itself None o = tt
      itself (Some gs) o = (o, λ s all. all)

  accept-chained : (site : Site) (t : CondTree) (x y rest : Block) → BothAccept x → BothAccept y → AcceptsElse (choose site true t x y rest)
  accept-chained site t x y end rx ry = accept-more site t x y rx ry
  accept-chained site t x y (plain site2 s2 rest2) rx ry = λ loops fs ends out at w m f o j r h. absurd (cc ((well-made site true t x y (plain site2 s2 rest2) m).0))
  accept-chained site t x y (choose site2 ch2 t2 x2 y2 rest2) rx ry = λ loops fs ends out at w m f o j r h. absurd (cc ((well-made site true t x y (choose site2 ch2 t2 x2 y2 rest2) m).0))
  accept-chained site t x y (loop site2 head2 body2 rest2) rx ry = λ loops fs ends out at w m f o j r h. absurd (cc ((well-made site true t x y (loop site2 head2 body2 rest2) m).0))

  both-accept : (blk : Block) → BothAccept blk
  both-accept end = record {
    inner = λ loops fs known w m f h. sym (cc (h));
    other = λ loops fs ends out at w m f o j r h. accept-alone loops end fs ends out j h (λ known e. sym (cc (e)));
  }
  both-accept (plain site s rest) =
      let rr : BothAccept rest = both-accept rest in
      record {
        inner = accept-plain site s rest rr;
        other = λ loops fs ends out at w m f o j r h. accept-alone loops (plain site s rest) fs ends out j h (λ known e. accept-plain site s rest rr loops fs known w m f e);
      }
  both-accept (choose site true t x y rest) =
      let rx : BothAccept x = both-accept x in
      let ry : BothAccept y = both-accept y in
      let rr : BothAccept rest = both-accept rest in
      record { inner = λ loops fs known w m f h. accept-if site true t x y rest rx ry rr loops fs known w m f h; other = accept-chained site t x y rest rx ry }
  both-accept (choose site false t x y rest) =
      let rx : BothAccept x = both-accept x in
      let ry : BothAccept y = both-accept y in
      let rr : BothAccept rest = both-accept rest in
      record {
        inner = λ loops fs known w m f h. accept-if site false t x y rest rx ry rr loops fs known w m f h;
        other = λ loops fs ends out at w m f o j r h. accept-alone loops (choose site false t x y rest) fs ends out j h (λ known e. accept-if site false t x y rest rx ry rr loops fs known w m f e);
      }
  both-accept (loop site head body rest) =
      let rb : BothAccept body = both-accept body in
      let rr : BothAccept rest = both-accept rest in
      record {
        inner = accept-loop site head body rest rb rr;
        other = λ loops fs ends out at w m f o j r h. accept-alone loops (loop site head body rest) fs ends out j h (λ known e. accept-loop site head body rest rb rr loops fs known w m f e);
      }

  -- What the rules accept of a block is accepted block by block.
  pub accepted-block : (loops : List (ℕ × Head)) (blk : Block) (fs : List Claim) (known : Known) → well_block c (map (λ l. l.0) loops) blk ≡ true → well_made blk ≡ true → AreFactsOf c fs → through_body (rules_at loops) fs (body_of blk) ≡ Ok known
      → Accepts loops blk fs (λ es. known ≡ Some es)
  accepted-block loops blk fs known w m f h = (both-accept blk).inner loops fs known w m f h
