-- The places of a body that a run comes to keep the rules of types.
use Rattle.std.proofs.Common.{◌≡◌, inl, inr, ℕ, Bool, true, false, not, ◌&&◌, ◌||◌, List, [], ◌∷◌, map, Some, refl, sym, ap, ◌∙◌, subst, nat_eq, arith}
use Rattle.std.specs.List.{list_all}
use Rattle.std.proofs.lemmas.Bool.{and_parts, or_cases}
use Rattle.std.proofs.lemmas.Bool.Decides.{nat_tests}
use Rattle.wf_ast.specs.TypedTree.{CondTree, Simple, assign, await, perform, invoke, break_from, continue_in, give_back, yield, claim, Site, Head, Block, end, plain, choose, loop}
use Rattle.wf_ast.specs.Value.{same_truth}
use Rattle.wf_ast.specs.WellTyped.{Context, number_of, calls_only, breaks, well_cond, well_simple, well_block}
use Rattle.wf_loops.specs.LoopLaws.{well_head}
use Rattle.wf_meaning.specs.SourceState.{Behind, stop, behind_if, again}
use Rattle.wf_meaning.specs.Remaining.{Marker, marker_of}
use Rattle.wf_sound.specs.Positions.{loops_round, well_here, well_behind, well_at, hands_on_well}
use Rattle.wf_sound_runs.specs.Chains.{is_end, well_made, made_behind, body_calls, calls_behind}

both : (p q : Bool) → p ≡ true → q ≡ true → (p && q) ≡ true
both true q h k = k
both false q h k = absurd (cc (h))

or_left : (p q : Bool) → p ≡ true → (p || q) ≡ true
or_left true q h = refl
or_left false q h = absurd (cc (h))

or_right : (p q : Bool) → q ≡ true → (p || q) ≡ true
or_right true q h = refl
or_right false q h = h

-- A part of a block leaves no loop by `break` that the block doesn't leave.
abbrev Within : Block → Block → Type 0
Within part whole = (n : ℕ) → breaks n part ≡ true → breaks n whole ≡ true

marks-less : (part whole : Block) → Within part whole → (ls : List (ℕ × Head)) → list_all (λ l. not (breaks l.0 whole) || l.1.is_left) ls ≡ true → list_all (λ l. not (breaks l.0 part) || l.1.is_left) ls ≡ true
marks-less part whole f [] h = refl
marks-less part whole f (l ∷ ls) h =
    let p = and_parts (not (breaks l.0 whole) || l.1.is_left) _ h in
    both (not (breaks l.0 part) || l.1.is_left) _ (by (breaks l.0 part) (breaks l.0 whole) (f l.0) p.0) (marks-less part whole f ls p.1)
  where
    by : (p q : Bool) → (p ≡ true → q ≡ true) → (not q || l.1.is_left) ≡ true → (not p || l.1.is_left) ≡ true
    by false q g h = refl
    by true true g h = h
    by true false g h = absurd (cc (g refl))

behind-breaks : (site : Site) (s : Simple) (rest : Block) → Within rest (plain site s rest)
behind-breaks site (break_from v) rest n h = or_right (nat_eq v n) _ h
behind-breaks site (assign target op v) rest n h = h
behind-breaks site (await at target a call) rest n h = h
behind-breaks site (perform at target call) rest n h = h
behind-breaks site (invoke at target keep mark called vs) rest n h = h
behind-breaks site (continue_in v) rest n h = h
behind-breaks site (give_back v) rest n h = h
behind-breaks site (yield v) rest n h = h
behind-breaks site (claim goal by) rest n h = h

module _ (c : Context) where
  -- A place that keeps them, as a whole.
  pub record Placed (block : Block) (behind : Behind) : Type 0 where
    pub well : well_at c block behind ≡ true
    pub made : well_made block ≡ true
    pub others : made_behind behind ≡ true
    pub calls : calls_only (body_calls c.method.body) block ≡ true
    pub calls_others : calls_behind (body_calls c.method.body) behind ≡ true

  abbrev only : ℕ → Bool
  only = body_calls c.method.body

  calls-rest : (site : Site) (s : Simple) (rest : Block) → calls_only only (plain site s rest) ≡ true → calls_only only rest ≡ true
  calls-rest site (invoke at target keep mark called vs) rest h = (and_parts (only (number_of called)) _ h).1
  calls-rest site (assign target op v) rest h = h
  calls-rest site (await at target a call) rest h = h
  calls-rest site (perform at target call) rest h = h
  calls-rest site (break_from v) rest h = h
  calls-rest site (continue_in v) rest h = h
  calls-rest site (give_back v) rest h = h
  calls-rest site (yield v) rest h = h
  calls-rest site (claim goal by) rest h = h

  abbrev Numbers : Behind → List ℕ
  Numbers behind = map (λ l. l.0) (loops_round behind)

  here : (block : Block) (behind : Behind) → well_block c (Numbers behind) block ≡ true → list_all (λ l. not (breaks l.0 block) || l.1.is_left) (loops_round behind) ≡ true → well_here c block behind ≡ true
  here block behind h k = both (well_block c (Numbers behind) block) _ h k

  pub record Parts (block : Block) (behind : Behind) : Type 0 where
    pub block_well : well_block c (Numbers behind) block ≡ true
    pub marks : list_all (λ l. not (breaks l.0 block) || l.1.is_left) (loops_round behind) ≡ true
    pub behind_well : well_behind c behind ≡ true

  pub parts : (block : Block) (behind : Behind) → well_at c block behind ≡ true → Parts block behind
  parts block behind h =
      let p = and_parts (well_here c block behind) _ h in
      let q = and_parts (well_block c (Numbers behind) block) _ p.0 in
      record { block_well = q.0; marks = q.1; behind_well = p.1 }

  -- After a statement.
  pub placed-rest : (site : Site) (s : Simple) (rest : Block) (behind : Behind) → Placed (plain site s rest) behind → Placed rest behind
  placed-rest site s rest behind h =
      let x : Parts (plain site s rest) behind = parts (plain site s rest) behind h.well in
      let w = and_parts (well_simple c (Numbers behind) s) _ x.block_well in
      record {
        well = both (well_here c rest behind) _ (here rest behind w.1 (marks-less rest (plain site s rest) (behind-breaks site s rest) (loops_round behind) x.marks)) x.behind_well;
        made = (and_parts (hands_on_well s) _ h.made).1;
        others = h.others;
        calls = calls-rest site s rest h.calls;
        calls_others = h.calls_others;
      }

  -- Into an `if`.
  pub record PlacedIf (t : CondTree) (x y rest : Block) (behind : Behind) : Type 0 where
    pub cond : well_cond c t ≡ true
    pub first : Placed x (behind_if rest behind)
    pub other : Placed y (behind_if rest behind)
    pub after : Placed rest behind

  pub placed-if : (site : Site) (chained : Bool) (t : CondTree) (x y rest : Block) (behind : Behind) → Placed (choose site chained t x y rest) behind → PlacedIf t x y rest behind
  placed-if site chained t x y rest behind h =
      let p : Parts (choose site chained t x y rest) behind = parts (choose site chained t x y rest) behind h.well in
      let w = and_parts (well_cond c t) _ p.block_well in
      let w1 = and_parts (well_block c (Numbers behind) x) _ w.1 in
      let w2 = and_parts (well_block c (Numbers behind) y) _ w1.1 in
      let m = and_parts (not chained || is_end rest) _ h.made in
      let m1 = and_parts (well_made x) _ m.1 in
      let m2 = and_parts (well_made y) _ m1.1 in
      let r = here rest behind w2.1 (marks-less rest (choose site chained t x y rest) (λ n e. or_right (breaks n x) _ (or_right (breaks n y) _ e)) (loops_round behind) p.marks) in
      let b = both (well_here c rest behind) _ r p.behind_well in
      let o = both (well_made rest) _ m2.1 h.others in
      let k = and_parts (calls_only only x) _ h.calls in
      let k1 = and_parts (calls_only only y) _ k.1 in
      let ko = both (calls_only only rest) _ k1.1 h.calls_others in
      record {
        cond = w.0;
        first = record { well = both (well_here c x (behind_if rest behind)) _ (here x (behind_if rest behind) w1.0 (marks-less x (choose site chained t x y rest) (λ n e. or_left (breaks n x) _ e) (loops_round behind) p.marks)) b; made = m1.0; others = o; calls = k.0; calls_others = ko };
        other = record { well = both (well_here c y (behind_if rest behind)) _ (here y (behind_if rest behind) w2.0 (marks-less y (choose site chained t x y rest) (λ n e. or_right (breaks n x) _ (or_left (breaks n y) _ e)) (loops_round behind) p.marks)) b; made = m2.0; others = o; calls = k1.0; calls_others = ko };
        after = record { well = b; made = m2.1; others = h.others; calls = k1.1; calls_others = h.calls_others };
      }

  -- Into a loop.
  pub record PlacedLoop (site : Site) (head : Head) (body rest : Block) (behind : Behind) : Type 0 where
    pub head_well : well_head c head ≡ true
    pub inner : Placed body (again site head body rest behind)
    pub after : Placed rest behind

  pub placed-loop : (site : Site) (head : Head) (body rest : Block) (behind : Behind) → Placed (loop site head body rest) behind → PlacedLoop site head body rest behind
  placed-loop site head body rest behind h =
      let p : Parts (loop site head body rest) behind = parts (loop site head body rest) behind h.well in
      let w = and_parts (well_cond c head.cond) _ p.block_well in
      let w1 = and_parts (list_all (λ p. well_cond c p.1) head.clauses) _ w.1 in
      let w2 = and_parts (same_truth head.is_left (breaks site.number body)) _ w1.1 in
      let w3 = and_parts (well_block c (site.number ∷ Numbers behind) body) _ w2.1 in
      let m = and_parts (well_made body) _ h.made in
      let hw = both (well_cond c head.cond) _ w.0 w1.0 in
      let r = here rest behind w3.1 (marks-less rest (loop site head body rest) (λ n e. or_right (breaks n body) _ e) (loops_round behind) p.marks) in
      let inner = marks-less body (loop site head body rest) (λ n e. or_left (breaks n body) _ e) (loops_round behind) p.marks in
      let i = here body (again site head body rest behind) w3.0 (both (not (breaks site.number body) || head.is_left) _ (left head.is_left (breaks site.number body) w2.0) inner) in
      let o = both (well_made body) _ m.0 (both (well_made rest) _ m.1 h.others) in
      let k = and_parts (calls_only only body) _ h.calls in
      let ko = both (calls_only only body) _ k.0 (both (calls_only only rest) _ k.1 h.calls_others) in
      record {
        head_well = hw;
        inner = record { well = both (well_here c body (again site head body rest behind)) _ i (both (well_head c head) _ hw (both (well_here c body (again site head body rest behind)) _ i (both (well_here c rest behind) _ r p.behind_well))); made = m.0; others = o; calls = k.0; calls_others = ko };
        after = record { well = both (well_here c rest behind) _ r p.behind_well; made = m.1; others = h.others; calls = k.1; calls_others = h.calls_others };
      }
    where
      left : (l b : Bool) → same_truth l b ≡ true → (not b || l) ≡ true
      left true true h = refl
      left true false h = refl
      left false false h = refl
      left false true h = absurd (cc (h))

  -- At the end of a block of an `if`, and of a loop's body.
  pub placed-join : (rest : Block) (behind : Behind) → Placed end (behind_if rest behind) → Placed rest behind
  placed-join rest behind h =
      let p : Parts end (behind_if rest behind) = parts end (behind_if rest behind) h.well in
      let m = and_parts (well_made rest) _ h.others in
      let k = and_parts (calls_only only rest) _ h.calls_others in
      record { well = p.behind_well; made = m.0; others = m.1; calls = k.0; calls_others = k.1 }

  -- The marker of a loop stands among what follows.
  pub record PlacedMarker (site : Site) (head : Head) (body rest : Block) (behind : Behind) : Type 0 where
    pub marker : well_behind c (again site head body rest behind) ≡ true
    pub made : made_behind (again site head body rest behind) ≡ true
    pub calls : calls_behind (body_calls c.method.body) (again site head body rest behind) ≡ true

  pub marker-loop : (site : Site) (head : Head) (body rest : Block) (behind : Behind) → PlacedMarker site head body rest behind → PlacedLoop site head body rest behind
  marker-loop site head body rest behind h =
      let p = and_parts (well_head c head) _ h.marker in
      let q = and_parts (well_here c body (again site head body rest behind)) _ p.1 in
      let m = and_parts (well_made body) _ h.made in
      let n = and_parts (well_made rest) _ m.1 in
      let k = and_parts (calls_only only body) _ h.calls in
      let k1 = and_parts (calls_only only rest) _ k.1 in
      record {
        head_well = p.0;
        inner = record { well = both (well_here c body (again site head body rest behind)) _ q.0 h.marker; made = m.0; others = h.made; calls = k.0; calls_others = h.calls };
        after = record { well = q.1; made = n.0; others = n.1; calls = k1.0; calls_others = k1.1 };
      }

  pub marker-end : (site : Site) (head : Head) (body rest : Block) (behind : Behind) → PlacedMarker site head body rest behind → Placed end (again site head body rest behind)
  marker-end site head body rest behind h = record { well = both (well_here c end (again site head body rest behind)) _ (nothing (loops_round behind)) h.marker; made = refl; others = h.made; calls = refl; calls_others = h.calls }
    where
      nothing : (ls : List (ℕ × Head)) → list_all (λ l. not (breaks l.0 end) || l.1.is_left) ls ≡ true
      nothing [] = refl
      nothing (l ∷ ls) = nothing ls

  pub end-marker : (site : Site) (head : Head) (body rest : Block) (behind : Behind) → Placed end (again site head body rest behind) → PlacedMarker site head body rest behind
  end-marker site head body rest behind h =
      let p : Parts end (again site head body rest behind) = parts end (again site head body rest behind) h.well in
      record { marker = p.behind_well; made = h.others; calls = h.calls_others }

  -- What every part of what follows keeps, the marker that is found keeps.
  pub found-marker : (Q : Behind → Type 0) → ((rest : Block) (behind : Behind) → Q (behind_if rest behind) → Q behind)
      → ((site : Site) (head : Head) (body rest : Block) (behind : Behind) → Q (again site head body rest behind) → Q behind)
      → (w : ℕ) (behind : Behind) (m : Marker) → marker_of w behind ≡ Some m → Q behind → Q (again m.site m.head m.body m.rest m.behind)
  found-marker Q f g w stop m e q = absurd (cc (e))
  found-marker Q f g w (behind_if rest behind) m e q = found-marker Q f g w behind m e (f rest behind q)
  found-marker Q f g w (again site head body rest behind) m e q = by (nat_eq site.number w) refl (λ k. found-marker Q f g w behind m k (g site head body rest behind q))
    where
      found : Marker
      found = record { site = site; head = head; body = body; rest = rest; behind = behind }

      by : (t : Bool) → nat_eq site.number w ≡ t → (marker_of w behind ≡ Some m → Q (again m.site m.head m.body m.rest m.behind)) → Q (again m.site m.head m.body m.rest m.behind)
      by true i k =
          let same1 : Some found ≡ Some m = sym (rw i refl) ∙ e in
          let same : found ≡ m = cc (same1) in
          let P : Marker → Type 0 = λ m. Q (again m.site m.head m.body m.rest m.behind) in
          subst P same q
      by false i k = k (sym (rw i refl) ∙ e)

  pub placed-marker : (w : ℕ) (block : Block) (behind : Behind) (m : Marker) → marker_of w behind ≡ Some m → Placed block behind → PlacedMarker m.site m.head m.body m.rest m.behind
  placed-marker w block behind m e h =
      let p : Parts block behind = parts block behind h.well in
      let r = found-marker (λ behind. (well_behind c behind ≡ true) × ((made_behind behind ≡ true) × (calls_behind only behind ≡ true))) (λ rest k q. if_tail rest k q) (λ site head body rest k q. again_tail site head body rest k q) w behind m e (p.behind_well, (h.others, h.calls_others)) in
      record { marker = r.0; made = r.1.0; calls = r.1.1 }
    where
      if_tail : (rest : Block) (k : Behind) → (well_behind c (behind_if rest k) ≡ true) × ((made_behind (behind_if rest k) ≡ true) × (calls_behind only (behind_if rest k) ≡ true)) → (well_behind c k ≡ true) × ((made_behind k ≡ true) × (calls_behind only k ≡ true))
      if_tail rest k q = ((and_parts (well_here c rest k) _ q.0).1, ((and_parts (well_made rest) _ q.1.0).1, (and_parts (calls_only only rest) _ q.1.1).1))

      again_tail : (site : Site) (head : Head) (body rest : Block) (k : Behind) → (well_behind c (again site head body rest k) ≡ true) × ((made_behind (again site head body rest k) ≡ true) × (calls_behind only (again site head body rest k) ≡ true)) → (well_behind c k ≡ true) × ((made_behind k ≡ true) × (calls_behind only k ≡ true))
      again_tail site head body rest k q =
          let a = and_parts (well_head c head) _ q.0 in
          let b = and_parts (well_here c body (again site head body rest k)) _ a.1 in
          let d = and_parts (well_here c rest k) _ b.1 in
          let m = and_parts (well_made body) _ q.1.0 in
          let n = and_parts (calls_only only body) _ q.1.1 in
          (d.1, ((and_parts (well_made rest) _ m.1).1, (and_parts (calls_only only rest) _ n.1).1))

-- The methods that a block calls.
pub calls-weaker : (f g : ℕ → Bool) (blk : Block) → ((n : ℕ) → f n ≡ true → g n ≡ true) → calls_only f blk ≡ true → calls_only g blk ≡ true
calls-weaker f g end h k = refl
calls-weaker f g (plain site (invoke at target keep mark called vs) rest) h k = let p = and_parts (f (number_of called)) _ k in both (g (number_of called)) _ (h (number_of called) p.0) (calls-weaker f g rest h p.1)
calls-weaker f g (plain site (assign target op v) rest) h k = calls-weaker f g rest h k
calls-weaker f g (plain site (await at target a call) rest) h k = calls-weaker f g rest h k
calls-weaker f g (plain site (perform at target call) rest) h k = calls-weaker f g rest h k
calls-weaker f g (plain site (break_from v) rest) h k = calls-weaker f g rest h k
calls-weaker f g (plain site (continue_in v) rest) h k = calls-weaker f g rest h k
calls-weaker f g (plain site (give_back v) rest) h k = calls-weaker f g rest h k
calls-weaker f g (plain site (yield v) rest) h k = calls-weaker f g rest h k
calls-weaker f g (plain site (claim goal by) rest) h k = calls-weaker f g rest h k
calls-weaker f g (choose site chained t a b rest) h k =
    let p = and_parts (calls_only f a) _ k in
    let q = and_parts (calls_only f b) _ p.1 in
    both (calls_only g a) _ (calls-weaker f g a h p.0) (both (calls_only g b) _ (calls-weaker f g b h q.0) (calls-weaker f g rest h q.1))
calls-weaker f g (loop site head body rest) h k =
    let p = and_parts (calls_only f body) _ k in
    both (calls_only g body) _ (calls-weaker f g body h p.0) (calls-weaker f g rest h p.1)

-- A block calls only what it calls.
pub calls-itself : (blk : Block) → calls_only (body_calls blk) blk ≡ true
calls-itself end = refl
calls-itself (plain site (invoke at target keep mark called vs) rest) =
    both (nat_eq (number_of called) (number_of called) || body_calls rest (number_of called)) _ (or_left (nat_eq (number_of called) (number_of called)) _ (grind (arith, nat_tests)))
    (calls-weaker (body_calls rest) (body_calls (plain site (invoke at target keep mark called vs) rest)) rest (λ n h. or_right (nat_eq (number_of called) n) _ h) (calls-itself rest))
calls-itself (plain site (assign target op v) rest) = calls-itself rest
calls-itself (plain site (await at target a call) rest) = calls-itself rest
calls-itself (plain site (perform at target call) rest) = calls-itself rest
calls-itself (plain site (break_from v) rest) = calls-itself rest
calls-itself (plain site (continue_in v) rest) = calls-itself rest
calls-itself (plain site (give_back v) rest) = calls-itself rest
calls-itself (plain site (yield v) rest) = calls-itself rest
calls-itself (plain site (claim goal by) rest) = calls-itself rest
calls-itself (choose site chained t a b rest) =
    let all = body_calls (choose site chained t a b rest) in
    both (calls_only all a) _ (calls-weaker (body_calls a) (body_calls (choose site chained t a b rest)) a (λ n h. or_left (body_calls a n) _ h) (calls-itself a))
    (both (calls_only all b) _ (calls-weaker (body_calls b) (body_calls (choose site chained t a b rest)) b (λ n h. or_right (body_calls a n) _ (or_left (body_calls b n) _ h)) (calls-itself b))
    (calls-weaker (body_calls rest) (body_calls (choose site chained t a b rest)) rest (λ n h. or_right (body_calls a n) _ (or_right (body_calls b n) _ h)) (calls-itself rest)))
calls-itself (loop site head body rest) =
    both (calls_only (body_calls (loop site head body rest)) body) _ (calls-weaker (body_calls body) (body_calls (loop site head body rest)) body (λ n h. or_left (body_calls body n) _ h) (calls-itself body))
    (calls-weaker (body_calls rest) (body_calls (loop site head body rest)) rest (λ n h. or_right (body_calls body n) _ h) (calls-itself rest))

-- What a block that calls only some methods calls is one of them.
pub called-known : (known : ℕ → Bool) (blk : Block) (n : ℕ) → calls_only known blk ≡ true → body_calls blk n ≡ true → known n ≡ true
called-known known end n h k = absurd (cc (k))
called-known known (plain site (invoke at target keep mark called vs) rest) n h k =
    let p = and_parts (known (number_of called)) _ h in
    elim (or_cases (nat_eq (number_of called) n) _ k) [
      | inl e ↦ let same : number_of called ≡ n = grind (arith, nat_tests, e) in sym (ap known same) ∙ p.0
      | inr e ↦ called-known known rest n p.1 e
    ]
called-known known (plain site (assign target op v) rest) n h k = called-known known rest n h k
called-known known (plain site (await at target a call) rest) n h k = called-known known rest n h k
called-known known (plain site (perform at target call) rest) n h k = called-known known rest n h k
called-known known (plain site (break_from v) rest) n h k = called-known known rest n h k
called-known known (plain site (continue_in v) rest) n h k = called-known known rest n h k
called-known known (plain site (give_back v) rest) n h k = called-known known rest n h k
called-known known (plain site (yield v) rest) n h k = called-known known rest n h k
called-known known (plain site (claim goal by) rest) n h k = called-known known rest n h k
called-known known (choose site chained t a b rest) n h k =
    let p = and_parts (calls_only known a) _ h in
    let q = and_parts (calls_only known b) _ p.1 in
    elim (or_cases (body_calls a n) _ k) [
      | inl e ↦ called-known known a n p.0 e
      | inr e ↦ elim (or_cases (body_calls b n) _ e) [
        | inl i ↦ called-known known b n q.0 i
        | inr i ↦ called-known known rest n q.1 i
      ]
    ]
called-known known (loop site head body rest) n h k =
    let p = and_parts (calls_only known body) _ h in
    elim (or_cases (body_calls body n) _ k) [
      | inl e ↦ called-known known body n p.0 e
      | inr e ↦ called-known known rest n p.1 e
    ]
