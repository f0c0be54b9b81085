-- The loops that `break` and `continue` name have numbers that are spelt apart, and the markers that the source goes on with.
use Rattle.std.proofs.Common.{◌≡◌, inl, inr, ℕ, ◌<◌, ◌^◌, Bool, true, false, ◌||◌, ◌&&◌, List, [], ◌∷◌, ◌++◌, Option, Some, None, nat_eq, refl, sym, ap, ◌∙◌, subst, arith}
use Rattle.std.specs.Prelude.{IfSome, if◌then◌else◌}
use Rattle.std.proofs.lemmas.Bool.Decides.{nat_tests}
use Rattle.std.proofs.lemmas.List.Folds.{list_any-append}
use Rattle.wf_ast.specs.TypedPackage.{package_of}
use Rattle.wf_ast.specs.TypedTree.{CondTree, Simple, break_from, continue_in, assign, await, perform, invoke, give_back, yield, claim, Site, Head, Block, end, plain, choose, loop}
use Rattle.wf_ast.specs.WellTyped.{Context, breaks, well_block, well_simple, well_cond}
use Rattle.wf_ast.proofs.Arena.{both_true}
use Rattle.wf_meaning.specs.Remaining.{marker_of}
use Rattle.wf_lower_stmts.specs.Lower.{continues, Trail, top, within_if, in_loop, behind_of, Loop}
use Rattle.wf_lower_laws.specs.LoopLaw.{LoopsAreSpelt, broken_loop, continued_loop, AllJumps, marker_at, IsMarked, LoopsAreMarked}
use Rattle.wf_lower_laws.proofs.Apart.{has, left_or, right_or, same_number}
use Rattle.wf_lower_laws.proofs.JumpLaw.{block_rules, method_rules, all_methods}
use Rattle.wf_lower_laws.proofs.Loops.{loops_in, loops_of, Named, Inside, whole, inside_rest, inside_then, inside_else, inside_behind, inside_loop, inside_after, jump_finds}
use Rattle.wf_lower_laws.proofs.Numbers.{has_loops, are_spelt}

-- The loop with a number of those that a trail stands in, with its marker.
record Met (w : ℕ) (t : Trail) : Type 0 where
  pub named : Named w t
  pub marked : marker_of w (behind_of t) ≡ Some (marker_at named.it)

met : (w : ℕ) (t : Trail) → has (loops_of t) w ≡ true → Met w t
met w top h = absurd (cc h)
met w (within_if passed rest t) h =
    let m = met w t h in
    record { named = record { it = m.named.it; around = m.named.around; number = m.named.number }; marked = m.marked }
met w (in_loop site head body rest t) h = by (nat_eq site.number w) refl (met w t)
  where
    by : (b : Bool) → nat_eq site.number w ≡ b → (has (loops_of t) w ≡ true → Met w t) → Met w (in_loop site head body rest t)
    by true e more =
        let it : Loop = record { site = site; head = head; body = body; rest = rest; trail = t } in
        record {
          named = record { it = it; around = inl refl; number = grind (arith, nat_tests, e) };
          marked = ap (λ b. if b then Some (marker_at it) else marker_of w (behind_of t)) e;
        }
    by false e more =
        let it : Loop = record { site = site; head = head; body = body; rest = rest; trail = t } in
        let other : nat_eq w site.number ≡ false = grind (arith, nat_tests, e) in
        let P : Bool → Type 0 = λ b. (b || has (loops_of t) w) ≡ true in
        let m = more (subst P other h) in
        record {
          named = record { it = m.named.it; around = inr m.named.around; number = m.named.number };
          marked = ap (λ b. if b then Some (marker_at it) else marker_of w (behind_of t)) e ∙ m.marked;
        }

-- The statement names this loop.
abbrev names : ℕ → Option ℕ → Bool
names w None = false
names w (Some v) = nat_eq v w

named_among : (loops : List ℕ) (w : ℕ) (o : Option ℕ) → names w o ≡ true → IfSome o (λ v. has loops v ≡ true) → has loops w ≡ true
named_among loops w None n t = absurd (cc n)
named_among loops w (Some v) n t =
    let same : v ≡ w = grind (arith, nat_tests, n) in
    let P : ℕ → Type 0 = λ z. has loops z ≡ true in
    subst P same t

-- One of two holds.
one_of : (Q : Type 0) (a b : Bool) → (a || b) ≡ true → (a ≡ true → Q) → (b ≡ true → Q) → Q
one_of Q true b h f g = f refl
one_of Q false b h f g = g h

-- What holds of the numbers of a list holds of those of its parts.
module _ (P : ℕ → Type 0) (xs ys : List ℕ) (all : (v : ℕ) → has (xs ++ ys) v ≡ true → P v) where
  in_front : (v : ℕ) → has xs v ≡ true → P v
  in_front v i = all v (list_any-append (nat_eq v) xs ys ∙ left_or (has xs v) (has ys v) i)

  in_back : (v : ℕ) → has ys v ≡ true → P v
  in_back v i = all v (list_any-append (nat_eq v) xs ys ∙ right_or (has xs v) (has ys v) i)

-- A kind of jump.
module _ (jumps : ℕ → Block → Bool) (kind : Simple → Option ℕ) (in_end : (w : ℕ) → jumps w end ≡ false)
    (in_plain : (w : ℕ) (site : Site) (s : Simple) (rest : Block) → jumps w (plain site s rest) ≡ (names w (kind s) || jumps w rest))
    (in_choose : (w : ℕ) (site : Site) (chained : Bool) (c : CondTree) (a b rest : Block) → jumps w (choose site chained c a b rest) ≡ (jumps w a || (jumps w b || jumps w rest)))
    (in_body : (w : ℕ) (site : Site) (head : Head) (body rest : Block) → jumps w (loop site head body rest) ≡ (jumps w body || jumps w rest))
    (told : (c : Context) (loops : List ℕ) (s : Simple) → well_simple c loops s ≡ true → IfSome (kind s) (λ w. has loops w ≡ true)) where
  -- What holds of the numbers of all loops, those round a block too, holds of those that it names.
  holds_of_named : (P : ℕ → Type 0) (c : Context) (loops : List ℕ) (w : ℕ) (b : Block) → ((v : ℕ) → has loops v ≡ true → P v) → ((v : ℕ) → has (loops_in b) v ≡ true → P v) → well_block c loops b ≡ true → jumps w b ≡ true → P w
  holds_of_named P c loops w end out own h j = absurd (cc (in_end w, j))
  holds_of_named P c loops w (plain site s rest) out own h j =
      let p = both_true (well_simple c loops s) (well_block c loops rest) h in
      one_of (P w) (names w (kind s)) (jumps w rest) (sym (in_plain w site s rest) ∙ j) (λ n. out w (named_among loops w (kind s) n (told c loops s p.0))) (λ k. holds_of_named P c loops w rest out own p.1 k)
  holds_of_named P c loops w (choose site chained cond a b rest) out own h j =
      let p = (both_true (well_cond c cond) (well_block c loops a && (well_block c loops b && well_block c loops rest)) h).1 in
      let q = both_true (well_block c loops a) (well_block c loops b && well_block c loops rest) p in
      let r = both_true (well_block c loops b) (well_block c loops rest) q.1 in
      one_of (P w) (jumps w a) (jumps w b || jumps w rest) (sym (in_choose w site chained cond a b rest) ∙ j) (λ k. holds_of_named P c loops w a out (in_front P (loops_in a) (loops_in b ++ loops_in rest) own) q.0 k) (λ more.
      one_of (P w) (jumps w b) (jumps w rest) more
      (λ k. holds_of_named P c loops w b out (in_front P (loops_in b) (loops_in rest) (in_back P (loops_in a) (loops_in b ++ loops_in rest) own)) r.0 k)
      (λ k. holds_of_named P c loops w rest out (in_back P (loops_in b) (loops_in rest) (in_back P (loops_in a) (loops_in b ++ loops_in rest) own)) r.1 k))
  holds_of_named P c loops w (loop site head body rest) out own h j =
      let p = (both_true (well_cond c head.cond) _ h).1 in
      let q = (both_true _ _ p).1 in
      let r = (both_true _ _ q).1 in
      let u = both_true (well_block c (site.number ∷ loops) body) (well_block c loops rest) r in
      let back = in_back P (loops_in body) (site.number ∷ loops_in rest) own in
      one_of (P w) (jumps w body) (jumps w rest) (sym (in_body w site head body rest) ∙ j)
      (λ k. holds_of_named P c (site.number ∷ loops) w body (λ v i. one_of (P v) (nat_eq v site.number) (has loops v) i (λ e. back v (left_or (nat_eq v site.number) (has (loops_in rest) v) e)) (λ l. out v l)) (in_front P (loops_in body) (site.number ∷ loops_in rest) own) u.0 k)
      (λ k. holds_of_named P c loops w rest out (λ v i. back v (right_or (nat_eq v site.number) (has (loops_in rest) v) i)) u.1 k)

  passes : (w : ℕ) (site : Site) (s : Simple) (rest : Block) → jumps w rest ≡ true → jumps w (plain site s rest) ≡ true
  passes w site s rest h = in_plain w site s rest ∙ right_or (names w (kind s)) (jumps w rest) h

  abbrev Stands : (body b : Block) → Trail → Type 0
  Stands body b t = Inside jumps passes in_choose in_body body b t

  jump_marked : (body : Block) (site : Site) (s : Simple) (rest : Block) (t : Trail) → Stands body (plain site s rest) t → (o : Option ℕ) → kind s ≡ o → IfSome o (λ w. has (loops_of t) w ≡ true) → IfSome o (λ w. IsMarked jumps body w t)
  jump_marked body site s rest t i None e h = tt
  jump_marked body site s rest t i (Some w) e h =
      let m = met w t h in
      let own = in_plain w site s rest ∙ (ap (λ o. names w o || jumps w rest) e ∙ left_or (nat_eq w w) (jumps w rest) (same_number w)) in
      record { it = m.named.it; found = jump_finds jumps passes in_choose in_body body (plain site s rest) t w i own m.named; marked = m.marked }

  all_marked : (c : Context) (body b : Block) (t : Trail) → Stands body b t → well_block c (loops_of t) b ≡ true → AllJumps kind (IsMarked jumps body) b t
  all_marked c body end t i h = tt
  all_marked c body (plain site s rest) t i h =
      let p = both_true (well_simple c (loops_of t) s) (well_block c (loops_of t) rest) h in
      (jump_marked body site s rest t i (kind s) refl (told c (loops_of t) s p.0), all_marked c body rest t (inside_rest jumps passes in_choose in_body body site s rest t i) p.1)
  all_marked c body (choose site chained cond a b rest) t i h =
      let p = (both_true (well_cond c cond) (well_block c (loops_of t) a && (well_block c (loops_of t) b && well_block c (loops_of t) rest)) h).1 in
      let q = both_true (well_block c (loops_of t) a) (well_block c (loops_of t) b && well_block c (loops_of t) rest) p in
      let r = both_true (well_block c (loops_of t) b) (well_block c (loops_of t) rest) q.1 in (
        all_marked c body a (within_if b rest t) (inside_then jumps passes in_choose in_body body site chained cond a b rest t i) q.0,
        (
          all_marked c body b (within_if end rest t) (inside_else jumps passes in_choose in_body body site chained cond a b rest t i) r.0,
          all_marked c body rest t (inside_behind jumps passes in_choose in_body body site chained cond a b rest t i) r.1,
        ),
      )
  all_marked c body (loop site head inner rest) t i h =
      let p = (both_true (well_cond c head.cond) _ h).1 in
      let q = (both_true _ _ p).1 in
      let r = (both_true _ _ q).1 in
      let u = both_true (well_block c (site.number ∷ loops_of t) inner) (well_block c (loops_of t) rest) r in (
        all_marked c body inner (in_loop site head inner rest t) (inside_loop jumps passes in_choose in_body body site head inner rest t i) u.0,
        all_marked c body rest t (inside_after jumps passes in_choose in_body body site head inner rest t i) u.1,
      )

-- The two kinds.
break_plain : (w : ℕ) (site : Site) (s : Simple) (rest : Block) → breaks w (plain site s rest) ≡ (names w (broken_loop s) || breaks w rest)
break_plain w site (assign t op v) rest = refl
break_plain w site (await at t a call) rest = refl
break_plain w site (perform at t call) rest = refl
break_plain w site (invoke at t keep mark called given_args) rest = refl
break_plain w site (break_from v) rest = refl
break_plain w site (continue_in v) rest = refl
break_plain w site (give_back v) rest = refl
break_plain w site (yield n) rest = refl
break_plain w site (claim goal ax) rest = refl

break_told : (c : Context) (loops : List ℕ) (s : Simple) → well_simple c loops s ≡ true → IfSome (broken_loop s) (λ w. has loops w ≡ true)
break_told c loops (assign t op v) h = tt
break_told c loops (await at t a call) h = tt
break_told c loops (perform at t call) h = tt
break_told c loops (invoke at t keep mark called given_args) h = tt
break_told c loops (break_from v) h = h
break_told c loops (continue_in v) h = tt
break_told c loops (give_back v) h = tt
break_told c loops (yield n) h = tt
break_told c loops (claim goal ax) h = tt

continue_plain : (w : ℕ) (site : Site) (s : Simple) (rest : Block) → continues w (plain site s rest) ≡ (names w (continued_loop s) || continues w rest)
continue_plain w site (assign t op v) rest = refl
continue_plain w site (await at t a call) rest = refl
continue_plain w site (perform at t call) rest = refl
continue_plain w site (invoke at t keep mark called given_args) rest = refl
continue_plain w site (break_from v) rest = refl
continue_plain w site (continue_in v) rest = refl
continue_plain w site (give_back v) rest = refl
continue_plain w site (yield n) rest = refl
continue_plain w site (claim goal ax) rest = refl

continue_told : (c : Context) (loops : List ℕ) (s : Simple) → well_simple c loops s ≡ true → IfSome (continued_loop s) (λ w. has loops w ≡ true)
continue_told c loops (assign t op v) h = tt
continue_told c loops (await at t a call) h = tt
continue_told c loops (perform at t call) h = tt
continue_told c loops (invoke at t keep mark called given_args) h = tt
continue_told c loops (break_from v) h = tt
continue_told c loops (continue_in v) h = h
continue_told c loops (give_back v) h = tt
continue_told c loops (yield n) h = tt
continue_told c loops (claim goal ax) h = tt

pub loops_are_spelt : LoopsAreSpelt
loops_are_spelt nodes n m typed is =
    let p = package_of nodes in
    let l = has_loops nodes n m typed is in
    let c : Context = record { within = p; method = m } in
    let rules = block_rules p m (method_rules p p.methods n m (all_methods p typed.rules) is) in
    record {
      own = are_spelt m.body l.small;
      at_breaks = λ w j.
          holds_of_named breaks broken_loop (λ w. refl) break_plain (λ w site chained c a b rest. refl) (λ w site head body rest. refl) break_told (λ v. v < 2 ^ 64) c [] w m.body (λ v i. absurd (cc i)) l.small rules j;
      at_continues = λ w j.
          holds_of_named continues continued_loop (λ w. refl) continue_plain (λ w site chained c a b rest. refl) (λ w site head body rest. refl) continue_told (λ v. v < 2 ^ 64) c [] w m.body (λ v i. absurd (cc i)) l.small rules j;
    }

pub loops_are_marked : LoopsAreMarked
loops_are_marked nodes n m typed is =
    let p = package_of nodes in
    let l = has_loops nodes n m typed is in
    let c : Context = record { within = p; method = m } in
    let rules = block_rules p m (method_rules p p.methods n m (all_methods p typed.rules) is) in
    record {
      at_breaks = all_marked breaks broken_loop (λ w. refl) break_plain (λ w site chained c a b rest. refl) (λ w site head body rest. refl) break_told c m.body m.body top (whole _ _ _ _ m.body l.apart) rules;
      at_continues = all_marked continues continued_loop (λ w. refl) continue_plain (λ w site chained c a b rest. refl) (λ w site head body rest. refl) continue_told c m.body m.body top (whole _ _ _ _ m.body l.apart) rules;
    }
