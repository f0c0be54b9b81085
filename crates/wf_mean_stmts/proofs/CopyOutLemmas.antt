-- Bytes that go to a buffer, one after the other.
use Rattle.std.proofs.Common.{◌≡◌, ℕ, zero, suc, ◌+◌, ◌-◌, ◌<◌, ◌≤◌, ◌^◌, Bool, true, false, List, [], ◌∷◌, ◌++◌, length, min, take, drop, set, MatchBool, Some, nat_lt, refl, sym, ap, ◌∙◌, arith}
use Rattle.std.specs.Prelude.{slice_get, if◌then◌else◌}
use Rattle.std.proofs.lemmas.Bool.Decides.{nat_tests}
use Rattle.std.proofs.lemmas.List.{length-drop, length-set, length-take-le, take_min, take-append-drop}
use Rattle.wf_base.specs.BaseOps.{Buffer, appended, capacity, elements, has_room, overwritten, put, writer_length}
use Rattle.wf_ast.specs.Value.{Store}
use Rattle.wf_meaning.specs.World.{Vars, cells_at, updated}
use Rattle.wf_meaning.specs.SourceStep.{are_bytes, change_buffer}
use Rattle.wf_meaning.proofs.Lists.{updated-at, updated-same}
use Rattle.wf_mean_stmts.specs.Copies.{PutsOut}
use Rattle.wf_mean_stmts.proofs.StoringLemmas.{item_there}
use Rattle.wf_mean_stmts.proofs.CopyLemmas.{all_get, drop_get, drop_whole, element_at, get_taken, sets_over, updated_like, updated_twice}

-- Two appends are one.
over_one : (xs cells : List ℕ) (at x : ℕ) → at + suc (length xs) ≤ length cells → overwritten (at + 1) xs (overwritten at (x ∷ []) cells) ≡ overwritten at (x ∷ xs) cells
over_one xs cells at x h =
    let one : overwritten at (x ∷ []) cells ≡ set cells at x = sym (sets_over (x ∷ []) cells at (omega (arith, h))) in
    let next : at + 1 ≡ suc at = omega arith in
    let long = length-set cells at x in
    ap (overwritten (at + 1) xs) one ∙ ap (λ j. overwritten j xs (set cells at x)) next ∙ sym (sets_over xs (set cells at x) (suc at) (omega (arith, h, long))) ∙ sets_over (x ∷ xs) cells at h

append_more : (x : ℕ) (xs : List ℕ) (b : Buffer) → b.wi + suc (length xs) ≤ capacity b → appended xs (appended (x ∷ []) b) ≡ appended (x ∷ xs) b
append_more x xs b h =
    let n : b.wi + 1 + length xs ≡ b.wi + suc (length xs) = omega arith in
    rw (over_one xs b.cells b.wi x h, n) refl

append_none : (b : Buffer) → appended [] b ≡ b
append_none b =
    let n : b.wi + 0 ≡ b.wi = omega arith in
    let cells : overwritten b.wi [] b.cells ≡ b.cells = ap (λ j. take b.wi b.cells ++ drop j b.cells) n ∙ take-append-drop b.wi b.cells in
    rw (cells, n) refl

capacity_stays : (x : ℕ) (b : Buffer) → b.wi + 1 ≤ capacity b → capacity (appended (x ∷ []) b) ≡ capacity b
capacity_stays x b h = ap length (sym (sets_over (x ∷ []) b.cells b.wi h)) ∙ length-set b.cells b.wi x

-- Room.
by_closed : (closed : Bool) (n m : ℕ) → m ≤ (if closed then 0 else n) → 0 < m → (closed ≡ false) × (m ≤ n)
by_closed true n m h k = absurd (omega (arith, h, k))
by_closed false n m h k = (refl, h)

room_left : (b : Buffer) (m : ℕ) → m ≤ writer_length b → 0 < m → (b.closed ≡ false) × (b.wi + m ≤ capacity b)
room_left b m h k = let p = by_closed b.closed (capacity b - b.wi) m h k in (p.0, omega (arith, p.1, k))

less_room : (x : ℕ) (b : Buffer) → b.closed ≡ false → b.wi + 1 ≤ capacity b → writer_length (appended (x ∷ []) b) ≡ writer_length b - 1
less_room x b c h = let n = capacity_stays x b h in rw c (omega (arith, n))

has_it : (b : Buffer) → 0 < writer_length b → has_room b ≡ true
has_it b h = grind (arith, nat_tests, h)

module _ (s : Store) (sf c n k : ℕ) (b0 : Buffer) (vars0 : Vars) where
  abbrev pub all_of : List ℕ
  all_of = elements sf c (cells_at vars0.world s)

  abbrev pub those_of : List ℕ
  those_of = take n all_of

  pub record PutSoFar (i : ℕ) (vars : Vars) : Type 0 where
    pub buffer : Buffer
    pub there : slice_get vars.world.host.buffers k ≡ Some buffer
    pub rest : appended (drop i those_of) buffer ≡ appended those_of b0
    pub room : writer_length buffer + i ≡ writer_length b0
    pub whole : vars ≡ change_buffer k (λ _. buffer) vars0

  module _ (is : slice_get vars0.world.host.buffers k ≡ Some b0) (few : n ≤ length all_of) (fits : n ≤ writer_length b0) where
    pub put_begins : PutSoFar 0 vars0
    put_begins = record { buffer = b0; there = is; rest = refl; room = omega arith; whole = rw (updated-same b0 k vars0.world.host.buffers is) refl }

    pub put_more : (i : ℕ) (vars new : Vars) → i < n → are_bytes all_of ≡ true → PutSoFar i vars
        → ((v : ℕ) (b : Buffer) → slice_get (cells_at vars.world s) (sf + i) ≡ Some v → nat_lt v (2 ^ 8) ≡ true → slice_get vars.world.host.buffers k ≡ Some b → has_room b ≡ true → new ≡ change_buffer k (appended (v ∷ [])) vars)
        → PutSoFar (i + 1) new
    put_more i vars new below bytes h writes =
        let it = item_there all_of i (omega (arith, below, few)) in
        let v = it.0 in
        let b = h.buffer in
        let b' = appended (v ∷ []) b in
        let m = n - i in
        let left : m ≤ writer_length b = omega (arith, h.room, fits) in
        let p = room_left b m left (omega (arith, below)) in
        let first : drop i those_of ≡ v ∷ drop (suc i) those_of = drop_get those_of i v (get_taken n i all_of below ∙ it.1) in
        let long : length (drop (suc i) those_of) ≡ n - suc i = length-drop (suc i) those_of ∙ ap (λ j. j - suc i) (length-take-le n all_of few) in
        let cells : slice_get (cells_at vars.world s) (sf + i) ≡ Some v = ap (λ (x : Vars). slice_get (cells_at x.world s) (sf + i)) h.whole ∙ element_at sf c i (cells_at vars0.world s) (omega (arith, below, few)) ∙ it.1 in
        let e = writes v b cells (all_get (λ x. nat_lt x (2 ^ 8)) all_of i v bytes it.1) h.there (has_it b (omega (arith, h.room, fits, below))) in
        let more : suc i ≡ i + 1 = omega arith in
        record {
          buffer = b';
          there = ap (λ (x : Vars). slice_get x.world.host.buffers k) e ∙ updated-at (appended (v ∷ [])) k vars.world.host.buffers b h.there;
          rest = ap (λ j. appended (drop j those_of) b') (sym more) ∙ append_more v (drop (suc i) those_of) b (omega (arith, p.1, long, below)) ∙ ap (λ vs. appended vs b) (sym first) ∙ h.rest;
          room = let l = less_room v b p.0 (omega (arith, p.1, below)) in omega (arith, l, h.room, fits, below);
          whole = e ∙ ap (change_buffer k (appended (v ∷ []))) h.whole ∙ rw (updated_twice (λ _. b) (appended (v ∷ [])) k vars0.world.host.buffers) refl;
        }

    pub put_ends : (vars : Vars) → n ≡ min (length all_of) (writer_length b0) → are_bytes all_of ≡ true → PutSoFar n vars → PutsOut (Some n) (are_bytes all_of) all_of k b0 vars0 vars
    put_ends vars count bytes h =
        let long : length those_of ≡ n = length-take-le n all_of few in
        let done : h.buffer ≡ appended those_of b0 = sym (append_none h.buffer) ∙ ap (λ vs. appended vs h.buffer) (sym (drop_whole those_of n (omega (arith, long)))) ∙ h.rest in
        let m : n ≡ min (writer_length b0) (length all_of) = omega (arith, count) in
        let those_are : those_of ≡ take (writer_length b0) all_of = ap (λ j. take j all_of) m ∙ take_min (writer_length b0) all_of in
        let put_is : h.buffer ≡ put all_of b0 = done ∙ ap (λ vs. appended vs b0) those_are in
        rw bytes (count, h.whole ∙ rw (updated_like (λ _. h.buffer) (put all_of) k vars0.world.host.buffers (λ x q. let e : b0 ≡ x = some_is b0 x (sym is ∙ q) in put_is ∙ ap (put all_of) e)) refl)
      where
        some_is : (x y : Buffer) → Some x ≡ Some y → x ≡ y
        some_is x y e = cc (e)

length-updated : {X : Type 0} (f : X → X) (i : ℕ) (xs : List X) → length (updated f i xs) ≡ length xs
length-updated f i [] = refl
length-updated f zero (x ∷ xs) = refl
length-updated f (suc i) (x ∷ xs) = ap suc (length-updated f i xs)

pub count_stays : (f : Buffer → Buffer) (r : Bool) (old new : List Buffer) (k : ℕ) → MatchBool r (new ≡ updated f k old) (new ≡ old) → length new ≡ length old
count_stays f true old new k h = ap length h ∙ length-updated f k old
count_stays f false old new k h = ap length h
