-- The steps of base calls that may suspend.
use Rattle.std.proofs.Common.{◌≡◌, ℕ, zero, suc, ◌-◌, ◌*◌, ◌^◌, ◌<◌, ◌≤◌, Bool, true, false, not, ◌&&◌, List, [], ◌∷◌, length, Some, None, refl, sym, ap, ◌∙◌, subst, arith, length-take, length-append}
use Rattle.std.specs.Prelude.{option_and_then, reverse, nat_lt, All}
use Rattle.std.specs.List.{list_all}
use Rattle.std.proofs.lemmas.Bool.{and_parts}
use Rattle.std.proofs.lemmas.Bool.Decides.{nat_tests}
use Rattle.std.proofs.lemmas.List.{length-reverse, get_or-reverse}
use Rattle.std.proofs.lemmas.List.Elements.{All-nil, All-append, All-take, All-drop}
use Rattle.std.proofs.lemmas.Nat.{pow_pos}
use Rattle.turns.specs.Run.{Go}
use Rattle.wf_text.specs.declared.place.Place.{Place}
use Rattle.wf_text.specs.declared.rules.Rule.TheVariants.{B8}
use Rattle.wf_base.specs.declared.widths.Width.{Width}
use Rattle.wf_base.specs.declared.widths.Width.TheVariants.{W8, W32}
use Rattle.wf_base.specs.declared.base_methods.ReadForm.{ReadForm}
use Rattle.wf_base.specs.declared.base_methods.ReadForm.TheVariants.{ReadU8, ReadU16Be, ReadU16Le, ReadU32Be, ReadU32Le, ReadU64Be, ReadU64Le}
use Rattle.wf_base.specs.BaseTable.{bits_of, bytes_of, read_width, read_value, lacking, gathered, is_whole}
use Rattle.wf_base.specs.BaseOps.{Buffer, AreBytes, big_endian, unread, taken}
use Rattle.wf_base.specs.BaseOps as ops
use Rattle.wf_ast.specs.declared.things.Thing.{Thing}
use Rattle.wf_ast.specs.declared.things.Thing.TheVariants as things
use Rattle.wf_ast.specs.TypedTree.{arg, NumTree, numeric, Target, to_nothing, Awaited, take_number, skip, write, await, Site, Block, plain}
use Rattle.wf_ast.specs.WellTyped.{Context, type_at, is_reader, is_writer, is_coroutine, may_be_local, well_num, may_go_into, has_none, well_awaited}
use Rattle.wf_ast.specs.Value.{num, State, value}
use Rattle.wf_facts_exprs.specs.Claims.{Claim, AllTrue, claim_mentions}
use Rattle.wf_facts_exprs.specs.LawfulState.{IsOf, well_claims}
use Rattle.wf_facts.specs.FactLists.{without}
use Rattle.wf_meaning.specs.SourceState.{Behind, Remaining, Done, untouched, has_bytes, to_skip, to_write, has_yielded}
use Rattle.wf_meaning.specs.Entry.{short_read, short_write}
use Rattle.wf_meaning.specs.World.{World, Body, Vars, put_value}
use Rattle.wf_meaning.specs.SourceStep.{Steps, state_of, at_block, with_some, change_buffer, io_of, bytes_so_far, kept_count, kept_byte, below, skip_on, write_on, suspending}
use Rattle.wf_meaning.specs.SourceStep as steps
use Rattle.wf_bounds_stmts.specs.Requirements.{all_handed}
use Rattle.wf_bounds_stmts.specs.Calls.{interrupted, all_of, handed_to_awaited, await_refusal, awaited}
use Rattle.wf_sound.specs.Worlds.{Shape, context_of, IsLawfulBody, AreApart}
use Rattle.wf_sound.specs.OneStep.{IsStarted, IsReached, afresh, resumed, ComesTo, StandsBefore, IsLeftAt, Ends}
use Rattle.wf_sound.proofs.Drops.{still-true}
use Rattle.wf_sound.proofs.Agreements.{staying-agree}
use Rattle.wf_sound.proofs.HandedValues.{neither, NumberOf, Accepted, all-accepted}
use Rattle.wf_sound.proofs.AssignSteps.{goes-with}
use Rattle.wf_sound.proofs.EndSteps.{goes-first, goes-second, left-at, reached}
use Rattle.wf_sound.proofs.BranchEnds.{kept-well}
use Rattle.wf_sound.proofs.BufferWrites.{skipped-lawful, appended-lawful, room-open, one-byte}
use Rattle.wf_sound.proofs.IoArgs.{IoAt, reader-at, writer-at, buffer-put}
use Rattle.wf_facts_exprs.proofs.Peeks.{little-small}
use Rattle.wf_sound.proofs.PerformSteps.{answered, handed-number, none-is-nothing}

All-reverse : (P : ℕ → Type 0) (xs : List ℕ) → All P xs → All P (reverse xs)
All-reverse P xs h = λ k d l.
    let long : k < length xs = omega (arith, l, length-reverse xs) in
    subst P (sym (get_or-reverse xs k d long)) (h (length xs - 1 - k) d (omega (arith, long)))

big-small : (n : ℕ) (xs : List ℕ) → length xs ≤ n → All (λ cell. cell < 2 ^ 8) xs → big_endian xs < 2 ^ (8 * n)
big-small n xs h all = little-small n (reverse xs) (omega (arith, h, length-reverse xs)) (All-reverse (λ cell. cell < 2 ^ 8) xs all)

read-small : (form : ReadForm) (xs : List ℕ) → length xs ≤ bytes_of (read_width form) → AreBytes xs → read_value form xs < 2 ^ bits_of (read_width form)
read-small ReadU8 xs h all = little-small 1 xs h all
read-small ReadU16Be xs h all = big-small 2 xs h all
read-small ReadU16Le xs h all = little-small 2 xs h all
read-small ReadU32Be xs h all = big-small 4 xs h all
read-small ReadU32Le xs h all = little-small 4 xs h all
read-small ReadU64Be xs h all = big-small 8 xs h all
read-small ReadU64Le xs h all = little-small 8 xs h all

bytes-some : (form : ReadForm) → 0 < bytes_of (read_width form)
bytes-some ReadU8 = omega arith
bytes-some ReadU16Be = omega arith
bytes-some ReadU16Le = omega arith
bytes-some ReadU32Be = omega arith
bytes-some ReadU32Le = omega arith
bytes-some ReadU64Be = omega arith
bytes-some ReadU64Le = omega arith

-- What a read has so far.
pub record HasSoFar (form : ReadForm) (done : Done) : Type 0 where
  pub bytes : AreBytes (bytes_so_far done)
  pub few : length (bytes_so_far done) < bytes_of (read_width form)

gathered-bytes : (form : ReadForm) (kept : List ℕ) (b : Buffer) → AreBytes kept → ops.IsLawful b → AreBytes (gathered form kept b)
gathered-bytes form kept b h k =
    All-append (λ cell. cell < 2 ^ 8) kept (taken (lacking form kept) b) h
    (All-take (λ cell. cell < 2 ^ 8) (lacking form kept) (unread b) (All-take (λ cell. cell < 2 ^ 8) (b.wi - b.ri) _ (All-drop (λ cell. cell < 2 ^ 8) b.ri b.cells k.bytes)))

gathered-few : (form : ReadForm) (kept : List ℕ) (b : Buffer) → length kept < bytes_of (read_width form) → length (gathered form kept b) ≤ bytes_of (read_width form)
gathered-few form kept b h = omega (arith, h, length-append kept (taken (lacking form kept) b), length-take (lacking form kept) (unread b))

module _ (R : (method : ℕ) → Remaining → Type 0) (shape : Shape) (b : Body) (vars : Vars) (lawful : IsLawfulBody R shape b vars) (sole : AreApart b.args) (fs : List Claim) (well : well_claims (context_of b) fs ≡ true)
    (co : is_coroutine b.method.mark ≡ true) (may : list_all (λ x. may_be_local x.ty) b.method.locals ≡ true) (n : ℕ) (at : Place) (site : Site) (rest : Block) (behind : Behind) where
  abbrev c : Context
  c = context_of b

  abbrev s : State
  s = state_of b vars

  less-well : (x : Thing) (gs : List Claim) → well_claims c gs ≡ true → well_claims c (without x gs) ≡ true
  less-well x gs h = kept-well c s (λ f. not (claim_mentions x f)) gs h

  interrupted-well : well_claims c (interrupted fs) ≡ true
  interrupted-well =
      less-well things.SliceLocals (without things.Element (without things.Args (without things.This fs)))
      (less-well things.Element (without things.Args (without things.This fs)) (less-well things.Args (without things.This fs) (less-well things.This fs well)))

  -- A read.
  so-far : (target : Target) (a : ℕ) (form : ReadForm) (done : Done) → IsReached b vars fs (await at target a (take_number form)) done → HasSoFar form done
  so-far target a form done (afresh e h) =
      let P : Done → Type 0 = λ done. HasSoFar form done in
      subst P (sym e) (record { bytes = All-nil (λ cell. cell < 2 ^ 8); few = bytes-some form })
  so-far target a form (has_bytes bytes) (resumed e h) = record { bytes = e.0; few = e.1 }
  so-far target a form untouched (resumed e h) = absurd e
  so-far target a form (to_skip left) (resumed e h) = absurd e
  so-far target a form (to_write it) (resumed e h) = absurd e
  so-far target a form has_yielded (resumed e h) = absurd e

  module _ (target : Target) (a : ℕ) (call : Awaited) (done : Done) (ready : IsReached b vars fs (await at target a call) done) where
    abbrev Comes : Steps → Type 0
    Comes = ComesTo (StandsBefore R shape b rest behind (awaited fs target)) (Ends R shape b (IsLeftAt R shape b site (await at target a call) rest behind fs))

    now : AllTrue s (interrupted fs)
    now = reached R shape b vars lawful fs (await at target a call) done ready

    still : (after : World) → AllTrue (state_of b (record vars { world = after })) (interrupted fs)
    still after = still-true s (state_of b (record vars { world = after })) fs (staying-agree b vars.locals vars.world after) now

    leaves : (left : Vars) (status : ℕ) (doing : Done) → left.locals ≡ vars.locals → IsLawfulBody R shape b left → IsStarted (await at target a call) doing → Comes (suspending n status doing (plain site (await at target a call) rest) behind left)
    leaves left status doing same fine started =
        let P : List _ → Type 0 = λ locals. Comes (suspending n status doing (plain site (await at target a call) rest) behind (record { locals = locals; world = left.world })) in
        subst P (sym same) (left-at R shape b vars lawful site (await at target a call) rest behind fs doing status left.world co may started now fine.world)

  -- The step of a read.
  module _ (target : Target) (a : ℕ) (form : ReadForm) (done : Done) (ready : IsReached b vars fs (await at target a (take_number form)) done)
      (w : well_awaited c target a (take_number form) ≡ true) (e : await_refusal fs at target (take_number form) ≡ None) where
    abbrev ReadComes : Steps → Type 0
    ReadComes = Comes target a (take_number form) done ready

    reads : (x : IoAt R shape b vars lawful a) → ReadComes (steps.awaited b n target x.k x.buf (take_number form) done (plain site (await at target a (take_number form)) rest) rest behind vars)
    reads x =
        let had : HasSoFar form done = so-far target a form done ready in
        let left : Vars = change_buffer x.k (ops.skipped (lacking form (bytes_so_far done))) vars in
        let fine : IsLawfulBody R shape b left = buffer-put R shape b vars lawful a x (ops.skipped (lacking form (bytes_so_far done))) (skipped-lawful (lacking form (bytes_so_far done)) x.buf x.sound) in
        by (is_whole form (gathered form (bytes_so_far done) x.buf)) refl (gathered-bytes form (bytes_so_far done) x.buf had.bytes x.sound) (gathered-few form (bytes_so_far done) x.buf had.few) fine
      where
        by : (t : Bool) → is_whole form (gathered form (bytes_so_far done) x.buf) ≡ t → AreBytes (gathered form (bytes_so_far done) x.buf) → length (gathered form (bytes_so_far done) x.buf) ≤ bytes_of (read_width form)
            → IsLawfulBody R shape b (change_buffer x.k (ops.skipped (lacking form (bytes_so_far done))) vars)
            → ReadComes (steps.awaited b n target x.k x.buf (take_number form) done (plain site (await at target a (take_number form)) rest) rest behind vars)
        by true i all few fine =
            let p = neither (all_handed B8 fs (handed_to_awaited (take_number form))) _ e in
            let q = and_parts (is_reader (type_at c (arg a))) _ w in
            let small = read-small form (gathered form (bytes_so_far done) x.buf) few all in
            let lies : IsOf (record { bits = bits_of (read_width form); low = 0; high = 2 ^ bits_of (read_width form) - 1 }) (read_value form (gathered form (bytes_so_far done) x.buf)) = record { above = omega arith; below = omega (arith, small) } in
            let y = answered R shape b target (bits_of (read_width form)) (read_value form (gathered form (bytes_so_far done) x.buf)) (record { bits = bits_of (read_width form); low = 0; high = 2 ^ bits_of (read_width form) - 1 })
            (change_buffer x.k (ops.skipped (lacking form (bytes_so_far done))) vars) (interrupted fs) at fine interrupted-well (still target a (take_number form) done ready (change_buffer x.k (ops.skipped (lacking form (bytes_so_far done))) vars).world) q.1 lies p.1 in
            goes-first ReadComes (is_whole form (gathered form (bytes_so_far done) x.buf)) _ _ i
            (goes-with ReadComes (put_value b target (num (read_value form (gathered form (bytes_so_far done) x.buf))) (change_buffer x.k (ops.skipped (lacking form (bytes_so_far done))) vars)) y.0 (λ left. Go (at_block rest behind left)) y.1
            (record { fresh = refl; first = refl; after = refl; lawful = y.2; facts = y.3 }))
        by false i all few fine =
            goes-second ReadComes (is_whole form (gathered form (bytes_so_far done) x.buf)) _ _ i
            (leaves target a (take_number form) done ready (change_buffer x.k (ops.skipped (lacking form (bytes_so_far done))) vars) short_read (has_bytes (gathered form (bytes_so_far done) x.buf)) refl fine
            (all, grind (arith, nat_tests, i, few)))

    read-step : ReadComes (with_some (io_of b a vars) (λ io. steps.awaited b n target io.0 io.1 (take_number form) done (plain site (await at target a (take_number form)) rest) rest behind vars))
    read-step =
        let q = and_parts (is_reader (type_at c (arg a))) _ w in
        let x : IoAt R shape b vars lawful a = reader-at R shape b vars lawful a q.0 in
        goes-with ReadComes (io_of b a vars) (x.k, x.buf) (λ io. steps.awaited b n target io.0 io.1 (take_number form) done (plain site (await at target a (take_number form)) rest) rest behind vars) x.is (reads x)

  -- The number that a skip has still to take, or the byte that a write has to write: evaluated once, and kept.
  below-is : (bits m : ℕ) → m < 2 ^ bits → below bits m ≡ Some m
  below-is bits m h = let t : nat_lt m (2 ^ bits) ≡ true = grind (arith, nat_tests, h) in rw t refl

  fresh-number : (width : Width) (target : Target) (call : Awaited) (t : NumTree) → handed_to_awaited call ≡ (all_of width, numeric t) ∷ [] → (may_go_into (bits_of width) t && well_num c t) ≡ true → await_refusal fs at target call ≡ None → AllTrue s fs
      → (m : ℕ) × (option_and_then (below (bits_of width)) (value s t) ≡ Some m) × (m < 2 ^ bits_of width)
  fresh-number width target call t is w e known =
      let p = neither (all_handed B8 fs (handed_to_awaited call)) _ e in
      let P : List _ → Type 0 = λ hs. all_handed B8 fs hs ≡ None in
      let q : Accepted R shape b vars lawful fs well known B8 ((all_of width, numeric t) ∷ []) = all-accepted R shape b vars lawful fs well known B8 ((all_of width, numeric t) ∷ []) (subst P is p.0) in
      let x : NumberOf R shape b vars lawful fs well known (record { bits = bits_of width; low = 0; high = 2 ^ bits_of width - 1 }) t = handed-number R shape b vars lawful sole fs well known width t w q.0 in
      let some : 0 < 2 ^ bits_of width = pow_pos (bits_of width) in
      let small : x.number < 2 ^ bits_of width = omega (arith, x.lies.below, some) in
      (x.number, ap (option_and_then (below (bits_of width))) x.is ∙ below-is (bits_of width) x.number small, small)

  skip-left : (target : Target) (a : ℕ) (count : NumTree) (done : Done) → IsReached b vars fs (await at target a (skip count)) done → (may_go_into 32 count && well_num c count) ≡ true → await_refusal fs at target (skip count) ≡ None
      → (m : ℕ) × (kept_count done (option_and_then (below 32) (value s count)) ≡ Some m) × (m < 2 ^ 32)
  skip-left target a count done (afresh e h) w r =
      let x = fresh-number W32 target (skip count) count refl w r h in
      let P : Done → Type 0 = λ done. kept_count done (option_and_then (below 32) (value s count)) ≡ Some x.0 in
      (x.0, subst P (sym e) x.1, x.2)
  skip-left target a count (to_skip left) (resumed e h) w r = (left, refl, e)
  skip-left target a count untouched (resumed e h) w r = absurd e
  skip-left target a count (has_bytes bytes) (resumed e h) w r = absurd e
  skip-left target a count (to_write it) (resumed e h) w r = absurd e
  skip-left target a count has_yielded (resumed e h) w r = absurd e

  write-left : (target : Target) (a : ℕ) (byte : NumTree) (done : Done) → IsReached b vars fs (await at target a (write byte)) done → (may_go_into 8 byte && well_num c byte) ≡ true → await_refusal fs at target (write byte) ≡ None
      → (m : ℕ) × (kept_byte done (option_and_then (below 8) (value s byte)) ≡ Some m) × (m < 2 ^ 8)
  write-left target a byte done (afresh e h) w r =
      let x = fresh-number W8 target (write byte) byte refl w r h in
      let P : Done → Type 0 = λ done. kept_byte done (option_and_then (below 8) (value s byte)) ≡ Some x.0 in
      (x.0, subst P (sym e) x.1, x.2)
  write-left target a byte (to_write it) (resumed e h) w r = (it, refl, e)
  write-left target a byte untouched (resumed e h) w r = absurd e
  write-left target a byte (has_bytes bytes) (resumed e h) w r = absurd e
  write-left target a byte (to_skip left) (resumed e h) w r = absurd e
  write-left target a byte has_yielded (resumed e h) w r = absurd e

  -- The step of a skip.
  module _ (a : ℕ) (count : NumTree) (done : Done) (ready : IsReached b vars fs (await at to_nothing a (skip count)) done)
      (w : well_awaited c to_nothing a (skip count) ≡ true) (e : await_refusal fs at to_nothing (skip count) ≡ None) where
    abbrev SkipComes : Steps → Type 0
    SkipComes = Comes to_nothing a (skip count) done ready

    skips : (x : IoAt R shape b vars lawful a) (m : ℕ) → m < 2 ^ 32
        → SkipComes (skip_on n (ops.left_to_skip m x.buf) (plain site (await at to_nothing a (skip count)) rest) rest behind (change_buffer x.k (ops.skipped m) vars))
    skips x m small = by (ops.left_to_skip m x.buf) (omega (arith, small)) (buffer-put R shape b vars lawful a x (ops.skipped m) (skipped-lawful m x.buf x.sound))
      where
        by : (left : ℕ) → left < 2 ^ 32 → IsLawfulBody R shape b (change_buffer x.k (ops.skipped m) vars)
            → SkipComes (skip_on n left (plain site (await at to_nothing a (skip count)) rest) rest behind (change_buffer x.k (ops.skipped m) vars))
        by zero h fine = record { fresh = refl; first = refl; after = refl; lawful = fine; facts = still to_nothing a (skip count) done ready (change_buffer x.k (ops.skipped m) vars).world }
        by (suc left) h fine = leaves to_nothing a (skip count) done ready (change_buffer x.k (ops.skipped m) vars) short_read (to_skip (suc left)) refl fine h

    skip-step : SkipComes (with_some (io_of b a vars) (λ io. steps.awaited b n to_nothing io.0 io.1 (skip count) done (plain site (await at to_nothing a (skip count)) rest) rest behind vars))
    skip-step =
        let q = and_parts (is_reader (type_at c (arg a))) _ w in
        let x : IoAt R shape b vars lawful a = reader-at R shape b vars lawful a q.0 in
        let m = skip-left to_nothing a count done ready q.1 e in
        goes-with SkipComes (io_of b a vars) (x.k, x.buf) (λ io. steps.awaited b n to_nothing io.0 io.1 (skip count) done (plain site (await at to_nothing a (skip count)) rest) rest behind vars) x.is
        (goes-with SkipComes (kept_count done (option_and_then (below 32) (value s count))) m.0
        (λ left. skip_on n (ops.left_to_skip left x.buf) (plain site (await at to_nothing a (skip count)) rest) rest behind (change_buffer x.k (ops.skipped left) vars)) m.1 (skips x m.0 m.2))

  -- The step of a write.
  module _ (a : ℕ) (byte : NumTree) (done : Done) (ready : IsReached b vars fs (await at to_nothing a (write byte)) done)
      (w : well_awaited c to_nothing a (write byte) ≡ true) (e : await_refusal fs at to_nothing (write byte) ≡ None) where
    abbrev WriteComes : Steps → Type 0
    WriteComes = Comes to_nothing a (write byte) done ready

    writes : (x : IoAt R shape b vars lawful a) (m : ℕ) → m < 2 ^ 8 → WriteComes (write_on n x.k m x.buf (plain site (await at to_nothing a (write byte)) rest) rest behind vars)
    writes x m small = by (ops.has_room x.buf) refl
      where
        by : (t : Bool) → ops.has_room x.buf ≡ t → WriteComes (write_on n x.k m x.buf (plain site (await at to_nothing a (write byte)) rest) rest behind vars)
        by true i =
            let o = room-open x.buf i in
            let fine : IsLawfulBody R shape b (change_buffer x.k (ops.appended (m ∷ [])) vars) = buffer-put R shape b vars lawful a x (ops.appended (m ∷ [])) (appended-lawful (m ∷ []) x.buf o.1 (one-byte m small) x.sound) in
            goes-first WriteComes (ops.has_room x.buf) _ _ i
            (record { fresh = refl; first = refl; after = refl; lawful = fine; facts = still to_nothing a (write byte) done ready (change_buffer x.k (ops.appended (m ∷ [])) vars).world })
        by false i = goes-second WriteComes (ops.has_room x.buf) _ _ i (leaves to_nothing a (write byte) done ready vars short_write (to_write m) refl lawful small)

    write-step : WriteComes (with_some (io_of b a vars) (λ io. steps.awaited b n to_nothing io.0 io.1 (write byte) done (plain site (await at to_nothing a (write byte)) rest) rest behind vars))
    write-step =
        let q = and_parts (is_writer (type_at c (arg a))) _ w in
        let x : IoAt R shape b vars lawful a = writer-at R shape b vars lawful a q.0 in
        let m = write-left to_nothing a byte done ready q.1 e in
        goes-with WriteComes (io_of b a vars) (x.k, x.buf) (λ io. steps.awaited b n to_nothing io.0 io.1 (write byte) done (plain site (await at to_nothing a (write byte)) rest) rest behind vars) x.is
        (goes-with WriteComes (kept_byte done (option_and_then (below 8) (value s byte))) m.0
        (λ it. write_on n x.k it x.buf (plain site (await at to_nothing a (write byte)) rest) rest behind vars) m.1 (writes x m.0 m.2))

  -- The step of any.
  pub await-step : (target : Target) (a : ℕ) (call : Awaited) (done : Done) (ready : IsReached b vars fs (await at target a call) done) → well_awaited c target a call ≡ true → await_refusal fs at target call ≡ None
      → ComesTo (StandsBefore R shape b rest behind (awaited fs target)) (Ends R shape b (IsLeftAt R shape b site (await at target a call) rest behind fs))
      (with_some (io_of b a vars) (λ io. steps.awaited b n target io.0 io.1 call done (plain site (await at target a call) rest) rest behind vars))
  await-step target a (take_number form) done ready w e = read-step target a form done ready w e
  await-step target a (skip count) done ready w e =
      let p = and_parts (is_reader (type_at c (arg a))) _ w in
      let q = and_parts (has_none target) _ p.1 in
      let same = none-is-nothing target q.0 in
      let Q : Target → Type 0 = λ t. IsReached b vars fs (await at t a (skip count)) done → well_awaited c t a (skip count) ≡ true → await_refusal fs at t (skip count) ≡ None
      → ComesTo (StandsBefore R shape b rest behind (awaited fs t)) (Ends R shape b (IsLeftAt R shape b site (await at t a (skip count)) rest behind fs))
      (with_some (io_of b a vars) (λ io. steps.awaited b n t io.0 io.1 (skip count) done (plain site (await at t a (skip count)) rest) rest behind vars)) in
      let there : Q to_nothing = λ r v i. skip-step a count done r v i in
      (subst Q (sym same) there) ready w e
  await-step target a (write byte) done ready w e =
      let p = and_parts (is_writer (type_at c (arg a))) _ w in
      let q = and_parts (has_none target) _ p.1 in
      let same = none-is-nothing target q.0 in
      let Q : Target → Type 0 = λ t. IsReached b vars fs (await at t a (write byte)) done → well_awaited c t a (write byte) ≡ true → await_refusal fs at t (write byte) ≡ None
      → ComesTo (StandsBefore R shape b rest behind (awaited fs t)) (Ends R shape b (IsLeftAt R shape b site (await at t a (write byte)) rest behind fs))
      (with_some (io_of b a vars) (λ io. steps.awaited b n t io.0 io.1 (write byte) done (plain site (await at t a (write byte)) rest) rest behind vars)) in
      let there : Q to_nothing = λ r v i. write-step a byte done r v i in
      (subst Q (sym same) there) ready w e
