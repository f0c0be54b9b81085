-- The steps of base calls that write and don't suspend.
use Rattle.std.proofs.Common.{◌≡◌, ℕ, ◌+◌, ◌-◌, ◌^◌, ◌<◌, ◌≤◌, Bool, true, false, not, ◌&&◌, ◌||◌, List, [], ◌∷◌, length, take, drop, Option, Some, None, refl, sym, ◌∙◌, subst, nat_eq, arith, length-take}
use Rattle.std.specs.Prelude.{slice_get, unwrap_or, min, nat_lt, nat_le, All}
use Rattle.std.specs.List.{list_all}
use Rattle.std.proofs.lemmas.Bool.{and_parts}
use Rattle.std.proofs.lemmas.Bool.Decides.{nat_tests}
use Rattle.std.proofs.lemmas.List.Elements.{All-nil, All-head, All-tail, All-take, All-drop, All-weaker}
use Rattle.std.proofs.lemmas.Nat.{pow_pos}
use Rattle.turns.specs.Run.{Go}
use Rattle.wf_text.specs.declared.place.Place.{Place}
use Rattle.wf_text.specs.declared.rules.Rule.TheVariants.{B1, B8, B9}
use Rattle.wf_base.specs.BaseTable.{bits_of}
use Rattle.wf_base.specs.declared.widths.Width.{Width}
use Rattle.wf_base.specs.declared.widths.Width.TheVariants.{W8, W32}
use Rattle.wf_base.specs.BaseOps.{Buffer, AreBytes}
use Rattle.wf_base.specs.BaseOps as ops
use Rattle.wf_ast.specs.declared.things.Thing.{Thing}
use Rattle.wf_ast.specs.declared.things.Thing.TheVariants as things
use Rattle.wf_ast.specs.declared.types.Ty.{Ty}
use Rattle.wf_ast.specs.declared.types.Ty.TheVariants as types
use Rattle.wf_ast.specs.TypedTree.{arg, Order, NumType, NumTree, number, asked, at_most, at_least, reader_length, writer_length, SliceTree, slice, array, cut, numeric, Target, to_nothing, Written, skip_fast, write_fast, copy_to_writer, copy_to_slice, Block}
use Rattle.wf_ast.specs.WellTyped.{Context, type_at, is_range, is_width, is_unrefined, is_reader, is_writer, same_num_type, element_type, well_num, well_slice, may_go_into, has_none, takes_bits, well_written}
use Rattle.wf_ast.specs.Value.{Store, nowhere, host_array, field_array, Span, num, State, value, span_of, compares}
use Rattle.wf_facts_exprs.specs.Claims.{SideTree, single, Claim, AllTrue, claim_mentions, side_value}
use Rattle.wf_facts_exprs.specs.Given.{gives_sides}
use Rattle.wf_facts_exprs.specs.Demands.{demand, num_refusal, slice_refusal, value_refusal, side_refusal}
use Rattle.wf_facts_exprs.specs.LawfulState.{IsOf, unrefined, well_side, well_claims}
use Rattle.wf_facts_exprs.proofs.Soundness.{SoundSpan, span-sound, sides-given}
use Rattle.wf_facts.specs.FactLists.{without}
use Rattle.wf_facts.specs.Forms.{number_in}
use Rattle.wf_meaning.specs.SourceState.{Held, held_num, held_truth, held_status, held_cells, held_part, Behind, Remaining}
use Rattle.wf_meaning.specs.World.{World, Body, Vars, held_at, cells_at, with_cells, fits_store, put_value}
use Rattle.wf_meaning.specs.SourceStep.{Ending, state_of, at_block, with_some, change_buffer, elements_of, are_bytes}
use Rattle.wf_meaning.specs.SourceStep as steps
use Rattle.wf_bounds_stmts.specs.Requirements.{place_of_number, handed_refusal, all_handed}
use Rattle.wf_bounds_stmts.specs.Targets.{taken_by, target_refusal, written_by, unwritten, holds_all, answer_refusal}
use Rattle.wf_bounds_stmts.specs.Calls.{all_of, handed_to_written, premise_refusal, perform_refusal, performed}
use Rattle.wf_sound.specs.Worlds.{Shape, field_type, array_length, store_length, numbers_of, IsHeldAs, context_of, IsLawfulBody, AreApart}
use Rattle.wf_sound.specs.Positions.{is_slice_target}
use Rattle.wf_sound.specs.OneStep.{ComesTo, StandsBefore}
use Rattle.wf_sound.proofs.Views.{lawful-view}
use Rattle.wf_sound.proofs.Drops.{drops-true}
use Rattle.wf_sound.proofs.FieldWrites.{CellsKept}
use Rattle.wf_sound.proofs.Agreements.{buffer-agree}
use Rattle.wf_sound.proofs.TypedValues.{IsSpanOf, store_has, array_has, store-fits, span-typed}
use Rattle.wf_sound.proofs.HandedValues.{demanded, neither, NumberOf, number-of, Accepted, all-accepted}
use Rattle.wf_sound.proofs.Puts.{without_some-true, PutIn, put, CellsPut, cells-put}
use Rattle.wf_sound.proofs.AssignSteps.{goes-with}
use Rattle.wf_sound.proofs.BranchEnds.{kept-well}
use Rattle.wf_sound.proofs.BufferWrites.{skipped-lawful, appended-lawful, room-open, one-byte, put-lawful, reader-shrinks, writer-shrinks, copied-length, copied-all}
use Rattle.wf_sound.proofs.IoArgs.{IoAt, reader-at, writer-at, buffer-put, Shrinks, shortened-true, answer-for}

pub none-is-nothing : (target : Target) → has_none target ≡ true → target ≡ to_nothing
none-is-nothing to_nothing h = refl
none-is-nothing target h = absurd (cc (h))

both : (p q : Bool) → p ≡ true → q ≡ true → (p && q) ≡ true
both true q h k = k
both false q h k = absurd (cc (h))

-- What holds of each element is found of each.
each-passes : (P : ℕ → Type 0) (test : ℕ → Bool) → ((n : ℕ) → P n → test n ≡ true) → (xs : List ℕ) → All P xs → list_all test xs ≡ true
each-passes P test h [] all = refl
each-passes P test h (x ∷ xs) all = both (test x) _ (h x (All-head P x xs all)) (each-passes P test h xs (All-tail P x xs all))

module _ (R : (method : ℕ) → Remaining → Type 0) (shape : Shape) (b : Body) where
  -- What a call gives goes to its target, from where the call has left.
  pub record Performs (target : Target) (call : Written) (vars : Vars) (fs : List Claim) : Type 0 where
    pub after : Vars
    pub is : steps.performed b target call vars ≡ Some after
    pub lawful : IsLawfulBody R shape b after
    pub facts : AllTrue (state_of b after) (performed fs target call)

  pub answered : (target : Target) (bits n : ℕ) (answers : NumType) (left : Vars) (gs : List Claim) (at : Place) → IsLawfulBody R shape b left → well_claims (context_of b) gs ≡ true → AllTrue (state_of b left) gs
      → takes_bits (context_of b) target bits ≡ true → IsOf answers n → answer_refusal gs at target (Some answers) ≡ None
      → (after : Vars) × (put_value b target (num n) left ≡ Some after) × IsLawfulBody R shape b after × AllTrue (state_of b after) (unwritten target gs)
  answered target bits n answers left gs at lawful well known takes lies e =
      let p = neither (target_refusal gs target) _ e in
      let f = answer-for b.within shape (context_of b) target bits n answers takes (demanded (holds_all (taken_by target) (Some answers)) B1 at p.1) lies in
      let x : PutIn R shape b target (num n) left = put R shape b left lawful gs well known target (num n) f.1 f.0 p.0 in
      (x.after, x.is, x.lawful, without_some-true (written_by target) (state_of b left) (state_of b x.after) gs x.agree known)

  module _ (vars : Vars) (lawful : IsLawfulBody R shape b vars) (apart : AreApart b.args) (fs : List Claim) (well : well_claims (context_of b) fs ≡ true) (known : AllTrue (state_of b vars) fs) where
    abbrev c : Context
    c = context_of b

    abbrev s : State
    s = state_of b vars

    pub handed-number : (width : Width) (t : NumTree) → (may_go_into (bits_of width) t && well_num c t) ≡ true → handed_refusal B8 fs (all_of width, numeric t) ≡ None
        → NumberOf R shape b vars lawful fs well known (record { bits = bits_of width; low = 0; high = 2 ^ bits_of width - 1 }) t
    handed-number width t h e =
        let p = and_parts (may_go_into (bits_of width) t) _ h in
        let q = neither (value_refusal fs (numeric t)) _ e in
        number-of R shape b vars lawful fs well known (record { bits = bits_of width; low = 0; high = 2 ^ bits_of width - 1 }) t p.1 q.0 (demanded _ B8 (place_of_number t) q.1)

    or_right : (p q : Bool) → q ≡ true → (p || q) ≡ true
    or_right true q h = refl
    or_right false q h = h

    -- A comparison that is given holds of values.
    given-holds : (x y : SideTree) (op : Order) (m n : ℕ) → well_side c x ≡ true → well_side c y ≡ true → side_refusal fs x ≡ None → side_refusal fs y ≡ None → side_value s x ≡ Some m → side_value s y ≡ Some n → gives_sides fs x op y ≡ true → compares op m n ≡ true
    given-holds x y op m n wx wy ex ey vx vy g =
        let t = sides-given c s (lawful-view R shape b vars lawful) fs well known x y op wx wy ex ey g in
        let k : Some (compares op m n) ≡ Some true = sym (rw (vx, vy) refl) ∙ t in
        cc (k)

    compare-le : (m n : ℕ) → compares at_most m n ≡ true → m ≤ n
    compare-le m n h = grind (arith, nat_tests, h)

    compare-ge : (m n : ℕ) → compares at_least m n ≡ true → n ≤ m
    compare-ge m n h = grind (arith, nat_tests, h)

    module _ (at : Place) (a : ℕ) where
      length-side : (x : IoAt R shape b vars lawful a) → side_value s (single (asked at reader_length a)) ≡ Some (ops.reader_length x.buf)
      length-side x = rw (x.arg_is, x.there) refl

      room-side : (x : IoAt R shape b vars lawful a) → side_value s (single (asked at writer_length a)) ≡ Some (ops.writer_length x.buf)
      room-side x = rw (x.arg_is, x.there) refl

      -- A fast skip.
      skip-by : (worst : NumTree) (n m : ℕ) (buf : Buffer) → value s worst ≡ Some n → m ≤ n → Shrinks R shape b vars lawful (number_in worst) buf (ops.skipped m buf)
      skip-by (number at k) n m buf e h =
          let same : k ≡ n = cc (e) in
          (omega (arith, reader-shrinks m buf, same, h), omega arith)
      skip-by t n m buf e h = tt

      skip-performs : (actual worst : NumTree) → well_written c to_nothing (skip_fast a actual worst) ≡ true → perform_refusal fs at to_nothing (skip_fast a actual worst) ≡ None → Performs to_nothing (skip_fast a actual worst) vars fs
      skip-performs actual worst w e =
          let w1 = and_parts (is_reader (type_at c (arg a))) _ w in
          let w2 = and_parts (may_go_into 32 actual && well_num c actual) _ w1.1 in
          let p = neither (all_handed B8 fs (handed_to_written (skip_fast a actual worst))) _ e in
          let q : Accepted R shape b vars lawful fs well known B8 (handed_to_written (skip_fast a actual worst)) = all-accepted R shape b vars lawful fs well known B8 (handed_to_written (skip_fast a actual worst)) p.0 in
          let r = neither (premise_refusal fs at (skip_fast a actual worst)) _ p.1 in
          let r2 = neither (demand (gives_sides fs (single actual) at_most (single worst)) B9 at) _ r.0 in
          let m = handed-number W32 actual w2.0 q.0 in
          let n = handed-number W32 worst w2.1 q.1.0 in
          let x : IoAt R shape b vars lawful a = reader-at R shape b vars lawful a w1.0 in
          let wm = (and_parts (may_go_into 32 actual) _ w2.0).1 in
          let wn = (and_parts (may_go_into 32 worst) _ w2.1).1 in
          let em = (neither (num_refusal fs false actual) _ q.0).0 in
          let en = (neither (num_refusal fs false worst) _ q.1.0).0 in
          let less : m.number ≤ n.number = compare-le m.number n.number (given-holds (single actual) (single worst) at_most m.number n.number (or_right _ _ wm) (or_right _ _ wn) em en m.is n.is (demanded (gives_sides fs (single actual) at_most (single worst)) B9 at r2.0)) in
          let there : n.number ≤ ops.reader_length x.buf =
          compare-ge (ops.reader_length x.buf) n.number (given-holds (single (asked at reader_length a)) (single worst) at_least (ops.reader_length x.buf) n.number w1.0 (or_right _ _ wn) refl en (length-side x) n.is
          (demanded (gives_sides fs (single (asked at reader_length a)) at_least (single worst)) B9 at r2.1)) in
          let small : nat_lt n.number (2 ^ 32) ≡ true = let k : n.number ≤ 2 ^ 32 - 1 = n.lies.below in grind (arith, nat_tests, k) in
          let can : ops.can_skip_fast m.number n.number x.buf ≡ true = both (nat_le m.number n.number) _ (grind (arith, nat_tests, less)) (grind (arith, nat_tests, there)) in
          record {
            after = change_buffer x.k (ops.skipped m.number) vars;
            is = rw (x.is, m.is, n.is, small, can) refl;
            lawful = buffer-put R shape b vars lawful a x (ops.skipped m.number) (skipped-lawful m.number x.buf x.sound);
            facts = shortened-true R shape b vars lawful apart a x (ops.skipped m.number) (number_in worst) fs (skip-by worst n.number m.number x.buf n.is less) known;
          }

      -- A fast write.
      write-performs : (byte : NumTree) → well_written c to_nothing (write_fast a byte) ≡ true → perform_refusal fs at to_nothing (write_fast a byte) ≡ None → Performs to_nothing (write_fast a byte) vars fs
      write-performs byte w e =
          let w1 = and_parts (is_writer (type_at c (arg a))) _ w in
          let p = neither (all_handed B8 fs (handed_to_written (write_fast a byte))) _ e in
          let q : Accepted R shape b vars lawful fs well known B8 (handed_to_written (write_fast a byte)) = all-accepted R shape b vars lawful fs well known B8 (handed_to_written (write_fast a byte)) p.0 in
          let r = neither (premise_refusal fs at (write_fast a byte)) _ p.1 in
          let n = handed-number W8 byte w1.1 q.0 in
          let x : IoAt R shape b vars lawful a = writer-at R shape b vars lawful a w1.0 in
          let there : 1 ≤ ops.writer_length x.buf =
          compare-ge (ops.writer_length x.buf) 1 (given-holds (single (asked at writer_length a)) (single (number at 1)) at_least (ops.writer_length x.buf) 1 w1.0 refl refl refl (room-side x) refl
          (demanded (gives_sides fs (single (asked at writer_length a)) at_least (single (number at 1))) B9 at r.0)) in
          let room : ops.has_room x.buf ≡ true = grind (arith, nat_tests, there) in
          let small : n.number < 2 ^ 8 = let k : n.number ≤ 2 ^ 8 - 1 = n.lies.below in omega (arith, k) in
          let fits : nat_lt n.number (2 ^ 8) ≡ true = grind (arith, nat_tests, small) in
          let o = room-open x.buf room in
          let shrinks : Shrinks R shape b vars lawful (Some 1) x.buf (ops.appended (n.number ∷ []) x.buf) = (omega arith, writer-shrinks n.number x.buf o.0 o.1) in
          record {
            after = change_buffer x.k (ops.appended (n.number ∷ [])) vars;
            is = rw (x.is, n.is, fits, room) refl;
            lawful = buffer-put R shape b vars lawful a x (ops.appended (n.number ∷ [])) (appended-lawful (n.number ∷ []) x.buf o.1 (one-byte n.number small) x.sound);
            facts = shortened-true R shape b vars lawful apart a x (ops.appended (n.number ∷ [])) (Some 1) fs shrinks known;
          }

    -- The elements of a slice lie in their type.
    same_of : (of : NumType) (low high : ℕ) (width : ℕ) → same_num_type of (record { bits = width; low = low; high = high }) ≡ true → (n : ℕ) → IsOf (record { bits = width; low = low; high = high }) n → IsOf of n
    same_of of low high width k n i =
        let p = and_parts (nat_eq of.bits width) _ k in
        let q = and_parts (nat_eq of.low low) _ p.1 in
        let l : of.low ≡ low = grind (arith, nat_tests, q.0) in
        let g : of.high ≡ high = grind (arith, nat_tests, q.1) in
        record { above = omega (arith, l, i.above); below = omega (arith, g, i.below) }

    abbrev part : (from count : ℕ) → List ℕ → List ℕ
    part from count cells = take count (drop from cells)

    all-part : (P : ℕ → Type 0) (from count : ℕ) (cells : List ℕ) → All P cells → All P (part from count cells)
    all-part P from count cells h = All-take P count (drop from cells) (All-drop P from cells h)

    none-part : (P : ℕ → Type 0) (from count : ℕ) (cells : List ℕ) → count ≡ 0 → All P (part from count cells)
    none-part P from count cells e = let Q : ℕ → Type 0 = λ n. All P (part from n cells) in subst Q (sym e) (All-nil P)

    host-elements : (of : NumType) (a from count : ℕ) (o : Option ℕ) → slice_get shape.arrays a ≡ o → from + count ≤ unwrap_or o 0 → same_num_type of (unrefined 8) ≡ true → All (IsOf of) (part from count (unwrap_or (slice_get vars.world.host.arrays a) []))
    host-elements of a from count None e h k = none-part (IsOf of) from count _ (omega (arith, h))
    host-elements of a from count (Some len) e h k =
        let found = lawful.world.arrays a len e in
        let all : All (IsOf of) found.0 = All-weaker (λ cell. cell < 2 ^ 8) (IsOf of) (λ n l. same_of of 0 255 8 k n (record { above = omega arith; below = omega (arith, l) })) found.0 found.3 in
        rw found.1 (all-part (IsOf of) from count found.0 all)

    field-elements : (of : NumType) (object n from count : ℕ) (o : Option Ty) → field_type b.within shape object n ≡ o → array_has b.within shape of o ≡ true → All (IsOf of) (part from count (cells_at vars.world (field_array object n)))
    field-elements of object n from count (Some (types.Array width lo hi len)) e k =
        let found = lawful.world.fields object n (types.Array width lo hi len) e in
        by found.0 found.1 found.2
      where
        by : (held : Held) → held_at vars.world object n ≡ Some held → IsHeldAs shape (types.Array width lo hi len) held → All (IsOf of) (part from count (cells_at vars.world (field_array object n)))
        by (held_cells cells) is lies =
            let all : All (IsOf of) cells = All-weaker (IsOf (numbers_of width lo hi)) (IsOf of) (λ n l. same_of of lo hi (bits_of width) k n l) cells lies.1.1 in
            rw is (all-part (IsOf of) from count cells all)
        by (held_num m) is lies = absurd lies
        by (held_truth t) is lies = absurd lies
        by (held_status m) is lies = absurd lies
        by (held_part object) is lies = absurd lies
    field-elements of object n from count None e k = absurd (cc (k))
    field-elements of object n from count (Some ty) e k = absurd (cc (k))

    elements-lie : (of : NumType) (store : Store) (from count : ℕ) → store_has b.within shape of store ≡ true → from + count ≤ store_length b.within shape store → All (IsOf of) (part from count (cells_at vars.world store))
    elements-lie of nowhere from count k h = none-part (IsOf of) from count [] (omega (arith, h))
    elements-lie of (host_array a) from count k h = host-elements of a from count (slice_get shape.arrays a) refl h k
    elements-lie of (field_array object n) from count k h = field-elements of object n from count (field_type b.within shape object n) refl k

    slice-elements-lie : (t : SliceTree) (xs : Span) → IsSpanOf b.within shape (element_type t) xs → All (IsOf (element_type t)) (elements_of vars xs)
    slice-elements-lie t xs h = elements-lie (element_type t) xs.store xs.from xs.count h.has h.inside

    -- A slice that lies in its store lies in the store's elements.
    host-there : (a end : ℕ) (o : Option ℕ) → slice_get shape.arrays a ≡ o → end ≤ unwrap_or o 0 → end ≤ length (unwrap_or (slice_get vars.world.host.arrays a) [])
    host-there a end None e h = omega (arith, h)
    host-there a end (Some len) e h =
        let found = lawful.world.arrays a len e in
        rw found.1 (omega (arith, h, found.2))

    field-there : (object n end : ℕ) (o : Option Ty) → field_type b.within shape object n ≡ o → end ≤ array_length o → end ≤ length (cells_at vars.world (field_array object n))
    field-there object n end (Some (types.Array width lo hi len)) e h =
        let found = lawful.world.fields object n (types.Array width lo hi len) e in
        by found.0 found.1 found.2
      where
        by : (held : Held) → held_at vars.world object n ≡ Some held → IsHeldAs shape (types.Array width lo hi len) held → end ≤ length (cells_at vars.world (field_array object n))
        by (held_cells cells) is lies = rw is (omega (arith, h, lies.0))
        by (held_num m) is lies = absurd lies
        by (held_truth t) is lies = absurd lies
        by (held_status m) is lies = absurd lies
        by (held_part object) is lies = absurd lies
    field-there object n end None e h = omega (arith, h)
    field-there object n end (Some ty) e h = omega (arith, h)

    store-there : (store : Store) (end : ℕ) → end ≤ store_length b.within shape store → end ≤ length (cells_at vars.world store)
    store-there nowhere end h = h
    store-there (host_array a) end h = host-there a end (slice_get shape.arrays a) refl h
    store-there (field_array object n) end h = field-there object n end (field_type b.within shape object n) refl h

    -- A type of elements lies in its width.
    width-holds : (t : SliceTree) → well_slice c t ≡ true → (element_type t).high < 2 ^ (element_type t).bits
    width-holds (slice at bits path) h = let p : 0 < 2 ^ bits = pow_pos bits in omega (arith, p)
    width-holds (array at of count path) h =
        let p = and_parts (is_range of) _ h in
        let q = and_parts (is_width of.bits) _ p.0 in
        let r = and_parts (nat_le of.low of.high) _ q.1 in
        grind (arith, nat_tests, r.1)
    width-holds (cut at cells from to) h =
        let p = and_parts (is_unrefined (element_type cells)) _ h in
        width-holds cells (and_parts (well_slice c cells) _ p.1).0

    handed-slice : (t : SliceTree) → well_slice c t ≡ true → slice_refusal fs t ≡ None → (xs : Span) × (span_of s t ≡ Some xs) × IsSpanOf b.within shape (element_type t) xs
    handed-slice t h e =
        let x : SoundSpan c s (lawful-view R shape b vars lawful) fs well known t = span-sound c s (lawful-view R shape b vars lawful) fs well known t h e in
        (x.cells, x.is, span-typed R shape b vars lawful t x.cells h x.is)

    drop-well : (x : Thing) → well_claims c (without x fs) ≡ true
    drop-well x = kept-well c s (λ f. not (claim_mentions x f)) fs well

    -- A copy to a writer.
    copy-performs : (at : Place) (target : Target) (a : ℕ) (source : SliceTree) → well_written c target (copy_to_writer a source) ≡ true → perform_refusal fs at target (copy_to_writer a source) ≡ None → Performs target (copy_to_writer a source) vars fs
    copy-performs at target a source w e =
        let w1 = and_parts (is_writer (type_at c (arg a))) _ w in
        let w2 = and_parts (takes_bits c target 64) _ w1.1 in
        let w3 = and_parts (well_slice c source) _ w2.1 in
        let p = neither (all_handed B8 fs (handed_to_written (copy_to_writer a source))) _ e in
        let q : Accepted R shape b vars lawful fs well known B8 (handed_to_written (copy_to_writer a source)) = all-accepted R shape b vars lawful fs well known B8 (handed_to_written (copy_to_writer a source)) p.0 in
        let x : IoAt R shape b vars lawful a = writer-at R shape b vars lawful a w1.0 in
        let xs = handed-slice source w3.0 (neither (slice_refusal fs source) _ q.0).0 in
        let eight : (element_type source).bits ≡ 8 = grind (arith, nat_tests, w3.1) in
        let top = width-holds source w3.0 in
        let P : ℕ → Type 0 = λ n. (element_type source).high < 2 ^ n in
        let top8 : (element_type source).high < 2 ^ 8 = subst P eight top in
        let bytes : AreBytes (elements_of vars xs.0) = All-weaker (IsOf (element_type source)) (λ cell. cell < 2 ^ 8) (λ n l. omega (arith, l.below, top8)) (elements_of vars xs.0) (slice-elements-lie source xs.0 xs.2) in
        let left : Vars = change_buffer x.k (ops.put (elements_of vars xs.0)) vars in
        let fine : IsLawfulBody R shape b left = buffer-put R shape b vars lawful a x (ops.put (elements_of vars xs.0)) (put-lawful (elements_of vars xs.0) x.buf bytes x.sound) in
        let facts : AllTrue (state_of b left) (without (things.Arg (record { 0 = a })) fs) = drops-true (things.Arg (record { 0 = a })) [] s (state_of b left) fs (buffer-agree b a x.k (ops.put (elements_of vars xs.0)) vars apart x.arg_is) known in
        let n : ℕ = ops.put_count (elements_of vars xs.0) x.buf in
        let lies : IsOf (record { bits = 64; low = 0; high = 2 ^ 64 - 1 }) (ops.put_count (elements_of vars xs.0) x.buf) = record { above = omega arith; below = omega (arith, length-take xs.0.count (drop xs.0.from (cells_at vars.world xs.0.store)), xs.2.few) } in
        let y = answered target 64 n (record { bits = 64; low = 0; high = 2 ^ 64 - 1 }) left (without (things.Arg (record { 0 = a })) fs) at fine (drop-well (things.Arg (record { 0 = a }))) facts w2.0 lies p.1 in
        let pass : are_bytes (elements_of vars xs.0) ≡ true = each-passes (λ cell. cell < 2 ^ 8) (λ cell. nat_lt cell (2 ^ 8)) (λ cell small. grind (arith, nat_tests, small)) (elements_of vars xs.0) bytes in
        record { after = y.0; is = rw (x.is, xs.1, pass) y.1; lawful = y.2; facts = y.3 }

    -- A copy between slices.
    copy-kept : (of : NumType) (store : Store) (from count : ℕ) (source : List ℕ) → store_has b.within shape of store ≡ true → from + count ≤ store_length b.within shape store → All (IsOf of) source → CellsKept b.within R shape store (ops.copied from count source)
    copy-kept of nowhere from count source h i all = tt
    copy-kept of (host_array a) from count source h i all = λ len e xs long bytes.
        let p = and_parts (nat_eq of.bits 8) _ h in
        let q = and_parts (nat_eq of.low 0) _ p.1 in
        let high : of.high ≡ 255 = grind (arith, nat_tests, q.1) in
        let P : Option ℕ → Type 0 = λ o. from + count ≤ unwrap_or o 0 in
        let inside : from + count ≤ len = subst P e i in (
          copied-length from count source xs (omega (arith, inside, long)),
          copied-all (λ cell. cell < 2 ^ 8) from count source xs (All-weaker (IsOf of) (λ cell. cell < 2 ^ 8) (λ n l. omega (arith, l.below, high)) source all) bytes,
        )
    copy-kept of (field_array object m) from count source h i all = λ width lo hi len e xs long cells.
        let P : Option Ty → Type 0 = λ o. array_has b.within shape of o ≡ true in
        let t : array_has b.within shape of (Some (types.Array width lo hi len)) ≡ true = subst P e h in
        let p = and_parts (nat_eq of.bits (bits_of width)) _ t in
        let q = and_parts (nat_eq of.low lo) _ p.1 in
        let low : of.low ≡ lo = grind (arith, nat_tests, q.0) in
        let high : of.high ≡ hi = grind (arith, nat_tests, q.1) in
        let Q : Option Ty → Type 0 = λ o. from + count ≤ array_length o in
        let inside : from + count ≤ len = subst Q e i in (
          copied-length from count source xs (omega (arith, inside, long)),
          copied-all (IsOf (numbers_of width lo hi)) from count source xs (All-weaker (IsOf of) (IsOf (numbers_of width lo hi)) (λ n l. record { above = omega (arith, low, l.above); below = omega (arith, high, l.below) }) source all) cells,
        )

    slice-copy-performs : (at : Place) (target : Target) (to source : SliceTree) → well_written c target (copy_to_slice to source) ≡ true → is_slice_target (copy_to_slice to source) ≡ true → perform_refusal fs at target (copy_to_slice to source) ≡ None
        → Performs target (copy_to_slice to source) vars fs
    slice-copy-performs at target to source w u e =
        let w1 = and_parts (takes_bits c target 64) _ w in
        let w2 = and_parts (well_slice c to) _ w1.1 in
        let w3 = and_parts (well_slice c source) _ w2.1 in
        let p0 = neither (slice_refusal fs to) _ e in
        let p = neither (all_handed B8 fs (handed_to_written (copy_to_slice to source))) _ p0.1 in
        let q : Accepted R shape b vars lawful fs well known B8 (handed_to_written (copy_to_slice to source)) = all-accepted R shape b vars lawful fs well known B8 (handed_to_written (copy_to_slice to source)) p.0 in
        let ts = handed-slice to w2.0 p0.0 in
        let xs = handed-slice source w3.0 (neither (slice_refusal fs source) _ q.0).0 in
        let same : (element_type source).bits ≡ (element_type to).bits = grind (arith, nat_tests, w3.1) in
        let top = width-holds source w3.0 in
        let P : ℕ → Type 0 = λ n. (element_type source).high < 2 ^ n in
        let top2 : (element_type source).high < 2 ^ (element_type to).bits = subst P same top in
        let u1 = and_parts (nat_eq (element_type to).low 0) _ u in
        let low : (element_type to).low ≡ 0 = grind (arith, nat_tests, u1.0) in
        let high : (element_type to).high ≡ 2 ^ (element_type to).bits - 1 = grind (arith, nat_tests, u1.1) in
        let all : All (IsOf (element_type to)) (elements_of vars xs.0) =
        All-weaker (IsOf (element_type source)) (IsOf (element_type to)) (λ n l. record { above = omega (arith, low); below = omega (arith, l.below, top2, high) }) (elements_of vars xs.0) (slice-elements-lie source xs.0 xs.2) in
        let change : List ℕ → List ℕ = ops.copied ts.0.from ts.0.count (elements_of vars xs.0) in
        let put : CellsPut R shape b vars lawful ts.0.store (ops.copied ts.0.from ts.0.count (elements_of vars xs.0)) =
        cells-put R shape b vars lawful (element_type to) ts.0.store (ops.copied ts.0.from ts.0.count (elements_of vars xs.0)) ts.2.has
        (copy-kept (element_type to) ts.0.store ts.0.from ts.0.count (elements_of vars xs.0) ts.2.has ts.2.inside all) in
        let left : Vars = record vars { world = with_cells ts.0.store (ops.copied ts.0.from ts.0.count (elements_of vars xs.0)) vars.world } in
        let facts : AllTrue (state_of b left) (without things.Element fs) = drops-true things.Element [] s (state_of b left) fs put.agrees known in
        let lies : IsOf (record { bits = 64; low = 0; high = 2 ^ 64 - 1 }) (min ts.0.count xs.0.count) = record { above = omega arith; below = omega (arith, ts.2.few) } in
        let y = answered target 64 (min ts.0.count xs.0.count) (record { bits = 64; low = 0; high = 2 ^ 64 - 1 }) left (without things.Element fs) at put.fine (drop-well things.Element) facts w1.0 lies p.1 in
        let there : ts.0.from + ts.0.count ≤ length (cells_at vars.world ts.0.store) = store-there ts.0.store (ts.0.from + ts.0.count) ts.2.inside in
        let inside : nat_le (ts.0.from + ts.0.count) (length (cells_at vars.world ts.0.store)) ≡ true = grind (arith, nat_tests, there) in
        let pass : list_all (fits_store ts.0.store) (elements_of vars xs.0) ≡ true =
        each-passes (IsOf (element_type to)) (fits_store ts.0.store) (λ n l. store-fits b.within shape (element_type to) ts.0.store n ts.2.has l) (elements_of vars xs.0) all in
        record { after = y.0; is = rw (ts.1, xs.1, inside, pass) y.1; lawful = y.2; facts = y.3 }

    performs : (at : Place) (target : Target) (call : Written) → well_written c target call ≡ true → is_slice_target call ≡ true → perform_refusal fs at target call ≡ None → Performs target call vars fs
    performs at target (skip_fast a actual worst) w u e =
        let p = and_parts (is_reader (type_at c (arg a))) _ w in
        let q = and_parts (has_none target) _ p.1 in
        let same = none-is-nothing target q.0 in
        let P : Target → Type 0 = λ t. well_written c t (skip_fast a actual worst) ≡ true in
        let Q : Target → Type 0 = λ t. perform_refusal fs at t (skip_fast a actual worst) ≡ None in
        let S : Target → Type 0 = λ t. Performs t (skip_fast a actual worst) vars fs in
        subst S (sym same) (skip-performs at a actual worst (subst P same w) (subst Q same e))
    performs at target (write_fast a byte) w u e =
        let p = and_parts (is_writer (type_at c (arg a))) _ w in
        let q = and_parts (has_none target) _ p.1 in
        let same = none-is-nothing target q.0 in
        let P : Target → Type 0 = λ t. well_written c t (write_fast a byte) ≡ true in
        let Q : Target → Type 0 = λ t. perform_refusal fs at t (write_fast a byte) ≡ None in
        let S : Target → Type 0 = λ t. Performs t (write_fast a byte) vars fs in
        subst S (sym same) (write-performs at a byte (subst P same w) (subst Q same e))
    performs at target (copy_to_writer a source) w u e = copy-performs at target a source w e
    performs at target (copy_to_slice to source) w u e = slice-copy-performs at target to source w u e

    pub perform-step : (at : Place) (target : Target) (call : Written) (rest : Block) (behind : Behind) (E : Ending × World → Type 0) → well_written c target call ≡ true → is_slice_target call ≡ true → perform_refusal fs at target call ≡ None
        → ComesTo (StandsBefore R shape b rest behind (performed fs target call)) E (with_some (steps.performed b target call vars) (λ after. Go (at_block rest behind after)))
    perform-step at target call rest behind E w u e =
        let x : Performs target call vars fs = performs at target call w u e in
        goes-with (ComesTo (StandsBefore R shape b rest behind (performed fs target call)) E) (steps.performed b target call vars) x.after (λ after. Go (at_block rest behind after)) x.is
        (record { fresh = refl; first = refl; after = refl; lawful = x.lawful; facts = x.facts })
