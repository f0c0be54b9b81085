-- The buffers of reader and writer arguments, and facts about them when they change; what a call answers goes to its target.
use Rattle.std.proofs.Common.{◌≡◌, ℕ, ◌+◌, ◌<◌, ◌≤◌, Bool, true, false, not, ◌&&◌, ◌||◌, List, Option, Some, None, refl, sym, ap, ◌∙◌, subst, nat_eq, arith}
use Rattle.std.specs.Prelude.{slice_get, option_and_then, nat_le, if◌then◌else◌}
use Rattle.std.proofs.lemmas.Bool.{and_parts}
use Rattle.std.proofs.lemmas.Bool.Decides.{nat_tests}
use Rattle.wf_text.specs.declared.place.Place.{Place}
use Rattle.wf_base.specs.BaseOps.{Buffer}
use Rattle.wf_base.specs.BaseOps as ops
use Rattle.wf_ast.specs.declared.things.Thing.TheVariants as things
use Rattle.wf_ast.specs.declared.types.Ty.{Ty}
use Rattle.wf_ast.specs.declared.types.Ty.TheVariants as types
use Rattle.wf_ast.specs.TypedTree.{arg, NumType, NumTree, number, read, element, link, convert, length_of, asked, plus, Question, reader_length, writer_length, Target, to_number, to_element, to_nothing}
use Rattle.wf_ast.specs.Same.{same_arith}
use Rattle.wf_ast.specs.Mentions.{num_mentions}
use Rattle.wf_ast.specs.WellTyped.{Context, type_at, variable_at, is_reader, is_writer, is_pure, may_write, takes_bits}
use Rattle.wf_ast.specs.Value.{Value, num, buffer, value, io_buffer, told}
use Rattle.wf_facts_exprs.specs.Claims.{Claim, AllTrue}
use Rattle.wf_facts_exprs.specs.LawfulState.{IsOf}
use Rattle.wf_facts.specs.declared.changes.Change.TheVariants.{Shortened}
use Rattle.wf_facts.specs.declared.forms.Form.{Form}
use Rattle.wf_facts.specs.Forms.{form_of, is_length}
use Rattle.wf_facts.specs.FactLists.{changed, is_io_length}
use Rattle.wf_facts.specs.Changes.{Becomes, speaks_of, TakesPlace}
use Rattle.wf_facts.proofs.LawLemmas.{changed-true}
use Rattle.wf_meaning.specs.SourceState.{Remaining}
use Rattle.wf_meaning.specs.World.{Body, Vars}
use Rattle.wf_meaning.specs.SourceStep.{state_of, change_buffer, io_of}
use Rattle.wf_meaning.proofs.Lists.{updated-at}
use Rattle.wf_bounds_stmts.specs.Targets.{taken_by, holds_all}
use Rattle.wf_sound.specs.Worlds.{Shape, IsOfType, context_of, IsLawfulBody, AreApart}
use Rattle.wf_sound.proofs.Drops.{agree-one}
use Rattle.wf_sound.proofs.FieldWrites.{buffer-lawful}
use Rattle.wf_sound.proofs.Agreements.{buffer-agree}
use Rattle.wf_sound.proofs.Puts.{IsFor, well_target}

module _ (R : (method : ℕ) → Remaining → Type 0) (shape : Shape) (b : Body) (vars : Vars) (lawful : IsLawfulBody R shape b vars) where
  -- The buffer of an argument.
  pub record IoAt (a : ℕ) : Type 0 where
    pub k : ℕ
    pub buf : Buffer
    pub arg_is : slice_get b.args a ≡ Some (buffer k)
    pub there : slice_get vars.world.host.buffers k ≡ Some buf
    pub sound : ops.IsLawful buf
    pub is : io_of b a vars ≡ Some (k, buf)

  io-typed : (a : ℕ) (ty : Ty) → variable_at b.method.args a ≡ Some ty → (is_reader (Some ty) || is_writer (Some ty)) ≡ true → IoAt a
  io-typed a ty h i = let v = lawful.args.each a ty h in by ty v.0 i v.1 v.2
    where
      made : (k : ℕ) → slice_get b.args a ≡ Some (buffer k) → k < shape.buffers → IoAt a
      made k e l =
          let found = lawful.world.buffers k l in
          record { k = k; buf = found.0; arg_is = e; there = found.1; sound = found.2; is = rw (e, found.1) refl }

      by : (ty : Ty) (v : Value) → (is_reader (Some ty) || is_writer (Some ty)) ≡ true → slice_get b.args a ≡ Some v → IsOfType b.within shape ty v → IoAt a
      by types.Reader (buffer k) i e l = made k e l
      by types.Reader v i e l = absurd l
      by types.Writer (buffer k) i e l = made k e l
      by types.Writer v i e l = absurd l
      by ty v i e l = absurd (cc (i))

  pub io-at : (a : ℕ) → (is_reader (type_at (context_of b) (arg a)) || is_writer (type_at (context_of b) (arg a))) ≡ true → IoAt a
  io-at a h = by (variable_at b.method.args a) refl h
    where
      by : (o : Option Ty) → variable_at b.method.args a ≡ o → (is_reader o || is_writer o) ≡ true → IoAt a
      by (Some ty) e h = io-typed a ty e h
      by None e h = absurd (cc (h))

  or_left : (p q : Bool) → p ≡ true → (p || q) ≡ true
  or_left true q h = refl
  or_left false q h = absurd (cc (h))

  or_right : (p q : Bool) → q ≡ true → (p || q) ≡ true
  or_right true q h = refl
  or_right false q h = h

  pub reader-at : (a : ℕ) → is_reader (type_at (context_of b) (arg a)) ≡ true → IoAt a
  reader-at a h = io-at a (or_left _ (is_writer (type_at (context_of b) (arg a))) h)

  pub writer-at : (a : ℕ) → is_writer (type_at (context_of b) (arg a)) ≡ true → IoAt a
  writer-at a h = io-at a (or_right (is_reader (type_at (context_of b) (arg a))) _ h)

  -- The buffer is changed.
  pub buffer-put : (a : ℕ) (x : IoAt a) (change : Buffer → Buffer) → ops.IsLawful (change x.buf) → IsLawfulBody R shape b (change_buffer x.k change vars)
  buffer-put a x change h = record {
    world = buffer-lawful b.within R shape x.k change vars.world lawful.world (λ m e fine. by m e);
    receiver = lawful.receiver;
    args = lawful.args;
    locals = lawful.locals;
  }
    where
      by : (m : Buffer) → slice_get vars.world.host.buffers x.k ≡ Some m → ops.IsLawful (change m)
      by m e =
          let same1 : Some x.buf ≡ Some m = sym x.there ∙ e in
          let same : x.buf ≡ m = cc (same1) in
          let P : Buffer → Type 0 = λ m. ops.IsLawful (change m) in
          subst P same h

  -- What is asked of it before and after.
  io-before : (a : ℕ) (x : IoAt a) → io_buffer (state_of b vars) a ≡ Some x.buf
  io-before a x = rw (x.arg_is, x.there) refl

  io-after : (a : ℕ) (x : IoAt a) (change : Buffer → Buffer) → io_buffer (state_of b (change_buffer x.k change vars)) a ≡ Some (change x.buf)
  io-after a x change = rw (x.arg_is, updated-at change x.k vars.world.host.buffers x.buf x.there) refl

  not_length : (t : Bool) (x y : Form) → is_io_length x ≡ false → is_io_length y ≡ false → is_io_length (if t then x else y) ≡ true → ⊥
  not_length true x y h k e = absurd (cc (h, e))
  not_length false x y h k e = absurd (cc (k, e))

  a_length : (t : Bool) (x y : Form) → is_io_length y ≡ false → is_io_length (if t then x else y) ≡ true → t ≡ true
  a_length true x y h e = refl
  a_length false x y h e = absurd (cc (h, e))

  length-is : (a : ℕ) (t : NumTree) → is_io_length (form_of t) ≡ true → num_mentions (things.Arg (record { 0 = a })) t ≡ true → (at : Place) × (q : Question) × (is_length q ≡ true) × (t ≡ asked at q a)
  length-is a (asked at q other) h e = let same : a ≡ other = grind (arith, nat_tests, e) in (at, q, a_length (is_length q) _ _ refl h, ap (asked at q) (sym same))
  length-is a (read at of p) h e = absurd (cc (h))
  length-is a (number at n) h e = absurd (cc (h))
  length-is a (element at of cells index) h e = absurd (cc (h))
  length-is a (link at sign op bits joined x y) h e = absurd (not_length (same_arith op plus && not joined) _ _ refl refl h)
  length-is a (convert at sign bits x) h e = absurd (cc (h))
  length-is a (length_of at cells) h e = absurd (cc (h))

  -- A length shrinks by at most so much.
  abbrev pub Shrinks : Option ℕ → Buffer → Buffer → Type 0
  Shrinks None before after = Unit {0}
  Shrinks (Some k) before after = (ops.reader_length before ≤ ops.reader_length after + k) × (ops.writer_length before ≤ ops.writer_length after + k)

  pub shortened-true : (apart : AreApart b.args) (a : ℕ) (x : IoAt a) (change : Buffer → Buffer) (by : Option ℕ) (fs : List Claim) → Shrinks by x.buf (change x.buf) → AllTrue (state_of b vars) fs
      → AllTrue (state_of b (change_buffer x.k change vars)) (changed (things.Arg (record { 0 = a })) (Shortened by) fs)
  shortened-true apart a x change by fs shrinks known = changed-true (things.Arg (record { 0 = a })) (Shortened by) (state_of b vars) (state_of b (change_buffer x.k change vars)) takes fs known
    where
      becomes : (by : Option ℕ) (q : Question) (m : ℕ) → is_length q ≡ true → Shrinks by x.buf (change x.buf) → told q x.buf ≡ Some m → (n : ℕ) × (told q (change x.buf) ≡ Some n) × Becomes (Shortened by) m n
      becomes None reader_length m l s e = (ops.reader_length (change x.buf), refl, tt)
      becomes None writer_length m l s e = (ops.writer_length (change x.buf), refl, tt)
      becomes (Some k) reader_length m l s e =
          let same : ops.reader_length x.buf ≡ m = cc (e) in
          (ops.reader_length (change x.buf), refl, omega (arith, same, s.0))
      becomes (Some k) writer_length m l s e =
          let same : ops.writer_length x.buf ≡ m = cc (e) in
          (ops.writer_length (change x.buf), refl, omega (arith, same, s.1))
      becomes by q m l s e = absurd (cc (l))

      moved : (t : NumTree) (m : ℕ) → num_mentions (things.Arg (record { 0 = a })) t ≡ true → speaks_of (Shortened by) (form_of t) ≡ true → value (state_of b vars) t ≡ Some m
          → (n : ℕ) × (value (state_of b (change_buffer x.k change vars)) t ≡ Some n) × Becomes (Shortened by) m n
      moved t m i f e =
          let v = length-is a t f i in
          let P : NumTree → Type 0 = λ t. value (state_of b vars) t ≡ Some m in
          let before : option_and_then (told v.1) (io_buffer (state_of b vars) a) ≡ Some m = subst P v.3 e in
          let r = becomes by v.1 m v.2 shrinks (sym (ap (option_and_then (told v.1)) (io-before a x)) ∙ before) in
          let Q : NumTree → Type 0 = λ t. value (state_of b (change_buffer x.k change vars)) t ≡ Some r.0 in
          let there : Q (asked v.0 v.1 a) = ap (option_and_then (told v.1)) (io-after a x change) ∙ r.1 in
          (r.0, subst Q (sym v.3) there, r.2)

      takes : TakesPlace (things.Arg (record { 0 = a })) (Shortened by) (state_of b vars) (state_of b (change_buffer x.k change vars))
      takes = record { others = agree-one _ _ _ (buffer-agree b a x.k change vars apart x.arg_is); moved = moved }

-- What a base method answers is for its target.
pub answer-for : (p : _) (shape : Shape) (c : Context) (target : Target) (bits n : ℕ) (answers : NumType) → takes_bits c target bits ≡ true → holds_all (taken_by target) (Some answers) ≡ true → IsOf answers n
    → IsFor p shape target (num n) × (well_target c target ≡ true)
answer-for p shape c (to_number at of path) bits n answers h k i =
    let q = and_parts (may_write c.method.mark path) _ h in
    let r = and_parts (nat_eq of.bits bits) _ q.1 in
    let t = and_parts (nat_le of.low answers.low) _ k in
    let low : of.low ≤ answers.low = grind (arith, nat_tests, t.0) in
    let high : answers.high ≤ of.high = grind (arith, nat_tests, t.1) in
    (record { above = omega (arith, low, i.above); below = omega (arith, high, i.below) }, both (may_write c.method.mark path) _ q.0 r.1)
  where
    both : (p q : Bool) → p ≡ true → q ≡ true → (p && q) ≡ true
    both true q h k = k
    both false q h k = absurd (cc (h))
answer-for p shape c (to_element at of cells index) bits n answers h k i =
    let q = and_parts (not (is_pure c.method.mark)) _ h in
    let r = and_parts (nat_eq of.bits bits) _ q.1 in
    let t = and_parts (nat_le of.low answers.low) _ k in
    let low : of.low ≤ answers.low = grind (arith, nat_tests, t.0) in
    let high : answers.high ≤ of.high = grind (arith, nat_tests, t.1) in
    (record { above = omega (arith, low, i.above); below = omega (arith, high, i.below) }, r.1)
answer-for p shape c to_nothing bits n answers h k i = (tt, refl)
answer-for p shape c target bits n answers h k i = absurd (cc (h))
