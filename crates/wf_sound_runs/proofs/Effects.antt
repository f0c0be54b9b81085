-- Each step keeps to the mark of its method.
use Rattle.std.proofs.Common.{◌≡◌, ℕ, zero, suc, Bool, true, false, not, List, Option, Some, None, refl, sym, ap, ◌∙◌, subst}
use Rattle.std.specs.Prelude.{slice_get, option_and_then, option_map}
use Rattle.turns.specs.Run.{Go}
use Rattle.wf_base.specs.declared.marks.Mark.{Mark}
use Rattle.wf_base.specs.declared.marks.Mark.TheVariants.{Pure, Impure, Coroutine}
use Rattle.wf_base.specs.BaseOps.{Buffer}
use Rattle.wf_base.specs.BaseOps as ops
use Rattle.wf_ast.specs.TypedTree.{Path, local, field, arg, Target, to_number, to_element, to_flag, to_status, to_slice, to_nothing, Awaited, take_number, skip, write, Written, skip_fast, write_fast, copy_to_writer, copy_to_slice, Block}
use Rattle.wf_ast.specs.WellTyped.{is_pure, is_coroutine, may_write}
use Rattle.wf_ast.specs.Value.{Value, num, truth_value, status_number, span, buffer, Store, nowhere, host_array, field_array, value, span_of, only_if}
use Rattle.wf_meaning.specs.SourceState.{Behind, Done}
use Rattle.wf_meaning.specs.World.{World, Body, Vars, set_path, set_element, put_value, with_cells, with_buffer, as_buffer, view}
use Rattle.wf_meaning.specs.SourceStep.{state_of, at_block, with_some, suspending, change_buffer, io_of, io_number, buffer_of, with_target, skipped_fast, written_fast, copied_to_writer, copied_to_slice, elements_of, are_bytes, takes_all, performed, awaited, skip_on}
use Rattle.wf_meaning.proofs.Lists2.{and_then_made, map_made, only_if_made, two_made, some_same}
use Rattle.wf_meaning.proofs.Lists.{updated-other}
use Rattle.wf_meaning.proofs.WorldSteps.{Kept, kept-some, kept-either, go}
use Rattle.wf_sound.specs.Callees.{LeavesOthers, KeepsTo}

-- Worlds that a mark allows, one after the other.
pub keeps-itself : (mark : Mark) (args : List Value) (w : World) → KeepsTo mark args w w
keeps-itself Pure args w = record { fields = λ object n. refl; host = refl }
keeps-itself Impure args w = record { buffers = λ k h. refl }
keeps-itself Coroutine args w = record { buffers = λ k h. refl }

pub keeps-on : (mark : Mark) (args : List Value) (u v w : World) → KeepsTo mark args u v → KeepsTo mark args v w → KeepsTo mark args u w
keeps-on Pure args u v w h k = record { fields = λ object n. h.fields object n ∙ k.fields object n; host = h.host ∙ k.host }
keeps-on Impure args u v w h k = record { buffers = λ i f. h.buffers i f ∙ k.buffers i f }
keeps-on Coroutine args u v w h k = record { buffers = λ i f. h.buffers i f ∙ k.buffers i f }

-- The buffers stay.
same-buffers : (mark : Mark) (args : List Value) (v w : World) → is_pure mark ≡ false → v.host.buffers ≡ w.host.buffers → KeepsTo mark args v w
same-buffers Pure args v w p e = absurd (cc (p))
same-buffers Impure args v w p e = record { buffers = λ k h. ap (λ bs. slice_get bs k) e }
same-buffers Coroutine args v w p e = record { buffers = λ k h. ap (λ bs. slice_get bs k) e }

others-kept : (mark : Mark) (args : List Value) (v w : World) → is_pure mark ≡ false → LeavesOthers args v w → KeepsTo mark args v w
others-kept Pure args v w p h = absurd (cc (p))
others-kept Impure args v w p h = h
others-kept Coroutine args v w p h = h

module _ (b : Body) where
  abbrev pub mark : Mark
  mark = b.method.mark

  abbrev pub Eff : World → World → Type 0
  Eff v w = KeepsTo b.method.mark b.args v w

  -- What a method with a mark may write to.
  abbrev pub writes_as : Mark → Target → Bool
  writes_as m (to_number at of path) = may_write m path
  writes_as m (to_element at of cells index) = not (is_pure m)
  writes_as m (to_flag at path) = may_write m path
  writes_as m (to_status at path) = may_write m path
  writes_as m (to_slice at bits path) = may_write m path
  writes_as m to_nothing = true

  path-eff : (path : Path) (v : Value) (vars : Vars) → may_write b.method.mark path ≡ true → Eff vars.world (set_path b path v vars).world
  path-eff (local n) v vars h = keeps-itself b.method.mark b.args vars.world
  path-eff (arg n) v vars h = absurd (cc (h))
  path-eff (field n) v vars h = by b.method.mark h
    where
      by : (m : Mark) → may_write m (field n) ≡ true → KeepsTo m b.args vars.world (set_path b (field n) v vars).world
      by Pure k = absurd (cc (k))
      by Impure k = record { buffers = λ i f. refl }
      by Coroutine k = record { buffers = λ i f. refl }

  some-is : {X : Type 0} (test : Bool) (x y : X) → only_if test (Some x) ≡ Some y → x ≡ y
  some-is true x y e = cc (e)
  some-is false x y e = absurd (cc (e))

  cells-buffers : (store : Store) (change : List ℕ → List ℕ) (w : World) → w.host.buffers ≡ (with_cells store change w).host.buffers
  cells-buffers nowhere change w = refl
  cells-buffers (host_array a) change w = refl
  cells-buffers (field_array object n) change w = refl

  not-pure : (m : Mark) → not (is_pure m) ≡ true → is_pure m ≡ false
  not-pure Pure h = absurd (cc (h))
  not-pure Impure h = refl
  not-pure Coroutine h = refl

  to-world : (v w : Vars) (u : World) → v ≡ w → Eff u v.world → Eff u w.world
  to-world v w u e h = let P : Vars → Type 0 = λ v. Eff u v.world in subst P e h

  pub put-eff : (target : Target) (v : Value) (vars after : Vars) → writes_as b.method.mark target ≡ true → put_value b target v vars ≡ Some after → Eff vars.world after.world
  put-eff (to_number at of path) (num n) vars after h e = to-world (set_path b path (num n) vars) after vars.world (some-is _ _ after e) (path-eff path (num n) vars h)
  put-eff (to_flag at path) (truth_value t) vars after h e = to-world (set_path b path (truth_value t) vars) after vars.world (some_same _ after e) (path-eff path (truth_value t) vars h)
  put-eff (to_status at path) (status_number n) vars after h e = to-world (set_path b path (status_number n) vars) after vars.world (some_same _ after e) (path-eff path (status_number n) vars h)
  put-eff (to_slice at bits path) (span s) vars after h e = to-world (set_path b path (span s) vars) after vars.world (some_same _ after e) (path-eff path (span s) vars h)
  put-eff to_nothing v vars after h e = to-world vars after vars.world (some_same vars after e) (keeps-itself b.method.mark b.args vars.world)
  put-eff (to_element at of cells index) (num n) vars after h e =
      let m = only_if_made _ (option_and_then (λ xs. option_and_then (λ k. set_element xs k n vars) (value (view b vars.locals vars.world) index)) (span_of (view b vars.locals vars.world) cells)) after e in
      let t = two_made (λ xs k. set_element xs k n vars) (λ xs. value (view b vars.locals vars.world) index) (span_of (view b vars.locals vars.world) cells) after m in
      to-world _ after vars.world (some-is _ _ after t.gives) (same-buffers b.method.mark b.args vars.world _ (not-pure b.method.mark h) (cells-buffers t.x.store _ vars.world))
  put-eff target v vars after h e = absurd (cc (e))

  pub stays : (w : World) (block : Block) (behind : Behind) (locals : List Value) → Kept Eff w (Go (at_block block behind (record { locals = locals; world = w })))
  stays w block behind locals = go Eff w _ (keeps-itself b.method.mark b.args w)

  -- A buffer of an argument is changed.
  io-named : (a : ℕ) (vars : Vars) (io : ℕ × Buffer) → io_of b a vars ≡ Some io → slice_get b.args a ≡ Some (buffer io.0)
  io-named a vars io e =
      let m = and_then_made (λ k. option_map (λ it. (k, it)) (buffer_of vars k)) (io_number b a vars) io e in
      let j = map_made (λ it. (m.x, it)) (buffer_of vars m.x) io m.gives in
      let same : m.x ≡ io.0 = ap (λ (p : ℕ × Buffer). p.0) j.gives in
      named (slice_get b.args a) m.x m.from ∙ ap (λ k. Some (buffer k)) same
    where
      named : (v : Option Value) (j : ℕ) → option_and_then as_buffer v ≡ Some j → v ≡ Some (buffer j)
      named None j e = absurd (cc (e))
      named (Some (buffer i)) j e = cc (e)
      named (Some v) j e = absurd (cc (e))

  buffer-eff : (a k : ℕ) (change : Buffer → Buffer) (vars : Vars) → is_pure b.method.mark ≡ false → slice_get b.args a ≡ Some (buffer k) → Eff vars.world (change_buffer k change vars).world
  buffer-eff a k change vars p e =
      others-kept b.method.mark b.args vars.world (with_buffer k change vars.world) p
      (record { buffers = λ i f. sym (updated-other change k i vars.world.host.buffers (λ same. f a (e ∙ ap (λ k. Some (buffer k)) (sym same)))) })

  on-from : (u : World) (v w : World) → Eff u v → Eff v w → Eff u w
  on-from u v w h k = keeps-on b.method.mark b.args u v w h k

  coroutine-marked : (m : Mark) → is_coroutine m ≡ true → is_pure m ≡ false
  coroutine-marked Coroutine h = refl
  coroutine-marked Pure h = absurd (cc (h))
  coroutine-marked Impure h = absurd (cc (h))

  -- Base calls.
  module _ (n : ℕ) (here rest : Block) (behind : Behind) where
    suspends-kept : (w : World) (left status : ℕ) (done : Done) (vars : Vars) → Eff w vars.world → Kept Eff w (suspending left status done here behind vars)
    suspends-kept w left status done vars h = record { fact = h }

    pub await-kept : (target : Target) (a : ℕ) (call : Awaited) (done : Done) (vars : Vars) → is_coroutine b.method.mark ≡ true → writes_as b.method.mark target ≡ true
        → Kept Eff vars.world (with_some (io_of b a vars) (λ io. awaited b n target io.0 io.1 call done here rest behind vars))
    await-kept target a call done vars co wr = kept-some Eff vars.world (io_of b a vars) _ (λ io e. by call io (io-named a vars io e))
      where
        p : is_pure b.method.mark ≡ false
        p = coroutine-marked b.method.mark co

        skips : (k : ℕ) (left count : ℕ) → slice_get b.args a ≡ Some (buffer k) → Kept Eff vars.world (skip_on n left here rest behind (change_buffer k (ops.skipped count) vars))
        skips k zero count e = go Eff vars.world _ (buffer-eff a k (ops.skipped count) vars p e)
        skips k (suc left) count e = suspends-kept vars.world n _ _ (change_buffer k (ops.skipped count) vars) (buffer-eff a k (ops.skipped count) vars p e)

        by : (call : Awaited) (io : ℕ × Buffer) → slice_get b.args a ≡ Some (buffer io.0) → Kept Eff vars.world (awaited b n target io.0 io.1 call done here rest behind vars)
        by (take_number form) io e =
            let f = buffer-eff a io.0 _ vars p e in
            kept-either Eff vars.world _ _ _ (λ i. kept-some Eff vars.world _ _ (λ after j. go Eff vars.world _ (on-from vars.world _ after.world f (put-eff target _ _ after wr j)))) (λ i. suspends-kept vars.world n _ _ _ f)
        by (skip count) io e = kept-some Eff vars.world _ _ (λ left i. skips io.0 _ _ e)
        by (write byte) io e = kept-some Eff vars.world _ _ (λ it i. kept-either Eff vars.world _ _ _ (λ j. go Eff vars.world _ (buffer-eff a io.0 _ vars p e)) (λ j. suspends-kept vars.world n _ _ vars (keeps-itself b.method.mark b.args vars.world)))

  pub perform-eff : (target : Target) (call : Written) (vars after : Vars) → is_pure b.method.mark ≡ false → writes_as b.method.mark target ≡ true → performed b target call vars ≡ Some after → Eff vars.world after.world
  perform-eff target (skip_fast a actual worst_case) vars after p wr e =
      let m = and_then_made (λ io. option_and_then (λ m. option_and_then (λ n. skipped_fast io.0 io.1 m n vars) (value (state_of b vars) worst_case)) (value (state_of b vars) actual)) (io_of b a vars) after e in
      let j = two_made (λ m' n. skipped_fast m.x.0 m.x.1 m' n vars) (λ m'. value (state_of b vars) worst_case) (value (state_of b vars) actual) after m.gives in
      to-world _ after vars.world (some-is _ _ after j.gives) (buffer-eff a m.x.0 _ vars p (io-named a vars m.x m.from))
  perform-eff target (write_fast a byte) vars after p wr e =
      let m = two_made (λ io n. written_fast io.0 io.1 n vars) (λ io. value (state_of b vars) byte) (io_of b a vars) after e in
      to-world _ after vars.world (some-is _ _ after m.gives) (buffer-eff a m.x.0 _ vars p (io-named a vars m.x m.from))
  perform-eff target (copy_to_writer a source) vars after p wr e =
      let m = two_made (λ io s. only_if (are_bytes (elements_of vars s)) (with_target b target (copied_to_writer io.0 io.1 s vars))) (λ io. span_of (state_of b vars) source) (io_of b a vars) after e in
      on-from vars.world (copied_to_writer m.x.0 m.x.1 m.y vars).1.world after.world (buffer-eff a m.x.0 _ vars p (io-named a vars m.x m.from)) (put-eff target _ (copied_to_writer m.x.0 m.x.1 m.y vars).1 after wr (only_if_made _ _ after m.gives))
  perform-eff target (copy_to_slice to source) vars after p wr e =
      let m = two_made (λ t s. only_if (takes_all vars t (elements_of vars s)) (with_target b target (copied_to_slice t s vars))) (λ t. span_of (state_of b vars) source) (span_of (state_of b vars) to) after e in
      on-from vars.world (copied_to_slice m.x m.y vars).1.world after.world (same-buffers b.method.mark b.args vars.world _ p (cells-buffers m.x.store _ vars.world)) (put-eff target _ (copied_to_slice m.x m.y vars).1 after wr (only_if_made _ _ after m.gives))
