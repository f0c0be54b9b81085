-- Writes keep the sizes of buffers and byte arrays.
use Rattle.std.proofs.Common.{◌≡◌, ℕ, zero, suc, ◌+◌, ◌-◌, ◌^◌, ◌≤◌, Bool, true, false, List, [], ◌∷◌, ◌++◌, length, map, take, drop, Option, Some, refl, sym, ap, ◌∙◌, subst, arith, length-append, length-drop, length-take}
use Rattle.std.specs.Prelude.{slice_get, slice_set, option_and_then, option_map, unwrap_or, nat_lt, nat_le, if◌then◌else◌}
use Rattle.std.specs.List.{list_all}
use Rattle.std.proofs.lemmas.Bool.{and_parts}
use Rattle.std.proofs.lemmas.Bool.Decides.{nat_tests}
use Rattle.turns.specs.Run.{Go}
use Rattle.wf_base.specs.BaseOps.{Buffer, capacity}
use Rattle.wf_base.specs.BaseOps as ops
use Rattle.wf_base.specs.BaseTable.{lacking}
use Rattle.wf_ast.specs.TypedTree.{Path, local, field, arg, Target, to_number, to_element, to_flag, to_status, to_slice, to_nothing, Awaited, take_number, skip, write, Written, skip_fast, write_fast, copy_to_writer, copy_to_slice, Block}
use Rattle.wf_ast.specs.Value.{Value, num, truth_value, status_number, span, Store, nowhere, host_array, field_array, value, span_of, only_if}
use Rattle.wf_meaning.specs.SourceState.{Behind, Done}
use Rattle.wf_meaning.specs.World.{World, Body, Vars, updated, set_path, set_element, put_value, with_cells, with_buffer, cells_at, fits_store, view}
use Rattle.wf_meaning.specs.SourceStep.{state_of, at_block, with_some, suspending, change_buffer, io_of, io_number, buffer_of, with_target, skipped_fast, written_fast, copied_to_writer, copied_to_slice, elements_of, are_bytes, takes_all, performed, awaited, skip_on, bytes_so_far}
use Rattle.wf_meaning.proofs.Lists2.{and_then_made, map_made, only_if_made, two_made, some_same}
use Rattle.wf_meaning.proofs.WorldSteps.{Kept, kept-some, kept-either, go}
use Rattle.wf_meaning_sizes.specs.Sizes.{sizes}

-- A list of which one item is changed that keeps what is told of it.
map-updated : {X A : Type 0} (f : X → A) (change : X → X) (i : ℕ) (xs : List X) → ((x : X) → slice_get xs i ≡ Some x → f (change x) ≡ f x) → map f (updated change i xs) ≡ map f xs
map-updated f change i [] h = refl
map-updated f change zero (x ∷ xs) h = ap (λ a. a ∷ map f xs) (h x refl)
map-updated f change (suc i) (x ∷ xs) h = ap (λ rest. f x ∷ rest) (map-updated f change i xs h)

length-set : {X : Type 0} (xs : List X) (i : ℕ) (x : X) → length (slice_set xs i x) ≡ length xs
length-set [] i x = refl
length-set (y ∷ ys) zero x = refl
length-set (y ∷ ys) (suc i) x = ap suc (length-set ys i x)

-- What fits is written over as many cells as there are.
overwritten-long : {X : Type 0} (at : ℕ) (bytes cells : List X) → length bytes ≤ length cells - at → length (ops.overwritten at bytes cells) ≡ length cells
overwritten-long {X = X} at bytes cells h =
    length-append (take at cells) (bytes ++ drop (at + length bytes) cells) ∙ omega (arith, h, length-take {A = X} at cells, length-append bytes (drop (at + length bytes) cells), length-drop (at + length bytes) cells)

put-long : (bytes : List ℕ) (b : Buffer) → capacity (ops.put bytes b) ≡ capacity b
put-long bytes b = overwritten-long b.wi (take (ops.writer_length b) bytes) b.cells (by b.closed)
  where
    by : (closed : Bool) → length (take (if closed then 0 else length b.cells - b.wi) bytes) ≤ length b.cells - b.wi
    by true = omega (arith, length-take 0 bytes)
    by false = omega (arith, length-take (length b.cells - b.wi) bytes)

appended-long : (byte : ℕ) (b : Buffer) → ops.has_room b ≡ true → capacity (ops.appended (byte ∷ []) b) ≡ capacity b
appended-long byte b h = overwritten-long b.wi (byte ∷ []) b.cells (by b.closed h)
  where
    by : (closed : Bool) → nat_lt 0 (if closed then 0 else length b.cells - b.wi) ≡ true → length (byte ∷ []) ≤ length b.cells - b.wi
    by true k = absurd (cc (k))
    by false k = grind (arith, nat_tests, k)

-- The same sizes.
abbrev pub Same : World → World → Type 0
Same v w = sizes w.host ≡ sizes v.host

pub same-on : (u v w : World) → Same u v → Same v w → Same u w
same-on u v w h k = k ∙ h

buffer-same : (k : ℕ) (change : Buffer → Buffer) (w : World) → ((b : Buffer) → slice_get w.host.buffers k ≡ Some b → capacity (change b) ≡ capacity b) → Same w (with_buffer k change w)
buffer-same k change w h = ap (λ (xs : List ℕ). (xs, map (λ (array : List ℕ). length array) w.host.arrays)) (map-updated capacity change k w.host.buffers h)

cells-same : (store : Store) (change : List ℕ → List ℕ) (w : World) → length (change (cells_at w store)) ≡ length (cells_at w store) → Same w (with_cells store change w)
cells-same nowhere change w h = refl
cells-same (field_array object n) change w h = refl
cells-same (host_array a) change w h = ap (λ (xs : List ℕ). (map capacity w.host.buffers, xs)) (map-updated (λ (array : List ℕ). length array) change a w.host.arrays by)
  where
    by : (x : List ℕ) → slice_get w.host.arrays a ≡ Some x → length (change x) ≡ length x
    by x e = let P : Option (List ℕ) → Type 0 = λ o. length (change (unwrap_or o [])) ≡ length (unwrap_or o []) in subst P e h

path-same : (b : Body) (path : Path) (v : Value) (vars : Vars) → Same vars.world (set_path b path v vars).world
path-same b (local n) v vars = refl
path-same b (arg n) v vars = refl
path-same b (field n) v vars = refl

some-is : {X : Type 0} (test : Bool) (x y : X) → only_if test (Some x) ≡ Some y → x ≡ y
some-is true x y e = cc (e)
some-is false x y e = absurd (cc (e))

pub test-is : {X : Type 0} (test : Bool) (o : Option X) (y : X) → only_if test o ≡ Some y → test ≡ true
test-is true o y e = refl
test-is false o y e = absurd (cc (e))

to-world : (v w : Vars) (u : World) → v ≡ w → Same u v.world → Same u w.world
to-world v w u e h = let P : Vars → Type 0 = λ v. Same u v.world in subst P e h

module _ (b : Body) where
  pub put-same : (target : Target) (v : Value) (vars after : Vars) → put_value b target v vars ≡ Some after → Same vars.world after.world
  put-same (to_number at of path) (num n) vars after e = to-world (set_path b path (num n) vars) after vars.world (some-is _ _ after e) (path-same b path (num n) vars)
  put-same (to_flag at path) (truth_value t) vars after e = to-world (set_path b path (truth_value t) vars) after vars.world (some_same _ after e) (path-same b path (truth_value t) vars)
  put-same (to_status at path) (status_number n) vars after e = to-world (set_path b path (status_number n) vars) after vars.world (some_same _ after e) (path-same b path (status_number n) vars)
  put-same (to_slice at bits path) (span s) vars after e = to-world (set_path b path (span s) vars) after vars.world (some_same _ after e) (path-same b path (span s) vars)
  put-same to_nothing v vars after e = to-world vars after vars.world (some_same vars after e) refl
  put-same (to_element at of cells index) (num n) vars after e =
      let m = only_if_made _ (option_and_then (λ xs. option_and_then (λ k. set_element xs k n vars) (value (view b vars.locals vars.world) index)) (span_of (view b vars.locals vars.world) cells)) after e in
      let t = two_made (λ xs k. set_element xs k n vars) (λ xs. value (view b vars.locals vars.world) index) (span_of (view b vars.locals vars.world) cells) after m in
      to-world _ after vars.world (some-is _ _ after t.gives) (cells-same t.x.store _ vars.world (length-set (cells_at vars.world t.x.store) (t.x.from + t.y) n))
  put-same target v vars after e = absurd (cc (e))

  pub stays : (w : World) (block : Block) (behind : Behind) (locals : List Value) → Kept Same w (Go (at_block block behind (record { locals = locals; world = w })))
  stays w block behind locals = go Same w _ refl

  -- The buffer of an argument is the one with its number.
  io-there : (a : ℕ) (vars : Vars) (io : ℕ × Buffer) → io_of b a vars ≡ Some io → slice_get vars.world.host.buffers io.0 ≡ Some io.1
  io-there a vars io e =
      let m = and_then_made (λ k. option_map (λ it. (k, it)) (buffer_of vars k)) (io_number b a vars) io e in
      let j = map_made (λ it. (m.x, it)) (buffer_of vars m.x) io m.gives in
      let P : ℕ × Buffer → Type 0 = λ io. slice_get vars.world.host.buffers io.0 ≡ Some io.1 in
      subst P j.gives j.from

  skipped-same : (k count : ℕ) (vars : Vars) → Same vars.world (change_buffer k (ops.skipped count) vars).world
  skipped-same k count vars = buffer-same k (ops.skipped count) vars.world (λ it e. refl)

  appended-same : (k byte : ℕ) (it : Buffer) (vars : Vars) → slice_get vars.world.host.buffers k ≡ Some it → ops.has_room it ≡ true → Same vars.world (change_buffer k (ops.appended (byte ∷ [])) vars).world
  appended-same k byte it vars there h = buffer-same k (ops.appended (byte ∷ [])) vars.world by
    where
      by : (x : Buffer) → slice_get vars.world.host.buffers k ≡ Some x → capacity (ops.appended (byte ∷ []) x) ≡ capacity x
      by x e = let P : Buffer → Type 0 = λ x. ops.has_room x ≡ true in appended-long byte x (subst P (some_same it x (sym there ∙ e)) h)

  -- Base calls.
  module _ (n : ℕ) (here rest : Block) (behind : Behind) where
    suspends-kept : (w : World) (left status : ℕ) (done : Done) (vars : Vars) → Same w vars.world → Kept Same w (suspending left status done here behind vars)
    suspends-kept w left status done vars h = record { fact = h }

    pub await-kept : (target : Target) (a : ℕ) (call : Awaited) (done : Done) (vars : Vars) → Kept Same vars.world (with_some (io_of b a vars) (λ io. awaited b n target io.0 io.1 call done here rest behind vars))
    await-kept target a call done vars = kept-some Same vars.world (io_of b a vars) _ (λ io e. by call io (io-there a vars io e))
      where
        skips : (k left count : ℕ) → Kept Same vars.world (skip_on n left here rest behind (change_buffer k (ops.skipped count) vars))
        skips k zero count = go Same vars.world _ (skipped-same k count vars)
        skips k (suc left) count = suspends-kept vars.world n _ _ (change_buffer k (ops.skipped count) vars) (skipped-same k count vars)

        by : (call : Awaited) (io : ℕ × Buffer) → slice_get vars.world.host.buffers io.0 ≡ Some io.1 → Kept Same vars.world (awaited b n target io.0 io.1 call done here rest behind vars)
        by (take_number form) io e =
            let skipped : Vars = change_buffer io.0 (ops.skipped (lacking form (bytes_so_far done))) vars in
            let f : Same vars.world skipped.world = skipped-same io.0 (lacking form (bytes_so_far done)) vars in
            kept-either Same vars.world _ _ _ (λ i. kept-some Same vars.world _ _ (λ after j. go Same vars.world _ (same-on vars.world skipped.world after.world f (put-same target _ skipped after j)))) (λ i. suspends-kept vars.world n _ _ skipped f)
        by (skip count) io e = kept-some Same vars.world _ _ (λ left i. skips io.0 _ _)
        by (write byte) io e = kept-some Same vars.world _ _ (λ it i. kept-either Same vars.world _ _ _ (λ j. go Same vars.world _ (appended-same io.0 it io.1 vars e j)) (λ j. suspends-kept vars.world n _ _ vars refl))

  pub perform-same : (target : Target) (call : Written) (vars after : Vars) → performed b target call vars ≡ Some after → Same vars.world after.world
  perform-same target (skip_fast a actual worst_case) vars after e =
      let m = and_then_made (λ io. option_and_then (λ m. option_and_then (λ n. skipped_fast io.0 io.1 m n vars) (value (state_of b vars) worst_case)) (value (state_of b vars) actual)) (io_of b a vars) after e in
      let j = two_made (λ m' n. skipped_fast m.x.0 m.x.1 m' n vars) (λ m'. value (state_of b vars) worst_case) (value (state_of b vars) actual) after m.gives in
      to-world _ after vars.world (some-is _ _ after j.gives) (skipped-same m.x.0 _ vars)
  perform-same target (write_fast a byte) vars after e =
      let m = two_made (λ io n. written_fast io.0 io.1 n vars) (λ io. value (state_of b vars) byte) (io_of b a vars) after e in
      let t = and_parts (nat_lt m.y (2 ^ 8)) (ops.has_room m.x.1) (test-is _ _ after m.gives) in
      to-world _ after vars.world (some-is _ _ after m.gives) (appended-same m.x.0 m.y m.x.1 vars (io-there a vars m.x m.from) t.1)
  perform-same target (copy_to_writer a source) vars after e =
      let m = two_made (λ io s. only_if (are_bytes (elements_of vars s)) (with_target b target (copied_to_writer io.0 io.1 s vars))) (λ io. span_of (state_of b vars) source) (io_of b a vars) after e in
      same-on vars.world (copied_to_writer m.x.0 m.x.1 m.y vars).1.world after.world (buffer-same m.x.0 (ops.put (elements_of vars m.y)) vars.world (λ it e. put-long (elements_of vars m.y) it)) (put-same target _ (copied_to_writer m.x.0 m.x.1 m.y vars).1 after (only_if_made _ _ after m.gives))
  perform-same target (copy_to_slice to source) vars after e =
      let m = two_made (λ t s. only_if (takes_all vars t (elements_of vars s)) (with_target b target (copied_to_slice t s vars))) (λ t. span_of (state_of b vars) source) (span_of (state_of b vars) to) after e in
      let t = and_parts (nat_le (m.x.from + m.x.count) (length (cells_at vars.world m.x.store))) (list_all (fits_store m.x.store) (elements_of vars m.y)) (test-is _ _ after m.gives) in
      let fits : m.x.from + m.x.count ≤ length (cells_at vars.world m.x.store) = grind (arith, nat_tests, t.0) in
      same-on vars.world (copied_to_slice m.x m.y vars).1.world after.world
      (cells-same m.x.store (ops.copied m.x.from m.x.count (elements_of vars m.y)) vars.world (overwritten-long m.x.from (take m.x.count (elements_of vars m.y)) (cells_at vars.world m.x.store) (omega (arith, fits, length-take m.x.count (elements_of vars m.y)))))
      (put-same target _ (copied_to_slice m.x m.y vars).1 after (only_if_made _ _ after m.gives))
