-- What a body writes leaves each struct state's active coroutine and what remains of its methods, and puts no struct state into
-- a field.
use Rattle.std.proofs.Common.{◌&&◌, ◌^◌, ◌≡◌, ℕ, zero, suc, ◌+◌, Bool, true, false, List, [], ◌∷◌, Some, refl, ap, ◌∙◌, subst}
use Rattle.std.specs.Prelude.{nat_lt, slice_get, slice_set, option_and_then}
use Rattle.wf_base.specs.BaseOps as ops
use Rattle.wf_ast.specs.TypedTree.{Path, local, field, arg, Target, to_number, to_element, to_flag, to_status, to_slice, to_nothing, Written, skip_fast, write_fast, copy_to_writer, copy_to_slice}
use Rattle.wf_ast.specs.Value.{Store, nowhere, host_array, field_array, Value, num, truth_value, status_number, span, buffer, value, span_of, only_if}
use Rattle.wf_meaning.specs.SourceState.{Held, held_num, held_truth, held_status, held_cells, held_part, Object}
use Rattle.wf_meaning.specs.World.{World, Body, Vars, updated, held_of, change_held, set_path, set_element, put_value, with_cells, with_field, with_object, view}
use Rattle.wf_meaning.specs.SourceStep.{change_buffer, state_of, io_of, skipped_fast, written_fast, copied_to_writer, copied_to_slice, elements_of, are_bytes, takes_all, with_target, performed}
use Rattle.wf_meaning.proofs.Lists2.{and_then_made, only_if_made, two_made, some_same}

-- One struct state comes of another: the same is active and remains, and what stands inside stood there before.
pub record Kin (o o' : Object) : Type 0 where
  pub active : o'.active ≡ o.active
  pub remaining : o'.remaining ≡ o.remaining
  pub parts : (x n : ℕ) → slice_get o'.fields x ≡ Some (held_part n) → slice_get o.fields x ≡ Some (held_part n)

pub kin-self : (o : Object) → Kin o o
kin-self o = record { active = refl; remaining = refl; parts = λ x n e. e }

pub kin-on : (a b c : Object) → Kin a b → Kin b c → Kin a c
kin-on a b c h k = record { active = k.active ∙ h.active; remaining = k.remaining ∙ h.remaining; parts = λ x n e. h.parts x n (k.parts x n e) }

abbrev pub Pairs : {X : Type 0} → (X → X → Type 0) → List X → List X → Type 0
Pairs P [] [] = Unit {0}
Pairs P (x ∷ xs) (y ∷ ys) = P x y × Pairs P xs ys
Pairs P xs ys = ⊥

pub pairs-self : {X : Type 0} (P : X → X → Type 0) → ((x : X) → P x x) → (xs : List X) → Pairs P xs xs
pairs-self P h [] = tt
pairs-self P h (x ∷ xs) = (h x, pairs-self P h xs)

pub pairs-on : {X : Type 0} (P : X → X → Type 0) → ((x y z : X) → P x y → P y z → P x z) → (xs ys zs : List X) → Pairs P xs ys → Pairs P ys zs → Pairs P xs zs
pairs-on P t [] [] [] h k = tt
pairs-on P t (x ∷ xs) (y ∷ ys) (z ∷ zs) h k = (t x y z h.0 k.0, pairs-on P t xs ys zs h.1 k.1)
pairs-on P t [] (y ∷ ys) zs h k = absurd h
pairs-on P t (x ∷ xs) [] zs h k = absurd h
pairs-on P t [] [] (z ∷ zs) h k = absurd k
pairs-on P t (x ∷ xs) (y ∷ ys) [] h k = absurd k

pub pairs-updated : {X : Type 0} (P : X → X → Type 0) (f : X → X) → ((x : X) → P x x) → ((x : X) → P x (f x)) → (i : ℕ) (xs : List X) → Pairs P xs (updated f i xs)
pairs-updated P f s h i [] = tt
pairs-updated P f s h zero (x ∷ xs) = (h x, pairs-self P s xs)
pairs-updated P f s h (suc i) (x ∷ xs) = (s x, pairs-updated P f s h i xs)

-- So it is of all struct states of a world.
abbrev pub Same : World → World → Type 0
Same v w = Pairs Kin v.objects w.objects

pub same-self : (w : World) → Same w w
same-self w = pairs-self Kin kin-self w.objects

pub same-on : (u v w : World) → Same u v → Same v w → Same u w
same-on u v w h k = pairs-on Kin kin-on u.objects v.objects w.objects h k

pub object-same : (number : ℕ) (f : Object → Object) (w : World) → ((o : Object) → Kin o (f o)) → Same w (with_object number f w)
object-same number f w h = pairs-updated Kin f kin-self h number w.objects

-- A field is written.
field-parts : (f : Held → Held) → ((held : Held) (n : ℕ) → f held ≡ held_part n → held ≡ held_part n) → (i x n : ℕ) (fields : List Held) → slice_get (updated f i fields) x ≡ Some (held_part n) → slice_get fields x ≡ Some (held_part n)
field-parts f h i x n [] e = e
field-parts f h zero zero n (held ∷ fields) e = ap Some (h held n (some_same (f held) (held_part n) e))
field-parts f h zero (suc x) n (held ∷ fields) e = e
field-parts f h (suc i) zero n (held ∷ fields) e = e
field-parts f h (suc i) (suc x) n (held ∷ fields) e = field-parts f h i x n fields e

field-same : (object n : ℕ) (f : Held → Held) (w : World) → ((held : Held) (m : ℕ) → f held ≡ held_part m → held ≡ held_part m) → Same w (with_field object n f w)
field-same object n f w h = object-same object (λ o. record o { fields = updated f n o.fields }) w (λ o. record { active = refl; remaining = refl; parts = λ x m e. field-parts f h n x m o.fields e })

no-part : (v : Value) (n : ℕ) → held_of v ≡ held_part n → ⊥
no-part (num m) n e = absurd (cc (e))
no-part (truth_value m) n e = absurd (cc (e))
no-part (status_number m) n e = absurd (cc (e))
no-part (span m) n e = absurd (cc (e))
no-part (buffer m) n e = absurd (cc (e))

changed-part : (change : List ℕ → List ℕ) (held : Held) (n : ℕ) → change_held change held ≡ held_part n → held ≡ held_part n
changed-part change (held_num m) n e = absurd (cc (e))
changed-part change (held_truth m) n e = absurd (cc (e))
changed-part change (held_status m) n e = absurd (cc (e))
changed-part change (held_cells m) n e = absurd (cc (e))
changed-part change (held_part m) n e = e

cells-same : (store : Store) (change : List ℕ → List ℕ) (w : World) → Same w (with_cells store change w)
cells-same nowhere change w = same-self w
cells-same (host_array a) change w = same-self w
cells-same (field_array object n) change w = field-same object n (change_held change) w (changed-part change)

path-same : (b : Body) (path : Path) (v : Value) (vars : Vars) → Same vars.world (set_path b path v vars).world
path-same b (local n) v vars = same-self vars.world
path-same b (arg n) v vars = same-self vars.world
path-same b (field n) v vars = field-same b.object n (λ _. held_of v) vars.world (λ held m e. absurd (no-part v m e))

pub some-is : {X : Type 0} (test : Bool) (x y : X) → only_if test (Some x) ≡ Some y → x ≡ y
some-is true x y e = cc (e)
some-is false x y e = absurd (cc (e))

to-world : (v w : Vars) (u : World) → v ≡ w → Same u v.world → Same u w.world
to-world v w u e h = let P : Vars → Type 0 = λ v. Same u v.world in subst P e h

module _ (b : Body) where
  pub put-same : (target : Target) (v : Value) (vars after : Vars) → put_value b target v vars ≡ Some after → Same vars.world after.world
  put-same (to_number at of path) (num n) vars after e = to-world (set_path b path (num n) vars) after vars.world (some-is _ _ after e) (path-same b path (num n) vars)
  put-same (to_flag at path) (truth_value t) vars after e = to-world (set_path b path (truth_value t) vars) after vars.world (some_same _ after e) (path-same b path (truth_value t) vars)
  put-same (to_status at path) (status_number n) vars after e = to-world (set_path b path (status_number n) vars) after vars.world (some_same _ after e) (path-same b path (status_number n) vars)
  put-same (to_slice at bits path) (span s) vars after e = to-world (set_path b path (span s) vars) after vars.world (some_same _ after e) (path-same b path (span s) vars)
  put-same to_nothing v vars after e = to-world vars after vars.world (some_same vars after e) (same-self vars.world)
  put-same (to_element at of cells index) (num n) vars after e =
      let m = only_if_made _ (option_and_then (λ xs. option_and_then (λ k. set_element xs k n vars) (value (view b vars.locals vars.world) index)) (span_of (view b vars.locals vars.world) cells)) after e in
      let t = two_made (λ xs k. set_element xs k n vars) (λ xs. value (view b vars.locals vars.world) index) (span_of (view b vars.locals vars.world) cells) after m in
      to-world _ after vars.world (some-is _ _ after t.gives) (cells-same t.x.store (λ xs. slice_set xs (t.x.from + t.y) n) vars.world)
  put-same target v vars after e = absurd (cc (e))

  pub perform-same : (target : Target) (call : Written) (vars after : Vars) → performed b target call vars ≡ Some after → Same vars.world after.world
  perform-same target (skip_fast a actual worst_case) vars after e =
      let m = and_then_made (λ io. option_and_then (λ m. option_and_then (λ n. skipped_fast io.0 io.1 m n vars) (value (state_of b vars) worst_case)) (value (state_of b vars) actual)) (io_of b a vars) after e in
      let j = two_made (λ m' n. skipped_fast m.x.0 m.x.1 m' n vars) (λ m'. value (state_of b vars) worst_case) (value (state_of b vars) actual) after m.gives in
      to-world (change_buffer m.x.0 (ops.skipped j.x) vars) after vars.world (some-is (nat_lt j.y (2 ^ 32) && ops.can_skip_fast j.x j.y m.x.1) (change_buffer m.x.0 (ops.skipped j.x) vars) after j.gives) (same-self vars.world)
  perform-same target (write_fast a byte) vars after e =
      let m = two_made (λ io n. written_fast io.0 io.1 n vars) (λ io. value (state_of b vars) byte) (io_of b a vars) after e in
      to-world _ after vars.world (some-is _ _ after m.gives) (same-self vars.world)
  perform-same target (copy_to_writer a source) vars after e =
      let m = two_made (λ io s. only_if (are_bytes (elements_of vars s)) (with_target b target (copied_to_writer io.0 io.1 s vars))) (λ io. span_of (state_of b vars) source) (io_of b a vars) after e in
      put-same target (copied_to_writer m.x.0 m.x.1 m.y vars).0 (copied_to_writer m.x.0 m.x.1 m.y vars).1 after (only_if_made _ _ after m.gives)
  perform-same target (copy_to_slice to source) vars after e =
      let m = two_made (λ t s. only_if (takes_all vars t (elements_of vars s)) (with_target b target (copied_to_slice t s vars))) (λ t. span_of (state_of b vars) source) (span_of (state_of b vars) to) after e in
      same-on vars.world (copied_to_slice m.x m.y vars).1.world after.world (cells-same m.x.store (ops.copied m.x.from m.x.count (elements_of vars m.y)) vars.world)
      (put-same target (copied_to_slice m.x m.y vars).0 (copied_to_slice m.x m.y vars).1 after (only_if_made _ _ after m.gives))
