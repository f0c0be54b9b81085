-- One argument more has been taken back.
use Rattle.std.proofs.Common.{◌≡◌, ℕ, zero, suc, ◌+◌, ◌<◌, ◌≤◌, Bool, true, false, List, [], ◌∷◌, length, map, drop, Option, Some, None, refl, sym, subst, ap, ◌∙◌, arith, slice_index_or}
use Rattle.std.specs.Prelude.{slice_get, slice_set, option_and_then}
use Rattle.wf_text.specs.HostActions.{HostArg, num, flag, io, bytes}
use Rattle.wf_base.specs.HostRun.{Host}
use Rattle.wf_base.specs.LawfulActions.{AreDistinct, named_buffers, named_arrays}
use Rattle.c_meaning.specs.CMemory.{Object, Memory}
use Rattle.c_meaning.specs.CRun.{bytes_object, byte_objects, arg_bytes, arg_left, args_left}
use Rattle.c_meaning.specs.Typed.{object_shape, shape_of}
use Rattle.c_mem.specs.FieldParts.{has_bytes}
use Rattle.c_step_hosts.specs.Lending.{all_lent}
use Rattle.c_step_hosts.specs.Taking.{Gives, bytes_back, HasShape, HaveShapes, HaveBytesBetween}
use Rattle.c_step_hosts.proofs.Lent.{elsewhere, once_buffers, once_arrays}
use Rattle.wf_bufs.specs.declared.calls.Arg.{Arg}
use Rattle.wf_bufs.specs.HostViews.{arg_of}
use Rattle.c_step_hosts.proofs.Steps.{next_arg, no_args}
use Rattle.c_step_hosts.proofs.Taken.{empty_has_bytes}
use Rattle.c_step_hosts.proofs.Back.{left_for, others_left, rest_stays, first_of, one_on, above_back}

set_there : {A : Type 0} (xs : List A) (n : ℕ) (y x : A) → slice_get xs n ≡ Some y → slice_get (slice_set xs n x) n ≡ Some x
set_there [] n y x e = absurd (cc (e))
set_there (z ∷ zs) zero y x e = refl
set_there (z ∷ zs) (suc n) y x e = set_there zs n y x e

same_found : (memory : Memory) (n : ℕ) (a o : Object) → slice_get memory n ≡ Some a → slice_get memory n ≡ Some o → a ≡ o
same_found memory n a o e h = cc (e, h)

traded_has : (memory : Memory) (n : ℕ) (a o : Object) → slice_get memory n ≡ Some a → slice_get (slice_set memory n (bytes_object [])) n ≡ Some o → has_bytes o ≡ true
traded_has memory n a o e h = ap has_bytes (sym (same_found (slice_set memory n (bytes_object [])) n (bytes_object []) o (set_there memory n a (bytes_object []) e) h))

empty_has : (memory : Memory) (n : ℕ) (o : Object) → HasShape memory n [] → slice_get memory n ≡ Some o → has_bytes o ≡ true
empty_has memory n o s h = let e = same_found memory n s.0 o s.1 h in empty_has_bytes o (ap object_shape (sym e) ∙ s.2)

-- The object of an argument's bytes has bytes when they have been taken back.
at_back : (arg : HostArg) (was : Host) (memory : Memory) (n : ℕ) (o : Object) → HasShape memory n (arg_bytes was arg) → slice_get (bytes_back arg memory n) n ≡ Some o → has_bytes o ≡ true
at_back (num m) was memory n o s h = empty_has memory n o s h
at_back (flag t) was memory n o s h = empty_has memory n o s h
at_back (io None) was memory n o s h = empty_has memory n o s h
at_back (io (Some k)) was memory n o s h = traded_has memory n s.0 o s.1 h
at_back (bytes None) was memory n o s h = empty_has memory n o s h
at_back (bytes (Some k)) was memory n o s h = traded_has memory n s.0 o s.1 h

elsewhere_back : (arg : HostArg) (memory : Memory) (n k : ℕ) → (n ≡ k → ⊥) → slice_get (bytes_back arg memory n) k ≡ slice_get memory k
elsewhere_back (num m) memory n k h = refl
elsewhere_back (flag t) memory n k h = refl
elsewhere_back (io None) memory n k h = refl
elsewhere_back (io (Some j)) memory n k h = elsewhere memory n k (bytes_object []) h
elsewhere_back (bytes None) memory n k h = refl
elsewhere_back (bytes (Some j)) memory n k h = elsewhere memory n k (bytes_object []) h

-- Below the next number: below this one, or this one.
at_or_below : (P : ℕ → Type 0) (n : ℕ) → P n → ((k : ℕ) → k < n → P k) → (k : ℕ) → k < n + 1 → P k
at_or_below P zero here lower zero h = here
at_or_below P zero here lower (suc k) h = absurd (omega (arith, h))
at_or_below P (suc n) here lower zero h = lower 0 (omega arith)
at_or_below P (suc n) here lower (suc k) h = at_or_below (λ j. P (suc j)) n here (λ j l. lower (suc j) (omega (arith, l))) k (omega (arith, h))

between_more : (arg : HostArg) (was : Host) (memory : Memory) (from n : ℕ) → HasShape memory n (arg_bytes was arg) → HaveBytesBetween from n memory → HaveBytesBetween from (n + 1) (bytes_back arg memory n)
between_more arg was memory from n s h = λ k o a b e.
    at_or_below (λ j. from ≤ j → slice_get (bytes_back arg memory n) j ≡ Some o → has_bytes o ≡ true) n
    (λ l e. at_back arg was memory n o s e)
    (λ j l f e. h j o f l (sym (elsewhere_back arg memory n j (λ q. absurd (omega (arith, q, l)))) ∙ e))
    k b a e

-- The arguments so far have been taken back: the host and memory from here on come to what all have left.
pub record TakesOn (whole : Option Host) (from : ℕ) (now : Memory) (buffer object : ℕ) (host : Host) (args : List HostArg) : Type 0 where
  pub was : Host
  pub lent : host ≡ all_lent args was
  pub shaped : HaveShapes now object was args
  pub comes : args_left now buffer object args was ≡ whole
  pub bytes : HaveBytesBetween from object now

-- What one argument gives.
abbrev pub GivesOne : Memory → (buffer object : ℕ) → HostArg → Bool → (host after : Host) → Type 0
GivesOne now buffer object arg result host after = (was : Host) (rest : List HostArg) → host ≡ all_lent (arg ∷ rest) was → AreDistinct (named_buffers (arg ∷ rest)) → AreDistinct (named_arrays (arg ∷ rest))
    → HasShape now object (arg_bytes was arg) → Gives (arg_left now buffer object arg was) result (λ left. after ≡ all_lent rest left)

module _ (whole : Option Host) (from : ℕ) (now later : Memory) (buffer object : ℕ) (host after : Host) (arg : HostArg) (args : List HostArg)
    (b : AreDistinct (named_buffers (arg ∷ args))) (a : AreDistinct (named_arrays (arg ∷ args))) (t : TakesOn whole from now buffer object host (arg ∷ args)) where
  at_first : ((x : Object) × (slice_get now object ≡ Some x) × (object_shape x ≡ object_shape (bytes_object (arg_bytes t.was arg)))) × (drop (suc object) (shape_of now) ≡ shape_of (byte_objects t.was args))
  at_first = first_of object_shape now object (object_shape (bytes_object (arg_bytes t.was arg))) (shape_of (byte_objects t.was args)) t.shaped

  pub takes_one : GivesOne now buffer object arg true host after → buffer + length (arg ∷ args) ≤ object → later ≡ bytes_back arg now object → TakesOn whole from later (buffer + 1) (object + 1) after args
  takes_one gives apart l = let g = gives t.was args t.lent b a at_first.0 in with_left g.0 g.1 g.2
    where
      with_left : (left : Host) → arg_left now buffer object arg t.was ≡ Some left → after ≡ all_lent args left → TakesOn whole from later (buffer + 1) (object + 1) after args
      with_left left e h = record {
        was = left;
        lent = h;
        shaped = subst (λ (m : ℕ). drop m (shape_of later) ≡ shape_of (byte_objects left args)) (one_on object)
            (ap (λ (m : Memory). drop (suc object) (shape_of m)) l ∙ (above_back arg now object ∙ (at_first.1 ∙ sym (ap shape_of (others_left arg args t.was left (left_for now buffer object arg t.was left e) b a)))));
        comes = ap (λ (m : Memory). args_left m (buffer + 1) (object + 1) args left) l
            ∙ (rest_stays now (buffer + 1) object arg args left (omega (arith, apart))
            ∙ (ap (option_and_then (args_left now (buffer + 1) (object + 1) args)) (sym e) ∙ t.comes));
        bytes = subst (HaveBytesBetween from (object + 1)) (sym l) (between_more arg t.was now from object at_first.0 t.bytes);
      }

  pub takes_none : GivesOne now buffer object arg false host after → whole ≡ None
  takes_none gives = sym t.comes ∙ ap (option_and_then (args_left now (buffer + 1) (object + 1) args)) (gives t.was args t.lent b a at_first.0)

mapped_length : (args : List Arg) → length (map arg_of args) ≡ length args
mapped_length [] = refl
mapped_length (x ∷ xs) = ap suc (mapped_length xs)

rest_length : (args : List Arg) (i : ℕ) → i < length args → length (drop i (map arg_of args)) + i ≡ length args
rest_length [] i h = absurd (omega (arith, h))
rest_length (x ∷ xs) zero h = omega (arith, mapped_length xs)
rest_length (x ∷ xs) (suc i) h = omega (arith, rest_length xs i (omega (arith, h)))

-- The same of an argument of a call.
module _ (whole : Option Host) (from : ℕ) (now later : Memory) (buffer object first : ℕ) (host after : Host) (args : List Arg) (i : ℕ) (d : Arg) (w : i < length args)
    (b : AreDistinct (named_buffers (drop i (map arg_of args)))) (a : AreDistinct (named_arrays (drop i (map arg_of args)))) where
  next_buffers : AreDistinct (named_buffers (arg_of (slice_index_or args i d) ∷ drop (i + 1) (map arg_of args)))
  next_buffers = subst (λ (xs : List HostArg). AreDistinct (named_buffers xs)) (next_arg args i d w) b

  next_arrays : AreDistinct (named_arrays (arg_of (slice_index_or args i d) ∷ drop (i + 1) (map arg_of args)))
  next_arrays = subst (λ (xs : List HostArg). AreDistinct (named_arrays xs)) (next_arg args i d w) a

  next_apart : buffer ≡ first + i → first + length args ≤ object → buffer + length (arg_of (slice_index_or args i d) ∷ drop (i + 1) (map arg_of args)) ≤ object
  next_apart e h = subst (λ (xs : List HostArg). buffer + length xs ≤ object) (next_arg args i d w) (omega (arith, rest_length args i w, e, h))

  pub rest_distinct : AreDistinct (named_buffers (drop (i + 1) (map arg_of args))) × AreDistinct (named_arrays (drop (i + 1) (map arg_of args)))
  rest_distinct = (once_buffers (arg_of (slice_index_or args i d)) (drop (i + 1) (map arg_of args)) next_buffers, once_arrays (arg_of (slice_index_or args i d)) (drop (i + 1) (map arg_of args)) next_arrays)

  pub takes_next : TakesOn whole from now buffer object host (drop i (map arg_of args)) → GivesOne now buffer object (arg_of (slice_index_or args i d)) true host after → buffer ≡ first + i → first + length args ≤ object
      → later ≡ bytes_back (arg_of (slice_index_or args i d)) now object → TakesOn whole from later (buffer + 1) (object + 1) after (drop (i + 1) (map arg_of args))
  takes_next t gives e h l =
      takes_one whole from now later buffer object host after (arg_of (slice_index_or args i d)) (drop (i + 1) (map arg_of args)) next_buffers next_arrays (subst (TakesOn whole from now buffer object host) (next_arg args i d w) t)
      gives (next_apart e h) l

  pub next_none : TakesOn whole from now buffer object host (drop i (map arg_of args)) → GivesOne now buffer object (arg_of (slice_index_or args i d)) false host after → whole ≡ None
  next_none t gives =
      takes_none whole from now later buffer object host after (arg_of (slice_index_or args i d)) (drop (i + 1) (map arg_of args)) next_buffers next_arrays (subst (TakesOn whole from now buffer object host) (next_arg args i d w) t) gives

pub all_taken : (whole : Option Host) (from : ℕ) (now : Memory) (buffer object : ℕ) (host : Host) (args : List Arg) (i : ℕ) → length args ≤ i → TakesOn whole from now buffer object host (drop i (map arg_of args))
    → (whole ≡ Some host) × HaveBytesBetween from object now
all_taken whole from now buffer object host args i h t =
    let e : TakesOn whole from now buffer object host [] = subst (TakesOn whole from now buffer object host) (no_args args i h) t in
    (sym e.comes ∙ ap Some (sym e.lent), e.bytes)
