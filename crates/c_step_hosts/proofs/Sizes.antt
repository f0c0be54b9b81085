-- What is left of a host's buffers and byte arrays has the sizes that they had.
use Rattle.std.proofs.Common.{◌≡◌, ℕ, zero, suc, ◌+◌, Bool, true, false, List, [], ◌∷◌, length, map, drop, Option, Some, None, refl, sym, subst, ap, ◌∙◌}
use Rattle.std.specs.Prelude.{◌&&◌, if◌then◌else◌, nat_le, slice_get, slice_set, option_map, option_and_then}
use Rattle.std.specs.Option.{option_map_or}
use Rattle.wf_text.specs.HostActions.{HostArg, num, flag, io, bytes}
use Rattle.wf_base.specs.BaseOps.{Buffer, capacity}
use Rattle.wf_base.specs.HostRun.{Host}
use Rattle.wf_base.specs.LawfulActions.{AreDistinct, named_buffers, named_arrays}
use Rattle.wf_bufs.specs.EngineLaw.{SameSizes}
use Rattle.c_meaning.specs.CMemory.{Object, Memory}
use Rattle.c_meaning.specs.CRun.{bytes_object, byte_objects, arg_bytes, bytes_in, lawful_buffer, buffer_left, arg_left, args_left}
use Rattle.c_meaning.specs.Typed.{object_shape, shape_of}
use Rattle.c_step_hosts.specs.Taking.{buffer_with, indices_left, HasShape, HaveShapes}
use Rattle.c_step_hosts.specs.declared.taking.Indices.{Indices}
use Rattle.c_step_hosts.proofs.Around.{with_buffer, with_array}
use Rattle.c_step_hosts.proofs.Lent.{once_buffers, once_arrays}
use Rattle.c_step_hosts.proofs.Taken.{bytes_sized, nothing_left, left_is}
use Rattle.c_step_hosts.proofs.Back.{left_for, others_left, first_of, one_on}

module _ (memory : Memory) (buffer object : ℕ) (was b : Buffer) where
  lawful_sized : (them : List ℕ) → length them ≡ capacity was → (o : Option Indices) → option_and_then (λ (i : Indices). lawful_buffer (capacity was) (buffer_with them i)) o ≡ Some b → capacity b ≡ capacity was
  lawful_sized them n None e = absurd (cc (e))
  lawful_sized them n (Some i) e = by (nat_le i.ri i.wi && nat_le i.wi (capacity was)) e
    where
      by : (t : Bool) → (if t then Some (buffer_with them i) else None) ≡ Some b → capacity b ≡ capacity was
      by true e = let s : buffer_with them i ≡ b = cc (e) in ap capacity (sym s) ∙ n
      by false e = absurd (cc (e))

  buffer_sized : HasShape memory object was.cells → buffer_left memory buffer object was ≡ Some b → capacity b ≡ capacity was
  buffer_sized s e = by (bytes_in memory object) refl
    where
      by : (o : Option (List ℕ)) → bytes_in memory object ≡ o → capacity b ≡ capacity was
      by None i = let n = nothing_left memory buffer object was i in absurd (cc (n, e))
      by (Some them) i =
          let n : length them ≡ capacity was = bytes_sized memory object was.cells them s i in
          lawful_sized them n (indices_left memory buffer object them) (sym (left_is memory buffer object was them i n) ∙ e)

set_sized : {A B : Type 0} (f : A → B) (xs : List A) (k : ℕ) (y : A) → ((x : A) → slice_get xs k ≡ Some x → f y ≡ f x) → map f (slice_set xs k y) ≡ map f xs
set_sized f [] k y h = refl
set_sized f (x ∷ xs) zero y h = ap (λ z. z ∷ map f xs) (h x refl)
set_sized f (x ∷ xs) (suc k) y h = ap (λ zs. f x ∷ zs) (set_sized f xs k y h)

as_they_were : (host left : Host) → left ≡ host → SameSizes host left
as_they_were host left e = (ap (λ (h : Host). map capacity h.buffers) e, ap (λ (h : Host). map (λ (array : List ℕ). length array) h.arrays) e)

-- One argument, and then all.
arg_sized : (memory : Memory) (buffer object : ℕ) (arg : HostArg) (host left : Host) → HasShape memory object (arg_bytes host arg) → arg_left memory buffer object arg host ≡ Some left → SameSizes host left
arg_sized memory buffer object (num n) host left s e = as_they_were host left (sym (cc (e)))
arg_sized memory buffer object (flag t) host left s e = as_they_were host left (sym (cc (e)))
arg_sized memory buffer object (io None) host left s e = as_they_were host left (sym (cc (e)))
arg_sized memory buffer object (io (Some k)) host left s e = by_found (slice_get host.buffers k) refl e
  where
    by_left : (was : Buffer) → slice_get host.buffers k ≡ Some was → (o : Option Buffer) → ((b : Buffer) → o ≡ Some b → capacity b ≡ capacity was) → option_map (λ (b : Buffer). with_buffer k b host) o ≡ Some left → SameSizes host left
    by_left was i None h e = absurd (cc (e))
    by_left was i (Some b) h e =
        let is : left ≡ with_buffer k b host = sym (cc (e)) in
        let all = set_sized capacity host.buffers k b (λ x j. let same : was ≡ x = cc (i, j) in h b refl ∙ ap capacity same) in
        let z = as_they_were (with_buffer k b host) left is in
        (z.0 ∙ all, z.1)

    by_found : (o : Option Buffer) → slice_get host.buffers k ≡ o → option_and_then (λ (was : Buffer). option_map (λ (b : Buffer). with_buffer k b host) (buffer_left memory buffer object was)) o ≡ Some left → SameSizes host left
    by_found None i e = absurd (cc (e))
    by_found (Some was) i e =
        let t : HasShape memory object was.cells = subst (λ (o : Option Buffer). HasShape memory object (option_map_or (λ b. b.cells) o [])) i s in
        by_left was i (buffer_left memory buffer object was) (λ b. buffer_sized memory buffer object was b t) e
arg_sized memory buffer object (bytes None) host left s e = as_they_were host left (sym (cc (e)))
arg_sized memory buffer object (bytes (Some k)) host left s e = by (bytes_in memory object) refl e
  where
    by : (o : Option (List ℕ)) → bytes_in memory object ≡ o → option_map (λ (them : List ℕ). with_array k them host) o ≡ Some left → SameSizes host left
    by None i e = absurd (cc (e))
    by (Some them) i e =
        let is : left ≡ with_array k them host = sym (cc (e)) in
        let n = bytes_sized memory object (arg_bytes host (bytes (Some k))) them s i in
        let all = set_sized (λ (array : List ℕ). length array) host.arrays k them (λ x j. n ∙ ap (λ (o : Option (List ℕ)). length (option_map_or (λ (xs : List ℕ). xs) o [])) j) in
        let z = as_they_were (with_array k them host) left is in
        (z.0, z.1 ∙ all)

pub args_sized : (memory : Memory) (buffer object : ℕ) (args : List HostArg) (host left : Host) → AreDistinct (named_buffers args) → AreDistinct (named_arrays args) → HaveShapes memory object host args
    → args_left memory buffer object args host ≡ Some left → SameSizes host left
args_sized memory buffer object [] host left b a s e = as_they_were host left (sym (cc (e)))
args_sized memory buffer object (arg ∷ args) host left b a s e = by (λ mid h i. args_sized memory (buffer + 1) (object + 1) args mid left (once_buffers arg args b) (once_arrays arg args a) h i) (arg_left memory buffer object arg host) refl e
  where
    first : ((o : Object) × (slice_get memory object ≡ Some o) × (object_shape o ≡ object_shape (bytes_object (arg_bytes host arg)))) × (drop (suc object) (shape_of memory) ≡ shape_of (byte_objects host args))
    first = first_of object_shape memory object (object_shape (bytes_object (arg_bytes host arg))) (shape_of (byte_objects host args)) s

    others : (mid : Host) → arg_left memory buffer object arg host ≡ Some mid → HaveShapes memory (object + 1) mid args
    others mid i = subst (λ (m : ℕ). drop m (shape_of memory) ≡ shape_of (byte_objects mid args)) (one_on object)
        (first.1 ∙ sym (ap shape_of (others_left arg args host mid (left_for memory buffer object arg host mid i) b a)))

    by : ((mid : Host) → HaveShapes memory (object + 1) mid args → args_left memory (buffer + 1) (object + 1) args mid ≡ Some left → SameSizes mid left) → (o : Option Host) → arg_left memory buffer object arg host ≡ o
        → option_and_then (args_left memory (buffer + 1) (object + 1) args) o ≡ Some left → SameSizes host left
    by later None i e = absurd (cc (e))
    by later (Some mid) i e =
        let x = arg_sized memory buffer object arg host mid first.0 i in
        let y = later mid (others mid i) e in
        (y.0 ∙ x.0, y.1 ∙ x.1)
