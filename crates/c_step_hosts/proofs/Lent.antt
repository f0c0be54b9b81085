-- Bytes that are lent.
use Rattle.std.proofs.Common.{◌≡◌, ℕ, zero, suc, ◌+◌, ◌<◌, List, [], ◌∷◌, ◌++◌, length, map, drop, Option, Some, None, refl, sym, subst, ap, ◌∙◌, arith, All, slice_index_or, length-set}
use Rattle.std.specs.Prelude.{slice_get, slice_set}
use Rattle.std.specs.Option.{option_map_or}
use Rattle.wf_text.specs.HostActions.{HostArg, num, flag, io, bytes}
use Rattle.wf_base.specs.BaseOps.{Buffer}
use Rattle.wf_base.specs.HostRun.{Host}
use Rattle.wf_base.specs.LawfulActions.{AreDistinct, named_buffers, named_arrays}
use Rattle.wf_bufs.specs.declared.calls.Arg.{Arg}
use Rattle.wf_bufs.specs.HostViews.{arg_of}
use Rattle.c_meaning.specs.CMemory.{Object, Memory}
use Rattle.c_meaning.specs.CRun.{bytes_object, arg_bytes, byte_objects}
use Rattle.c_step_hosts.specs.Lending.{IsThere, AreThere, lent_buffer, lent_for, all_lent}
use Rattle.c_step_hosts.proofs.Steps.{next_arg, grows}

pub elsewhere : {A : Type 0} (xs : List A) (i j : ℕ) (x : A) → (i ≡ j → ⊥) → slice_get (slice_set xs i x) j ≡ slice_get xs j
elsewhere [] i j x h = refl
elsewhere (z ∷ zs) zero zero x h = absurd (h refl)
elsewhere (z ∷ zs) zero (suc j) x h = refl
elsewhere (z ∷ zs) (suc i) zero x h = refl
elsewhere (z ∷ zs) (suc i) (suc j) x h = elsewhere zs i j x (λ e. h (ap suc e))

pub all_tail : {A : Type 0} (P : A → Type 0) (x : A) (xs : List A) → All P (x ∷ xs) → All P xs
all_tail P x xs h = λ k d l. h (suc k) d (omega (arith, l))

pub all_head : {A : Type 0} (P : A → Type 0) (x : A) (xs : List A) → All P (x ∷ xs) → P x
all_head P x xs h = h 0 x (omega arith)

-- What others name stays.
abbrev pub Apart : ℕ → ℕ → Type 0
Apart k other = k ≡ other → ⊥

pub buffers_apart : (host : Host) (k : ℕ) (b : Buffer) (args : List HostArg) → All (Apart k) (named_buffers args) → byte_objects (record host { buffers = slice_set host.buffers k b }) args ≡ byte_objects host args
buffers_apart host k b [] h = refl
buffers_apart host k b (num n ∷ args) h = ap (λ (xs : List Object). bytes_object [] ∷ xs) (buffers_apart host k b args h)
buffers_apart host k b (flag t ∷ args) h = ap (λ (xs : List Object). bytes_object [] ∷ xs) (buffers_apart host k b args h)
buffers_apart host k b (io None ∷ args) h = ap (λ (xs : List Object). bytes_object [] ∷ xs) (buffers_apart host k b args h)
buffers_apart host k b (io (Some j) ∷ args) h =
    ap (λ (o : Option Buffer). bytes_object (option_map_or (λ c. c.cells) o []) ∷ byte_objects (record host { buffers = slice_set host.buffers k b }) args) (elsewhere host.buffers k j b (all_head (Apart k) j (named_buffers args) h))
    ∙ ap (λ (xs : List Object). bytes_object (option_map_or (λ c. c.cells) (slice_get host.buffers j) []) ∷ xs) (buffers_apart host k b args (all_tail (Apart k) j (named_buffers args) h))
buffers_apart host k b (bytes None ∷ args) h = ap (λ (xs : List Object). bytes_object [] ∷ xs) (buffers_apart host k b args h)
buffers_apart host k b (bytes (Some j) ∷ args) h = ap (λ (xs : List Object). bytes_object (option_map_or (λ them. them) (slice_get host.arrays j) []) ∷ xs) (buffers_apart host k b args h)

pub arrays_apart : (host : Host) (k : ℕ) (them : List ℕ) (args : List HostArg) → All (Apart k) (named_arrays args) → byte_objects (record host { arrays = slice_set host.arrays k them }) args ≡ byte_objects host args
arrays_apart host k them [] h = refl
arrays_apart host k them (num n ∷ args) h = ap (λ (xs : List Object). bytes_object [] ∷ xs) (arrays_apart host k them args h)
arrays_apart host k them (flag t ∷ args) h = ap (λ (xs : List Object). bytes_object [] ∷ xs) (arrays_apart host k them args h)
arrays_apart host k them (io None ∷ args) h = ap (λ (xs : List Object). bytes_object [] ∷ xs) (arrays_apart host k them args h)
arrays_apart host k them (io (Some j) ∷ args) h = ap (λ (xs : List Object). bytes_object (option_map_or (λ c. c.cells) (slice_get host.buffers j) []) ∷ xs) (arrays_apart host k them args h)
arrays_apart host k them (bytes None ∷ args) h = ap (λ (xs : List Object). bytes_object [] ∷ xs) (arrays_apart host k them args h)
arrays_apart host k them (bytes (Some j) ∷ args) h =
    ap (λ (o : Option (List ℕ)). bytes_object (option_map_or (λ them. them) o []) ∷ byte_objects (record host { arrays = slice_set host.arrays k them }) args) (elsewhere host.arrays k j them (all_head (Apart k) j (named_arrays args) h))
    ∙ ap (λ (xs : List Object). bytes_object (option_map_or (λ them. them) (slice_get host.arrays j) []) ∷ xs) (arrays_apart host k them args (all_tail (Apart k) j (named_arrays args) h))

others_stay : (host : Host) (arg : HostArg) (args : List HostArg) → AreDistinct (named_buffers (arg ∷ args)) → AreDistinct (named_arrays (arg ∷ args)) → byte_objects (lent_for arg host) args ≡ byte_objects host args
others_stay host (num n) args p q = refl
others_stay host (flag t) args p q = refl
others_stay host (io None) args p q = refl
others_stay host (io (Some k)) args p q = by_found (slice_get host.buffers k)
  where
    by_found : (found : Option Buffer) → byte_objects (option_map_or (λ b. record host { buffers = slice_set host.buffers k (lent_buffer b) }) found host) args ≡ byte_objects host args
    by_found None = refl
    by_found (Some b) = buffers_apart host k (lent_buffer b) args p.0
others_stay host (bytes None) args p q = refl
others_stay host (bytes (Some k)) args p q = arrays_apart host k [] args q.0

pub once_buffers : (arg : HostArg) (args : List HostArg) → AreDistinct (named_buffers (arg ∷ args)) → AreDistinct (named_buffers args)
once_buffers (num n) args p = p
once_buffers (flag t) args p = p
once_buffers (io None) args p = p
once_buffers (io (Some k)) args p = p.1
once_buffers (bytes name) args p = p

pub once_arrays : (arg : HostArg) (args : List HostArg) → AreDistinct (named_arrays (arg ∷ args)) → AreDistinct (named_arrays args)
once_arrays (num n) args p = p
once_arrays (flag t) args p = p
once_arrays (io name) args p = p
once_arrays (bytes None) args p = p
once_arrays (bytes (Some k)) args p = p.1

-- As many as before.
pub as_many : (host : Host) (arg : HostArg) → (length (lent_for arg host).buffers ≡ length host.buffers) × (length (lent_for arg host).arrays ≡ length host.arrays)
as_many host (num n) = (refl, refl)
as_many host (flag t) = (refl, refl)
as_many host (io None) = (refl, refl)
as_many host (io (Some k)) = by_found (slice_get host.buffers k)
  where
    by_found : (found : Option Buffer) → (length (option_map_or (λ b. record host { buffers = slice_set host.buffers k (lent_buffer b) }) found host).buffers ≡ length host.buffers)
        × (length (option_map_or (λ b. record host { buffers = slice_set host.buffers k (lent_buffer b) }) found host).arrays ≡ length host.arrays)
    by_found None = (refl, refl)
    by_found (Some b) = (length-set host.buffers k (lent_buffer b), refl)
as_many host (bytes None) = (refl, refl)
as_many host (bytes (Some k)) = (refl, length-set host.arrays k [])

-- The bytes of arguments are lent so far: memory and the host come to these.
pub record LendsOn (whole : Memory) (lent : Host) (now : Memory) (host : Host) (args : List HostArg) : Type 0 where
  pub memory : now ++ byte_objects host args ≡ whole
  pub comes : all_lent args host ≡ lent
  pub there : AreThere (length host.buffers) (length host.arrays) args
  pub buffers : AreDistinct (named_buffers args)
  pub arrays : AreDistinct (named_arrays args)

pub lends_one : (whole now later : Memory) (lent host after : Host) (arg : HostArg) (args : List HostArg) → LendsOn whole lent now host (arg ∷ args)
    → later ≡ now ++ bytes_object (arg_bytes host arg) ∷ [] → after ≡ lent_for arg host → LendsOn whole lent later after args
lends_one whole now later lent host after arg args l m h =
    subst (λ (x : Host). LendsOn whole lent later x args) (sym h) (record {
      memory = ap (λ (xs : Memory). later ++ xs) (others_stay host arg args l.buffers l.arrays) ∙ grows now later (bytes_object (arg_bytes host arg)) (byte_objects host args) whole l.memory m;
      comes = l.comes;
      there = subst (λ (n : ℕ). AreThere n (length (lent_for arg host).arrays) args) (sym (as_many host arg).0)
          (subst (λ (n : ℕ). AreThere (length host.buffers) n args) (sym (as_many host arg).1) l.there.1);
      buffers = once_buffers arg args l.buffers;
      arrays = once_arrays arg args l.arrays;
    })

pub lends_next : (whole now later : Memory) (lent host after : Host) (args : List Arg) (i : ℕ) (d : Arg) → i < length args → LendsOn whole lent now host (drop i (map arg_of args))
    → later ≡ now ++ bytes_object (arg_bytes host (arg_of (slice_index_or args i d))) ∷ [] → after ≡ lent_for (arg_of (slice_index_or args i d)) host → LendsOn whole lent later after (drop (i + 1) (map arg_of args))
lends_next whole now later lent host after args i d w l m h =
    lends_one whole now later lent host after (arg_of (slice_index_or args i d)) (drop (i + 1) (map arg_of args)) (subst (LendsOn whole lent now host) (next_arg args i d w) l) m h

pub next_is_there : (whole now : Memory) (lent host : Host) (args : List Arg) (i : ℕ) (d : Arg) → i < length args → LendsOn whole lent now host (drop i (map arg_of args)) → IsThere (length host.buffers) (length host.arrays) (arg_of (slice_index_or args i d))
next_is_there whole now lent host args i d w l = (subst (λ (xs : List HostArg). AreThere (length host.buffers) (length host.arrays) xs) (next_arg args i d w) l.there).0
