-- What one argument names is apart from what the others name: lending, and what is left of it.
use Rattle.std.proofs.Common.{◌≡◌, ℕ, zero, suc, List, [], ◌∷◌, Option, Some, None, refl, sym, ap, ◌∙◌, All}
use Rattle.std.specs.Prelude.{slice_get, slice_set}
use Rattle.std.specs.Option.{option_map_or}
use Rattle.wf_text.specs.HostActions.{HostArg, num, flag, io, bytes}
use Rattle.wf_base.specs.BaseOps.{Buffer}
use Rattle.wf_base.specs.HostRun.{Host}
use Rattle.wf_base.specs.LawfulActions.{named_buffers, named_arrays}
use Rattle.c_step_hosts.specs.Lending.{lent_buffer, lent_for, all_lent}
use Rattle.c_step_hosts.proofs.Lent.{Apart, elsewhere, all_head, all_tail}

pub set_twice : {A : Type 0} (xs : List A) (k : ℕ) (x y : A) → slice_set (slice_set xs k x) k y ≡ slice_set xs k y
set_twice [] k x y = refl
set_twice (z ∷ zs) zero x y = refl
set_twice (z ∷ zs) (suc k) x y = ap (λ xs. z ∷ xs) (set_twice zs k x y)

set_apart : {A : Type 0} (xs : List A) (i j : ℕ) (x y : A) → (i ≡ j → ⊥) → slice_set (slice_set xs i x) j y ≡ slice_set (slice_set xs j y) i x
set_apart [] i j x y h = refl
set_apart (z ∷ zs) zero zero x y h = absurd (h refl)
set_apart (z ∷ zs) zero (suc j) x y h = refl
set_apart (z ∷ zs) (suc i) zero x y h = refl
set_apart (z ∷ zs) (suc i) (suc j) x y h = ap (λ xs. z ∷ xs) (set_apart zs i j x y (λ e. h (ap suc e)))

abbrev pub with_buffer : ℕ → Buffer → Host → Host
with_buffer k b host = record host { buffers = slice_set host.buffers k b }

abbrev pub with_array : ℕ → List ℕ → Host → Host
with_array k them host = record host { arrays = slice_set host.arrays k them }

buffer_lent : (host : Host) (k j : ℕ) (b : Buffer) → (k ≡ j → ⊥) → lent_for (io (Some j)) (with_buffer k b host) ≡ with_buffer k b (lent_for (io (Some j)) host)
buffer_lent host k j b h =
    ap (λ (o : Option Buffer). option_map_or (λ c. with_buffer j (lent_buffer c) (with_buffer k b host)) o (with_buffer k b host)) (elsewhere host.buffers k j b h) ∙ by_found (slice_get host.buffers j)
  where
    by_found : (found : Option Buffer) → option_map_or (λ c. with_buffer j (lent_buffer c) (with_buffer k b host)) found (with_buffer k b host) ≡ with_buffer k b (option_map_or (λ c. with_buffer j (lent_buffer c) host) found host)
    by_found None = refl
    by_found (Some c) = ap (λ (bs : List Buffer). record host { buffers = bs }) (set_apart host.buffers k j b (lent_buffer c) h)

around_buffer : (host : Host) (k : ℕ) (b : Buffer) (args : List HostArg) → All (Apart k) (named_buffers args) → all_lent args (with_buffer k b host) ≡ with_buffer k b (all_lent args host)
around_buffer host k b [] h = refl
around_buffer host k b (num n ∷ args) h = around_buffer host k b args h
around_buffer host k b (flag t ∷ args) h = around_buffer host k b args h
around_buffer host k b (io None ∷ args) h = around_buffer host k b args h
around_buffer host k b (io (Some j) ∷ args) h =
    ap (all_lent args) (buffer_lent host k j b (all_head (Apart k) j (named_buffers args) h)) ∙ around_buffer (lent_for (io (Some j)) host) k b args (all_tail (Apart k) j (named_buffers args) h)
around_buffer host k b (bytes None ∷ args) h = around_buffer host k b args h
around_buffer host k b (bytes (Some j) ∷ args) h = around_buffer (with_array j [] host) k b args h

array_lent : (host : Host) (k j : ℕ) (them : List ℕ) → lent_for (io (Some j)) (with_array k them host) ≡ with_array k them (lent_for (io (Some j)) host)
array_lent host k j them = by_found (slice_get host.buffers j)
  where
    by_found : (found : Option Buffer) → option_map_or (λ c. with_buffer j (lent_buffer c) (with_array k them host)) found (with_array k them host) ≡ with_array k them (option_map_or (λ c. with_buffer j (lent_buffer c) host) found host)
    by_found None = refl
    by_found (Some c) = refl

around_array : (host : Host) (k : ℕ) (them : List ℕ) (args : List HostArg) → All (Apart k) (named_arrays args) → all_lent args (with_array k them host) ≡ with_array k them (all_lent args host)
around_array host k them [] h = refl
around_array host k them (num n ∷ args) h = around_array host k them args h
around_array host k them (flag t ∷ args) h = around_array host k them args h
around_array host k them (io None ∷ args) h = around_array host k them args h
around_array host k them (io (Some j) ∷ args) h = ap (all_lent args) (array_lent host k j them) ∙ around_array (lent_for (io (Some j)) host) k them args h
around_array host k them (bytes None ∷ args) h = around_array host k them args h
around_array host k them (bytes (Some j) ∷ args) h =
    ap (λ (xs : List (List ℕ)). all_lent args (record host { arrays = xs })) (set_apart host.arrays k j them [] (all_head (Apart k) j (named_arrays args) h))
    ∙ around_array (with_array j [] host) k them args (all_tail (Apart k) j (named_arrays args) h)

-- What was lent is given back while the bytes of others are lent.
pub buffer_given : (host : Host) (k : ℕ) (lent b : Buffer) (args : List HostArg) → All (Apart k) (named_buffers args) → with_buffer k b (all_lent args (with_buffer k lent host)) ≡ all_lent args (with_buffer k b host)
buffer_given host k lent b args h =
    ap (with_buffer k b) (around_buffer host k lent args h)
    ∙ (ap (λ (bs : List Buffer). record (all_lent args host) { buffers = bs }) (set_twice (all_lent args host).buffers k lent b) ∙ sym (around_buffer host k b args h))

pub array_given : (host : Host) (k : ℕ) (lent them : List ℕ) (args : List HostArg) → All (Apart k) (named_arrays args) → with_array k them (all_lent args (with_array k lent host)) ≡ all_lent args (with_array k them host)
array_given host k lent them args h =
    ap (with_array k them) (around_array host k lent args h)
    ∙ (ap (λ (xs : List (List ℕ)). record (all_lent args host) { arrays = xs }) (set_twice (all_lent args host).arrays k lent them) ∙ sym (around_array host k them args h))
