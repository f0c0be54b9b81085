-- One argument more of a call has come to stand in memory.
use Rattle.std.proofs.Common.{◌≡◌, ℕ, zero, suc, ◌+◌, ◌<◌, ◌≤◌, List, [], ◌∷◌, ◌++◌, length, map, drop, replicate, refl, sym, subst, ap, ◌∙◌, arith, slice_index_or, Some, None, length-append}
use Rattle.std.proofs.lemmas.List.{append_assoc, drop_more, drop-map}
use Rattle.wf_text.specs.HostActions.{HostArg, num, flag, io, bytes}
use Rattle.wf_bufs.specs.declared.calls.Arg.{Arg}
use Rattle.wf_bufs.specs.HostViews.{arg_of}
use Rattle.wf_base.specs.HostRun.{Host}
use Rattle.c_meaning.specs.CMemory.{Object, Memory}
use Rattle.c_meaning.specs.CRun.{no_buffer, io_object, io_objects, arg_bytes, slice_values, arg_values, all_values}
use Rattle.c_meaning.specs.declared.values.CValue.{CValue}
use Rattle.c_mem.proofs.Copies.{one_more}
use Rattle.c_mem.specs.declared.mem.Mem.{Mem}
use Rattle.c_mem.specs.MemoryViews.{HasRoom}
use Rattle.c_step_hosts.specs.Lending.{IsThere, AreThere}

pub less_room : (m : Mem) (k n : ℕ) → k ≤ n → HasRoom m n → HasRoom m k
less_room m k n h r = (omega (arith, h, r.0), omega (arith, h, r.1))

pub next_arg : (args : List Arg) (i : ℕ) (d : Arg) → i < length args → drop i (map arg_of args) ≡ arg_of (slice_index_or args i d) ∷ drop (i + 1) (map arg_of args)
next_arg args i d h = drop-map arg_of i args ∙ (ap (map arg_of) (drop_more args i d h) ∙ ap (λ (xs : List HostArg). arg_of (slice_index_or args i d) ∷ xs) (sym (drop-map arg_of (i + 1) args)))

pub no_args : (args : List Arg) (i : ℕ) → length args ≤ i → drop i (map arg_of args) ≡ []
no_args [] zero h = refl
no_args [] (suc i) h = refl
no_args (x ∷ xs) zero h = absurd (omega (arith, h))
no_args (x ∷ xs) (suc i) h = no_args xs i (omega (arith, h))

-- A list that grows by one at its end, of which the rest is still to come.
pub grows : {A : Type 0} (now later : List A) (x : A) (rest whole : List A) → now ++ (x ∷ rest) ≡ whole → later ≡ now ++ x ∷ [] → later ++ rest ≡ whole
grows now later x rest whole e h = ap (λ xs. xs ++ rest) h ∙ (append_assoc now (x ∷ []) rest ∙ e)

pub one_io : (host : Host) (now later : Memory) (object i : ℕ) (args : List Arg) (d : Arg) (whole : Memory) → i < length args
    → now ++ io_objects host object (drop i (map arg_of args)) ≡ whole → later ≡ now ++ io_object host object (arg_of (slice_index_or args i d)) ∷ []
    → later ++ io_objects host (object + 1) (drop (i + 1) (map arg_of args)) ≡ whole
one_io host now later object i args d whole h e l =
    grows now later (io_object host object (arg_of (slice_index_or args i d))) (io_objects host (object + 1) (drop (i + 1) (map arg_of args))) whole
    (ap (λ (xs : List HostArg). now ++ io_objects host object xs) (sym (next_arg args i d h)) ∙ e) l

pub next_there : (buffers arrays : ℕ) (args : List Arg) (i : ℕ) (d : Arg) → i < length args → AreThere buffers arrays (drop i (map arg_of args))
    → IsThere buffers arrays (arg_of (slice_index_or args i d)) × AreThere buffers arrays (drop (i + 1) (map arg_of args))
next_there buffers arrays args i d h t = subst (AreThere buffers arrays) (next_arg args i d h) t

-- An unset struct more.
pub one_other : (before now later : Memory) (object : Object) (k : ℕ) → now ≡ before ++ replicate k no_buffer → later ≡ now ++ object ∷ [] → object ≡ no_buffer → later ≡ before ++ replicate (k + 1) no_buffer
one_other before now later object k e l o =
    l ∙ (ap (λ (m : Memory). m ++ object ∷ []) e ∙ (ap (λ (x : Object). (before ++ replicate k no_buffer) ++ x ∷ []) o
    ∙ (append_assoc before (replicate k no_buffer) (no_buffer ∷ []) ∙ ap (λ (m : Memory). before ++ m) (one_more k no_buffer))))

-- The values of an argument more.
pub one_given : (host : Host) (now later : List CValue) (buffer object i : ℕ) (args : List Arg) (d : Arg) (whole : List CValue) → i < length args
    → now ++ all_values host buffer object (drop i (map arg_of args)) ≡ whole → later ≡ now ++ arg_values host buffer object (arg_of (slice_index_or args i d))
    → later ++ all_values host (buffer + 1) (object + 1) (drop (i + 1) (map arg_of args)) ≡ whole
one_given host now later buffer object i args d whole h e l =
    ap (λ (vs : List CValue). vs ++ all_values host (buffer + 1) (object + 1) (drop (i + 1) (map arg_of args))) l
    ∙ (append_assoc now (arg_values host buffer object (arg_of (slice_index_or args i d))) (all_values host (buffer + 1) (object + 1) (drop (i + 1) (map arg_of args)))
    ∙ (ap (λ (xs : List HostArg). now ++ all_values host buffer object xs) (sym (next_arg args i d h)) ∙ e))

two_values : (them : List ℕ) (object : ℕ) → length (slice_values them object) ≤ 2
two_values [] object = omega arith
two_values (x ∷ xs) object = omega arith

few_values : (host : Host) (io_object object : ℕ) (arg : HostArg) → length (arg_values host io_object object arg) ≤ 2
few_values host b o (num n) = omega arith
few_values host b o (flag t) = omega arith
few_values host b o (io None) = omega arith
few_values host b o (io (Some k)) = omega arith
few_values host b o (bytes name) = two_values (arg_bytes host (bytes name)) o

pub few_more : (host : Host) (b o : ℕ) (arg : HostArg) (now later : List CValue) (most : ℕ) → later ≡ now ++ arg_values host b o arg → length now ≤ most → length later ≤ most + 2
few_more host b o arg now later most e h = omega (arith, ap (λ (vs : List CValue). length vs) e, length-append now (arg_values host b o arg), few_values host b o arg, h)
