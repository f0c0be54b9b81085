-- What arguments have left is taken back, one after the other.
use Rattle.std.proofs.Common.{◌≡◌, ℕ, zero, suc, ◌+◌, ◌<◌, ◌≤◌, Bool, true, false, List, [], ◌∷◌, length, map, take, drop, Option, Some, None, refl, sym, subst, ap, ◌∙◌, arith, length-set}
use Rattle.std.specs.Prelude.{slice_get, slice_set, option_map, option_and_then}
use Rattle.std.specs.Option.{option_map_or}
use Rattle.wf_text.specs.HostActions.{HostArg, num, flag, io, bytes}
use Rattle.wf_base.specs.BaseOps.{Buffer}
use Rattle.wf_base.specs.HostRun.{Host}
use Rattle.wf_base.specs.LawfulActions.{AreDistinct, named_buffers, named_arrays}
use Rattle.c_meaning.specs.CMemory.{Object, Memory}
use Rattle.c_meaning.specs.CRun.{bytes_object, byte_objects, arg_bytes, bytes_in, buffer_left, arg_left, args_left}
use Rattle.c_meaning.specs.Typed.{object_shape, shape_of}
use Rattle.c_step_hosts.specs.Lending.{IsThere, lent_buffer, lent_for, all_lent}
use Rattle.c_step_hosts.specs.Taking.{Gives, bytes_back, HasShape}
use Rattle.c_step_hosts.proofs.Lent.{buffers_apart, arrays_apart, as_many}
use Rattle.c_step_hosts.proofs.Taken.{same_buffer, same_bytes}
use Rattle.c_step_hosts.proofs.Around.{with_buffer, with_array, buffer_given, array_given}

found : {A : Type 0} (xs : List A) (k : ℕ) → k < length xs → (x : A) × (slice_get xs k ≡ Some x)
found [] k h = absurd (omega (arith, h))
found (x ∷ xs) zero h = (x, refl)
found (x ∷ xs) (suc k) h = found xs k (omega (arith, h))

all_as_many : (args : List HostArg) (host : Host) → (length (all_lent args host).buffers ≡ length host.buffers) × (length (all_lent args host).arrays ≡ length host.arrays)
all_as_many [] host = (refl, refl)
all_as_many (arg ∷ args) host = let r = all_as_many args (lent_for arg host) in (r.0 ∙ (as_many host arg).0, r.1 ∙ (as_many host arg).1)

-- One argument.
gives_mapped : {A B : Type 0} (f : A → B) (given : Option A) (result : Bool) (has : A → Type 0) (also : B → Type 0) → ((x : A) → has x → also (f x)) → Gives given result has → Gives (option_map f given) result also
gives_mapped f given true has also h g = (f g.0, ap (option_map f) g.1, h g.0 g.2)
gives_mapped f given false has also h g = ap (option_map f) g

pub gives_with : {A : Type 0} (given : Option A) (result : Bool) (has also : A → Type 0) → ((x : A) → has x → also x) → Gives given result has → Gives given result also
gives_with given true has also h g = (g.0, g.1, h g.0 g.2)
gives_with given false has also h g = g

pub buffer_back : (memory : Memory) (buffer object k : ℕ) (now after was : Host) (rest : List HostArg) (result : Bool) → k < length now.buffers → now ≡ all_lent (io (Some k) ∷ rest) was
    → AreDistinct (named_buffers (io (Some k) ∷ rest)) → HasShape memory object (arg_bytes was (io (Some k)))
    → ((b : Buffer) (o : Object) → slice_get memory object ≡ Some o → object_shape o ≡ object_shape (bytes_object b.cells) → Gives (buffer_left memory buffer object b) result (λ c. after ≡ with_buffer k c now))
    → Gives (arg_left memory buffer object (io (Some k)) was) result (λ left. after ≡ all_lent rest left)
buffer_back memory buffer object k now after was rest result within e once shape h =
    let many : length now.buffers ≡ length was.buffers = ap (λ (x : Host). length x.buffers) e ∙ (all_as_many (io (Some k) ∷ rest) was).0 in
    let f = found was.buffers k (omega (arith, within, many)) in
    with_it f.0 f.1
  where
    with_it : (b : Buffer) → slice_get was.buffers k ≡ Some b → Gives (arg_left memory buffer object (io (Some k)) was) result (λ left. after ≡ all_lent rest left)
    with_it b is =
        let lent : now ≡ all_lent rest (with_buffer k (lent_buffer b) was) = e ∙ ap (λ (o : Option Buffer). all_lent rest (option_map_or (λ c. with_buffer k (lent_buffer c) was) o was)) is in
        let shaped : object_shape shape.0 ≡ object_shape (bytes_object b.cells) = shape.2 ∙ ap (λ (o : Option Buffer). object_shape (bytes_object (option_map_or (λ c. c.cells) o []))) is in
        let back = gives_mapped (λ c. with_buffer k c was) (buffer_left memory buffer object b) result (λ c. after ≡ with_buffer k c now) (λ left. after ≡ all_lent rest left)
        (λ c g. g ∙ (ap (with_buffer k c) lent ∙ buffer_given was k (lent_buffer b) c rest once.0)) (h b shape.0 shape.1 shaped) in
        subst (λ (o : Option Buffer). Gives (option_and_then (λ w. option_map (λ c. with_buffer k c was) (buffer_left memory buffer object w)) o) result (λ left. after ≡ all_lent rest left)) (sym is) back

pub array_back : (memory : Memory) (buffer object k : ℕ) (now after was : Host) (rest : List HostArg) (result : Bool) → now ≡ all_lent (bytes (Some k) ∷ rest) was
    → AreDistinct (named_arrays (bytes (Some k) ∷ rest)) → HasShape memory object (arg_bytes was (bytes (Some k)))
    → ((b : List ℕ) (o : Object) → slice_get memory object ≡ Some o → object_shape o ≡ object_shape (bytes_object b) → Gives (bytes_in memory object) result (λ c. after ≡ with_array k c now))
    → Gives (arg_left memory buffer object (bytes (Some k)) was) result (λ left. after ≡ all_lent rest left)
array_back memory buffer object k now after was rest result e once shape h =
    gives_mapped (λ c. with_array k c was) (bytes_in memory object) result (λ c. after ≡ with_array k c now) (λ left. after ≡ all_lent rest left)
    (λ c g. g ∙ (ap (with_array k c) e ∙ array_given was k [] c rest once.0)) (h (arg_bytes was (bytes (Some k))) shape.0 shape.1 shape.2)

pub buffer_back_of : (memory : Memory) (buffer object k arrays : ℕ) (a : HostArg) (now after was : Host) (rest : List HostArg) (result : Bool) → a ≡ io (Some k) → IsThere (length now.buffers) arrays a → now ≡ all_lent (a ∷ rest) was
    → AreDistinct (named_buffers (a ∷ rest)) → HasShape memory object (arg_bytes was a)
    → ((b : Buffer) (o : Object) → slice_get memory object ≡ Some o → object_shape o ≡ object_shape (bytes_object b.cells) → Gives (buffer_left memory buffer object b) result (λ c. after ≡ with_buffer k c now))
    → Gives (arg_left memory buffer object a was) result (λ left. after ≡ all_lent rest left)
buffer_back_of memory buffer object k arrays a now after was rest result is there lent once shape h =
    let a1 : k < length now.buffers = subst (IsThere (length now.buffers) arrays) is there in
    let a2 : now ≡ all_lent (io (Some k) ∷ rest) was = subst (λ (x : HostArg). now ≡ all_lent (x ∷ rest) was) is lent in
    let a3 : AreDistinct (named_buffers (io (Some k) ∷ rest)) = subst (λ (x : HostArg). AreDistinct (named_buffers (x ∷ rest))) is once in
    let a4 : HasShape memory object (arg_bytes was (io (Some k))) = subst (λ (x : HostArg). HasShape memory object (arg_bytes was x)) is shape in
    subst (λ (x : HostArg). Gives (arg_left memory buffer object x was) result (λ left. after ≡ all_lent rest left)) (sym is) (buffer_back memory buffer object k now after was rest result a1 a2 a3 a4 h)

pub array_back_of : (memory : Memory) (buffer object k : ℕ) (a : HostArg) (now after was : Host) (rest : List HostArg) (result : Bool) → a ≡ bytes (Some k) → now ≡ all_lent (a ∷ rest) was
    → AreDistinct (named_arrays (a ∷ rest)) → HasShape memory object (arg_bytes was a)
    → ((b : List ℕ) (o : Object) → slice_get memory object ≡ Some o → object_shape o ≡ object_shape (bytes_object b) → Gives (bytes_in memory object) result (λ c. after ≡ with_array k c now))
    → Gives (arg_left memory buffer object a was) result (λ left. after ≡ all_lent rest left)
array_back_of memory buffer object k a now after was rest result is lent once shape h =
    let a2 : now ≡ all_lent (bytes (Some k) ∷ rest) was = subst (λ (x : HostArg). now ≡ all_lent (x ∷ rest) was) is lent in
    let a3 : AreDistinct (named_arrays (bytes (Some k) ∷ rest)) = subst (λ (x : HostArg). AreDistinct (named_arrays (x ∷ rest))) is once in
    let a4 : HasShape memory object (arg_bytes was (bytes (Some k))) = subst (λ (x : HostArg). HasShape memory object (arg_bytes was x)) is shape in
    subst (λ (x : HostArg). Gives (arg_left memory buffer object x was) result (λ left. after ≡ all_lent rest left)) (sym is) (array_back memory buffer object k now after was rest result a2 a3 a4 h)

-- What has been left for an argument.
abbrev pub LeftFor : HostArg → Host → Host → Type 0
LeftFor (num n) host left = left ≡ host
LeftFor (flag t) host left = left ≡ host
LeftFor (io None) host left = left ≡ host
LeftFor (io (Some k)) host left = (b : Buffer) × (left ≡ with_buffer k b host)
LeftFor (bytes None) host left = left ≡ host
LeftFor (bytes (Some k)) host left = (them : List ℕ) × (left ≡ with_array k them host)

pub left_for : (memory : Memory) (buffer object : ℕ) (arg : HostArg) (host left : Host) → arg_left memory buffer object arg host ≡ Some left → LeftFor arg host left
left_for memory buffer object (num n) host left e = sym (cc (e))
left_for memory buffer object (flag t) host left e = sym (cc (e))
left_for memory buffer object (io None) host left e = sym (cc (e))
left_for memory buffer object (io (Some k)) host left e = by_found (slice_get host.buffers k) e
  where
    by_left : (o : Option Buffer) → option_map (λ b. with_buffer k b host) o ≡ Some left → (b : Buffer) × (left ≡ with_buffer k b host)
    by_left None e = absurd (cc (e))
    by_left (Some b) e = (b, sym (cc (e)))

    by_found : (o : Option Buffer) → option_and_then (λ was. option_map (λ b. with_buffer k b host) (buffer_left memory buffer object was)) o ≡ Some left → (b : Buffer) × (left ≡ with_buffer k b host)
    by_found None e = absurd (cc (e))
    by_found (Some was) e = by_left (buffer_left memory buffer object was) e
left_for memory buffer object (bytes None) host left e = sym (cc (e))
left_for memory buffer object (bytes (Some k)) host left e = by_left (bytes_in memory object) e
  where
    by_left : (o : Option (List ℕ)) → option_map (λ them. with_array k them host) o ≡ Some left → (them : List ℕ) × (left ≡ with_array k them host)
    by_left None e = absurd (cc (e))
    by_left (Some them) e = (them, sym (cc (e)))

-- The bytes of the other arguments are the same.
pub others_left : (arg : HostArg) (args : List HostArg) (host left : Host) → LeftFor arg host left → AreDistinct (named_buffers (arg ∷ args)) → AreDistinct (named_arrays (arg ∷ args)) → byte_objects left args ≡ byte_objects host args
others_left (num n) args host left e p q = ap (λ (h : Host). byte_objects h args) e
others_left (flag t) args host left e p q = ap (λ (h : Host). byte_objects h args) e
others_left (io None) args host left e p q = ap (λ (h : Host). byte_objects h args) e
others_left (io (Some k)) args host left e p q = ap (λ (h : Host). byte_objects h args) e.1 ∙ buffers_apart host k e.0 args p.0
others_left (bytes None) args host left e p q = ap (λ (h : Host). byte_objects h args) e
others_left (bytes (Some k)) args host left e p q = ap (λ (h : Host). byte_objects h args) e.1 ∙ arrays_apart host k e.0 args q.0

-- Other arguments have the same left when an object's bytes are traded.
arg_stays : (memory : Memory) (traded buffer object : ℕ) (x : Object) (arg : HostArg) (host : Host) → (traded ≡ buffer → ⊥) → (traded ≡ object → ⊥) → arg_left (slice_set memory traded x) buffer object arg host ≡ arg_left memory buffer object arg host
arg_stays memory traded buffer object x (num n) host a b = refl
arg_stays memory traded buffer object x (flag t) host a b = refl
arg_stays memory traded buffer object x (io None) host a b = refl
arg_stays memory traded buffer object x (io (Some k)) host a b = by_found (slice_get host.buffers k)
  where
    by_found : (o : Option Buffer) → option_and_then (λ was. option_map (λ b. with_buffer k b host) (buffer_left (slice_set memory traded x) buffer object was)) o ≡ option_and_then (λ was. option_map (λ b. with_buffer k b host) (buffer_left memory buffer object was)) o
    by_found None = refl
    by_found (Some was) = ap (option_map (λ b. with_buffer k b host)) (same_buffer memory traded buffer object x was a b)
arg_stays memory traded buffer object x (bytes None) host a b = refl
arg_stays memory traded buffer object x (bytes (Some k)) host a b = ap (option_map (λ them. with_array k them host)) (same_bytes memory traded object x b)

args_stay : (memory : Memory) (traded buffer object : ℕ) (x : Object) (args : List HostArg) (host : Host) → buffer + length args ≤ traded → traded < object → args_left (slice_set memory traded x) buffer object args host ≡ args_left memory buffer object args host
args_stay memory traded buffer object x [] host a b = refl
args_stay memory traded buffer object x (arg ∷ args) host a b =
    ap (option_and_then (args_left (slice_set memory traded x) (buffer + 1) (object + 1) args)) (arg_stays memory traded buffer object x arg host (λ e. absurd (omega (arith, e, a))) (λ e. absurd (omega (arith, e, b))))
    ∙ by_left (λ left. args_stay memory traded (buffer + 1) (object + 1) x args left (omega (arith, a)) (omega (arith, b))) (arg_left memory buffer object arg host)
  where
    by_left : ((left : Host) → args_left (slice_set memory traded x) (buffer + 1) (object + 1) args left ≡ args_left memory (buffer + 1) (object + 1) args left) → (o : Option Host)
        → option_and_then (args_left (slice_set memory traded x) (buffer + 1) (object + 1) args) o ≡ option_and_then (args_left memory (buffer + 1) (object + 1) args) o
    by_left h None = refl
    by_left h (Some left) = h left

pub rest_stays : (memory : Memory) (buffer object : ℕ) (arg : HostArg) (args : List HostArg) (host : Host) → buffer + length args ≤ object → args_left (bytes_back arg memory object) buffer (object + 1) args host ≡ args_left memory buffer (object + 1) args host
rest_stays memory buffer object (num n) args host h = refl
rest_stays memory buffer object (flag t) args host h = refl
rest_stays memory buffer object (io None) args host h = refl
rest_stays memory buffer object (io (Some k)) args host h = args_stay memory object buffer (object + 1) (bytes_object []) args host h (omega arith)
rest_stays memory buffer object (bytes None) args host h = refl
rest_stays memory buffer object (bytes (Some k)) args host h = args_stay memory object buffer (object + 1) (bytes_object []) args host h (omega arith)

-- Memory but for the object whose bytes are traded.
above : {A B : Type 0} (f : A → B) (xs : List A) (n : ℕ) (x : A) → drop (suc n) (map f (slice_set xs n x)) ≡ drop (suc n) (map f xs)
above f [] n x = refl
above f (z ∷ zs) zero x = refl
above f (z ∷ zs) (suc n) x = above f zs n x

pub one_on : (n : ℕ) → suc n ≡ n + 1
one_on n = omega arith

pub below : {A : Type 0} (xs : List A) (n k : ℕ) (x : A) → n ≤ k → take n (slice_set xs k x) ≡ take n xs
below xs zero k x h = refl
below [] (suc n) k x h = refl
below (z ∷ zs) (suc n) zero x h = absurd (omega (arith, h))
below (z ∷ zs) (suc n) (suc k) x h = ap (λ xs. z ∷ xs) (below zs n k x (omega (arith, h)))

pub first_of : {A B : Type 0} (f : A → B) (xs : List A) (n : ℕ) (y : B) (ys : List B) → drop n (map f xs) ≡ y ∷ ys → ((x : A) × (slice_get xs n ≡ Some x) × (f x ≡ y)) × (drop (suc n) (map f xs) ≡ ys)
first_of f [] zero y ys e = absurd (cc (e))
first_of f [] (suc n) y ys e = absurd (cc (e))
first_of f (x ∷ xs) zero y ys e = ((x, refl, cc (e)), cc (e))
first_of f (x ∷ xs) (suc n) y ys e = first_of f xs n y ys e

pub above_back : (arg : HostArg) (memory : Memory) (n : ℕ) → drop (suc n) (shape_of (bytes_back arg memory n)) ≡ drop (suc n) (shape_of memory)
above_back (num n) memory k = refl
above_back (flag t) memory k = refl
above_back (io None) memory k = refl
above_back (io (Some j)) memory k = above object_shape memory k (bytes_object [])
above_back (bytes None) memory k = refl
above_back (bytes (Some j)) memory k = above object_shape memory k (bytes_object [])

pub below_back : (arg : HostArg) (memory : Memory) (n k : ℕ) → n ≤ k → take n (bytes_back arg memory k) ≡ take n memory
below_back (num m) memory n k h = refl
below_back (flag t) memory n k h = refl
below_back (io None) memory n k h = refl
below_back (io (Some j)) memory n k h = below memory n k (bytes_object []) h
below_back (bytes None) memory n k h = refl
below_back (bytes (Some j)) memory n k h = below memory n k (bytes_object []) h

pub as_long_back : (arg : HostArg) (memory : Memory) (k : ℕ) → length (bytes_back arg memory k) ≡ length memory
as_long_back (num m) memory k = refl
as_long_back (flag t) memory k = refl
as_long_back (io None) memory k = refl
as_long_back (io (Some j)) memory k = length-set memory k (bytes_object [])
as_long_back (bytes None) memory k = refl
as_long_back (bytes (Some j)) memory k = length-set memory k (bytes_object [])
