-- Objects that are kept again.
use Rattle.std.proofs.Common.{◌≡◌, ℕ, zero, suc, ◌+◌, ◌<◌, ◌≤◌, true, List, [], ◌∷◌, ◌++◌, length, Some, refl, sym, subst, ap, ◌∙◌, arith, length-append}
use Rattle.std.specs.Prelude.{reverse, slice_get}
use Rattle.std.proofs.lemmas.List.{append_assoc, append-nil, reverse-append}
use Rattle.c_meaning.specs.CMemory.{Object, Memory}
use Rattle.c_mem.specs.FieldParts.{has_bytes}
use Rattle.c_step_hosts.specs.Spares.{IsIo, AreIos, HaveBytes}
use Rattle.c_step_hosts.specs.Taking.{HaveBytesBetween}
use Rattle.c_step_hosts.specs.Leaving.{MovesLast, AreIosBetween}
use Rattle.c_step_hosts.proofs.Spared.{one_io_more, one_bytes_more}

one_first : (x : Object) (xs : List Object) → reverse (x ∷ xs) ≡ reverse xs ++ x ∷ []
one_first x xs = reverse-append (x ∷ []) xs

pub moved_more : (n m : ℕ) (first mid last : Memory) (a b c : List Object) → MovesLast n first mid a b → MovesLast m mid last b c → MovesLast (n + m) first last a c
moved_more n m first mid last a b c x y = record {
  them = y.them ++ x.them;
  cut = x.cut ∙ (ap (λ (xs : Memory). xs ++ x.them) y.cut ∙ append_assoc last y.them x.them);
  many = omega (arith, length-append y.them x.them, x.many, y.many);
  kept = y.kept ∙ (ap (λ (xs : List Object). xs ++ reverse y.them) x.kept ∙ (append_assoc a (reverse x.them) (reverse y.them) ∙ ap (λ (xs : List Object). a ++ xs) (sym (reverse-append y.them x.them))));
}

reversed_length : (xs : List Object) → length (reverse xs) ≡ length xs
reversed_length [] = refl
reversed_length (x ∷ xs) = omega (arith, ap (λ (ys : List Object). length ys) (one_first x xs), length-append (reverse xs) (x ∷ []), reversed_length xs)

pub moved_length : (n : ℕ) (old new : Memory) (a b : List Object) → MovesLast n old new a b → (length old ≡ length new + n) × (length b ≡ length a + n)
moved_length n old new a b x = (
  omega (arith, ap (λ (m : Memory). length m) x.cut, length-append new x.them, x.many),
  omega (arith, ap (λ (m : List Object). length m) x.kept, length-append a (reverse x.them), reversed_length x.them, x.many),
)

behind : (front rest : Memory) (k : ℕ) → slice_get (front ++ rest) (length front + k) ≡ slice_get rest k
behind [] rest k = ap (slice_get rest) (omega arith)
behind (x ∷ xs) rest k = ap (slice_get (x ∷ (xs ++ rest))) (more (length xs)) ∙ behind xs rest k
  where
    more : (n : ℕ) → suc n + k ≡ suc (n + k)
    more n = omega arith

in_front : (front rest : Memory) (k : ℕ) → k < length front → slice_get (front ++ rest) k ≡ slice_get front k
in_front [] rest k h = absurd (omega (arith, h))
in_front (x ∷ xs) rest zero h = refl
in_front (x ∷ xs) rest (suc k) h = in_front xs rest k (omega (arith, h))

ios_kept : (them spares : List Object) → ((k : ℕ) (o : Object) → k < length them → slice_get them k ≡ Some o → IsIo o) → AreIos spares → AreIos (spares ++ reverse them)
ios_kept [] spares h s = subst AreIos (sym (append-nil spares)) s
ios_kept (x ∷ xs) spares h s =
    subst AreIos (append_assoc spares (reverse xs) (x ∷ []) ∙ ap (λ (ys : List Object). spares ++ ys) (sym (one_first x xs)))
    (one_io_more (spares ++ reverse xs) x (ios_kept xs spares (λ k o l e. h (suc k) o (omega (arith, l)) e) s) (h 0 x (omega arith) refl))

bytes_kept : (them spares : List Object) → ((k : ℕ) (o : Object) → k < length them → slice_get them k ≡ Some o → has_bytes o ≡ true) → HaveBytes spares → HaveBytes (spares ++ reverse them)
bytes_kept [] spares h s = subst HaveBytes (sym (append-nil spares)) s
bytes_kept (x ∷ xs) spares h s =
    subst HaveBytes (append_assoc spares (reverse xs) (x ∷ []) ∙ ap (λ (ys : List Object). spares ++ ys) (sym (one_first x xs)))
    (one_bytes_more (spares ++ reverse xs) x (bytes_kept xs spares (λ k o l e. h (suc k) o (omega (arith, l)) e) s) (h 0 x (omega arith) refl))

pub moved_ios : (n from : ℕ) (old new : Memory) (a b : List Object) → MovesLast n old new a b → length old ≡ from + n → AreIosBetween from (from + n) old → AreIos a → AreIos b
moved_ios n from old new a b x e h s =
    let size : length new ≡ from = omega (arith, e, (moved_length n old new a b x).0) in
    subst AreIos (sym x.kept) (ios_kept x.them a (λ k o l f. h (length new + k) o (omega (arith, size)) (omega (arith, size, l, x.many)) (ap (λ (m : Memory). slice_get m (length new + k)) x.cut ∙ (behind new x.them k ∙ f))) s)

pub moved_bytes : (n from : ℕ) (old new : Memory) (a b : List Object) → MovesLast n old new a b → length old ≡ from + n → HaveBytesBetween from (from + n) old → HaveBytes a → HaveBytes b
moved_bytes n from old new a b x e h s =
    let size : length new ≡ from = omega (arith, e, (moved_length n old new a b x).0) in
    subst HaveBytes (sym x.kept) (bytes_kept x.them a (λ k o l f. h (length new + k) o (omega (arith, size)) (omega (arith, size, l, x.many)) (ap (λ (m : Memory). slice_get m (length new + k)) x.cut ∙ (behind new x.them k ∙ f))) s)

-- What stands at the front is as it was.
pub ios_stay : (n from to : ℕ) (old new : Memory) (a b : List Object) → MovesLast n old new a b → to ≤ length new → AreIosBetween from to old → AreIosBetween from to new
ios_stay n from to old new a b x l h = λ k o f t e. h k o f t (ap (λ (m : Memory). slice_get m k) x.cut ∙ (in_front new x.them k (omega (arith, t, l)) ∙ e))
