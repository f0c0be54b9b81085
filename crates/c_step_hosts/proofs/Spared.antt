-- One object more or less among those that are kept.
use Rattle.std.proofs.Common.{◌≡◌, ◌+◌, true, List, [], ◌∷◌, ◌++◌, length, refl, arith}
use Rattle.c_meaning.specs.CMemory.{Object}
use Rattle.c_mem.specs.FieldParts.{has_bytes}
use Rattle.c_step_hosts.specs.Spares.{IsIo, AreIos, HaveBytes}

pub one_longer : {A : Type 0} (xs : List A) (x : A) → length (xs ++ x ∷ []) ≡ length xs + 1
one_longer [] x = refl
one_longer (y ∷ ys) x = omega (arith, one_longer ys x)

pub last_io : (xs : List Object) (x : Object) → AreIos (xs ++ x ∷ []) → IsIo x × AreIos xs
last_io [] x h = (h.0, tt)
last_io (y ∷ ys) x h = let r = last_io ys x h.1 in (r.0, (h.0, r.1))

pub one_io_more : (xs : List Object) (x : Object) → AreIos xs → IsIo x → AreIos (xs ++ x ∷ [])
one_io_more [] x h e = (e, tt)
one_io_more (y ∷ ys) x h e = (h.0, one_io_more ys x h.1 e)

pub last_bytes : (xs : List Object) (x : Object) → HaveBytes (xs ++ x ∷ []) → (has_bytes x ≡ true) × HaveBytes xs
last_bytes [] x h = (h.0, tt)
last_bytes (y ∷ ys) x h = let r = last_bytes ys x h.1 in (r.0, (h.0, r.1))

pub one_bytes_more : (xs : List Object) (x : Object) → HaveBytes xs → has_bytes x ≡ true → HaveBytes (xs ++ x ∷ [])
one_bytes_more [] x h e = (e, tt)
one_bytes_more (y ∷ ys) x h e = (h.0, one_bytes_more ys x h.1 e)
