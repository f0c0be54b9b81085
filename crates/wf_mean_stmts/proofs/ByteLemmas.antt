-- Bytes that are added to those that a read has.
use Rattle.std.proofs.Common.{◌≡◌, ℕ, zero, suc, ◌+◌, ◌≤◌, List, [], ◌∷◌, ◌++◌, length, take, drop, min, refl, sym, ap, ◌∙◌, arith}
use Rattle.std.proofs.Math.Seq.{take-append-add, take-append_seam}
use Rattle.std.proofs.lemmas.List.{length-take-le}
use Rattle.wf_base.specs.BaseOps.{Buffer, overwritten, reader_length, taken}

take_of_take : (m n : ℕ) (xs : List ℕ) → take m (take n xs) ≡ take (min m n) xs
take_of_take zero n xs = let e : min 0 n ≡ 0 = omega arith in rw e refl
take_of_take (suc m) zero xs = let e : min (suc m) 0 ≡ 0 = omega arith in rw e refl
take_of_take (suc m) (suc n) [] = let e : min (suc m) (suc n) ≡ suc (min m n) = omega arith in rw e refl
take_of_take (suc m) (suc n) (x ∷ xs) = let e : min (suc m) (suc n) ≡ suc (min m n) = omega arith in rw e (ap (λ ys. x ∷ ys) (take_of_take m n xs))

front_of : (front more rest : List ℕ) (at n : ℕ) → length front ≡ at → length more ≡ n → take (at + n) (front ++ (more ++ rest)) ≡ front ++ more
front_of front more rest at n h k = rw (sym h, sym k) (take-append-add front (more ++ rest) (length more) ∙ ap (λ ys. front ++ ys) (take-append_seam more rest))

pub bytes_added : (had more new : List ℕ) (buffer : Buffer) (at n lacks : ℕ) → new ≡ overwritten at more had → more ≡ take n (drop buffer.ri buffer.cells) → n ≡ min lacks (reader_length buffer) → at ≤ length had → length more ≡ n
    → take (at + n) new ≡ take at had ++ taken lacks buffer
bytes_added had more new buffer at n lacks e m k le l =
    ap (take (at + n)) e ∙ front_of (take at had) more (drop (at + length more) had) at n (length-take-le at had le) l
    ∙ ap (λ ys. take at had ++ ys) (m ∙ ap (λ j. take j (drop buffer.ri buffer.cells)) k ∙ sym (take_of_take lacks (reader_length buffer) (drop buffer.ri buffer.cells)))
