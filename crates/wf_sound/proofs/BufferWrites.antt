-- Buffers and elements that are written by base methods stay lawful, and lengths shrink by no more than is taken.
use Rattle.std.proofs.Common.{◌≡◌, ℕ, ◌+◌, ◌-◌, ◌^◌, ◌<◌, ◌≤◌, Bool, true, false, List, [], ◌∷◌, ◌++◌, length, take, drop, refl, sym, ◌∙◌, arith, length-append, length-take, length-drop}
use Rattle.std.specs.Prelude.{nat_lt, All}
use Rattle.std.proofs.lemmas.Bool.Decides.{nat_tests}
use Rattle.std.proofs.lemmas.List.Elements.{All-nil, All-cons, All-append, All-take, All-drop}
use Rattle.wf_base.specs.BaseOps.{Buffer, AreBytes, capacity, IsLawful, reader_length, writer_length, has_room, skipped, overwritten, appended, put, copied}

pub skipped-lawful : (n : ℕ) (b : Buffer) → IsLawful b → IsLawful (skipped n b)
skipped-lawful n b h = record { read = omega (arith, h.read); written = h.written; bytes = h.bytes; size = h.size; counted = h.counted }

pub length-overwritten : {X : Type 0} (at : ℕ) (bytes cells : List X) → at + length bytes ≤ length cells → length (overwritten at bytes cells) ≡ length cells
length-overwritten {X} at bytes cells h =
    length-append (take at cells) (bytes ++ drop (at + length bytes) cells) ∙ omega (arith, h, length-take {A = X} at cells, length-append bytes (drop (at + length bytes) cells), length-drop (at + length bytes) cells)

pub All-overwritten : {X : Type 0} (P : X → Type 0) (at : ℕ) (bytes cells : List X) → All P bytes → All P cells → All P (overwritten at bytes cells)
All-overwritten P at bytes cells h k =
    All-append P (take at cells) (bytes ++ drop (at + length bytes) cells) (All-take P at cells k) (All-append P bytes (drop (at + length bytes) cells) h (All-drop P (at + length bytes) cells k))

pub appended-lawful : (bytes : List ℕ) (b : Buffer) → b.wi + length bytes ≤ capacity b → AreBytes bytes → IsLawful b → IsLawful (appended bytes b)
appended-lawful bytes b h all k =
    let long : length (overwritten b.wi bytes b.cells) ≡ length b.cells = length-overwritten b.wi bytes b.cells h in
    record {
      read = omega (arith, k.read);
      written = omega (arith, h, long);
      bytes = All-overwritten (λ cell. cell < 2 ^ 8) b.wi bytes b.cells all k.bytes;
      size = omega (arith, k.size, long);
      counted = k.counted;
    }

-- Where there is room, the buffer is open and a cell is free.
pub room-open : (b : Buffer) → has_room b ≡ true → (b.closed ≡ false) × (b.wi + 1 ≤ capacity b)
room-open b h = by b.closed refl
  where
    by : (t : Bool) → b.closed ≡ t → (b.closed ≡ false) × (b.wi + 1 ≤ capacity b)
    by true e = let k : nat_lt 0 0 ≡ true = sym (rw e refl) ∙ h in absurd (cc (k))
    by false e = let k : nat_lt 0 (capacity b - b.wi) ≡ true = sym (rw e refl) ∙ h in (e, grind (arith, nat_tests, k))

pub one-byte : (byte : ℕ) → byte < 2 ^ 8 → AreBytes (byte ∷ [])
one-byte byte h = All-cons (λ cell. cell < 2 ^ 8) byte [] h (All-nil (λ cell. cell < 2 ^ 8))

pub put-lawful : (bytes : List ℕ) (b : Buffer) → AreBytes bytes → IsLawful b → IsLawful (put bytes b)
put-lawful bytes b all k = appended-lawful (take (writer_length b) bytes) b (by b.closed refl) (All-take (λ cell. cell < 2 ^ 8) (writer_length b) bytes all) k
  where
    by : (t : Bool) → b.closed ≡ t → b.wi + length (take (writer_length b) bytes) ≤ capacity b
    by true e =
        let n : writer_length b ≡ 0 = rw e refl in
        omega (arith, k.written, n, length-take (writer_length b) bytes)
    by false e =
        let n : writer_length b ≡ capacity b - b.wi = rw e refl in
        omega (arith, k.written, n, length-take (writer_length b) bytes)

-- Lengths.
pub reader-shrinks : (m : ℕ) (b : Buffer) → reader_length b ≤ reader_length (skipped m b) + m
reader-shrinks m b = omega arith

pub writer-shrinks : (byte : ℕ) (b : Buffer) → b.closed ≡ false → b.wi + 1 ≤ capacity b → writer_length b ≤ writer_length (appended (byte ∷ []) b) + 1
writer-shrinks byte b e h =
    let long : length (overwritten b.wi (byte ∷ []) b.cells) ≡ length b.cells = length-overwritten b.wi (byte ∷ []) b.cells h in
    let i : writer_length b ≡ capacity b - b.wi = rw e refl in
    let j : writer_length (appended (byte ∷ []) b) ≡ length (overwritten b.wi (byte ∷ []) b.cells) - (b.wi + 1) = rw e refl in
    omega (arith, i, j, long, h)

-- A copy between slices.
pub copied-length : (from count : ℕ) (source cells : List ℕ) → from + count ≤ length cells → length (copied from count source cells) ≡ length cells
copied-length from count source cells h = length-overwritten from (take count source) cells (omega (arith, h, length-take count source))

pub copied-all : (P : ℕ → Type 0) (from count : ℕ) (source cells : List ℕ) → All P source → All P cells → All P (copied from count source cells)
copied-all P from count source cells h k = All-overwritten P from (take count source) cells (All-take P count source h) k
