-- Spans: the numbers from one end to another, both included. The search for the ends of `&` and `|` goes over spans of
-- numbers of k bits, from the highest bit down.
use Rattle.std.specs.Prelude.{ℕ, ◌-◌, ◌^◌, ◌<◌, ◌≤◌, ◌≡◌, min}
use Rattle.wf_num.specs.declared.spans.Span.{Span}

-- The numbers of a span with m taken off: those that have the bit m, without it.
abbrev pub above : ℕ → Span → Span
above m xs = record { lo = xs.lo - m; hi = xs.hi - m }

-- The numbers of a span that are below m.
abbrev pub below : ℕ → Span → Span
below m xs = record { lo = xs.lo; hi = min xs.hi (m - 1) }

-- The complements of a span's numbers in so many bits that their ones make the number `ones`.
abbrev pub complement : ℕ → Span → Span
complement ones xs = record { lo = ones - xs.hi; hi = ones - xs.lo }

-- A span that holds some number, and only numbers of k bits.
pub record OfBits (k : ℕ) (xs : Span) : Type 0 where
  pub some : xs.lo ≤ xs.hi
  pub fits : xs.hi < 2 ^ k

-- The span holds n.
pub record In (xs : Span) (n : ℕ) : Type 0 where
  pub from : xs.lo ≤ n
  pub to : n ≤ xs.hi

-- r is the greatest `op x y` for x and y of two spans: some x and y have it, and none have more.
pub record IsGreatest (op : ℕ → ℕ → ℕ) (xs ys : Span) (r : ℕ) : Type 0 where
  pub x : ℕ
  pub y : ℕ
  pub x_in : In xs x
  pub y_in : In ys y
  pub reached : op x y ≡ r
  pub over : (p q : ℕ) → In xs p → In ys q → op p q ≤ r

-- r is the least `op x y` for x and y of two spans.
pub record IsLeast (op : ℕ → ℕ → ℕ) (xs ys : Span) (r : ℕ) : Type 0 where
  pub x : ℕ
  pub y : ℕ
  pub x_in : In xs x
  pub y_in : In ys y
  pub reached : op x y ≡ r
  pub under : (p q : ℕ) → In xs p → In ys q → r ≤ op p q

-- m has one bit.
pub record IsBit (m : ℕ) : Type 0 where
  pub place : ℕ
  pub is : m ≡ 2 ^ place
