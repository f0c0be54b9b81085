-- A part of a list, cut at the list's end.
use Rattle.std.specs.Prelude.{ℕ, min}
use Rattle.c_step_text.specs.declared.text.Span.{Span}

abbrev pub cut_span : Span → (size : ℕ) → Span
cut_span span size = record { from = min span.from (min span.to size); to = min span.to size }
