-- Which methods may call which.
use Rattle.std.specs.Prelude.{Bool, true, false}
use Rattle.wf_base.specs.declared.marks.Mark.{Mark}
use Rattle.wf_base.specs.declared.marks.Mark.TheVariants.{Pure, Impure, Coroutine}

abbrev pub allows : (outer inner : Mark) → Bool
allows Pure Pure = true
allows Pure Impure = false
allows Pure Coroutine = false
allows Impure Pure = true
allows Impure Impure = true
allows Impure Coroutine = false
allows Coroutine Pure = true
allows Coroutine Impure = true
allows Coroutine Coroutine = true
