use Rattle.std.proofs.Common.{◌∙◌, ℕ, false, Option, sym, ap, length, map}
use Rattle.std.specs.Option.{option_map_or}
use Rattle.c_meaning.specs.declared.cells.Cell.TheVariants.{Num as num}
use Rattle.c_meaning.specs.CMemory.{Object}
use Rattle.c_mem.specs.FieldParts.{has_bytes}
use Rattle.c_mem.specs.MemoryViews.{memory}
use Rattle.c_step_hosts.proofs.Taken.{no_bytes_there}
use Rattle.c_step_hosts.proofs.taking.take_array.Goals as goal

pub returns-then-not-swap_bytes-clause-taken : goal.returns-then-not-swap_bytes-clause-taken
returns-then-not-swap_bytes-clause-taken c = λ was o e s.
    no_bytes_there (memory c.args.mem.now) c.args.bytes o (length (map (λ (n : ℕ). num n) was)) e s
    (sym (ap (λ (found : Option Object). option_map_or has_bytes found false) e) ∙ c.if-not-swap_bytes.ensures.trades.0)
