use Rattle.std.proofs.Common.{rules, ◌≡◌, ◌∙◌, ℕ, false, Option, sym, ap, arith, length, map, slice_set}
use Rattle.std.specs.Option.{option_map_or}
use Rattle.std.proofs.lemmas.List.{places}
use Rattle.c_meaning.specs.declared.cells.Cell.TheVariants.{Num as num}
use Rattle.c_meaning.specs.CMemory.{Object}
use Rattle.c_mem.specs.FieldParts.{has_bytes}
use Rattle.c_mem.specs.MemoryViews.{memory}
use Rattle.c_step_hosts.proofs.Taken.{nothing_left, no_bytes_there, taken_none, taken_gives}
use Rattle.c_step_hosts.proofs.taking.take_buffer.Goals as goal

pub returns-then-not-swap_bytes-clause-taken : goal.returns-then-not-swap_bytes-clause-taken
returns-then-not-swap_bytes-clause-taken c = λ was o e s.
    nothing_left (memory c.args.mem.now) c.args.io c.args.bytes was
    (no_bytes_there (memory c.args.mem.now) c.args.bytes o (length (map (λ (n : ℕ). num n) was.cells)) e s
    (sym (ap (λ (found : Option Object). option_map_or has_bytes found false) e) ∙ c.if-not-swap_bytes.ensures.trades.0))

pub returns-in_default-clause-taken : goal.returns-in_default-clause-taken
returns-in_default-clause-taken c = λ was o e s.
    let n : length c.swap_bytes.new.bytes.items ≡ c.len.result = search (rules, places) in
    taken_none (memory c.args.mem.now) (memory c.swap_bytes.new.self) c.args.io c.args.bytes was o c.swap_bytes.new.bytes.items c.clear.new.self.items
    (λ q. omega (arith, q, c.requires.apart)) e s c.if-not-swap_bytes.ensures.trades.0 c.if-not-swap_bytes.ensures.trades.1 (c.in_default.ensures c.swap_bytes.new.bytes.items n)

pub returns-clause-taken : goal.returns-clause-taken
returns-clause-taken c = λ was o e s.
    let n : length c.swap_bytes.new.bytes.items ≡ c.len.result = search (rules, places) in
    taken_gives (memory c.args.mem.now) (memory c.swap_bytes.new.self) c.args.io c.args.bytes was o c.swap_bytes.new.bytes.items c.clear.new.self.items
    (λ q. omega (arith, q, c.requires.apart)) e s c.if-not-swap_bytes.ensures.trades.0 c.if-not-swap_bytes.ensures.trades.1 c.in-Some.left c.give_buffer.result
    (λ b. c.give_buffer.new.bufs ≡ slice_set c.args.bufs.now c.args.k b) (c.in-Some.ensures c.swap_bytes.new.bytes.items n) c.give_buffer.ensures.lawful c.give_buffer.ensures.bufs
